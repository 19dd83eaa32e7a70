-- The copies that a packet brings, frame by frame. This project's own.
use Rattle.std.specs.Prelude.{◌≡◌, ℕ, ◌+◌, ◌<◌, ◌++◌, cond, List, [], ◌∷◌, filter, length, map, ℤ, ◌≤ℤ◌, int_lt}
use Rattle.std.specs.List.{range_with_len}
use Rattle.amr_frame.specs.Cells.{frame_of}
use Rattle.amr_frame.specs.Frames.{Frame}
use Rattle.amr_frame.specs.declared.cell.Cell.{Cell}
use Rattle.amr_playout.specs.declared.merge.Merged.{Merged}
use Rattle.amr_playout.specs.declared.plan.Plan.{Plan}
use Rattle.amr_playout.specs.Plans.{rules_in}
use Rattle.amr_playout.specs.Ring.{IsPresentCell, IsRing}
use Rattle.amr_playout.specs.Window.{at, held_of, window_of}
use Rattle.circular_buffer.specs.Buffer.{Buffer}
use Rattle.spec_payload.specs.Values.{Value}
use Rattle.spec_session.specs.Copies.{Copy, copy_at, in_time}
use Rattle.spec_session.specs.Counts.{different}
use Rattle.spec_session.specs.Release.{least}
use Rattle.spec_session.specs.Session.{Accepted, Rules}

-- places of an accepted packet are in time where they stand past the edge
abbrev pub IsEdge : Rules → Accepted → ℤ → Type 0
IsEdge rules a edge = (q : ℤ) → a.place ≤ℤ q → in_time rules a q ≡ int_lt edge q

-- an accepted packet with this payload, at this place, whose places past the edge are in time
pub record IsPast (rules : Rules) (payload : Value) (place edge : ℕ) (a : Accepted) : Type 0 where
  pub value : a.packet.value ≡ payload
  pub here : a.place ≡ at place
  pub past : IsEdge rules a (at edge)

-- a copy past the edge
abbrev pub newly : ℤ → ℤ → ℕ → Frame → List Copy
newly edge place channel frame =
    cond (int_lt edge place) (record { place = place; channel = channel; frame = frame } ∷ []) []

-- the frame of a cell, where it stands past the edge
abbrev pub copy_past : ℕ → ℕ → ℕ → Cell → List Copy
copy_past edge place channel cell = newly (at edge) (at place) channel (frame_of cell)

-- the copies in time of the first n frames of an accepted packet
abbrev pub copies_to : Rules → Accepted → ℕ → List Copy
copies_to rules a n =
    filter (λ (c : Copy). in_time rules a c.place) (map (copy_at rules a) (range_with_len 0 n))

-- the cells of the ring are the best of these copies, for the window from a place on
abbrev pub HoldsBest : Plan → ℕ → Buffer Cell → List Copy → Type 0
HoldsBest plan base ring cs = held_of ring.items ≡ window_of (rules_in plan) cs (at base)

-- whatever copies the ring held the best of, it now holds the best of them and these
abbrev pub Merges : Plan → ℕ → Buffer Cell → Buffer Cell → List Copy → Type 0
Merges plan base old new ds =
    (cs : List Copy) → HoldsBest plan base old cs → HoldsBest plan base new (cs ++ ds)

-- a ring of the plan, and a frame for one of its channels
pub record CanMerge (plan : Plan) (ring : Buffer Cell) (channel : ℕ) (frame : Cell) : Type 0 where
  pub ringed : IsRing plan ring
  pub below : channel < plan.profile.channels
  pub valid : IsPresentCell plan.profile.codec frame

-- these copies were merged: next is their least place where that is before, those that came for a
-- place and channel that had one were counted, and the ring is still that of the plan
pub record TakesCopies (plan : Plan) (base : ℕ) (old new : Buffer Cell) (before after : Merged)
    (ds : List Copy) : Type 0 where
  pub merged : Merges plan base old new ds
  pub least_is : at after.next ≡ least (at before.next) ds
  pub counted : (cs : List Copy) → HoldsBest plan base old cs
      → different (cs ++ ds) + after.copies ≡ (different cs + length ds) + before.copies
  pub ringed : IsRing plan new

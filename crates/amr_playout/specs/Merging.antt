-- What merging the frames of a packet into the ring asks and does. This project's own.
use Rattle.std.specs.Prelude.{◌≡◌, ℕ, ◌+◌, ◌^◌, ◌<◌, ◌≤◌, ◌⊎◌, length}
use Rattle.amr_frame.specs.declared.cell.Cell.{Cell}
use Rattle.amr_playout.specs.Copied.{IsPast, TakesCopies}
use Rattle.amr_playout.specs.declared.merge.Merged.{Merged}
use Rattle.amr_playout.specs.declared.plan.Plan.{Plan}
use Rattle.amr_playout.specs.Heard.{IsReadBy}
use Rattle.amr_playout.specs.Plans.{rules_in}
use Rattle.amr_playout.specs.Ring.{IsRing}
use Rattle.amr_playout.specs.Standing.{IsFitting, last_from}
use Rattle.amr_toc.specs.declared.view.PayloadView.{PayloadView}
use Rattle.amr_toc.specs.Viewed.{viewed}
use Rattle.circular_buffer.specs.Buffer.{Buffer}
use Rattle.spec_session.specs.Copies.{copies_in}
use Rattle.spec_session.specs.Session.{Accepted}

-- the last frame of a packet stands in the window, and its first does, or past the edge none stands before it
pub record CanMergeAll (plan : Plan) (base edge place : ℕ) (payload : PayloadView) (cells : Buffer Cell) : Type 0 where
  pub ring : IsRing plan cells
  pub read : IsReadBy plan payload
  pub fitting : IsFitting plan (viewed payload)
  pub low : (base ≤ place) ⊎ (base ≤ edge + 1)
  pub high : last_from (rules_in plan) (viewed payload) place < base + plan.window
  pub small : base < 2 ^ 63

-- the frames of a packet that stand past the edge were merged
pub record MergesAll (plan : Plan) (base edge place : ℕ) (payload : PayloadView) (next : ℕ) (old new : Buffer Cell)
    (after : Merged) : Type 0 where
  pub merged : (a : Accepted) → IsPast (rules_in plan) (viewed payload) place edge a
      → TakesCopies plan base old new (record { next = next; copies = 0 }) after (copies_in (rules_in plan) a)
  pub few : after.copies ≤ length (viewed payload).frames
  pub ring : IsRing plan new

-- Lists of the same packets in another order and with other repeats, and what is asked of each of
-- them. This project's own.
use Rattle.std.specs.Prelude.{◌≡◌, ◌⊎◌, ◌*◌, ◌^◌, List, [], ◌∷◌, length}
use Rattle.std.specs.Prelude.{ℤ, pos, ◌-ℤ◌, ◌*ℤ◌, ◌<ℤ◌, ◌+ℤ◌}
use Rattle.std.specs.List.{AllByRecursion}
use Rattle.amr_frame.specs.Tables.{ticks}
use Rattle.spec_segments.specs.Counts.{late_count}
use Rattle.spec_segments.specs.Segments.{accepted}
use Rattle.spec_session.specs.Packets.{Packet}
use Rattle.spec_session.specs.Session.{Rules, Accepted, blocks_in}

-- x is one of the list
abbrev pub StandsIn : {X : Type 0} → X → List X → Type 0
StandsIn x [] = ⊥
StandsIn x (y ∷ ys) = (y ≡ x) ⊎ StandsIn x ys

-- each of the first list is one of the second
abbrev pub AllStandIn : {X : Type 0} → List X → List X → Type 0
AllStandIn xs ys = AllByRecursion (λ x. StandsIn x ys) xs

-- the same in any order and with any repeats
pub record HaveTheSame {X : Type 0} (xs ys : List X) : Type 0 where
  pub there : AllStandIn xs ys
  pub back : AllStandIn ys xs

-- the frames of a packet are whole blocks, as those of each payload of the format are
abbrev pub HasWholeBlocks : Rules → Packet → Type 0
HasWholeBlocks rules x = length x.value.frames ≡ blocks_in rules x.value * rules.channels

abbrev pub HaveWholeBlocks : Rules → List Packet → Type 0
HaveWholeBlocks rules h = AllByRecursion (HasWholeBlocks rules) h

-- from the least to the greatest place of accepted packets there are less than 2^31 ticks
abbrev pub IsNarrow : Rules → List Accepted → Type 0
IsNarrow rules acc = (a b : Accepted) → StandsIn a acc → StandsIn b acc
    → (pos (ticks rules.codec) *ℤ (a.place -ℤ b.place)) <ℤ pos (2 ^ 31)

-- each of the packets is accepted, so that no packet but the first begins a segment, and the places
-- span less than half a turn of the timestamps
pub record AllAccepted (rules : Rules) (h : List Packet) : Type 0 where
  pub all : length (accepted rules h) ≡ length h
  pub narrow : IsNarrow rules (accepted rules h)

-- so it is, and no block is late
pub record AllInTime (rules : Rules) (h : List Packet) : Type 0 where
  pub taken : AllAccepted rules h
  pub timely : late_count rules h ≡ 0

-- the places of the second list are those of the first moved by d
abbrev pub AreMovedBy : ℤ → List Accepted → List Accepted → Type 0
AreMovedBy d acc acc' = (a a' : Accepted) → StandsIn a acc → StandsIn a' acc'
    → a.packet ≡ a'.packet → a.place +ℤ d ≡ a'.place

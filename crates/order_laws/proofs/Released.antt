-- What is released of two lists of the same packets, where none of them is late, is the same.
use Rattle.std.proofs.Common.{◌≡◌, List, sym, ap, ◌∙◌, arith, ℤ, pos, ◌+ℤ◌, ◌-ℤ◌}
use Rattle.std.proofs.lemmas.Int.{ints}
use Rattle.order_laws.specs.Order.{AllInTime, AreMovedBy, HasWholeBlocks, HaveTheSame, HaveWholeBlocks, StandsIn}
use Rattle.order_laws.proofs.Members.{all_from, all_in}
use Rattle.order_laws.proofs.Copies.{Moves, copies_move}
use Rattle.order_laws.proofs.Moved.{released_alike}
use Rattle.order_laws.proofs.Places.{moved_alike, other}
use Rattle.order_laws.proofs.Standing.{are_the_packets, frame_in_time}
use Rattle.order_laws.proofs.Unbroken.{one_of_all}
use Rattle.segment_laws.proofs.Single.{same_accepted, same_released}
use Rattle.spec_segments.specs.Release.{released}
use Rattle.spec_segments.specs.Segments.{accepted}
use Rattle.spec_session.specs.Copies.{copies_of}
use Rattle.spec_session.specs.Packets.{Packet}
use Rattle.spec_session.specs.Release.{released_of}
use Rattle.spec_session.specs.Session.{Rules, Accepted}

released_by : (rules : Rules) (h : List Packet) → AllInTime rules h →
    released rules h ≡ released_of rules (copies_of rules (accepted rules h))
released_by rules h c =
    same_released rules h (one_of_all rules h c.taken.all)
    ∙ ap (λ acc. released_of rules (copies_of rules acc)) (sym (same_accepted rules h (one_of_all rules h c.taken.all)))

stepped_back : (p q d : ℤ) → p +ℤ d ≡ q → q +ℤ (pos 0 -ℤ d) ≡ p
stepped_back p q d e = omega (arith, ints)

moved_back : (d : ℤ) (acc acc' : List Accepted) → AreMovedBy d acc acc' → AreMovedBy (pos 0 -ℤ d) acc' acc
moved_back d acc acc' m a' a s' s e = stepped_back a.place a'.place d (m a a' s s' (sym e))

none_over : (d : ℤ) → d +ℤ (pos 0 -ℤ d) ≡ pos 0
none_over d = omega (arith, ints)

-- the copies of the first list, as many places later, stand in those of the second
copies_there : (rules : Rules) (h k : List Packet) (d : ℤ) → HaveTheSame h k → HaveWholeBlocks rules k → AllInTime rules h → AllInTime rules k →
    AreMovedBy d (accepted rules h) (accepted rules k) →
    Moves d (copies_of rules (accepted rules h)) (copies_of rules (accepted rules k))
copies_there rules h k d same w c c' m =
    copies_move rules d (accepted rules h) (accepted rules k) m
    (other (accepted rules h) (accepted rules k) h k (are_the_packets rules h c.taken) (are_the_packets rules k c'.taken) same.there)
    (frame_in_time rules k w c')

turned : (h k : List Packet) → HaveTheSame h k → HaveTheSame k h
turned h k same = record { there = same.back; back = same.there }

-- the packets of the second list have whole blocks too
whole_there : (rules : Rules) (h k : List Packet) → HaveTheSame h k → HaveWholeBlocks rules h → HaveWholeBlocks rules k
whole_there rules h k same w =
    all_from (HasWholeBlocks rules) k
    (λ x s. all_in (HasWholeBlocks rules) h x w (all_in (λ (y : Packet). StandsIn y h) k x same.back s))

pub same_release : (rules : Rules) (h k : List Packet) → HaveTheSame h k → HaveWholeBlocks rules h → AllInTime rules h → AllInTime rules k →
    released rules h ≡ released rules k
same_release rules h k same w c c' =
    let m = moved_alike rules h k same c.taken c'.taken in
    let e = pos 0 -ℤ m.0 in
    let back = moved_back m.0 (accepted rules h) (accepted rules k) m.1 in
    released_by rules h c
    ∙ released_alike rules (copies_of rules (accepted rules h)) (copies_of rules (accepted rules k)) m.0 e (none_over m.0)
    (copies_there rules h k m.0 same (whole_there rules h k same w) c c' m.1)
    (copies_there rules k h e (turned h k same) w c' c back)
    ∙ sym (released_by rules k c')

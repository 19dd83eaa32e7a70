-- The counts of a session of one segment.
use Rattle.std.proofs.Common.{◌≡◌, ℕ, List, [], ◌∷◌, ◌++◌, length, map, sum, ap, ◌∙◌, arith}
use Rattle.segment_laws.proofs.Single.{last_is, same_accepted, same_gone, same_released}
use Rattle.segment_laws.specs.One.{IsOneSegment, in_segments, in_session}
use Rattle.spec_segments.specs.Counts.{block_count, copy_count, late_count, repeats}
use Rattle.spec_segments.specs.Segments.{segments}
use Rattle.spec_session.specs.Copies.{copies_of}
use Rattle.spec_session.specs.Counts as session
use Rattle.spec_session.specs.Counts.{late_in}
use Rattle.spec_session.specs.Packets.{Packet}
use Rattle.spec_session.specs.Session.{Rules}

sum_of_one : (n : ℕ) → sum (n ∷ []) ≡ n
sum_of_one n = omega arith

same_late : (rules : Rules) (h : List Packet) → IsOneSegment rules h →
    late_count rules h ≡ session.late_count rules h
same_late rules h e = ap (λ acc. sum (map (late_in rules) acc)) (same_accepted rules h e)

pub same_copies : (rules : Rules) (h : List Packet) → IsOneSegment rules h →
    copy_count rules h ≡ session.copy_count rules h
same_copies rules h e =
    let s = segments rules h in
    ap (λ c. sum (map repeats (map (copies_of rules) (c ++ s.last ∷ [])))) e
    ∙ sum_of_one (repeats (copies_of rules s.last))
    ∙ ap (λ l. repeats (copies_of rules l)) (last_is rules h e)

same_blocks : (rules : Rules) (h : List Packet) → IsOneSegment rules h →
    block_count rules h ≡ session.block_count rules h
same_blocks rules h e = ap length (same_released rules h e)

pub same_reception : (rules : Rules) (h : List Packet) → IsOneSegment rules h →
    in_segments rules h ≡ in_session rules h
same_reception rules h e = λ i. record {
  accepted = same_accepted rules h e i;
  released = same_released rules h e i;
  gone = same_gone rules h e i;
  late = same_late rules h e i;
  copies = same_copies rules h e i;
  blocks = same_blocks rules h e i;
}

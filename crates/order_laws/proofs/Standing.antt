-- Where as many packets are accepted as there are, they are the accepted ones; where no block is late, no frame is.
use Rattle.std.proofs.Common.{◌≡◌, ℕ, zero, suc, ◌+◌, ◌*◌, ◌/◌, ◌<◌, ◌≤◌, Bool, true, false, List, [], ◌∷◌, ◌++◌, length}
use Rattle.std.proofs.Common.{sym, refl, ap, ◌∙◌, subst, arith, inl, inr}
use Rattle.std.specs.Prelude.{◌⊎◌, fold, not}
use Rattle.std.specs.List.{range_with_len, sum_by}
use Rattle.std.proofs.lemmas.List.{append-nil, append_assoc, length-append, length-map, map-append}
use Rattle.std.proofs.lemmas.List.Sums.{sum-map, sum_by-cons}
use Rattle.std.proofs.lemmas.Nat.{div_below}
use Rattle.order_laws.specs.Order.{AllAccepted, AllInTime, HasWholeBlocks, HaveWholeBlocks, StandsIn}
use Rattle.order_laws.proofs.Members.{all_in, in_map, in_range, none_kept}
use Rattle.order_laws.proofs.Unbroken.{one_of_all}
use Rattle.segment_laws.proofs.Alone.{accepts_it}
use Rattle.segment_laws.proofs.Single.{same_accepted}
use Rattle.segment_laws.specs.One.{packets}
use Rattle.spec_segments.specs.Segments.{accepted}
use Rattle.spec_session.specs.Copies.{in_time}
use Rattle.spec_session.specs.Counts.{late_in}
use Rattle.spec_session.specs.Packets.{Packet}
use Rattle.spec_session.specs.Session.{Rules, Accepted, Verdict, Accept, OtherSource, OffGrid, FarAhead}
use Rattle.spec_session.specs.Session.{block_place, blocks_in, taken, verdict, with_packet}

-- a packet gives none or itself
gives : (rules : Rules) (now : List Accepted) (x : Packet) (v : Verdict) → verdict rules now x ≡ v →
    (length (taken v) ≡ 0) ⊎ (packets (taken v) ≡ x ∷ [])
gives rules now x (Accept a) e = inr (ap (λ p. p ∷ []) (accepts_it rules now x a e))
gives rules now x (OtherSource kept got) e = inl refl
gives rules now x (OffGrid delta) e = inl refl
gives rules now x (FarAhead h last) e = inl refl

one_at_most : (x : Packet) (acc : List Accepted) → (length acc ≡ 0) ⊎ (packets acc ≡ x ∷ []) → length acc ≤ 1
one_at_most x acc (inl n) = omega arith
one_at_most x acc (inr o) = let k = ap length o in omega (arith, length-map acc (λ (a : Accepted). a.packet))

at_most : (rules : Rules) (now : List Accepted) (h : List Packet) →
    length (fold (with_packet rules) now h) ≤ length now + length h
at_most rules now [] = omega arith
at_most rules now (x ∷ h) =
    let t = taken (verdict rules now x) in
    let one = one_at_most x t (gives rules now x (verdict rules now x) refl) in
    let r = at_most rules (now ++ t) h in
    omega (arith, length-append now t)

-- where as many are accepted as there are, they are the packets
all_taken : (rules : Rules) (now : List Accepted) (h : List Packet) →
    length (fold (with_packet rules) now h) ≡ length now + length h →
    packets (fold (with_packet rules) now h) ≡ packets now ++ h
all_taken rules now [] e = sym (append-nil (packets now))
all_taken rules now (x ∷ h) e =
    let t = taken (verdict rules now x) in
    elim (gives rules now x (verdict rules now x) refl) [
      | inl n ↦ absurd (let r = at_most rules (now ++ t) h in omega (arith, length-append now t))
      | inr o ↦ (
          let k = ap length o in
          let one : length t ≡ 1 = omega (arith, length-map t (λ (a : Accepted). a.packet)) in
          all_taken rules (now ++ t) h (omega (arith, length-append now t))
          ∙ ap (λ q. q ++ h) (map-append (λ (a : Accepted). a.packet) now t ∙ ap (λ q. packets now ++ q) o)
          ∙ append_assoc (packets now) (x ∷ []) h)
    ]

pub are_the_packets : (rules : Rules) (h : List Packet) → AllAccepted rules h → packets (accepted rules h) ≡ h
are_the_packets rules h k =
    let same = same_accepted rules h (one_of_all rules h k.all) in
    ap packets same ∙ all_taken rules [] h (ap length (sym same) ∙ k.all ∙ omega arith)

-- a sum of 0 has no other part
no_part : {X : Type 0} (f : X → ℕ) (xs : List X) (x : X) → sum_by f xs ≡ 0 → StandsIn x xs → f x ≡ 0
no_part f [] x e s = absurd s
no_part f (y ∷ ys) x e (inl q) = ap f (sym q) ∙ (omega (arith, sum_by-cons f y ys))
no_part f (y ∷ ys) x e (inr s) = no_part f ys x (omega (arith, sum_by-cons f y ys)) s

was_true : (b : Bool) → not b ≡ false → b ≡ true
was_true true e = refl
was_true false e = absurd cc

block_in_time : (rules : Rules) (a : Accepted) (k : ℕ) → late_in rules a ≡ 0 → k < blocks_in rules a.packet.value →
    in_time rules a (block_place a k) ≡ true
block_in_time rules a k e l =
    let n = blocks_in rules a.packet.value in
    was_true (in_time rules a (block_place a k))
    (none_kept (λ j. not (in_time rules a (block_place a j))) (range_with_len 0 n) k e (in_range 0 n k (omega arith) (omega arith)))

-- frame i of whole blocks is of one of them
its_block : (frames blocks channels i : ℕ) → frames ≡ blocks * channels → i < frames → i / channels < blocks
its_block frames blocks zero i e l = absurd (grind arith)
its_block frames blocks (suc c) i e l = div_below i (suc c) blocks (omega arith) (omega (arith, e, l))

-- so no frame is late
pub frame_in_time : (rules : Rules) (h : List Packet) → HaveWholeBlocks rules h → AllInTime rules h → (a : Accepted) →
    StandsIn a (accepted rules h) → (i : ℕ) → i < length a.packet.value.frames →
    in_time rules a (block_place a (i / rules.channels)) ≡ true
frame_in_time rules h w k a s i l =
    let acc = accepted rules h in
    let late = no_part (late_in rules) acc a (sym (sum-map (late_in rules) acc) ∙ k.timely) s in
    let there : StandsIn a.packet h =
    subst (StandsIn a.packet) (are_the_packets rules h k.taken) (in_map (λ (b : Accepted). b.packet) acc a s) in
    let whole = all_in (HasWholeBlocks rules) h a.packet w there in
    block_in_time rules a (i / rules.channels) late
    (its_block (length a.packet.value.frames) (blocks_in rules a.packet.value) rules.channels i whole l)

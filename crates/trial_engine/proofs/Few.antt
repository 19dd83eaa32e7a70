-- No more packets are sent than there are blocks.
use Rattle.std.proofs.Common.{◌≡◌, ℕ, ◌+◌, ◌-◌, ◌*◌, ◌/◌, ◌≤◌, ◌<◌, Bool, true, false, cond, eqb, List, [], ◌∷◌, ◌++◌, length, map, refl, sym, ap, ◌∙◌, arith, append-nil}
use Rattle.std.proofs.lemmas.List.{length-append, length-map}
use Rattle.std.proofs.lemmas.List.FromFn.{length-enumerate_from, length-map-range_with_len}
use Rattle.std.proofs.lemmas.Nat.{div-add-mod', div_below, mul-le}
use Rattle.std.specs.List.{filter, range_with_len}
use Rattle.amr_frame.specs.Frames.{Frame}
use Rattle.sending_laws.proofs.Sound.{sound}
use Rattle.sending_laws.proofs.Staying.{begun_is_sent}
use Rattle.spec_sending.specs.Plans.{IsPlan}
use Rattle.spec_sending.specs.Portions.{grouped, piece_at, pieces, portions, rest_at, rests, turn_at, turns}
use Rattle.spec_sending.specs.Sending.{begun, is_sent, packet_of, sendings, sent}
use Rattle.spec_sending.specs.declared.plan.SendPlan.{SendPlan}

-- what is left of a list is no longer
left_few : {X : Type 0} (p : X → Bool) (xs : List X) → length (filter p xs) ≤ length xs
left_few p [] = omega arith
left_few p (x ∷ xs) = kept (p x) (left_few p xs)
  where
    kept : (b : Bool) → length (filter p xs) ≤ length xs → length (cond b (x ∷ filter p xs) (filter p xs)) ≤ length (x ∷ xs)
    kept true le = omega (arith, le)
    kept false le = omega (arith, le)

pieces_few : (n m : ℕ) → 1 ≤ n → pieces n m ≤ m
pieces_few n m some =
    let le = mul-le m 1 m n (omega arith) some in
    let more : m + n - 1 < (m + 1) * n = grind (arith, le) in
    let below = div_below (m + n - 1) n (m + 1) some more in
    omega (arith, below)

turns_few : (n l m : ℕ) → 1 ≤ n → m / (n * l) * l ≤ m / (n * l) * (n * l)
turns_few n l m some = mul-le (m / (n * l)) l (m / (n * l)) (n * l) (omega arith) (grind (arith, mul-le 1 l n l some (omega arith)))

grouped_few : (n m : ℕ) → m / n * n ≤ m
grouped_few n m = let parts = div-add-mod' m n in omega (arith, parts)

-- what packets carry
pub portions_few : (s : SendPlan) (m : ℕ) → 1 ≤ s.blocks → length (portions s m) ≤ m
portions_few s m some = either (eqb s.length 1)
  where
    single : length (map (piece_at s m) (range_with_len 0 (pieces s.blocks m))) ≤ m
    single = let n = length-map-range_with_len (piece_at s m) 0 (pieces s.blocks m) in
        let few = pieces_few s.blocks m some in omega (arith, n, few)

    several : length (turns s m ++ rests s m) ≤ m
    several = let both = length-append (turns s m) (rests s m) in
        let q = m / (s.blocks * s.length) * s.length in
        let r = pieces s.blocks (m - grouped s m) in
        let first = length-map-range_with_len (turn_at s) 0 q in
        let rest = length-map-range_with_len (rest_at s m) 0 r in
        let few = turns_few s.blocks s.length m some in
        let all = grouped_few (s.blocks * s.length) m in
        let more = pieces_few s.blocks (m - grouped s m) some in
        omega (arith, both, first, rest, few, all, more)

    either : (b : Bool) → length (cond b (map (piece_at s m) (range_with_len 0 (pieces s.blocks m))) (turns s m ++ rests s m)) ≤ m
    either true = single
    either false = several

-- what is sent for blocks
pub sent_few : (s : SendPlan) (b : List (List Frame)) → IsPlan s → length (sent s b) ≤ length b
sent_few s b plan =
    let all = length-map (sendings s b) (packet_of s b) in
    let numbers = length-enumerate_from 0 (filter (is_sent s b) (portions s (length b))) in
    let left = left_few (is_sent s b) (portions s (length b)) in
    let few = portions_few s (length b) (sound s plan).blocks in
    omega (arith, all, numbers, left, few)

-- what is begun for them
pub begun_few : (s : SendPlan) (b : List (List Frame)) → IsPlan s → length (begun s b) ≤ length b
begun_few s b plan =
    let front = begun_is_sent s b [] plan in
    let same = append-nil b in
    let all : sent s b ≡ begun s b ++ front.0 = ap (sent s) (sym same) ∙ front.1 in
    let longer = ap length all ∙ length-append (begun s b) front.0 in
    let few = sent_few s b plan in
    omega (arith, longer, few)

-- nothing is begun for no block
pub none_begun : (s : SendPlan) → IsPlan s → begun s [] ≡ []
none_begun s plan = nothing (begun s []) (begun_few s [] plan)
  where
    nothing : {X : Type 0} (xs : List X) → length xs ≤ 0 → xs ≡ []
    nothing [] le = refl
    nothing (x ∷ xs) le = absurd (omega (arith, le))

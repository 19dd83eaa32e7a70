-- What a write of padding leaves.
use Rattle.std.proofs.Common.{◌≡◌, ℕ, ◌+◌, ◌-◌, List, [], ◌∷◌, ◌++◌, length, take, drop, set, replicate, get_or, nat_eq, cond, false, sym, ap, ◌∙◌, arith}
use Rattle.std.proofs.lemmas.Bool.Decides.{nat_tests}
use Rattle.std.proofs.lemmas.List.{append_assoc, set_at, drop_more, drop_all, drop-drop, length-replicate, length-take-le, length-append}
use Rattle.rtp_packet.specs.Written.{padding_octets}

-- zeros, and the number of padding octets in the last place
pub padded_set : (out f : List ℕ) (at k last p : ℕ) → at + p ≡ length out → (p ≡ 0 → ⊥) → k ≡ length out - 1 - at → last ≡ length out - 1 → f ≡ replicate k 0 → set (take at out ++ (f ++ drop k (drop at out))) last p ≡ take at out ++ padding_octets p
padded_set out f at k last p e pos ek el ef =
    let some : nat_eq p 0 ≡ false = grind (arith, nat_tests) in
    let size : length (take at out) ≡ at = length-take-le at out (omega arith) in
    let here : at + k ≡ last = omega arith in
    let rest : drop k (drop at out) ≡ get_or out last 0 ∷ [] =
    drop-drop k at out ∙ ap (λ (n : ℕ). drop n out) here ∙ drop_more out last 0 (omega arith) ∙ ap (λ xs. get_or out last 0 ∷ xs) (drop_all (last + 1) out (omega arith)) in
    let zeros : length f ≡ k = ap length ef ∙ length-replicate k 0 in
    let front : length (take at out ++ f) ≡ last = length-append (take at out) f ∙ omega arith in
    let count : k ≡ p - 1 = omega arith in
    ap (λ xs. set (take at out ++ (f ++ xs)) last p) rest
    ∙ ap (λ xs. set xs last p) (sym (append_assoc (take at out) f (get_or out last 0 ∷ [])))
    ∙ set_at (take at out ++ f) (get_or out last 0) [] p last front
    ∙ append_assoc (take at out) f (p ∷ [])
    ∙ ap (λ xs. take at out ++ (xs ++ p ∷ [])) (ef ∙ ap (λ (n : ℕ). replicate n 0) count)
    ∙ ap (λ b. take at out ++ cond b [] (replicate (p - 1) 0 ++ p ∷ [])) (sym some)

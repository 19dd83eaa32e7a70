-- Pieces of lists of octets: what is written from the front, given from the front, or moved to the front.
use Rattle.std.proofs.Common.{◌≡◌, ℕ, zero, suc, ◌+◌, ◌-◌, ◌<◌, ◌≤◌, List, [], ◌∷◌, ◌++◌, refl, length, take, drop, sym, subst, ap, ◌∙◌, arith, length-drop, take-append-drop, length-take}
use Rattle.std.proofs.lemmas.List.{take_at, take_rest, drop-take, drop-drop, length-take-le}
use Rattle.std.proofs.Math.Seq.{take-add}
use Rattle.std.specs.Prelude.{Option, slice_range}
use Rattle.std.specs.Io.KnownBytes.{Appends}
use Rattle.std.proofs.KnownBytes.{Appends-trans}

-- what was appended from the front of a piece, and then from its rest, is a longer front
pub appends_front : (a b c : Option (List ℕ)) (bytes : List ℕ) (done n : ℕ) → Appends a b (take done bytes)
    → Appends b c (take n (take (length bytes - done) (drop done bytes))) → Appends a c (take (done + n) bytes)
appends_front a b c bytes done n first second =
    let whole : take done bytes ++ take n (take (length bytes - done) (drop done bytes)) ≡ take (done + n) bytes =
    ap (λ l. take done bytes ++ take n l) (take_rest bytes done) ∙ sym (take-add done n bytes) in
    subst (Appends a c) whole (Appends-trans a b c _ _ first second)

-- the front of what is left was given, and the rest is left
pub gives_front : (items given rest : List ℕ) (read n : ℕ) → given ≡ take n (drop read items) → n ≤ length (drop read items)
    → drop read items ≡ take n (given ++ rest) ++ drop (read + n) items
gives_front items given rest read n is fits =
    let size : length given ≡ n = ap length is ∙ length-take-le n (drop read items) fits in
    sym (take-append-drop n (drop read items))
    ∙ ap (λ l. l ++ drop n (drop read items)) (sym is ∙ sym (take_at given rest n size))
    ∙ ap (λ l. take n (given ++ rest) ++ l) (drop-drop n read items)

-- the front of a slice from an index on is the front of what is left
pub front_of_rest : (given items now : List ℕ) (read n : ℕ) → given ≡ take n (take (length now - read) (drop read now)) → now ≡ items
    → given ≡ take n (drop read items)
front_of_rest given items now read n is same = is ∙ ap (take n) (take_rest now read ∙ ap (drop read) same)

-- a list of no length is empty
pub empty_from_length : (l : List ℕ) → length l ≡ 0 → l ≡ []
empty_from_length [] h = refl
empty_from_length (x ∷ l) h = cc

-- a part without its first n octets is the part from n further on
pub drop_of_part : (xs : List ℕ) (i j n : ℕ) → n + i ≤ j → drop n (slice_range xs i j) ≡ slice_range xs (i + n) j
drop_of_part xs i j n fits =
    let split : j - i ≡ n + (j - (i + n)) = omega arith in
    ap (λ m. drop n (take m (drop i xs))) split ∙ drop-take n (j - (i + n)) (drop i xs) ∙ ap (take (j - (i + n))) (drop-drop n i xs)

-- the octets held stand at the front, and what was read stands behind them
pub held_and_read : (room before held : List ℕ) (at n : ℕ) → take at room ≡ take at before → take at before ≡ held
    → slice_range room 0 (at + n) ≡ held ++ slice_range room at (at + n)
held_and_read room before held at n same is =
    let whole : (at + n) - 0 ≡ at + n = omega arith in
    let rest : (at + n) - at ≡ n = omega arith in
    ap (λ m. take m (drop 0 room)) whole ∙ take-add at n room ∙ ap (λ l. l ++ take n (drop at room)) (same ∙ is)
    ∙ ap (λ m. held ++ take m (drop at room)) (sym rest)

-- a part within the room has the length that its ends say
pub length_of_part : (room : List ℕ) (at n : ℕ) → at + n ≤ length room → length (slice_range room at (at + n)) ≡ n
length_of_part room at n fits = omega (arith, length-take {A = ℕ}, length-drop {A = ℕ})

-- what a piece of a head and the front of a body has behind its first octets is a part of the body
pub rest_of_headed : (head : ℕ) (body : List ℕ) (count done : ℕ) → 0 < done → done ≤ count
    → slice_range body (done - 1) count ≡ drop done (head ∷ take count body)
rest_of_headed head body count zero some fits = absurd (omega (arith, some))
rest_of_headed head body count (suc d) some fits =
    let one : suc d - 1 ≡ d = omega arith in
    let whole : d + (count - d) ≡ count = omega (arith, fits) in
    ap (λ i. slice_range body i count) one
    ∙ sym (drop-take d (count - d) body) ∙ ap (λ m. drop d (take m body)) whole

-- what was appended from the front of a text, and then of what stands behind it, is a longer front
pub appends_more : (a b c : Option (List ℕ)) (text rest : List ℕ) (done n : ℕ) → rest ≡ drop done text
    → Appends a b (take done text) → Appends b c (take n rest) → Appends a c (take (done + n) text)
appends_more a b c text rest done n is first second =
    subst (Appends a c) (ap (λ l. take done text ++ take n l) is ∙ sym (take-add done n text))
    (Appends-trans a b c _ _ first second)

-- and with all that stands behind it, it is the text
pub appends_all : (a b c : Option (List ℕ)) (text rest : List ℕ) (done : ℕ) → rest ≡ drop done text
    → Appends a b (take done text) → Appends b c rest → Appends a c text
appends_all a b c text rest done is first second =
    subst (Appends a c) (ap (λ l. take done text ++ l) is ∙ take-append-drop done text)
    (Appends-trans a b c _ _ first second)

-- and that front is shorter than the text where it is shorter than what stands there
pub headed_part : (text rest : List ℕ) (done n : ℕ) → rest ≡ drop done text → done ≤ length text → n < length rest
    → done + n < length text
headed_part text rest done n is fits part = omega (arith, ap length is, fits, part, length-drop {A = ℕ})

-- Blocks in front of those at the end that are NO_DATA.
use Rattle.std.proofs.Common.{◌≡◌, ℕ, zero, suc, ◌+◌, ◌-◌, ◌<◌, ◌≤◌, Bool, true, false, List, [], ◌∷◌, length, take, drop, get_or, refl, ap, ◌∙◌, sym, arith}
use Rattle.std.specs.Prelude.{◌&&◌, nat_eq}
use Rattle.std.specs.List.{list_all, suffix_len}
use Rattle.std.proofs.lemmas.List.{take_all, drop_all}
use Rattle.std.proofs.lemmas.List.Sums.{suffix_len-take_no, suffix_len-take_yes}
use Rattle.amr_frame.specs.Frames.{Frame}
use Rattle.spec_sending.specs.Sending.{block_of, is_empty, trimmed}

all_behind : {X : Type 0} (p : X → Bool) (xs : List X) (n : ℕ) (d : X) → n < length xs → p (get_or xs n d) ≡ true
    → list_all p (drop (suc n) xs) ≡ true → list_all p (drop n xs) ≡ true
all_behind p [] n d lt e h = absurd (omega (arith, lt))
all_behind p (x ∷ xs) zero d lt e h = ap (λ v. v && list_all p xs) e ∙ h
all_behind p (x ∷ xs) (suc n) d lt e h = all_behind p xs n d (omega (arith, lt)) e h

and_false : (v : Bool) → (v && false) ≡ false
and_false true = refl
and_false false = refl

one_not : {X : Type 0} (p : X → Bool) (xs : List X) (n : ℕ) (d : X) → n < length xs → p (get_or xs n d) ≡ false
    → list_all p xs ≡ false
one_not p [] n d lt e = absurd (omega (arith, lt))
one_not p (x ∷ xs) zero d lt e = ap (λ v. v && list_all p xs) e
one_not p (x ∷ xs) (suc n) d lt e = ap (λ v. p x && v) (one_not p xs n d (omega (arith, lt)) e) ∙ and_false (p x)

-- the blocks from `count` on are NO_DATA
pub record Trailing (held : List (List Frame)) (count : ℕ) : Type 0 where
  pub most : count ≤ length held
  pub suffix : suffix_len is_empty held ≡ length held - count + suffix_len is_empty (take count held)
  pub behind : list_all is_empty (drop count held) ≡ true

pub trailing_none : (held : List (List Frame)) (count : ℕ) → count ≡ length held → Trailing held count
trailing_none held count is =
    let all : take count held ≡ held = take_all count held (omega (arith, is)) in
    let none : length held - count ≡ 0 = omega (arith, is) in
    record {
      most = omega (arith, is);
      suffix = (let e : suffix_len is_empty held ≡ 0 + suffix_len is_empty held = omega arith in e)
          ∙ (λ i. sym none i + suffix_len is_empty (sym all i));
      behind = ap (list_all is_empty) (drop_all count held (omega (arith, is)));
    }

pub trailing_more : (held : List (List Frame)) (count : ℕ) → 0 < count → is_empty (block_of held (count - 1)) ≡ true
    → Trailing held count → Trailing held (count - 1)
trailing_more held count some e t =
    let most = t.most in
    let was = t.suffix in
    let yes = suffix_len-take_yes is_empty held count [] some most e in
    let next : count ≡ suc (count - 1) = omega (arith, some) in
    record {
      most = omega (arith, most);
      suffix = omega (arith, was, yes, some, most);
      behind = all_behind is_empty held (count - 1) [] (omega (arith, some, most)) e
          (ap (λ k. list_all is_empty (drop k held)) (sym next) ∙ t.behind);
    }

-- the last of them is found, or there is none
pub trimmed_at : (held : List (List Frame)) (count : ℕ) → 0 < count → is_empty (block_of held (count - 1)) ≡ false
    → Trailing held count → trimmed held ≡ take count held
trimmed_at held count some e t =
    let most = t.most in
    let was = t.suffix in
    let no = suffix_len-take_no is_empty held count [] some most e in
    ap (λ k. take k held) (let z : length held - suffix_len is_empty held ≡ count = omega (arith, was, no, most) in z)

pub some_at : (held : List (List Frame)) (count : ℕ) → 0 < count → is_empty (block_of held (count - 1)) ≡ false
    → Trailing held count → list_all is_empty held ≡ nat_eq count 0
some_at held count some e t =
    let most = t.most in
    one_not is_empty held (count - 1) [] (omega (arith, some, most)) e
    ∙ (let z : false ≡ nat_eq count 0 = grind (arith, some) in z)

pub trimmed_none : (held : List (List Frame)) (count : ℕ) → count ≡ 0 → Trailing held count → trimmed held ≡ take count held
trimmed_none held count none t =
    let was = t.suffix in
    ap (λ k. take k held) (let z : length held - suffix_len is_empty held ≡ count = omega (arith, was, none) in z)

pub none_at : (held : List (List Frame)) (count : ℕ) → count ≡ 0 → Trailing held count → list_all is_empty held ≡ nat_eq count 0
none_at held count none t =
    ap (λ k. list_all is_empty (drop k held)) (sym none) ∙ t.behind
    ∙ (let z : true ≡ nat_eq count 0 = grind (arith, none) in z)

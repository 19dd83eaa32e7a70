-- All modes of a codec are wanted where each of them is.
use Rattle.std.proofs.Common.{◌≡◌, ◌&&◌, ℕ, Bool, true, false, cond, List, [], ◌∷◌, refl, sym, ◌∙◌, ap}
use Rattle.std.specs.Prelude.{bytes_eq}
use Rattle.std.specs.List.{filter, list_all}
use Rattle.std.proofs.lemmas.Slice.Eq.{bytes_eq-Decides}
use Rattle.amr_frame.specs.declared.codec.Codec.{Codec}
use Rattle.amr_frame.specs.declared.codec.Codec.TheVariants.{Amr, AmrWb}
use Rattle.spec_modes.specs.ModeSets.{IsModeSet, all_modes, has, within}

filter_all : {X : Type 0} (f : X → Bool) (xs : List X) → list_all f xs ≡ true → filter f xs ≡ xs
filter_all f [] all = refl
filter_all f (x ∷ xs) all =
    elim (f x) as (λ v. (v && list_all f xs) ≡ true → cond v (x ∷ filter f xs) (filter f xs) ≡ x ∷ xs) [
      | true ↦ λ h. ap (λ r. x ∷ r) (filter_all f xs h)
      | false ↦ λ h. absurd cc
    ] all

within_itself : (codec : Codec) → within (all_modes codec) (all_modes codec) ≡ true
within_itself Amr = refl
within_itself AmrWb = refl

all_by : (codec : Codec) (modes : List ℕ) → IsModeSet codec modes → within (all_modes codec) modes ≡ true
    → bytes_eq modes (all_modes codec) ≡ true
all_by codec modes is all = (bytes_eq-Decides modes (all_modes codec)).1
    (sym is.rising ∙ filter_all (has modes) (all_modes codec) all)

by_all : (codec : Codec) (modes : List ℕ) → bytes_eq modes (all_modes codec) ≡ true
    → within (all_modes codec) modes ≡ true
by_all codec modes same = ap (within (all_modes codec)) ((bytes_eq-Decides modes (all_modes codec)).0 same)
    ∙ within_itself codec

same_test : (a b : Bool) → (a ≡ true → b ≡ true) → (b ≡ true → a ≡ true) → a ≡ b
same_test true b to back = sym (to refl)
same_test false true to back = back refl
same_test false false to back = refl

pub all_wanted : (codec : Codec) (modes : List ℕ) → IsModeSet codec modes
    → within (all_modes codec) modes ≡ bytes_eq modes (all_modes codec)
all_wanted codec modes is = same_test (within (all_modes codec) modes) (bytes_eq modes (all_modes codec))
    (all_by codec modes is) (by_all codec modes)

-- Two orders for which all that the laws ask holds.
use Rattle.std.proofs.Common.{◌≡◌, ◌^◌, List, [], ◌∷◌, map, sym, refl, subst, arith, inl, inr, ℤ, pos, negsuc, ◌-ℤ◌, ◌*ℤ◌}
use Rattle.std.specs.Prelude.{◌≤ℤ◌, ◌<ℤ◌}
use Rattle.std.specs.List.{AllByRecursion}
use Rattle.std.proofs.lemmas.Int.{ints}
use Rattle.amr_bits.proofs.Lists.{of_images}
use Rattle.amr_frame.specs.declared.codec.Codec.{Codec}
use Rattle.amr_frame.specs.declared.codec.Codec.TheVariants.{Amr, AmrWb}
use Rattle.amr_frame.specs.Tables.{ticks}
use Rattle.order_laws.specs.Example.{first, other, rules}
use Rattle.order_laws.specs.Order.{AllInTime, HaveTheSame, IsNarrow}
use Rattle.order_laws.proofs.Members.{all_in}
use Rattle.spec_segments.specs.Segments.{accepted}
use Rattle.spec_session.specs.Session.{Rules, Accepted}

abbrev IsFrom : ℤ → ℤ → ℤ → Type 0
IsFrom low high p = (low ≤ℤ p) × (p ≤ℤ high)

apart_most : (codec : Codec) (low high p q : ℤ) → (pos (ticks codec) *ℤ (high -ℤ low)) <ℤ pos (2 ^ 31) →
    p ≤ℤ high → low ≤ℤ q → (pos (ticks codec) *ℤ (p -ℤ q)) <ℤ pos (2 ^ 31)
apart_most Amr low high p q h a b = omega (arith, ints)
apart_most AmrWb low high p q h a b = omega (arith, ints)

-- places from a low one to a high one
narrow_from : (rules : Rules) (acc : List Accepted) (ps : List ℤ) (low high : ℤ) →
    (pos (ticks rules.codec) *ℤ (high -ℤ low)) <ℤ pos (2 ^ 31) → map (λ (a : Accepted). a.place) acc ≡ ps →
    AllByRecursion (IsFrom low high) ps → IsNarrow rules acc
narrow_from rules acc ps low high h e k a b s t =
    let all = of_images (λ (x : Accepted). x.place) (IsFrom low high) acc (subst (AllByRecursion (IsFrom low high)) (sym e) k) in
    let x = all_in (λ (y : Accepted). IsFrom low high y.place) acc a all s in
    let y = all_in (λ (y : Accepted). IsFrom low high y.place) acc b all t in
    apart_most rules.codec low high a.place b.place h x.1 y.0

pub first_places : map (λ (a : Accepted). a.place) (accepted rules first) ≡ pos 0 ∷ pos 1 ∷ pos 1 ∷ []
first_places = refl

pub other_places : map (λ (a : Accepted). a.place) (accepted rules other) ≡ pos 0 ∷ negsuc 0 ∷ pos 0 ∷ negsuc 0 ∷ []
other_places = refl

pub first_in_time : AllInTime rules first
first_in_time = record {
  taken = record {
    all = refl;
    narrow = narrow_from rules (accepted rules first) (pos 0 ∷ pos 1 ∷ pos 1 ∷ []) (pos 0) (pos 1) (omega (arith, ints)) first_places ((omega (arith, ints), omega (arith, ints)), ((omega (arith, ints), omega (arith, ints)), ((omega (arith, ints), omega (arith, ints)), tt)));
  };
  timely = refl;
}

pub other_in_time : AllInTime rules other
other_in_time = record {
  taken = record {
    all = refl;
    narrow = narrow_from rules (accepted rules other) (pos 0 ∷ negsuc 0 ∷ pos 0 ∷ negsuc 0 ∷ []) (negsuc 0) (pos 0) (omega (arith, ints)) other_places ((omega (arith, ints), omega (arith, ints)), ((omega (arith, ints), omega (arith, ints)), ((omega (arith, ints), omega (arith, ints)), ((omega (arith, ints), omega (arith, ints)), tt))));
  };
  timely = refl;
}

pub same : HaveTheSame first other
same = record {
  there = (inr (inl refl), (inr (inr (inl refl)), (inl refl, tt)));
  back = (inr (inr (inl refl)), (inl refl, (inr (inl refl), (inl refl, tt))));
}

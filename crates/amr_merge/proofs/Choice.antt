-- The greater of two by a total order in which only equal values compare as equal.
use Rattle.std.proofs.Common.{◌≡◌, Bool, true, false, cond, refl, sym, ap, ◌∙◌}
use Rattle.std.specs.declared.cmp.Ordering.{Ordering}
use Rattle.std.specs.declared.cmp.Ordering.TheVariants.{Less, Equal, Greater}
use Rattle.std.specs.Ordering.{is_lt, is_gt, ordering_reverse}
use Rattle.std.specs.Cmp.{IsTotalOrder, upto}

turned : (r : Ordering) → is_lt (ordering_reverse r) ≡ is_gt r
turned Less = refl
turned Equal = refl
turned Greater = refl

turned_back : (r : Ordering) → is_gt (ordering_reverse r) ≡ is_lt r
turned_back Less = refl
turned_back Equal = refl
turned_back Greater = refl

less_is : (r : Ordering) → is_lt r ≡ true → r ≡ Less
less_is Less e = refl
less_is Equal e = absurd cc
less_is Greater e = absurd cc

not_both : (r : Ordering) → is_lt r ≡ true → is_gt r ≡ false
not_both Less e = refl
not_both Equal e = absurd cc
not_both Greater e = absurd cc

neither : (r : Ordering) → is_lt r ≡ false → is_gt r ≡ false → r ≡ Equal
neither Less e f = absurd cc
neither Equal e f = refl
neither Greater e f = absurd cc

module _ {K : Type 0} (R : K → K → Ordering) (o : IsTotalOrder R) (same : (a b : K) → R a b ≡ Equal → a ≡ b) where
  -- the greater of two
  abbrev pub pick : K → K → K
  pick a b = cond (is_lt (R a b)) b a

  second : (a b : K) → is_lt (R a b) ≡ true → pick a b ≡ b
  second a b e = ap (λ t. cond t b a) e

  first : (a b : K) → is_lt (R a b) ≡ false → pick a b ≡ a
  first a b e = ap (λ t. cond t b a) e

  flipped : (a b : K) → is_lt (R b a) ≡ is_gt (R a b)
  flipped a b = ap is_lt (o.antisymm b a) ∙ turned (R a b)

  by_lt : {X : Type 0} (b : Bool) → (b ≡ true → X) → (b ≡ false → X) → X
  by_lt true f g = f refl
  by_lt false f g = g refl

  pub pick_comm : (a b : K) → pick a b ≡ pick b a
  pick_comm a b =
      by_lt (is_lt (R a b))
      (λ e. second a b e ∙ sym (first b a (flipped a b ∙ not_both (R a b) e)))
      (λ e.
      by_lt (is_lt (R b a))
      (λ f. first a b e ∙ sym (second b a f))
      (λ f.
      let eq : a ≡ b = same a b (neither (R a b) e (sym (flipped a b) ∙ f)) in
      first a b e ∙ eq ∙ sym (first b a f)))

  chain : (a b c : K) → is_lt (R a b) ≡ true → is_lt (R b c) ≡ true → is_lt (R a c) ≡ true
  chain a b c e f = ap is_lt (o.trans a b c (less_is (R a b) e) (less_is (R b c) f))

  none_less : (a b c : K) → is_lt (R a b) ≡ false → is_lt (R b c) ≡ false → is_lt (R a c) ≡ false
  none_less a b c e f =
      let x : is_gt (R b a) ≡ false = ap is_gt (o.antisymm b a) ∙ turned_back (R a b) ∙ e in
      let y : is_gt (R c b) ≡ false = ap is_gt (o.antisymm c b) ∙ turned_back (R b c) ∙ f in
      flipped c a ∙ upto o c b a y x

  pub pick_assoc : (a b c : K) → pick (pick a b) c ≡ pick a (pick b c)
  pick_assoc a b c =
      by_lt (is_lt (R a b))
      (λ e.
      ap (λ x. pick x c) (second a b e)
      ∙ by_lt (is_lt (R b c))
      (λ f. second b c f ∙ sym (ap (pick a) (second b c f) ∙ second a c (chain a b c e f)))
      (λ f. first b c f ∙ sym (ap (pick a) (first b c f) ∙ second a b e)))
      (λ e.
      ap (λ x. pick x c) (first a b e)
      ∙ by_lt (is_lt (R b c))
      (λ f. sym (ap (pick a) (second b c f)))
      (λ f. first a c (none_less a b c e f) ∙ sym (ap (pick a) (first b c f) ∙ first a b e)))

  pub pick_same : (a : K) → pick a a ≡ a
  pick_same a = by_lt (is_lt (R a a)) (λ e. second a a e) (λ e. first a a e)

-- How many copies came for a place and a channel that had one.
use Rattle.std.proofs.Common.{ℕ, suc, ◌+◌, ◌-◌, ◌≤◌, ◌≡◌, Bool, true, false, cond, ◌&&◌, nat_eq, List, [], ◌∷◌, ◌++◌, length, refl, sym, ap, ◌∙◌, arith, Option, Some, None, ℤ, length-append}
use Rattle.std.specs.Prelude.{filter, find, fold, is_some, map}
use Rattle.std.proofs.lemmas.Bool.{cases_eq}
use Rattle.std.proofs.lemmas.Int.{ints, by_lt_z}
use Rattle.std.proofs.Common.{inl, inr, ◌⊎◌}
use Rattle.amr_merge.proofs.Ranks.{better_none}
use Rattle.amr_frame.specs.declared.codec.Codec.{Codec}
use Rattle.amr_frame.specs.Frames.{Frame}
use Rattle.amr_playout.proofs.Cells.{apart, both_here}
use Rattle.spec_session.specs.Copies.{Copy}
use Rattle.spec_session.specs.Counts.{different}
use Rattle.spec_session.specs.Quality.{best, better, quality}
use Rattle.spec_session.specs.Release.{best_at, is_at, same_place}
use Rattle.std.specs.Ordering.{is_lt}

-- whether there is a copy of a place and a channel
abbrev pub has : List Copy → ℤ → ℕ → Bool
has cs p c = is_some (find (is_at p c) cs)

-- two copies are of the same place and channel, or not
same_or_not : (p q : ℤ) (c d : ℕ)
    → ((p ≡ q) × (c ≡ d)) ⊎ (((same_place p q && nat_eq c d) ≡ false) × ((same_place q p && nat_eq d c) ≡ false))
same_or_not p q c d =
    by_lt_z p q
    (λ l. inr (
      apart p q c d (λ e f. absurd (omega (arith, ints))),
      apart q p d c
          (λ e f. absurd (omega (arith, ints))),
    ))
    (λ l.
    by_lt_z q p
    (λ m. inr (
      apart p q c d (λ e f. absurd (omega (arith, ints))),
      apart q p d c
          (λ e f. absurd (omega (arith, ints))),
    ))
    (λ m.
    elim (cases_eq c d) [
      | inl e ↦ inl (omega (arith, ints), e)
      | inr ne ↦ inr (apart p q c d (λ e f. ne f), apart q p d c (λ e f. ne (sym f)))
    ]))

found_first : (x : Copy) (cs : List Copy) (p : ℤ) (c : ℕ) → is_at p c x ≡ true → has (x ∷ cs) p c ≡ true
found_first x cs p c e = rw e refl

found_later : (x : Copy) (cs : List Copy) (p : ℤ) (c : ℕ) → is_at p c x ≡ false → has (x ∷ cs) p c ≡ has cs p c
found_later x cs p c e = rw e refl

-- a copy behind that is of another place or channel changes nothing
has_else : (cs : List Copy) (d : Copy) (p : ℤ) (c : ℕ) → is_at p c d ≡ false → has (cs ++ d ∷ []) p c ≡ has cs p c
has_else [] d p c e = found_later d [] p c e
has_else (x ∷ cs) d p c e =
    elim (is_at p c x) as (λ b. is_at p c x ≡ b → has (x ∷ (cs ++ d ∷ [])) p c ≡ has (x ∷ cs) p c) [
      | true ↦ λ t. found_first x (cs ++ d ∷ []) p c t ∙ sym (found_first x cs p c t)
      | false ↦ λ f. found_later x (cs ++ d ∷ []) p c f ∙ has_else cs d p c e ∙ sym (found_later x cs p c f)
    ] refl

has_here : (cs : List Copy) (d : Copy) (p : ℤ) (c : ℕ) → is_at p c d ≡ true → has (cs ++ d ∷ []) p c ≡ true
has_here [] d p c e = found_first d [] p c e
has_here (x ∷ cs) d p c e =
    elim (is_at p c x) as (λ b. is_at p c x ≡ b → has (x ∷ (cs ++ d ∷ [])) p c ≡ true) [
      | true ↦ λ t. found_first x (cs ++ d ∷ []) p c t
      | false ↦ λ f. found_later x (cs ++ d ∷ []) p c f ∙ has_here cs d p c e
    ] refl

counted : (a b : Bool) (n m : ℕ) → n ≡ m + cond a 0 1 → cond b n (suc n) ≡ cond b m (suc m) + cond a 0 1
counted a true n m e = e
counted a false n m e = omega arith

-- one copy more is different from the others, or not
pub different_more : (cs : List Copy) (d : Copy)
    → different (cs ++ d ∷ []) ≡ different cs + cond (has cs d.place d.channel) 0 1
different_more [] d = refl
different_more (x ∷ cs) d =
    elim (same_or_not d.place x.place d.channel x.channel) [
      | inl same ↦ (
          let here : is_at x.place x.channel d ≡ true =
          ap (λ p. same_place p x.place && nat_eq d.channel x.channel) same.0
          ∙ ap (λ c. same_place x.place x.place && nat_eq c x.channel) same.1 ∙ both_here x.place x.channel in
          let back : is_at d.place d.channel x ≡ true =
          ap (λ p. same_place x.place p && nat_eq x.channel d.channel) same.0
          ∙ ap (λ c. same_place x.place x.place && nat_eq x.channel c) same.1 ∙ both_here x.place x.channel in
          let alike : has cs d.place d.channel ≡ has cs x.place x.channel =
          ap (λ p. has cs p d.channel) same.0 ∙ ap (has cs x.place) same.1 in
          let rest : different (cs ++ d ∷ []) ≡ different cs + cond (has cs d.place d.channel) 0 1 = different_more cs
          d in
          ap (λ b. cond b (different (cs ++ d ∷ [])) (suc (different (cs ++ d ∷ []))))
          (has_here cs d x.place x.channel here)
          ∙ rest
          ∙ ap (λ b. different cs + cond b 0 1) alike
          ∙ sym (ap (λ b. different (x ∷ cs) + cond b 0 1) (found_first x cs d.place d.channel back)
          ∙ flip (has cs x.place x.channel) (different cs))
          )
      | inr other ↦
          ap (λ b. cond b (different (cs ++ d ∷ [])) (suc (different (cs ++ d ∷ []))))
          (has_else cs d x.place x.channel other.0)
          ∙ counted (has cs d.place d.channel) (has cs x.place x.channel) (different (cs ++ d ∷ [])) (different cs)
          (different_more cs d)
          ∙ ap (λ b. different (x ∷ cs) + cond b 0 1) (sym (found_later x cs d.place d.channel other.1))
    ]
  where
    flip : (b : Bool) (n : ℕ) → cond b n (suc n) + 0 ≡ n + cond b 0 1
    flip true n = refl
    flip false n = omega arith

pub different-le : (cs : List Copy) → different cs ≤ length cs
different-le [] = omega arith
different-le (x ∷ cs) =
    let rest = different-le cs in
    elim (has cs x.place x.channel) as (λ b. cond b (different cs) (suc (different cs)) ≤ suc (length cs))
    [ true ↦ omega arith | false ↦ omega arith ]

-- ---- there is a best one where there is one

some_better : (codec : Codec) (a : Option Frame) (f : Frame) → is_some (better codec a (Some f)) ≡ true
some_better codec None f =
    elim (is_lt (quality codec None (Some f))) as (λ b. is_lt (quality codec None (Some f)) ≡ b
    → is_some (better codec None (Some f)) ≡ true) [
      | true ↦ λ e. ap (λ b. is_some (cond b (Some f) None)) e
      | false ↦ λ e. ap is_some (better_none codec (Some f))
    ] refl
some_better codec (Some g) f =
    elim (is_lt (quality codec (Some g) (Some f))) as (λ b. is_some (cond b (Some f) (Some g)) ≡ true)
    [ true ↦ refl | false ↦ refl ]

stays_some : (codec : Codec) (fs : List Frame) (a : Option Frame) → is_some a ≡ true
    → is_some (fold (λ kept f. better codec kept (Some f)) a fs) ≡ true
stays_some codec [] a e = e
stays_some codec (f ∷ fs) a e = stays_some codec fs (better codec a (Some f)) (some_better codec a f)

pub has_best : (codec : Codec) (cs : List Copy) (p : ℤ) (c : ℕ) → is_some (best_at codec cs p c) ≡ has cs p c
has_best codec [] p c = refl
has_best codec (x ∷ cs) p c =
    elim (is_at p c x) as (λ b. is_at p c x ≡ b → is_some (best_at codec (x ∷ cs) p c) ≡ has (x ∷ cs) p c) [
      | true ↦ λ t.
          ap (λ b. is_some (best codec
          (map (λ (y : Copy). y.frame) (cond b (x ∷ filter (is_at p c) cs) (filter (is_at p c) cs))))) t
          ∙ stays_some codec (map (λ (y : Copy). y.frame) (filter (is_at p c) cs)) (better codec None (Some x.frame))
          (some_better codec None x.frame)
          ∙ sym (found_first x cs p c t)
      | false ↦ λ f.
          ap (λ b. is_some (best codec
          (map (λ (y : Copy). y.frame) (cond b (x ∷ filter (is_at p c) cs) (filter (is_at p c) cs))))) f
          ∙ has_best codec cs p c ∙ sym (found_later x cs p c f)
    ] refl

-- one copy more is different from the others, or came for a place and channel that had one
pub different_best : (codec : Codec) (cs : List Copy) (d : Copy)
    → different (cs ++ d ∷ []) + cond (is_some (best_at codec cs d.place d.channel)) 1 0 ≡ different cs + 1
different_best codec cs d =
    ap (λ b. different (cs ++ d ∷ []) + cond b 1 0) (has_best codec cs d.place d.channel)
    ∙ one (has cs d.place d.channel) (different (cs ++ d ∷ [])) (different cs) (different_more cs d)
  where
    one : (b : Bool) (n m : ℕ) → n ≡ m + cond b 0 1 → n + cond b 1 0 ≡ m + 1
    one true n m e = omega (arith, e)
    one false n m e = omega (arith, e)

-- the copies that came for a place and channel that had one, by those of them that did not
pub again_more : (cs ds : List Copy) (n : ℕ) → different (cs ++ ds) + n ≡ different cs + length ds
    → length (cs ++ ds) - different (cs ++ ds) ≡ (length cs - different cs) + n
again_more cs ds n e =
    let l = length-append cs ds in
    let le = different-le cs in
    omega (arith, e, l, le)

-- A timestamp has one place.
use Rattle.std.proofs.Common.{◌≡◌, ℕ, suc, ◌-◌, ◌/◌, ◌%◌, ◌^◌, ◌<◌, ◌≤◌, cond, sym, refl, ap, ◌∙◌, arith, ℤ, pos, negsuc, ◌+ℤ◌, ◌-ℤ◌, ◌*ℤ◌}
use Rattle.std.specs.Prelude.{◌≤ℤ◌, ◌<ℤ◌}
use Rattle.std.proofs.lemmas.Int.{ints}
use Rattle.std.proofs.lemmas.Bool.{cases_lt, le-ltb, eq-eqb}
use Rattle.std.proofs.lemmas.Bool.Decides.{eqb_tells}
use Rattle.std.proofs.Common.{Some, None}
use Rattle.std.specs.Prelude.{int_div, unsigned_abs}
use Rattle.std.specs.Int.{cast_signed, w32, int_rem_euclid}
use Rattle.std.proofs.Common.{inl, inr}
use Rattle.amr_frame.specs.declared.codec.Codec.{Codec}
use Rattle.amr_frame.specs.declared.codec.Codec.TheVariants.{Amr, AmrWb}
use Rattle.amr_frame.specs.Tables.{ticks}
use Rattle.spec_session.specs.Places.{IsPlaceOf, place_near}

one_amr : (origin ts : ℕ) (h u v : ℤ) → IsPlaceOf 160 origin ts h u → IsPlaceOf 160 origin ts h v → u ≡ v
one_amr origin ts h u v a b = omega (arith, ints)

pub one_place : (codec : Codec) (origin ts : ℕ) (h u v : ℤ) → IsPlaceOf (ticks codec) origin ts h u → IsPlaceOf (ticks codec) origin ts h v → u ≡ v
one_place Amr origin ts h u v a b = one_amr origin ts h u v a b
one_place AmrWb origin ts h u v a b = omega (arith, ints)

-- what is left of z, near 0
abbrev wrapped : ℤ → ℤ
wrapped z = cast_signed w32 (unsigned_abs (int_rem_euclid z (pos (2 ^ 32))))

record IsNear (z d : ℤ) : Type 0 where
  turns : ℤ
  is : z ≡ d +ℤ turns *ℤ pos (2 ^ 32)
  low : negsuc (2 ^ 31 - 1) ≤ℤ d
  high : d <ℤ pos (2 ^ 31)

low_cast : (m : ℕ) → m < 2 ^ 31 → cast_signed w32 m ≡ pos m
low_cast m l = omega (arith, ints)

high_cast : (m : ℕ) → 2 ^ 31 ≤ m → m < 2 ^ 32 → cast_signed w32 m ≡ negsuc (2 ^ 32 - suc m)
high_cast m l h = rw (le-ltb m (2 ^ 31) l) refl

-- m plus a multiple of 2^32
near_from : (z t : ℤ) (m : ℕ) → m < 2 ^ 32 → z ≡ pos m +ℤ t *ℤ pos (2 ^ 32) → IsNear z (cast_signed w32 m)
near_from z t m h e =
    elim (cases_lt m (2 ^ 31)) [
      | inl l ↦ rw (low_cast m l) (record { turns = t; is = e; low = omega (arith, ints); high = omega (arith, ints) })
      | inr l ↦ rw (high_cast m l h) (record { turns = t +ℤ pos 1; is = omega (arith, ints); low = omega (arith, ints); high = omega (arith, ints) })
    ]

near : (z : ℤ) → IsNear z (wrapped z)
near (pos a) = near_from (pos a) (pos (a / 2 ^ 32)) (a % 2 ^ 32) (omega arith) (omega (arith, ints))
near (negsuc a) = near_from (negsuc a) (negsuc (a / 2 ^ 32)) (2 ^ 32 - 1 - a % 2 ^ 32) (omega arith) (omega (arith, ints))

one_near : (z d e : ℤ) → IsNear z d → IsNear z e → d ≡ e
one_near z d e a b = omega (arith, ints)

-- d is a multiple of the ticks, and how many times
whole : (codec : Codec) (d : ℤ) → unsigned_abs d % ticks codec ≡ 0 → pos (ticks codec) *ℤ int_div d (pos (ticks codec)) ≡ d
whole Amr (pos n) h = omega (arith, ints)
whole Amr (negsuc n) h = omega (arith, ints)
whole AmrWb (pos n) h = omega (arith, ints)
whole AmrWb (negsuc n) h = omega (arith, ints)

times : (codec : Codec) (e : ℤ) → (unsigned_abs (pos (ticks codec) *ℤ e) % ticks codec ≡ 0) × (int_div (pos (ticks codec) *ℤ e) (pos (ticks codec)) ≡ e)
times Amr (pos n) = (omega (arith, ints), omega (arith, ints))
times Amr (negsuc n) = (omega (arith, ints), omega (arith, ints))
times AmrWb (pos n) = (omega (arith, ints), omega (arith, ints))
times AmrWb (negsuc n) = (omega (arith, ints), omega (arith, ints))

-- how far a timestamp is from the horizon's, whole turns included
abbrev ahead : Codec → ℕ → ℕ → ℤ → ℤ
ahead codec o ts h = pos ts -ℤ (pos o +ℤ pos (ticks codec) *ℤ h)

-- so many frame times as that is near 0 are as far as the place is from the horizon
placed : (codec : Codec) (o ts : ℕ) (h u d : ℤ) → IsNear (ahead codec o ts h) d → pos (ticks codec) *ℤ (u -ℤ h) ≡ d
    → IsPlaceOf (ticks codec) o ts h u
placed Amr o ts h u d n e = let is = n.is in let low = n.low in let high = n.high in
    record { turns = n.turns; grid = omega (arith, ints); low = omega (arith, ints); high = omega (arith, ints) }
placed AmrWb o ts h u d n e = let is = n.is in let low = n.low in let high = n.high in
    record { turns = n.turns; grid = omega (arith, ints); low = omega (arith, ints); high = omega (arith, ints) }

near_place : (codec : Codec) (o ts : ℕ) (h u : ℤ) → IsPlaceOf (ticks codec) o ts h u → IsNear (ahead codec o ts h) (pos (ticks codec) *ℤ (u -ℤ h))
near_place Amr o ts h u p = let grid = p.grid in record { turns = p.turns; is = omega (arith, ints); low = p.low; high = p.high }
near_place AmrWb o ts h u p = let grid = p.grid in record { turns = p.turns; is = omega (arith, ints); low = p.low; high = p.high }

-- a step from the horizon, and back
stepped : (h q u : ℤ) → h +ℤ q ≡ u → u -ℤ h ≡ q
stepped h q u e = omega (arith, ints)

reached : (h u : ℤ) → h +ℤ (u -ℤ h) ≡ u
reached h u = omega (arith, ints)

-- what is computed is the place
pub found : (codec : Codec) (o ts : ℕ) (h u : ℤ) → place_near (ticks codec) o ts h ≡ Some u → IsPlaceOf (ticks codec) o ts h u
found codec o ts h u e =
    let t = ticks codec in
    let d = wrapped (ahead codec o ts h) in
    let q = int_div d (pos t) in
    elim (eqb_tells (unsigned_abs d % t) 0) [
      | inl m ↦
          let yes : Some (h +ℤ q) ≡ Some u = ap (λ b. cond b (Some (h +ℤ q)) None) (sym m.0) ∙ e in
          let is : h +ℤ q ≡ u = cc in
          placed codec o ts h u d (near (ahead codec o ts h)) (ap (λ k. pos t *ℤ k) (stepped h q u is) ∙ whole codec d m.1)
      | inr m ↦
          let no : None ≡ Some u = ap (λ b. cond b (Some (h +ℤ q)) None) (sym m.0) ∙ e in
          absurd cc
    ]

-- the place is what is computed
pub only : (codec : Codec) (o ts : ℕ) (h u : ℤ) → IsPlaceOf (ticks codec) o ts h u → place_near (ticks codec) o ts h ≡ Some u
only codec o ts h u p =
    let t = ticks codec in
    let z = ahead codec o ts h in
    let d = wrapped z in
    let same : d ≡ pos t *ℤ (u -ℤ h) = one_near z d (pos t *ℤ (u -ℤ h)) (near z) (near_place codec o ts h u p) in
    let m = times codec (u -ℤ h) in
    let rest : unsigned_abs d % t ≡ 0 = ap (λ x. unsigned_abs x % t) same ∙ m.0 in
    let back : h +ℤ int_div d (pos t) ≡ u = ap (λ x. h +ℤ int_div x (pos t)) same ∙ ap (λ q. h +ℤ q) m.1 ∙ reached h u in
    ap (λ b. cond b (Some (h +ℤ int_div d (pos t))) None) (eq-eqb (unsigned_abs d % t) 0 rest) ∙ ap Some back

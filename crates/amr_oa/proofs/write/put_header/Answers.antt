use Rattle.std.proofs.Common.{◌≡◌, ℕ, ◌-◌, Bool, true, false, cond, ◌++◌, map, refl, Option, Some, None}
use Rattle.std.specs.Prelude.{is_some}
use Rattle.amr_bits.specs.Bits.{nat}
use Rattle.amr_bits.specs.Layout.{fixed, free, settled}
use Rattle.spec_payload.specs.Grammar.{interleaving_octet}
use Rattle.spec_payload.specs.Values.{Value}

-- the header without interleaving, and with it
without : (o : Option ℕ) (v : Value) → is_some o ≡ false
    → map settled (fixed (nat 4 v.cmr) ++ free 4 ++ interleaving_octet o v) ≡ nat 4 v.cmr ++ nat 4 0
without None v e = refl
without (Some most) v e = absurd cc

with_it : (o : Option ℕ) (v : Value) → is_some o ≡ true
    → map settled (fixed (nat 4 v.cmr) ++ free 4 ++ interleaving_octet o v)
    ≡ ((nat 4 v.cmr ++ nat 4 0) ++ nat 4 (v.stride - 1)) ++ nat 4 v.index
with_it None v e = absurd cc
with_it (Some most) v e = refl

-- how many octets there are
one_octet : (z : Bool) → z ≡ false → cond {A = ℕ} z 2 1 ≡ 1
one_octet true e = absurd cc
one_octet false e = refl

two_octets : (z : Bool) → z ≡ true → cond {A = ℕ} z 2 1 ≡ 2
two_octets true e = refl
two_octets false e = absurd cc

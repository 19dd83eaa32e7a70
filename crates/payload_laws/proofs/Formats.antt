-- What a valid format is, bandwidth-efficient or octet-aligned.
use Rattle.std.proofs.Common.{◌≡◌, ℕ, zero, suc, ◌≤◌, Bool, true, false, not, ◌||◌, eqb, ltb, sym, refl, ◌∙◌, arith, Option, None}
use Rattle.std.specs.Prelude.{◌&&◌, is_some}
use Rattle.std.proofs.lemmas.Bool.{eqb-false}
use Rattle.amr_frame.specs.declared.codec.Codec.{Codec}
use Rattle.amr_frame.specs.declared.profile.Profile.{Profile}
use Rattle.amr_frame.specs.declared.profile.ProfileFault.TheVariants as fault
use Rattle.amr_frame.specs.First.{when}
use Rattle.amr_frame.specs.Profiles.{IsValid}
use Rattle.amr_frame.proofs.FirstLemmas.{first_none, when_none, or_false, is_none_of}

-- without alignment nothing that needs it is asked
no_needs : (a b c d : Bool) → d ≡ false → ((a || b || c) && not d) ≡ false
    → (a ≡ false) × (b ≡ false) × (c ≡ false)
no_needs a b c true e f = absurd cc
no_needs true b c false e f = absurd cc
no_needs false true c false e f = absurd cc
no_needs false false true false e f = absurd cc
no_needs false false false false e f = (refl, refl, refl)

-- a number that isn't 0
above_zero : (n : ℕ) → (n ≡ 0 → ⊥) → 1 ≤ n
above_zero zero h = absurd (h refl)
above_zero (suc n) h = omega arith

-- a bandwidth-efficient format has no CRC, no sorting and no interleaving, and at least one channel
pub record IsPlain (p : Profile) : Type 0 where
  pub packed : p.octet_aligned ≡ false
  pub crc : p.crc ≡ false
  pub sorting : p.sorting ≡ false
  pub interleaving : p.interleaving ≡ None
  pub channels : 1 ≤ p.channels

-- a valid format has a channel
pub channels_of : (p : Profile) → IsValid p → 1 ≤ p.channels
channels_of p valid =
    let few = eqb p.channels 0 || ltb 6 p.channels in
    let f = first_none (when few fault.Channels) _ valid in
    let none = or_false (eqb p.channels 0) (ltb 6 p.channels) (when_none few fault.Channels f.0) in
    above_zero p.channels (eqb-false p.channels 0 none.0)

-- each of these follows from validity
pub plain_of : (p : Profile) → IsValid p → p.octet_aligned ≡ false → IsPlain p
plain_of p valid packed =
    let few = eqb p.channels 0 || ltb 6 p.channels in
    let needs = (p.crc || p.sorting || is_some p.interleaving) && not p.octet_aligned in
    let f1 = first_none (when few fault.Channels) _ valid in
    let f2 = first_none (when needs fault.NeedsAlignment) _ f1.1 in
    let parts = no_needs p.crc p.sorting (is_some p.interleaving) p.octet_aligned packed (when_none needs fault.NeedsAlignment f2.0) in
    record {
      packed = packed;
      crc = parts.0;
      sorting = parts.1;
      interleaving = is_none_of p.interleaving parts.2;
      channels = channels_of p valid;
    }

-- a bandwidth-efficient format by what it leaves open
abbrev pub plain : Codec → ℕ → ℕ → Bool → ℕ → Profile
plain codec channels most strict modes = record { codec = codec; channels = channels; octet_aligned = false; crc = false; sorting = false; interleaving = None; max_blocks = most; strict = strict; modes = modes }

-- such a format is all that a valid one can be
pub plain_is : (p : Profile) → IsPlain p → plain p.codec p.channels p.max_blocks p.strict p.modes ≡ p
plain_is p h = λ i. record { codec = p.codec; channels = p.channels; octet_aligned = sym h.packed i; crc = sym h.crc i; sorting = sym h.sorting i; interleaving = sym h.interleaving i; max_blocks = p.max_blocks; strict = p.strict; modes = p.modes }

-- an octet-aligned format by what it leaves open
abbrev pub aligned : Codec → ℕ → Bool → Bool → Option ℕ → ℕ → Bool → ℕ → Profile
aligned codec channels crc sorting group most strict modes = record { codec = codec; channels = channels; octet_aligned = true; crc = crc; sorting = sorting; interleaving = group; max_blocks = most; strict = strict; modes = modes }

pub aligned_is : (p : Profile) → p.octet_aligned ≡ true
    → aligned p.codec p.channels p.crc p.sorting p.interleaving p.max_blocks p.strict p.modes ≡ p
aligned_is p e = λ i. record { codec = p.codec; channels = p.channels; octet_aligned = sym e i; crc = p.crc; sorting = p.sorting; interleaving = p.interleaving; max_blocks = p.max_blocks; strict = p.strict; modes = p.modes }

-- a format is octet-aligned, or it isn't
pub either_way : {X : Type 0} (p : Profile) → (p.octet_aligned ≡ true → X)
    → (p.octet_aligned ≡ false → X) → X
either_way p f g = by_alignment p.octet_aligned f g
  where
    by_alignment : {X : Type 0} (z : Bool) → (z ≡ true → X) → (z ≡ false → X) → X
    by_alignment true f g = f refl
    by_alignment false f g = g refl

-- CRCs and sorting are of octet-aligned formats alone
pub record Aligned (p : Profile) : Type 0 where
  pub crc : p.crc ≡ true → p.octet_aligned ≡ true
  pub sorting : p.sorting ≡ true → p.octet_aligned ≡ true

pub aligned_of : (p : Profile) → IsValid p → Aligned p
aligned_of p valid = either_way p
    (λ is. record { crc = λ x. is; sorting = λ x. is })
    (λ packed.
    let h = plain_of p valid packed in
    record { crc = λ x. absurd (not_both (sym x ∙ h.crc)); sorting = λ x. absurd (not_both (sym x ∙ h.sorting)) })
  where
    not_both : true ≡ false → ⊥
    not_both e = cc

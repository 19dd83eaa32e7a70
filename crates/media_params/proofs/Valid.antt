-- Formats of parameters are valid.
use Rattle.std.proofs.Common.{◌≡◌, ℕ, ◌<◌, ◌≤◌, ◌^◌, inl, inr, Bool, false, ◌||◌, nat_eq, nat_lt, refl, sym, subst, arith, ne_eqb, Option, Some, None, IfSome, option_map, [], ◌∷◌}
use Rattle.std.proofs.lemmas.Bool.{cases_lt, le-ltb}
use Rattle.amr_frame.specs.First.{first, when}
use Rattle.amr_frame.specs.Profiles.{IsValid, is_empty_group}
use Rattle.amr_frame.specs.Tables.{mode_bits}
use Rattle.amr_frame.specs.declared.codec.Codec.{Codec}
use Rattle.amr_frame.specs.declared.codec.Codec.TheVariants.{Amr, AmrWb}
use Rattle.amr_frame.specs.declared.profile.Profile.{Profile}
use Rattle.amr_frame.specs.declared.profile.ProfileFault.TheVariants as fault
use Rattle.amr_mode.proofs.Sets.{no_set_above, no_set_of_none}
use Rattle.amr_mode.specs.Members.{members}
use Rattle.amr_mode.specs.declared.mode_set.ModeSet.{ModeSet}
use Rattle.media_params.specs.Fmtp.{AreShort, bits_of, format_of, parameters}
use Rattle.media_params.specs.declared.fmtp.Fmtp.{Fmtp}
use Rattle.spec_media.specs.Params.{AreParameters}
use Rattle.spec_modes.specs.ModeSets.{IsModeSet}

neither : (a b : Bool) → a ≡ false → b ≡ false → (a || b) ≡ false
neither a b ea eb = λ i. ea i || eb i

-- a number from 1 on, up to a bound
between : (n most : ℕ) → 1 ≤ n → n ≤ most → (nat_eq n 0 || nat_lt most n) ≡ false
between n most low high = neither (nat_eq n 0) (nat_lt most n) (ne_eqb n 0 (λ e. omega arith)) (le-ltb most n high)

some_blocks : (o : Option ℕ) → IfSome o (λ n. (1 ≤ n) × (n < 2 ^ 16)) → is_empty_group o ≡ false
some_blocks None h = refl
some_blocks (Some n) h = ne_eqb n 0 (λ e. omega (arith, h.0))

bits_fit : (codec : Codec) (set : ModeSet) → set.bits < 2 ^ 16 → IsModeSet codec (members set) → (1 ≤ set.bits) × (set.bits ≤ mode_bits codec)
bits_fit codec set fits k = (
  elim (cases_lt 0 set.bits) [ inl l ↦ omega (arith, l) | inr l ↦ absurd (no_set_of_none codec set (omega (arith, l)) k) ],
  elim (cases_lt (mode_bits codec) set.bits) [ inl l ↦ absurd (no_set_above codec set fits l k) | inr l ↦ l ],
)

all_fit : (codec : Codec) → (1 ≤ mode_bits codec) × (mode_bits codec ≤ mode_bits codec)
all_fit Amr = (omega arith, omega arith)
all_fit AmrWb = (omega arith, omega arith)

modes_fit : (codec : Codec) (modes : Option ModeSet) → AreShort modes → IfSome (option_map members modes) (IsModeSet codec) → (1 ≤ bits_of codec modes) × (bits_of codec modes ≤ mode_bits codec)
modes_fit codec None fits k = all_fit codec
modes_fit codec (Some set) fits k = bits_fit codec set fits k

-- five rules that don't hold
no_fault : {X : Type 0} (a b d e f : Bool) (v w x y z : X) → a ≡ false → b ≡ false → d ≡ false → e ≡ false → f ≡ false
    → first (when a v ∷ when b w ∷ when d x ∷ when e y ∷ when f z ∷ []) ≡ None
no_fault a b d e f v w x y z ea eb ed ee ef = rw (ea, eb, ed, ee, ef) refl

valid : (f : Fmtp) (codec : Codec) (channels blocks : ℕ) → AreShort f.modes → AreParameters codec (parameters f)
    → 1 ≤ channels → channels ≤ 6 → 1 ≤ blocks → blocks ≤ 64 → IsValid (format_of f codec channels blocks)
valid f codec channels blocks fits k low high some few =
    let modes = modes_fit codec f.modes fits k.modes in
    no_fault _ _ _ _ _ fault.Channels fault.NeedsAlignment fault.Interleaving fault.MaxBlocks fault.Modes
    (between channels 6 low high) k.alignment (some_blocks f.interleaving k.interleaving) (between blocks 64 some few)
    (between (bits_of codec f.modes) (mode_bits codec) modes.0 modes.1)

pub valid_so : (r : Profile) (f : Fmtp) (codec : Codec) (channels blocks : ℕ) → r ≡ format_of f codec channels blocks → AreShort f.modes → AreParameters codec (parameters f)
    → 1 ≤ channels → channels ≤ 6 → 1 ≤ blocks → blocks ≤ 64 → IsValid r
valid_so r f codec channels blocks e fits k low high some few = subst IsValid (sym e) (valid f codec channels blocks fits k low high some few)

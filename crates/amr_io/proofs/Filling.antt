-- When a fill of an open inlet gives each of its answers, where the source tells its octets.
use Rattle.std.proofs.Common.{◌≡◌, ◌≢◌, ℕ, List, [], refl, length, arith, length-append, ap, ◌∙◌, sym}
use Rattle.std.specs.Prelude.{Option, Some, None, Result, Ok, Err}
use Rattle.amr_io.specs.declared.gate.Filled.{Filled}
use Rattle.amr_io.specs.declared.gate.Filled.TheVariants.{More, End, OverLimit}
use Rattle.amr_io.specs.declared.source.Failed.{Failed}
use Rattle.amr_io.specs.Inlet.{InletState, Fills, ComesExactly}

-- the end comes exactly where none is left
pub fills_end : (left left' : Option (List ℕ)) (old new : InletState) (r : Result Filled Failed) → Fills left left' old new r
    → ComesExactly left r End (λ octets. octets ≡ [])
fills_end None left' old new r f = tt
fills_end (Some xs) left' old new (Err e) f = tt
fills_end (Some xs) left' old new (Ok End) f = (λ _. f.0, λ _. refl)
fills_end (Some xs) None old new (Ok (More count)) f = absurd f.5
fills_end (Some xs) (Some ys) old new (Ok (More count)) f = (λ e. cc, λ e. absurd (omega (arith, f.1, f.2, ap length (sym e ∙ f.5), length-append f.0 ys)))
fills_end (Some xs) None old new (Ok OverLimit) f = absurd f.2
fills_end (Some xs) (Some ys) old new (Ok OverLimit) f = (λ e. cc, λ e. cc)

-- one octet past the limit comes exactly where the limit is reached and one is left
pub fills_over : (left left' : Option (List ℕ)) (old new : InletState) (r : Result Filled Failed) → Fills left left' old new r
    → ComesExactly left r OverLimit (λ octets. (old.taken ≡ old.limit) × (octets ≢ []))
fills_over None left' old new r f = tt
fills_over (Some xs) left' old new (Err e) f = tt
fills_over (Some xs) left' old new (Ok End) f = (λ e. cc, λ h. absurd (h.1 f.0))
fills_over (Some xs) left' old new (Ok (More count)) f = (λ e. cc, λ h. absurd (omega (arith, f.2, f.3, h.0)))
fills_over (Some xs) None old new (Ok OverLimit) f = absurd f.2
fills_over (Some xs) (Some ys) old new (Ok OverLimit) f = (λ _. (f.1, λ e. cc), λ _. refl)

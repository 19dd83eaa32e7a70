-- Whether a payload has the octets that its table needs: P9 and P10 (RFC 4867, 4.3 and 4.4).
use Rattle.std.specs.Prelude.{ℕ, [], ◌∷◌, Option}
use Rattle.amr_frame.specs.First.{first}
use Rattle.spec_payload.specs.declared.refusal.PayloadRefusal.{PayloadRefusal}
use Rattle.spec_payload.specs.Rules.{body_short, body_long}

-- why octets don't fit, where they are too few or too many
abbrev pub misfit : ℕ → ℕ → Option PayloadRefusal
misfit need have = first (body_short need have ∷ body_long need have ∷ [])

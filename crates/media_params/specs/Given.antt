-- What pieces give of the parameters of the table.
use Rattle.std.specs.Prelude.{◌≡◌, ℕ, true, false, List, ◌∷◌, [], ◌++◌, slice_index_or, Option, Some, None, Result, Ok, option_map, IfOk, IfErr}
use Rattle.std.specs.Option.{option_copied}
use Rattle.amr_frame.specs.declared.codec.Codec.{Codec}
use Rattle.media_params.specs.Places.{place}
use Rattle.media_params.specs.declared.given.Given.{Given}
use Rattle.refusals.specs.declared.media.FmtpRefusal.{FmtpRefusal}
use Rattle.refusals.specs.declared.param.Param.{Param}
use Rattle.spec_media.specs.Params.{is_allowed, values_of}
use Rattle.spec_media.specs.Pieces.{is_empty, trimmed, value_of}
use Rattle.spec_media.specs.Reading.{piece_of, piece_refusal}

-- the value that a parameter was given
abbrev pub at : Given → Param → Option (List ℕ)
at g p = option_copied (slice_index_or g.values (place p) None)

-- each parameter has the value of the first piece with its name
pub record Holds (g : Given) (ps : List (List ℕ)) : Type 0 where
  pub value : (p : Param) → at g p ≡ option_map value_of (piece_of p ps)

-- each value is one that its parameter may have
pub record AreAllowed (codec : Codec) (g : Given) : Type 0 where
  pub allowed : (p : Param) (value : List ℕ) → at g p ≡ Some value
      → is_allowed codec (values_of p) value ≡ true

-- a piece behind others was taken, or is refused as the definitions say
pub record Takes (codec : Codec) (old : Given) (piece : List ℕ) (new : Given)
    (result : Result (Unit {0}) FmtpRefusal) : Type 0 where
  pub taken : (before : List (List ℕ)) → Holds old before → IfOk result (λ _. Holds new (before ++ piece ∷ []))
  pub clean : (before : List (List ℕ)) → Holds old before → IfOk result (λ _. piece_refusal codec before piece ≡ None)
  pub refused : (before : List (List ℕ)) → Holds old before → IfErr result (λ why. piece_refusal codec before piece ≡ Some why)
  pub allowed : AreAllowed codec old → AreAllowed codec new

-- the piece in a part of the text was taken, if there is one
pub record TakesPart (codec : Codec) (old : Given) (part : List ℕ) (new : Given)
    (result : Result (Unit {0}) FmtpRefusal) : Type 0 where
  pub passed : is_empty (trimmed part) ≡ true → (result ≡ Ok tt) × (new ≡ old)
  pub taken : is_empty (trimmed part) ≡ false → Takes codec old (trimmed part) new result

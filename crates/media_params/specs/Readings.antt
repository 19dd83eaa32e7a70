-- What reading media parameters gives.
use Rattle.std.specs.Prelude.{◌≡◌, ℕ, ◌||◌, Bool, false, nat_eq, is_some, List, Option, Some, None, Result, Ok, Err, IfOk, option_map, option_and_then}
use Rattle.std.specs.Option.{unwrap_or}
use Rattle.amr_frame.specs.declared.codec.Codec.{Codec}
use Rattle.media_params.specs.Fmtp.{parameters}
use Rattle.media_params.specs.Given.{at}
use Rattle.media_params.specs.declared.fmtp.Fmtp.{Fmtp}
use Rattle.media_params.specs.declared.given.Given.{Given}
use Rattle.refusals.specs.declared.media.FmtpRefusal.{FmtpRefusal}
use Rattle.refusals.specs.declared.param.Param.{Param}
use Rattle.refusals.specs.declared.param.Param.TheVariants as param
use Rattle.spec_media.specs.Params.{AreParameters, Parameters}
use Rattle.spec_media.specs.Pieces.{number_in}
use Rattle.spec_media.specs.Reading.{modes_of, parameters_of}

-- the answer, in the words of the definitions
abbrev pub told : Result Fmtp FmtpRefusal → Result Parameters FmtpRefusal
told (Ok f) = Ok (parameters f)
told (Err why) = Err why

-- a text gives these parameters, or is refused so; and parameters that it gives are valid
pub record IsReading (codec : Codec) (text : List ℕ) (result : Result Fmtp FmtpRefusal) : Type 0 where
  pub answer : told result ≡ parameters_of codec text
  pub valid : IfOk result (λ f. AreParameters codec (parameters f))

-- whether a parameter has this number, of the numbers of parameters
abbrev pub has_number : (Param → Option ℕ) → Param → ℕ → Bool
has_number number p n = elim (number p) [
  | None ↦ false
  | Some m ↦ nat_eq m n
]

-- whether these numbers need octet alignment
abbrev pub need : (Param → Option ℕ) → Bool
need number =
    has_number number param.Crc 1 || has_number number param.Sorting 1
    || is_some (number param.Interleaving)

-- the parameters that have these numbers and modes
abbrev pub parameters_by : (Param → Option ℕ) → Option (List ℕ) → Parameters
parameters_by number modes = record {
  octet_aligned = has_number number param.OctetAlign 1 || need number;
  crc = has_number number param.Crc 1;
  sorting = has_number number param.Sorting 1;
  interleaving = number param.Interleaving;
  modes = modes;
  neighbor = has_number number param.Neighbor 1;
  period = unwrap_or (number param.Period) 1;
  capability = unwrap_or (number param.Capability) 1;
  max_red = number param.MaxRed;
}

-- the number that a parameter was given, whether it is this one, and whether what was given needs
-- octet alignment
abbrev pub number_at : Given → Param → Option ℕ
number_at g p = option_and_then (number_in 5) (at g p)

abbrev pub is_number_at : Given → Param → ℕ → Bool
is_number_at g p n = has_number (number_at g) p n

abbrev pub asks : Given → Bool
asks g = need (number_at g)

-- the parameters of what was given
abbrev pub parameters_at : Codec → Given → Parameters
parameters_at codec g = parameters_by (number_at g) (option_map (modes_of codec) (at g param.ModeSet))

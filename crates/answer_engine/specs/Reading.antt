-- What reading a whole input does. This project's own.
use Rattle.std.specs.Prelude.{◌≡◌, ℕ, ◌≤◌, ◌<◌, List, [], ◌∷◌, ◌++◌, length, Some, Result, Ok, Err}
use Rattle.std.specs.Io.KnownBytes.{Consumes}
use Rattle.amr_io.specs.Inlet.{InletState}
use Rattle.amr_io.specs.declared.gate.Gate.TheVariants as gate
use Rattle.amr_io.specs.declared.source.Failed.{Failed as Fault}
use Rattle.answer_engine.specs.declared.read.Whole.{Whole}
use Rattle.answer_engine.specs.declared.read.Whole.TheVariants.{All, OverLimit}
use Rattle.spec_run.specs.Flows.{Calm, Failed, Flow}

-- nothing was read yet, and there is room for more than the limit
pub record IsFresh (s : InletState) : Type 0 where
  pub none : s.held ≡ []
  pub taken : s.taken ≡ 0
  pub still : s.gate ≡ gate.Open
  pub room : s.limit < s.size

-- these octets are all of the input, and within the limit
pub record IsWhole (limit : ℕ) (input : Flow) (octets : List ℕ) : Type 0 where
  pub took : Consumes input.told input.told' octets
  pub within : length octets ≤ limit
  pub all : (all : List ℕ) → input.told ≡ Some all → (all ≡ octets) × (input.told' ≡ Some [])
  pub calm : Calm input

-- as many octets as the limit allows were read, and one more
pub record PassesLimit (limit : ℕ) (input : Flow) (octets : List ℕ) : Type 0 where
  pub one : ℕ
  pub took : Consumes input.told input.told' (octets ++ one ∷ [])
  pub full : length octets ≡ limit
  pub calm : Calm input

-- a read failed behind these octets
pub record BreaksOff (limit : ℕ) (input : Flow) (octets : List ℕ) : Type 0 where
  pub took : Consumes input.told input.told' octets
  pub within : length octets ≤ limit
  pub failed : Failed input

-- what was read of an input, by the answer
abbrev pub ReadsWhole : ℕ → Flow → List ℕ → Result Whole Fault → Type 0
ReadsWhole limit input octets (Ok All) = IsWhole limit input octets
ReadsWhole limit input octets (Ok OverLimit) = PassesLimit limit input octets
ReadsWhole limit input octets (Err e) = BreaksOff limit input octets

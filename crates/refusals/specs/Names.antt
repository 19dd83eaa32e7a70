-- The names of media parameters (RFC 4867, 8.1 and 8.2), and those of the reasons against an
-- offered payload type, which are this project's own.
use Rattle.std.specs.Prelude.{ℕ, List, codes}
use Rattle.refusals.specs.declared.answer.Why.{Why}
use Rattle.refusals.specs.declared.answer.Why.TheVariants as why
use Rattle.refusals.specs.declared.param.Param.{Param}
use Rattle.refusals.specs.declared.param.Param.TheVariants as param

-- the name of a parameter
abbrev pub param_name : Param → List ℕ
param_name param.OctetAlign = codes "octet-align"
param_name param.ModeSet = codes "mode-set"
param_name param.Period = codes "mode-change-period"
param_name param.Capability = codes "mode-change-capability"
param_name param.Neighbor = codes "mode-change-neighbor"
param_name param.Crc = codes "crc"
param_name param.Sorting = codes "robust-sorting"
param_name param.Interleaving = codes "interleaving"
param_name param.MaxRed = codes "max-red"

-- the name of a reason
abbrev pub why_name : Why → List ℕ
why_name why.Codec = codes "codec"
why_name why.Channels = codes "channels"
why_name why.Crc = codes "crc"
why_name why.Sorting = codes "sorting"
why_name why.Interleaving = codes "interleaving"
why_name why.Modes = codes "modes"

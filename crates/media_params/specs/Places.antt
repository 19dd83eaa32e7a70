-- The places of the parameters in the table.
use Rattle.std.specs.Prelude.{ℕ}
use Rattle.refusals.specs.declared.param.Param.{Param}
use Rattle.refusals.specs.declared.param.Param.TheVariants as param

-- the place of a parameter in the table
abbrev pub place : Param → ℕ
place p = elim p [
  | param.OctetAlign ↦ 0
  | param.ModeSet ↦ 1
  | param.Period ↦ 2
  | param.Capability ↦ 3
  | param.Neighbor ↦ 4
  | param.Crc ↦ 5
  | param.Sorting ↦ 6
  | param.Interleaving ↦ 7
  | param.MaxRed ↦ 8
]

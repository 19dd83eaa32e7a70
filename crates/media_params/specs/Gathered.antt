-- Texts that are gathered piece by piece, with the same octets between each two.
use Rattle.std.specs.Prelude.{ℕ, List, [], ◌∷◌, ◌++◌, codes, Option, Some, None, option_map}
use Rattle.refusals.specs.Names.{param_name}
use Rattle.refusals.specs.declared.param.Param.{Param}

-- a text as it stands before another piece: where it has one, with what stands between behind it
abbrev pub parted : List ℕ → List ℕ → List ℕ
parted between [] = []
parted between (o ∷ text) = (o ∷ text) ++ between

-- a text and another piece, if there is one
abbrev pub added : List ℕ → List ℕ → Option (List ℕ) → List ℕ
added between text None = text
added between text (Some piece) = parted between text ++ piece

-- a text of parameters and another parameter, if it has a value
abbrev pub with_param : Param → Option (List ℕ) → List ℕ → List ℕ
with_param p value text =
    added (codes "; ") text (option_map (λ v. param_name p ++ codes "=" ++ v) value)

-- The first of several answers. A refusal is the first rule of a list that holds.
use Rattle.std.specs.Prelude.{Bool, cond, List, [], ◌∷◌, Option, Some, None}

-- an answer where something holds
abbrev pub when : {X : Type 0} → Bool → X → Option X
when holds answer = cond holds (Some answer) None

-- the first answer of a list that there is
abbrev pub first : {X : Type 0} → List (Option X) → Option X
first [] = None
first (None ∷ answers) = first answers
first (Some answer ∷ answers) = Some answer

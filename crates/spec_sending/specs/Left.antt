-- What is left of a list where some of it is lost.
use Rattle.std.specs.Prelude.{Bool, true, false, List, [], ◌∷◌}

-- the elements whose truth value, at the same place, is true
abbrev pub left : {X : Type 0} → List Bool → List X → List X
left [] xs = []
left (v ∷ vs) [] = []
left (true ∷ vs) (x ∷ xs) = x ∷ left vs xs
left (false ∷ vs) (x ∷ xs) = left vs xs

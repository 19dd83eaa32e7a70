-- What a longer session keeps.
use Rattle.std.specs.Prelude.{◌≡◌, List, ◌∷◌, ◌++◌, ℤ, Some}
use Rattle.std.specs.List.{AllByRecursion}
use Rattle.session_laws.specs.Later.{Later}
use Rattle.spec_segments.specs.Segments.{Segments, all_of}
use Rattle.spec_session.specs.Session.{Rules, Accepted, horizon_of}

-- the second list begins with the first
abbrev pub IsFront : {X : Type 0} → List X → List X → Type 0
IsFront {X} front whole = (rest : List X) × (whole ≡ front ++ rest)

-- the closed segments stay; the last one goes on with packets that are accepted at its horizon or
-- later, and further segments may have begun behind it
pub record Keeps (rules : Rules) (s t : Segments) : Type 0 where
  pub later : List Accepted
  pub begun : List (List Accepted)
  pub segments : all_of t ≡ s.closed ++ (s.last ++ later) ∷ begun
  pub past : (z : ℤ) → horizon_of rules s.last ≡ Some z → AllByRecursion (Later z) later

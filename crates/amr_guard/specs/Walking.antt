-- A walk over the octets in plain order: where the next ones go, and what is done.
use Rattle.std.specs.Prelude.{◌≡◌, ℕ, ◌+◌, ◌<◌, ◌≤◌, cond, min, nat_lt, List, length, take, slice_index}
use Rattle.std.specs.List.{sum_by, count_by}
use Rattle.amr_guard.specs.Sorting.{IsOctet, plain_place, robust_place}

-- where octet `octet` of frame `frame` goes in the robust order: behind all octets with a lower
-- number and behind the octets with this number of the frames before
abbrev pub next_place : List ℕ → ℕ → ℕ → ℕ
next_place lengths frame octet =
    sum_by (λ l. min l octet) lengths + count_by (λ l. nat_lt octet l) (take frame lengths)

-- the places to which the octets of frame `frame` go, by their numbers
abbrev pub AreNext : List ℕ → ℕ → List ℕ → Type 0
AreNext lengths frame places =
    (length places ≡ 60)
    × ((octet : ℕ) → octet < 60 → slice_index places octet ≡ next_place lengths frame octet)

-- a walk has passed the first `octet` octets of frame `frame`, which may be all that it has: the
-- next ones go to these places, by their numbers
pub record StandsAt (lengths : List ℕ) (frame octet : ℕ) (places : List ℕ) : Type 0 where
  pub passed : octet ≤ slice_index lengths frame
  pub size : length places ≡ 60
  pub next : (o : ℕ) → o < 60
      → slice_index places o ≡ next_place lengths frame o + cond (nat_lt o octet) 1 0

-- the octet at place `at` of the plain order stands at place `place` of the robust order
pub record GoesTo (lengths : List ℕ) (at place : ℕ) : Type 0 where
  pub frame : ℕ
  pub octet : ℕ
  pub exists : IsOctet lengths frame octet
  pub from : plain_place lengths frame octet ≡ at
  pub to : robust_place lengths frame octet ≡ place

-- the first `done` octets of `plain` stand in `sorted` at their places of the robust order
abbrev pub AgreeUpTo : List ℕ → List ℕ → List ℕ → ℕ → Type 0
AgreeUpTo lengths plain sorted done = (frame octet : ℕ) → IsOctet lengths frame octet
    → plain_place lengths frame octet < done
    → slice_index sorted (robust_place lengths frame octet)
    ≡ slice_index plain (plain_place lengths frame octet)

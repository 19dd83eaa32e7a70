-- Octets told: what a read takes of those left in a source, what a write adds to those a sink got.
use Rattle.std.specs.Prelude.{◌≡◌, ℕ, ◌≤◌, ◌<◌, List, [], ◌++◌, length, take, ⊤, None, Some, MatchResult, ◌↔◌, Option, Result}
use Rattle.std.specs.Io.KnownBytes.{Keeps, Appends, Consumes}

-- where the octets left are told, n is 0 exactly where none is left
abbrev pub EndsAt : Option (List ℕ) → ℕ → Type 0
EndsAt None n = ⊤
EndsAt (Some xs) n = (n ≡ 0) ↔ (xs ≡ [])

-- a read: the first n octets left stand at the front of the buffer and are gone;
-- one that fails takes nothing
abbrev pub Reads : {E : Type 0} → Option (List ℕ) → Option (List ℕ) → Result ℕ E → List ℕ → Type 0
Reads left left' r buf = MatchResult r
    (λ n. (n ≤ length buf) × Consumes left left' (take n buf) × EndsAt left n)
    (λ _. Keeps left left')

-- a write: the first n octets, at least one, were added; one that fails adds nothing
abbrev pub Writes : {E : Type 0} → Option (List ℕ) → Option (List ℕ) → Result ℕ E → List ℕ → Type 0
Writes got got' r bytes = MatchResult r
    (λ n. (0 < n) × (n ≤ length bytes) × Appends got got' (take n bytes))
    (λ _. Keeps got got')

-- a proper prefix of the octets was added
abbrev pub AppendsPart : Option (List ℕ) → Option (List ℕ) → List ℕ → Type 0
AppendsPart got got' bytes = (n : ℕ) × (n < length bytes) × Appends got got' (take n bytes)

-- a front of the octets, it may be all of them, was added
abbrev pub AppendsFront : Option (List ℕ) → Option (List ℕ) → List ℕ → Type 0
AppendsFront got got' octets =
    (front : List ℕ) × (rest : List ℕ) × (octets ≡ front ++ rest) × Appends got got' front

-- Which of the packets that are sent for blocks carry a block: this project's own.
use Rattle.std.specs.Prelude.{◌≡◌, ℕ, ◌+◌, ◌*◌, ◌<◌, List, [], ◌∷◌, ◌⊎◌}
use Rattle.spec_sending.specs.Portions.{Portion}

-- an element of a list is so
abbrev pub Among : {X : Type 0} → (X → Type 0) → List X → Type 0
Among P [] = ⊥
Among P (x ∷ xs) = P x ⊎ Among P xs

-- block n is in a portion, as the one of this number in it
abbrev pub Carries : ℕ → Portion → Type 0
Carries n p = (k : ℕ) × (k < p.count) × (p.first + k * p.stride ≡ n)

-- each of the first m blocks is in a packet of these
abbrev pub CarryAll : ℕ → List (ℕ × Portion) → Type 0
CarryAll m packets = (n : ℕ) → n < m → Among (λ (x : ℕ × Portion). Carries n x.1) packets

-- What an inlet stands for, and what a fill does to it. It is ours.
use Rattle.std.specs.Prelude.{◌≡◌, ◌↔◌, ℕ, ◌+◌, ◌≤◌, ◌<◌, List, [], ◌∷◌, ◌++◌, length, Option, Result, Ok, Err, IfOk, IfSome}
use Rattle.std.specs.Io.KnownBytes.{Keeps, Consumes, IsAtEnd}
use Rattle.amr_io.specs.declared.gate.Gate.{Gate}
use Rattle.amr_io.specs.declared.gate.Gate.TheVariants as gate
use Rattle.amr_io.specs.declared.gate.Filled.{Filled}
use Rattle.amr_io.specs.declared.gate.Filled.TheVariants.{More, End, OverLimit}
use Rattle.amr_io.specs.declared.source.Failed.{Failed}
use Rattle.amr_io.specs.declared.source.Source as source
use Rattle.amr_io.specs.Fault.{HasCause}

-- the octets held, how many may be held, how many may be taken in all, how many were taken,
-- and whether more may come
pub record InletState : Type 0 where
  pub held : List ℕ
  pub size : ℕ
  pub limit : ℕ
  pub taken : ℕ
  pub gate : Gate

-- what was read was appended, within size and limit
abbrev pub FillsMore : Option (List ℕ) → Option (List ℕ) → InletState → InletState → ℕ → Type 0
FillsMore left left' old new count = (octets : List ℕ) × (length octets ≡ count) × (0 < count)
    × (old.taken + count ≤ old.limit) × (length old.held + count ≤ old.size)
    × Consumes left left' octets
    × (new ≡ record old { held = old.held ++ octets; taken = old.taken + count })

-- a read past the limit took one octet, which is not held
abbrev pub PassesLimit : Option (List ℕ) → Option (List ℕ) → InletState → InletState → Type 0
PassesLimit left left' old new = (octet : ℕ) × (old.taken ≡ old.limit)
    × Consumes left left' (octet ∷ []) × (new ≡ record old { gate = gate.OverLimit })

-- what a fill of an open inlet does, by its answer
abbrev pub Fills : Option (List ℕ) → Option (List ℕ) → InletState → InletState
    → Result Filled Failed → Type 0
Fills left left' old new (Ok (More count)) = FillsMore left left' old new count
Fills left left' old new (Ok End) = IsAtEnd left × Keeps left left'
    × (new ≡ record old { gate = gate.End })
Fills left left' old new (Ok OverLimit) = PassesLimit left left' old new
Fills left left' old new (Err _) = Keeps left left' × (new ≡ record old { gate = gate.Spent })

-- where the source tells its octets and the fill is served, this answer comes exactly where
-- the fact holds of the octets that were left
abbrev pub ComesExactly : Option (List ℕ) → Result Filled Failed → Filled → (List ℕ → Type 0)
    → Type 0
ComesExactly left r filled fact =
    IfSome left (λ octets. IfOk r (λ answer. (answer ≡ filled) ↔ fact octets))

-- one read into an inlet does what a fill does by its answer, and fails only where the source's
-- faults rose
pub record FillStep {S : Type 0} (k : source.Ghosts S) (old new : S) (before after : InletState)
    (result : Result Filled Failed) : Type 0 where
  pub fills : Fills (k.left old) (k.left new) before after result
  pub cause : HasCause (k.faults old) (k.faults new) result

-- What is done with a packet by its fate. This project's own.
use Rattle.std.specs.Prelude.{◌≡◌, ℕ, List, [], ◌∷◌, ◌++◌, Option, Some, None, option_to_list}
use Rattle.spec_trial.specs.Delivery.{Fate as SaidFate, Lost as SaidLost, Twice as SaidTwice, Held as SaidHeld, Once as SaidOnce}
use Rattle.trial_engine.specs.Tapes.{Delivers}
use Rattle.trial_engine.specs.declared.fate.Fate.{Fate}
use Rattle.trial_engine.specs.declared.fate.Fate.TheVariants.{Lost, Twice, Held, Once}
use Rattle.trial_engine.specs.declared.tape.Tape.{Tape}

abbrev pub said : Fate → SaidFate
said Lost = SaidLost
said Twice = SaidTwice
said Held = SaidHeld
said Once = SaidOnce

-- these packets were delivered, and behind them the one that was held
pub record Passes (held held' : Option (List ℕ)) (t t' : Tape) (packets : List (List ℕ))
    : Type 0 where
  pub none : held' ≡ None
  pub delivers : Delivers t t' (packets ++ option_to_list held)

-- a packet is held now, and nothing was delivered
pub record Holds (held' : Option (List ℕ)) (t t' : Tape) (packet : List ℕ) (count : ℕ)
    : Type 0 where
  pub packet_is : held' ≡ Some packet
  pub tape : t' ≡ t
  pub counted : count ≡ 1

-- a packet was delivered, and behind it the one that was held
pub record PassesOne (y : List ℕ) (held' : Option (List ℕ)) (t t' : Tape) (packet : List ℕ)
    (count : ℕ) : Type 0 where
  pub passes : Passes (Some y) held' t t' (packet ∷ [])
  pub counted : count ≡ 0

-- a packet was held where none was, else it was delivered; so many were held by this
abbrev pub HoldsOr : Option (List ℕ) → Option (List ℕ) → Tape → Tape → List ℕ → ℕ → Type 0
HoldsOr None held' t t' packet count = Holds held' t t' packet count
HoldsOr (Some y) held' t t' packet count = PassesOne y held' t t' packet count

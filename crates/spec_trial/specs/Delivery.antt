-- How the packets of a trial are delivered: at most one of them is held at a time, and goes out
-- behind the next one that is delivered, or at the end. Ours.
use Rattle.std.specs.Prelude.{ℕ, suc, ◌+◌, ◌%◌, ◌^◌, cond, nat_eq, List, [], ◌∷◌, ◌++◌, map, fold, zip, Option, Some, None}
use Rattle.std.specs.List.{range_with_len}
use Rattle.std.specs.Option.{option_to_list}
use Rattle.spec_trial.specs.Draws.{after, drawn}

-- what becomes of a packet; one that is to be held where another is held is delivered once
pub data Fate : Type 0 where
  Lost : Fate
  Twice : Fate
  Held : Fate
  Once : Fate

-- the fate of a draw of 16
abbrev pub fate_of : ℕ → Fate
fate_of n = cond (nat_eq n 0) Lost (cond (nat_eq n 1) Twice (cond (nat_eq n 2) Held Once))

-- where the generator of the delivery begins: one past the seed
abbrev pub delivery_seed : ℕ → ℕ
delivery_seed seed = (seed + 1) % 2 ^ 64

-- the fate of packet i, and those of so many packets
abbrev pub fate_at : ℕ → ℕ → Fate
fate_at seed i = fate_of (drawn (after (delivery_seed seed) (i + 1)) 16)

abbrev pub fates : ℕ → ℕ → List Fate
fates seed n = map (fate_at seed) (range_with_len 0 n)

-- what was delivered, what is held, and how many were lost, delivered twice, and put on hold
pub record Line (X : Type 0) : Type 0 where
  pub delivered : List X
  pub waiting : Option X
  pub lost : ℕ
  pub doubled : ℕ
  pub held : ℕ

-- these packets are delivered, and behind them the one that is held
abbrev pub past : {X : Type 0} → Line X → List X → Line X
past line xs = record line {
  delivered = line.delivered ++ xs ++ option_to_list line.waiting;
  waiting = None;
}

abbrev pub with_fate : {X : Type 0} → Line X → X → Fate → Line X
with_fate line x Lost = record line { lost = suc line.lost }
with_fate line x Twice = record (past line (x ∷ x ∷ [])) { doubled = suc line.doubled }
with_fate line x Once = past line (x ∷ [])
with_fate line x Held = elim line.waiting [
  | None ↦ record line { waiting = Some x; held = suc line.held }
  | Some y ↦ past line (x ∷ [])
]

-- nothing was given to the line yet
abbrev pub fresh_line : {X : Type 0} → Line X
fresh_line = record { delivered = []; waiting = None; lost = 0; doubled = 0; held = 0 }

-- packets with these fates, in order, where more may follow
abbrev pub on_line : {X : Type 0} → List X → List Fate → Line X
on_line xs fs = fold (λ line p. with_fate line p.0 p.1) fresh_line (zip xs fs)

-- packets with these fates, in order, and no more
abbrev pub delivery : {X : Type 0} → List X → List Fate → Line X
delivery xs fs = past (on_line xs fs) []

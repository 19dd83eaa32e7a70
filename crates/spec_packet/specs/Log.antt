-- Logs of packets (RFC 4571, 2): each packet behind its length in 16 bits, one after the other.
use Rattle.std.specs.Prelude.{◌≡◌, ℕ, ◌+◌, ◌*◌, ◌/◌, ◌%◌, ◌<◌, ◌^◌, Bool, false, cond, nat_eq, List, [], ◌∷◌, ◌++◌, length, drop, flat_map, fold, ⊤}
use Rattle.std.specs.List.{AllByRecursion}

-- a packet as a record of a log
abbrev pub framed : List ℕ → List ℕ
framed packet = (length packet / 256) ∷ (length packet % 256) ∷ packet

-- the log of packets
abbrev pub log_of : List (List ℕ) → List ℕ
log_of packets = flat_map framed packets

-- less than a record: fewer than 2 octets, or fewer behind them than they tell
abbrev pub IsPartial : List ℕ → Type 0
IsPartial [] = ⊤
IsPartial (a ∷ []) = ⊤
IsPartial (a ∷ b ∷ rest) = length rest < 256 * a + b

-- the lengths of packets fit 16 bits
abbrev pub AreRecords : List (List ℕ) → Type 0
AreRecords packets = AllByRecursion (λ (packet : List ℕ). length packet < 2 ^ 16) packets

-- octets are the log of these packets, and then less than a record
pub record IsCut (octets : List ℕ) (packets : List (List ℕ)) (rest : List ℕ) : Type 0 where
  pub join : octets ≡ log_of packets ++ rest
  pub short : AreRecords packets
  pub partial : IsPartial rest

-- the packets of a log and what is left behind them
pub record Cut : Type 0 where
  pub packets : List (List ℕ)
  pub rest : List ℕ

abbrev pub is_whole : List ℕ → Bool
is_whole [] = false
is_whole (a ∷ []) = false
is_whole (a ∷ b ∷ rest) = nat_eq (length rest) (256 * a + b)

-- a log with an octet more: where what is left is a record now, it joins the packets
abbrev pub with_octet : Cut → ℕ → Cut
with_octet c octet = let rest = c.rest ++ octet ∷ [] in cond (is_whole rest)
    (record { packets = c.packets ++ drop 2 rest ∷ []; rest = [] })
    (record { packets = c.packets; rest = rest })

-- the cut of octets, to compute it: the one pair with IsCut
abbrev pub cut : List ℕ → Cut
cut octets = let empty : Cut = record { packets = []; rest = [] } in fold with_octet empty octets

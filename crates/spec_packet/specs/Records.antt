-- Records behind one another: each is a head of `head` octets, in which 16 bits from octet `at` on
-- tell how many octets follow it. The records of a packet log are those of RFC 4571, 2, with a head
-- of 2 octets and the length at octet 0.
use Rattle.std.specs.Prelude.{◌≡◌, ℕ, ◌+◌, ◌*◌, ◌≤◌, ◌<◌, Bool, cond, nat_eq, List, [], ◌∷◌, ◌++◌, length, get_or, fold}
use Rattle.std.specs.List.{AllByRecursion, concat}

-- how many octets the first record has, its head included, as far as the octets tell
abbrev pub size_of : ℕ → ℕ → List ℕ → ℕ
size_of head at octets = head + (256 * get_or octets at 0 + get_or octets (at + 1) 0)

-- the octets are one record, and its length stands in 16 bits
pub record IsRecord (head at : ℕ) (octets : List ℕ) : Type 0 where
  pub size : length octets ≡ size_of head at octets
  pub high : get_or octets at 0 < 256
  pub low : get_or octets (at + 1) 0 < 256

-- less than a record: fewer octets than a head, or fewer behind it than it tells
abbrev pub IsPartial : ℕ → ℕ → List ℕ → Type 0
IsPartial head at octets = length octets < size_of head at octets

-- at least a whole record
abbrev pub IsWhole : ℕ → ℕ → List ℕ → Type 0
IsWhole head at octets = size_of head at octets ≤ length octets

-- each is a record
abbrev pub AreRecords : ℕ → ℕ → List (List ℕ) → Type 0
AreRecords head at records = AllByRecursion (λ (octets : List ℕ). IsRecord head at octets) records

-- octets are these records, and then less than a record
pub record IsCut (head at : ℕ) (octets : List ℕ) (records : List (List ℕ)) (rest : List ℕ)
    : Type 0 where
  pub join : octets ≡ concat records ++ rest
  pub whole : AreRecords head at records
  pub partial : IsPartial head at rest

-- records, and what is left behind them
pub record Cut : Type 0 where
  pub records : List (List ℕ)
  pub rest : List ℕ

-- there are as many octets as the first record has
abbrev pub has_size : ℕ → ℕ → List ℕ → Bool
has_size head at octets = nat_eq (length octets) (size_of head at octets)

-- a cut with an octet more: where what is left is a record now, it joins the records
abbrev pub with_octet : ℕ → ℕ → Cut → ℕ → Cut
with_octet head at c octet = let rest = c.rest ++ octet ∷ [] in cond (has_size head at rest)
    (record { records = c.records ++ rest ∷ []; rest = [] })
    (record { records = c.records; rest = rest })

-- the cut of octets, to compute it: the one pair with IsCut
abbrev pub cut : ℕ → ℕ → List ℕ → Cut
cut head at octets = let empty : Cut = record { records = []; rest = [] } in
    fold (with_octet head at) empty octets

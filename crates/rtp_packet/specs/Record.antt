-- Records at the front of a log (RFC 4571, 2).
use Rattle.std.specs.Prelude.{◌≡◌, ℕ, ◌+◌, ◌*◌, ◌≤◌, ◌<◌, ◌^◌, List, [], ◌∷◌, ◌++◌, length}
use Rattle.spec_packet.specs.Log.{framed}

-- how many octets the first record has, its length included, as far as they tell
abbrev pub need : List ℕ → ℕ
need [] = 2
need (a ∷ []) = 2
need (a ∷ b ∷ rest) = 2 + (256 * a + b)

-- at least a whole record
abbrev pub IsWhole : List ℕ → Type 0
IsWhole octets = need octets ≤ length octets

-- a record with this packet stands first, within the first `room` octets
abbrev pub IsFirst : List ℕ → ℕ → List ℕ → Type 0
IsFirst octets room packet = (length packet < 2 ^ 16) × (2 + length packet ≤ room)
    × ((more : List ℕ) × (octets ≡ framed packet ++ more))

-- Records at the front of octets.
use Rattle.std.specs.Prelude.{◌≡◌, ℕ, ◌≤◌, List, ◌++◌, take, length}
use Rattle.spec_packet.specs.Records.{IsRecord}

-- the first n octets are a record
pub record StartsWith (head at : ℕ) (octets : List ℕ) (n : ℕ) : Type 0 where
  pub is : IsRecord head at (take n octets)
  pub within : n ≤ length octets
  pub some : head ≤ n

-- the record stands first, within the first `room` octets
pub record IsFirst (head at : ℕ) (octets : List ℕ) (room : ℕ) (first : List ℕ) : Type 0 where
  pub is : IsRecord head at first
  pub within : length first ≤ room
  pub behind : List ℕ
  pub join : octets ≡ first ++ behind

-- Where the octets of a sorted payload stand, row by row (RFC 4867, 4.4.4).
use Rattle.std.specs.Prelude.{◌≡◌, ℕ, ◌+◌, ◌^◌, ◌<◌, ◌≤◌, cond, nat_lt, List, length, slice_index}
use Rattle.amr_guard.specs.Sorting.{IsOctet}
use Rattle.amr_guard.specs.Walking.{next_place}

-- row o has the octet that holds octet o of frame k or, where that frame has none, of the next frame that has it
pub record AreRows (front : ℕ) (sizes : List ℕ) (k : ℕ) (rows : List ℕ) : Type 0 where
  pub all : length rows ≡ 60
  pub next : (f o : ℕ) → k ≤ f → IsOctet sizes f o
      → slice_index rows o ≡ front + next_place sizes k o

-- the first rows are octets of these
pub record CanGather (octets : List ℕ) (count : ℕ) (rows : List ℕ) : Type 0 where
  pub all : length rows ≡ 60
  pub few : count ≤ 60
  pub within : (o : ℕ) → o < count → slice_index rows o < length octets
  pub small : length octets < 2 ^ 16

-- the first rows stand one octet further
pub record MovedOn (count : ℕ) (old new : List ℕ) : Type 0 where
  pub all : length new ≡ 60
  pub moved : (o : ℕ) → o < 60 → slice_index new o ≡ slice_index old o + cond (nat_lt o count) 1 0

-- Where the entries of a table of contents stand in bits: each is as wide as the others (RFC 4867,
-- 4.3.2 and 4.4.2), and all are whole.
use Rattle.std.specs.Prelude.{ℕ, ◌+◌, ◌*◌, ◌≤◌}

-- 6 bits or 8, as formats have them
pub record IsWide (width : ℕ) : Type 0 where
  pub low : 6 ≤ width
  pub high : width ≤ 8

-- a table of so many entries is whole in so many bits
pub record HoldTable (bits width entries : ℕ) : Type 0 where
  pub wide : IsWide width
  pub some : 1 ≤ entries
  pub most : entries ≤ 384
  pub whole : entries * width ≤ bits

-- entry `at` can stand in a table: there are 384 before it at most
pub record IsPlaced (width at : ℕ) : Type 0 where
  pub wide : IsWide width
  pub few : at ≤ 384

-- entry `at` is whole in so many bits
pub record HoldEntry (bits width at : ℕ) : Type 0 where
  pub wide : IsWide width
  pub few : at ≤ 384
  pub whole : (at + 1) * width ≤ bits

-- The place of a timestamp: how many frame times it stands after the first packet's, near the horizon.
-- Timestamps have 32 bits and wrap (RFC 3550, 5.1); places are integers without a bound.
use Rattle.std.specs.Prelude.{◌≡◌, ℕ, ◌%◌, ◌^◌, ◌-◌, cond, nat_eq, ℤ, pos, negsuc, ◌+ℤ◌, ◌-ℤ◌, ◌*ℤ◌, ◌≤ℤ◌, ◌<ℤ◌, int_div, Option, Some, None}
use Rattle.std.specs.Int.{cast_signed, w32, int_rem_euclid}
use Rattle.std.specs.Int.RustNames.{unsigned_abs}

-- u is the place of the timestamp: it is u frame times after the origin but for whole turns of 2^32, and
-- in ticks it is from -2^31 on and below 2^31 away from the horizon
pub record IsPlaceOf (ticks origin timestamp : ℕ) (horizon u : ℤ) : Type 0 where
  pub turns : ℤ
  pub grid : pos timestamp ≡ (pos origin +ℤ pos ticks *ℤ u) +ℤ turns *ℤ pos (2 ^ 32)
  pub low : negsuc (2 ^ 31 - 1) ≤ℤ (pos ticks *ℤ (u -ℤ horizon))
  pub high : (pos ticks *ℤ (u -ℤ horizon)) <ℤ pos (2 ^ 31)

-- how far the timestamp is from the horizon's, as 32 bits with sign
abbrev pub apart : ℕ → ℕ → ℕ → ℤ → ℤ
apart ticks origin timestamp horizon =
    cast_signed w32 (unsigned_abs (int_rem_euclid (pos timestamp -ℤ (pos origin +ℤ pos ticks *ℤ horizon)) (pos (2 ^ 32))))

-- the place, to compute it: the one u with IsPlaceOf, where the timestamp is on the grid of frame times
abbrev pub place_near : ℕ → ℕ → ℕ → ℤ → Option ℤ
place_near ticks origin timestamp horizon = let d = apart ticks origin timestamp horizon in
    cond (nat_eq (unsigned_abs d % ticks) 0) (Some (horizon +ℤ int_div d (pos ticks))) None

-- Sets of speech modes (RFC 4867, 8.1 and 8.2, mode-set; the modes are those of 3GPP TS 26.101
-- and TS 26.201). A set is given as the list of its modes, rising.
use Rattle.std.specs.Prelude.{◌≡◌, ℕ, ◌/◌, ◌%◌, ◌^◌, ◌<◌, max, Bool, nat_eq, List, length, filter, fold, map, sum}
use Rattle.std.specs.List.{range_with_len, list_any, list_all}
use Rattle.amr_frame.specs.declared.codec.Codec.{Codec}
use Rattle.amr_frame.specs.Tables.{is_mode}

-- all modes of the codec: 0 to 7 of AMR, 0 to 8 of AMR-WB
abbrev pub all_modes : Codec → List ℕ
all_modes codec = filter (is_mode codec) (range_with_len 0 16)

-- whether a mode is among these
abbrev pub has : List ℕ → ℕ → Bool
has modes mode = list_any (λ m. nat_eq m mode) modes

-- the modes of the codec that are among some numbers, in whatever order and however often they
-- stand there
abbrev pub modes_among : Codec → List ℕ → List ℕ
modes_among codec numbers = filter (has numbers) (all_modes codec)

-- a set of modes of the codec: at least one, rising, each once
pub record IsModeSet (codec : Codec) (modes : List ℕ) : Type 0 where
  pub some : 0 < length modes
  pub rising : modes_among codec modes ≡ modes

-- each mode of the one set is in the other
abbrev pub within : List ℕ → List ℕ → Bool
within modes others = list_all (has others) modes

-- the greatest of modes
abbrev pub greatest : List ℕ → ℕ
greatest modes = fold max 0 modes

-- the modes that the bits of a number stand for: bit m for mode m
abbrev pub modes_in : ℕ → List ℕ
modes_in bits = filter (λ m. nat_eq (bits / 2 ^ m % 2) 1) (range_with_len 0 16)

-- the number whose bits stand for modes
abbrev pub bits_for : List ℕ → ℕ
bits_for modes = sum (map (λ m. 2 ^ m) modes)

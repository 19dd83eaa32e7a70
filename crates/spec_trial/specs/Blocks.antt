-- The blocks of a trial, made from a number. For each frame a draw of 16 says what it is: 0 to 12
-- and 15 speech, 15 with Q = 0; 13 a silence descriptor; 14 NO_DATA. Speech draws its mode, and
-- each frame its octets. Ours.
use Rattle.std.specs.Prelude.{ℕ, ◌+◌, ◌*◌, Bool, true, false, cond, nat_eq, List, [], ◌∷◌, ◌++◌, length, map, take, fold}
use Rattle.std.specs.List.{range_with_len}
use Rattle.amr_bits.specs.Bits.{bits_of, part}
use Rattle.amr_frame.specs.declared.codec.Codec.{Codec}
use Rattle.amr_frame.specs.declared.codec.Codec.TheVariants.{Amr, AmrWb}
use Rattle.amr_frame.specs.Frames.{Frame, no_data}
use Rattle.amr_frame.specs.Tables.{bits_in, octets_in}
use Rattle.spec_modes.specs.ModeSets.{all_modes}
use Rattle.spec_trial.specs.Draws.{after, drawn, next}

-- frames that were made, and the state of the generator after them
pub record Made : Type 0 where
  pub frames : List Frame
  pub state : ℕ

-- the type of a silence descriptor (3GPP TS 26.101 and TS 26.201)
abbrev pub sid_type : Codec → ℕ
sid_type Amr = 8
sid_type AmrWb = 9

-- the octets of a frame, a draw of 256 for each
abbrev pub octets_drawn : ℕ → ℕ → List ℕ
octets_drawn x n = map (λ i. drawn (after x (i + 1)) 256) (range_with_len 0 n)

-- a frame of this type and Q, from the state before its octets
abbrev pub frame_drawn : Codec → ℕ → Bool → ℕ → Made
frame_drawn codec ft q x = record {
  frames = record {
    ft = ft;
    q = q;
    bits = take (bits_in codec ft) (bits_of (octets_drawn x (octets_in codec ft)));
  } ∷ [];
  state = after x (octets_in codec ft);
}

-- a frame of speech, from the state before its mode
abbrev pub speech_drawn : Codec → Bool → ℕ → Made
speech_drawn codec q x = frame_drawn codec (drawn (next x) (length (all_modes codec))) q (next x)

-- what a draw of 16 says a frame is, from the state after that draw
abbrev pub frame_of_draw : Codec → ℕ → ℕ → Made
frame_of_draw codec x n =
    cond (nat_eq n 13) (frame_drawn codec (sid_type codec) true x)
    (cond (nat_eq n 14) (record { frames = no_data ∷ []; state = x })
    (speech_drawn codec (cond (nat_eq n 15) false true) x))

-- one frame
abbrev pub frame_made : Codec → ℕ → Made
frame_made codec x = frame_of_draw codec (next x) (drawn (next x) 16)

-- frames and one more
abbrev pub one_more : Codec → Made → ℕ → Made
one_more codec m k = let f = frame_made codec m.state in
    record { frames = m.frames ++ f.frames; state = f.state }

-- nothing was made yet, and this is the state of the generator
abbrev pub none_made : ℕ → Made
none_made x = record { frames = []; state = x }

-- so many frames more
abbrev pub made_from : Codec → Made → ℕ → Made
made_from codec m n = fold (one_more codec) m (range_with_len 0 n)

-- so many frames
abbrev pub frames_made : Codec → ℕ → ℕ → List Frame
frames_made codec seed n = (made_from codec (none_made seed) n).frames

-- so many blocks: in each, the channels in order
abbrev pub blocks_made : Codec → ℕ → ℕ → ℕ → List (List Frame)
blocks_made codec channels seed count = let frames = frames_made codec seed (count * channels) in
    map (λ b. part (b * channels) channels frames) (range_with_len 0 count)

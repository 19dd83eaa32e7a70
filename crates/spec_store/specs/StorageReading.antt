-- Storage files by places (RFC 4867, 5): what they hold, what of it stands before a fault, and the
-- first unit at fault, T1 to T5 (ours), a unit being the magic number, the channel description or a
-- frame.
use Rattle.std.specs.Prelude.{ℕ, ◌+◌, ◌-◌, ◌*◌, ◌/◌, ◌%◌, Bool, not, cond, ◌&&◌, ◌||◌, nat_eq, nat_lt, List, [], ◌∷◌, ◌++◌, length, map, take, drop, slice_index, Option, fold, sum, position, bytes_eq}
use Rattle.std.specs.List.{range_with_len}
use Rattle.std.specs.Option.{option_map, unwrap_or}
use Rattle.amr_bits.specs.Bits.{bit_at, bits_at, number_at, part}
use Rattle.amr_frame.specs.declared.codec.Codec.{Codec}
use Rattle.amr_frame.specs.First.{when, first}
use Rattle.amr_frame.specs.Frames.{Frame}
use Rattle.amr_frame.specs.Tables.{bits_in, octets_in, is_reserved}
use Rattle.refusals.specs.declared.store.StoreRefusal.{StoreRefusal}
use Rattle.refusals.specs.declared.store.StoreRefusal.TheVariants as why
use Rattle.spec_store.specs.StorageFile.{single, multi}

-- whether a file begins with a magic number, and whether it is itself a front of one
abbrev pub begins_with : List ℕ → List ℕ → Bool
begins_with magic file = bytes_eq magic (take (length magic) file)

abbrev pub is_front_of : List ℕ → List ℕ → Bool
is_front_of magic file = bytes_eq file (take (length file) magic)

-- whether the file begins with a magic number of the codec, or may do so with more octets
abbrev pub has_magic : Codec → List ℕ → Bool
has_magic codec file = begins_with (single codec) file || begins_with (multi codec) file

abbrev pub may_have_magic : Codec → List ℕ → Bool
may_have_magic codec file = is_front_of (single codec) file || is_front_of (multi codec) file

-- the lengths of the magic number and of the whole header, and the number of channels that it tells
abbrev pub magic_len : Codec → List ℕ → ℕ
magic_len codec file =
    length (cond (begins_with (multi codec) file) (multi codec) (single codec))

abbrev pub header_len : Codec → List ℕ → ℕ
header_len codec file =
    cond (begins_with (multi codec) file) (magic_len codec file + 4) (magic_len codec file)

abbrev pub channels_told : Codec → List ℕ → ℕ
channels_told codec file =
    cond (begins_with (multi codec) file) (slice_index file (magic_len codec file + 3) % 16) 1

-- whether the header is whole, and whether it is that of the codec and the channels
abbrev pub has_header : Codec → List ℕ → Bool
has_header codec file = has_magic codec file && not (nat_lt (length file) (header_len codec file))

abbrev pub has_header_of : Codec → ℕ → List ℕ → Bool
has_header_of codec channels file =
    has_header codec file && nat_eq (channels_told codec file) channels

-- octets cut into frames, each given as its octets, and less than a frame
pub record Units : Type 0 where
  pub whole : List (List ℕ)
  pub rest : List ℕ

abbrev pub unit_type : List ℕ → ℕ
unit_type unit = number_at unit 1 4

-- whether octets are one frame
abbrev pub is_unit : Codec → List ℕ → Bool
is_unit codec octets = nat_eq (length octets) (1 + octets_in codec (unit_type octets))

-- octets with one more: where what is left is a frame now, it joins the whole ones
abbrev pub with_octet : Codec → Units → ℕ → Units
with_octet codec u octet = let rest = u.rest ++ octet ∷ [] in
    cond (is_unit codec rest)
    (record { whole = u.whole ++ rest ∷ []; rest = [] })
    (record { whole = u.whole; rest = rest })

abbrev pub units : Codec → List ℕ → Units
units codec octets = let none : Units = record { whole = []; rest = [] } in
    fold (with_octet codec) none octets

-- the frames behind a whole header
abbrev pub units_in : Codec → List ℕ → Units
units_in codec file =
    units codec (cond (has_header codec file) (drop (header_len codec file) file) [])

-- where frame k begins
abbrev pub unit_place : Codec → List ℕ → ℕ → ℕ
unit_place codec file k =
    header_len codec file + sum (map length (take k (units_in codec file).whole))

abbrev pub is_reserved_unit : Codec → List ℕ → Bool
is_reserved_unit codec unit = is_reserved codec (unit_type unit)

-- the number of the first frame of a reserved type
abbrev pub first_reserved : Codec → List (List ℕ) → Option ℕ
first_reserved codec us = position (is_reserved_unit codec) us

-- T1, T2 and T3: what the octets show, whatever follows them
abbrev pub shown_refusal : Codec → ℕ → List ℕ → Option StoreRefusal
shown_refusal codec channels file = let us = (units_in codec file).whole in first (
    when (not (has_magic codec file) && not (may_have_magic codec file)) why.Magic
    ∷ when (has_header codec file && not (nat_eq (channels_told codec file) channels))
    (why.Channels (channels_told codec file))
    ∷ option_map (λ k. why.Reserved (unit_place codec file k) (slice_index (map unit_type us) k))
    (first_reserved codec us) ∷ [])

-- T1, T4 and T5: what the end of the octets cuts
abbrev pub cut_refusal : Codec → ℕ → List ℕ → Option StoreRefusal
cut_refusal codec channels file = let u = units_in codec file in let n = length u.whole in first (
    when (not (has_magic codec file)) why.Magic
    ∷ when (not (has_header codec file)) (why.Truncated (magic_len codec file))
    ∷ when (nat_lt 0 (length u.rest)) (why.Truncated (unit_place codec file n))
    ∷ when (nat_lt 0 (n % channels))
    (why.BlockRest (unit_place codec file (n - n % channels))) ∷ [])

-- the first unit at fault
abbrev pub store_refusal : Codec → ℕ → List ℕ → Option StoreRefusal
store_refusal codec channels file =
    first (shown_refusal codec channels file ∷ cut_refusal codec channels file ∷ [])

-- a frame by its octets
abbrev pub frame_in : Codec → List ℕ → Frame
frame_in codec unit = record {
  ft = unit_type unit;
  q = bit_at unit 5;
  bits = bits_at unit 8 (bits_in codec (unit_type unit));
}

-- the frames before the first of a reserved type
abbrev pub frames_in : Codec → List ℕ → List Frame
frames_in codec file = let us = (units_in codec file).whole in
    map (frame_in codec) (take (unwrap_or (first_reserved codec us) (length us)) us)

-- the whole blocks of frames
abbrev pub blocks_of : ℕ → List Frame → List (List Frame)
blocks_of channels frames =
    map (λ k. part (k * channels) channels frames) (range_with_len 0 (length frames / channels))

-- the whole blocks before the first unit at fault: none where the header is at fault
abbrev pub blocks_in : Codec → ℕ → List ℕ → List (List Frame)
blocks_in codec channels file =
    cond (has_header_of codec channels file) (blocks_of channels (frames_in codec file)) []

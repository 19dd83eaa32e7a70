-- How a payload that is read is listed (RFC 4867, 4.3 and 4.4): what it says, its frames as the
-- table of contents has them, and, where they are asked for, the bits of its frames. These texts
-- are this project's own.
use Rattle.std.specs.Prelude.{ℕ, ◌/◌, Bool, not, cond, ◌&&◌, nat_eq, List, [], ◌++◌, length, take, filter, flat_map, slice_index, slice_index_or, codes, decimal}
use Rattle.std.specs.List.{range_with_len, join_by}
use Rattle.amr_bits.specs.Bits.{filled}
use Rattle.amr_frame.specs.declared.profile.Profile.{Profile}
use Rattle.amr_frame.specs.Frames.{Frame, no_data}
use Rattle.hex.specs.Hex.{encode_lower}
use Rattle.spec_listing.specs.Refusals.{field}
use Rattle.spec_payload.specs.Grammar.{check_of}
use Rattle.spec_payload.specs.Reading.{checks_at, value_at}
use Rattle.spec_payload.specs.Values.{Value, has_bits}

-- frame k of a value
abbrev pub frame_of : Value → ℕ → Frame
frame_of v k = slice_index_or v.frames k no_data

-- the CRC that came for frame k: each frame that has bits takes the next
abbrev pub check_for : List ℕ → Value → ℕ → ℕ
check_for checks v k = slice_index checks (length (filter has_bits (take k v.frames)))

-- whether frame k has a CRC that differs
abbrev pub is_damaged : Profile → List ℕ → Value → ℕ → Bool
is_damaged p checks v k =
    p.crc && (has_bits (frame_of v k)
    && not (nat_eq (check_for checks v k) (check_of p (frame_of v k))))

-- 0 or 1
abbrev pub bit : Bool → ℕ
bit b = cond b 1 0

-- frame k: its type and its Q as they stand in the table, and a mark where it is damaged
abbrev pub frame_text : Profile → List ℕ → Value → ℕ → List ℕ
frame_text p checks v k = decimal (frame_of v k).ft ++ codes "/" ++ decimal (bit (frame_of v k).q)
    ++ cond (is_damaged p checks v k) (codes "!") []

-- the numbers of the frames, in the order of the table
abbrev pub frame_numbers : Value → List ℕ
frame_numbers v = range_with_len 0 (length v.frames)

-- a payload that is read, and the mode of the desk after it
abbrev pub payload_text : Profile → List ℕ → Value → ℕ → List ℕ
payload_text p checks v mode =
    field (codes "cmr") v.cmr ++ field (codes "mode") mode
    ++ field (codes "stride") v.stride ++ field (codes "index") v.index
    ++ field (codes "blocks") (length v.frames / p.channels)
    ++ codes " frames=" ++ join_by (frame_text p checks v) (codes ",") (frame_numbers v)

-- the line of the bits of frame k, where it has any: its octets in hexadecimal, filled with zero
-- bits
abbrev pub bits_line : Value → ℕ → List ℕ
bits_line v k = cond (has_bits (frame_of v k))
    (codes "bits" ++ codes " " ++ decimal k ++ codes " "
    ++ encode_lower (filled (frame_of v k).bits) ++ codes "\n") []

-- the lines of the bits of all frames
abbrev pub bits_lines : Value → List ℕ
bits_lines v = flat_map (bits_line v) (frame_numbers v)

-- what the octets of a payload that isn't refused are listed as: the end of its line, and the
-- lines of its bits
abbrev pub listed_payload : Profile → Bool → ℕ → List ℕ → List ℕ
listed_payload p bits mode octets = let v = value_at p octets in
    payload_text p (checks_at p octets) v mode ++ codes "\n" ++ cond bits (bits_lines v) []

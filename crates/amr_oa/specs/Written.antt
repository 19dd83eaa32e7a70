-- An octet-aligned payload that is written, part by part (RFC 4867, 4.4).
use Rattle.std.specs.Prelude.{◌≡◌, ℕ, ◌+◌, Bool, true, false, cond, ◌&&◌, nat_lt, max, List, [], ◌∷◌, ◌++◌, length, map, slice_index, flat_map, fold, take}
use Rattle.std.specs.List.{range_with_len}
use Rattle.amr_bits.specs.Bits.{bits_of, filled, nat, octets_for}
use Rattle.amr_bits.specs.Layout.{fixed, free, settled}
use Rattle.amr_frame.specs.declared.profile.Profile.{Profile}
use Rattle.amr_frame.specs.Frames.{Frame}
use Rattle.amr_toc.specs.Entries.{table_part}
use Rattle.spec_payload.specs.Grammar.{check_of, interleaving_octet}
use Rattle.spec_payload.specs.Values.{Value, has_bits, octet_counts}

-- the bits before the table: the codec mode request, and ILL and ILP where the format interleaves
abbrev pub header_part : Profile → Value → List Bool
header_part p v =
    map settled (fixed (nat 4 v.cmr) ++ free 4 ++ interleaving_octet p.interleaving v)

-- the CRC of a frame, where it has one
abbrev pub check_part : Profile → Frame → List ℕ
check_part p f = cond (p.crc && has_bits f) (check_of p f ∷ []) []

-- the CRCs
abbrev pub checks_part : Profile → List Frame → List ℕ
checks_part p frames = flat_map (check_part p) frames

-- the octets of a frame
abbrev pub frame_part : Frame → List ℕ
frame_part f = filled f.bits

-- the frames, one behind the other
abbrev pub plain_part : List Frame → List ℕ
plain_part frames = flat_map frame_part frames

-- octet o of a frame, where it has one
abbrev pub octet_part : ℕ → Frame → List ℕ
octet_part o f = cond (nat_lt o (octets_for (length f.bits)))
    (slice_index (filled f.bits) o ∷ []) []

-- octet o of each frame
abbrev pub row_part : List Frame → ℕ → List ℕ
row_part frames o = flat_map (octet_part o) frames

-- the most octets that a frame has
abbrev pub longest_of : List Frame → ℕ
longest_of frames = fold max 0 (octet_counts frames)

-- the frames in the robust order
abbrev pub sorted_part : List Frame → List ℕ
sorted_part frames = flat_map (row_part frames) (range_with_len 0 (longest_of frames))

-- the frames in the order of the format
abbrev pub body_part : Bool → List Frame → List ℕ
body_part false frames = plain_part frames
body_part true frames = sorted_part frames

-- the octets behind the table
abbrev pub behind_table : Profile → List Frame → List ℕ
behind_table p frames = checks_part p frames ++ body_part p.sorting frames

-- all bits
abbrev pub written_as : Profile → Value → List Bool
written_as p v =
    header_part p v ++ table_part 8 v.frames ++ bits_of (behind_table p v.frames)

-- these octets were written from `start` on, behind those that stood before, and end at `end`
pub record PutAt (old : List ℕ) (start : ℕ) (part new : List ℕ) (end : ℕ) : Type 0 where
  pub at : end ≡ start + length part
  pub octets : take end new ≡ take start old ++ part

-- The payload formats (RFC 4867, 4.3 bandwidth-efficient, 4.4 octet-aligned), one relation between
-- a format, a value, the CRCs that the payload carries, and its octets.
use Rattle.std.specs.Prelude.{◌≡◌, ℕ, ◌-◌, ◌*◌, ◌<◌, Bool, true, false, cond, List, [], ◌∷◌, ◌++◌, length, map, filter, slice_index_or, take, flat_map, Option, Some, None}
use Rattle.std.specs.List.{AllByRecursion}
use Rattle.amr_bits.specs.Bits.{nat, bits_of, part, filled, number}
use Rattle.amr_bits.specs.Layout.{Mark, fixed, free, padded, fits, settled}
use Rattle.amr_frame.specs.declared.profile.Profile.{Profile}
use Rattle.amr_frame.specs.Frames.{Frame, no_data}
use Rattle.amr_frame.specs.Tables.{class_a_in}
use Rattle.spec_payload.specs.FrameCrc.{crc_of}
use Rattle.spec_payload.specs.RobustOrder.{Place, order}
use Rattle.spec_payload.specs.Values.{Value, IsValue, has_bits, octet_counts}

-- an entry of the table of contents: F, the type, Q, and `gap` free bits; F = 1 where more entries
-- follow
abbrev pub entry : ℕ → Frame → Bool → List Mark
entry gap f more = fixed (more ∷ nat 4 f.ft ++ f.q ∷ []) ++ free gap

-- the table of contents
abbrev pub table : ℕ → List Frame → List Mark
table gap [] = []
table gap (f ∷ []) = entry gap f false
table gap (f ∷ g ∷ fs) = entry gap f true ++ table gap (g ∷ fs)

-- ILL, which is the stride less one, and ILP, where the format interleaves
abbrev pub interleaving_octet : Option ℕ → Value → List Mark
interleaving_octet None v = []
interleaving_octet (Some most) v = fixed (nat 4 (v.stride - 1) ++ nat 4 v.index)

-- one octet of a frame, the last being filled with free bits
abbrev pub octet_at : List Frame → Place → List Mark
octet_at frames p =
    part (8 * p.octet) 8 (padded (fixed (slice_index_or frames p.frame no_data).bits))

-- the bits of a bandwidth-efficient payload
abbrev pub packed_layout : Value → List Mark
packed_layout v =
    padded (fixed (nat 4 v.cmr) ++ table 0 v.frames
    ++ flat_map (λ (f : Frame). fixed f.bits) v.frames)

-- the bits of an octet-aligned payload with these CRCs
abbrev pub aligned_layout : Profile → Value → List ℕ → List Mark
aligned_layout p v checks =
    fixed (nat 4 v.cmr) ++ free 4 ++ interleaving_octet p.interleaving v ++ table 2 v.frames
    ++ fixed (bits_of checks)
    ++ flat_map (octet_at v.frames) (order p.sorting (octet_counts v.frames))

-- the bits of a payload, each fixed or free
abbrev pub layout : Profile → Value → List ℕ → List Mark
layout p v checks = cond p.octet_aligned (aligned_layout p v checks) (packed_layout v)

-- the CRC of a frame, over its first bits
abbrev pub check_of : Profile → Frame → ℕ
check_of p f = number (crc_of (take (class_a_in p.codec f.ft) f.bits))

-- the frames whose CRCs a payload carries, in the order of the table
abbrev pub checked : Profile → List Frame → List Frame
checked p frames = cond p.crc (filter has_bits frames) []

-- octets are a payload of the format that says v and carries these CRCs, right or wrong
pub record IsPayload (p : Profile) (v : Value) (checks octets : List ℕ) : Type 0 where
  pub value : IsValue p v
  pub as_many : length checks ≡ length (checked p v.frames)
  pub are_octets : AllByRecursion (λ c. c < 256) checks
  pub bits : fits (layout p v checks) (bits_of octets) ≡ true

-- the canonical payload of a value: free bits are 0, and the CRCs are those of the frames
abbrev pub text : Profile → Value → List ℕ
text p v = filled (map settled (layout p v (map (check_of p) (checked p v.frames))))

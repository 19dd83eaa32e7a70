-- What a payload says (RFC 4867, 4.3 and 4.4).
use Rattle.std.specs.Prelude.{◌≡◌, ℕ, ◌*◌, ◌<◌, ◌≤◌, Bool, nat_lt, List, length, map, Option, Some, None}
use Rattle.std.specs.List.{AllByRecursion}
use Rattle.amr_bits.specs.Bits.{octets_for}
use Rattle.amr_frame.specs.declared.profile.Profile.{Profile}
use Rattle.amr_frame.specs.Frames.{Frame, IsFrame}
use Rattle.amr_frame.specs.Profiles.{group_bound}

-- a codec mode request, how far apart the blocks stand, the payload's number in its group, and the
-- frames, block by block and within a block in channel order
pub record Value : Type 0 where
  pub cmr : ℕ
  pub stride : ℕ
  pub index : ℕ
  pub frames : List Frame

-- without interleaving the blocks follow one another; with it the group has at most so many blocks
abbrev pub FitsGroup : Option ℕ → ℕ → Value → Type 0
FitsGroup None blocks v = (v.stride ≡ 1) × (v.index ≡ 0)
FitsGroup (Some most) blocks v =
    (1 ≤ v.stride) × (v.stride ≤ 16) × (v.index < v.stride) × (blocks * v.stride ≤ most)

-- a value of a format: its frames are whole blocks, at least one and at most the format's most
pub record IsValue (p : Profile) (v : Value) : Type 0 where
  pub cmr : v.cmr < 16
  pub blocks : ℕ
  pub some : 1 ≤ blocks
  pub most : blocks ≤ p.max_blocks
  pub whole : length v.frames ≡ blocks * p.channels
  pub group : FitsGroup (group_bound p.interleaving) blocks v
  pub frames : AllByRecursion (IsFrame p.codec) v.frames

-- whether a frame has bits, as all but NO_DATA and SPEECH_LOST do
abbrev pub has_bits : Frame → Bool
has_bits f = nat_lt 0 (length f.bits)

-- the octets that hold each frame
abbrev pub octet_counts : List Frame → List ℕ
octet_counts frames = map (λ (f : Frame). octets_for (length f.bits)) frames

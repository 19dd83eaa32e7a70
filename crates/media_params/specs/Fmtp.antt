-- What media parameters stand for.
use Rattle.std.specs.Prelude.{ℕ, ◌<◌, ◌^◌, false, IfSome, Option, Some, None, option_map}
use Rattle.amr_frame.specs.Tables.{mode_bits}
use Rattle.amr_frame.specs.declared.codec.Codec.{Codec}
use Rattle.amr_frame.specs.declared.profile.Profile.{Profile}
use Rattle.amr_mode.specs.Members.{members}
use Rattle.amr_mode.specs.declared.mode_set.ModeSet.{ModeSet}
use Rattle.media_params.specs.declared.fmtp.Fmtp.{Fmtp}
use Rattle.spec_media.specs.Params.{Parameters}

-- the parameters of the definitions that these are
abbrev pub parameters : Fmtp → Parameters
parameters f = record {
  octet_aligned = f.octet_aligned;
  period = f.period;
  capability = f.capability;
  modes = option_map members f.modes;
  neighbor = f.neighbor;
  crc = f.crc;
  sorting = f.sorting;
  interleaving = f.interleaving;
  max_red = f.max_red;
}

-- the bits of the modes that may be sent
abbrev pub bits_of : Codec → Option ModeSet → ℕ
bits_of codec None = mode_bits codec
bits_of codec (Some set) = set.bits

-- the payload format of parameters
abbrev pub format_of : Fmtp → Codec → ℕ → ℕ → Profile
format_of f codec channels max_blocks = record {
  codec = codec;
  channels = channels;
  max_blocks = max_blocks;
  modes = bits_of codec f.modes;
  strict = false;
  octet_aligned = f.octet_aligned;
  interleaving = f.interleaving;
  crc = f.crc;
  sorting = f.sorting;
}

-- the bits of a set, if there is one, are a number of 16 bits
abbrev pub AreShort : Option ModeSet → Type 0
AreShort modes = IfSome modes (λ set. set.bits < 2 ^ 16)

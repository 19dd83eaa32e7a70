-- Formats whose payloads are alike.
use Rattle.std.proofs.Common.{◌≡◌}
use Rattle.amr_frame.specs.declared.profile.Profile.{Profile}
use Rattle.return_laws.specs.Recordings.{AreAlike}

-- the first format, with what of the second one doesn't show in payloads
abbrev pub like : Profile → Profile → Profile
like p q = record p { max_blocks = q.max_blocks; strict = q.strict; modes = q.modes }

pub alike_is : (p q : Profile) → AreAlike q p → q ≡ like p q
alike_is p q a = λ i. record {
  codec = a.codec i;
  channels = a.channels i;
  octet_aligned = a.octet_aligned i;
  crc = a.crc i;
  sorting = a.sorting i;
  interleaving = a.interleaving i;
  max_blocks = q.max_blocks;
  strict = q.strict;
  modes = q.modes;
}

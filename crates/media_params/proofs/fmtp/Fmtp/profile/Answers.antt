use Rattle.std.proofs.Common.{◌≡◌, rules}
use Rattle.amr_frame.specs.declared.profile.Profile.{Profile}
use Rattle.media_params.proofs.Valid.{valid_so}
use Rattle.media_params.specs.Fmtp.{format_of}
use Rattle.media_params.proofs.fmtp.Fmtp.profile.Goals as goal

pub returns-clause-valid : goal.returns-clause-valid
returns-clause-valid c = λ k low high some few.
    let f = c.args.self.now in
    let made : Profile = record {
      codec = c.plain.result.codec;
      channels = c.plain.result.channels;
      max_blocks = c.args.max_blocks;
      modes = c.match-self.modes;
      strict = c.plain.result.strict;
      octet_aligned = f.octet_aligned;
      interleaving = f.interleaving;
      crc = f.crc;
      sorting = f.sorting;
    } in
    let is : made ≡ format_of f c.args.codec c.args.channels c.args.max_blocks = search rules in
    valid_so made f c.args.codec c.args.channels c.args.max_blocks is c.tell_short.ensures k low high some few

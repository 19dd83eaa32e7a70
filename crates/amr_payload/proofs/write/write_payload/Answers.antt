use Rattle.amr_payload.proofs.Strictly.{taken_as_written}
use Rattle.amr_toc.specs.Payloads.{meant}
use Rattle.amr_payload.proofs.write.write_payload.Goals as goal

pub returns-then-profile-clause-taken : goal.returns-then-profile-clause-taken
returns-then-profile-clause-taken c =
    taken_as_written c.args.profile.now (meant c.args.payload.now) _ c.requires.valid c.requires.carried.value
    c.write_oa.ensures

pub returns-else-profile-clause-taken : goal.returns-else-profile-clause-taken
returns-else-profile-clause-taken c =
    taken_as_written c.args.profile.now (meant c.args.payload.now) _ c.requires.valid c.requires.carried.value
    c.write_be.ensures

use Rattle.std.proofs.Common.{arith}
use Rattle.std.proofs.lemmas.List.{length-map}
use Rattle.amr_frame.specs.Cells.{frame_of}
use Rattle.amr_oa.proofs.Canonical.{length-text}
use Rattle.amr_toc.specs.Payloads.{meant}
use Rattle.amr_toc.proofs.Carried.{at_least_one, few}
use Rattle.amr_oa.proofs.write.size_oa.Goals as goal

pub returns : goal.returns
returns c =
    let all = length-text c.args.profile.now (meant c.args.payload.now) c.requires.aligned c.requires.payload.carried.value in
    let size = length-map c.args.payload.now.cells.now frame_of in
    let head = c.header_octets.ensures.octets in
    let checks = c.check_octets.ensures.count in
    let body = c.body_octets.ensures.octets in
    let few_checks = c.check_octets.ensures.most in
    let few_octets = c.body_octets.ensures.most in
    let cells = few c.args.profile.now c.args.payload.now c.requires.payload.carried c.entries_within.ensures.most in
    let any = at_least_one c.args.profile.now c.args.payload.now c.requires.payload.carried c.entries_within.ensures.channels in
    let few_head = c.header_octets.ensures.most in
    record { exact = omega arith; some = omega arith; most = omega arith }

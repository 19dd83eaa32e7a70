use Rattle.std.proofs.Common.{◌++◌}
use Rattle.std.specs.Prelude.{Ok}
use Rattle.amr_oa.specs.Written.{body_part, checks_part}
use Rattle.amr_payload.specs.Octets.{header_part, table_part}
use Rattle.amr_payload.proofs.Comparing.{joined}
use Rattle.amr_toc.specs.Viewed.{octets_of, said}
use Rattle.amr_payload.proofs.compare.compare_aligned.Goals as goal

pub returns : goal.returns
returns c =
    let p = c.args.profile.now in
    let v = said c.args.view.now in
    let octets = octets_of c.args.view.now in
    let head = header_part p v in
    let table = table_part v.frames in
    let checks = checks_part p v.frames in
    let two = joined octets 0 head table c.in-Ok.end (Ok c.in-Ok-compare_part.end) c.in-Ok.ensures
    c.in-Ok-compare_part.ensures in
    let three = joined octets 0 (head ++ table) checks c.in-Ok-compare_part.end (Ok c.in-Ok-compare_part-2.end) two
    c.in-Ok-compare_part-2.ensures in
    joined octets 0 (head ++ table ++ checks) (body_part p.sorting v.frames) c.in-Ok-compare_part-2.end
    c.compare_body.result three c.compare_body.ensures

use Rattle.std.proofs.Common.{◌≡◌, ◌+◌, ◌-◌, length, take, drop, arith}
use Rattle.std.proofs.lemmas.List.{length-drop, length-take-le}
use Rattle.amr_bits.proofs.Filled.{length-filled}
use Rattle.amr_bits.proofs.Runs.{length-run}
use Rattle.amr_bits.specs.Runs.{kept}
use Rattle.amr_oa.proofs.body.put_frame.Goals as goal

pub slice_bounds-copy_to-end : goal.slice_bounds-copy_to-end
slice_bounds-copy_to-end c =
    let size = length-filled (kept c.args.cell.now.bits) in
    let one = c.octets_in.ensures.octets in
    let fits = c.requires in
    omega arith

pub copy_to-requires : goal.copy_to-requires
copy_to-requires c =
    let size = length-filled (kept c.args.cell.now.bits) in
    let one = c.octets_in.ensures.octets in
    let fits = c.requires in
    let n = c.octets_in.result in
    let out = c.args.out.now in
    let at = c.args.at in
    let d = length-drop at out in
    let t : length (take (at + n - at) (drop at out)) ≡ at + n - at = length-take-le (at + n - at) (drop at out) (omega arith) in
    let len = c.as_bits.ensures.len in
    let run = length-run c.args.cell.now.bits.octets 0 c.args.cell.now.bits.len in
    omega arith

use Rattle.std.proofs.Common.{sym, arith}
use Rattle.std.proofs.lemmas.Result.{on_err_weaker}
use Rattle.spec_packet.specs.Log.{framed}
use Rattle.rtp_packet.proofs.LogFronts.{behind_head, in_head, on_err}
use Rattle.rtp_packet.proofs.log_writer.write_record.Goals as goal

pub returns-in_err-write_whole-clause-part : goal.returns-in_err-write_whole-clause-part
returns-in_err-write_whole-clause-part g c =
    let packet = c.args.packet.now in
    let is = sym (c.log_head.ensures packet (omega arith)) in
    on_err c.from_residual.result (in_head _ _ (framed packet) c.log_head.result packet is c.in_err-write_whole.ensures.part)

pub returns-clause-part : goal.returns-clause-part
returns-clause-part g c =
    let packet = c.args.packet.now in
    let is = sym (c.log_head.ensures packet (omega arith)) in
    on_err_weaker c.write_whole-2.result
    (λ part. behind_head _ _ _ (framed packet) c.log_head.result packet is c.in_ok-write_whole.ensures.whole part)
    c.write_whole-2.ensures.part

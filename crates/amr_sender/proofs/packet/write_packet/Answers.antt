use Rattle.std.proofs.Common.{arith, rules}
use Rattle.amr_sender.proofs.Headed.{begun_with}
use Rattle.amr_toc.specs.Payloads.{meant}
use Rattle.spec_payload.specs.Grammar.{text}
use Rattle.amr_sender.proofs.packet.write_packet.Goals as goal

pub returns-clause-octets : goal.returns-clause-octets
returns-clause-octets c =
    let room = c.requires.room in
    let len = c.write_rtp.auto.out in
    let size = c.write_payload.auto.out in
    record {
      front = begun_with c.args.fields.now
          (text c.args.profile.now (meant c.args.payload.now)) c.write_rtp.new.out c.args.room.now
          c.write_payload.new.out c.size_payload-size.result c.requires.header (search rules) (search rules)
          (omega (arith, room))
          c.write_rtp.ensures.octets c.write_payload.ensures.text;
    }

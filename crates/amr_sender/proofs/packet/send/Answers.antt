use Rattle.std.proofs.Common.{ap, ◌∙◌, subst}
use Rattle.std.specs.Prelude.{OnErr, OnOk}
use Rattle.amr_frame.specs.Blocks.{frames_of}
use Rattle.amr_sender.proofs.Plans.{facts, value}
use Rattle.rtp_packet.specs.Written.{written}
use Rattle.amr_sender.proofs.packet.send.Goals as goal

pub fields_of-requires-clause-number : goal.fields_of-requires-clause-number
fields_of-requires-clause-number g c = (facts c.args.plan.now c.requires.plan).number

pub write_packet-size-requires-clause-carries : goal.write_packet-size-requires-clause-carries
write_packet-size-requires-clause-carries g c = record {
  valid = (facts c.args.plan.now c.requires.plan).format;
  carried = record {
    present = c.requires.cells.blocks.present;
    value = value c.args.plan.now c.args.head c.args.cells.now c.requires.plan c.requires.cells;
  };
}

pub returns : goal.returns
returns g c =
    let same = c.write_packet-size.ensures.octets.front
    ∙ ap written (c.fields_of.ensures.packet (frames_of c.args.cells.now)) in
    let put = c.put_packet.ensures in
    record {
      whole = subst (λ o. OnOk c.put_packet.result (g.P.PacketSink.whole c.args.out.now o c.put_packet.new.self))
          same put.whole;
      part = subst (λ o. OnErr c.put_packet.result (g.P.PacketSink.part c.args.out.now o c.put_packet.new.self)) same
          put.part;
      step = record { cause = put.cause; same = put.same; ready = put.ready };
    }

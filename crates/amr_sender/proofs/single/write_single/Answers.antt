use Rattle.std.proofs.Common.{[], ◌∷◌, ap, ◌∙◌}
use Rattle.amr_sender.proofs.Headed.{header_before}
use Rattle.amr_sender.proofs.Plans.{facts}
use Rattle.amr_sender.specs.Packets.{said}
use Rattle.rtp_packet.specs.Written.{written}
use Rattle.spec_payload.specs.Grammar.{text}
use Rattle.spec_store.specs.StorageReading.{frame_in}
use Rattle.amr_sender.proofs.single.write_single.Goals as goal

pub fields_of-requires-clause-number : goal.fields_of-requires-clause-number
fields_of-requires-clause-number c = (facts c.args.plan.now c.requires.plan).number

pub returns-clause-octets : goal.returns-clause-octets
returns-clause-octets c =
    let s = c.args.plan.now in
    let frames = frame_in s.profile.codec c.args.unit.now ∷ [] in
    record {
      front = header_before c.fields_of.result (text s.profile (said s c.args.head frames)) c.copy_from_slice.new.self
          c.put_payload-size.new.out c.put_payload-size.result c.fields_of.ensures.plain
          (c.copy_from_slice.ensures.after ∙ c.header_of.ensures [])
          (c.put_payload-size.ensures.payload.payload c.args.head)
          ∙ ap written (c.fields_of.ensures.packet frames);
    }

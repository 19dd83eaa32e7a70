use Rattle.std.proofs.Common.{◌≡◌, ℕ, List, [], ◌∷◌, length, refl, sym, ap, ◌∙◌, arith, true, false, Ok, Some}
use Rattle.record_hearing.proofs.Carried.{gained_none, still}
use Rattle.record_hearing.proofs.HeardRecords.{packet_heard, packet_part, passed}
use Rattle.record_hearing.proofs.Passing.{no_payload_met, no_rtp_met, null_met, other_type_met, packet_is, packet_met, said_by}
use Rattle.record_hearing.proofs.Plans.{format_valid}
use Rattle.record_hearing.specs.Hearing.{Meets}
use Rattle.record_hearing.specs.Jobs.{recording_of}
use Rattle.record_hearing.specs.declared.heard.Heard.TheVariants.{Null, NoRtp, OtherType, NoPayload}
use Rattle.amr_toc.specs.Viewed.{viewed}
use Rattle.rtp_packet.specs.View.{packet}
use Rattle.spec_payload.specs.Strict.{refusal_in, taken_as}
use Rattle.spec_record.specs.RecordCounts.{is_null}
use Rattle.spec_session.specs.Packets.{is_asked, packet_of}
use Rattle.record_hearing.proofs.hear.hear.Goals as goal
use Rattle.record_hearing.proofs.hear.hear.Given.{Over}

no_octets : (octets : List ℕ) → length octets ≡ 0 → octets ≡ []
no_octets [] e = refl
no_octets (o ∷ octets) e = absurd cc

some_octets : (octets : List ℕ) → (length octets ≡ 0 → ⊥) → is_null octets ≡ false
some_octets [] n = absurd (n refl)
some_octets (o ∷ octets) n = refl

-- a record of no octets
null : (g : Over) (c : goal.Then-is_empty g) → Meets (recording_of c.args.job.now) c.args.octets.now true false false false 0
null g c = null_met (recording_of c.args.job.now) c.args.octets.now (no_octets c.args.octets.now (grind (arith, c.is_empty.ensures, c.if-is_empty.true)))

pub returns-then-is_empty-clause-heard : goal.returns-then-is_empty-clause-heard
returns-then-is_empty-clause-heard g c =
    let met = null g c in
    passed c.args.job.now c.args.receiver.now c.args.octets.now _ Null (λ less more e. gained_none g.B.BlockSink.whole _ _ less more refl e) c.requires.ready.unspent refl met met.packets_are

-- a record that is no RTP packet
no_rtp : (g : Over) (c : goal.In_default g) → Meets (recording_of c.args.job.now) c.args.octets.now false true false false 0
no_rtp g c = no_rtp_met (recording_of c.args.job.now) c.args.octets.now c.in_default.field-0 (some_octets c.args.octets.now (λ e. absurd (grind (arith, c.is_empty.ensures, c.if-is_empty.false, e)))) (sym c.in_default.ensures.reads)

pub returns-in_default-clause-heard : goal.returns-in_default-clause-heard
returns-in_default-clause-heard g c =
    let met = no_rtp g c in
    passed c.args.job.now c.args.receiver.now c.args.octets.now _ NoRtp (λ less more e. gained_none g.B.BlockSink.whole _ _ less more refl e) c.requires.ready.unspent refl met met.packets_are

pub returns-in_default-clause-step : goal.returns-in_default-clause-step
returns-in_default-clause-step g c = still g.B.BlockSink c.args.job.now.plan c.args.receiver.now c.args.out.now _ g.met.B.BlockSink.reflexive c.requires.sink

-- a packet of another type
other_type : (g : Over) (c : goal.Then-not-is_asked g) → Meets (recording_of c.args.job.now) c.args.octets.now false false true false 0
other_type g c =
    other_type_met (recording_of c.args.job.now) c.args.octets.now (packet c.in-Ok.rtp) (some_octets c.args.octets.now (λ e. absurd (grind (arith, c.is_empty.ensures, c.if-is_empty.false, e)))) (sym c.in-Ok.ensures.reads)
    (ap (is_asked c.args.job.now.pt) (sym c.payload_type.ensures) ∙ sym c.is_asked.ensures ∙ c.if-not-is_asked.true)

pub returns-then-not-is_asked-clause-heard : goal.returns-then-not-is_asked-clause-heard
returns-then-not-is_asked-clause-heard g c =
    let met = other_type g c in
    passed c.args.job.now c.args.receiver.now c.args.octets.now _ OtherType (λ less more e. gained_none g.B.BlockSink.whole _ _ less more refl e) c.requires.ready.unspent refl met met.packets_are

pub returns-then-not-is_asked-clause-step : goal.returns-then-not-is_asked-clause-step
returns-then-not-is_asked-clause-step g c = still g.B.BlockSink c.args.job.now.plan c.args.receiver.now c.args.out.now _ g.met.B.BlockSink.reflexive c.requires.sink

pub read_payload-requires : goal.read_payload-requires
read_payload-requires g c = format_valid c.args.job.now.plan c.requires.ready.served.served.plan

-- a packet whose payload is none of the format
no_payload : (g : Over) (c : goal.In_default-read_payload g) → Meets (recording_of c.args.job.now) c.args.octets.now false false false true 0
no_payload g c =
    no_payload_met (recording_of c.args.job.now) c.args.octets.now (packet c.in-Ok.rtp) c.in_default-read_payload.field-0 (some_octets c.args.octets.now (λ e. absurd (grind (arith, c.is_empty.ensures, c.if-is_empty.false, e)))) (sym c.in-Ok.ensures.reads)
    (ap (is_asked c.args.job.now.pt) (sym c.payload_type.ensures) ∙ sym c.is_asked.ensures ∙ c.if-not-is_asked.false)
    (ap (refusal_in c.args.job.now.plan.profile) (sym c.payload.ensures) ∙ c.in_default-read_payload.ensures.refused.first)

pub returns-in_default-read_payload-clause-heard : goal.returns-in_default-read_payload-clause-heard
returns-in_default-read_payload-clause-heard g c =
    let met = no_payload g c in
    passed c.args.job.now c.args.receiver.now c.args.octets.now _ NoPayload (λ less more e. gained_none g.B.BlockSink.whole _ _ less more refl e) c.requires.ready.unspent refl met met.packets_are

pub returns-in_default-read_payload-clause-step : goal.returns-in_default-read_payload-clause-step
returns-in_default-read_payload-clause-step g c = still g.B.BlockSink c.args.job.now.plan c.args.receiver.now c.args.out.now _ g.met.B.BlockSink.reflexive c.requires.sink

-- a packet of the session
value : (g : Over) (c : goal.After-offer g) → taken_as c.args.job.now.plan.profile (packet c.in-Ok.rtp).payload ≡ Ok (viewed c.in-Ok-read_payload.payload)
value g c = ap (taken_as c.args.job.now.plan.profile) (sym c.payload.ensures) ∙ c.in-Ok-read_payload.ensures.value.value

asked : (g : Over) (c : goal.After-offer g) → is_asked c.args.job.now.pt (packet c.in-Ok.rtp).payload_type ≡ true
asked g c = ap (is_asked c.args.job.now.pt) (sym c.payload_type.ensures) ∙ sym c.is_asked.ensures ∙ c.if-not-is_asked.false

is_packet : (g : Over) (c : goal.After-offer g) → packet_of c.args.job.now.plan.profile c.args.job.now.pt c.args.octets.now ≡ Some (said_by (packet c.in-Ok.rtp) (viewed c.in-Ok-read_payload.payload))
is_packet g c = packet_is (recording_of c.args.job.now) c.args.octets.now (packet c.in-Ok.rtp) (viewed c.in-Ok-read_payload.payload) (sym c.in-Ok.ensures.reads) (asked g c) (value g c)

of_session : (g : Over) (c : goal.After-offer g) → Meets (recording_of c.args.job.now) c.args.octets.now false false false false 1
of_session g c =
    packet_met (recording_of c.args.job.now) c.args.octets.now (packet c.in-Ok.rtp) (viewed c.in-Ok-read_payload.payload) (some_octets c.args.octets.now (λ e. absurd (grind (arith, c.is_empty.ensures, c.if-is_empty.false, e)))) (sym c.in-Ok.ensures.reads) (asked g c)
    (ap (refusal_in c.args.job.now.plan.profile) (sym c.payload.ensures) ∙ c.in-Ok-read_payload.ensures.value.none) (value g c)

pub returns-clause-heard : goal.returns-clause-heard
returns-clause-heard g c = packet_heard c.args.job.now c.args.receiver.now c.args.octets.now _ _ (is_packet g c) c.offer.new.receiver c.offer.result (of_session g c) c.offer.ensures.offered

pub returns-clause-part : goal.returns-clause-part
returns-clause-part g c = packet_part c.args.job.now c.args.receiver.now c.args.octets.now _ _ (is_packet g c) c.offer.result c.offer.ensures.part

pub returns-then-is_empty-clause-step : goal.returns-then-is_empty-clause-step
returns-then-is_empty-clause-step g c = still g.B.BlockSink c.args.job.now.plan c.args.receiver.now c.args.out.now _ g.met.B.BlockSink.reflexive c.requires.sink

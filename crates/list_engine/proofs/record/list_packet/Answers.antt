use Rattle.std.proofs.Common.{◌≡◌, ◌++◌, ◌∙◌, ap, codes, sym, true, false, List, ℕ, ◌∷◌, [], Ok}
use Rattle.std.proofs.Common.{Some}
use Rattle.amr_toc.specs.Viewed.{octets_of, viewed}
use Rattle.list_engine.proofs.Records.{desk_hears, desk_stays, is_packet, no_payload, other_type}
use Rattle.list_engine.proofs.Records.{said_by}
use Rattle.list_engine.proofs.Written.{other_listed, read_listed, refused_listed}
use Rattle.list_engine.specs.Jobs.{desk_of, listing_of}
use Rattle.list_engine.specs.Records.{heard_in}
use Rattle.rtp_packet.specs.View.{packet}
use Rattle.spec_listing.specs.Listing.{mode_in}
use Rattle.spec_listing.specs.Refusals.{payload_refusal_text}
use Rattle.spec_packet.specs.RtpReading.{rtp_of}
use Rattle.spec_payload.specs.Strict.{refusal_in, taken_as}
use Rattle.spec_session.specs.Packets.{is_asked, packet_of}
use Rattle.list_engine.proofs.record.list_packet.Goals as goal
use Rattle.list_engine.proofs.record.list_packet.Given.{Over}

-- a packet of another type
not_asked : (g : Over) (c : goal.After-write g) → is_asked c.args.job.now.pt
    (packet c.args.rtp.now).payload_type ≡ false
not_asked g c = ap (is_asked c.args.job.now.pt) (sym c.payload_type.ensures) ∙ sym
    c.is_asked.ensures ∙ c.if-not-is_asked.true

pub returns-then-not-is_asked-clause-heard : goal.returns-then-not-is_asked-clause-heard
returns-then-not-is_asked-clause-heard g c = λ records octets is heard.
    desk_stays c.args.job.now c.args.desk.now records octets
    (other_type c.args.job.now octets (packet c.args.rtp.now) is (not_asked g c)) heard

pub returns-then-not-is_asked-clause-listed : goal.returns-then-not-is_asked-clause-listed
returns-then-not-is_asked-clause-listed g c = λ records octets is heard.
    other_listed g.O.Sink c.args.job.now c.args.line.now
    (mode_in (listing_of c.args.job.now) (records ++ octets ∷ [])) (packet c.args.rtp.now)
    c.push.new.self
    c.args.output.now c.write.new.output c.write.result (not_asked g c)
    (c.push.ensures ∙ ap (λ t. t ++ codes " refused=type\n") c.push_head.ensures.text)
    c.write.ensures

-- a packet whose payload is read
asked : (g : Over) (c : goal.After-list_payload g) → is_asked c.args.job.now.pt
    (packet c.args.rtp.now).payload_type ≡ true
asked g c = ap (is_asked c.args.job.now.pt) (sym c.payload_type.ensures) ∙ sym c.is_asked.ensures ∙
    c.if-not-is_asked.false

one_packet : (g : Over) (c : goal.After-list_payload g) (octets : List ℕ) → rtp_of octets ≡ Ok
    (packet c.args.rtp.now)
    → packet_of c.args.job.now.profile c.args.job.now.pt octets ≡ Some
    (said_by (packet c.args.rtp.now) (viewed c.in-Ok.view))
one_packet g c octets is =
    is_packet c.args.job.now octets (packet c.args.rtp.now) (viewed c.in-Ok.view) is (asked g c)
    (ap (taken_as c.args.job.now.profile) (sym c.payload.ensures) ∙ c.in-Ok.ensures.value.value)

pub returns-in-Ok-clause-heard : goal.returns-in-Ok-clause-heard
returns-in-Ok-clause-heard g c = λ records octets is heard.
    desk_hears c.args.job.now c.args.desk.now c.list_payload.new.desk records octets
    (said_by (packet c.args.rtp.now) (viewed c.in-Ok.view))
    (one_packet g c octets is) c.list_payload.ensures.heard heard

pub returns-in-Ok-clause-listed : goal.returns-in-Ok-clause-listed
returns-in-Ok-clause-listed g c = λ records octets is heard.
    read_listed g.O.Sink c.args.job.now c.args.line.now records octets (packet c.args.rtp.now)
    (viewed c.in-Ok.view) c.push_head.new.line (octets_of c.in-Ok.view)
    c.args.output.now c.list_payload.new.output c.list_payload.result (asked g c)
    (ap (refusal_in c.args.job.now.profile) (sym c.payload.ensures) ∙ c.in-Ok.ensures.value.none)
    (one_packet g c octets is) (c.in-Ok.ensures.octets ∙ c.payload.ensures) c.push_head.ensures.text
    (c.list_payload.ensures.listed (desk_of c.args.job.now) (heard_in c.args.job.now records) heard)

-- a packet whose payload is refused
asked_too : (g : Over) (c : goal.After-write-in-Err g) → is_asked c.args.job.now.pt
    (packet c.args.rtp.now).payload_type ≡ true
asked_too g c = ap (is_asked c.args.job.now.pt) (sym c.payload_type.ensures) ∙ sym
    c.is_asked.ensures ∙ c.if-not-is_asked.false

is_refused : (g : Over) (c : goal.After-write-in-Err g) → refusal_in c.args.job.now.profile
    (packet c.args.rtp.now).payload ≡ Some c.in-Err.why
is_refused g c = ap (refusal_in c.args.job.now.profile) (sym c.payload.ensures) ∙
    c.in-Err.ensures.refused.first

pub returns-in-Err-clause-heard : goal.returns-in-Err-clause-heard
returns-in-Err-clause-heard g c = λ records octets is heard.
    desk_stays c.args.job.now c.args.desk.now records octets
    (no_payload c.args.job.now octets (packet c.args.rtp.now) c.in-Err.why is (asked_too g c)
    (is_refused g c)) heard

pub returns-in-Err-clause-listed : goal.returns-in-Err-clause-listed
returns-in-Err-clause-listed g c = λ records octets is heard.
    let why = c.in-Err.why in
    refused_listed g.O.Sink c.args.job.now c.args.line.now
    (mode_in (listing_of c.args.job.now) (records ++ octets ∷ [])) (packet c.args.rtp.now) why
    c.push-in-Err-2.new.self
    c.args.output.now c.write-in-Err.new.output c.write-in-Err.result (asked_too g c)
    (is_refused g c)
    (c.push-in-Err-2.ensures ∙ ap (λ t. t ++ codes "\n") (c.push_payload_refusal.ensures.text
    ∙ ap (λ t. t ++ payload_refusal_text why) (c.push-in-Err.ensures ∙ ap
    (λ t. t ++ codes " refused=") c.push_head.ensures.text)))
    c.write-in-Err.ensures

use Rattle.std.proofs.Common.{◌≡◌, ◌++◌, ◌∙◌, ap, arith, codes, length, refl, sym, subst, false}
use Rattle.std.proofs.Common.{List, ℕ, ◌∷◌, [], Ok}
use Rattle.list_engine.proofs.Records.{desk_stays, no_packet}
use Rattle.list_engine.proofs.Texts.{regroup}
use Rattle.list_engine.proofs.Written.{front_is, null_packet, null_part, part_is, record_listed}
use Rattle.list_engine.specs.Jobs.{listing_of}
use Rattle.run_report.specs.Written.{Writes}
use Rattle.rtp_packet.specs.View.{packet}
use Rattle.spec_listing.specs.Listing.{mode_in, packet_part, refused}
use Rattle.spec_listing.specs.Refusals.{rtp_refusal_text}
use Rattle.spec_record.specs.RecordCounts.{is_null}
use Rattle.list_engine.proofs.record.list_record.Goals as goal
use Rattle.list_engine.proofs.record.list_record.Given.{Over}

no_octets : (octets : List ℕ) → length octets ≡ 0 → octets ≡ []
no_octets [] e = refl
no_octets (o ∷ octets) e = absurd cc

some_octets : (octets : List ℕ) → (length octets ≡ 0 → ⊥) → is_null octets ≡ false
some_octets [] n = absurd (n refl)
some_octets (o ∷ octets) n = refl

-- a record of no octets
none : (g : Over) (c : goal.After-write g) → c.args.octets.now ≡ []
none g c = no_octets c.args.octets.now (grind (arith, c.is_empty.ensures, c.if-is_empty.true))

pub returns-then-is_empty-clause-heard : goal.returns-then-is_empty-clause-heard
returns-then-is_empty-clause-heard g c = λ records heard.
    let octets = c.args.octets.now in
    desk_stays c.args.job.now c.args.desk.now records octets
    (null_packet c.args.job.now octets (none g c)) heard

pub returns-then-is_empty-clause-listed : goal.returns-then-is_empty-clause-listed
returns-then-is_empty-clause-listed g c = λ records heard size.
    let k = g.O.Sink in
    let job = c.args.job.now in
    let octets = c.args.octets.now in
    let old = c.args.output.now in
    let new = c.write.new.output in
    let line = c.named.new.self in
    record_listed k job records octets c.args.count line (codes " null\n") old new c.write.result
    size
    (front_is c.args.count (length octets) octets c.clear.new.self c.number.new.self line
    c.clear.ensures c.number.ensures.text c.named.ensures.text refl)
    (null_part job (mode_in (listing_of job) (records ++ octets ∷ [])) octets (none g c))
    (subst (λ (t : List ℕ). Writes k t old new c.write.result) c.push.ensures c.write.ensures)

-- a packet
some : (g : Over) (c : goal.After-list_packet g) → is_null c.args.octets.now ≡ false
some g c = some_octets c.args.octets.now (λ e. absurd
    (grind (arith, c.is_empty.ensures, c.if-is_empty.false, e)))

pub returns-in-Ok-clause-heard : goal.returns-in-Ok-clause-heard
returns-in-Ok-clause-heard g c = λ records heard.
    c.list_packet.ensures.heard records c.args.octets.now (sym c.in-Ok.ensures.reads) heard

pub returns-in-Ok-clause-listed : goal.returns-in-Ok-clause-listed
returns-in-Ok-clause-listed g c = λ records heard size.
    let k = g.O.Sink in
    let job = c.args.job.now in
    let octets = c.args.octets.now in
    let line = c.named.new.self in
    let mode = mode_in (listing_of job) (records ++ octets ∷ []) in
    let reads = sym c.in-Ok.ensures.reads in
    record_listed k job records octets c.args.count line
    (packet_part (listing_of job) mode (Ok (packet c.in-Ok.rtp)))
    c.args.output.now c.list_packet.new.output c.list_packet.result size
    (front_is c.args.count (length octets) octets c.clear.new.self c.number.new.self line
    c.clear.ensures c.number.ensures.text c.named.ensures.text refl)
    (sym (ap (packet_part (listing_of job) mode) reads) ∙ part_is job mode octets (some g c))
    (c.list_packet.ensures.listed records octets reads heard)

-- a record that is no packet
some_too : (g : Over) (c : goal.After-write-in-Err g) → is_null c.args.octets.now ≡ false
some_too g c = some_octets c.args.octets.now (λ e. absurd
    (grind (arith, c.is_empty.ensures, c.if-is_empty.false, e)))

pub returns-in-Err-clause-heard : goal.returns-in-Err-clause-heard
returns-in-Err-clause-heard g c = λ records heard.
    let octets = c.args.octets.now in
    desk_stays c.args.job.now c.args.desk.now records octets
    (no_packet c.args.job.now octets c.in-Err.why (sym c.in-Err.ensures.reads)) heard

pub returns-in-Err-clause-listed : goal.returns-in-Err-clause-listed
returns-in-Err-clause-listed g c = λ records heard size.
    let k = g.O.Sink in
    let job = c.args.job.now in
    let octets = c.args.octets.now in
    let old = c.args.output.now in
    let new = c.write-in-Err.new.output in
    let line = c.named.new.self in
    let why = rtp_refusal_text c.in-Err.why in
    let mode = mode_in (listing_of job) (records ++ octets ∷ []) in
    let behind : c.push-in-Err-2.new.self ≡ line ++ refused why =
    c.push-in-Err-2.ensures ∙ ap (λ t. t ++ codes "\n")
    (c.push_rtp_refusal.ensures.text ∙ ap (λ t. t ++ why) c.push-in-Err.ensures)
    ∙ regroup line (codes " refused=") why (codes "\n") in
    record_listed k job records octets c.args.count line (refused why) old new c.write-in-Err.result
    size
    (front_is c.args.count (length octets) octets c.clear.new.self c.number.new.self line
    c.clear.ensures c.number.ensures.text c.named.ensures.text refl)
    (sym (ap (packet_part (listing_of job) mode) (sym c.in-Err.ensures.reads)) ∙ part_is job mode
    octets (some_too g c))
    (subst (λ (t : List ℕ). Writes k t old new c.write-in-Err.result) behind c.write-in-Err.ensures)

use Rattle.std.proofs.Common.{◌≡◌, ℕ, ◌+◌, ◌*◌, length, true, false, Some, None, Ok, sym, ap, ◌∙◌, refl}
use Rattle.spec_packet.specs.RtpReading.{rtp_refusal, packet_at, breaks_padding}
use Rattle.spec_packet.specs.declared.refusal.RtpRefusal.TheVariants as why
use Rattle.rtp_packet.proofs.Grammar.{by_grammar}
use Rattle.rtp_packet.proofs.Refusals.{short, other_version, few_sources, by_rules, header_at, refused, taken, not_accepted}
use Rattle.rtp_packet.proofs.read.read_rtp.Goals as goal

pub returns-then-octets-lt12-clause-reads : goal.returns-then-octets-lt12-clause-reads
returns-then-octets-lt12-clause-reads c = refused c.args.octets.now (why.Short (length c.args.octets.now)) (short c.args.octets.now c.if-octets-lt12.true)

pub returns-then-version-ne2-clause-reads : goal.returns-then-version-ne2-clause-reads
returns-then-version-ne2-clause-reads c =
    refused c.args.octets.now (why.Version c.version_in-version.result) (other_version c.args.octets.now c.version_in-version.result c.version_in-version.ensures c.if-octets-lt12.false c.if-version-ne2.true)

pub returns-then-octets-sources_end-clause-reads : goal.returns-then-octets-sources_end-clause-reads
returns-then-octets-sources_end-clause-reads c =
    refused c.args.octets.now why.Sources (few_sources c.args.octets.now (12 + 4 * c.source_count.result) c.if-octets-lt12.false (sym c.version_in-version.ensures ∙ c.if-version-ne2.false)
    (ap (λ (n : ℕ). 12 + 4 * n) c.source_count.ensures.count) c.if-octets-sources_end.true)

-- the extension doesn't fit
extension : (c : goal.In_default) → rtp_refusal c.args.octets.now ≡ Some why.Extension
extension c =
    let octets = c.args.octets.now in
    let header = header_at octets c.version_in-version.result c.source_count.result c.if-octets-lt12.false
    c.version_in-version.ensures c.if-version-ne2.false c.source_count.ensures.count c.if-octets-sources_end.false in
    by_rules octets (12 + 4 * c.source_count.result) header true (breaks_padding octets) c.in_default.ensures.none refl

pub returns-in_default-clause-accepted : goal.returns-in_default-clause-accepted
returns-in_default-clause-accepted c = not_accepted (rtp_refusal c.args.octets.now) why.Extension (extension c)

pub returns-in_default-clause-refusal : goal.returns-in_default-clause-refusal
returns-in_default-clause-refusal c = extension c

pub returns-in_default-clause-reads : goal.returns-in_default-clause-reads
returns-in_default-clause-reads c = refused c.args.octets.now why.Extension (extension c)

-- the padding doesn't fit
padding : (c : goal.In_default-padding_of) → rtp_refusal c.args.octets.now ≡ Some why.Padding
padding c =
    let octets = c.args.octets.now in
    let header = header_at octets c.version_in-version.result c.source_count.result c.if-octets-lt12.false
    c.version_in-version.ensures c.if-version-ne2.false c.source_count.ensures.count c.if-octets-sources_end.false in
    by_rules octets (12 + 4 * c.source_count.result) header false true c.in-Some.ensures.none c.in_default-padding_of.ensures.none

pub returns-in_default-padding_of-clause-accepted : goal.returns-in_default-padding_of-clause-accepted
returns-in_default-padding_of-clause-accepted c = not_accepted (rtp_refusal c.args.octets.now) why.Padding (padding c)

pub returns-in_default-padding_of-clause-refusal : goal.returns-in_default-padding_of-clause-refusal
returns-in_default-padding_of-clause-refusal c = padding c

pub returns-in_default-padding_of-clause-reads : goal.returns-in_default-padding_of-clause-reads
returns-in_default-padding_of-clause-reads c = refused c.args.octets.now why.Padding (padding c)

-- all fits
none : (c : goal.After-over) → rtp_refusal c.args.octets.now ≡ None
none c =
    let octets = c.args.octets.now in
    let header = header_at octets c.version_in-version.result c.source_count.result c.if-octets-lt12.false
    c.version_in-version.ensures c.if-version-ne2.false c.source_count.ensures.count c.if-octets-sources_end.false in
    by_rules octets (12 + 4 * c.source_count.result) header false false c.in-Some.ensures.none c.in-Some-padding_of.ensures.none

pub returns-clause-accepted : goal.returns-clause-accepted
returns-clause-accepted c = (λ t. none c, λ n. refl)

pub returns-clause-reads : goal.returns-clause-reads
returns-clause-reads c = ap (λ octets. Ok (packet_at octets)) c.over.ensures ∙ taken c.args.octets.now (none c)

pub returns-then-octets-lt12-clause-grammar : goal.returns-then-octets-lt12-clause-grammar
returns-then-octets-lt12-clause-grammar c = by_grammar c.args.octets.now _ c.are_octets.ensures (returns-then-octets-lt12-clause-reads c)

pub returns-then-version-ne2-clause-grammar : goal.returns-then-version-ne2-clause-grammar
returns-then-version-ne2-clause-grammar c = by_grammar c.args.octets.now _ c.are_octets.ensures (returns-then-version-ne2-clause-reads c)

pub returns-then-octets-sources_end-clause-grammar : goal.returns-then-octets-sources_end-clause-grammar
returns-then-octets-sources_end-clause-grammar c = by_grammar c.args.octets.now _ c.are_octets.ensures (returns-then-octets-sources_end-clause-reads c)

pub returns-in_default-clause-grammar : goal.returns-in_default-clause-grammar
returns-in_default-clause-grammar c = by_grammar c.args.octets.now _ c.are_octets.ensures (returns-in_default-clause-reads c)

pub returns-in_default-padding_of-clause-grammar : goal.returns-in_default-padding_of-clause-grammar
returns-in_default-padding_of-clause-grammar c = by_grammar c.args.octets.now _ c.are_octets.ensures (returns-in_default-padding_of-clause-reads c)

pub returns-clause-grammar : goal.returns-clause-grammar
returns-clause-grammar c = by_grammar c.args.octets.now _ c.are_octets.ensures (returns-clause-reads c)

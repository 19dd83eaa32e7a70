use Rattle.std.proofs.Common.{ℕ, List, ◌++◌, ap, ◌∙◌}
use Rattle.std.specs.Prelude.{flat_map, option_map}
use Rattle.rtp_packet.specs.View.{extension_of}
use Rattle.spec_packet.specs.RtpReading.{rtp_of}
use Rattle.rtp_packet.specs.Written.{octets_32, extension_octets, padding_octets, packet_of}
use Rattle.rtp_packet.proofs.Spelled.{read_back}
use Rattle.rtp_packet.proofs.write.write_rtp.Goals as goal

pub returns-clause-octets : goal.returns-clause-octets
returns-clause-octets c =
    let fields = c.args.fields.now in
    let fixed = c.put-fixed_end.ensures.front ∙ c.fixed_header-fixed.ensures c.args.payload.now in
    let sources = c.put_sources-sources_end.ensures.front ∙ ap (λ (xs : List ℕ). xs ++ flat_map octets_32 fields.sources.now) fixed in
    let header = c.put_any_extension-header_end.ensures.front ∙ ap (λ (xs : List ℕ). xs ++ extension_octets (option_map (λ e. extension_of e.0 e.1.now) fields.extension)) sources in
    let payload = c.put-payload_end.ensures.front ∙ ap (λ (xs : List ℕ). xs ++ c.args.payload.now) header in
    c.put_padding.ensures ∙ ap (λ (xs : List ℕ). xs ++ padding_octets fields.padding) payload

pub returns-clause-reads : goal.returns-clause-reads
returns-clause-reads c = ap rtp_of (returns-clause-octets c) ∙ read_back (packet_of c.args.fields.now c.args.payload.now) c.fit_places.ensures

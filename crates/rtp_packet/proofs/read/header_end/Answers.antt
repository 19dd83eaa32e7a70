use Rattle.std.proofs.Common.{◌≡◌, ◌+◌, ◌*◌, arith, length, sym, ◌∙◌}
use Rattle.std.specs.Prelude.{nat_lt}
use Rattle.amr_bits.specs.Bits.{number_at}
use Rattle.spec_packet.specs.RtpReading.{is_extended, sources_end, header_end}
use Rattle.rtp_packet.proofs.Ends.{extended_end, words_at, past_end, within_end}
use Rattle.rtp_packet.proofs.read.header_end.Goals as goal

-- the words that were read end the header
ends : (c : goal.Else-octets-end) → c.args.sources_end + 4 + 4 * c.number_16.result ≡ header_end c.args.octets.now
ends c =
    let octets = c.args.octets.now in
    let s = sources_end octets in
    extended_end (is_extended octets) s (number_at octets (8 * s + 16) 16) c.args.sources_end c.number_16.result (sym c.is_extended.ensures ∙ c.if-not-is_extended.false)
    c.requires.sources (words_at octets c.args.sources_end s c.number_16.result c.requires.sources c.number_16.ensures)

pub returns-then-octets-end-clause-none : goal.returns-then-octets-end-clause-none
returns-then-octets-end-clause-none c =
    let octets = c.args.octets.now in
    let s = sources_end octets in
    past_end (is_extended octets) (nat_lt (length octets) (s + 4)) (length octets) (c.args.sources_end + 4 + 4 * c.number_16.result) (header_end octets) (sym c.is_extended.ensures ∙ c.if-not-is_extended.false)
    (extended_end (is_extended octets) s (number_at octets (8 * s + 16) 16) c.args.sources_end c.number_16.result (sym c.is_extended.ensures ∙ c.if-not-is_extended.false)
    c.requires.sources (words_at octets c.args.sources_end s c.number_16.result c.requires.sources c.number_16.ensures)) c.if-octets-end.true

pub returns-clause-end : goal.returns-clause-end
returns-clause-end c = (ends c, omega arith, omega arith)

pub returns-clause-none : goal.returns-clause-none
returns-clause-none c =
    let octets = c.args.octets.now in
    within_end (is_extended octets) (length octets) (sources_end octets + 4) (c.args.sources_end + 4 + 4 * c.number_16.result) (header_end octets) (sym c.is_extended.ensures ∙ c.if-not-is_extended.false) (ends c) (omega (arith, c.requires.sources)) c.if-octets-end.false

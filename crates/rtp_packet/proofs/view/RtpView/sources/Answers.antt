use Rattle.std.proofs.Common.{◌+◌, ◌*◌, sym, ◌∙◌}
use Rattle.std.proofs.lemmas.List.FromFn.{length-map-range_with_len}
use Rattle.amr_bits.specs.Bits.{number_at}
use Rattle.rtp_packet.proofs.view.RtpView.sources.Goals as goal

pub returns : goal.returns
returns c =
    let octets = c.args.self.now.octets.now in
    c.source_count.ensures.count ∙ sym (length-map-range_with_len (λ k. number_at octets (96 + 32 * k) 32) 0 (number_at octets 4 4))

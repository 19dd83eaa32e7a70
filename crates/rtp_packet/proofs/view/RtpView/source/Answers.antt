use Rattle.std.proofs.Common.{◌≡◌, ℕ, ◌<◌, ◌+◌, ◌*◌, length, sym, ap, subst, ◌∙◌, arith, refl}
use Rattle.std.proofs.lemmas.List.FromFn.{length-map-range_with_len, get_or-map-range_with_len}
use Rattle.amr_bits.specs.Bits.{number_at}
use Rattle.amr_bits.proofs.Places.{number_at-lt}
use Rattle.rtp_packet.proofs.Ends.{source_within}
use Rattle.rtp_packet.proofs.view.RtpView.source.Goals as goal

below : (c : goal.After-number_32-arg-1) → c.args.at < number_at c.args.self.now.octets.now 4 4
below c =
    let octets = c.args.self.now.octets.now in
    subst (λ (n : ℕ). c.args.at < n) (length-map-range_with_len (λ k. number_at octets (96 + 32 * k) 32) 0 (number_at octets 4 4)) c.requires

small : (at n : ℕ) → at < n → n < 16 → at < 16
small at n a b = omega arith

few : (c : goal.After-number_32-arg-1) → c.args.at < 16
few c = small c.args.at (number_at c.args.self.now.octets.now 4 4) (below c) (number_at-lt c.args.self.now.octets.now 4 4)

pub overflow_mul-at : goal.overflow_mul-at
overflow_mul-at c = omega (arith, few c)

pub overflow_add-at : goal.overflow_add-at
overflow_add-at c = omega (arith, few c)

pub number_32-requires : goal.number_32-requires
number_32-requires c =
    let view = c.args.self.now in
    source_within c.args.at (number_at view.octets.now 4 4) (length view.octets.now) view.header_size view.padding (below c) view.ends view.fits

pub returns : goal.returns
returns c =
    let octets = c.args.self.now.octets.now in
    let f = λ (k : ℕ). number_at octets (96 + 32 * k) 32 in
    let n = number_at octets 4 4 in
    let within : c.args.at < n = subst (λ (m : ℕ). c.args.at < m) (length-map-range_with_len f 0 n) c.requires in
    let place : 8 * (12 + 4 * c.args.at) ≡ 96 + 32 * (0 + c.args.at) = omega arith in
    c.number_32.ensures ∙ ap (λ (k : ℕ). number_at octets k 32) place ∙ sym (get_or-map-range_with_len f 0 n c.args.at (0 + c.args.at) 0 within refl)

use Rattle.std.proofs.Common.{◌≡◌, ◌+◌, ◌-◌, ◌*◌, ◌/◌, false, cond, nat_eq, get_or, sym, ap, ◌∙◌, arith, None, Some}
use Rattle.std.proofs.lemmas.Bool.{eq-eqb, ne_eqb}
use Rattle.amr_payload.proofs.Viewing.{pad_fits, pad_told}
use Rattle.amr_payload.proofs.pad.pad_difference.Goals as goal

pub bounds-octets-last : goal.bounds-octets-last
bounds-octets-last c =
    let fits = pad_fits c.args.profile.now c.args.view.now c.octets-octets.result.now c.frames.result c.body_bits.result
    c.requires c.are_octets.ensures c.octets-octets.ensures c.frames.ensures.said c.body_bits.ensures.bits in
    omega arith

pub last_octet-requires-clause-fits : goal.last_octet-requires-clause-fits
last_octet-requires-clause-fits c =
    let fits = pad_fits c.args.profile.now c.args.view.now c.octets-octets.result.now c.frames.result c.body_bits.result
    c.requires c.are_octets.ensures c.octets-octets.ensures c.frames.ensures.said c.body_bits.ensures.bits in
    omega arith

pub returns-then-octets-last : goal.returns-then-octets-last
returns-then-octets-last c =
    let last = (4 + 6 * c.frames.result + c.body_bits.result - 1) / 8 in
    let told = pad_told c.args.profile.now c.args.view.now c.octets-octets.result.now c.frames.result c.body_bits.result
    c.requires c.are_octets.ensures c.octets-octets.ensures c.frames.ensures.said c.body_bits.ensures.bits
    c.last_octet.result c.last_octet.ensures in
    sym (told ∙ ap (λ z. cond z None (Some last))
    (let f = c.if-octets-last.true in eq-eqb (get_or c.octets-octets.result.now last 0) c.last_octet.result (omega arith)))

pub returns-else-octets-last : goal.returns-else-octets-last
returns-else-octets-last c =
    let last = (4 + 6 * c.frames.result + c.body_bits.result - 1) / 8 in
    let octet = get_or c.octets-octets.result.now last 0 in
    let is : nat_eq octet c.last_octet.result ≡ false =
    (let f = c.if-octets-last.false in ne_eqb octet c.last_octet.result (λ e. absurd (omega arith))) in
    sym (pad_told c.args.profile.now c.args.view.now c.octets-octets.result.now c.frames.result c.body_bits.result
    c.requires c.are_octets.ensures c.octets-octets.ensures c.frames.ensures.said c.body_bits.ensures.bits
    c.last_octet.result c.last_octet.ensures ∙ ap (λ z. cond z None (Some last)) is)

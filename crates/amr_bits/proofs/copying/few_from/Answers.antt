use Rattle.std.proofs.Common.{◌≡◌, ◌+◌, ◌-◌, ◌*◌, get_or, sym, refl, ap, ◌∙◌, arith, rules}
use Rattle.amr_bits.specs.Bits.{number_at}
use Rattle.amr_bits.proofs.Places.{number_at-octet, number_at-more}
use Rattle.amr_bits.proofs.Copied.{cut_out}
use Rattle.amr_bits.proofs.copying.few_from.Goals as goal

pub returns-then-end-le8 : goal.returns-then-end-le8
returns-then-end-le8 c =
    let octets = c.args.octets.now in
    let value : get_or octets 0 0 ≡ number_at octets 0 8 = sym (number_at-octet octets 0 (omega (arith, c.type_inv.octets 0))) in
    record { spelt = record { bits = cut_out octets c.args.start c.args.width 1 (8 - (c.args.start + c.args.width)) (get_or octets 0 0) (omega arith) (omega arith) value; below = search rules } }

pub returns : goal.returns
returns c =
    let octets = c.args.octets.now in
    let one : number_at octets 0 8 ≡ get_or octets 0 0 = number_at-octet octets 0 (omega (arith, c.type_inv.octets 0)) in
    let both : number_at octets 0 16 ≡ 256 * number_at octets 0 8 + get_or octets 1 0 = number_at-more octets 0 8 1 refl (omega (arith, c.type_inv.octets 1)) in
    let value : 256 * get_or octets 0 0 + get_or octets 1 0 ≡ number_at octets 0 16 = sym (both ∙ ap (λ n. 256 * n + get_or octets 1 0) one) in
    record { spelt = record { bits = cut_out octets c.args.start c.args.width 2 (16 - (c.args.start + c.args.width)) (256 * get_or octets 0 0 + get_or octets 1 0) (omega arith) (omega arith) value; below = search rules } }

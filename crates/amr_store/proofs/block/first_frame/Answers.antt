use Rattle.std.proofs.Common.{◌≡◌, ◌+◌, get_or, ◌/◌, ◌%◌, subst, sym, ap, ◌∙◌, arith}
use denote.Enum.Bare.{sameb}
use Rattle.amr_frame.specs.contracts.codec.Kind.{the_type}
use Rattle.amr_frame.specs.declared.codec.Kind.TheVariants.{Reserved}
use Rattle.std.specs.Prelude.{true, false}
use Rattle.amr_frame.specs.Tables.{is_reserved, kind_in, octets_in}
use Rattle.amr_store.specs.Sights.{HoldsFrame}
use Rattle.amr_store.proofs.FrameFirst.{holds_frame, holds_reserved, same_kind, some_by}
use Rattle.amr_store.proofs.block.first_frame.Goals as goal

pub returns-then-eq : goal.returns-then-eq
returns-then-eq c =
    let octets = c.args.octets.now in
    let ft = get_or octets 0 0 / 8 % 16 in
    let reserved : is_reserved c.args.codec ft ≡ true =
    same_kind (kind_in c.args.codec ft) true (sym c.if-eq.true ∙ c.eq.ensures
    ∙ ap (λ k. sameb the_type k Reserved) c.kind_of.ensures) in
    holds_reserved c.args.codec octets (some_by octets c.if-is_empty.ensures) (omega (arith, c.type_inv.octets 0))
    reserved

pub returns-then-size-octets : goal.returns-then-size-octets
returns-then-size-octets c =
    let octets = c.args.octets.now in
    let ft = get_or octets 0 0 / 8 % 16 in
    let size : c.octets_of-size.result ≡ octets_in c.args.codec ft = c.octets_of-size.ensures in
    let known : is_reserved c.args.codec ft ≡ false =
    same_kind (kind_in c.args.codec ft) false (sym c.if-eq.false ∙ c.eq.ensures
    ∙ ap (λ k. sameb the_type k Reserved) c.kind_of.ensures) in
    subst (λ n. HoldsFrame c.args.codec octets (1 + n)) (sym size)
    (holds_frame c.args.codec octets (some_by octets c.if-is_empty.ensures) (omega (arith, c.type_inv.octets 0)) known
    (omega (arith, size, c.if-size-octets.true)))

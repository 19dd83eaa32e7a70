use Rattle.std.proofs.Common.{length, sym, ◌∙◌, inl, refl}
use Rattle.std.proofs.lemmas.Bool.{eqb-true, eqb-false}
use Rattle.amr_be.proofs.Rules.{answers}
use Rattle.amr_toc.proofs.Reading.{accepts, refuses}
use Rattle.amr_toc.proofs.Telling.{empty_is}
use Rattle.amr_toc.specs.Lists.{listed}
use Rattle.payload_laws.proofs.Rules.{above}
use Rattle.amr_be.proofs.read.accept.Goals as goal

pub returns-then-is_empty : goal.returns-then-is_empty
returns-then-is_empty c = refuses (empty_is c.args.profile.now c.args.octets.now (eqb-true (length c.args.octets.now) 0 (sym c.is_empty.ensures ∙ c.if-is_empty.true)))

pub behind_header-bits-requires : goal.behind_header-bits-requires
behind_header-bits-requires c = above (length c.args.octets.now) (eqb-false (length c.args.octets.now) 0 (sym c.is_empty.ensures ∙ c.if-is_empty.false))

pub entries_within-requires : goal.entries_within-requires
entries_within-requires c = c.requires.format.valid

pub read_toc-requires-clause-valid : goal.read_toc-requires-clause-valid
read_toc-requires-clause-valid c = c.requires.format.valid

pub read_toc-requires-clause-width : goal.read_toc-requires-clause-width
read_toc-requires-clause-width c = inl refl

pub returns-in-Err : goal.returns-in-Err
returns-in-Err c =
    let b = c.behind_header-bits.ensures in
    let told = answers c.requires.format (sym c.is_empty.ensures ∙ c.if-is_empty.false) b.bits b.fits b.enough c.entries_within.ensures.most in
    refuses (told.table c.in-Err.why c.in-Err.ensures.refused)

pub returns-in-Some : goal.returns-in-Some
returns-in-Some c =
    let b = c.behind_header-bits.ensures in
    let told = answers c.requires.format (sym c.is_empty.ensures ∙ c.if-is_empty.false) b.bits b.fits b.enough c.entries_within.ensures.most in
    refuses (told.unfit (listed c.in-Ok.toc) c.need_of.result c.in-Some.why c.in-Ok.ensures.accepted c.in-Ok.ensures.table c.need_of.ensures (sym c.misfit_of.ensures ∙ c.in-Some.is))

pub returns : goal.returns
returns c =
    let b = c.behind_header-bits.ensures in
    let told = answers c.requires.format (sym c.is_empty.ensures ∙ c.if-is_empty.false) b.bits b.fits b.enough c.entries_within.ensures.most in
    let all = told.accepted (listed c.in-Ok.toc) c.need_of.result c.in-Ok.ensures.accepted c.in-Ok.ensures.table c.need_of.ensures (sym c.misfit_of.ensures ∙ c.in_default.is) in
    accepts c.in-Ok.toc all.0 all.1

use Rattle.std.proofs.Common.{sym, ◌∙◌}
use Rattle.amr_oa.proofs.Rules.{answers, header_first}
use Rattle.amr_toc.proofs.Reading.{accepts, refuses}
use Rattle.amr_toc.specs.Lists.{listed}
use Rattle.amr_oa.proofs.read.accept.Goals as goal

pub returns-in-Some : goal.returns-in-Some
returns-in-Some c = refuses (header_first c.args.profile.now c.args.octets.now c.in-Some.why (sym c.header_fault.ensures.refused ∙ c.in-Some.is))

pub returns-in-Err : goal.returns-in-Err
returns-in-Err c =
    let b = c.behind_header-bits.ensures in
    let told = answers c.requires.format (sym c.header_fault.ensures.refused ∙ c.in_default.is) b.bits b.fits b.enough c.entries_within.ensures.most in
    refuses (told.table c.in-Err.why c.in-Err.ensures.refused)

pub returns-in-Some-group_fault : goal.returns-in-Some-group_fault
returns-in-Some-group_fault c =
    let b = c.behind_header-bits.ensures in
    let told = answers c.requires.format (sym c.header_fault.ensures.refused ∙ c.in_default.is) b.bits b.fits b.enough c.entries_within.ensures.most in
    refuses (told.group (listed c.in-Ok.toc) c.in-Some-group_fault.why c.in-Ok.ensures.accepted c.in-Ok.ensures.table (sym c.group_fault.ensures ∙ c.in-Some-group_fault.is))

pub returns-in-Some-misfit_of : goal.returns-in-Some-misfit_of
returns-in-Some-misfit_of c =
    let b = c.behind_header-bits.ensures in
    let told = answers c.requires.format (sym c.header_fault.ensures.refused ∙ c.in_default.is) b.bits b.fits b.enough c.entries_within.ensures.most in
    refuses (told.unfit (listed c.in-Ok.toc) c.need_of.result c.in-Some-misfit_of.why c.in-Ok.ensures.accepted c.in-Ok.ensures.table (sym c.group_fault.ensures ∙ c.in_default-group_fault.is) c.need_of.ensures (sym c.misfit_of.ensures ∙ c.in-Some-misfit_of.is))

pub returns : goal.returns
returns c =
    let b = c.behind_header-bits.ensures in
    let told = answers c.requires.format (sym c.header_fault.ensures.refused ∙ c.in_default.is) b.bits b.fits b.enough c.entries_within.ensures.most in
    let all = told.accepted (listed c.in-Ok.toc) c.need_of.result c.in-Ok.ensures.accepted c.in-Ok.ensures.table (sym c.group_fault.ensures ∙ c.in_default-group_fault.is) c.need_of.ensures (sym c.misfit_of.ensures ∙ c.in_default-misfit_of.is) in
    accepts c.in-Ok.toc all.0 all.1

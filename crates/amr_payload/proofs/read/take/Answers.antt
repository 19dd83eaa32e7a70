use Rattle.std.proofs.Common.{◌∙◌, Some, None}
use Rattle.amr_payload.proofs.Strictly.{plain_rules, refused_strictly, takes_refusal, takes_view}
use Rattle.spec_payload.specs.Reading.{value_at}
use Rattle.spec_payload.specs.Strict.{strict_refusal}
use Rattle.amr_payload.proofs.read.take.Goals as goal

pub returns-then-not-profile : goal.returns-then-not-profile
returns-then-not-profile c =
    let p = c.args.profile.now in
    let read = c.requires.read in
    takes_view p c.args.octets.now c.args.view c.requires.valid c.requires.small read (plain_rules p c.args.octets.now c.if-not-profile.true ∙ read.value.none)

pub returns-in-Some : goal.returns-in-Some
returns-in-Some c =
    let p = c.args.profile.now in
    let read = c.requires.read in
    takes_refusal p c.args.octets.now c.in-Some.why c.requires.valid c.requires.small
    (refused_strictly p c.args.octets.now (Some c.in-Some.why) c.if-not-profile.false read.value.none
    (c.in-Some.ensures ∙ (λ i. strict_refusal p (value_at (read.format i) (read.lent i)) (read.lent i))))

pub returns-in-None : goal.returns-in-None
returns-in-None c =
    let p = c.args.profile.now in
    let read = c.requires.read in
    takes_view p c.args.octets.now c.args.view c.requires.valid c.requires.small read
    (refused_strictly p c.args.octets.now None c.if-not-profile.false read.value.none
    (c.in-None.ensures ∙ (λ i. strict_refusal p (value_at (read.format i) (read.lent i)) (read.lent i))))

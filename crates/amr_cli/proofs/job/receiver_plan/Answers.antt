use Rattle.std.proofs.Common.{◌∙◌, ap, sym}
use Rattle.amr_cli.proofs.Plans.{refused}
use Rattle.amr_cli.specs.Jobs.{received_by}
use Rattle.amr_frame.specs.First.{when}
use Rattle.amr_frame.specs.declared.profile.Profile.{Profile}
use Rattle.amr_playout.specs.declared.plan.Plan.{Plan}
use Rattle.spec_jobs.specs.Plans.{is_receivable}
use Rattle.amr_cli.proofs.job.receiver_plan.Goals as goal

pub returns-in-Err-clause-plan : goal.returns-in-Err-clause-plan
returns-in-Err-clause-plan c =
    let w = c.args.values.now in
    let within = c.requires.within in
    let plan : Profile → Plan = λ f. record { profile = record f { strict = w.strict }; window = w.window; reach = w.reach } in
    let why = refused (plan c.profile.result) w.pt c.in-Err.field-0 within.3.1 within.4.0 within.4.1 c.in-Err.ensures.fault in
    sym (ap (λ b. when b (received_by w.pt (plan c.profile.result))) why)
    ∙ ap (λ f. when (is_receivable (received_by w.pt (plan f))) (received_by w.pt (plan f))) c.profile.ensures.format

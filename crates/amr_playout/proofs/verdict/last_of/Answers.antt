use Rattle.std.proofs.Common.{◌≡◌, ◌-◌, ◌*◌, ◌/◌, arith, length, sym, ap, ◌∙◌}
use Rattle.amr_playout.proofs.Payloads.{counted_in, fitting, some_block}
use Rattle.amr_playout.proofs.Plans.{facts}
use Rattle.amr_toc.specs.Viewed.{viewed}
use Rattle.spec_payload.specs.Values.{Value}
use Rattle.amr_playout.proofs.verdict.last_of.Goals as goal

pub overflow_sub-result : goal.overflow_sub-result
overflow_sub-result c =
    let v : Value = viewed c.args.payload.now in
    let n = c.args.plan.now.profile.channels in
    let f =
    counted_in c.args.plan.now c.args.payload.now.profile v c.frames.result c.from.result c.share_of-blocks.result
    c.requires.read.planned c.requires.read.format c.frames.ensures.value c.frames.ensures.frames c.from.ensures
    c.share_of-blocks.ensures in
    let one = some_block n (length v.frames) f.0.some f.0.whole in
    omega (arith, one, f.1)

pub returns-clause-fitting : goal.returns-clause-fitting
returns-clause-fitting c =
    fitting c.args.plan.now c.args.payload.now.profile (viewed c.args.payload.now)
    (facts c.args.plan.now c.requires.read.planned) c.requires.read.format c.frames.ensures.value

pub returns-clause-fits : goal.returns-clause-fits
returns-clause-fits c =
    let v : Value = viewed c.args.payload.now in
    let n = c.args.plan.now.profile.channels in
    let f =
    counted_in c.args.plan.now c.args.payload.now.profile v c.frames.result c.from.result c.share_of-blocks.result
    c.requires.read.planned c.requires.read.format c.frames.ensures.value c.frames.ensures.frames c.from.ensures
    c.share_of-blocks.ensures in
    let fits = f.0.fits in
    let same : (length v.frames / n - 1) * v.stride ≡ (c.share_of-blocks.result - 1) * c.from-2.result =
    ap (λ k. (k - 1) * v.stride) (sym f.1)
    ∙ ap (λ k. (c.share_of-blocks.result - 1) * k) (sym (c.from-2.ensures ∙ c.stride.ensures)) in
    omega (arith, same, fits)

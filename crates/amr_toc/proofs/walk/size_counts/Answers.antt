use Rattle.std.proofs.Common.{◌+◌, get_or, refl, ◌∙◌, arith}
use Rattle.std.proofs.Math.ListN.{length-set}
use Rattle.std.proofs.lemmas.List.{get_or-replicate}
use Rattle.amr_toc.specs.Lists.{listed, types_of}
use Rattle.amr_toc.specs.Places.{sizes_in}
use Rattle.amr_toc.proofs.Rows.{counted_more}
use Rattle.amr_toc.proofs.Sizes.{most_octets, octets_at, sizes_long}
use Rattle.amr_toc.proofs.walk.size_counts.Goals as goal

pub loop-at-init : goal.loop-at-init
loop-at-init c = (refl, λ k h. get_or-replicate 61 k 0 0 (omega arith))

pub loop-at-preserved : goal.loop-at-preserved
loop-at-preserved c =
    let p = c.args.profile.now in
    let es = listed c.args.toc.now in
    let at = c.loop-at.at in
    let size = c.octets_of.result in
    let inside = c.loop-at-test.true in
    let count = c.len-at-end.ensures.entries in
    let long = sizes_long p.codec es in
    let most = most_octets p.codec c.entry.result.ft in
    let is = c.octets_of.ensures ∙ octets_at p.codec es at c.entry.result (omega arith) c.entry.ensures.entry in (
      length-set c.loop-at.counts size (get_or c.loop-at.counts size 0 + 1) ∙ c.loop-at.invariant.0,
      counted_more c.loop-at.counts (sizes_in p (types_of es)) at size c.loop-at.invariant.0 (omega arith) is
          (omega (arith, c.octets_of.ensures, most)) c.loop-at.invariant.1,
    )

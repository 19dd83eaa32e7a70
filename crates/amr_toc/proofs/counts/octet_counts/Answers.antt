use Rattle.std.proofs.Common.{length, map, get_or, ◌∙◌, arith}
use Rattle.std.proofs.Math.ListN.{length-set}
use Rattle.std.proofs.lemmas.List.{length-map}
use Rattle.amr_frame.specs.Tables.{octets_in}
use Rattle.amr_toc.specs.declared.entry.Entry.{Entry}
use Rattle.amr_toc.specs.Lists.{listed, types_of}
use Rattle.amr_toc.proofs.Sizes.{set_more, front_is, octets_at, listed_count}
use Rattle.amr_toc.proofs.counts.octet_counts.Goals as goal

pub loop-at-preserved : goal.loop-at-preserved
loop-at-preserved c =
    let codec = c.args.profile.now.codec in
    let es = listed c.args.toc.now in
    let few = c.args.toc.now.most in
    let count = listed_count c.args.toc.now in
    let size = c.loop-at.invariant.0 in (
      length-set c.loop-at.counts c.loop-at.at c.octets_of.result ∙ size,
      set_more c.loop-at.counts (λ k. get_or (map (octets_in codec) (types_of es)) k 0) c.loop-at.at c.octets_of.result (omega arith) (c.octets_of.ensures ∙ octets_at codec es c.loop-at.at c.entry.result (omega arith) c.entry.ensures.entry) c.loop-at.invariant.1,
    )

pub returns : goal.returns
returns c =
    let codec = c.args.profile.now.codec in
    let es = listed c.args.toc.now in
    let few = c.args.toc.now.most in
    let count = listed_count c.args.toc.now in
    let size = c.loop-at.invariant.0 in
    front_is c.loop-at.counts (map (octets_in codec) (types_of es)) (length es) (length-map (types_of es) (octets_in codec) ∙ length-map es (λ (x : Entry). x.ft)) (omega arith) (λ k h. c.loop-at.invariant.1 k (omega arith))

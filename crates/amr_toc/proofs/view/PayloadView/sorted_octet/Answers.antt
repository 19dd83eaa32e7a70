use Rattle.std.proofs.Common.{◌≡◌, ℕ, length, get_or, ap, sym, ◌∙◌, subst, arith}
use Rattle.std.proofs.lemmas.List.{length-map}
use Rattle.std.proofs.lemmas.List.Sums.{sum_by-le}
use Rattle.amr_frame.specs.Tables.{octets_in}
use Rattle.amr_toc.specs.declared.entry.Entry.{Entry}
use Rattle.std.specs.List.{All}
use Rattle.std.specs.Prelude.{◌≤◌}
use Rattle.amr_toc.specs.Lists.{listed, types_of}
use Rattle.payload_laws.proofs.Formats.{aligned_of}
use Rattle.amr_toc.proofs.Sizes.{sizes_short, listed_count}
use Rattle.amr_toc.proofs.Standing.{octet_sorted}
use Rattle.amr_toc.proofs.view.PayloadView.sorted_octet.Goals as goal

pub sorted_place-requires-clause-lengths : goal.sorted_place-requires-clause-lengths
sorted_place-requires-clause-lengths c =
    let v = c.args.self.now in
    let counts = c.args.counts.now in
    let fts = types_of (listed v.toc) in
    let long : length counts ≡ length (listed v.toc) = ap length c.requires.counts ∙ length-map fts (octets_in v.profile.codec) ∙ length-map (listed v.toc) (λ (e : Entry). e.ft) in
    let few = v.toc.most in
    let count = listed_count v.toc in
    record {
      frames = omega arith;
      short = subst (All (λ l. l ≤ 60)) (sym c.requires.counts) (sizes_short v.profile.codec fts);
    }

pub overflow_add-result : goal.overflow_add-result
overflow_add-result c =
    let v = c.args.self.now in
    let counts = c.args.counts.now in
    let fts = types_of (listed v.toc) in
    let short = subst (All (λ l. l ≤ 60)) (sym c.requires.counts) (sizes_short v.profile.codec fts) in
    let most = sum_by-le (λ (x : ℕ). x) 60 counts short in
    let long : length counts ≡ length (listed v.toc) = ap length c.requires.counts ∙ length-map fts (octets_in v.profile.codec) ∙ length-map (listed v.toc) (λ (e : Entry). e.ft) in
    let few = v.toc.most in
    let count = listed_count v.toc in
    let begin = v.short in
    let within = c.sorted_place.ensures.within in
    omega arith

pub bounds-self-self : goal.bounds-self-self
bounds-self-self c =
    let v = c.args.self.now in
    let place = c.sorted_place.ensures in
    (octet_sorted v.profile v.octets.now (listed v.toc) c.args.counts.now v.body c.sorted_place.result c.args.at c.args.octet ((aligned_of v.profile v.valid).sorting c.requires.sorted) c.requires.sorted v.accepted v.table c.requires.counts v.behind place.place place.within).1

pub returns : goal.returns
returns c =
    let v = c.args.self.now in
    let place = c.sorted_place.ensures in
    ap (λ k. get_or v.octets.now k 0) (octet_sorted v.profile v.octets.now (listed v.toc) c.args.counts.now v.body c.sorted_place.result c.args.at c.args.octet ((aligned_of v.profile v.valid).sorting c.requires.sorted) c.requires.sorted v.accepted v.table c.requires.counts v.behind place.place place.within).0

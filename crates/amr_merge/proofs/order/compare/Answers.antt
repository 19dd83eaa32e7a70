use Rattle.std.proofs.Common.{◌≡◌, refl, sym, ap, ◌∙◌, arith, length}
use Rattle.std.specs.Cmp.{tied_itself}
use Rattle.std.specs.Ordering.{ordering_then}
use Rattle.std.specs.declared.cmp.Ordering.{Ordering}
use Rattle.std.specs.declared.cmp.Ordering.TheVariants.{Less, Equal, Greater}
use Rattle.amr_bits.proofs.Runs.{length-run}
use Rattle.amr_bits.specs.Runs.{kept}
use Rattle.amr_frame.specs.Cells.{held, frame_of}
use Rattle.amr_merge.proofs.Octets.{by_bits}
use Rattle.amr_merge.proofs.Parts.{by_head, by_parts, class_at, same_cell, same_size}
use Rattle.amr_merge.proofs.order.compare.Goals as goal
use Rattle.amr_merge.proofs.order.compare.Goals.{After-compare_bits, In_default, In-Equal}
use Rattle.amr_merge.proofs.Quality.{quality_total}
use Rattle.spec_session.specs.Quality.{quality}

-- src/order.rt:30:28
pub compare_bits-requires : goal.compare_bits-requires
compare_bits-requires c =
    let a = c.args.a.now in
    let b = c.args.b.now in
    let head : c.then-2.result ≡ by_head (class_at c.args.codec (held a)) (class_at c.args.codec (held b)) (frame_of a) (frame_of b) = cc in
    let same = same_size c.args.codec a b c.requires.first c.requires.second (sym head ∙ c.in-Equal.is) in
    let la : length (kept a.bits) ≡ a.bits.len = length-run a.bits.octets 0 a.bits.len in
    let lb : length (kept b.bits) ≡ b.bits.len = length-run b.bits.octets 0 b.bits.len in
    (omega arith, sym la ∙ same ∙ lb)

by_all : (c : After-compare_bits) → c.compare_bits.result ≡ quality c.args.codec (held c.args.a.now) (held c.args.b.now)
by_all c =
    let a = c.args.a.now in
    let b = c.args.b.now in
    let head : by_head (class_at c.args.codec (held a)) (class_at c.args.codec (held b)) (frame_of a) (frame_of b) ≡ Equal = cc in
    c.compare_bits.ensures
    ∙ sym (by_parts c.args.codec a b c.requires.first c.requires.second ∙ ap (λ o. ordering_then o (by_bits (kept a.bits) (kept b.bits))) head)

-- src/order.rt:18:1
pub returns-in-Equal-clause-quality : goal.returns-in-Equal-clause-quality
returns-in-Equal-clause-quality c = by_all c

-- src/order.rt:18:1
pub returns-in-Equal-clause-equal : goal.returns-in-Equal-clause-equal
returns-in-Equal-clause-equal c =
    let codec = c.args.codec in
    let a = c.args.a.now in
    let b = c.args.b.now in (
      λ e. same_cell codec a b c.requires.first c.requires.second c.equal_by_bits.ensures.1 (sym (by_all c) ∙ e),
      λ e. by_all c ∙ ap (λ x. quality codec (held x) (held b)) e ∙ tied_itself (quality_total codec) (held b),
    )

decides : (o p : Ordering) → (o ≡ Equal → ⊥) → ordering_then o p ≡ o
decides Less p not = refl
decides Equal p not = absurd (not refl)
decides Greater p not = refl

-- src/order.rt:18:1
pub returns-in_default : goal.returns-in_default
returns-in_default c =
    let codec = c.args.codec in
    let a = c.args.a.now in
    let b = c.args.b.now in
    let o = by_head (class_at codec (held a)) (class_at codec (held b)) (frame_of a) (frame_of b) in
    let head : c.then-2.result ≡ o = cc in
    let is : c.then-2.result ≡ quality codec (held a) (held b) =
    head ∙ sym (by_parts codec a b c.requires.first c.requires.second ∙ decides o (by_bits (kept a.bits) (kept b.bits)) (λ e. c.in_default.not-Equal (head ∙ e))) in
    record {
      quality = is;
      equal = (
        λ e. absurd (c.in_default.not-Equal e),
        λ e. is ∙ ap (λ x. quality codec (held x) (held b)) e ∙ tied_itself (quality_total codec) (held b),
      );
    }

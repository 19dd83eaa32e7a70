use Rattle.std.proofs.Common.{◌≡◌, not, ap, ◌∙◌}
use Rattle.std.specs.Prelude.{◌&&◌, Some}
use Rattle.amr_frame.specs.Tables.{is_reserved}
use Rattle.amr_toc.proofs.CheckPlaces.{q_kept, q_lacks, shown_is}
use Rattle.amr_toc.proofs.InView.{in_said}
use Rattle.amr_toc.proofs.Valued.{known}
use Rattle.amr_toc.proofs.view.PayloadView.seen_as.Goals as goal
use Rattle.amr_toc.proofs.view.PayloadView.seen_as.Goals.{then-entry, else-entry}

pub from_bits-requires-clause-not_reserved : goal.from_bits-requires-clause-not_reserved
from_bits-requires-clause-not_reserved c =
    let v = c.args.self.now in
    let k = in_said v c.args.at c.requires.lent.entry.kind.exists in
    ap (is_reserved v.profile.codec) c.requires.lent.entry.kind.as_said ∙ (known v.profile v.octets.now c.args.at v.accepted k).known

pub returns : goal.returns
returns c =
    let v = c.args.self.now in
    let k = in_said v c.args.at c.requires.lent.entry.kind.exists in
    let e = c.args.entry in
    let d = c.check_differs-damaged in
    let q : c.if-entry.q ≡ (e.q && not d.result) = elim c.if-entry.branch [
      | then-entry w ↦ q_kept c.if-entry.q e.q d.result w.if-entry.true w.q-is
      | else-entry w ↦ q_lacks c.if-entry.q e.q d.result w.if-entry.false (w.q-is ∙ w.if-entry.false)
    ] in
    record {
      frame = c.from_bits.ensures.frame ∙ ap Some (shown_is v.profile v.octets.now c.args.at e.ft c.if-entry.q e.q d.result _ k c.requires.lent.entry.kind.as_said c.requires.lent.entry.quality d.ensures q c.requires.lent.run.bits);
      valid = c.from_bits.ensures.valid;
    }

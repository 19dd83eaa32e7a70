use Rattle.std.proofs.Common.{◌≡◌, ◌++◌, ◌∷◌, length, take, ap, ◌∙◌, sym, subst}
use Rattle.std.proofs.lemmas.Result.{on_err_weaker, on_ok_weaker}
use Rattle.std.specs.Io.KnownBytes.{Appends}
use Rattle.amr_bits.specs.Bits.{filled}
use Rattle.amr_bits.specs.Runs.{kept}
use Rattle.amr_frame.specs.Cells.{frame_of}
use Rattle.amr_io.proofs.Fronts.{part_is_front}
use Rattle.amr_io.specs.Told.{AppendsFront}
use Rattle.spec_store.specs.StorageFile.{frame_text}
use Rattle.amr_store.proofs.frame.write_cell.Goals as goal

pub returns : goal.returns
returns g c =
    let bits = c.args.cell.now.bits in
    let head = c.frame_head.result in
    let lent = c.as_octets-count.ensures in
    let before = g.O.Sink.got c.args.sink.now in
    let after = g.O.Sink.got c.write_whole_headed.new.sink in
    let is : head ∷ take (length c.as_octets-count.result.now) bits.octets ≡ frame_text (frame_of c.args.cell.now) =
    ap (λ m. head ∷ take m bits.octets) lent.count
    ∙ ap (λ octets. head ∷ octets) (sym lent.field ∙ lent.bits)
    ∙ ap (λ front. front ++ filled (kept bits)) c.frame_head.ensures in
    record {
      whole = on_ok_weaker c.write_whole_headed.result (λ whole. subst (Appends before after) is whole)
          c.write_whole_headed.ensures.whole;
      part = on_err_weaker c.write_whole_headed.result
          (λ part. subst (AppendsFront before after) is (part_is_front _ _ _ part))
          c.write_whole_headed.ensures.part;
      step = c.write_whole_headed.ensures.step;
    }

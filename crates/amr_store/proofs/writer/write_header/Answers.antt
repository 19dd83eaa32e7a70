use Rattle.std.proofs.Common.{◌∷◌, ◌++◌, [], rules, sym, subst, ap, ◌∙◌}
use Rattle.std.proofs.KnownBytes.{Appends-trans}
use Rattle.std.proofs.lemmas.Result.{on_err_weaker, on_ok_weaker}
use Rattle.std.specs.Io.KnownBytes.{Appends}
use Rattle.amr_io.specs.Told.{AppendsFront}
use Rattle.amr_io.proofs.Fronts.{front_of_more, part_is_front, then_front}
use Rattle.amr_io.proofs.Results.{on_err}
use Rattle.amr_store.proofs.Heads.{header_of_many, header_of_one}
use Rattle.amr_store.proofs.writer.write_header.Goals as goal

pub returns-then-channels-eq1 : goal.returns-then-channels-eq1
returns-then-channels-eq1 g c =
    let is = c.magic.ensures ∙ sym (header_of_one c.args.codec c.args.channels c.if-channels-eq1.true) in
    record {
      whole = search rules;
      part = on_err_weaker c.write_whole.result
          (λ part. subst (AppendsFront (g.O.Sink.got c.args.sink.now) (g.O.Sink.got c.write_whole.new.sink)) is
          (part_is_front _ _ _ part))
          c.write_whole.ensures.part;
      step = search rules;
    }

pub returns-in_err-write_whole : goal.returns-in_err-write_whole
returns-in_err-write_whole g c =
    let tail = 0 ∷ 0 ∷ 0 ∷ c.args.channels ∷ [] in
    let is = ap (λ magic. magic ++ tail) c.multichannel_magic.ensures
    ∙ sym (header_of_many c.args.codec c.args.channels c.if-channels-eq1.false) in
    record {
      whole = search rules;
      part = on_err c.from_residual.result
          (subst (AppendsFront (g.O.Sink.got c.args.sink.now) (g.O.Sink.got c.write_whole-2.new.sink)) is
          (front_of_more _ _ c.multichannel_magic.result.now tail
          (part_is_front _ _ _ c.in_err-write_whole.ensures.part)));
      step = search rules;
    }

pub returns : goal.returns
returns g c =
    let tail = 0 ∷ 0 ∷ 0 ∷ c.args.channels ∷ [] in
    let is = ap (λ magic. magic ++ tail) c.multichannel_magic.ensures
    ∙ sym (header_of_many c.args.codec c.args.channels c.if-channels-eq1.false) in
    record {
      whole = on_ok_weaker c.write_whole-3.result
          (λ whole. subst (Appends (g.O.Sink.got c.args.sink.now) (g.O.Sink.got c.write_whole-3.new.sink)) is
          (Appends-trans _ (g.O.Sink.got c.write_whole-2.new.sink) _ c.multichannel_magic.result.now tail
          c.in_ok-write_whole.ensures.whole whole))
          c.write_whole-3.ensures.whole;
      part = on_err_weaker c.write_whole-3.result
          (λ part. subst (AppendsFront (g.O.Sink.got c.args.sink.now) (g.O.Sink.got c.write_whole-3.new.sink)) is
          (then_front _ (g.O.Sink.got c.write_whole-2.new.sink) _ c.multichannel_magic.result.now tail
          c.in_ok-write_whole.ensures.whole (part_is_front _ _ _ part)))
          c.write_whole-3.ensures.part;
      step = search rules;
    }

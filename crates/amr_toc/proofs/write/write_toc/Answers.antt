use Rattle.std.proofs.Common.{◌≡◌, ℕ, ◌+◌, ◌*◌, length, drop, ap, ◌∙◌, arith}
use Rattle.std.proofs.lemmas.List.{at_drop_all}
use Rattle.amr_toc.specs.Entries.{table_text}
use Rattle.amr_toc.proofs.Tables.{entries_from, room_for, one_more}
use Rattle.amr_toc.proofs.Writing.{at_first, next_step, at_last}
use Rattle.amr_toc.proofs.write.write_toc.Goals as goal

pub loop-k-init : goal.loop-k-init
loop-k-init c = (omega arith, at_first c.args.out.now c.args.at.now.written (table_text c.args.width c.args.entries.now))

pub put_entry-requires-clause-fits : goal.put_entry-requires-clause-fits
put_entry-requires-clause-fits c =
    let room = room_for c.args.width c.loop-k.k (length c.args.entries.now) c.requires.entries.wide (omega arith) in
    omega (arith, c.loop-k.invariant.0, c.loop-k.invariant.1.size, c.requires.fits)

pub put_entry-requires-clause-counts : goal.put_entry-requires-clause-counts
put_entry-requires-clause-counts c =
    let room = room_for c.args.width c.loop-k.k (length c.args.entries.now) c.requires.entries.wide (omega arith) in
    omega (arith, c.loop-k.invariant.0, c.requires.counts)

pub loop-k-preserved : goal.loop-k-preserved
loop-k-preserved c =
    let es = c.args.entries.now in
    let k = c.loop-k.k in
    let more = one_more c.args.width k c.requires.entries.wide in
    let here = entries_from c.args.width es k _ (omega arith) in
    let written = c.put_entry.ensures.written in (
      omega (arith, c.loop-k.invariant.0),
      next_step _ (table_text c.args.width (drop (k + 1) es)) here c.loop-k.invariant.1 c.put_entry.ensures.text
          (omega arith) (omega arith),
    )

pub returns-clause-written : goal.returns-clause-written
returns-clause-written c =
    let end : c.loop-k.k ≡ length c.args.entries.now = omega arith in
    c.loop-k.invariant.0 ∙ ap (λ (n : ℕ). c.args.at.now.written + c.args.width * n) end

pub returns-clause-text : goal.returns-clause-text
returns-clause-text c =
    let none = at_drop_all (table_text c.args.width) c.args.entries.now c.loop-k.k (omega arith) in
    at_last c.loop-k.invariant.1 none (omega (arith, c.requires.entries.some))

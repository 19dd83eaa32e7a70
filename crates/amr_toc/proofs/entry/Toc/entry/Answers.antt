use Rattle.std.proofs.Common.{◌+◌, ◌*◌, ◌≤◌, drop, sym, subst, ◌∙◌, arith}
use Rattle.std.proofs.lemmas.List.FromFn.{get_or-map-range_with_len}
use Rattle.std.proofs.Math.Nat.{mul-le-mul_right}
use Rattle.amr_bits.specs.Runs.{run}
use Rattle.amr_toc.specs.declared.entry.Entry.{Entry}
use Rattle.amr_toc.specs.Table.{entry_of}
use Rattle.amr_toc.proofs.Sizes.{four_small, listed_count}
use Rattle.amr_toc.proofs.entry.Toc.entry.Goals as goal

pub entry_at-requires : goal.entry_at-requires
entry_at-requires c =
    let toc = c.args.self.now in
    let count = listed_count toc in
    let most = toc.most in
    let h = c.requires in
    let below : (c.args.at + 1) * toc.width ≤ toc.entries * toc.width = mul-le-mul_right toc.width (omega arith) in
    let whole = toc.whole in
    record { wide = record { low = toc.low; high = toc.high }; few = omega arith; whole = omega arith }

pub returns-clause-ft : goal.returns-clause-ft
returns-clause-ft c =
    let toc = c.args.self.now in
    subst (λ (e : Entry). e.ft ≤ 15) (sym c.entry_at.ensures) (four_small (drop (c.args.at * toc.width + 1) (run toc.bits)))

pub returns-clause-entry : goal.returns-clause-entry
returns-clause-entry c =
    let toc = c.args.self.now in
    let count = listed_count toc in
    let h = c.requires in
    c.entry_at.ensures ∙ sym (get_or-map-range_with_len (entry_of toc.width (run toc.bits)) 0 toc.entries c.args.at c.args.at c.entry_at.result (omega arith) (omega arith))

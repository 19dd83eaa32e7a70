use Rattle.amr_toc.proofs.InRows.{can_gather, has_gathered, rows_behind}
use Rattle.amr_toc.proofs.view.PayloadView.next_sorted.Goals as goal

pub gather-gathered-requires : goal.gather-gathered-requires
gather-gathered-requires c =
    can_gather c.args.self.now c.requires.sorted c.args.at c.args.entry.ft c.octets_of-count.result
    c.requires.entry.kind c.octets_of-count.ensures c.args.rows.now c.requires.rows

pub run_in-requires : goal.run_in-requires
run_in-requires c = record {
  kind = c.requires.entry.kind;
  gathered = has_gathered c.args.self.now c.requires.sorted c.args.at c.args.entry.ft c.octets_of-count.result
      c.requires.entry.kind c.octets_of-count.ensures c.args.rows.now _ c.requires.rows
      c.gather-gathered.ensures.octets;
}

pub returns-clause-rows : goal.returns-clause-rows
returns-clause-rows c =
    rows_behind c.args.self.now c.requires.sorted c.args.at c.args.entry.ft c.octets_of-count.result
    c.requires.entry.kind c.octets_of-count.ensures c.args.rows.now _ c.requires.rows c.gather-gathered.ensures.rows

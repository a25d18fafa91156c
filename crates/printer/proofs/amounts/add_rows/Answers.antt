use Rattle.std.proofs.Common.{rules}
use Rattle.printer.proofs.RowLemmas.{one_row, all_rows}
use Rattle.printer.proofs.ResultLemmas.{on_ok}
use Rattle.printer.proofs.amounts.add_rows.Goals as goal

pub loop-row-preserved : goal.loop-row-preserved
loop-row-preserved c =
    let first = c.in-Some.ensures in
    let more = one_row c.args.page_size.bytes c.args.amounts _ _ _ _ _ _ first.2 first.0 first.1 c.in_ok-add_line.ensures c.loop-row.invariant.1 in
    (search rules, more)

pub returns : goal.returns
returns c = on_ok c.add_row.result c.add_row.ensures (λ added. all_rows c.args.page_size.bytes c.args.amounts _ _ _ _ c.in_default.ensures added c.loop-row.invariant.1)

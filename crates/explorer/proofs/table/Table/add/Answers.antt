use Rattle.std.proofs.Common.{List, ap, sym, ◌∙◌, subst}
use Rattle.std.specs.Prelude.{string_bytes}
use Rattle.explorer.specs.Tally.{Counted, with_order}
use Rattle.explorer.specs.Tables.{shown_rows, row_for, IsFoundWith}
use Rattle.explorer.proofs.TableRows.{insert-shown}
use Rattle.explorer.proofs.table.Table.add.Goals as goal

pub returns-clause-counted : goal.returns-clause-counted
returns-clause-counted c =
    let bs = string_bytes c.args.outcome in
    let P : List Counted → Type 0 = λ (rows : List Counted). IsFoundWith (row_for bs rows) c.args.path.now c.in_ok-found.found in
    ap shown_rows c.in_ok-insert.ensures.entries
    ∙ (insert-shown c.self.inside.rows.entries c.args.outcome c.in_ok-found.found c.args.path.now (subst P (sym c.self.view_is) c.in_ok-found.ensures)
    ∙ ap (λ (rows : List Counted). with_order rows bs c.args.path.now) c.self.view_is)

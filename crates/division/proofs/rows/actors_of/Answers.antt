use Rattle.std.proofs.Common.{ap, ◌∙◌}
use Rattle.division.proofs.RowLemmas.{fold_one, take_next}
use Rattle.division.specs.Sorting.{left, worker, with_found}
use Rattle.division.proofs.rows.actors_of.Goals as goal

pub loop-line-preserved : goal.loop-line-preserved
loop-line-preserved c =
    fold_one _ left _ _ c.line-item.result _ _ (take_next c.args.setup.now c.loop-line.line-index c.line-item.result c.loop-line-test.true c.line-item.is) c.loop-line.invariant
    (c.in_ok-add_found.ensures ∙ ap (with_found c.loop-line.actors.items) c.left.ensures)

pub loop-line-2-preserved : goal.loop-line-2-preserved
loop-line-2-preserved c =
    fold_one _ worker _ _ c.line-item-in-loop-line-2.result _ _ (take_next c.args.work.now c.loop-line-2.line-index c.line-item-in-loop-line-2.result c.loop-line-2-test.true c.line-item-in-loop-line-2.is) c.loop-line-2.invariant
    (c.in_ok-add_found-2.ensures ∙ ap (with_found c.loop-line-2.actors.items) c.worker.ensures)

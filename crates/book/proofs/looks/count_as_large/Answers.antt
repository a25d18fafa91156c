use Rattle.std.proofs.Common.{arith, ap, sym, ◌∙◌}
use Rattle.machine.proofs.SlotLemmas.{one_if}
use Rattle.book.specs.Looks.{is_as_large}
use Rattle.book.proofs.LookLemmas.{count-more}
use Rattle.book.proofs.looks.count_as_large.Goals as goal
use Rattle.book.proofs.looks.count_as_large.Goals.{then-is_as_large, else-is_as_large}

pub loop-task-preserved : goal.loop-task-preserved
loop-task-preserved c =
    let few = c.loop-task.invariant.few in
    let counted = c.loop-task.invariant.counted in
    let more = count-more (is_as_large c.args.tree.now c.args.spaces.now.tasks c.args.spaces.now.page_tables c.args.limit.0 c.args.victim.0) 0 c.loop-task.task c.loop-task.task (omega arith) in
    elim c.if-is_as_large.branch [
      | then-is_as_large w ↦ (
          let is = w.count-is in
          let one = ap one_if (sym c.is_as_large.ensures ∙ w.if-is_as_large.true) in
          record { few = omega (arith, few, is); counted = omega (arith, counted, more, is, one) })
      | else-is_as_large w ↦ (
          let is = w.count-is in
          let one = ap one_if (sym c.is_as_large.ensures ∙ w.if-is_as_large.false) in
          record { few = omega (arith, few, is); counted = omega (arith, counted, more, is, one) })
    ]

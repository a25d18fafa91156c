use Rattle.std.proofs.Common.{arith}
use Rattle.book.proofs.LookLemmas.{shown-nowhere}
use Rattle.book.proofs.looks.first_mapping.Goals as goal

pub returns : goal.returns
returns c =
    let end = c.slots-task-end.ensures.slots in
    let past = c.loop-task-test.false in
    shown-nowhere c.args.spaces.now.tasks _ _ c.owners.ensures.alive (λ t v below. c.loop-task.invariant t v (omega (arith, below, end, past)))

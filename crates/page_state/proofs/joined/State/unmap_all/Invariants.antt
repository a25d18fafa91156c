use Rattle.page_state.specs.Drops.{UnmapsBelow}
use Rattle.page_state.proofs.joined.State.unmap_all.Given as goal

abbrev pub invariant-loop-at : goal.invariant-loop-at
invariant-loop-at l = UnmapsBelow l.fn.self l.self l.task.0 l.at

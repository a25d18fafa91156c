use Rattle.page_state.specs.Kills.{CountsBelow}
use Rattle.page_state.proofs.joined.State.count_kills.Given as goal

abbrev pub invariant-loop-number : goal.invariant-loop-number
invariant-loop-number l = CountsBelow l.fn.self l.self l.group.0 l.number l.tasks

use Rattle.page_state.specs.Changes.{EndsTasks}
use Rattle.page_state.specs.Kills.{is_ended_below}
use Rattle.page_state.proofs.joined.State.end_tasks.Given as goal

abbrev pub invariant-loop-number : goal.invariant-loop-number
invariant-loop-number l = EndsTasks l.fn.self l.self (is_ended_below l.fn.self l.group.0 l.number) l.life

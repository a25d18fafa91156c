use Rattle.std.proofs.Common.{◌∙◌}
use Rattle.thread_runs.proofs.ActorLemmas.{counts_actors}
use Rattle.thread_runs.proofs.threads.count_actors.Goals as goal

pub returns : goal.returns
returns c = c.len.ensures.len ∙ counts_actors c.loop-actor-2.numbers c.args.setup.now c.args.work.now c.loop-actor-2.actor-index c.loop-actor-2-test.false c.loop-actor-2.invariant c.len.ensures.unique

use Rattle.std.proofs.Common.{◌^◌, arith}
use Rattle.page_state.proofs.KillLemmas.{counts-group}
use Rattle.page_state.proofs.joined.State.count_group_kill.Goals as goal

pub count_kills-tasks-requires : goal.count_kills-tasks-requires
count_kills-tasks-requires c = record { few = c.count_victim.ensures.most }

pub count_victim-requires-clause-few : goal.count_victim-requires-clause-few
count_victim-requires-clause-few c = λ k. c.count.ensures.most (2 ^ 63) c.requires.few k

pub returns-clause-counts : goal.returns-clause-counts
returns-clause-counts c = counts-group c.args.self.now c.count.new.self c.count_victim.new.self c.count_kills-tasks.new.self c.count-2.new.self c.args.limit.0 c.args.victim.0 c.args.group.0 c.count.ensures.counts c.count_victim.ensures.counts
    c.count_kills-tasks.ensures.counts c.count-2.ensures.counts

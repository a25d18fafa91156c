use Rattle.std.proofs.Common.{List, subst}
use Rattle.machine.specs.Tree.{Node}
use Rattle.group_tree.specs.Groups.{IsGroupTree}
use Rattle.book.proofs.KillLemmas.{kill_group-live}
use Rattle.book.proofs.CarryLemmas.{carries-kill_all}
use Rattle.book.proofs.apply.kill_all.Goals as goal

pub count_group_kill-tasks-requires-clause-group : goal.count_group_kill-tasks-requires-clause-group
count_group_kill-tasks-requires-clause-group c =
    let s = c.args.state.now.tables in
    kill_group-live s (subst (λ (tree : List Node). IsGroupTree tree) c.tree.ensures c.groups_form_a_tree.ensures) c.is_joined.ensures.homes c.args.limit.0 c.args.victim.0 c.args.group.0 c.requires.sound.2 c.requires.sound.3

pub returns : goal.returns
returns c =
    carries-kill_all c.args.state.now c.count_group_kill-tasks.new.self c.end_tasks.new.self c.args.limit c.args.victim c.args.group c.count_group_kill-tasks.result c.count_group_kill-tasks.ensures.tasks c.count_group_kill-tasks.ensures.counts
    c.end_tasks.ensures

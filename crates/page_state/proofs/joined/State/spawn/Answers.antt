use Rattle.std.proofs.Common.{◌≡◌, true, subst, sym}
use Rattle.machine.specs.Tree.{is_live}
use Rattle.page_state.specs.States.{StateOf}
use Rattle.page_state.proofs.MappedLemmas.{mapped-alike, homes-started}
use Rattle.page_state.proofs.JoinLemmas.{joined-tasks, group-kept}
use Rattle.page_state.proofs.joined.State.spawn.Goals as goal

pub spawn-requires-clause-group : goal.spawn-requires-clause-group
spawn-requires-clause-group c =
    group-kept c.self.inside c.self.invariant c.args.group.0 (subst (λ (s : StateOf). is_live s.tables.tree c.args.group.0 ≡ true) (sym c.self.view_is) c.requires.live)

pub invariant_of-self-2 : goal.invariant_of-self-2
invariant_of-self-2 c =
    let s = c.self.inside in
    let live = subst (λ (s : StateOf). is_live s.tables.tree c.args.group.0 ≡ true) (sym c.self.view_is) c.requires.live in
    joined-tasks s c.self.invariant c.spawn.new.self (mapped-alike s.parts.pages.pages s.spaces.page_tables c.spawn.new.self.page_tables c.self.invariant.mapped c.in_ok-spawn.ensures.same) c.in_ok-spawn.ensures.numbers c.in_ok-spawn.ensures.groups
    (homes-started s.tree s.spaces.tasks c.spawn.new.self.tasks c.args.task.0 c.args.group.0 live c.in_ok-spawn.ensures.starts c.self.invariant.homes)

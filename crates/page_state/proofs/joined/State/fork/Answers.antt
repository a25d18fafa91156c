use Rattle.std.proofs.Common.{◌≡◌, true, None, subst, sym}
use Rattle.machine.specs.Tasks.{lives, group_of_task}
use Rattle.machine.specs.Refusals.{number_refusal}
use Rattle.machine.proofs.TaskLemmas.{not_used}
use Rattle.page_state.specs.States.{StateOf}
use Rattle.page_state.proofs.MappedLemmas.{mapped-copied, homes-started}
use Rattle.page_state.proofs.JoinLemmas.{joined-tasks}
use Rattle.page_state.proofs.joined.State.fork.Goals as goal

pub invariant_of-self-2 : goal.invariant_of-self-2
invariant_of-self-2 c =
    let s = c.self.inside in
    let parent = c.args.parent.0 in
    let child = c.args.child.0 in
    let alive = subst (λ (s : StateOf). lives s.tables.tasks parent ≡ true) (sym c.self.view_is) c.requires.alive in
    let number = subst (λ (s : StateOf). number_refusal s.tables.tasks child ≡ None) (sym c.self.view_is) c.requires.number in
    joined-tasks s c.self.invariant c.fork.new.self
    (mapped-copied s.parts.pages.pages s.spaces.page_tables c.self.invariant.mapped s.spaces.tasks c.fork.new.self.page_tables parent child c.owners.ensures.alive (not_used s.spaces.tasks child number) c.in_ok-fork.ensures.shown)
    c.in_ok-fork.ensures.numbers c.in_ok-fork.ensures.groups
    (homes-started s.tree s.spaces.tasks c.fork.new.self.tasks child (group_of_task s.spaces.tasks parent) (c.self.invariant.homes parent alive) c.in_ok-fork.ensures.starts c.self.invariant.homes)

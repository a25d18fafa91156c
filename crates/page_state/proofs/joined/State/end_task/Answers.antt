use Rattle.std.proofs.Common.{◌≡◌, ℕ, None, sym, subst}
use Rattle.machine.specs.Tasks.{mapped_at, group_of_task}
use Rattle.page_state.specs.States.{StateOf}
use Rattle.page_state.specs.Changes.{UnmapsAll}
use Rattle.page_state.proofs.MappedLemmas.{mapped-alike, homes-ended}
use Rattle.page_state.proofs.JoinLemmas.{joined-tasks}
use Rattle.page_state.proofs.UnmapLemmas.{ends-unmapped}
use Rattle.page_state.proofs.joined.State.end_task.Goals as goal

pub exit-requires-clause-empty : goal.exit-requires-clause-empty
exit-requires-clause-empty c =
    subst (λ (s : StateOf). (v : ℕ) → mapped_at s.tables.page_tables c.args.task.0 v ≡ None) (sym c.self.view_is)
    c.unmap_all.ensures.shown.none

pub invariant_of-self : goal.invariant_of-self
invariant_of-self c =
    let s = c.self.inside in
    joined-tasks s c.self.invariant c.exit.new.self (mapped-alike s.parts.pages.pages s.spaces.page_tables c.exit.new.self.page_tables c.self.invariant.mapped c.exit.ensures.same) c.exit.ensures.numbers c.exit.ensures.groups
    (homes-ended s.tree s.spaces.tasks c.exit.new.self.tasks c.args.task.0 (group_of_task s.spaces.tasks c.args.task.0) c.args.life c.requires.ended c.exit.ensures.ends c.self.invariant.homes)

pub returns : goal.returns
returns c =
    ends-unmapped c.args.self.now c.self.inside c.exit.new.self c.args.task.0 c.args.life (subst (λ (s : StateOf). UnmapsAll c.args.self.now s c.args.task.0) (sym c.self.view_is) c.unmap_all.ensures)
    c.exit.ensures.ends c.exit.ensures.same

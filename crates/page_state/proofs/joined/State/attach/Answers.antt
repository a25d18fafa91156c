use Rattle.std.proofs.Common.{◌≡◌, true, subst, sym}
use Rattle.machine.specs.Tree.{is_live}
use Rattle.machine.specs.Tasks.{PageTables}
use Rattle.page_state.specs.Mapped.{AreMapped}
use Rattle.page_state.specs.States.{StateOf}
use Rattle.page_state.proofs.MappedLemmas.{homes-started}
use Rattle.page_state.proofs.JoinLemmas.{joined-tasks, group-kept}
use Rattle.page_state.proofs.joined.State.attach.Goals as goal

pub attach-requires-clause-group : goal.attach-requires-clause-group
attach-requires-clause-group c =
    group-kept c.self.inside c.self.invariant c.args.group.0 (subst (λ (s : StateOf). is_live s.tables.tree c.args.group.0 ≡ true) (sym c.self.view_is) c.requires.live)

pub invariant_of-self : goal.invariant_of-self
invariant_of-self c =
    let s = c.self.inside in
    let live = subst (λ (s : StateOf). is_live s.tables.tree c.args.group.0 ≡ true) (sym c.self.view_is) c.requires.live in
    joined-tasks s c.self.invariant c.attach.new.self (subst (λ (tables : PageTables). AreMapped s.parts.pages.pages tables) (sym c.attach.ensures.tables) c.self.invariant.mapped) c.attach.ensures.numbers c.attach.ensures.groups
    (homes-started s.tree s.spaces.tasks c.attach.new.self.tasks c.args.task.0 c.args.group.0 live c.attach.ensures.moves c.self.invariant.homes)

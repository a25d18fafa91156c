use Rattle.std.proofs.Common.{◌∙◌, ◌<◌, ℕ, Option, None, Some, sym, ap, subst}
use Rattle.machine.specs.Tasks.{mappers, Shows}
use Rattle.machine.proofs.Values.{some_inj}
use Rattle.page_state.specs.States.{StateOf, byte_shown}
use Rattle.page_state.specs.Changes.{HasRoom, SharesPage}
use Rattle.page_state.specs.Joined.{joined_of}
use Rattle.page_state.proofs.JoinLemmas.{granted-room}
use Rattle.page_state.proofs.MakeLemmas.{shows-again, joined-made, makes-page}
use Rattle.page_state.proofs.joined.State.copy.Goals as goal

pub hold-page-requires-clause-granted : goal.hold-page-requires-clause-granted
hold-page-requires-clause-granted c =
    granted-room c.self.inside c.self.invariant c.args.group.0 (subst (λ (s : StateOf). HasRoom s.tables c.args.group.0) (sym c.self.view_is) c.requires.room)

shares : (c : goal.After-map) → SharesPage (joined_of c.self.inside).tables c.args.task.0 c.args.at c.args.from.0
shares c = subst (λ (s : StateOf). SharesPage s.tables c.args.task.0 c.args.at c.args.from.0) (sym c.self.view_is) c.requires.shared

shown : (c : goal.After-map) → Shows c.self.inside.spaces.page_tables c.map.new.self.page_tables c.args.task.0 c.args.at (Some c.hold-page.result.0)
shown c = shows-again c.self.inside.spaces.page_tables c.unmap.new.self.page_tables c.map.new.self.page_tables c.args.task.0 c.args.at None (Some c.hold-page.result.0) c.unmap.ensures.shown c.map.ensures.shown

pub invariant_of-self : goal.invariant_of-self
invariant_of-self c =
    let s = c.self.inside in
    let shared = shares c in
    joined-made s c.self.invariant c.args.task.0 c.args.at c.hold-page.result.0 c.args.group.0 c.args.offset c.args.byte (byte_shown s.parts.pages.bytes (Some c.args.from.0)) c.hold-page.new.self c.hold-page.ensures.agree c.hold-page.ensures.adds
    c.map.new.self (shown c) (c.map.ensures.tasks ∙ c.unmap.ensures.tasks)
    (λ q at. subst (λ (p : ℕ). 1 < mappers s.spaces.page_tables p) (some_inj (sym shared.shown ∙ at)) shared.shared) (c.map.ensures.numbers ∙ c.unmap.ensures.numbers) (c.map.ensures.groups ∙ c.unmap.ensures.groups)

pub returns : goal.returns
returns c =
    let s = c.self.inside in
    let shared = shares c in
    rw (← c.self.view_is)
    (makes-page s c.self.invariant c.args.task.0 c.args.at c.hold-page.result.0 c.args.group.0 c.args.offset c.args.byte (byte_shown s.parts.pages.bytes (Some c.args.from.0)) c.hold-page.new.self c.hold-page.ensures.agree c.hold-page.ensures.adds
    c.map.new.self (shown c) (c.map.ensures.tasks ∙ c.unmap.ensures.tasks) c.hold-page.ensures.inside
    (λ k. sym (ap (λ (o : Option ℕ). byte_shown s.parts.pages.bytes o k) shared.shown)))

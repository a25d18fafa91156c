use Rattle.std.proofs.Common.{◌≡◌, None, sym, ap, subst}
use Rattle.machine.specs.Tasks.{mapped_at}
use Rattle.machine.proofs.Values.{never_some}
use Rattle.page_state.specs.States.{StateOf, byte_shown}
use Rattle.page_state.specs.Changes.{HasRoom}
use Rattle.page_state.proofs.JoinLemmas.{granted-room}
use Rattle.page_state.proofs.MakeLemmas.{joined-made, makes-page}
use Rattle.page_state.proofs.joined.State.hold.Goals as goal

pub hold-page-requires-clause-granted : goal.hold-page-requires-clause-granted
hold-page-requires-clause-granted c =
    granted-room c.self.inside c.self.invariant c.args.group.0 (subst (λ (s : StateOf). HasRoom s.tables c.args.group.0) (sym c.self.view_is) c.requires.room)

pub invariant_of-self : goal.invariant_of-self
invariant_of-self c =
    let s = c.self.inside in
    let unmapped = subst (λ (s : StateOf). mapped_at s.tables.page_tables c.args.task.0 c.args.at ≡ None) (sym c.self.view_is) c.requires.unmapped in
    joined-made s c.self.invariant c.args.task.0 c.args.at c.hold-page.result.0 c.args.group.0 c.args.offset c.args.byte (byte_shown s.parts.pages.bytes None) c.hold-page.new.self c.hold-page.ensures.agree c.hold-page.ensures.adds c.map.new.self c.map.ensures.shown c.map.ensures.tasks
    (λ q shown. never_some (mapped_at s.spaces.page_tables c.args.task.0 c.args.at) unmapped shown) c.map.ensures.numbers c.map.ensures.groups

pub returns : goal.returns
returns c =
    let s = c.self.inside in
    let unmapped = subst (λ (s : StateOf). mapped_at s.tables.page_tables c.args.task.0 c.args.at ≡ None) (sym c.self.view_is) c.requires.unmapped in
    rw (← c.self.view_is)
    (makes-page s c.self.invariant c.args.task.0 c.args.at c.hold-page.result.0 c.args.group.0 c.args.offset c.args.byte (byte_shown s.parts.pages.bytes None) c.hold-page.new.self c.hold-page.ensures.agree c.hold-page.ensures.adds c.map.new.self c.map.ensures.shown c.map.ensures.tasks
    c.hold-page.ensures.inside (λ k. sym (ap (λ shown. byte_shown s.parts.pages.bytes shown k) unmapped)))

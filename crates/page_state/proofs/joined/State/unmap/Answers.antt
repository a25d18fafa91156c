use Rattle.std.proofs.Common.{◌∙◌, sym, ap}
use Rattle.std.specs.Prelude.{option_map}
use Rattle.machine.specs.declared.id.PageId.{PageId}
use Rattle.page_state.proofs.UnmapLemmas.{joined-unshown, unmaps-unshown, joined-unmapped, unmaps-unmapped}
use Rattle.page_state.proofs.joined.State.unmap.Goals as goal

pub invariant_of-self : goal.invariant_of-self
invariant_of-self c =
    joined-unmapped c.self.inside c.self.invariant c.unmap.new.self c.args.task.0 c.args.at c.unmap.ensures.shown c.unmap.ensures.tasks c.unmap.ensures.numbers c.unmap.ensures.groups
    c.in-Some.page.0 (sym c.unmap.ensures.page ∙ ap (option_map (λ (page : PageId). page.0)) c.in-Some.is) c.drop_unmapped.new.parts c.drop_unmapped.ensures.agree c.drop_unmapped.ensures.drops

pub invariant_of-self-in_default : goal.invariant_of-self-in_default
invariant_of-self-in_default c =
    joined-unshown c.self.inside c.self.invariant c.unmap.new.self c.args.task.0 c.args.at c.unmap.ensures.shown c.unmap.ensures.tasks c.unmap.ensures.numbers c.unmap.ensures.groups
    (sym c.unmap.ensures.page ∙ ap (option_map (λ (page : PageId). page.0)) c.in_default.is)

pub returns-in-Some : goal.returns-in-Some
returns-in-Some c =
    rw (← c.self.view_is)
    (unmaps-unmapped c.self.inside c.self.invariant c.unmap.new.self c.args.task.0 c.args.at c.unmap.ensures.shown c.unmap.ensures.tasks c.unmap.ensures.numbers c.unmap.ensures.groups
    c.in-Some.page.0 (sym c.unmap.ensures.page ∙ ap (option_map (λ (page : PageId). page.0)) c.in-Some.is) c.drop_unmapped.new.parts c.drop_unmapped.ensures.agree c.drop_unmapped.ensures.drops)

pub returns-in_default : goal.returns-in_default
returns-in_default c =
    rw (← c.self.view_is)
    (unmaps-unshown c.self.inside c.self.invariant c.unmap.new.self c.args.task.0 c.args.at c.unmap.ensures.shown c.unmap.ensures.tasks c.unmap.ensures.numbers c.unmap.ensures.groups
    (sym c.unmap.ensures.page ∙ ap (option_map (λ (page : PageId). page.0)) c.in_default.is))

use Rattle.std.proofs.Common.{ap, ◌∙◌}
use Rattle.std.specs.List.{list_any}
use Rattle.machine.specs.Slots.{there_and}
use Rattle.machine.specs.Tree.{under}
use Rattle.machine.specs.Pages.{page_at, is_in_transfer}
use Rattle.page_state.proofs.NextLemmas.{any-numbers, any-queued}
use Rattle.page_state.proofs.joined.State.has_transfer.Goals as goal

pub returns : goal.returns
returns c =
    let s = c.self.inside in
    let pages = s.parts.pages.pages in
    rw (← c.self.view_is)
    (c.is_any_under.ensures
    ∙ any-numbers (λ q. there_and (λ page. under s.tree c.args.target.0 page.group) (page_at pages q)) c.as_slice.result.now
    ∙ ap (list_any (λ q. there_and (λ page. under s.tree c.args.target.0 page.group) (page_at pages q))) c.as_slice.ensures
    ∙ any-queued is_in_transfer (λ g. under s.tree c.args.target.0 g) s.parts.moving.numbers pages c.self.invariant.agree.moving)

use Rattle.std.proofs.Common.{◌≡◌, false, take}
use Rattle.std.specs.List.{list_any}
use Rattle.machine.specs.declared.id.PageId.{PageId}
use Rattle.machine.specs.Slots.{there_and}
use Rattle.machine.specs.Tree.{under}
use Rattle.machine.specs.Pages.{page_at}
use Rattle.page_state.proofs.lookup.is_any_under.Given as goal

abbrev pub invariant-loop-page : goal.invariant-loop-page
invariant-loop-page l = list_any (λ (q : PageId). there_and (λ page. under l.tree l.target.0 page.group) (page_at l.pages.pages q.0)) (take l.page-index l.queue) ≡ false

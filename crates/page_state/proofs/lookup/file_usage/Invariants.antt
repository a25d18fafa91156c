use Rattle.std.proofs.Common.{◌≡◌, ◌≤◌, ◌&&◌, not, take}
use Rattle.machine.specs.Slots.{count_there}
use Rattle.machine.specs.Pages.{is_anon, is_charged}
use Rattle.page_state.proofs.lookup.file_usage.Given as goal

-- those below this number are counted
abbrev pub invariant-loop-number : goal.invariant-loop-number
invariant-loop-number l = (l.many ≡ count_there (λ page. is_charged l.tree l.group.0 page && not (is_anon page.content)) (take l.number l.pages.pages)) × (l.many ≤ l.number)

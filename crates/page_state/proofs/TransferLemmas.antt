-- How many pages are in transfer.
use Rattle.std.proofs.Common.{◌≡◌, ℕ, None, refl, ap}
use Rattle.machine.specs.Slots.{there_and}
use Rattle.machine.specs.Pages.{Pages, is_in_transfer, in_transfer}
use Rattle.machine.proofs.SlotLemmas.{one_if, sum_by-alike}
use Rattle.pages.specs.PagesOf.{is_moving_in}

-- where the same pages are, there are as many
pub in_transfer-alike : (old new : Pages) → ((q : ℕ) → is_moving_in new q ≡ is_moving_in old q) → in_transfer new ≡ in_transfer old
in_transfer-alike old new same = sum_by-alike (λ slot. one_if (there_and is_in_transfer slot)) None refl old new (λ q. ap one_if (same q))

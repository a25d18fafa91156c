use Rattle.std.proofs.Common.{◌≡◌, ℕ, Bool, List, [], ◌∷◌, length, Option, refl, arith}
use Rattle.machine.specs.Slots.{count_there}
use Rattle.machine.specs.Pages.{Page}
use Rattle.pages.specs.declared.owned_page.OwnedPage.{OwnedPage}
use Rattle.page_state.specs.Owned.{pages_of, IsBalanced}
use Rattle.page_state.proofs.parts.Parts.close.Goals as goal

-- where no page owns anything, all is free
none_owned : (this : ℕ → Page → Bool) (has : Page → Bool) (total : ℕ) (free : List ℕ) (owned : List (Option OwnedPage)) → length owned ≡ 0 → IsBalanced this has total free (pages_of owned) → length free ≡ total
none_owned this has total free [] empty balanced = let none : count_there has [] ≡ 0 = refl in let all = balanced.all in omega (arith, all, none)
none_owned this has total free (page ∷ owned) empty balanced = cc

pub close-requires : goal.close-requires
close-requires c = record { all = none_owned _ _ _ _ c.release_last.new.owned.items (let ok = c.release_last.new.owned.ok in let none = c.release_last.ensures.empty c.loop-test.false in omega (arith, ok, none)) c.release_last.ensures.kept.frames }

pub close-requires-2 : goal.close-requires-2
close-requires-2 c = record { all = none_owned _ _ _ _ c.release_last.new.owned.items (let ok = c.release_last.new.owned.ok in let none = c.release_last.ensures.empty c.loop-test.false in omega (arith, ok, none)) c.release_last.ensures.kept.blocks }

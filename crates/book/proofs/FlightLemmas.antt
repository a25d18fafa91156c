-- Pages in transfer: which they are, by their tickets, and how many.
use Rattle.std.proofs.Common.{◌≡◌, ℕ, suc, ◌+◌, ◌||◌, Bool, true, false, List, [], ◌∷◌, Option, Some, None, eqb-true, refl, ap, ◌∙◌}
use Rattle.machine.specs.declared.record.Direction.{Direction}
use Rattle.machine.specs.declared.record.Direction.TheVariants.{In, Out}
use Rattle.machine.specs.Slots.{at, Changes, there_and, any_there}
use Rattle.machine.specs.Pages.{Residence, Coming, Going, Page, Pages, page_at, is_in_transfer, in_transfer, is_flying_at, is_in_flight}
use Rattle.machine.proofs.SlotLemmas.{one_if, count_there-changes}
use Rattle.pages.specs.PagesOf.{Label, label_of, labelled, moving, HasResidence}

-- what passes somewhere does so at a number
any-where : {T : Type 0} (test : T → Bool) (xs : List (Option T)) → any_there test xs ≡ true → (n : ℕ) × (there_and test (at xs n) ≡ true)
any-where test [] e = cc
any-where test (x ∷ xs) e =
    elim (there_and test x) as (λ b. there_and test x ≡ b → (b || any_there test xs) ≡ true → (n : ℕ) × (there_and test (at (x ∷ xs) n) ≡ true)) [
      | true ↦ λ is e. (0, is)
      | false ↦ λ is e. (let rest = any-where test xs e in (suc rest.0, rest.1))
    ] refl e

-- the page that is in transfer in a direction under a ticket, with its frame and its block
pub flying-stands : (pages : Pages) (d : Direction) (n : ℕ) → is_in_flight d pages n ≡ true → (p : ℕ) × (label : Label) × (f : ℕ) × (b : ℕ) × HasResidence pages p label (moving d f b n)
flying-stands pages d n e =
    let found = any-where (λ (page : Page). is_flying_at d n page.residence) pages e in
    by_slot found.0 (page_at pages found.0) refl found.1
  where
    by_residence : (d : Direction) (r : Residence) → is_flying_at d n r ≡ true → (f : ℕ) × (b : ℕ) × (r ≡ moving d f b n)
    by_residence In (Coming f b m) hit = (f, b, ap (Coming f b) (eqb-true m n hit))
    by_residence Out (Going f b m) hit = (f, b, ap (Going f b) (eqb-true m n hit))
    by_residence d r hit = absurd (cc)

    by_slot : (p : ℕ) (slot : Option Page) → page_at pages p ≡ slot → there_and (λ (page : Page). is_flying_at d n page.residence) slot ≡ true → (p : ℕ) × (label : Label) × (f : ℕ) × (b : ℕ) × HasResidence pages p label (moving d f b n)
    by_slot p None is hit = cc
    by_slot p (Some page) is hit =
        let at = by_residence d page.residence hit in
        (p, label_of page, at.0, at.1, is ∙ ap (λ (r : Residence). Some (labelled (label_of page) r)) at.2)

-- a page that comes to stand elsewhere changes the count by itself
pub in_transfer-changes : (old new : Pages) (p : ℕ) (to : Option Page) → Changes old new p to
    → in_transfer new + one_if (there_and is_in_transfer (page_at old p)) ≡ in_transfer old + one_if (there_and is_in_transfer to)
in_transfer-changes old new p to changes = count_there-changes is_in_transfer old new p to changes

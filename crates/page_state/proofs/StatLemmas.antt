-- Charged pages, by what they hold.
use Rattle.std.proofs.Common.{◌≡◌, ℕ, ◌+◌, ◌&&◌, not, Bool, true, false, List, [], ◌∷◌, Option, Some, None, refl, arith}
use Rattle.std.proofs.lemmas.List.Sums.{sum_by-cons}
use Rattle.machine.specs.Slots.{there_and, count_there}
use Rattle.machine.specs.Tree.{Node}
use Rattle.machine.specs.Pages.{Page, Pages, is_anon, is_charged, charged, charged_anon, charged_file}
use Rattle.machine.proofs.SlotLemmas.{one_if}

module _ {T : Type 0} (test more : T → Bool) where
  here : (slot : Option T) → one_if (there_and test slot) ≡ one_if (there_and (λ x. test x && more x) slot) + one_if (there_and (λ x. test x && not (more x)) slot)
  here None = refl
  here (Some x) = by_tests (test x) (more x)
    where
      by_tests : (a b : Bool) → one_if a ≡ one_if (a && b) + one_if (a && not b)
      by_tests true true = refl
      by_tests true false = refl
      by_tests false b = refl

  -- of those that pass one test some pass another, and the rest do not
  pub count-split : (xs : List (Option T)) → count_there test xs ≡ count_there (λ x. test x && more x) xs + count_there (λ x. test x && not (more x)) xs
  count-split [] = refl
  count-split (x ∷ xs) =
      let rest = count-split xs in
      let one = here x in
      let all = sum_by-cons (λ (slot : Option T). one_if (there_and test slot)) x xs in
      let some = sum_by-cons (λ (slot : Option T). one_if (there_and (λ y. test y && more y) slot)) x xs in
      let others = sum_by-cons (λ (slot : Option T). one_if (there_and (λ y. test y && not (more y)) slot)) x xs in
      omega (arith, rest, one, all, some, others)

-- a page that is charged holds memory, or a page of a file
pub charged-parts : (tree : List Node) (pages : Pages) (a : ℕ) → charged tree pages a ≡ charged_anon tree pages a + charged_file tree pages a
charged-parts tree pages a = count-split (is_charged tree a) (λ (page : Page). is_anon page.content) pages

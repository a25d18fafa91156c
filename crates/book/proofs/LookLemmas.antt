-- Of looks: a count over numbers, one number more; and no virtual page of a number that is no task's shows a page.
use Rattle.std.proofs.Common.{◌≡◌, ℕ, zero, suc, ◌+◌, ◌<◌, ◌≤◌, Bool, true, false, [], length, inl, inr, Option, None, Some, refl, ap, ◌∙◌, arith}
use Rattle.std.specs.Prelude.{count_by}
use Rattle.std.specs.List.{range_with_len}
use Rattle.std.proofs.lemmas.Bool.{cases_lt}
use Rattle.std.proofs.lemmas.List.{get_or_past}
use Rattle.std.proofs.lemmas.List.Sums.{sum_by-cons}
use Rattle.machine.specs.Slots.{there_and}
use Rattle.machine.proofs.SlotLemmas.{one_if}
use Rattle.machine.specs.Pages.{is_number}
use Rattle.machine.specs.Tasks.{Tasks, PageTables, lives, is_live_task, mapped_at}
use Rattle.book.specs.Looks.{shows}

pub count-more : (p : ℕ → Bool) (a n j : ℕ) → a + n ≡ j → count_by p (range_with_len a (n + 1)) ≡ count_by p (range_with_len a n) + one_if (p j)
count-more p a n j is = (let same : n + 1 ≡ suc n = omega arith in ap (λ m. count_by p (range_with_len a m)) same) ∙ by_first a n is
  where
    by_first : (b m : ℕ) → b + m ≡ j → count_by p (range_with_len b (suc m)) ≡ count_by p (range_with_len b m) + one_if (p j)
    by_first b zero here =
        let one : count_by p (range_with_len b 1) ≡ one_if (p b) + 0 = sum_by-cons (λ x. one_if (p x)) b [] in
        let same : one_if (p b) ≡ one_if (p j) = ap (λ x. one_if (p x)) (omega (arith, here)) in
        omega (arith, one, same)
    by_first b (suc m) here =
        let more : count_by p (range_with_len b (suc (suc m))) ≡ one_if (p b) + count_by p (range_with_len (b + 1) (suc m)) = sum_by-cons (λ x. one_if (p x)) b (range_with_len (b + 1) (suc m)) in
        let less : count_by p (range_with_len b (suc m)) ≡ one_if (p b) + count_by p (range_with_len (b + 1) m) = sum_by-cons (λ x. one_if (p x)) b (range_with_len (b + 1) m) in
        let rest = by_first (b + 1) m (omega (arith, here)) in
        omega (arith, more, less, rest)

pub shown-nowhere : (tasks : Tasks) (tables : PageTables) (p : ℕ) → ((t v q : ℕ) → mapped_at tables t v ≡ Some q → lives tasks t ≡ true)
    → ((t v : ℕ) → t < length tasks → shows tables p t v ≡ false) → (t v : ℕ) → shows tables p t v ≡ false
shown-nowhere tasks tables p alive none t v =
    elim (cases_lt t (length tasks)) [
      | inl below ↦ none t v below
      | inr past ↦ by_mapped past (mapped_at tables t v) refl
    ]
  where
    by_mapped : length tasks ≤ t → (m : Option ℕ) → mapped_at tables t v ≡ m → shows tables p t v ≡ false
    by_mapped past None is = ap (λ m. is_number m p) is
    by_mapped past (Some q) is =
        let live : lives tasks t ≡ true = alive t v q is in
        let dead : lives tasks t ≡ false = ap (there_and is_live_task) (get_or_past tasks t None past) in
        cc (live, dead)

-- Frames and swap blocks are free or a page's, once: also after one place in the table of pages changed.
use Rattle.std.proofs.Common.{◌≡◌, inl, inr, ℕ, ◌+◌, ◌<◌, ◌≤◌, ◌==◌, Bool, true, false, List, [], Option, ap, arith, length, eq-eqb, refl}
use Rattle.std.proofs.lemmas.Bool.{cases_lt}
use Rattle.machine.specs.Slots.{at, Changes, there_and, any_there, count_there}
use Rattle.machine.specs.Pages.{Page, Pages, page_at}
use Rattle.machine.proofs.SlotLemmas.{one_if, any_there-none, count_there-some, count_there-changes}
use Rattle.machine.proofs.Values.{unlike}
use Rattle.counts.specs.Numbers.{times}
use Rattle.page_state.specs.Owned.{IsBalanced}

-- a count after a place changed, whatever stood there
pub changed-count : (test : Page → Bool) (pages pages' : Pages) (p : ℕ) (from to : Option Page) → page_at pages p ≡ from → Changes pages pages' p to
    → count_there test pages' + one_if (there_and test from) ≡ count_there test pages + one_if (there_and test to)
changed-count test pages pages' p from to stood changes =
    let both = count_there-changes test pages pages' p to changes in
    let was : one_if (there_and test (at pages p)) ≡ one_if (there_and test from) = ap (λ (slot : Option Page). one_if (there_and test slot)) stood in
    omega (arith, both, was)

module _ (this : ℕ → Page → Bool) (has : Page → Bool) where
  -- what a place gave up is free, and what it got is not
  pub record Trades (free free' : List ℕ) (from to : Option Page) : Type 0 where
    pub counts : (n : ℕ) → times free' n + one_if (there_and (this n) to) ≡ times free n + one_if (there_and (this n) from)
    pub len : length free' + one_if (there_and has to) ≡ length free + one_if (there_and has from)

  pub balanced-step : (total : ℕ) (free free' : List ℕ) (pages pages' : Pages) (p : ℕ) (from to : Option Page) → page_at pages p ≡ from → Changes pages pages' p to → Trades free free' from to
      → IsBalanced this has total free pages → IsBalanced this has total free' pages'
  balanced-step total free free' pages pages' p from to stood changes trades balanced =
      record {
        once = λ n lt. (let c = changed-count (this n) pages pages' p from to stood changes in let k = trades.counts n in let b = balanced.once n lt in omega (arith, c, k, b));
        none_beyond = λ n le. (let c = changed-count (this n) pages pages' p from to stood changes in let k = trades.counts n in let b = balanced.none_beyond n le in omega (arith, c, k, b));
        all = (let c = changed-count has pages pages' p from to stood changes in let k = trades.len in let b = balanced.all in omega (arith, c, k, b));
      }

  -- a number that a page has is one of so many
  pub taken-within : (total : ℕ) (free : List ℕ) (pages : Pages) (f : ℕ) → IsBalanced this has total free pages → any_there (this f) pages ≡ true → f < total
  taken-within total free pages f balanced taken =
      elim (cases_lt f total) [
        | inl lt ↦ lt
        | inr le ↦ unlike (any_there (this f) pages) taken (any_there-none (this f) pages (let beyond = balanced.none_beyond f le in omega (arith, beyond)))
      ]

  -- what was free is no page's
  pub taken-in : (total : ℕ) (free free' : List ℕ) (pages : Pages) (f : ℕ) → ((n : ℕ) → times free n ≡ times free' n + one_if (f == n)) → IsBalanced this has total free pages
      → (f < total) × (any_there (this f) pages ≡ false)
  taken-in total free free' pages f counts balanced =
      elim (cases_lt f total) [
        | inl lt ↦ (lt, any_there-none (this f) pages (let once = balanced.once f lt in omega (arith, taken, once)))
        | inr le ↦ absurd (let beyond = balanced.none_beyond f le in omega (arith, taken, beyond))
      ]
    where
      own : one_if (f == f) ≡ 1
      own = ap one_if (eq-eqb f f refl)

      taken : times free f ≡ times free' f + 1
      taken = let k = counts f in omega (arith, k, own)

  -- what is a page's is not free
  pub given-out : (total : ℕ) (free : List ℕ) (pages : Pages) (p f : ℕ) → there_and (this f) (page_at pages p) ≡ true → IsBalanced this has total free pages → (times free f ≡ 0) × (f < total)
  given-out total free pages p f stood balanced =
      let some : 1 ≤ count_there (this f) pages = count_there-some (this f) pages p stood in
      elim (cases_lt f total) [
        | inl lt ↦ (let once = balanced.once f lt in omega (arith, once, some), lt)
        | inr le ↦ absurd (let beyond = balanced.none_beyond f le in omega (arith, beyond, some))
      ]

  pub balanced-open : (total : ℕ) (free : List ℕ) (pages : Pages) → pages ≡ [] → ((n : ℕ) → n < total → times free n ≡ 1) → ((n : ℕ) → total ≤ n → times free n ≡ 0) → length free ≡ total → IsBalanced this has total free pages
  balanced-open total free pages empty once beyond all =
      rw empty
      (record {
        once = λ f lt. (let k = once f lt in omega (arith, k));
        none_beyond = λ f le. (let k = beyond f le in omega (arith, k));
        all = omega (arith, all);
      })

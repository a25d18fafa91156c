-- What a group asks for by one of its limits, where the tables were read at one group, and written there. `of` says which of the limits it is.
use Rattle.std.proofs.Common.{inl, inr, ◌≡◌, ℕ, ◌<◌, List, length, get_or, sym, ap, ◌∙◌, slice_index, slice_set, get_or-set_other, get_or-set_same}
use Rattle.std.proofs.lemmas.List.{get_or_default}
use Rattle.machine.specs.declared.amount.Amount.{Amount}
use Rattle.machine.specs.declared.record.Guard.{Guard}
use Rattle.machine.specs.declared.record.Limits.{Limits}
use Rattle.machine.specs.Amounts.{at_most}
use Rattle.machine.specs.Counts.{no_limits, limits_at, guard_of, with_guard}
use Rattle.machine.specs.Protection.{setting_of}
use Rattle.machine.specs.Tree.{Node}
use Rattle.machine.proofs.TreeLemmas.{eq_cases}
use Rattle.page_counter.proofs.GuardLemmas.{guard_of-with}
use Rattle.page_counter.proofs.KeptLemmas.{asks, AsksAnew}

module _ (of : Limits → Amount) (limits : List Limits) (g : ℕ) (within : g < length limits) where
  read-setting : (l d : Limits) → l ≡ get_or limits g d → of l ≡ of (limits_at limits g)
  read-setting l d read = ap of (read ∙ get_or_default limits g d no_limits within)

  -- where another of the limits was written
  pub same-setting : (l d new : Limits) → l ≡ get_or limits g d → of new ≡ of l → (c : ℕ) → of (limits_at (slice_set limits g new) c) ≡ of (limits_at limits c)
  same-setting l d new read same c =
      elim (eq_cases c g) [
        | inl here ↦ rw here (ap of (get_or-set_same limits g new no_limits within) ∙ same ∙ read-setting l d read)
        | inr differs ↦ ap of (get_or-set_other limits g c new no_limits differs)
      ]

  module _ (tree : List Node) (usage : List ℕ) (there : g < length usage) (n d : ℕ) (l e : Limits) (read_count : n ≡ get_or usage g d) (read_limits : l ≡ get_or limits g e) (before after : ℕ) (was : before ≡ at_most n (of l)) where
    count_is : n ≡ slice_index usage g
    count_is = read_count ∙ get_or_default usage g d 0 there

    was_asked : before ≡ asks (λ c. of (limits_at limits c)) usage g
    was_asked = was ∙ ap (λ k. at_most k (of l)) count_is ∙ ap (at_most (slice_index usage g)) (read-setting l e read_limits)

    -- its count was written
    pub counted-anew : (pages : ℕ) → after ≡ at_most pages (of l) → AsksAnew tree (λ c. of (limits_at limits c)) (λ c. of (limits_at limits c)) usage (slice_set usage g pages) g before after
    counted-anew pages becomes =
        record {
          was = was_asked;
          is = becomes ∙ ap (at_most pages) (read-setting l e read_limits) ∙ sym (ap (λ u. at_most u (of (limits_at limits g))) (get_or-set_same usage g pages 0 there));
          others = λ c lt differs. ap (λ u. at_most u (of (limits_at limits c))) (get_or-set_other usage g c pages 0 differs);
        }

    -- its setting was written
    pub set-anew : (new : Limits) → after ≡ at_most n (of new) → AsksAnew tree (λ c. of (limits_at limits c)) (λ c. of (limits_at (slice_set limits g new) c)) usage usage g before after
    set-anew new becomes =
        record {
          was = was_asked;
          is = becomes ∙ ap (λ k. at_most k (of new)) count_is ∙ sym (ap (λ x. at_most (slice_index usage g) (of x)) (get_or-set_same limits g new no_limits within));
          others = λ c lt differs. ap (λ x. at_most (slice_index usage c) (of x)) (get_or-set_other limits g c new no_limits differs);
        }

-- of one of the two settings that protect, where `setting` is what was read of it
module _ (guard : Guard) (limits : List Limits) (g : ℕ) (within : g < length limits) (tree : List Node) (usage : List ℕ) (there : g < length usage) (n d : ℕ) (l e : Limits) (read_count : n ≡ get_or usage g d) (read_limits : l ≡ get_or limits g e)
    (setting : Amount) (read : setting ≡ guard_of guard l) (before after : ℕ) (was : before ≡ at_most n setting) where
  -- the count was written
  pub recounted : (pages : ℕ) → after ≡ at_most pages setting → AsksAnew tree (setting_of guard limits) (setting_of guard limits) usage (slice_set usage g pages) g before after
  recounted pages becomes = counted-anew (guard_of guard) limits g within tree usage there n d l e read_count read_limits before after (was ∙ ap (at_most n) read) pages (becomes ∙ ap (at_most pages) read)

  -- the setting was
  pub reset : (amount : Amount) → after ≡ at_most n amount → AsksAnew tree (setting_of guard limits) (setting_of guard (slice_set limits g (with_guard l guard amount))) usage usage g before after
  reset amount becomes =
      set-anew (guard_of guard) limits g within tree usage there n d l e read_count read_limits before after (was ∙ ap (at_most n) read) (with_guard l guard amount) (becomes ∙ ap (at_most n) (sym (guard_of-with guard l amount)))

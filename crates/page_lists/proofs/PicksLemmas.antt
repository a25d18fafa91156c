-- The search for a page is settled: what it answers, and the lists that it leaves, follow from those that it began with.
use Rattle.std.proofs.Common.{◌≡◌, inl, inr, ℕ, ◌<◌, Bool, true, false, [], Option, Some, None, sym, ap, ◌∙◌}
use Rattle.std.specs.Prelude.{MatchBool}
use Rattle.machine.specs.Generations.{Listed}
use Rattle.machine.specs.Aging.{Seen}
use Rattle.machine.specs.Eviction.{old_pages, has_usable, passed_by, settled, aged_times, AgesToOld, Picks}
use Rattle.machine.proofs.TreeLemmas.{lt_cases}

-- of two agings of one group, none ends before the other
not_before : (swap_free : Bool) (from : Seen) (answer answer' : Option ℕ) (to to' : Seen) (h : AgesToOld swap_free from answer to) (h' : AgesToOld swap_free from answer' to') → h.times < h'.times → ⊥
not_before swap_free from answer answer' to to' h h' less = let none : old_pages swap_free (aged_times h.times from).gens ≡ [] = h'.none_before h.times less in cc

module _ (swap_free : Bool) (from : Seen) (answer answer' : Option ℕ) (to to' : Seen) where
  -- they answer alike, and leave the same lists
  abbrev pub AreOne : Type 0
  AreOne = (answer ≡ answer') × (to ≡ to')

  -- as many times aged, a group has one first old page
  same_times : (h : AgesToOld swap_free from answer to) (h' : AgesToOld swap_free from answer' to') → h.times ≡ h'.times → AreOne
  same_times h h' same =
      let first : h.first ≡ h'.first = cc in
      (h.answers ∙ ap (λ (l : Listed). Some l.page) first ∙ sym h'.answers, h.leaves ∙ ap (λ (n : ℕ). settled (aged_times n from)) same ∙ sym h'.leaves)

  ages_alike : AgesToOld swap_free from answer to → AgesToOld swap_free from answer' to' → AreOne
  ages_alike h h' =
      elim (lt_cases h.times h'.times) [
        | inl less ↦ absurd (not_before swap_free from answer answer' to to' h h' less)
        | inr rest ↦ elim rest [ inl same ↦ same_times h h' same | inr more ↦ absurd (not_before swap_free from answer' answer to' to h' h more) ]
      ]

-- two searches that begin with the same lists and marks answer alike, and leave the same
pub picks_alike : (swap_free : Bool) (from : Seen) (answer answer' : Option ℕ) (to to' : Seen) → Picks swap_free from answer to → Picks swap_free from answer' to' → (answer ≡ answer') × (to ≡ to')
picks_alike swap_free from answer answer' to to' h h' = by_usable (has_usable swap_free from.gens) h h'
  where
    by_usable : (b : Bool) → MatchBool b (AgesToOld swap_free (passed_by swap_free from) answer to) ((answer ≡ None) × (to ≡ from))
        → MatchBool b (AgesToOld swap_free (passed_by swap_free from) answer' to') ((answer' ≡ None) × (to' ≡ from)) → (answer ≡ answer') × (to ≡ to')
    by_usable true k k' = ages_alike swap_free (passed_by swap_free from) answer answer' to to' k k'
    by_usable false k k' = (k.0 ∙ sym k'.0, k.1 ∙ sym k'.1)

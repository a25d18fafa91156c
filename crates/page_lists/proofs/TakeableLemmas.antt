-- What is known of a page that may be taken.
use Rattle.std.proofs.Common.{◌≡◌, ℕ, ◌&&◌, ◌||◌, Bool, true, false, not, cond, List, [], ◌∷◌, refl}
use Rattle.std.proofs.lemmas.Bool.{and_parts}
use Rattle.machine.specs.declared.record.EventCounts.{EventCounts}
use Rattle.machine.specs.declared.record.Key.TheVariants as key
use Rattle.machine.specs.Counts.{with_event, count_of, with_events}
use Rattle.machine.specs.Events.{low_named}
use Rattle.machine.specs.Pages.{Page, is_anon, is_held}
use Rattle.machine.specs.Reclaim.{is_unprotected, is_takeable, is_above_low, has_open, is_next, counted_at_take}
use Rattle.machine.specs.State.{State, is_swap_free}
use Rattle.machine.specs.Tree.{under}

module _ (s : State) (target : ℕ) (page : Page) where
  -- one that may be taken now is takeable
  pub next-takeable : is_next s target page ≡ true → is_takeable s target page ≡ true
  next-takeable next = (and_parts (is_takeable s target page) _ next).0

  -- and open, or none is
  pub next-open : is_next s target page ≡ true → (is_above_low s target page.group || not (has_open s target)) ≡ true
  next-open next = (and_parts (is_takeable s target page) _ next).1

  module _ (takes : is_takeable s target page ≡ true) where
    -- memory has a swap block to go to
    pub takeable-goes : (not (is_anon page.content) || is_swap_free s) ≡ true
    takeable-goes = (and_parts (is_held page && under s.tree target page.group && is_unprotected s target page.group) _ takes).1

    in_group : (is_held page && under s.tree target page.group && is_unprotected s target page.group) ≡ true
    in_group = (and_parts (is_held page && under s.tree target page.group && is_unprotected s target page.group) _ takes).0

    pub takeable-unprotected : is_unprotected s target page.group ≡ true
    takeable-unprotected = (and_parts (is_held page && under s.tree target page.group) _ in_group).1

    held_below : (is_held page && under s.tree target page.group) ≡ true
    held_below = (and_parts (is_held page && under s.tree target page.group) _ in_group).0

    pub takeable-below : under s.tree target page.group ≡ true
    takeable-below = (and_parts (is_held page) _ held_below).1

    pub takeable-held : is_held page ≡ true
    takeable-held = (and_parts (is_held page) _ held_below).0

-- the table where a page is taken has what is named
pub taken-named : (s : State) (target g : ℕ) → counted_at_take s target g ≡ with_events s.counted (low_named s target g)
taken-named s target g = by_test (has_open s target)
  where
    by_test : (b : Bool) → cond b s.counted (with_event s.counted g key.Low) ≡ with_events s.counted (cond b [] (count_of g key.Low ∷ []))
    by_test true = refl
    by_test false = refl

-- Whose turn it is after a page, by the counters and the lists, and by the table of pages.
use Rattle.std.proofs.Common.{◌≡◌, ◌∙◌, ℕ, ◌==◌, ◌&&◌, ◌||◌, not, inl, inr, Bool, true, false, List, get_or, Option, Some, None, refl, sym, ap, arith}
use Rattle.std.specs.Prelude.{IfSome}
use Rattle.std.proofs.lemmas.Bool.{cases_Bool, and_parts}
use Rattle.std.proofs.lemmas.Bool.Decides.{nat_tests}
use Rattle.machine.specs.declared.event.Goal.{Goal}
use Rattle.machine.specs.declared.record.Guard.TheVariants.{Low}
use Rattle.machine.specs.Slots.{there_and, any_there}
use Rattle.machine.specs.Tree.{is_live, under, preorder}
use Rattle.machine.specs.Pages.{Page, page_at}
use Rattle.machine.specs.Generations.{Gens}
use Rattle.machine.specs.Protection.{setting_of, is_beyond}
use Rattle.machine.specs.Order.{cursor_at, heeds_age, takes_parts, served_first, cursor_after}
use Rattle.machine.specs.Lists.{is_next_of, gives, served, cursor_served}
use Rattle.machine.specs.State.{usage, is_swap_free}
use Rattle.machine.specs.Reclaim.{is_above_low, is_takeable, has_open}
use Rattle.machine.proofs.SlotLemmas.{any_there-none, count_there-none}
use Rattle.page_lists.proofs.GiverLemmas.{above-open, may_give}
use Rattle.group_tree.specs.Groups.{IsGroupTree}
use Rattle.group_tree.proofs.LineageLemmas.{live-within}
use Rattle.page_counter.specs.Counts.{usage_of}
use Rattle.reclaim.proofs.PassLemmas.{asked-all}
use Rattle.reclaim.proofs.TurnLemmas.{cursor-agree}
use Rattle.page_state.specs.declared.joined.State.TheInside.{Inside}
use Rattle.page_state.specs.Joined.{joined_of, IsJoined}
use Rattle.page_state.proofs.NextLemmas.{listed_by, listed_old_by, listed-same, served-listed, beyond-same, usages, live_at, served-gives}

module _ (s : Inside) (is : IsJoined s) (groups : IsGroupTree s.tree) (goal : Goal) (target g : ℕ) (live : is_live s.tree target ≡ true) (serves : served (joined_of s).tables (joined_of s).order goal target ≡ Some g) where
  given : gives (joined_of s).tables target g ≡ true
  given = served-gives (joined_of s).tables target g (joined_of s).order goal serves

  served-below : under s.tree target g ≡ true
  served-below = (may_give (joined_of s).tables target g given).below

  served-live : is_live s.tree g ≡ true
  served-live =
      elim (cases_Bool (is_live s.tree g)) [
        | inl lives ↦ lives
        | inr gone ↦
            (let none : gives (joined_of s).tables target g ≡ false =
            any_there-none (is_next_of (joined_of s).tables target g) s.parts.pages.pages
            (count_there-none (is_next_of (joined_of s).tables target g) s.parts.pages.pages (λ p. by_slot gone (page_at s.parts.pages.pages p) (live_at s is p))) in
            absurd (let wrong : true ≡ false = sym given ∙ none in cc))
      ]
    where
      by_slot : is_live s.tree g ≡ false → (slot : Option Page) → IfSome slot (λ page. is_live s.tree page.group ≡ true) → there_and (is_next_of (joined_of s).tables target g) slot ≡ false
      by_slot gone None lives = refl
      by_slot gone (Some page) lives =
          elim (cases_Bool (is_next_of (joined_of s).tables target g page)) [
            | inl passes ↦
                (let both = and_parts (page.group == g) _ passes in
                let same : page.group ≡ g = grind (arith, nat_tests, both.0) in
                absurd (let wrong : true ≡ false = sym lives ∙ ap (is_live s.tree) same ∙ gone in cc))
            | inr not_so ↦ not_so
          ]

  -- the pass in which the group gives its page
  abbrev second : Bool
  second = not (is_beyond (joined_of s).tables.opening.recursive s.tree (setting_of Low s.parts.counters.limits) (usage_of s.parts.counters) target g)

  second-is : second ≡ not (has_open (joined_of s).tables target)
  second-is = ap not (sym (beyond-same s is groups.earlier_parents target Low g served-live served-below) ∙ above-open (joined_of s).tables target g given)

  -- by these lists it is the group that is served in that pass
  pub serves-listed : (recursive : Bool) (groups_held : List Gens) (marks : List Bool) (swap heeds parts : Bool) → recursive ≡ (joined_of s).tables.opening.recursive → groups_held ≡ s.parts.held.lists.groups → marks ≡ s.parts.held.lists.marks
      → swap ≡ is_swap_free (joined_of s).tables → heeds ≡ heeds_age (joined_of s).tables.opening.placement goal target → parts ≡ takes_parts (joined_of s).tables.opening.placement goal
      → (let low = not (is_beyond recursive s.tree (setting_of Low s.parts.counters.limits) (usage_of s.parts.counters) target g) in
      served_first heeds parts s.tree (listed_old_by s is groups.earlier_parents target recursive groups_held marks swap low) (listed_by s is groups.earlier_parents target recursive groups_held swap low) target (cursor_at s.cursors.cursors target) ≡ Some g)
  serves-listed recursive groups_held marks swap heeds parts same_recursive same_groups same_marks same_swap same_heeds same_parts =
      rw (same_recursive, same_groups, same_marks, same_swap, same_heeds, same_parts)
      (sym
      (served-listed s is groups.earlier_parents target groups live (heeds_age (joined_of s).tables.opening.placement goal target) (takes_parts (joined_of s).tables.opening.placement goal) (cursor_at s.cursors.cursors target) second second-is)
      ∙ serves)

  pub turn-after : cursor_after (takes_parts (joined_of s).tables.opening.placement goal) s.tree
      (listed_by s is groups.earlier_parents target (joined_of s).tables.opening.recursive s.parts.held.lists.groups (is_swap_free (joined_of s).tables) second) (usage_of s.parts.counters) target (cursor_at s.cursors.cursors target) g
      ≡ cursor_served (joined_of s).tables (joined_of s).order goal target g
  turn-after =
      cursor-agree _ (gives (joined_of s).tables target) (usage_of s.parts.counters) (usage (joined_of s).tables) (takes_parts (joined_of s).tables.opening.placement goal) s.tree target (cursor_at s.cursors.cursors target) g
      (λ k d lt. let here = asked-all s.tree target groups live k d lt in
      sym (ap (λ low. gives_in low (get_or (preorder s.tree target) k d)) (sym second-is) ∙ listed-same s is groups.earlier_parents target second (get_or (preorder s.tree target) k d) here.0 here.1))
      (λ k d lt. let here = asked-all s.tree target groups live k d lt in usages s is (get_or (preorder s.tree target) k d) (live-within s.tree (get_or (preorder s.tree target) k d) here.0))
      (usages s is g (live-within s.tree g served-live))
    where
      gives_in : Bool → ℕ → Bool
      gives_in low h = any_there (λ page. (page.group == h) && (is_takeable (joined_of s).tables target page && (is_above_low (joined_of s).tables target page.group || low))) s.parts.pages.pages

-- The lists of the groups' pages, after the change of one page.
use Rattle.std.proofs.Common.{◌≡◌, ◌≢◌, ◌<◌, ◌==◌, ◌||◌, ◌&&◌, not, ℕ, true, false, List, [], ◌∷◌, ◌++◌, map, length, set, slice_get, Option, Some, None, refl, sym, ap, ◌∙◌, inl, inr}
use Rattle.std.specs.Prelude.{IfSome, option_map}
use Rattle.std.proofs.Math.Bool.{or-false, or-true}
use Rattle.std.proofs.lemmas.Bool.{eq-eqb, eqb-true, ne_eqb, cases_eq, false_from_ne_true}
use Rattle.std.proofs.lemmas.Bool.Decides.{eqb_tells}
use Rattle.std.proofs.lemmas.List.{get_or-set_same, get_or-set_other}
use Rattle.std.proofs.lemmas.List.Folds.{list_any-append}
use Rattle.std.proofs.lemmas.Map.Views.{any-filter_same}
use Rattle.machine.specs.Slots.{Changes}
use Rattle.machine.specs.Pages.{Page, Pages, Residence, page_at}
use Rattle.machine.specs.declared.id.PageId.{PageId}
use Rattle.machine.proofs.Values.{some_inj, unlike}
use Rattle.rings.specs.Rings.{list_at, has, is_listed, without}
use Rattle.rings.proofs.ListLemmas.{has_first, list_at-map_without, listed_from, listed_in}
use Rattle.pages.specs.PagesOf.{Label, label_of, labelled, HasResidence}
use Rattle.pages.specs.Records.{is_of, AreMembers}

has-added : (xs : List ℕ) (p q : ℕ) → has (xs ++ p ∷ []) q ≡ (has xs q || (q == p))
has-added xs p q = list_any-append (λ x. q == x) xs (p ∷ []) ∙ ap (λ b. has xs q || b) (or-false (q == p))

has-without : (xs : List ℕ) (p q : ℕ) → has (without p xs) q ≡ (not (p == q) && has xs q)
has-without xs p q = any-filter_same (λ x. q == x) (λ x. not (p == x)) (not (p == q)) (λ x same. ap (λ (y : ℕ). not (p == y)) (sym (eqb-true q x same))) xs

module _ (lists : List (List ℕ)) (old new : Pages) (p : ℕ) (to : Option Page) (changes : Changes old new p to) (are : AreMembers lists old) where
  -- the page stays in its group, if it is there
  pub AreMembers-kept : ((g : ℕ) → is_of g to ≡ is_of g (page_at old p)) → AreMembers lists new
  AreMembers-kept same g q =
      are g q
      ∙ elim (eqb_tells q p) [
        | inl here ↦ ap (λ r. is_of g (page_at old r)) here.1 ∙ sym (same g) ∙ sym (ap (is_of g) (ap (page_at new) here.1 ∙ changes.changed))
        | inr apart ↦ sym (ap (is_of g) (changes.others q apart.1))
      ]

  -- the page is there no more
  pub AreMembers-gone : to ≡ None → AreMembers (map (without p) lists) new
  AreMembers-gone none g q =
      ap (λ xs. has xs q) (list_at-map_without p lists g) ∙ has-without (list_at lists g) p q
      ∙ elim (eqb_tells q p) [
        | inl here ↦ ap (λ b. not b && has (list_at lists g) q) (eq-eqb p q (sym here.1)) ∙ sym (ap (is_of g) (ap (page_at new) here.1 ∙ changes.changed ∙ none))
        | inr apart ↦ ap (λ b. not b && has (list_at lists g) q) (ne_eqb p q (λ same. apart.1 (sym same))) ∙ are g q ∙ sym (ap (is_of g) (changes.others q apart.1))
      ]

  -- a page comes to a group
  pub AreMembers-added : (h : ℕ) → h < length lists → page_at old p ≡ None → ((g : ℕ) → is_of g to ≡ (h == g)) → AreMembers (set lists h (list_at lists h ++ p ∷ [])) new
  AreMembers-added h within vacant own g q =
      elim (cases_eq g h) [
        | inl same ↦ ap (λ xs. has xs q) (ap (list_at after) same ∙ get_or-set_same lists h longer [] within) ∙ has-added (list_at lists h) p q ∙ on_list same
        | inr other ↦ ap (λ xs. has xs q) (get_or-set_other lists h g longer [] other) ∙ are g q ∙ off_list other
      ]
    where
      longer : List ℕ
      longer = list_at lists h ++ p ∷ []

      after : List (List ℕ)
      after = set lists h longer

      none_before : is_of g (page_at old p) ≡ false
      none_before = ap (is_of g) vacant

      at_page : q ≡ p → is_of g (page_at new q) ≡ (h == g)
      at_page here = ap (is_of g) (ap (page_at new) here ∙ changes.changed) ∙ own g

      on_list : g ≡ h → (has (list_at lists h) q || (q == p)) ≡ is_of g (page_at new q)
      on_list same =
          elim (eqb_tells q p) [
            | inl here ↦ ap (λ b. has (list_at lists h) q || b) here.0 ∙ or-true (has (list_at lists h) q) ∙ sym (at_page here.1 ∙ eq-eqb h g (sym same))
            | inr apart ↦ ap (λ b. has (list_at lists h) q || b) apart.0 ∙ or-false (has (list_at lists h) q) ∙ ap (λ l. has (list_at lists l) q) (sym same) ∙ are g q ∙ sym (ap (is_of g) (changes.others q apart.1))
          ]

      off_list : g ≢ h → is_of g (page_at old q) ≡ is_of g (page_at new q)
      off_list other =
          elim (eqb_tells q p) [
            | inl here ↦ ap (λ r. is_of g (page_at old r)) here.1 ∙ none_before ∙ sym (at_page here.1 ∙ ne_eqb h g (λ same. other (sym same)))
            | inr apart ↦ sym (ap (is_of g) (changes.others q apart.1))
          ]

module _ (lists : List (List ℕ)) (pages : Pages) (are : AreMembers lists pages) where
  -- a page that isn't there is on no list
  pub unlisted : (p : ℕ) → page_at pages p ≡ None → is_listed lists p ≡ false
  unlisted p vacant = false_from_ne_true (is_listed lists p) (λ listed.
      let found = listed_in lists p listed in
      unlike (is_of found.0 (page_at pages p)) (sym (are found.0 p) ∙ found.1) (ap (is_of found.0) vacant))

  -- one that is there is on its group's
  on_own_list : (p : ℕ) (page : Page) → page_at pages p ≡ Some page → has (list_at lists page.group) p ≡ true
  on_own_list p page there = are page.group p ∙ ap (is_of page.group) there ∙ eq-eqb page.group page.group refl

  pub listed : (p : ℕ) (page : Page) → page_at pages p ≡ Some page → is_listed lists p ≡ true
  listed p page there = listed_from lists page.group p (on_own_list p page there)

  -- the first of a group's list is a page of the group
  first-there : (g p : ℕ) → slice_get (list_at lists g) 0 ≡ Some p → (label : Label) × (r : Residence) × HasResidence pages p label r × (label.group ≡ g)
  first-there g p first = there (page_at pages p) refl (sym (are g p) ∙ first_has (list_at lists g) first)
    where
      first_has : (xs : List ℕ) → slice_get xs 0 ≡ Some p → has xs p ≡ true
      first_has [] none = absurd (cc)
      first_has (x ∷ xs) is = ap (λ y. has (y ∷ xs) p) (some_inj is) ∙ has_first p xs

      there : (slot : Option Page) → page_at pages p ≡ slot → is_of g slot ≡ true → (label : Label) × (r : Residence) × HasResidence pages p label r × (label.group ≡ g)
      there None e own = absurd (cc)
      there (Some page) e own = (label_of page, page.residence, e, eqb-true page.group g own)

  pub first-some : (g : ℕ) (found : Option PageId) → option_map (λ (q : PageId). q.0) found ≡ slice_get (list_at lists g) 0 → IfSome found (λ q. (label : Label) × (r : Residence) × HasResidence pages q.0 label r × (label.group ≡ g))
  first-some g None is = tt
  first-some g (Some q) is = first-there g q.0 (sym is)

  -- where the list has no first, the group has no page
  pub first-none : (g : ℕ) → slice_get (list_at lists g) 0 ≡ None → (p : ℕ) (label : Label) (r : Residence) → HasResidence pages p label r → label.group ≢ g
  first-none g none p label r there same = none_has (list_at lists g) none (ap (λ l. has (list_at lists l) p) (sym same) ∙ on_own_list p (labelled label r) there)
    where
      none_has : (xs : List ℕ) → slice_get xs 0 ≡ None → has xs p ≡ true → ⊥
      none_has [] is h = cc
      none_has (x ∷ xs) is h = cc

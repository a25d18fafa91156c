-- What a group that gives a page has on its lists, and that its protection lets the page go.
use Rattle.std.proofs.Common.{◌≡◌, inl, inr, ℕ, suc, ◌==◌, ◌&&◌, ◌||◌, not, Bool, true, false, List, [], ◌∷◌, Option, Some, None, refl, sym, ap, ◌∙◌, arith}
use Rattle.std.specs.List.{All, list_any}
use Rattle.std.proofs.lemmas.Bool.{cases_Bool, and_parts, and_from, and_right, or_right}
use Rattle.std.proofs.lemmas.Bool.Decides.{nat_tests}
use Rattle.std.proofs.lemmas.List.Elements.{All-head, All-tail}
use Rattle.machine.specs.Slots.{there_and, any_there}
use Rattle.machine.specs.Tree.{under}
use Rattle.machine.specs.Pages.{Page, Pages, page_at, is_anon, is_held}
use Rattle.machine.specs.Lists.{is_next_of, gives}
use Rattle.machine.specs.State.{State, is_swap_free}
use Rattle.machine.specs.Reclaim.{is_unprotected, is_above_low, is_open, has_open}
use Rattle.page_lists.proofs.TakeableLemmas.{next-takeable, next-open, takeable-goes, takeable-unprotected, takeable-below, takeable-held}

module _ {X : Type 0} where
  -- one that passes is among them
  pub one_passes : {Q : Type 0} (P : X → Type 0) (f : X → Bool) (xs : List X) → All P xs → list_any f xs ≡ true → ((x : X) → P x → f x ≡ true → Q) → Q
  one_passes P f [] all some use_it = absurd cc
  one_passes {Q} P f (x ∷ xs) all some use_it = by_test (one_passes P f xs (All-tail P x xs all)) (f x) refl some
    where
      by_test : (list_any f xs ≡ true → ((y : X) → P y → f y ≡ true → Q) → Q) → (b : Bool) → f x ≡ b → (b || list_any f xs) ≡ true → Q
      by_test rest true is e = use_it x (All-head P x xs all) is
      by_test rest false is e = rest e use_it

  -- what passes one test passes another
  pub any_more : (f h : X → Bool) (xs : List X) → ((x : X) → f x ≡ true → h x ≡ true) → list_any f xs ≡ true → list_any h xs ≡ true
  any_more f h [] more some = some
  any_more f h (x ∷ xs) more some = by_test (any_more f h xs more) (f x) refl some
    where
      by_test : (list_any f xs ≡ true → list_any h xs ≡ true) → (b : Bool) → f x ≡ b → (b || list_any f xs) ≡ true → (h x || list_any h xs) ≡ true
      by_test rest true is e = ap (λ c. c || list_any h xs) (more x is)
      by_test rest false is e = ap (λ c. h x || c) (rest e) ∙ or_right (h x) true refl

-- one test is another and a condition
pub any_both : (f h : Page → Bool) (b : Bool) (pages : Pages) → ((p : ℕ) → there_and h (page_at pages p) ≡ (b && there_and f (page_at pages p))) → any_there h pages ≡ (b && any_there f pages)
any_both f h b [] same = sym (and_right b false refl)
any_both f h b (slot ∷ pages) same = both (there_and f slot) (any_there f pages) (same 0) (any_both f h b pages (λ p. same (suc p)))
  where
    shared : (c x y : Bool) → ((c && x) || (c && y)) ≡ (c && (x || y))
    shared true x y = refl
    shared false x y = refl

    both : (x y : Bool) → there_and h slot ≡ (b && x) → any_there h pages ≡ (b && y) → (there_and h slot || any_there h pages) ≡ (b && (x || y))
    both x y p q = ap (λ c. c || any_there h pages) p ∙ ap (λ c. (b && x) || c) q ∙ shared b x y

-- a test of pages by their numbers is that of the numbers
pub any_same : (f h : Page → Bool) (pages : Pages) → ((page : Page) → f page ≡ h page) → any_there f pages ≡ any_there h pages
any_same f h [] same = refl
any_same f h (None ∷ pages) same = any_same f h pages same
any_same f h (Some page ∷ pages) same = ap (λ b. b || any_there f pages) (same page) ∙ ap (λ b. h page || b) (any_same f h pages same)

-- a page that is held, of the group, is usable where it is a page of a file, or a swap block is free
abbrev pub is_usable : Bool → ℕ → Page → Bool
is_usable free g page = is_held page && ((page.group == g) && (not (is_anon page.content) || free))

module _ (t : State) (target g : ℕ) where
  -- what a page that may be taken says of its group
  pub record MayGive : Type 0 where
    pub below : under t.tree target g ≡ true
    pub opened : is_unprotected t target g ≡ true
    pub now : (is_above_low t target g || not (has_open t target)) ≡ true

  pub usable_given : gives t target g ≡ true → any_there (is_usable (is_swap_free t) g) t.pages ≡ true
  usable_given given = any_more (there_and (is_next_of t target g)) (there_and (is_usable (is_swap_free t) g)) t.pages by_slot given
    where
      by_slot : (slot : Option Page) → there_and (is_next_of t target g) slot ≡ true → there_and (is_usable (is_swap_free t) g) slot ≡ true
      by_slot None e = e
      by_slot (Some page) e =
          let both = and_parts (page.group == g) _ e in
          let takes = next-takeable t target page both.1 in
          and_from (is_held page) ((page.group == g) && (not (is_anon page.content) || is_swap_free t)) (takeable-held t target page takes)
          (and_from (page.group == g) (not (is_anon page.content) || is_swap_free t) both.0 (takeable-goes t target page takes))

  pub may_give : gives t target g ≡ true → MayGive
  may_give given = one_passes (λ slot. Unit {0}) (there_and (is_next_of t target g)) t.pages (λ k d lt. tt) given by_slot
    where
      by_slot : (slot : Option Page) → Unit {0} → there_and (is_next_of t target g) slot ≡ true → MayGive
      by_slot None any e = absurd cc
      by_slot (Some page) any e =
          let both = and_parts (page.group == g) _ e in
          let same : page.group ≡ g = grind (arith, nat_tests, both.0) in
          let takes = next-takeable t target page both.1 in
          record {
            below = ap (under t.tree target) (sym same) ∙ takeable-below t target page takes;
            opened = ap (is_unprotected t target) (sym same) ∙ takeable-unprotected t target page takes;
            now = ap (λ h. is_above_low t target h || not (has_open t target)) (sym same) ∙ next-open t target page both.1;
          }

-- a group that gives a page is above its low, exactly if a page is open
pub above-open : (t : State) (target g : ℕ) → gives t target g ≡ true → is_above_low t target g ≡ has_open t target
above-open t target g given =
    elim (cases_Bool (is_above_low t target g)) [
      | inl above ↦ above ∙ sym (any_more (there_and (is_next_of t target g)) (there_and (is_open t target)) t.pages (opens above) given)
      | inr within ↦ within ∙ sym (closed (has_open t target) (ap (λ b. b || not (has_open t target)) (sym within) ∙ (may_give t target g given).now))
    ]
  where
    closed : (b : Bool) → (false || not b) ≡ true → b ≡ false
    closed true e = absurd cc
    closed false e = refl

    opens : is_above_low t target g ≡ true → (slot : Option Page) → there_and (is_next_of t target g) slot ≡ true → there_and (is_open t target) slot ≡ true
    opens above None e = e
    opens above (Some page) e =
        let both = and_parts (page.group == g) _ e in
        let same : page.group ≡ g = grind (arith, nat_tests, both.0) in
        and_from _ (is_above_low t target page.group) (next-takeable t target page both.1) (ap (is_above_low t target) same ∙ above)

-- Hits that come by frame, and what holds of the lists after they are merged.
use Rattle.std.proofs.Common.{◌≡◌, ◌≢◌, ℕ, ◌<◌, ◌==◌, ◌&&◌, ◌||◌, Bool, true, false, cond, List, length, Option, Some, None, inl, inr, eq-eqb, refl, sym, ap, ◌∙◌, subst, length-set, get_or-set_other}
use Rattle.std.specs.Prelude.{slice_set}
use Rattle.std.proofs.lemmas.List.{get_or-set_same}
use Rattle.std.proofs.lemmas.Bool.{ne_eqb, true≢false}
use Rattle.std.proofs.lemmas.Bool.Decides.{eqb_tells}
use Rattle.machine.specs.declared.config.Placement.{Placement}
use Rattle.machine.specs.Slots.{there_and}
use Rattle.machine.specs.Pages.{Residence, Held, Coming, Going, Away, Page, Pages, page_at, is_held, is_held_in, is_number}
use Rattle.machine.specs.Generations.{Gens, has_page, row_of, gens_at, IsGens}
use Rattle.machine.specs.Aging.{is_marked}
use Rattle.machine.specs.Lists.{HeldLists, hits_at, is_held_of, kind_at, ListsHeld, AreGenerations, is_in_bits_at, is_in_bits, is_last_hit, hits_after, is_marking, hits_with, HitsThose, MergesMarks}

or_false : (b : Bool) → (b || false) ≡ b
or_false true = refl
or_false false = refl

-- ---- pages that pass a test are hit

module _ (placement : Placement) (pages : Pages) where
  -- what fails the test isn't marked, and its count stays
  fails-marking : (test : Page → Bool) (hits : ℕ) (slot : Option Page) → there_and test slot ≡ false → is_marking placement test hits slot ≡ false
  fails-marking test hits None fails = refl
  fails-marking test hits (Some page) fails = ap (λ (b : Bool). b && is_last_hit placement (kind_at page.content) hits) fails

  fails-hits : (test : Page → Bool) (marked : Bool) (hits : ℕ) (slot : Option Page) → there_and test slot ≡ false → hits_with placement test marked hits slot ≡ hits
  fails-hits test marked hits None fails = refl
  fails-hits test marked hits (Some page) fails = ap (λ (b : Bool). cond b (hits_after placement (kind_at page.content) marked hits) hits) fails

  -- none passes
  pub hits-none : (test : Page → Bool) (held : HeldLists) → ((p : ℕ) → there_and test (page_at pages p) ≡ false) → HitsThose placement test pages held held
  hits-none test held none =
      record {
        groups = refl;
        size = refl;
        marks = λ p. sym (ap (λ (b : Bool). is_marked held.marks p || b) (fails-marking test (hits_at held.hits p) (page_at pages p) (none p)) ∙ or_false (is_marked held.marks p));
        counts = refl;
        hits = λ p. sym (fails-hits test (is_marked held.marks p) (hits_at held.hits p) (page_at pages p) (none p));
      }

  -- one alone passes, of this type
  pub hits-one : (test : Page → Bool) (held : HeldLists) (q : ℕ) (page : Page) → q < length held.marks → q < length held.hits → page_at pages q ≡ Some page → ((p : ℕ) → is_number (Some q) p ≡ there_and test (page_at pages p))
      → HitsThose placement test pages held
      (record { groups = held.groups; marks = slice_set held.marks q (is_marked held.marks q || is_last_hit placement (kind_at page.content) (hits_at held.hits q)); hits = slice_set held.hits q (hits_after placement (kind_at page.content) (is_marked held.marks q) (hits_at held.hits q)) })
  hits-one test held q page within counts there alone = record { groups = refl; size = length-set held.marks q mark; marks = marks; counts = length-set held.hits q count; hits = hits }
    where
      mark : Bool
      mark = is_marked held.marks q || is_last_hit placement (kind_at page.content) (hits_at held.hits q)

      count : ℕ
      count = hits_after placement (kind_at page.content) (is_marked held.marks q) (hits_at held.hits q)

      passes : test page ≡ true
      passes = sym (ap (there_and test) there) ∙ sym (alone q) ∙ eq-eqb q q refl

      fails : (p : ℕ) → p ≢ q → there_and test (page_at pages p) ≡ false
      fails p other = sym (alone p) ∙ ne_eqb q p (λ same. other (sym same))

      marks : (p : ℕ) → is_marked (slice_set held.marks q mark) p ≡ (is_marked held.marks p || is_marking placement test (hits_at held.hits p) (page_at pages p))
      marks p =
          elim (eqb_tells p q) [
            | inl same ↦ subst (λ (i : ℕ). is_marked (slice_set held.marks q mark) i ≡ (is_marked held.marks i || is_marking placement test (hits_at held.hits i) (page_at pages i))) (sym same.1) (
                get_or-set_same held.marks q mark false within
                ∙ sym (ap (λ (slot : Option Page). is_marked held.marks q || is_marking placement test (hits_at held.hits q) slot) there ∙ ap (λ (b : Bool). is_marked held.marks q || (b && is_last_hit placement (kind_at page.content) (hits_at held.hits q))) passes)
                )
            | inr other ↦ get_or-set_other held.marks q p mark false other.1 ∙ sym (ap (λ (b : Bool). is_marked held.marks p || b) (fails-marking test (hits_at held.hits p) (page_at pages p) (fails p other.1)) ∙ or_false (is_marked held.marks p))
          ]

      hits : (p : ℕ) → hits_at (slice_set held.hits q count) p ≡ hits_with placement test (is_marked held.marks p) (hits_at held.hits p) (page_at pages p)
      hits p =
          elim (eqb_tells p q) [
            | inl same ↦ subst (λ (i : ℕ). hits_at (slice_set held.hits q count) i ≡ hits_with placement test (is_marked held.marks i) (hits_at held.hits i) (page_at pages i)) (sym same.1) (
                get_or-set_same held.hits q count 0 counts
                ∙ sym (ap (hits_with placement test (is_marked held.marks q) (hits_at held.hits q)) there ∙ ap (λ (b : Bool). cond b count (hits_at held.hits q)) passes)
                )
            | inr other ↦ get_or-set_other held.hits q p count 0 other.1 ∙ sym (fails-hits test (is_marked held.marks p) (hits_at held.hits p) (page_at pages p) (fails p other.1))
          ]

  -- those that pass one test, and then those that pass another, where none passes both
  pub hits-more : (one other both : Page → Bool) (held held' held'' : HeldLists) → ((page : Page) → both page ≡ (one page || other page)) → ((page : Page) → one page ≡ true → other page ≡ false)
      → HitsThose placement one pages held held' → HitsThose placement other pages held' held'' → HitsThose placement both pages held held''
  hits-more one other both held held' held'' joins apart h h' =
      record {
        groups = h'.groups ∙ h.groups;
        size = h'.size ∙ h.size;
        marks = λ p.
            h'.marks p ∙ ap (λ (b : Bool). b || is_marking placement other (hits_at held'.hits p) (page_at pages p)) (h.marks p)
            ∙ ap (λ (n : ℕ). (is_marked held.marks p || is_marking placement one (hits_at held.hits p) (page_at pages p)) || is_marking placement other n (page_at pages p)) (h.hits p)
            ∙ mark_of (is_marked held.marks p) (hits_at held.hits p) (page_at pages p);
        counts = h'.counts ∙ h.counts;
        hits = λ p.
            h'.hits p ∙ ap (λ (b : Bool). hits_with placement other b (hits_at held'.hits p) (page_at pages p)) (h.marks p)
            ∙ ap (λ (n : ℕ). hits_with placement other (is_marked held.marks p || is_marking placement one (hits_at held.hits p) (page_at pages p)) n (page_at pages p)) (h.hits p)
            ∙ count_of (is_marked held.marks p) (hits_at held.hits p) (page_at pages p);
      }
    where
      mark_of : (marked : Bool) (hits : ℕ) (slot : Option Page)
          → ((marked || is_marking placement one hits slot) || is_marking placement other (hits_with placement one marked hits slot) slot) ≡ (marked || is_marking placement both hits slot)
      mark_of marked hits None = or_false (marked || false)
      mark_of marked hits (Some page) =
          by_test (one page) (other page) (both page) (joins page) (apart page)
        where
          last : ℕ → Bool
          last n = is_last_hit placement (kind_at page.content) n

          by_test : (a b c : Bool) → c ≡ (a || b) → (a ≡ true → b ≡ false)
              → ((marked || (a && last hits)) || (b && last (cond a (hits_after placement (kind_at page.content) marked hits) hits))) ≡ (marked || (c && last hits))
          by_test true true c join alone = absurd (true≢false (alone refl))
          by_test true false c join alone = or_false (marked || last hits) ∙ sym (ap (λ (b : Bool). marked || (b && last hits)) join)
          by_test false b c join alone = ap (λ (x : Bool). x || (b && last hits)) (or_false marked) ∙ sym (ap (λ (x : Bool). marked || (x && last hits)) join)

      count_of : (marked : Bool) (hits : ℕ) (slot : Option Page)
          → hits_with placement other (marked || is_marking placement one hits slot) (hits_with placement one marked hits slot) slot ≡ hits_with placement both marked hits slot
      count_of marked hits None = refl
      count_of marked hits (Some page) = by_test (one page) (other page) (both page) (joins page) (apart page)
        where
          after : Bool → ℕ → ℕ
          after m n = hits_after placement (kind_at page.content) m n

          by_test : (a b c : Bool) → c ≡ (a || b) → (a ≡ true → b ≡ false)
              → cond b (after (marked || (a && is_last_hit placement (kind_at page.content) hits)) (cond a (after marked hits) hits)) (cond a (after marked hits) hits) ≡ cond c (after marked hits) hits
          by_test true true c join alone = absurd (true≢false (alone refl))
          by_test true false c join alone = sym (ap (λ (x : Bool). cond x (after marked hits) hits) join)
          by_test false b c join alone = ap (λ (m : Bool). cond b (after m hits) hits) (or_false marked) ∙ sym (ap (λ (x : Bool). cond x (after marked hits) hits) join)

  -- the same test in other words
  pub hits-alike : (test other : Page → Bool) (held held' : HeldLists) → ((page : Page) → test page ≡ other page) → HitsThose placement test pages held held' → HitsThose placement other pages held held'
  hits-alike test other held held' same h =
      record {
        groups = h.groups;
        size = h.size;
        marks = λ p. h.marks p ∙ ap (λ (b : Bool). is_marked held.marks p || b) (mark_of (hits_at held.hits p) (page_at pages p));
        counts = h.counts;
        hits = λ p. h.hits p ∙ count_of (is_marked held.marks p) (hits_at held.hits p) (page_at pages p);
      }
    where
      mark_of : (hits : ℕ) (slot : Option Page) → is_marking placement test hits slot ≡ is_marking placement other hits slot
      mark_of hits None = refl
      mark_of hits (Some page) = ap (λ (b : Bool). b && is_last_hit placement (kind_at page.content) hits) (same page)

      count_of : (marked : Bool) (hits : ℕ) (slot : Option Page) → hits_with placement test marked hits slot ≡ hits_with placement other marked hits slot
      count_of marked hits None = refl
      count_of marked hits (Some page) = ap (λ (b : Bool). cond b (hits_after placement (kind_at page.content) marked hits) hits) (same page)

-- ---- a merge

in_bits-held : (word bits : ℕ) (r : Residence) (page : Page) → page.residence ≡ r → is_in_bits_at word bits r ≡ true → is_held page ≡ true
in_bits-held word bits (Held frame) page is e = rw is refl
in_bits-held word bits (Coming frame block ticket) page is e = cc
in_bits-held word bits (Going frame block ticket) page is e = cc
in_bits-held word bits (Away block) page is e = cc

-- what isn't held isn't hit
unheld-fails : (word bits : ℕ) (slot : Option Page) → there_and is_held slot ≡ false → there_and (is_in_bits word bits) slot ≡ false
unheld-fails word bits None gone = refl
unheld-fails word bits (Some page) gone = by_test (is_in_bits word bits page) refl
  where
    by_test : (b : Bool) → is_in_bits word bits page ≡ b → b ≡ false
    by_test true is = absurd (true≢false (sym (in_bits-held word bits page.residence page refl is) ∙ gone))
    by_test false is = refl

-- marks none but pages that are held, and counts no others
pub held-merged : (placement : Placement) (pages : Pages) (word bits : ℕ) (held held' : HeldLists) → MergesMarks placement pages word bits held held' → ListsHeld pages held → ListsHeld pages held'
held-merged placement pages word bits held held' h were =
    record {
      rows = λ g kind p. ap (λ (groups : List Gens). has_page p (row_of kind (gens_at groups g)).pages) h.groups ∙ were.rows g kind p;
      marked = λ p e. by_mark p (is_marked held.marks p) refl (is_held_in pages p) refl (sym (h.marks p) ∙ e);
      counted = λ p gone. h.hits p ∙ fails-hits placement pages (is_in_bits word bits) (is_marked held.marks p) (hits_at held.hits p) (page_at pages p) (unheld-fails word bits (page_at pages p) gone) ∙ were.counted p gone;
    }
  where
    by_mark : (p : ℕ) (b : Bool) → is_marked held.marks p ≡ b → (c : Bool) → is_held_in pages p ≡ c
        → (is_marked held.marks p || is_marking placement (is_in_bits word bits) (hits_at held.hits p) (page_at pages p)) ≡ true → c ≡ true
    by_mark p b was true here e = refl
    by_mark p true was false gone e = absurd (true≢false (sym (were.marked p was) ∙ gone))
    by_mark p false was false gone e =
        absurd (true≢false (sym e ∙ ap (λ (b : Bool). b || is_marking placement (is_in_bits word bits) (hits_at held.hits p) (page_at pages p)) was
        ∙ fails-marking placement pages (is_in_bits word bits) (hits_at held.hits p) (page_at pages p) (unheld-fails word bits (page_at pages p) gone)))

pub generations-merged : (placement : Placement) (pages : Pages) (word bits : ℕ) (held held' : HeldLists) → MergesMarks placement pages word bits held held' → AreGenerations held → AreGenerations held'
generations-merged placement pages word bits held held' h sound g = subst (λ (groups : List Gens). IsGens (gens_at groups g)) (sym h.groups) (sound g)

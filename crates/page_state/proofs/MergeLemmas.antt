-- Hits that come by frame, place by place of their word.
use Rattle.std.proofs.Common.{◌≡◌, ◌≢◌, ℕ, ◌+◌, ◌*◌, ◌/◌, ◌%◌, ◌^◌, ◌<◌, ◌≤◌, ◌==◌, ◌&&◌, ◌||◌, Bool, true, false, length, Option, Some, None, inl, inr, eq-eqb, refl, sym, ap, ◌∙◌, subst, arith}
use Rattle.std.specs.Prelude.{◌⊎◌, nat_lt, option_map}
use Rattle.std.specs.Int.{bit_at, trailing_zeros, w64}
use Rattle.std.proofs.Math.Nat.{lt-div-mul-add}
use Rattle.std.proofs.lemmas.Nat.{pow_pos}
use Rattle.std.proofs.lemmas.Nat.Bits.{bit_at-zero, bit_at-trailing_zeros, bit_at_above}
use Rattle.std.proofs.lemmas.Bool.{ne_eqb, cases_lt, true≢false}
use Rattle.std.proofs.lemmas.Bool.Decides.{nat_tests, eqb_tells}
use Rattle.machine.specs.declared.config.Placement.{Placement}
use Rattle.machine.specs.declared.id.PageId.{PageId}
use Rattle.machine.specs.declared.record.Kind.{Kind}
use Rattle.machine.specs.Slots.{there_and}
use Rattle.machine.specs.Pages.{Residence, Held, Coming, Going, Away, Page, Pages, page_at, frame_at, is_held_at, is_number}
use Rattle.machine.specs.Lists.{HeldLists, kind_at, has_bit, is_in_bits_at, is_in_bits, HitsThose, MergesMarks}
use Rattle.page_lists.proofs.MergeLemmas.{hits-none, hits-one, hits-more, hits-alike}
use Rattle.held_pages.specs.Held.{hit}
use Rattle.pages.specs.PagesOf.{is_held_frame}
use Rattle.page_state.specs.Merging.{has_place, is_at_place, has_place_below, is_below_place}

and_false : (b : Bool) → (b && false) ≡ false
and_false true = refl
and_false false = refl

and_true : (b : Bool) → (b && true) ≡ b
and_true true = refl
and_true false = refl

-- ---- places of a word

one_more : (b : Bool) (m n : ℕ) → (b && nat_lt m (n + 1)) ≡ ((b && nat_lt m n) || (b && (m == n)))
one_more true m n = grind (arith, nat_tests)
one_more false m n = refl

place-more_at : (word bits n : ℕ) (r : Residence) → has_place_below word bits (n + 1) r ≡ (has_place_below word bits n r || has_place word bits n r)
place-more_at word bits n (Held frame) = one_more (has_bit word bits frame) (frame % 64) n
place-more_at word bits n (Coming frame block ticket) = refl
place-more_at word bits n (Going frame block ticket) = refl
place-more_at word bits n (Away block) = refl

all_below : (b : Bool) (f : ℕ) → (b && nat_lt (f % 64) 64) ≡ b
all_below b f = ap (λ (c : Bool). b && c) (within f) ∙ and_true b
  where
    within : (f : ℕ) → nat_lt (f % 64) 64 ≡ true
    within f = let lt : f % 64 < 64 = omega arith in grind (arith, nat_tests, lt)

place-all_at : (word bits : ℕ) (r : Residence) → has_place_below word bits 64 r ≡ is_in_bits_at word bits r
place-all_at word bits (Held frame) = all_below (has_bit word bits frame) frame
place-all_at word bits (Coming frame block ticket) = refl
place-all_at word bits (Going frame block ticket) = refl
place-all_at word bits (Away block) = refl

-- where no place below has a bit, none below is marked; and where none from there on has one, all are
clear_bit : (word bits f : ℕ) → bit_at bits (f % 64) ≡ 0 → has_bit word bits f ≡ false
clear_bit word bits f clear = ap (λ (n : ℕ). (f / 64 == word) && (n == 1)) clear ∙ and_false (f / 64 == word)

below_clear : (word bits first : ℕ) → ((i : ℕ) → i < first → bit_at bits i ≡ 0) → (r : Residence) → has_place_below word bits first r ≡ false
below_clear word bits first clear (Held frame) = by_place (cases_lt (frame % 64) first)
  where
    by_place : (frame % 64 < first) ⊎ (first ≤ frame % 64) → has_place_below word bits first (Held frame) ≡ false
    by_place (inl lt) = ap (λ (b : Bool). b && nat_lt (frame % 64) first) (clear_bit word bits frame (clear (frame % 64) lt))
    by_place (inr le) = ap (λ (b : Bool). has_bit word bits frame && b) (let over : nat_lt (frame % 64) first ≡ false = grind (arith, nat_tests, le) in over) ∙ and_false (has_bit word bits frame)
below_clear word bits first clear (Coming frame block ticket) = refl
below_clear word bits first clear (Going frame block ticket) = refl
below_clear word bits first clear (Away block) = refl

above_clear : (word bits last : ℕ) → ((i : ℕ) → last ≤ i → bit_at bits i ≡ 0) → (r : Residence) → has_place_below word bits last r ≡ is_in_bits_at word bits r
above_clear word bits last clear (Held frame) = by_place (cases_lt (frame % 64) last)
  where
    by_place : (frame % 64 < last) ⊎ (last ≤ frame % 64) → has_place_below word bits last (Held frame) ≡ has_bit word bits frame
    by_place (inl lt) = ap (λ (b : Bool). has_bit word bits frame && b) (let within : nat_lt (frame % 64) last ≡ true = grind (arith, nat_tests, lt) in within) ∙ and_true (has_bit word bits frame)
    by_place (inr le) = let none = clear_bit word bits frame (clear (frame % 64) le) in ap (λ (b : Bool). b && nat_lt (frame % 64) last) none ∙ sym none
above_clear word bits last clear (Coming frame block ticket) = refl
above_clear word bits last clear (Going frame block ticket) = refl
above_clear word bits last clear (Away block) = refl

-- ---- one place

-- no bit there
clear_at : (word bits place : ℕ) → bit_at bits place ≡ 0 → (r : Residence) → has_place word bits place r ≡ false
clear_at word bits place clear (Held frame) =
    elim (eqb_tells (frame % 64) place) [
      | inl same ↦ (
          let none : (bit_at bits (frame % 64) == 1) ≡ false = ap (λ (n : ℕ). bit_at bits n == 1) same.1 ∙ ap (λ (n : ℕ). n == 1) clear in
          ap (λ (b : Bool). ((frame / 64 == word) && b) && (frame % 64 == place)) none ∙ ap (λ (b : Bool). b && (frame % 64 == place)) (and_false (frame / 64 == word))
          )
      | inr other ↦ ap (λ (b : Bool). has_bit word bits frame && b) (ne_eqb (frame % 64) place other.1) ∙ and_false (has_bit word bits frame)
    ]
clear_at word bits place clear (Coming frame block ticket) = refl
clear_at word bits place clear (Going frame block ticket) = refl
clear_at word bits place clear (Away block) = refl

pub place-clear : (word bits place : ℕ) → bit_at bits place ≡ 0 → (page : Page) → is_at_place word bits place page ≡ false
place-clear word bits place clear page = clear_at word bits place clear page.residence

-- a bit there: it is the place of one frame
abbrev held_at : ℕ → Residence → Bool
held_at f r = is_held_at r && is_number (frame_at r) f

set_at : (word bits place : ℕ) → place < 64 → bit_at bits place ≡ 1 → (r : Residence) → has_place word bits place r ≡ held_at (word * 64 + place) r
set_at word bits place within bit (Held frame) = by_place (eqb_tells (frame % 64) place)
  where
    by_word : ((frame / 64 == word) ≡ true × (frame / 64 ≡ word)) ⊎ ((frame / 64 == word) ≡ false × (frame / 64 ≢ word)) → frame % 64 ≡ place → (frame / 64 == word) ≡ (frame == word * 64 + place)
    by_word (inl e) same = e.0 ∙ sym (eq-eqb frame (word * 64 + place) (let is = e.1 in omega (arith, is, same)))
    by_word (inr e) same = e.0 ∙ sym (ne_eqb frame (word * 64 + place) (λ is. e.1 (omega (arith, is, within))))

    by_place : ((frame % 64 == place) ≡ true × (frame % 64 ≡ place)) ⊎ ((frame % 64 == place) ≡ false × (frame % 64 ≢ place)) → has_place word bits place (Held frame) ≡ (frame == word * 64 + place)
    by_place (inl e) =
        let one : (bit_at bits (frame % 64) == 1) ≡ true = ap (λ (n : ℕ). bit_at bits n == 1) e.1 ∙ ap (λ (n : ℕ). n == 1) bit in
        ap (λ (b : Bool). ((frame / 64 == word) && b) && (frame % 64 == place)) one ∙ ap (λ (b : Bool). b && (frame % 64 == place)) (and_true (frame / 64 == word))
        ∙ ap (λ (b : Bool). (frame / 64 == word) && b) e.0 ∙ and_true (frame / 64 == word) ∙ by_word (eqb_tells (frame / 64) word) e.1
    by_place (inr e) = ap (λ (b : Bool). has_bit word bits frame && b) e.0 ∙ and_false (has_bit word bits frame) ∙ sym (ne_eqb frame (word * 64 + place) (λ is. e.1 (omega (arith, is, within))))
set_at word bits place within bit (Coming frame block ticket) = refl
set_at word bits place within bit (Going frame block ticket) = refl
set_at word bits place within bit (Away block) = refl

pub place-set : (word bits place : ℕ) → place < 64 → bit_at bits place ≡ 1 → (page : Page) → is_at_place word bits place page ≡ is_held_frame (word * 64 + place) page
place-set word bits place within bit page = set_at word bits place within bit page.residence

-- ---- all places, one after another

-- what is nothing without its lowest places has no others
below_pow : (n k : ℕ) → n / 2 ^ k ≡ 0 → n < 2 ^ k
below_pow n k none = let lt : n < 0 * 2 ^ k + 2 ^ k = subst (λ (q : ℕ). n < q * 2 ^ k + 2 ^ k) none (lt-div-mul-add (pow_pos k)) in omega (arith, lt)

-- one place before another is not that one
not_both : (b : Bool) (m n : ℕ) → (b && nat_lt m n) ≡ true → (b && (m == n)) ≡ false
not_both true m n below = grind (arith, nat_tests, below)
not_both false m n below = refl

apart_at : (word bits n : ℕ) (r : Residence) → has_place_below word bits n r ≡ true → has_place word bits n r ≡ false
apart_at word bits n (Held frame) below = not_both (has_bit word bits frame) (frame % 64) n below
apart_at word bits n (Coming frame block ticket) below = refl
apart_at word bits n (Going frame block ticket) below = refl
apart_at word bits n (Away block) below = refl

module _ (placement : Placement) (word bits : ℕ) (pages : Pages) where
  -- there is none below the first bit
  pub merges-none : (held : HeldLists) → bits < 2 ^ 64 → HitsThose placement (is_below_place word bits (trailing_zeros w64 bits)) pages held held
  merges-none held within = hits-none placement pages (is_below_place word bits (trailing_zeros w64 bits)) held (λ p. of_slot (page_at pages p))
    where
      clear : (i : ℕ) → i < trailing_zeros w64 bits → bit_at bits i ≡ 0
      clear i lt =
          elim (cases_lt 0 bits) [
            | inl some ↦ (bit_at-trailing_zeros w64 bits some within).2 i lt
            | inr none ↦ (let zero : bits ≡ 0 = omega (arith, none) in ap (λ (n : ℕ). bit_at n i) zero ∙ bit_at-zero i)
          ]

      of_slot : (slot : Option Page) → there_and (is_below_place word bits (trailing_zeros w64 bits)) slot ≡ false
      of_slot None = refl
      of_slot (Some page) = below_clear word bits (trailing_zeros w64 bits) clear page.residence

  pub merges-more : (n : ℕ) (held held' held'' : HeldLists) → HitsThose placement (is_below_place word bits n) pages held held' → HitsThose placement (is_at_place word bits n) pages held' held''
      → HitsThose placement (is_below_place word bits (n + 1)) pages held held''
  merges-more n held held' held'' =
      hits-more placement pages (is_below_place word bits n) (is_at_place word bits n) (is_below_place word bits (n + 1)) held held' held'' (λ page. place-more_at word bits n page.residence) (λ page. apart_at word bits n page.residence)

  -- those behind the last bit are none
  pub merges-rest : (place : ℕ) (held held' : HeldLists) → bits / 2 ^ place ≡ 0 → HitsThose placement (is_below_place word bits place) pages held held' → MergesMarks placement pages word bits held held'
  merges-rest place held held' none =
      hits-alike placement pages (is_below_place word bits place) (is_in_bits word bits) held held' (λ page. above_clear word bits place (λ i le. bit_at_above bits place i (below_pow bits place none) le) page.residence)

  pub merges-all : (held held' : HeldLists) → HitsThose placement (is_below_place word bits 64) pages held held' → MergesMarks placement pages word bits held held'
  merges-all held held' = hits-alike placement pages (is_below_place word bits 64) (is_in_bits word bits) held held' (λ page. place-all_at word bits page.residence)

  -- the frame at one place has this holder, or none
  pub merges-one : (place : ℕ) (held : HeldLists) (q : ℕ) (page : Page) → place < 64 → bit_at bits place ≡ 1 → q < length held.marks → q < length held.hits → page_at pages q ≡ Some page
      → ((p : ℕ) → is_number (Some q) p ≡ there_and (is_held_frame (word * 64 + place)) (page_at pages p)) → HitsThose placement (is_at_place word bits place) pages held (hit held placement (kind_at page.content) q)
  merges-one place held q page within bit small counts there alone = hits-one placement pages (is_at_place word bits place) held q page small counts there (λ p. alone p ∙ sym (of_slot (page_at pages p)))
    where
      of_slot : (slot : Option Page) → there_and (is_at_place word bits place) slot ≡ there_and (is_held_frame (word * 64 + place)) slot
      of_slot None = refl
      of_slot (Some other) = place-set word bits place within bit other

  pub merges-unheld : (place : ℕ) (held : HeldLists) → place < 64 → bit_at bits place ≡ 1 → ((p : ℕ) → is_number None p ≡ there_and (is_held_frame (word * 64 + place)) (page_at pages p)) → HitsThose placement (is_at_place word bits place) pages held held
  merges-unheld place held within bit alone = hits-none placement pages (is_at_place word bits place) held (λ p. of_slot (page_at pages p) ∙ sym (alone p))
    where
      of_slot : (slot : Option Page) → there_and (is_at_place word bits place) slot ≡ there_and (is_held_frame (word * 64 + place)) slot
      of_slot None = refl
      of_slot (Some page) = place-set word bits place within bit page

  pub merges-clear : (place : ℕ) (held : HeldLists) → bit_at bits place ≡ 0 → HitsThose placement (is_at_place word bits place) pages held held
  merges-clear place held clear = hits-none placement pages (is_at_place word bits place) held (λ p. of_slot (page_at pages p))
    where
      of_slot : (slot : Option Page) → there_and (is_at_place word bits place) slot ≡ false
      of_slot None = refl
      of_slot (Some page) = place-clear word bits place clear page

-- the holder of a frame is the only one
pub holder-alone : (test : Page → Bool) (pages : Pages) (found : Option PageId) (page : PageId) → found ≡ Some page → ((p : ℕ) → is_number (option_map (λ (x : PageId). x.0) found) p ≡ there_and test (page_at pages p))
    → (p : ℕ) → is_number (Some page.0) p ≡ there_and test (page_at pages p)
holder-alone test pages found page is alone p = ap (λ (x : Option PageId). is_number (option_map (λ (y : PageId). y.0) x) p) (sym is) ∙ alone p

-- the holder of a frame is there, with its type
pub holder-there : (frame q : ℕ) (pages : Pages) (kind : Option Kind) → kind ≡ option_map (λ page. kind_at page.content) (page_at pages q) → ((p : ℕ) → is_number (Some q) p ≡ there_and (is_held_frame frame) (page_at pages p))
    → (page : Page) × (page_at pages q ≡ Some page) × (kind ≡ Some (kind_at page.content))
holder-there frame q pages kind is alone = by_slot (page_at pages q) refl
  where
    by_slot : (slot : Option Page) → page_at pages q ≡ slot → (page : Page) × (page_at pages q ≡ Some page) × (kind ≡ Some (kind_at page.content))
    by_slot None there = absurd (true≢false (sym (eq-eqb q q refl) ∙ alone q ∙ ap (there_and (is_held_frame frame)) there))
    by_slot (Some page) there = (page, there, is ∙ ap (option_map (λ (x : Page). kind_at x.content)) there)

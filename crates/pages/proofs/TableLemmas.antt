-- Look-ups of pages by their numbers, after a change at one number.
use Rattle.std.proofs.Common.{◌≡◌, ◌≢◌, ◌<◌, ℕ, zero, suc, ◌==◌, ◌&&◌, ◌||◌, Bool, true, false, cond, if◌then◌else◌, List, [], ◌∷◌, length, map, get_or, set, Option, Some, None, is_some, refl, sym, ap, ◌∙◌, inl, inr, arith}
use Rattle.std.specs.Prelude.{option_map, slice_index, IsSome}
use Rattle.std.proofs.Math.ListN.{get_or-map}
use Rattle.std.proofs.lemmas.Bool.{or_right, false_from_ne_true}
use Rattle.std.proofs.lemmas.Bool.Decides.{eqb_tells}
use Rattle.std.proofs.lemmas.List.{get_or-set_same, get_or-set_other, get_or_past}
use Rattle.std.proofs.lemmas.List.Sums.{sum-map}
use Rattle.slab.specs.Slab.{Slab, get, slab_len, Updates}
use Rattle.machine.specs.Slots.{at, Changes, there_and, count_there, any_there}
use Rattle.machine.proofs.SlotLemmas.{one_if, sum_by-alike, count_there-none, any_there-none}
use Rattle.pages.specs.PagesOf.{byte_of, byte_in}
use Rattle.pages.specs.Records.{WritesByte}

module _ {A : Type 0} where
  -- what is at a place is replaced
  pub Changes-set : (slots : List (Option A)) (k : ℕ) (to : Option A) → k < length slots → Changes slots (set slots k to) k to
  Changes-set slots k to within = record {
    changed = get_or-set_same slots k to None within;
    others = λ m differs. get_or-set_other slots k m to None differs;
  }

  -- what is changed twice at one place
  pub Changes-twice : (old between new : List (Option A)) (k : ℕ) (first to : Option A) → Changes old between k first → Changes between new k to → Changes old new k to
  Changes-twice old between new k first to before after = record {
    changed = after.changed;
    others = λ m differs. after.others m differs ∙ before.others m differs;
  }

  -- something is at a place, so there is that place
  pub place_within : (slots : List (Option A)) (k : ℕ) → IsSome (at slots k) → k < length slots
  place_within slots k there = grind (arith, get_or_past)

module _ {A B : Type 0} (f : A → B) where
  pub at-map : (slots : List (Option A)) (k : ℕ) → get_or (map (option_map f) slots) k None ≡ option_map f (get_or slots k None)
  at-map slots k = get_or-map (option_map f) slots k None

  -- a change of what is there, for the table
  pub Changes-map : (old new : List (Option A)) (k : ℕ) (to : Option A) → Changes old new k to → Changes (map (option_map f) old) (map (option_map f) new) k (option_map f to)
  Changes-map old new k to changes = record {
    changed = at-map new k ∙ ap (option_map f) changes.changed;
    others = λ m differs. at-map new m ∙ ap (option_map f) (changes.others m differs) ∙ sym (at-map old m);
  }

  -- a write that the table doesn't show
  pub map-set : (slots : List (Option A)) (k : ℕ) (to : Option A) → option_map f to ≡ option_map f (get_or slots k None) → map (option_map f) (set slots k to) ≡ map (option_map f) slots
  map-set [] k to same = refl
  map-set (slot ∷ slots) zero to same = ap (λ v. v ∷ map (option_map f) slots) same
  map-set (slot ∷ slots) (suc k) to same = ap (λ rest. option_map f slot ∷ rest) (map-set slots k to same)

  pub is_some-map : (slot : Option A) → is_some (option_map f slot) ≡ is_some slot
  is_some-map None = refl
  is_some-map (Some a) = refl

module _ {T : Type 0} (test : T → Bool) where
  pub any-some : (xs : List (Option T)) (n : ℕ) → there_and test (at xs n) ≡ true → any_there test xs ≡ true
  any-some [] n e = cc
  any-some (x ∷ xs) zero e = ap (λ b. b || any_there test xs) e
  any-some (x ∷ xs) (suc n) e = or_right (there_and test x) (any_there test xs) (any-some xs n e)

  pub any-none : (xs : List (Option T)) → ((q : ℕ) → there_and test (at xs q) ≡ false) → any_there test xs ≡ false
  any-none xs none = any_there-none test xs (count_there-none test xs none)

  -- where no number but one can pass, that one decides
  pub any-only : (xs : List (Option T)) (p : ℕ) → ((q : ℕ) → there_and test (at xs q) ≡ true → q ≡ p) → any_there test xs ≡ there_and test (at xs p)
  any-only xs p only = by_test (there_and test (at xs p)) refl
    where
      by_test : (b : Bool) → there_and test (at xs p) ≡ b → any_there test xs ≡ b
      by_test true is = any-some xs p is
      by_test false is = any-none xs (λ q. false_from_ne_true (there_and test (at xs q)) (λ hit. let here = ap (λ (x : ℕ). there_and test (at xs x)) (sym (only q hit)) ∙ hit in let not = sym is ∙ here in cc))

module _ {T A : Type 0} where
  -- a number and its place change alike
  pub taken-changes : (numbers later : Slab T) (old new : List (Option A)) (p : ℕ) (value : Option T) (to : Option A) → Updates numbers later p value → Changes old new p to → is_some value ≡ is_some to → ((n : ℕ) → is_some (get numbers n) ≡ is_some (at old n)) → (n : ℕ) → is_some (get later n) ≡ is_some (at new n)
  taken-changes numbers later old new p value to updates changes same taken n =
      elim (eqb_tells n p) [
        | inl here ↦ ap is_some (ap (get later) here.1 ∙ updates.changed) ∙ same ∙ sym (ap is_some (ap (at new) here.1 ∙ changes.changed))
        | inr apart ↦ ap is_some (updates.others n apart.1) ∙ taken n ∙ sym (ap is_some (changes.others n apart.1))
      ]

there-some : {A B : Type 0} (f : A → B) (slot : Option A) → there_and (λ (b : B). true) (option_map f slot) ≡ is_some slot
there-some f None = refl
there-some f (Some a) = refl

-- as many numbers are taken as there are pages
pub taken-there : {T A B : Type 0} (f : A → B) (numbers : Slab T) (owned : List (Option A)) → ((n : ℕ) → is_some (get numbers n) ≡ is_some (at owned n)) → slab_len numbers ≡ count_there (λ (b : B). true) (map (option_map f) owned)
taken-there {T} {A} {B} f numbers owned taken =
    let made = map (option_map f) owned in
    let taken_one : Option T → ℕ = λ slot. one_if (is_some slot) in
    let there_one : Option B → ℕ = λ slot. one_if (there_and (λ b. true) slot) in
    sym (sum-map taken_one numbers.slots)
    ∙ sum_by-alike (λ (n : ℕ). n) 0 refl (map there_one made) (map taken_one numbers.slots)
    (λ n. get_or-map taken_one numbers.slots n None ∙ ap one_if (taken n ∙ sym (there-some f (at owned n)) ∙ ap (there_and (λ b. true)) (sym (at-map f owned n))) ∙ sym (get_or-map there_one made n None))
    ∙ sum-map there_one made

none_of : {A B : Type 0} (number : Option A) (slot : Option B) → is_some number ≡ is_some slot → number ≡ None → slot ≡ None
none_of number None same free = refl
none_of number (Some b) same free = absurd (let is = sym (ap is_some free) ∙ same in cc)

-- at a number that is free nothing is
pub free-vacant : {T A : Type 0} (numbers : Slab T) (old : List (Option A)) (p : ℕ) → ((n : ℕ) → is_some (get numbers n) ≡ is_some (at old n)) → get numbers p ≡ None → at old p ≡ None
free-vacant numbers old p taken free = none_of (get numbers p) (at old p) (taken p) free

-- and so no page is there
pub free-page : {T A B : Type 0} (f : A → B) (numbers : Slab T) (old : List (Option A)) (p : ℕ) → ((n : ℕ) → is_some (get numbers n) ≡ is_some (at old n)) → get numbers p ≡ None → at (map (option_map f) old) p ≡ None
free-page f numbers old p taken free = at-map f old p ∙ ap (option_map f) (free-vacant numbers old p taken free)

pub byte_in-changes : (old new : List (Option (List ℕ))) (p : ℕ) (to : Option (List ℕ)) → Changes old new p to → (q o : ℕ) → byte_in new q o ≡ (if q == p then byte_of to o else byte_in old q o)
byte_in-changes old new p to changes q o =
    elim (eqb_tells q p) [
      | inl same ↦ rw (same.0, same.1) (ap (λ bytes. byte_of bytes o) changes.changed)
      | inr differs ↦ rw differs.0 (ap (λ bytes. byte_of bytes o) (changes.others q differs.1))
    ]

-- one byte written, over these
pub but_one : (before after : List ℕ) (offset byte o : ℕ) → slice_index after offset ≡ byte → ((n : ℕ) → n ≢ offset → slice_index after n ≡ slice_index before n) → slice_index after o ≡ (if offset == o then byte else slice_index before o)
but_one before after offset byte o written others =
    elim (eqb_tells offset o) [
      | inl here ↦ rw (here.0, ← here.1) written
      | inr elsewhere ↦ rw elsewhere.0 (others o (λ e. elsewhere.1 (sym e)))
    ]

-- zeros, and then one byte written
pub zeros_but : (before after : List ℕ) (offset byte o : ℕ) → ((n : ℕ) → slice_index before n ≡ 0) → slice_index after offset ≡ byte → ((n : ℕ) → n ≢ offset → slice_index after n ≡ slice_index before n) → slice_index after o ≡ (if offset == o then byte else 0)
zeros_but before after offset byte o cleared written others = but_one before after offset byte o written others ∙ ap (cond (offset == o) byte) (cleared o)

-- one byte of a page is written
pub byte_in-written : (old new : List (Option (List ℕ))) (p : ℕ) (after : Option (List ℕ)) (offset byte : ℕ) → Changes old new p after → WritesByte (at old p) after offset byte → (q o : ℕ)
    → byte_in new q o ≡ (if (q == p) && (offset == o) then byte else byte_in old q o)
byte_in-written old new p after offset byte changes writes q o =
    byte_in-changes old new p after changes q o
    ∙ elim (eqb_tells q p) [
      | inl same ↦ rw (same.0, same.1) (
          elim (eqb_tells offset o) [
            | inl here ↦ rw (here.0, ← here.1) writes.written
            | inr elsewhere ↦ rw elsewhere.0 (writes.others o (λ e. elsewhere.1 (sym e)))
          ])
      | inr differs ↦ rw differs.0 refl
    ]

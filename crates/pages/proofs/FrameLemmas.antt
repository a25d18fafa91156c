-- Which page is held in a frame, and what is told by frames after the change of one page.
use Rattle.std.proofs.Common.{◌≡◌, ◌≢◌, ℕ, ◌≤◌, Bool, true, false, cond, List, length, Option, Some, None, refl, sym, ap, ◌∙◌, subst, inl, inr, arith}
use Rattle.std.specs.Prelude.{nat_lt, position}
use Rattle.std.specs.List.{position_or_len}
use Rattle.std.proofs.lemmas.Bool.{and_parts, cases_lt}
use Rattle.std.proofs.lemmas.Bool.Decides.{eqb_tells, nat_tests}
use Rattle.std.proofs.lemmas.List.Quantifiers.{position-Some}
use Rattle.std.proofs.lemmas.List.Sums.{fails_before_first}
use Rattle.std.proofs.Math.ListN.{get_or-eq_default}
use Rattle.machine.specs.Slots.{at, there_and, Changes}
use Rattle.machine.specs.Pages.{Page, Pages, page_at, is_held, has_this_frame, is_frame_taken, is_number}
use Rattle.machine.specs.declared.id.PageId.{PageId}
use Rattle.machine.proofs.Values.{some_inj, unlike}
use Rattle.pages.specs.PagesOf.{is_held_frame, frame_holder}
use Rattle.pages.specs.Records.{AreFramed}
use Rattle.pages.proofs.TableLemmas.{any-some}

-- ---- the first number that passes

module _ {T : Type 0} (test : T → Bool) where
  -- it passes
  pub first_passes : (xs : List (Option T)) (p : ℕ) → position (there_and test) xs ≡ Some p → there_and test (at xs p) ≡ true
  first_passes xs p e = (position-Some (there_and test) xs p None e).1

  -- where none is found none passes
  pub none_passes : (xs : List (Option T)) → position (there_and test) xs ≡ None → (n : ℕ) → there_and test (at xs n) ≡ false
  none_passes xs e n = by_length (nat_lt (position_or_len (there_and test) xs) (length xs)) refl e
    where
      within : length xs ≤ position_or_len (there_and test) xs → there_and test (at xs n) ≡ false
      within ends =
          elim (cases_lt n (length xs)) [
            | inl less ↦ fails_before_first (there_and test) xs n None (omega (arith, less, ends))
            | inr beyond ↦ ap (there_and test) (get_or-eq_default xs None beyond)
          ]

      by_length : (b : Bool) → nat_lt (position_or_len (there_and test) xs) (length xs) ≡ b → cond b (Some (position_or_len (there_and test) xs)) None ≡ None → there_and test (at xs n) ≡ false
      by_length true is found = cc
      by_length false is found = within (grind (arith, nat_tests, is))

  -- where no number but one can pass, that one is found if it passes
  pub position-only : (xs : List (Option T)) (p : ℕ) → there_and test (at xs p) ≡ true → ((q : ℕ) → there_and test (at xs q) ≡ true → q ≡ p) → position (there_and test) xs ≡ Some p
  position-only xs p passes only = by_found (position (there_and test) xs) refl
    where
      by_found : (found : Option ℕ) → position (there_and test) xs ≡ found → position (there_and test) xs ≡ Some p
      by_found None is = unlike (there_and test (at xs p)) passes (none_passes xs is p)
      by_found (Some q) is = is ∙ ap (λ (k : ℕ). Some k) (only q (first_passes xs q is))

  -- and where none passes none is found
  pub position-none : (xs : List (Option T)) → ((q : ℕ) → there_and test (at xs q) ≡ true → ⊥) → position (there_and test) xs ≡ None
  position-none xs none = by_found (position (there_and test) xs) refl
    where
      by_found : (found : Option ℕ) → position (there_and test) xs ≡ found → position (there_and test) xs ≡ None
      by_found None is = is
      by_found (Some q) is = absurd (none q (first_passes xs q is))

-- ---- who holds a frame

-- what stands there has this frame
abbrev pub frames_page : ℕ → Option Page → Bool
frames_page f slot = there_and (has_this_frame f) slot

-- and is held in it
abbrev pub holds_frame : ℕ → Option Page → Bool
holds_frame f slot = there_and (is_held_frame f) slot

pub holds-frames : (f : ℕ) (slot : Option Page) → holds_frame f slot ≡ true → frames_page f slot ≡ true
holds-frames f None is = is
holds-frames f (Some page) is = (and_parts (is_held page) (has_this_frame f page) is).1

-- the page that is found is there, and is held in it
pub frame_holder-there : (pages : Pages) (f p : ℕ) → frame_holder pages f ≡ Some p → holds_frame f (page_at pages p) ≡ true
frame_holder-there pages f p found = first_passes (is_held_frame f) pages p found

-- where none is found no page is
pub frame_holder-no : (pages : Pages) (f : ℕ) → frame_holder pages f ≡ None → (p : ℕ) → holds_frame f (page_at pages p) ≡ false
frame_holder-no pages f none = none_passes (is_held_frame f) pages none

-- and the other way round
pub frame_holder-no_one : (pages : Pages) (f : ℕ) → ((p : ℕ) → holds_frame f (page_at pages p) ≡ false) → frame_holder pages f ≡ None
frame_holder-no_one pages f none = position-none (is_held_frame f) pages (λ p passes. unlike (holds_frame f (page_at pages p)) passes (none p))

module _ (by_frame : List (Option PageId)) (pages : Pages) (are : AreFramed by_frame pages) where
  -- whoever is held in a frame is told by it
  told : (f p : ℕ) → holds_frame f (page_at pages p) ≡ true → at by_frame f ≡ Some (record { 0 = p })
  told f p holds = are p f (holds-frames f (page_at pages p) holds)

  -- who is told and is held in the frame is the one that is found
  pub held-found : (f : ℕ) (page : PageId) → at by_frame f ≡ Some page → holds_frame f (page_at pages page.0) ≡ true → frame_holder pages f ≡ Some page.0
  held-found f page is holds =
      position-only (is_held_frame f) pages page.0 holds (λ q passes. ap (λ (n : PageId). n.0) (some_inj (sym (told f q passes) ∙ is)))

  -- where the one that is told isn't, none is
  pub held-none : (f : ℕ) (page : PageId) → at by_frame f ≡ Some page → holds_frame f (page_at pages page.0) ≡ false → frame_holder pages f ≡ None
  held-none f page is not =
      position-none (is_held_frame f) pages
      (λ q passes.
      let here : q ≡ page.0 = ap (λ (n : PageId). n.0) (some_inj (sym (told f q passes) ∙ is)) in
      unlike (holds_frame f (page_at pages page.0)) (subst (λ (n : ℕ). holds_frame f (page_at pages n) ≡ true) here passes) not)

  -- and where none is told none is
  pub untold-none : (f : ℕ) → at by_frame f ≡ None → frame_holder pages f ≡ None
  untold-none f is = position-none (is_held_frame f) pages (λ q passes. let both = sym is ∙ told f q passes in cc)

-- nobody else is held there
pub holder-alone : (by_frame : List (Option PageId)) (pages : Pages) → AreFramed by_frame pages → (f p : ℕ) → is_number (frame_holder pages f) p ≡ holds_frame f (page_at pages p)
holder-alone by_frame pages are f p = by_found (frame_holder pages f) refl
  where
    apart : (q : ℕ) → frame_holder pages f ≡ Some q → q ≢ p → (b : Bool) → holds_frame f (page_at pages p) ≡ b → holds_frame f (page_at pages p) ≡ false
    apart q found differ true holds =
        absurd (differ (ap (λ (n : PageId). n.0) (some_inj (sym (told by_frame pages are f q (frame_holder-there pages f q found)) ∙ told by_frame pages are f p holds))))
    apart q found differ false holds = holds

    by_found : (found : Option ℕ) → frame_holder pages f ≡ found → is_number (frame_holder pages f) p ≡ holds_frame f (page_at pages p)
    by_found None is = ap (λ (o : Option ℕ). is_number o p) is ∙ sym (frame_holder-no pages f is p)
    by_found (Some q) is =
        elim (eqb_tells q p) [
          | inl same ↦ ap (λ (o : Option ℕ). is_number o p) is ∙ same.0 ∙ sym (ap (λ (n : ℕ). holds_frame f (page_at pages n)) (sym same.1) ∙ frame_holder-there pages f q is)
          | inr other ↦ ap (λ (o : Option ℕ). is_number o p) is ∙ other.0 ∙ sym (apart q is other.1 (holds_frame f (page_at pages p)) refl)
        ]

-- ---- after a change

module _ (by_frame : List (Option PageId)) (old new : Pages) (p : ℕ) (to : Option Page) (changes : Changes old new p to) (are : AreFramed by_frame old) where
  -- a page has no frame that it hadn't before
  pub AreFramed-kept : ((f : ℕ) → frames_page f to ≡ true → frames_page f (page_at old p) ≡ true) → AreFramed by_frame new
  AreFramed-kept stays q f has =
      elim (eqb_tells q p) [
        | inl here ↦ (
            let before = stays f (sym (ap (frames_page f) (ap (page_at new) here.1 ∙ changes.changed)) ∙ has) in
            are q f (ap (λ n. frames_page f (page_at old n)) here.1 ∙ before)
            )
        | inr apart ↦ are q f (sym (ap (frames_page f) (changes.others q apart.1)) ∙ has)
      ]

  -- a page comes into a frame that none had
  pub AreFramed-comes : (frame : ℕ) → ((f : ℕ) → frames_page f to ≡ true → frame ≡ f) → is_frame_taken old frame ≡ false
      → (later : List (Option PageId)) → Changes by_frame later frame (Some (record { 0 = p })) → AreFramed later new
  AreFramed-comes frame own unused later noted q f has =
      elim (eqb_tells q p) [
        | inl here ↦ (
            let same = own f (sym (ap (frames_page f) (ap (page_at new) here.1 ∙ changes.changed)) ∙ has) in
            ap (at later) (sym same) ∙ noted.changed ∙ ap (λ (n : ℕ). Some (record { 0 = n })) (sym here.1)
            )
        | inr apart ↦ (
            let before = sym (ap (frames_page f) (changes.others q apart.1)) ∙ has in
            noted.others f (λ same. unlike (is_frame_taken old frame) (any-some (has_this_frame frame) old q (ap (λ (n : ℕ). frames_page n (page_at old q)) (sym same) ∙ before)) unused) ∙ are q f before
            )
      ]

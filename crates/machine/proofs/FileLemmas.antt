-- Which page holds a page of a file, and where a page of a file has its home.
use Rattle.std.proofs.Common.{◌≡◌, ◌≢◌, inl, inr, ℕ, zero, suc, ◌+◌, ◌<◌, ◌≤◌, ◌==◌, ◌&&◌, Bool, true, false, cond, List, [], ◌∷◌, length, Option, Some, None, eqb-true, eq-eqb, refl, sym, ap, ◌∙◌, subst, arith}
use Rattle.std.specs.Prelude.{◌⊎◌, nat_lt, option_map, position, slice_index, sum, take}
use Rattle.std.specs.List.{position_or_len}
use Rattle.std.proofs.lemmas.Bool.{and_parts, cases_lt}
use Rattle.std.proofs.lemmas.Bool.Decides.{nat_tests}
use Rattle.std.proofs.lemmas.List.Quantifiers.{position-Some}
use Rattle.std.proofs.lemmas.List.Sums.{sum_by-cons, sum_by-take-le, fails_before_first}
use Rattle.std.proofs.Math.ListN.{get_or-eq_default}
use Rattle.machine.specs.Slots.{at, Changes, there_and}
use Rattle.machine.specs.Pages.{Content, Memory, OfFile, Page, Pages, page_at, is_page_of, file_page, home_block}
use Rattle.machine.proofs.Values.{some_inj, unlike}
use Rattle.machine.proofs.TreeLemmas.{eq_cases, lt_cases}

-- ---- the first number that passes

module _ {T : Type 0} (test : T → Bool) where
  -- it passes
  first_passes : (xs : List (Option T)) (p : ℕ) → position (there_and test) xs ≡ Some p → there_and test (at xs p) ≡ true
  first_passes xs p e = (position-Some (there_and test) xs p None e).1

  -- where none is found none passes
  none_passes : (xs : List (Option T)) → position (there_and test) xs ≡ None → (n : ℕ) → there_and test (at xs n) ≡ false
  none_passes xs e n = by_length (nat_lt (position_or_len (there_and test) xs) (length xs)) refl e
    where
      within : length xs ≤ position_or_len (there_and test) xs → there_and test (at xs n) ≡ false
      within ends =
          elim (cases_lt n (length xs)) [
            | inl less ↦ fails_before_first (there_and test) xs n None (omega (arith, less, ends))
            | inr beyond ↦ ap (there_and test) (get_or-eq_default xs None beyond)
          ]

      by_length : (b : Bool) → nat_lt (position_or_len (there_and test) xs) (length xs) ≡ b → cond b (Some (position_or_len (there_and test) xs)) None ≡ None → there_and test (at xs n) ≡ false
      by_length true is found = cc
      by_length false is found = within (grind (arith, nat_tests, is))

  -- what passes, and none before it, is found
  passes_first : (xs : List (Option T)) (p : ℕ) → there_and test (at xs p) ≡ true → ((n : ℕ) → n < p → there_and test (at xs n) ≡ false) → position (there_and test) xs ≡ Some p
  passes_first xs p passes before = by_found (position (there_and test) xs) refl
    where
      by_found : (found : Option ℕ) → position (there_and test) xs ≡ found → position (there_and test) xs ≡ Some p
      by_found None is = unlike (there_and test (at xs p)) passes (none_passes xs is p)
      by_found (Some n) is =
          elim (lt_cases n p) [
            | inl less ↦ unlike (there_and test (at xs n)) (first_passes xs n is) (before n less)
            | inr (inl same) ↦ is ∙ ap (λ (k : ℕ). Some k) same
            | inr (inr more) ↦ unlike (there_and test (at xs p)) passes ((position-Some (there_and test) xs n None is).2 p more)
          ]

  -- where none passes none is found
  none_found : (xs : List (Option T)) → ((n : ℕ) → there_and test (at xs n) ≡ false) → position (there_and test) xs ≡ None
  none_found xs none = by_found (position (there_and test) xs) refl
    where
      by_found : (found : Option ℕ) → position (there_and test) xs ≡ found → position (there_and test) xs ≡ None
      by_found None is = is
      by_found (Some n) is = unlike (there_and test (at xs n)) (first_passes xs n is) (none n)

  -- in tables in which the same numbers pass, the same is found
  same_first : (xs ys : List (Option T)) → ((n : ℕ) → there_and test (at ys n) ≡ there_and test (at xs n)) → position (there_and test) ys ≡ position (there_and test) xs
  same_first xs ys same = by_found (position (there_and test) xs) refl
    where
      by_found : (found : Option ℕ) → position (there_and test) xs ≡ found → position (there_and test) ys ≡ position (there_and test) xs
      by_found None is = none_found ys (λ n. same n ∙ none_passes xs is n) ∙ sym is
      by_found (Some p) is = passes_first ys p (same p ∙ first_passes xs p is) (λ n less. same n ∙ (position-Some (there_and test) xs p None is).2 n less) ∙ sym is

-- ---- what holds a page of a file

-- what stands there holds this page of this file
abbrev pub holds_page : ℕ → ℕ → Option Page → Bool
holds_page f q slot = there_and (λ page. is_page_of f q page.content) slot

-- the test says what it holds
pub is_page_of-true : (f q : ℕ) (content : Content) → is_page_of f q content ≡ true → content ≡ OfFile f q
is_page_of-true f q Memory e = cc
is_page_of-true f q (OfFile f' q') e =
    let both = and_parts (f' == f) (q' == q) e in ap (λ (x : ℕ). OfFile x q') (eqb-true f' f both.0) ∙ ap (λ (x : ℕ). OfFile f x) (eqb-true q' q both.1)

pub is_page_of-own : (f q : ℕ) → is_page_of f q (OfFile f q) ≡ true
is_page_of-own f q = ap (λ (b : Bool). b && (q == q)) (eq-eqb f f refl) ∙ eq-eqb q q refl

-- of one page of a file it is the only one
pub is_page_of-other : (f q f' q' : ℕ) → ((f ≡ f') × (q ≡ q') → ⊥) → is_page_of f' q' (OfFile f q) ≡ false
is_page_of-other f q f' q' differ = by_test (is_page_of f' q' (OfFile f q)) refl
  where
    by_test : (b : Bool) → is_page_of f' q' (OfFile f q) ≡ b → is_page_of f' q' (OfFile f q) ≡ false
    by_test true is = let both = and_parts (f == f') (q == q') is in absurd (differ (eqb-true f f' both.0, eqb-true q q' both.1))
    by_test false is = is

pub holds_page-some : (f q : ℕ) (slot : Option Page) (page : Page) → slot ≡ Some page → page.content ≡ OfFile f q → holds_page f q slot ≡ true
holds_page-some f q slot page there holds = ap (holds_page f q) there ∙ ap (is_page_of f q) holds ∙ is_page_of-own f q

pub holds_page-there : (f q : ℕ) (slot : Option Page) → holds_page f q slot ≡ true → (page : Page) × (slot ≡ Some page) × (page.content ≡ OfFile f q)
holds_page-there f q None e = cc
holds_page-there f q (Some page) e = (page, refl, is_page_of-true f q page.content e)

-- what holds the same is told by its content
pub holds_page-content : (f q : ℕ) (slot slot' : Option Page) → option_map (λ (page : Page). page.content) slot' ≡ option_map (λ (page : Page). page.content) slot → holds_page f q slot' ≡ holds_page f q slot
holds_page-content f q None None e = refl
holds_page-content f q None (Some page) e = cc
holds_page-content f q (Some page) None e = cc
holds_page-content f q (Some page) (Some page') e = ap (is_page_of f q) (some_inj e)

-- the page that is found is there, and holds it
pub file_page-there : (pages : Pages) (f q p : ℕ) → file_page pages f q ≡ Some p → (page : Page) × (page_at pages p ≡ Some page) × (page.content ≡ OfFile f q)
file_page-there pages f q p e = holds_page-there f q (page_at pages p) (first_passes (λ (page : Page). is_page_of f q page.content) pages p e)

-- where none is found no page holds it
pub file_page-no : (pages : Pages) (f q : ℕ) → file_page pages f q ≡ None → (p : ℕ) → holds_page f q (page_at pages p) ≡ false
file_page-no pages f q e p = none_passes (λ (page : Page). is_page_of f q page.content) pages e p

pub file_page-none : (pages : Pages) (f q p : ℕ) (page : Page) → file_page pages f q ≡ None → page_at pages p ≡ Some page → page.content ≡ OfFile f q → ⊥
file_page-none pages f q p page none there holds = unlike (holds_page f q (page_at pages p)) (holds_page-some f q (page_at pages p) page there holds) (file_page-no pages f q none p)

-- and the other way round
pub file_page-no_one : (pages : Pages) (f q : ℕ) → ((p : ℕ) → holds_page f q (page_at pages p) ≡ false) → file_page pages f q ≡ None
file_page-no_one pages f q none = none_found (λ (page : Page). is_page_of f q page.content) pages none

-- no two pages hold one page of a file
pub record IsSingle (pages : Pages) : Type 0 where
  pub single : (f q p p' : ℕ) (page page' : Page) → page_at pages p ≡ Some page → page_at pages p' ≡ Some page' → page.content ≡ OfFile f q → page'.content ≡ OfFile f q → p ≡ p'

-- the same, by the test
pub single_holds : (pages : Pages) → IsSingle pages → (f q p p' : ℕ) → holds_page f q (page_at pages p) ≡ true → holds_page f q (page_at pages p') ≡ true → p ≡ p'
single_holds pages is f q p p' holds holds' =
    let one = holds_page-there f q (page_at pages p) holds in
    let other = holds_page-there f q (page_at pages p') holds' in
    is.single f q p p' one.0 other.0 one.1 other.1 one.2 other.2

-- a page that holds it is the one that is found
pub file_page-is : (pages : Pages) → IsSingle pages → (f q p : ℕ) (page : Page) → page_at pages p ≡ Some page → page.content ≡ OfFile f q → file_page pages f q ≡ Some p
file_page-is pages is f q p page there holds = by_found (file_page pages f q) refl
  where
    by_found : (found : Option ℕ) → file_page pages f q ≡ found → file_page pages f q ≡ Some p
    by_found None none = absurd (file_page-none pages f q p page none there holds)
    by_found (Some n) found =
        let stands = file_page-there pages f q n found in found ∙ ap (λ (k : ℕ). Some k) (is.single f q n p stands.0 page stands.1 there stands.2 holds)

-- ---- what is found as pages change

-- where each page that holds it does so still, and no other does, the same is found
pub file_page-alike : (pages pages' : Pages) (f q : ℕ) → ((p : ℕ) → holds_page f q (page_at pages' p) ≡ holds_page f q (page_at pages p)) → file_page pages' f q ≡ file_page pages f q
file_page-alike pages pages' f q same = same_first (λ (page : Page). is_page_of f q page.content) pages pages' same

-- so where no content changes
pub file_page-same : (pages pages' : Pages) → ((p : ℕ) → option_map (λ (page : Page). page.content) (page_at pages' p) ≡ option_map (λ (page : Page). page.content) (page_at pages p))
    → (f q : ℕ) → file_page pages' f q ≡ file_page pages f q
file_page-same pages pages' same f q = file_page-alike pages pages' f q (λ p. holds_page-content f q (page_at pages p) (page_at pages' p) (same p))

module _ (pages pages' : Pages) (p : ℕ) (to : Option Page) (changes : Changes pages pages' p to) where
  -- what changes holds this page of a file as it did, or did not
  pub file_page-beside : (f q : ℕ) → holds_page f q to ≡ holds_page f q (page_at pages p) → file_page pages' f q ≡ file_page pages f q
  file_page-beside f q same =
      file_page-alike pages pages' f q
      (λ n.
      elim (eq_cases n p) [
        | inl here ↦ ap (λ (x : ℕ). holds_page f q (page_at pages' x)) here ∙ ap (holds_page f q) changes.changed ∙ same ∙ sym (ap (λ (x : ℕ). holds_page f q (page_at pages x)) here)
        | inr other ↦ ap (holds_page f q) (changes.others n other)
      ])

  -- nothing that changes holds it: as where a page of memory comes or goes
  pub file_page-elsewhere : (f q : ℕ) → holds_page f q (page_at pages p) ≡ false → holds_page f q to ≡ false → file_page pages' f q ≡ file_page pages f q
  file_page-elsewhere f q before after = file_page-beside f q (after ∙ sym before)

  -- another page is found where it was
  pub file_page-other : (f q n : ℕ) → n ≢ p → file_page pages f q ≡ Some n → IsSingle pages' → file_page pages' f q ≡ Some n
  file_page-other f q n other found single =
      let stands = file_page-there pages f q n found in file_page-is pages' single f q n stands.0 (changes.others n other ∙ stands.1) stands.2

-- the page changes, and holds what it did
pub file_page-kept : (pages pages' : Pages) (p : ℕ) (page page' : Page) → Changes pages pages' p (Some page') → page_at pages p ≡ Some page → page'.content ≡ page.content
    → (f q : ℕ) → file_page pages' f q ≡ file_page pages f q
file_page-kept pages pages' p page page' changes there same f q = file_page-beside pages pages' p (Some page') changes f q (ap (is_page_of f q) same ∙ sym (ap (holds_page f q) there))

-- a page of memory is gone
pub file_page-gone_memory : (pages pages' : Pages) (p : ℕ) (page : Page) → Changes pages pages' p None → page_at pages p ≡ Some page → page.content ≡ Memory
    → (f q : ℕ) → file_page pages' f q ≡ file_page pages f q
file_page-gone_memory pages pages' p page changes there memory f q = file_page-elsewhere pages pages' p None changes f q (ap (holds_page f q) there ∙ ap (is_page_of f q) memory) refl

-- a page of a file is gone: none is found for it
pub file_page-gone : (pages pages' : Pages) (p f q : ℕ) (page : Page) → IsSingle pages → Changes pages pages' p None → page_at pages p ≡ Some page → page.content ≡ OfFile f q → file_page pages' f q ≡ None
file_page-gone pages pages' p f q page single changes there holds = file_page-no_one pages' f q none
  where
    none : (n : ℕ) → holds_page f q (page_at pages' n) ≡ false
    none n =
        elim (eq_cases n p) [
          | inl here ↦ ap (λ (x : ℕ). holds_page f q (page_at pages' x)) here ∙ ap (holds_page f q) changes.changed
          | inr other ↦ by_test other (holds_page f q (page_at pages n)) refl
        ]
      where
        by_test : n ≢ p → (b : Bool) → holds_page f q (page_at pages n) ≡ b → holds_page f q (page_at pages' n) ≡ false
        by_test other true is = absurd (other (single_holds pages single f q n p is (holds_page-some f q (page_at pages p) page there holds)))
        by_test other false is = ap (holds_page f q) (changes.others n other) ∙ is

-- and for another as before
pub file_page-gone_other : (pages pages' : Pages) (p f q : ℕ) (page : Page) → Changes pages pages' p None → page_at pages p ≡ Some page → page.content ≡ OfFile f q
    → (f' q' : ℕ) → ((f ≡ f') × (q ≡ q') → ⊥) → file_page pages' f' q' ≡ file_page pages f' q'
file_page-gone_other pages pages' p f q page changes there holds f' q' differ =
    file_page-elsewhere pages pages' p None changes f' q' (ap (holds_page f' q') there ∙ ap (is_page_of f' q') holds ∙ is_page_of-other f q f' q' differ) refl

-- a page of memory comes at a free number
pub file_page-new_memory : (pages pages' : Pages) (p : ℕ) (page : Page) → Changes pages pages' p (Some page) → page_at pages p ≡ None → page.content ≡ Memory
    → (f q : ℕ) → file_page pages' f q ≡ file_page pages f q
file_page-new_memory pages pages' p page changes free memory f q = file_page-elsewhere pages pages' p (Some page) changes f q (ap (holds_page f q) free) (ap (is_page_of f q) memory)

-- a page of a file that none held comes at a free number: it is found there
pub file_page-new : (pages pages' : Pages) (p f q : ℕ) (page : Page) → Changes pages pages' p (Some page) → page.content ≡ OfFile f q → file_page pages f q ≡ None → file_page pages' f q ≡ Some p
file_page-new pages pages' p f q page changes holds none = by_found (file_page pages' f q) refl
  where
    by_found : (found : Option ℕ) → file_page pages' f q ≡ found → file_page pages' f q ≡ Some p
    by_found None is = absurd (file_page-none pages' f q p page is changes.changed holds)
    by_found (Some n) is =
        let stands = file_page-there pages' f q n is in
        elim (eq_cases n p) [
          | inl here ↦ is ∙ ap (λ (k : ℕ). Some k) here
          | inr other ↦ absurd (file_page-none pages f q n stands.0 none (sym (changes.others n other) ∙ stands.1) stands.2)
        ]

-- and for another as before
pub file_page-new_other : (pages pages' : Pages) (p f q : ℕ) (page : Page) → Changes pages pages' p (Some page) → page_at pages p ≡ None → page.content ≡ OfFile f q
    → (f' q' : ℕ) → ((f ≡ f') × (q ≡ q') → ⊥) → file_page pages' f' q' ≡ file_page pages f' q'
file_page-new_other pages pages' p f q page changes free holds f' q' differ =
    file_page-elsewhere pages pages' p (Some page) changes f' q' (ap (holds_page f' q') free) (ap (is_page_of f' q') holds ∙ is_page_of-other f q f' q' differ)

-- ---- no two pages hold one, still

-- what holds a page of a file held it before
pub single_fewer : (pages pages' : Pages) → ((f q p : ℕ) → holds_page f q (page_at pages' p) ≡ true → holds_page f q (page_at pages p) ≡ true) → IsSingle pages → IsSingle pages'
single_fewer pages pages' fewer is =
    record {
      single = λ f q p p' page page' there there' holds holds'.
          single_holds pages is f q p p' (fewer f q p (holds_page-some f q (page_at pages' p) page there holds)) (fewer f q p' (holds_page-some f q (page_at pages' p') page' there' holds'));
    }

-- one page changes, and holds a page of a file that it held before, or that none did
pub single_changes : (pages pages' : Pages) (p : ℕ) (to : Option Page) → Changes pages pages' p to
    → ((f q : ℕ) → holds_page f q to ≡ true → (holds_page f q (page_at pages p) ≡ true) ⊎ (file_page pages f q ≡ None)) → IsSingle pages → IsSingle pages'
single_changes pages pages' p to changes holds is =
    record {
      single = λ f q n n' page page' there there' of_file of_file'.
          by_numbers f q n n' (holds_page-some f q (page_at pages' n) page there of_file) (holds_page-some f q (page_at pages' n') page' there' of_file');
    }
  where
    -- the page that changed, and another
    both : (f q n : ℕ) → n ≢ p → holds_page f q (page_at pages' p) ≡ true → holds_page f q (page_at pages' n) ≡ true → n ≡ p
    both f q n other here there =
        let before : holds_page f q (page_at pages n) ≡ true = sym (ap (holds_page f q) (changes.others n other)) ∙ there in
        elim (holds f q (sym (ap (holds_page f q) changes.changed) ∙ here)) [
          | inl held ↦ single_holds pages is f q n p before held
          | inr none ↦ unlike (holds_page f q (page_at pages n)) before (file_page-no pages f q none n)
        ]

    by_numbers : (f q n n' : ℕ) → holds_page f q (page_at pages' n) ≡ true → holds_page f q (page_at pages' n') ≡ true → n ≡ n'
    by_numbers f q n n' first second =
        elim (eq_cases n p) [
          | inl here ↦ elim (eq_cases n' p) [
            | inl here' ↦ here ∙ sym here'
            | inr other' ↦ here ∙ sym (both f q n' other' (subst (λ (x : ℕ). holds_page f q (page_at pages' x) ≡ true) here first) second)
          ]
          | inr other ↦ elim (eq_cases n' p) [
            | inl here' ↦ both f q n other (subst (λ (x : ℕ). holds_page f q (page_at pages' x) ≡ true) here' second) first ∙ sym here'
            | inr other' ↦ single_holds pages is f q n n' (sym (ap (holds_page f q) (changes.others n other)) ∙ first) (sym (ap (holds_page f q) (changes.others n' other')) ∙ second)
          ]
        ]

-- ---- home blocks

-- all pages of a file come before those of a later one
sizes_before : (sizes : List ℕ) (f f' : ℕ) → f < f' → sum (take f sizes) + slice_index sizes f ≤ sum (take f' sizes)
sizes_before sizes f zero less = absurd (omega (arith, less))
sizes_before [] f (suc f') less = by_number f
  where
    by_number : (n : ℕ) → sum (take n []) + slice_index [] n ≤ 0
    by_number zero = omega arith
    by_number (suc n) = omega arith
sizes_before (x ∷ xs) zero (suc f') less = let more = sum_by-cons (λ (n : ℕ). n) x (take f' xs) in omega (arith, more)
sizes_before (x ∷ xs) (suc f) (suc f') less =
    let more = sum_by-cons (λ (n : ℕ). n) x (take f' xs) in
    let same = sum_by-cons (λ (n : ℕ). n) x (take f xs) in
    let rest = sizes_before xs f f' (omega (arith, less)) in
    omega (arith, more, same, rest)

module _ (swap : ℕ) (sizes : List ℕ) where
  -- a home block is no swap block
  pub home_above : (f q : ℕ) → swap ≤ home_block swap sizes f q
  home_above f q = omega arith

  -- and is one of the device's
  pub home_below : (f q : ℕ) → q < slice_index sizes f → home_block swap sizes f q < swap + sum sizes
  home_below f q within =
      let before = sizes_before sizes f (suc f) (omega arith) in
      let all = sum_by-take-le (λ (n : ℕ). n) sizes (suc f) in
      omega (arith, within, before, all)

  -- no two pages of files have one home block
  pub homes_differ : (f q f' q' : ℕ) → q < slice_index sizes f → q' < slice_index sizes f' → home_block swap sizes f q ≡ home_block swap sizes f' q' → (f ≡ f') × (q ≡ q')
  homes_differ f q f' q' within within' same =
      elim (lt_cases f f') [
        | inl less ↦ absurd (let before = sizes_before sizes f f' less in omega (arith, before, within, same))
        | inr (inl one) ↦ (let sums = ap (λ (x : ℕ). sum (take x sizes)) one in (one, omega (arith, sums, same)))
        | inr (inr more) ↦ absurd (let before = sizes_before sizes f' f more in omega (arith, before, within', same))
      ]

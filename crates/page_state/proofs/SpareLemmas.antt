-- How many pages can be on their way out at once: each has a frame, and a block of its own to be written to.
use Rattle.std.proofs.Common.{◌≡◌, ℕ, zero, suc, ◌+◌, ◌<◌, ◌≤◌, ◌&&◌, not, Bool, true, false, List, [], ◌∷◌, Option, Some, None, refl, sym, ap, ◌∙◌, subst, arith}
use Rattle.std.specs.Prelude.{IfSome, nat_lt, slice_index, sum}
use Rattle.std.proofs.lemmas.Bool.{eqb-true}
use Rattle.std.proofs.lemmas.Bool.Decides.{nat_tests}
use Rattle.std.proofs.lemmas.List.Sums.{sum_by-cons}
use Rattle.machine.specs.Slots.{at, there_and, count_there}
use Rattle.machine.specs.Pages.{Content, Memory, OfFile, Residence, Held, Coming, Going, Away, Page, Pages, IsFiled, IsFiledAs, block_at, file_page, has_swap, home_block, is_anon, is_held, is_held_at, is_number, is_some_number, page_at, used_swap}
use Rattle.machine.proofs.Values.{some_inj}
use Rattle.machine.proofs.SlotLemmas.{one_if, count_there-none, count_there-some}
use Rattle.machine.proofs.TestLemmas.{tests-less}
use Rattle.machine.proofs.FileLemmas.{home_below, homes_differ}
use Rattle.files.specs.Files.{FilesOf}
use Rattle.pages.specs.PagesOf.{Label, HasResidence, AreFiled}
use Rattle.page_state.specs.declared.parts.Parts.{Parts}
use Rattle.page_state.specs.Owned.{is_leaving_at, is_going, PartsAgree}
use Rattle.page_state.proofs.PartsLemmas.{used-split, going-least}

-- ---- pages of files by their places among all pages of all files

abbrev place_of : List ℕ → Content → Option ℕ
place_of sizes Memory = None
place_of sizes (OfFile f q) = Some (home_block 0 sizes f q)

abbrev has_place : List ℕ → ℕ → Page → Bool
has_place sizes n page = is_number (place_of sizes page.content) n

abbrev is_below : Option ℕ → ℕ → Bool
is_below None n = false
is_below (Some m) n = nat_lt m n

abbrev has_place_below : List ℕ → ℕ → Page → Bool
has_place_below sizes n page = is_below (place_of sizes page.content) n

abbrev is_of_file : Page → Bool
is_of_file page = not (is_anon page.content)

-- where no two pass, one passes at most
count-one : {T : Type 0} (test : T → Bool) (xs : List (Option T)) → ((j k : ℕ) → there_and test (at xs j) ≡ true → there_and test (at xs k) ≡ true → j ≡ k) → count_there test xs ≤ 1
count-one test [] alone = omega arith
count-one {T} test (x ∷ xs) alone =
    by_test (there_and test x) refl (count-one test xs (λ j k first second. let same = alone (suc j) (suc k) first second in omega (arith, same))) (sum_by-cons (λ (slot : Option T). one_if (there_and test slot)) x xs)
  where
    by_test : (b : Bool) → there_and test x ≡ b → count_there test xs ≤ 1 → count_there test (x ∷ xs) ≡ one_if (there_and test x) + count_there test xs → count_there test (x ∷ xs) ≤ 1
    by_test true is rest more =
        let here : one_if (there_and test x) ≡ 1 = ap one_if is in
        let none = count_there-none test xs (λ n. fails n (there_and test (at xs n)) refl) in
        omega (arith, more, here, none)
      where
        fails : (n : ℕ) (b : Bool) → there_and test (at xs n) ≡ b → b ≡ false
        fails n true passes = absurd (let same = alone 0 (suc n) is passes in omega (arith, same))
        fails n false passes = refl
    by_test false is rest more = let here : one_if (there_and test x) ≡ 0 = ap one_if is in omega (arith, more, here, rest)

below-more : (o : Option ℕ) (n : ℕ) → one_if (is_below o (suc n)) ≡ one_if (is_below o n) + one_if (is_number o n)
below-more None n = refl
below-more (Some m) n = grind (arith, nat_tests)

below-zero : (o : Option ℕ) → is_below o 0 ≡ false
below-zero None = refl
below-zero (Some m) = grind (arith, nat_tests)

module _ (sizes : List ℕ) where
  slot-more : (slot : Option Page) (n : ℕ) → one_if (there_and (has_place_below sizes (suc n)) slot) ≡ one_if (there_and (has_place_below sizes n) slot) + one_if (there_and (has_place sizes n) slot)
  slot-more None n = refl
  slot-more (Some page) n = below-more (place_of sizes page.content) n

  places-more : (pages : Pages) (n : ℕ) → count_there (has_place_below sizes (suc n)) pages ≡ count_there (has_place_below sizes n) pages + count_there (has_place sizes n) pages
  places-more [] n = refl
  places-more (slot ∷ pages) n =
      let more = sum_by-cons (λ (slot : Option Page). one_if (there_and (has_place_below sizes (suc n)) slot)) slot pages in
      let below = sum_by-cons (λ (slot : Option Page). one_if (there_and (has_place_below sizes n) slot)) slot pages in
      let own = sum_by-cons (λ (slot : Option Page). one_if (there_and (has_place sizes n) slot)) slot pages in
      let here = slot-more slot n in
      let rest = places-more pages n in
      omega (arith, more, below, own, here, rest)

  slot-none : (slot : Option Page) → there_and (has_place_below sizes 0) slot ≡ false
  slot-none None = refl
  slot-none (Some page) = below-zero (place_of sizes page.content)

  -- where each place is one page's at most, no more pages are below a place than there are places
  places-few : (pages : Pages) → ((n : ℕ) → count_there (has_place sizes n) pages ≤ 1) → (n : ℕ) → count_there (has_place_below sizes n) pages ≤ n
  places-few pages once zero = let none = count_there-none (has_place_below sizes 0) pages (λ p. slot-none (page_at pages p)) in omega (arith, none)
  places-few pages once (suc n) =
      let more = places-more pages n in
      let rest = places-few pages once n in
      let one = once n in
      omega (arith, more, rest, one)

-- a page of a file, with its place
record Placed (sizes : List ℕ) (slot : Option Page) (n : ℕ) : Type 0 where
  page : Page
  f : ℕ
  q : ℕ
  stands : slot ≡ Some page
  holds : page.content ≡ OfFile f q
  within : q < slice_index sizes f
  place : home_block 0 sizes f q ≡ n

module _ (files : FilesOf) where
  placed : (slot : Option Page) (n : ℕ) → IfSome slot (IsFiled files.first files.sizes) → there_and (has_place files.sizes n) slot ≡ true → Placed files.sizes slot n
  placed None n filed has = absurd cc
  placed (Some page) n filed has = by_content page.content refl filed has
    where
      by_content : (content : Content) → page.content ≡ content → IsFiledAs files.first files.sizes page content → is_number (place_of files.sizes content) n ≡ true → Placed files.sizes (Some page) n
      by_content Memory is filed has = absurd cc
      by_content (OfFile f q) is filed has = record { page = page; f = f; q = q; stands = refl; holds = is; within = filed.0; place = eqb-true (home_block 0 files.sizes f q) n has }

  filed-below : (slot : Option Page) → IfSome slot (IsFiled files.first files.sizes) → there_and is_of_file slot ≡ true → there_and (has_place_below files.sizes (sum files.sizes)) slot ≡ true
  filed-below None filed of_file = cc
  filed-below (Some page) filed of_file = by_content page.content filed of_file
    where
      by_content : (content : Content) → IsFiledAs files.first files.sizes page content → not (is_anon content) ≡ true → is_below (place_of files.sizes content) (sum files.sizes) ≡ true
      by_content Memory filed of_file = absurd cc
      by_content (OfFile f q) filed of_file = let below = home_below 0 files.sizes f q filed.0 in grind (arith, nat_tests, below)

  -- no more pages of files are there than files have pages
  files-few : (pages : Pages) → AreFiled files pages → count_there is_of_file pages ≤ sum files.sizes
  files-few pages are =
      let less = tests-less (has_place_below files.sizes (sum files.sizes)) is_of_file pages pages (λ p. filed-below (page_at pages p) (are.filed p)) in
      let few = places-few files.sizes pages (λ n. count-one (has_place files.sizes n) pages (alone n)) (sum files.sizes) in
      omega (arith, less, few)
    where
      found : (n p : ℕ) (at_place : Placed files.sizes (page_at pages p) n) → file_page pages at_place.f at_place.q ≡ Some p
      found n p at_place = subst (λ (slot : Option Page). IfSome slot (λ page. page.content ≡ OfFile at_place.f at_place.q → file_page pages at_place.f at_place.q ≡ Some p)) at_place.stands (are.single p at_place.f at_place.q) at_place.holds

      alone : (n j k : ℕ) → there_and (has_place files.sizes n) (page_at pages j) ≡ true → there_and (has_place files.sizes n) (page_at pages k) ≡ true → j ≡ k
      alone n j k first second =
          let one = placed (page_at pages j) n (are.filed j) first in
          let two = placed (page_at pages k) n (are.filed k) second in
          let same = homes_differ 0 files.sizes one.f one.q two.f two.q one.within two.within (one.place ∙ sym two.place) in
          some_inj (sym (found n j one) ∙ ap (λ f. file_page pages f one.q) same.0 ∙ ap (file_page pages two.f) same.1 ∙ found n k two)

-- ---- pages on their way out

abbrev is_held_of_file : Page → Bool
is_held_of_file page = is_held page && not (is_anon page.content)

block_at-least : (r : Residence) (content : Content) → one_if (is_leaving_at r) + one_if (is_held_at r && not (is_anon content)) ≤ one_if (is_anon content && is_some_number (block_at r)) + one_if (not (is_anon content))
block_at-least (Held f) Memory = omega arith
block_at-least (Held f) (OfFile file q) = omega arith
block_at-least (Coming f b n) Memory = omega arith
block_at-least (Coming f b n) (OfFile file q) = omega arith
block_at-least (Going f b n) Memory = omega arith
block_at-least (Going f b n) (OfFile file q) = omega arith
block_at-least (Away b) Memory = omega arith
block_at-least (Away b) (OfFile file q) = omega arith

slot-least : (slot : Option Page) → one_if (there_and is_going slot) + one_if (there_and is_held_of_file slot) ≤ one_if (there_and has_swap slot) + one_if (there_and is_of_file slot)
slot-least None = omega arith
slot-least (Some page) = block_at-least page.residence page.content

-- a page on its way out has a swap block, or is a page of a file, and is in no frame alone
going-blocks : (pages : Pages) → count_there is_going pages + count_there is_held_of_file pages ≤ used_swap pages + count_there is_of_file pages
going-blocks [] = omega arith
going-blocks (slot ∷ pages) =
    let going = sum_by-cons (λ (slot : Option Page). one_if (there_and is_going slot)) slot pages in
    let held = sum_by-cons (λ (slot : Option Page). one_if (there_and is_held_of_file slot)) slot pages in
    let swap = sum_by-cons (λ (slot : Option Page). one_if (there_and has_swap slot)) slot pages in
    let of_file = sum_by-cons (λ (slot : Option Page). one_if (there_and is_of_file slot)) slot pages in
    let here = slot-least slot in
    let rest = going-blocks pages in
    omega (arith, going, held, swap, of_file, here, rest)

-- a spare is in for a page in a frame that has a block to go to: memory where a swap block is free, and each page of a file its home
pub spare-in : (h : Parts) → PartsAgree h → AreFiled h.pages.files h.pages.pages → (p : ℕ) (label : Label) (f : ℕ) → HasResidence h.pages.pages p label (Held f) → (is_anon label.content ≡ true → used_swap h.pages.pages < h.slots.blocks) → 0 < h.pool.spares
spare-in h is are p label f stood free =
    let one = count_there-some is_held h.pages.pages p (ap (there_and is_held) stood) in
    let split = used-split h.pages.pages in
    let going = going-least h.pages.pages in
    let frames = is.kept.frames.all in
    let blocks = going-blocks h.pages.pages in
    let few = files-few h.pages.files h.pages.pages are in
    let left = by_content label.content refl in
    let spares = is.spares in
    let most = is.most_spares in
    omega (arith, one, split, going, frames, blocks, few, left, spares, most)
  where
    by_content : (content : Content) → label.content ≡ content → used_swap h.pages.pages < h.slots.blocks + count_there is_held_of_file h.pages.pages
    by_content Memory same = let less = free (ap is_anon same) in omega (arith, less)
    by_content (OfFile file q) same =
        let this = count_there-some is_held_of_file h.pages.pages p (ap (there_and is_held_of_file) stood ∙ ap (λ (content : Content). not (is_anon content)) same) in
        let all = is.kept.blocks.all in
        omega (arith, this, all)

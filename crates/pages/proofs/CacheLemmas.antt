-- Pages of files and the cache, after the change of one page.
use Rattle.std.proofs.Common.{◌≡◌, ◌≢◌, ℕ, ◌<◌, ◌==◌, Bool, true, false, List, Option, Some, None, refl, sym, ap, ◌∙◌, subst, inl, inr, arith}
use Rattle.std.specs.Prelude.{IfSome, option_map, slice_index, sum}
use Rattle.std.proofs.lemmas.Bool.{eq-eqb, eqb-true, ne_eqb}
use Rattle.std.proofs.lemmas.Bool.Decides.{eqb_tells}
use Rattle.machine.specs.Slots.{at, Changes}
use Rattle.machine.specs.Pages.{Content, Memory, OfFile, Residence, Held, Coming, Going, Away, Page, Pages, page_at, file_page, IsFiled, IsFiledAs}
use Rattle.machine.specs.Step.{touched}
use Rattle.machine.specs.declared.event.Op.TheVariants.{Write}
use Rattle.machine.specs.declared.id.PageId.{PageId}
use Rattle.machine.proofs.Values.{unlike}
use Rattle.machine.proofs.FileLemmas.{holds_page, holds_page-some, is_page_of-other, file_page-there, file_page-no, file_page-no_one, home_above, home_below, homes_differ}
use Rattle.files.specs.Files.{FilesOf}
use Rattle.pages.specs.declared.end.End.{End}
use Rattle.pages.specs.declared.end.End.TheVariants.{InFrame, OnBlock}
use Rattle.pages.specs.declared.owned_page.FilePage.{FilePage}
use Rattle.pages.specs.PagesOf.{Label, labelled, AreFiled}
use Rattle.pages.specs.Transfers.{page_after}
use Rattle.pages.specs.Records.{file_at, place_in, is_found, AreCached, AreHome}

-- ---- places

pub place_below : (files : FilesOf) (f q : ℕ) → q < slice_index files.sizes f → place_in files f q < sum files.sizes
place_below files f q within =
    let below = home_below files.first files.sizes f q within in
    let above = home_above files.first files.sizes f q in
    omega (arith, below, above)

-- no two pages of files have one place
pub places_differ : (files : FilesOf) (f q f' q' : ℕ) → q < slice_index files.sizes f → q' < slice_index files.sizes f' → place_in files f q ≡ place_in files f' q' → (f ≡ f') × (q ≡ q')
places_differ files f q f' q' within within' same =
    let above = home_above files.first files.sizes f q in
    let above' = home_above files.first files.sizes f' q' in
    homes_differ files.first files.sizes f q f' q' within within' (omega (arith, above, above', same))

-- ---- who is found

module _ (files : FilesOf) (cache : List (Option PageId)) (pages : Pages) (are : AreCached files cache pages) where
  -- whoever holds it is found
  pub found-holder : (f q p : ℕ) → q < slice_index files.sizes f → holds_page f q (page_at pages p) ≡ true → is_found (at cache (place_in files f q)) p ≡ true
  found-holder f q p within holds = are f q p within ∙ holds

  pub cached-page : (f q : ℕ) → q < slice_index files.sizes f → option_map (λ (page : PageId). page.0) (at cache (place_in files f q)) ≡ file_page pages f q
  cached-page f q within = by_slot (at cache (place_in files f q)) refl (file_page pages f q) refl
    where
      by_slot : (slot : Option PageId) → at cache (place_in files f q) ≡ slot → (found : Option ℕ) → file_page pages f q ≡ found → option_map (λ (page : PageId). page.0) slot ≡ file_page pages f q
      by_slot None is found e = sym (file_page-no_one pages f q (λ p. sym (are f q p within) ∙ ap (λ s. is_found s p) is))
      by_slot (Some page) is None e =
          unlike (page.0 == page.0) (eq-eqb page.0 page.0 refl) (sym (ap (λ s. is_found s page.0) is) ∙ are f q page.0 within ∙ file_page-no pages f q e page.0)
      by_slot (Some page) is (Some n) e =
          let stands = file_page-there pages f q n e in
          let holds = holds_page-some f q (page_at pages n) stands.0 stands.1 stands.2 in
          ap Some (eqb-true page.0 n (sym (ap (λ s. is_found s n) is) ∙ are f q n within ∙ holds)) ∙ sym e

  -- two that hold it are one
  pub one-holder : (f q p p' : ℕ) → q < slice_index files.sizes f → holds_page f q (page_at pages p) ≡ true → holds_page f q (page_at pages p') ≡ true → p ≡ p'
  one-holder f q p p' within holds holds' = by_slot (at cache (place_in files f q)) (found-holder f q p within holds) (found-holder f q p' within holds')
    where
      by_slot : (slot : Option PageId) → is_found slot p ≡ true → is_found slot p' ≡ true → p ≡ p'
      by_slot None first second = cc
      by_slot (Some page) first second = sym (eqb-true page.0 p first) ∙ eqb-true page.0 p' second

  filed_within : (f q : ℕ) (page : Page) → page.content ≡ OfFile f q → IsFiled files.first files.sizes page → q < slice_index files.sizes f
  filed_within f q page holds is = (subst (IsFiledAs files.first files.sizes page) holds is).0

  -- what always holds of pages of files
  pub AreFiled-all : AreHome files pages → AreFiled files pages
  AreFiled-all home = record {
    filed = home;
    single = λ p file q. by_page file q p (page_at pages p) refl (home p);
  }
    where
      by_page : (f q p : ℕ) (slot : Option Page) → page_at pages p ≡ slot → IfSome slot (IsFiled files.first files.sizes) → IfSome slot (λ page. page.content ≡ OfFile f q → file_page pages f q ≡ Some p)
      by_page f q p None e is = tt
      by_page f q p (Some page) e is = λ holds.
          let within = filed_within f q page holds is in
          let held = holds_page-some f q (page_at pages p) page e holds in
          by_found f q p within held (file_page pages f q) refl
        where
          by_found : (f q p : ℕ) → q < slice_index files.sizes f → holds_page f q (page_at pages p) ≡ true → (found : Option ℕ) → file_page pages f q ≡ found → file_page pages f q ≡ Some p
          by_found f q p within held None e = unlike (holds_page f q (page_at pages p)) held (file_page-no pages f q e p)
          by_found f q p within held (Some n) e =
              let stands = file_page-there pages f q n e in
              e ∙ ap Some (one-holder f q n p within (holds_page-some f q (page_at pages n) stands.0 stands.1 stands.2) held)

-- ---- after a change

module _ (files : FilesOf) (old new : Pages) (p : ℕ) (to : Option Page) (changes : Changes old new p to) where
  pub AreHome-changes : IfSome to (IsFiled files.first files.sizes) → AreHome files old → AreHome files new
  AreHome-changes is home q =
      elim (eqb_tells q p) [
        | inl same ↦ subst (λ slot. IfSome slot (IsFiled files.first files.sizes)) (sym (ap (page_at new) same.1 ∙ changes.changed)) is
        | inr apart ↦ subst (λ slot. IfSome slot (IsFiled files.first files.sizes)) (sym (changes.others q apart.1)) (home q)
      ]

  holds-after : (f q n : ℕ) → holds_page f q to ≡ holds_page f q (page_at old p) → holds_page f q (page_at old n) ≡ holds_page f q (page_at new n)
  holds-after f q n same =
      elim (eqb_tells n p) [
        | inl here ↦ ap (λ m. holds_page f q (page_at old m)) here.1 ∙ sym same ∙ sym (ap (holds_page f q) (ap (page_at new) here.1 ∙ changes.changed))
        | inr apart ↦ sym (ap (holds_page f q) (changes.others n apart.1))
      ]

  module _ (cache : List (Option PageId)) (are : AreCached files cache old) where
    -- the page holds what it held
    pub AreCached-kept : ((f q : ℕ) → holds_page f q to ≡ holds_page f q (page_at old p)) → AreCached files cache new
    AreCached-kept same f q n within = are f q n within ∙ holds-after f q n (same f q)

    module _ (later : List (Option PageId)) (f q : ℕ) (within : q < slice_index files.sizes f) (slot : Option PageId) (swaps : Changes cache later (place_in files f q) slot) where
      -- at one home another is found
      AreCached-swapped : ((n : ℕ) → is_found slot n ≡ holds_page f q (page_at new n)) → ((f' q' : ℕ) → ((f ≡ f') × (q ≡ q') → ⊥) → holds_page f' q' to ≡ holds_page f' q' (page_at old p)) → AreCached files later new
      AreCached-swapped own apart f' q' n within' =
          elim (eqb_tells (place_in files f' q') (place_in files f q)) [
            | inl same ↦ (
                let one = places_differ files f' q' f q within' within same.1 in
                ap (λ s. is_found s n) (ap (at later) same.1 ∙ swaps.changed) ∙ own n ∙ ap (λ x. holds_page x q (page_at new n)) (sym one.0) ∙ ap (λ x. holds_page f' x (page_at new n)) (sym one.1)
                )
            | inr other ↦ (
                let differ : (f ≡ f') × (q ≡ q') → ⊥ = λ same. other.1 (ap (λ x. place_in files x q') (sym same.0) ∙ ap (place_in files f) (sym same.1)) in
                ap (λ s. is_found s n) (swaps.others (place_in files f' q') other.1) ∙ are f' q' n within' ∙ holds-after f' q' n (apart f' q' differ)
                )
          ]

      -- a page of a file that none held comes
      pub AreCached-added : (page : Page) → to ≡ Some page → page.content ≡ OfFile f q → page_at old p ≡ None → file_page old f q ≡ None → slot ≡ Some (record { 0 = p }) → AreCached files later new
      AreCached-added page is holds free none found = AreCached-swapped own apart
        where
          own : (n : ℕ) → is_found slot n ≡ holds_page f q (page_at new n)
          own n =
              ap (λ s. is_found s n) found
              ∙ elim (eqb_tells n p) [
                | inl here ↦ eq-eqb p n (sym here.1) ∙ sym (ap (holds_page f q) (ap (page_at new) here.1 ∙ changes.changed) ∙ holds_page-some f q to page is holds)
                | inr other ↦ ne_eqb p n (λ same. other.1 (sym same)) ∙ sym (ap (holds_page f q) (changes.others n other.1) ∙ file_page-no old f q none n)
              ]

          apart : (f' q' : ℕ) → ((f ≡ f') × (q ≡ q') → ⊥) → holds_page f' q' to ≡ holds_page f' q' (page_at old p)
          apart f' q' differ = ap (holds_page f' q') is ∙ ap (λ content. holds_page f' q' (Some (record page { content = content }))) holds ∙ is_page_of-other f q f' q' differ ∙ sym (ap (holds_page f' q') free)

      -- a page of a file goes
      pub AreCached-gone : (page : Page) → to ≡ None → page_at old p ≡ Some page → page.content ≡ OfFile f q → slot ≡ None → AreCached files later new
      AreCached-gone page is was holds found = AreCached-swapped own apart
        where
          by_test : (n : ℕ) → n ≢ p → (b : Bool) → holds_page f q (page_at old n) ≡ b → holds_page f q (page_at old n) ≡ false
          by_test n other true e = absurd (other (one-holder files cache old are f q n p within e (holds_page-some f q (page_at old p) page was holds)))
          by_test n other false e = e

          own : (n : ℕ) → is_found slot n ≡ holds_page f q (page_at new n)
          own n =
              ap (λ s. is_found s n) found
              ∙ elim (eqb_tells n p) [
                | inl here ↦ sym (ap (holds_page f q) (ap (page_at new) here.1 ∙ changes.changed ∙ is))
                | inr other ↦ sym (ap (holds_page f q) (changes.others n other.1) ∙ by_test n other.1 (holds_page f q (page_at old n)) refl)
              ]

          apart : (f' q' : ℕ) → ((f ≡ f') × (q ≡ q') → ⊥) → holds_page f' q' to ≡ holds_page f' q' (page_at old p)
          apart f' q' differ = ap (holds_page f' q') is ∙ sym (ap (holds_page f' q') was ∙ ap (λ content. holds_page f' q' (Some (record page { content = content }))) holds ∙ is_page_of-other f q f' q' differ)

-- a page goes, and if it holds a page of a file, its place in the cache is free
pub AreCached-left : (files : FilesOf) (old new : Pages) (p : ℕ) (page : Page) (cache later : List (Option PageId)) → Changes old new p None → page_at old p ≡ Some page → IsFiled files.first files.sizes page
    → ((a : FilePage) → file_at page.content ≡ Some a → Changes cache later (place_in files a.file a.page) None) → (file_at page.content ≡ None → later ≡ cache) → AreCached files cache old → AreCached files later new
AreCached-left files old new p page cache later changes was filed frees same are = by_content page.content refl
  where
    by_content : (content : Content) → page.content ≡ content → AreCached files later new
    by_content Memory is =
        subst (λ c. AreCached files c new) (sym (same (ap file_at is)))
        (AreCached-kept files old new p None changes cache are (λ f q. sym (ap (holds_page f q) was ∙ ap (λ content. holds_page f q (Some (record page { content = content }))) is)))
    by_content (OfFile f q) is =
        let within = (subst (IsFiledAs files.first files.sizes page) is filed).0 in
        AreCached-gone files old new p None changes cache are later f q within None (frees (record { file = f; page = q }) (ap file_at is)) page refl was is refl

-- the page that goes is one that its file has
pub left-inside : (files : FilesOf) (page : Page) → IsFiled files.first files.sizes page → IfSome (file_at page.content) (λ a. a.page < slice_index files.sizes a.file)
left-inside files page is = by_content page.content is
  where
    by_content : (content : Content) → IsFiledAs files.first files.sizes page content → IfSome (file_at content) (λ a. a.page < slice_index files.sizes a.file)
    by_content Memory is = tt
    by_content (OfFile f q) is = is.0

-- a page whose transfer has ended is at home, if it is still there
pub filed-after : (swap : ℕ) (sizes : List ℕ) (end : End) (label : Label) (r : Residence) (f b : ℕ) → IsFiled swap sizes (labelled label r) → IfSome (page_after end label f b) (IsFiled swap sizes)
filed-after swap sizes end label r f b is = by_content end label.content label.group label.dirty is
  where
    by_content : (e : End) (content : Content) (g : ℕ) (dirty : Bool) → IsFiled swap sizes (record { content = content; group = g; dirty = dirty; residence = r })
        → IfSome (page_after e (record { content = content; group = g; dirty = dirty }) f b) (IsFiled swap sizes)
    by_content InFrame Memory g dirty is = is
    by_content OnBlock Memory g dirty is = is
    by_content InFrame (OfFile file q) g dirty is = (is.0, tt)
    by_content OnBlock (OfFile file q) g dirty is = tt

-- a page that is written to is at home still
pub touched-filed : (swap : ℕ) (sizes : List ℕ) (page : Page) (byte : ℕ) → IsFiled swap sizes page → IsFiled swap sizes (touched page (Write byte))
touched-filed swap sizes page byte is = by_content page.content page.group page.dirty page.residence is
  where
    by_content : (content : Content) (g : ℕ) (dirty : Bool) (r : Residence) → IsFiled swap sizes (record { content = content; group = g; dirty = dirty; residence = r })
        → IsFiled swap sizes (touched (record { content = content; group = g; dirty = dirty; residence = r }) (Write byte))
    by_content Memory g dirty r is = is
    by_content (OfFile f q) g dirty (Held frame) is = (is.0, tt)
    by_content (OfFile f q) g dirty (Coming frame block ticket) is = (is.0, is.1)
    by_content (OfFile f q) g dirty (Going frame block ticket) is = (is.0, (is.1.0, refl))
    by_content (OfFile f q) g dirty (Away block) is = absurd is.1

-- and so is one that is of another group from now on
pub regrouped-filed : (swap : ℕ) (sizes : List ℕ) (page : Page) (g : ℕ) → IsFiled swap sizes page → IsFiled swap sizes (record page { group = g })
regrouped-filed swap sizes page g is = by_content page.content page.group page.dirty page.residence is
  where
    by_content : (content : Content) (h : ℕ) (dirty : Bool) (r : Residence) → IsFiled swap sizes (record { content = content; group = h; dirty = dirty; residence = r })
        → IsFiled swap sizes (record { content = content; group = g; dirty = dirty; residence = r })
    by_content Memory h dirty r is = is
    by_content (OfFile f q) h dirty r is = is

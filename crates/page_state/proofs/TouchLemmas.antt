-- A page is written to: it owns what it owned, and stands where it stood.
use Rattle.std.proofs.Common.{◌≡◌, inl, inr, ℕ, Bool, true, false, List, Option, Some, None, refl, sym, ap, ◌∙◌, subst, arith}
use Rattle.std.specs.Prelude.{IfSome, option_map, sum}
use Rattle.machine.specs.declared.event.Op.TheVariants.{Write}
use Rattle.machine.specs.Slots.{Changes, there_and, count_there}
use Rattle.machine.specs.Tree.{is_live}
use Rattle.machine.specs.Pages.{Page, Pages, page_at, is_held, has_frame, has_this_frame, has_swap, is_in_transfer, is_charged}
use Rattle.machine.specs.Lists.{is_held_of}
use Rattle.machine.specs.Step.{touched}
use Rattle.machine.proofs.RemovedLemmas.{count-alike}
use Rattle.machine.proofs.TreeLemmas.{eq_cases}
use Rattle.pages.specs.PagesOf.{PagesOf}
use Rattle.page_state.specs.declared.parts.Parts.{Parts}
use Rattle.page_state.specs.Owned.{has_this_block, is_going, as_number, IsBalanced, PartsAgree}

-- a page, whether or not it was written to
abbrev pub unwritten : Page → Page
unwritten page = record page { dirty = false }

module _ (h : Parts) (is : PartsAgree h) (pages : PagesOf) (same : (q : ℕ) → option_map unwritten (page_at pages.pages q) ≡ option_map unwritten (page_at h.pages.pages q)) where
  -- a test that does not look at that tells the same
  alike : (test : Page → Bool) → ((page : Page) → test (unwritten page) ≡ test page) → (q : ℕ) → there_and test (page_at pages.pages q) ≡ there_and test (page_at h.pages.pages q)
  alike test blind q = sym (by_slot (page_at pages.pages q)) ∙ ap (there_and test) (same q) ∙ by_slot (page_at h.pages.pages q)
    where
      by_slot : (slot : Option Page) → there_and test (option_map unwritten slot) ≡ there_and test slot
      by_slot None = refl
      by_slot (Some page) = blind page

  counts : (test : Page → Bool) → ((page : Page) → test (unwritten page) ≡ test page) → count_there test pages.pages ≡ count_there test h.pages.pages
  counts test blind = count-alike test test h.pages.pages pages.pages (alike test blind)

  balanced : (this : ℕ → Page → Bool) (has : Page → Bool) (total : ℕ) (free : List ℕ) → ((n : ℕ) (page : Page) → this n (unwritten page) ≡ this n page) → ((page : Page) → has (unwritten page) ≡ has page)
      → IsBalanced this has total free h.pages.pages → IsBalanced this has total free pages.pages
  balanced this has total free blind blind_has was =
      record {
        once = λ n lt. (let k = counts (this n) (blind n) in let before = was.once n lt in omega (arith, k, before));
        none_beyond = λ n le. (let k = counts (this n) (blind n) in let before = was.none_beyond n le in omega (arith, k, before));
        all = (let k = counts has blind_has in let before = was.all in omega (arith, k, before));
      }

  live : (q : ℕ) → IfSome (page_at pages.pages q) (λ page. is_live h.counters.tree page.group ≡ true)
  live q = back (page_at pages.pages q) (subst (λ (slot : Option Page). IfSome slot (λ page. is_live h.counters.tree page.group ≡ true)) (sym (same q)) (there (page_at h.pages.pages q) (is.kept.counted.live q)))
    where
      there : (slot : Option Page) → IfSome slot (λ page. is_live h.counters.tree page.group ≡ true) → IfSome (option_map unwritten slot) (λ page. is_live h.counters.tree page.group ≡ true)
      there None l = tt
      there (Some page) l = l

      back : (slot : Option Page) → IfSome (option_map unwritten slot) (λ page. is_live h.counters.tree page.group ≡ true) → IfSome slot (λ page. is_live h.counters.tree page.group ≡ true)
      back None l = tt
      back (Some page) l = l

  pub agree-touched : pages ≡ record (h.pages) { pages = pages.pages; bytes = pages.bytes } → PartsAgree (record h { pages = pages })
  agree-touched others =
      let going = counts is_going (λ page. refl) in
      let moving = counts is_in_transfer (λ page. refl) in
      let tickets = ap (λ (t : PagesOf). t.tickets) others in
      let numbers = ap (λ (t : PagesOf). t.numbers) others in
      record {
        kept = record {
          frames = balanced has_this_frame has_frame h.pool.frames h.pool.free (λ n page. refl) (λ page. refl) is.kept.frames;
          blocks = balanced has_this_block has_swap h.slots.blocks h.slots.free (λ n page. refl) (λ page. refl) is.kept.blocks;
          counted = record { counts = λ a lt. is.kept.counted.counts a lt ∙ sym (counts (is_charged h.counters.tree a) (λ page. refl)); live = live };
        };
        few = is.few;
        held = record { rows = λ g kind p. is.held.rows g kind p ∙ sym (alike (is_held_of g kind) (λ page. refl) p); marked = λ p marked. alike is_held (λ page. refl) p ∙ is.held.marked p marked; counted = λ p gone. is.held.counted p (sym (alike is_held (λ page. refl) p) ∙ gone) };
        moving = record { once = λ p. is.moving.once p ∙ ap as_number (sym (alike is_in_transfer (λ page. refl) p)); len = is.moving.len ∙ sym moving };
        moving_room = is.moving_room;
        held_groups = is.held_groups;
        page_groups = ap (λ (t : PagesOf). t.groups) others ∙ is.page_groups;
        page_frames = ap (λ (t : PagesOf). t.frames) others ∙ is.page_frames;
        held_numbers = is.held_numbers ∙ sym numbers;
        homes = ap (λ (t : PagesOf). t.files.first) others ∙ is.homes;
        spares = (let was = is.spares in omega (arith, was, going));
        most_spares = (let was = is.most_spares in let sizes = ap (λ (t : PagesOf). sum t.files.sizes) others in omega (arith, was, sizes));
        numbers = (let was = is.numbers in omega (arith, was, numbers));
        tickets = (let was = is.tickets in omega (arith, was, moving, tickets));
      }

-- a page that was written to is the same otherwise
pub touched-alike : (pages pages' : Pages) (p b : ℕ) (page : Page) → page_at pages p ≡ Some page → Changes pages pages' p (Some (touched page (Write b))) → (q : ℕ) → option_map unwritten (page_at pages' q) ≡ option_map unwritten (page_at pages q)
touched-alike pages pages' p b page stood changes q =
    elim (eq_cases q p) [
      | inl same ↦ ap (λ n. option_map unwritten (page_at pages' n)) same ∙ ap (option_map unwritten) changes.changed ∙ sym (ap (λ n. option_map unwritten (page_at pages n)) same ∙ ap (option_map unwritten) stood)
      | inr other ↦ ap (option_map unwritten) (changes.others q other)
    ]

-- Pages go as places come to show nothing, one after another.
use Rattle.std.proofs.Common.{◌≡◌, ◌≢◌, inl, inr, ℕ, ◌+◌, ◌<◌, ◌≤◌, ◌==◌, ◌&&◌, not, Bool, true, false, cond, Option, Some, None, ne_eqb, refl, sym, ap, ◌∙◌, arith}
use Rattle.std.specs.Prelude.{is_some, nat_lt}
use Rattle.std.proofs.lemmas.Bool.{and_right}
use Rattle.std.proofs.lemmas.Bool.Decides.{nat_tests}
use Rattle.machine.specs.Slots.{there_and}
use Rattle.machine.specs.Pages.{Page, page_at, is_anon, is_held, in_transfer_at, is_in_transfer, in_transfer}
use Rattle.machine.specs.Tasks.{PageTables, mapped_at, mappers, Shows}
use Rattle.machine.specs.State.{State}
use Rattle.machine.specs.Lists.{Youngest, ListsHeld, AreGenerations}
use Rattle.machine.specs.Step.{still}
use Rattle.page_lists.proofs.HeldChanges.{goes-on-then}
use Rattle.page_lists.proofs.HeldLemmas.{goes-still}
use Rattle.machine.proofs.TreeLemmas.{eq_cases}
use Rattle.machine.proofs.MappingLemmas.{mapped_at-mappers, mappers-shows}
use Rattle.page_state.specs.Mapped.{AreMapped, is_settled}
use Rattle.page_state.specs.States.{StateOf, byte_shown}
use Rattle.page_state.specs.Changes.{DropsPages, Unmaps, UnmapsAll}
use Rattle.page_state.specs.Drops.{UnmapsBelow}
use Rattle.page_state.proofs.MappedLemmas.{still-mapped, still-still, still-less, still-moving, mapped_there}
use Rattle.page_state.proofs.TransferLemmas.{in_transfer-alike}

some_slot : (slot : Option Page) → is_some slot ≡ there_and (λ page. true) slot
some_slot None = refl
some_slot (Some page) = refl

-- what is left was there
pub left_there : (tables : PageTables) (p : ℕ) (slot : Option Page) → is_some (still tables p slot) ≡ true → is_some slot ≡ true
left_there tables p slot e = some_slot slot ∙ still-less tables p (λ page. true) slot (sym (some_slot (still tables p slot)) ∙ e)

-- where a place comes to show nothing, no page has more mappers
pub fewer : (old new : PageTables) (t v : ℕ) → Shows old new t v None → (p : ℕ) → mappers new p ≤ mappers old p
fewer old new t v shows p = let both = mappers-shows old new t v p None shows in omega (arith, both)

-- ---- nothing goes where nothing came to be unmapped

-- what is no memory, or is in transfer, stays
pub still-unsettled : (tables : PageTables) (p : ℕ) (slot : Option Page) → there_and (λ page. is_anon page.content && not (is_in_transfer page)) slot ≡ false → still tables p slot ≡ slot
still-unsettled tables p None other = refl
still-unsettled tables p (Some page) other = by_tests (is_anon page.content) (mappers tables p == 0) (not (in_transfer_at page.residence)) other
  where
    by_tests : (a b c : Bool) → (a && c) ≡ false → cond (a && (b && c)) None (Some page) ≡ Some page
    by_tests true true true e = cc
    by_tests true true false e = refl
    by_tests true false c e = refl
    by_tests false b c e = refl

pub stays_settled : (tables : PageTables) (p : ℕ) (slot : Option Page) → is_settled slot ≤ mappers tables p → still tables p slot ≡ slot
stays_settled tables p None least = refl
stays_settled tables p (Some page) least = by_settled (is_anon page.content && not (is_in_transfer page)) refl
  where
    by_settled : (b : Bool) → (is_anon page.content && not (is_in_transfer page)) ≡ b → still tables p (Some page) ≡ Some page
    by_settled true settles = still-mapped tables p (Some page) (let one : is_settled (Some page) ≡ 1 = ap (λ b. cond b 1 0) settles in omega (arith, one, least))
    by_settled false other = still-unsettled tables p (Some page) other

-- what stays held is as it was
pub still-stays : (tables : PageTables) (p : ℕ) (slot : Option Page) → there_and is_held (still tables p slot) ≡ true → still tables p slot ≡ slot
still-stays tables p None e = refl
still-stays tables p (Some page) e = by_test (is_anon page.content && ((mappers tables p == 0) && not (in_transfer_at page.residence))) e
  where
    by_test : (b : Bool) → there_and is_held (cond b None (Some page)) ≡ true → cond b None (Some page) ≡ Some page
    by_test true e = absurd cc
    by_test false e = refl

-- ---- after all of them

module _ (old new : StateOf) (drops : DropsPages old new) where
  -- a page that is still mapped stays
  pub mapped_stays : (t v p : ℕ) → mapped_at new.tables.page_tables t v ≡ Some p → page_at new.tables.pages p ≡ page_at old.tables.pages p
  mapped_stays t v p e = drops.pages p ∙ still-mapped new.tables.page_tables p (page_at old.tables.pages p) (mapped_at-mappers new.tables.page_tables t v p e)

  -- and so do its bytes
  pub bytes_stay : AreMapped old.tables.pages old.tables.page_tables → (t v k : ℕ) → mapped_at new.tables.page_tables t v ≡ mapped_at old.tables.page_tables t v
      → byte_shown new.bytes (mapped_at old.tables.page_tables t v) k ≡ byte_shown old.bytes (mapped_at old.tables.page_tables t v) k
  bytes_stay mapped t v k same = by_place (mapped_at old.tables.page_tables t v) refl
    where
      by_place : (m : Option ℕ) → mapped_at old.tables.page_tables t v ≡ m → byte_shown new.bytes m k ≡ byte_shown old.bytes m k
      by_place None e = refl
      by_place (Some p) e = drops.bytes p k (ap is_some (mapped_stays t v p (same ∙ e)) ∙ mapped_there old.tables.pages old.tables.page_tables mapped t v p e)

  -- as many pages are in transfer
  pub moving_alike : in_transfer new.tables.pages ≡ in_transfer old.tables.pages
  moving_alike = in_transfer-alike old.tables.pages new.tables.pages (λ p. ap (there_and is_in_transfer) (drops.pages p) ∙ still-moving new.tables.page_tables p (page_at old.tables.pages p))

-- ---- one place after another

pub drops-then : (old mid new : StateOf) → AreGenerations old.order.held → DropsPages old mid → DropsPages mid new → ((p : ℕ) → mappers new.tables.page_tables p ≤ mappers mid.tables.page_tables p) → DropsPages old new
drops-then old mid new sound first second less =
    record {
      pages = λ p. second.pages p ∙ ap (still new.tables.page_tables p) (first.pages p) ∙ still-still mid.tables.page_tables new.tables.page_tables p (page_at old.tables.pages p) (less p);
      bytes = λ p k there. second.bytes p k there ∙ first.bytes p k (left_there new.tables.page_tables p (page_at mid.tables.pages p) (sym (ap is_some (second.pages p)) ∙ there));
      flights = second.flights ∙ first.flights;
      held = goes-on-then Youngest Youngest old.tables.pages mid.tables.pages new.tables.pages old.order.held mid.order.held new.order.held first.held second.held sound
          (λ p held. second.pages p ∙ still-stays new.tables.page_tables p (page_at mid.tables.pages p) (sym (ap (there_and is_held) (second.pages p)) ∙ held));
      cursors = second.cursors ∙ first.cursors;
    }

-- nothing goes where nothing comes to be unmapped
pub drops-none : (s : StateOf) → AreMapped s.tables.pages s.tables.page_tables → ListsHeld s.tables.pages s.order.held → DropsPages s s
drops-none s mapped listed =
    record {
      pages = λ p. sym (stays_settled s.tables.page_tables p (page_at s.tables.pages p) (mapped.least p));
      bytes = λ p k there. refl;
      flights = refl;
      held = goes-still Youngest s.tables.pages s.tables.pages s.order.held listed refl;
      cursors = refl;
    }

pub unmaps-none : (s : StateOf) (t : ℕ) → AreMapped s.tables.pages s.tables.page_tables → ListsHeld s.tables.pages s.order.held → UnmapsBelow s s t 0
unmaps-none s t mapped listed =
    record {
      below = λ v lt. absurd (omega (arith, lt));
      above = λ v le. refl;
      others = λ u v other. refl;
      drops = drops-none s mapped listed;
      tables = refl;
    }

pub unmaps-more : (old mid new : StateOf) (t n : ℕ) → AreGenerations old.order.held → UnmapsBelow old mid t n → Unmaps mid new t n → UnmapsBelow old new t (n + 1)
unmaps-more old mid new t n sound first second =
    record {
      below = λ v lt. elim (eq_cases v n) [
        | inl same ↦ ap (mapped_at new.tables.page_tables t) same ∙ second.shown.changed
        | inr other ↦ second.shown.others t v (miss v other) ∙ first.below v (omega (arith, lt, other))
      ];
      above = λ v le. second.shown.others t v (miss v (λ e. omega (arith, le, e))) ∙ first.above v (omega (arith, le));
      others = λ u v other. second.shown.others u v (ap (λ b. b && (n == v)) (ne_eqb t u (λ e. other (sym e)))) ∙ first.others u v other;
      drops = drops-then old mid new sound first.drops second.drops (fewer mid.tables.page_tables new.tables.page_tables t n second.shown);
      tables = second.tables ∙ ap (λ (s : State). record s { pages = new.tables.pages; page_tables = new.tables.page_tables }) first.tables;
    }
  where
    miss : (v : ℕ) → v ≢ n → ((t == t) && (n == v)) ≡ false
    miss v other = ap (λ b. (t == t) && b) (ne_eqb n v (λ e. other (sym e))) ∙ and_right (t == t) false refl

pub unmaps-all : (old new : StateOf) (t n : ℕ) → UnmapsBelow old new t n → ((v p : ℕ) → mapped_at old.tables.page_tables t v ≡ Some p → v < n) → UnmapsAll old new t
unmaps-all old new t n all inside = record { shown = record { none = none; others = all.others }; drops = all.drops; tables = all.tables }
  where
    unshown : (v : ℕ) → n ≤ v → (m : Option ℕ) → mapped_at old.tables.page_tables t v ≡ m → m ≡ None
    unshown v le None e = refl
    unshown v le (Some p) e = absurd (let lt = inside v p e in omega (arith, le, lt))

    by_order : (v : ℕ) (b : Bool) → nat_lt v n ≡ b → mapped_at new.tables.page_tables t v ≡ None
    by_order v true e = all.below v (grind (arith, nat_tests, e))
    by_order v false e = let le : n ≤ v = grind (arith, nat_tests, e) in all.above v le ∙ unshown v le (mapped_at old.tables.page_tables t v) refl

    none : (v : ℕ) → mapped_at new.tables.page_tables t v ≡ None
    none v = by_order v (nat_lt v n) refl

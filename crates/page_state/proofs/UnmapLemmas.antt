-- A place that comes to show nothing, in all joined parts.
use Rattle.std.proofs.Common.{◌≡◌, ◌≢◌, inl, inr, ℕ, ◌==◌, ◌&&◌, not, Bool, true, false, cond, List, Option, Some, None, ne_eqb, eqb-true, eq-eqb, refl, sym, ap, ◌∙◌, subst, arith}
use Rattle.std.specs.Prelude.{IsSome, is_some}
use Rattle.machine.specs.Slots.{there_and}
use Rattle.machine.specs.Tree.{is_live}
use Rattle.machine.specs.Pages.{Page, page_at, is_anon, in_transfer_at, is_in_transfer}
use Rattle.machine.specs.declared.record.Life.{Life}
use Rattle.machine.specs.Tasks.{Tasks, PageTables, SetsTask, task_at, task_of, lives, group_of_task, mapped_at, mappers, Shows}
use Rattle.machine.specs.State.{State}
use Rattle.machine.specs.Step.{still}
use Rattle.machine.proofs.Values.{unlike}
use Rattle.machine.proofs.TreeLemmas.{eq_cases}
use Rattle.machine.proofs.SlotLemmas.{one_if}
use Rattle.machine.proofs.MappingLemmas.{mappers-alike, mappers-shows, shown_once}
use Rattle.spaces.specs.Space.{Space}
use Rattle.page_state.specs.declared.joined.State.TheInside.{Inside}
use Rattle.page_state.specs.declared.parts.Parts.{Parts}
use Rattle.page_state.specs.Owned.{PartsAgree}
use Rattle.page_state.specs.Parts.{ListsGoOn, Drops, DropsUnmapped}
use Rattle.machine.specs.declared.record.Limits.{Limits}
use Rattle.page_state.specs.States.{StateOf}
use Rattle.page_state.specs.Changes.{Unmaps, UnmapsAll, EndsTask}
use Rattle.page_state.specs.Joined.{joined_of, IsJoined}
use Rattle.page_state.proofs.MappedLemmas.{mapped-dropped}
use Rattle.machine.specs.Lists.{Youngest}
use Rattle.page_lists.proofs.HeldLemmas.{goes-still}
use Rattle.page_state.proofs.DropLemmas.{fewer, stays_settled}
use Rattle.page_state.proofs.PartsLemmas.{stays-same}
use Rattle.page_state.proofs.JoinLemmas.{joined-pages, joined-tasks}

-- ---- one page

-- memory in no transfer
abbrev pub is_settled_memory : Page → Bool
is_settled_memory page = is_anon page.content && not (is_in_transfer page)

-- such a page is there, and is in no transfer
pub settled-there : (slot : Option Page) → there_and is_settled_memory slot ≡ true → IsSome slot
settled-there None e = absurd cc
settled-there (Some page) e = refl

pub settled-rests : (slot : Option Page) → there_and is_settled_memory slot ≡ true → there_and is_in_transfer slot ≡ false
settled-rests None e = refl
settled-rests (Some page) e = by_tests (is_anon page.content) (is_in_transfer page) e
  where
    by_tests : (a c : Bool) → (a && not c) ≡ true → c ≡ false
    by_tests true true e = cc
    by_tests true false e = refl
    by_tests false c e = cc

-- it is memory in no transfer, and nothing maps it
pub dropped : (old new : Parts) (tables : PageTables) (p : ℕ) → Drops old new p → there_and is_settled_memory (page_at old.pages.pages p) ≡ true → (mappers tables p == 0) ≡ true → DropsUnmapped old new tables p
dropped old new tables p drops settles none =
    record {
      pages = record { changed = drops.drops.gone.changed ∙ sym (goes (page_at old.pages.pages p) settles); others = drops.drops.gone.others };
      bytes = λ q o there. elim (eq_cases q p) [ inl same ↦ absurd (let wrong : true ≡ false = sym there ∙ ap is_some (ap (page_at new.pages.pages) same ∙ drops.drops.gone.changed) in cc) | inr other ↦ drops.drops.others q o other ];
      others = drops.drops.others;
      flights = drops.drops.flights;
      held = drops.held;
      stays = drops.stays;
    }
  where
    goes : (slot : Option Page) → there_and is_settled_memory slot ≡ true → still tables p slot ≡ None
    goes None settles = refl
    goes (Some page) settles = by_tests (is_anon page.content) (mappers tables p == 0) (not (in_transfer_at page.residence)) settles none
      where
        by_tests : (a b c : Bool) → (a && c) ≡ true → b ≡ true → cond (a && (b && c)) None (Some page) ≡ None
        by_tests true true true e z = refl
        by_tests true true false e z = cc
        by_tests true false c e z = cc
        by_tests false b c e z = cc

-- something maps it, or it is in transfer
pub kept : (h : Parts) (tables : PageTables) (p : ℕ) → ListsGoOn Youngest h h → still tables p (page_at h.pages.pages p) ≡ page_at h.pages.pages p → DropsUnmapped h h tables p
kept h tables p goes stays = record { pages = record { changed = sym stays; others = λ q other. refl }; bytes = λ q o there. refl; others = λ q o other. refl; flights = refl; held = goes; stays = stays-same h }

-- ---- one place

module _ (s : Inside) (is : IsJoined s)
    (spaces : Space) (t v : ℕ) (shown : Shows s.spaces.page_tables spaces.page_tables t v None) (tasks : spaces.tasks ≡ s.spaces.tasks) (numbers : spaces.numbers ≡ s.spaces.numbers) (groups : spaces.groups ≡ s.spaces.groups) where
  homes : (u : ℕ) → lives spaces.tasks u ≡ true → is_live s.tree (group_of_task spaces.tasks u) ≡ true
  homes = subst (λ (ts : Tasks). (u : ℕ) → lives ts u ≡ true → is_live s.tree (group_of_task ts u) ≡ true) (sym tasks) is.homes

  -- it showed nothing before
  module _ (none : mapped_at s.spaces.page_tables t v ≡ None) where
    alike : (p : ℕ) → mappers spaces.page_tables p ≡ mappers s.spaces.page_tables p
    alike p = let both = mappers-shows s.spaces.page_tables spaces.page_tables t v p None shown in let was : shown_once (mapped_at s.spaces.page_tables t v) p ≡ 0 = ap (λ m. shown_once m p) none in omega (arith, both, was)

    stays : (p : ℕ) → page_at s.parts.pages.pages p ≡ still spaces.page_tables p (page_at s.parts.pages.pages p)
    stays p = sym (stays_settled spaces.page_tables p (page_at s.parts.pages.pages p) (let least = is.mapped.least p in let same = alike p in omega (arith, least, same)))

    pub joined-unshown : IsJoined (record s { spaces = spaces })
    joined-unshown =
        joined-tasks s is spaces
        (mapped-dropped s.parts.pages.pages s.spaces.page_tables is.mapped s.parts.pages.pages spaces.page_tables (fewer s.spaces.page_tables spaces.page_tables t v shown) stays) numbers groups homes

    pub unmaps-unshown : Unmaps (joined_of s) (joined_of (record s { spaces = spaces })) t v
    unmaps-unshown =
        record {
          shown = shown;
          drops = record {
            pages = stays;
            bytes = λ p k there. refl;
            flights = refl;
            held = goes-still Youngest s.parts.pages.pages s.parts.pages.pages s.parts.held.lists is.agree.held refl;
            cursors = refl;
          };
          tables = (let old : StateOf = joined_of s in ap (λ (ts : Tasks). record (old.tables) { tasks = ts; page_tables = spaces.page_tables }) tasks);
        }

  -- it showed this page, which goes where nothing else maps it
  module _ (p : ℕ) (was : mapped_at s.spaces.page_tables t v ≡ Some p) (now : Parts) (agree : PartsAgree now) (drops : DropsUnmapped s.parts now spaces.page_tables p) where
    others_alike : (q : ℕ) → q ≢ p → mappers spaces.page_tables q ≡ mappers s.spaces.page_tables q
    others_alike q other =
        let both = mappers-shows s.spaces.page_tables spaces.page_tables t v q None shown in
        let miss : shown_once (mapped_at s.spaces.page_tables t v) q ≡ 0 = ap (λ m. shown_once m q) was ∙ ap one_if (ne_eqb p q (λ e. other (sym e))) in
        omega (arith, both, miss)

    all : (q : ℕ) → page_at now.pages.pages q ≡ still spaces.page_tables q (page_at s.parts.pages.pages q)
    all q =
        elim (eq_cases q p) [
          | inl same ↦ ap (page_at now.pages.pages) same ∙ drops.pages.changed ∙ ap (λ (x : ℕ). still spaces.page_tables x (page_at s.parts.pages.pages x)) (sym same)
          | inr other ↦ drops.pages.others q other ∙ sym (stays_settled spaces.page_tables q (page_at s.parts.pages.pages q) (let least = is.mapped.least q in let same = others_alike q other in omega (arith, least, same)))
        ]

    pub joined-unmapped : IsJoined (record s { parts = now; spaces = spaces })
    joined-unmapped =
        joined-pages s is now s.cursors spaces agree drops.stays
        (mapped-dropped s.parts.pages.pages s.spaces.page_tables is.mapped now.pages.pages spaces.page_tables (fewer s.spaces.page_tables spaces.page_tables t v shown) all) numbers groups homes refl

    pub unmaps-unmapped : Unmaps (joined_of s) (joined_of (record s { parts = now; spaces = spaces })) t v
    unmaps-unmapped =
        record {
          shown = shown;
          drops = record { pages = all; bytes = drops.bytes; flights = drops.flights; held = drops.held; cursors = refl };
          tables = (let old : StateOf = joined_of s in
              ap (λ (limits : List Limits). record (old.tables) { limits = limits; pages = now.pages.pages; tasks = spaces.tasks; page_tables = spaces.page_tables }) drops.stays.groups.limits
              ∙ ap (λ (ts : Tasks). record (old.tables) { pages = now.pages.pages; tasks = ts; page_tables = spaces.page_tables }) tasks);
        }

-- ---- all places of a task

still-alike : (tables tables' : PageTables) (p : ℕ) (slot : Option Page) → mappers tables' p ≡ mappers tables p → still tables' p slot ≡ still tables p slot
still-alike tables tables' p None same = refl
still-alike tables tables' p (Some page) same = ap (λ m. cond (is_anon page.content && ((m == 0) && not (in_transfer_at page.residence))) None (Some page)) same

-- its virtual pages show nothing, and it ends
pub ends-unmapped : (old : StateOf) (s : Inside) (spaces : Space) (t : ℕ) (life : Life) → UnmapsAll old (joined_of s) t → SetsTask s.spaces.tasks t (group_of_task s.spaces.tasks t) life spaces.tasks
    → ((u v : ℕ) → mapped_at spaces.page_tables u v ≡ mapped_at s.spaces.page_tables u v) → EndsTask old (joined_of (record s { spaces = spaces })) t life
ends-unmapped old s spaces t life all ends same =
    record {
      none = λ u v is. same u v ∙ ap (λ (x : ℕ). mapped_at s.spaces.page_tables x v) (eqb-true u t is) ∙ all.shown.none v;
      others = λ u v not. same u v ∙ all.shown.others u v (differs u not);
      ends = λ u is. let here = eqb-true u t is in ap (task_at spaces.tasks) here ∙ set.changed ∙ ap (λ (x : ℕ). Some (task_of (group_of_task old.tables.tasks x) life)) (sym here);
      stays = λ u not. set.others u (differs u not);
      drops = record {
        pages = λ p. all.drops.pages p ∙ sym (still-alike s.spaces.page_tables spaces.page_tables p (page_at old.tables.pages p) (mappers-alike s.spaces.page_tables spaces.page_tables p same));
        bytes = all.drops.bytes;
        flights = all.drops.flights;
        held = all.drops.held;
        cursors = all.drops.cursors;
      };
      tables = ap (λ (st : State). record st { tasks = spaces.tasks; page_tables = spaces.page_tables }) all.tables;
    }
  where
    set : SetsTask old.tables.tasks t (group_of_task old.tables.tasks t) life spaces.tasks
    set = subst (λ (ts : Tasks). SetsTask ts t (group_of_task ts t) life spaces.tasks) (ap (λ (st : State). st.tasks) all.tables) ends

    differs : (u : ℕ) → (u == t) ≡ false → u ≢ t
    differs u not same = unlike (u == t) (eq-eqb u t same) not

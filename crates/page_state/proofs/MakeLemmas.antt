-- A page that is made for a virtual page of a task, in all joined parts.
use Rattle.std.proofs.Common.{◌≡◌, ◌∙◌, ℕ, ◌<◌, ◌==◌, true, cond, List, Option, Some, refl, sym, ap, subst}
use Rattle.machine.specs.Tree.{is_live}
use Rattle.machine.specs.Tasks.{Tasks, PageTables, lives, group_of_task, mapped_at, mappers, Shows}
use Rattle.machine.specs.Step.{new_page}
use Rattle.pages.specs.PagesOf.{byte_in}
use Rattle.spaces.specs.Space.{Space}
use Rattle.page_state.specs.declared.joined.State.TheInside.{Inside}
use Rattle.page_state.specs.declared.parts.Parts.{Parts}
use Rattle.page_state.specs.Parts.{Adds}
use Rattle.page_state.specs.Owned.{PartsAgree}
use Rattle.machine.specs.declared.record.Limits.{Limits}
use Rattle.page_state.specs.States.{StateOf, byte_shown}
use Rattle.page_state.specs.Changes.{MakesPage}
use Rattle.page_state.specs.Joined.{joined_of, IsJoined}
use Rattle.page_state.proofs.MappedLemmas.{mapped-made}
use Rattle.page_state.proofs.JoinLemmas.{joined-pages}

-- a place that shows one page and then another shows the last
pub shows-again : (old mid new : PageTables) (t v : ℕ) (to to' : Option ℕ) → Shows old mid t v to → Shows mid new t v to' → Shows old new t v to'
shows-again old mid new t v to to' first then = record { changed = then.changed; others = λ u w other. then.others u w other ∙ first.others u w other }

module _ (s : Inside) (is : IsJoined s) (t v p g offset byte : ℕ) (begins : ℕ → ℕ) (h : Parts) (agree : PartsAgree h) (adds : Adds s.parts h p g begins offset byte)
    (spaces : Space) (shown : Shows s.spaces.page_tables spaces.page_tables t v (Some p)) (tasks : spaces.tasks ≡ s.spaces.tasks) where
  -- the place showed nothing, or a page that others show too
  pub joined-made : ((q : ℕ) → mapped_at s.spaces.page_tables t v ≡ Some q → 1 < mappers s.spaces.page_tables q) → spaces.numbers ≡ s.spaces.numbers → spaces.groups ≡ s.spaces.groups → IsJoined (record s { parts = h; spaces = spaces })
  joined-made shared numbers groups =
      joined-pages s is h s.cursors spaces agree adds.stays
      (mapped-made s.parts.pages.pages s.spaces.page_tables is.mapped h.pages.pages spaces.page_tables t v p (new_page g adds.frame) refl adds.adds.number_free adds.adds.placed shared shown) numbers groups
      (subst (λ (ts : Tasks). (u : ℕ) → lives ts u ≡ true → is_live s.tree (group_of_task ts u) ≡ true) (sym tasks) is.homes) refl

  -- the page begins as what the place showed
  pub makes-page : p < s.parts.pages.numbers → ((k : ℕ) → begins k ≡ byte_shown s.parts.pages.bytes (mapped_at s.spaces.page_tables t v) k)
      → MakesPage (joined_of s) (joined_of (record s { parts = h; spaces = spaces })) t v g offset byte
  makes-page inside same =
      let old : StateOf = joined_of s in
      record {
        page = p;
        frame = adds.frame;
        frame_free = record { in_range = subst (λ n. adds.frame < n) is.frames adds.in_range; unused = adds.unused };
        in_range = subst (λ n. p < n) is.page_numbers inside;
        adds = record {
          number_free = adds.adds.number_free;
          placed = adds.adds.placed;
          bytes = λ q k. adds.adds.bytes q k ∙ ap (λ (b : ℕ). cond (q == p) (cond (offset == k) byte b) (byte_in s.parts.pages.bytes q k)) (same k);
          flights = adds.adds.flights;
        };
        shown = shown;
        tables = ap (λ (limits : List Limits). record (old.tables) { limits = limits; pages = h.pages.pages; tasks = spaces.tasks; page_tables = spaces.page_tables }) adds.stays.groups.limits
            ∙ ap (λ (ts : Tasks). record (old.tables) { pages = h.pages.pages; tasks = ts; page_tables = spaces.page_tables }) tasks;
        held = adds.held;
        cursors = refl;
      }

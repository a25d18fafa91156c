-- Each page that a place of a task shows is there, and is memory.
use Rattle.std.proofs.Common.{◌≡◌, inl, inr, ℕ, ◌≤◌, ◌==◌, ◌&&◌, not, Bool, true, false, cond, List, [], ◌∷◌, Option, Some, None, eqb-true, refl, sym, ap, ◌∙◌, subst, arith}
use Rattle.std.specs.Prelude.{is_some}
use Rattle.machine.specs.declared.event.Event.{Event}
use Rattle.machine.specs.declared.reply.Reply.{Reply}
use Rattle.machine.specs.declared.entry.Entry.{Entry}
use Rattle.machine.specs.Slots.{Changes, there_and}
use Rattle.machine.specs.Pages.{Page, is_anon, in_transfer_at, page_at}
use Rattle.machine.specs.Tasks.{PageTables, mapped_at, mappers}
use Rattle.machine.specs.State.{Opening, State, first_state}
use Rattle.machine.specs.Step.{still, Step}
use Rattle.machine.specs.Legal.{Legal}
use Rattle.machine.proofs.Values.{some_inj, never_some, unlike}
use Rattle.machine.proofs.TreeLemmas.{eq_cases}
use Rattle.machine.proofs.MappingLemmas.{mapped_at-mappers, shows-cases, copies-cases, shows_nothing-was}
use Rattle.page_lists.proofs.RegroupedLemmas.{regrouped-test}
use Rattle.legal.proofs.Did.{ends-was, Did, Kept, Made, Moved, Cached, Dropped, Ended, Spawned, Forked, Freed, Attached, Removed, Grown, step_did}

-- a page that a place shows is there, and is memory
pub record ShowsPages (s : State) : Type 0 where
  pub there : (t v p : ℕ) → mapped_at s.page_tables t v ≡ Some p → is_some (page_at s.pages p) ≡ true
  pub memory : (t v p : ℕ) (page : Page) → mapped_at s.page_tables t v ≡ Some p → page_at s.pages p ≡ Some page → is_anon page.content ≡ true

-- both in one test
abbrev is_memory : Option Page → Bool
is_memory slot = there_and (λ page. is_anon page.content) slot

abbrev ShowsMemory : State → Type 0
ShowsMemory s = (t v p : ℕ) → mapped_at s.page_tables t v ≡ Some p → is_memory (page_at s.pages p) ≡ true

-- the test holds where both do
both : (s : State) → ShowsPages s → ShowsMemory s
both s shows t v p at = by_slot (page_at s.pages p) refl (shows.there t v p at)
  where
    by_slot : (slot : Option Page) → page_at s.pages p ≡ slot → is_some slot ≡ true → is_memory slot ≡ true
    by_slot None is e = cc
    by_slot (Some page) is e = shows.memory t v p page at is

-- and both where it does
each : (s : State) → ShowsMemory s → ShowsPages s
each s shows =
    record { there = λ t v p at. there (page_at s.pages p) (shows t v p at); memory = λ t v p page at is. sym (ap is_memory is) ∙ shows t v p at }
  where
    there : (slot : Option Page) → is_memory slot ≡ true → is_some slot ≡ true
    there None e = cc
    there (Some page) e = refl

-- what is mapped outlives the end of a task
still_memory : (tables : PageTables) (p : ℕ) (slot : Option Page) → 1 ≤ mappers tables p → is_memory slot ≡ true → is_memory (still tables p slot) ≡ true
still_memory tables p None mapped e = e
still_memory tables p (Some page) mapped e = by_tests (is_anon page.content) (mappers tables p == 0) (not (in_transfer_at page.residence)) refl
  where
    by_tests : (a b c : Bool) → (mappers tables p == 0) ≡ b → is_memory (cond (a && (b && c)) None (Some page)) ≡ true
    by_tests false b c none = e
    by_tests true false c none = e
    by_tests true true c none = absurd (let zero = eqb-true (mappers tables p) 0 none in omega (arith, zero, mapped))

module _ (old new : State) (shows : ShowsMemory old) where
  -- one page changes, and no place
  one_changes : (q : ℕ) (to : Option Page) → Changes old.pages new.pages q to → ((t v : ℕ) → mapped_at old.page_tables t v ≡ Some q → is_memory to ≡ true)
      → (t v p : ℕ) → mapped_at old.page_tables t v ≡ Some p → is_memory (page_at new.pages p) ≡ true
  one_changes q to changes goes t v p at =
      elim (eq_cases p q) [
        | inl same ↦ ap (λ (x : ℕ). is_memory (page_at new.pages x)) same ∙ ap is_memory changes.changed ∙ goes t v (at ∙ ap (λ (x : ℕ). Some x) same)
        | inr differs ↦ ap is_memory (changes.others p differs) ∙ shows t v p at
      ]

  -- what was done leaves it so
  did_shows : (what : Event) (answer : Reply) → Did old what answer new → ShowsMemory new
  did_shows what answer (Kept limits flags counted e) u w q at = subst ShowsMemory (sym e) shows u w q at
  did_shows what answer (Made t v p frame access out alive shared within free unused placed shown e) u w q at =
      elim (shows-cases old.page_tables new.page_tables t v (Some p) shown u w) [
        | inl here ↦ (let same : q ≡ p = some_inj (sym at ∙ here) in ap (λ (x : ℕ). is_memory (page_at new.pages x)) same ∙ ap is_memory placed.changed)
        | inr was ↦ one_changes p _ placed (λ t' v' at'. refl) u w q (sym was ∙ at)
      ]
  did_shows what answer (Moved p page to dirty now counted there whose placed moves mapped e) u w q at =
      subst ShowsMemory (sym e) (one_changes p _ placed (λ t v at'. sym (ap is_memory there) ∙ shows t v p at')) u w q at
  did_shows what answer (Cached t f q p frame ticket access out alive unread within free unused fresh filed placed e) u w n at =
      subst ShowsMemory (sym e) (one_changes p _ placed (λ t v at'. unlike (is_memory (page_at old.pages p)) (shows t v p at') (ap is_memory free))) u w n at
  did_shows what answer (Dropped p page counted out there may_go went gone e) u w q at = subst ShowsMemory (sym e) (one_changes p None gone unmapped) u w q at
    where
      unmapped : (t v : ℕ) → mapped_at old.page_tables t v ≡ Some p → false ≡ true
      unmapped t v at' = absurd (let none = may_go (sym (ap is_memory there) ∙ shows t v p at') in let one = mapped_at-mappers old.page_tables t v p at' in omega (arith, none, one))
  did_shows what answer (Ended is_gone ending counted out dead ends) u w q at =
      ap is_memory (ends.pages q)
      ∙ still_memory new.page_tables q (page_at old.pages q) (mapped_at-mappers new.page_tables u w q at) (shows u w q (ends-was ends u w q at).1)
  did_shows what answer (Spawned t g is sets shown e) u w q at =
      ap (λ (s : State). is_memory (page_at s.pages q)) e ∙ shows u w q (shows_nothing-was old.page_tables new.page_tables t.0 shown u w q at).1
  did_shows what answer (Forked t child is out alive sets copies e) u w q at =
      ap (λ (s : State). is_memory (page_at s.pages q)) e
      ∙ elim (copies-cases old.page_tables new.page_tables t.0 child.0 copies u w) [ inl here ↦ shows t.0 w q (sym here.1 ∙ at) | inr was ↦ shows u w q (sym was.1 ∙ at) ]
  did_shows what answer (Freed t v is out alive frees) u w q at =
      ap is_memory (frees.pages q)
      ∙ still_memory new.page_tables q (page_at old.pages q) (mapped_at-mappers new.page_tables u w q at)
      (elim (shows-cases old.page_tables new.page_tables t.0 v None frees.shown u w) [ inl none ↦ never_some (mapped_at new.page_tables u w) none at | inr was ↦ shows u w q (sym was ∙ at) ])
  did_shows what answer (Attached t g is out sets e) u w q at = subst ShowsMemory (sym e) shows u w q at
  did_shows what answer (Removed g is out removes) u w q at =
      ap is_memory (removes.pages q) ∙ regrouped-test (λ page. is_anon page.content) old.opening.placement g.0 removes.parent (λ page. refl) (page_at old.pages q)
      ∙ shows u w q (sym (ap (λ (s : State). mapped_at s.page_tables u w) removes.state) ∙ at)
  did_shows what answer (Grown path is out e) u w q at = subst ShowsMemory (sym e) shows u w q at

-- a step leaves it so
pub shows_pages-step : (old new : State) (what : Event) (answer : Reply) → Step old what answer new → ShowsPages old → ShowsPages new
shows_pages-step old new what answer step shows = each new (did_shows old new (both old shows) what answer (step_did old new what answer step))

-- so it is in every legal history
pub shows_pages-legal : (opening : Opening) (history : List Entry) (s : State) → Legal opening history s → ShowsPages s
shows_pages-legal opening [] s legal = subst ShowsPages (sym legal) (each (first_state opening) (λ t v p at. cc))
shows_pages-legal opening (entry ∷ earlier) s legal = shows_pages-step legal.0 s entry.event entry.reply legal.2.steps (shows_pages-legal opening earlier legal.0 legal.1)

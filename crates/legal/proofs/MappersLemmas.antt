-- In every legal history each page of memory that is in no transfer is shown by some place: what nothing maps is gone.
use Rattle.std.proofs.Common.{◌≡◌, ◌≢◌, inl, inr, ℕ, ◌≤◌, ◌==◌, ◌&&◌, not, Bool, true, false, List, [], ◌∷◌, Option, Some, None, cond, eqb-true, refl, sym, ap, ◌∙◌, subst, arith}
use Rattle.std.proofs.lemmas.Bool.Decides.{nat_tests}
use Rattle.machine.specs.declared.event.Event.{Event}
use Rattle.machine.specs.declared.reply.Reply.{Reply}
use Rattle.machine.specs.declared.entry.Entry.{Entry}
use Rattle.machine.specs.declared.refusal.Refusal.{Refusal}
use Rattle.machine.specs.declared.refusal.Refusal.TheVariants.{Busy, NoEntry}
use Rattle.machine.specs.declared.record.Life.{Life}
use Rattle.machine.specs.declared.record.Life.TheVariants.{Live, Exited, Killed}
use Rattle.machine.specs.declared.record.Task.{Task}
use Rattle.machine.specs.Tree.{is_live}
use Rattle.machine.proofs.SlotLemmas.{one_if}
use Rattle.machine.specs.Slots.{Changes, there_and}
use Rattle.machine.specs.Pages.{is_number, Page, Pages, page_at, is_anon, in_transfer_at}
use Rattle.machine.specs.Tasks.{PageTables, task_at, is_live_life, is_live_task, lives, mapped_at, mappers}
use Rattle.machine.specs.State.{Opening, State}
use Rattle.machine.specs.Refusals.{first_cause, number_refusal, life_refusal, task_refusal, spawn_refusal, bars_tasks, refusal}
use Rattle.machine.specs.Step.{still}
use Rattle.machine.specs.Legal.{Legal}
use Rattle.machine.proofs.Values.{some_inj, unlike}
use Rattle.machine.proofs.TreeLemmas.{eq_cases}
use Rattle.machine.proofs.TaskLemmas.{not_used}
use Rattle.machine.proofs.MappingLemmas.{Mapper, mappers_some, mapped_at-mappers, mappers-shows, shown_once}
use Rattle.page_lists.proofs.RegroupedLemmas.{regrouped-was}
use Rattle.legal.proofs.Did.{Did, Kept, Made, Moved, Cached, Dropped, Ended, Spawned, Forked, Freed, Attached, Removed, Grown, step_did}
use Rattle.legal.proofs.Effects.{AllLive}
use Rattle.legal.proofs.SharedLemmas.{legal-live}

-- a number is that which it is told by
numbered : (shown : Option ℕ) (q : ℕ) → is_number shown q ≡ true → shown ≡ Some q
numbered None q is = cc
numbered (Some n) q is = ap (λ (x : ℕ). Some x) (eqb-true n q is)

-- ---- numbers of new tasks

-- of two causes the second is none either
after_cause : (b : Bool) (cause : Refusal) (others : Option Refusal) → first_cause b cause others ≡ None → others ≡ None
after_cause true cause others e = cc
after_cause false cause others e = e

-- a new task's number is no task's
pub spawn_unused : (s : State) (t g : ℕ) → spawn_refusal s t g ≡ None → task_at s.tasks t ≡ None
spawn_unused s t g none = not_used s.tasks t (after_cause (bars_tasks s.tree g) Busy _ (after_cause (not (is_live s.tree g)) NoEntry _ none))

pub fork_unused : (s : State) (slot : Option Task) (child : ℕ) → there_and is_live_task slot ≡ true → task_refusal slot (number_refusal s.tasks child) ≡ None → task_at s.tasks child ≡ None
fork_unused s None child lives_on none = cc
fork_unused s (Some task) child lives_on none = by_life task.life lives_on none
  where
    by_life : (life : Life) → is_live_life life ≡ true → life_refusal life (number_refusal s.tasks child) ≡ None → task_at s.tasks child ≡ None
    by_life Live is e = not_used s.tasks child e
    by_life Exited is e = cc
    by_life Killed is e = cc

-- ---- steps

-- each page of memory that is in no transfer is shown by some place
abbrev pub AreMapped : PageTables → Pages → Type 0
AreMapped tables pages = (p : ℕ) (page : Page) → page_at pages p ≡ Some page → is_anon page.content ≡ true → in_transfer_at page.residence ≡ false → 1 ≤ mappers tables p

module _ (old new : State) (alive : AllLive old.page_tables old.tasks) (mapped : AreMapped old.page_tables old.pages) where
  same_mapped : new.pages ≡ old.pages → new.page_tables ≡ old.page_tables → AreMapped new.page_tables new.pages
  same_mapped pages tables = subst (λ (ps : Pages). AreMapped new.page_tables ps) (sym pages) (subst (λ (ts : PageTables). AreMapped ts old.pages) (sym tables) mapped)

  -- the places of all tasks but one, which showed nothing, show what they did
  tables_grow : (t : ℕ) → task_at old.tasks t ≡ None → ((u w : ℕ) → u ≢ t → mapped_at new.page_tables u w ≡ mapped_at old.page_tables u w) → new.pages ≡ old.pages → AreMapped new.page_tables new.pages
  tables_grow t none others pages = subst (λ (ps : Pages). AreMapped new.page_tables ps) (sym pages) (λ p page there memory settled. still_shown p (mappers_some old.page_tables p (mapped p page there memory settled)))
    where
      still_shown : (p : ℕ) → Mapper old.page_tables p → 1 ≤ mappers new.page_tables p
      still_shown p by = mapped_at-mappers new.page_tables by.task by.place p (others by.task by.place another ∙ by.mapped)
        where
          another : by.task ≢ t
          another same = unlike (lives old.tasks by.task) (alive by.task by.place p by.mapped) (ap (lives old.tasks) same ∙ ap (there_and is_live_task) none)

  -- what is left after the pages that nothing maps are gone
  stilled : ((p : ℕ) → page_at new.pages p ≡ still new.page_tables p (page_at old.pages p)) → AreMapped new.page_tables new.pages
  stilled pages p page there memory settled = by_slot (page_at old.pages p) (sym (pages p) ∙ there)
    where
      by_tests : (q : Page) (a b c : Bool) → is_anon q.content ≡ a → (mappers new.page_tables p == 0) ≡ b → in_transfer_at q.residence ≡ c → cond (a && (b && not c)) None (Some q) ≡ Some page → 1 ≤ mappers new.page_tables p
      by_tests q true true false anon none moves e = cc
      by_tests q true true true anon none moves e = unlike (in_transfer_at q.residence) moves (ap (λ (o : Page). in_transfer_at o.residence) (some_inj e) ∙ settled)
      by_tests q true false c anon none moves e = grind (arith, nat_tests)
      by_tests q false b c anon none moves e = unlike (is_anon q.content) (ap (λ (o : Page). is_anon o.content) (some_inj e) ∙ memory) anon

      by_slot : (slot : Option Page) → still new.page_tables p slot ≡ Some page → 1 ≤ mappers new.page_tables p
      by_slot None e = cc
      by_slot (Some q) e = by_tests q (is_anon q.content) (mappers new.page_tables p == 0) (in_transfer_at q.residence) refl refl refl e

  -- one page changes, and no place
  one_mapped : (q : ℕ) (to : Option Page) → Changes old.pages new.pages q to → new.page_tables ≡ old.page_tables
      → ((page : Page) → to ≡ Some page → is_anon page.content ≡ true → in_transfer_at page.residence ≡ false → 1 ≤ mappers old.page_tables q) → AreMapped new.page_tables new.pages
  one_mapped q to changes tables here p page there memory settled =
      subst (λ (ts : PageTables). 1 ≤ mappers ts p) (sym tables)
      (elim (eq_cases p q) [
        | inl same ↦ subst (λ (i : ℕ). 1 ≤ mappers old.page_tables i) (sym same) (here page (sym changes.changed ∙ ap (page_at new.pages) (sym same) ∙ there) memory settled)
        | inr other ↦ mapped p page (sym (changes.others p other) ∙ there) memory settled
      ])

  did_mapped : (what : Event) (answer : Reply) → refusal old what ≡ None → Did old what answer new → AreMapped new.page_tables new.pages
  did_mapped what answer none (Kept limits flags counted e) = same_mapped (ap (λ (s : State). s.pages) e) (ap (λ (s : State). s.page_tables) e)
  did_mapped what answer none (Made t v p frame access out lives_t shared within free unused placed shown e) = made
    where
      made : AreMapped new.page_tables new.pages
      made q page there memory settled =
          elim (eq_cases q p) [
            | inl same ↦ mapped_at-mappers new.page_tables t v q (shown.changed ∙ ap (λ (x : ℕ). Some x) (sym same))
            | inr other ↦ kept (mapped q page (sym (placed.others q other) ∙ there) memory settled) (is_number (mapped_at old.page_tables t v) q) refl
          ]
        where
          kept : 1 ≤ mappers old.page_tables q → (b : Bool) → is_number (mapped_at old.page_tables t v) q ≡ b → 1 ≤ mappers new.page_tables q
          kept one true is =
              let counts = mappers-shows old.page_tables new.page_tables t v q (Some p) shown in
              let two = shared q (numbered (mapped_at old.page_tables t v) q is) in
              let here : shown_once (mapped_at old.page_tables t v) q ≡ 1 = ap one_if is in
              grind (arith, nat_tests)
          kept one false is =
              let counts = mappers-shows old.page_tables new.page_tables t v q (Some p) shown in
              let here : shown_once (mapped_at old.page_tables t v) q ≡ 0 = ap one_if is in
              omega (arith, counts, here, one)
  did_mapped what answer none (Moved p page to dirty now counted there whose placed moves stays e) = one_mapped p _ placed (ap (λ (s : State). s.page_tables) e) here
    where
      by_flight : (b : Bool) → in_transfer_at page.residence ≡ b → is_anon page.content ≡ true → 1 ≤ mappers old.page_tables p
      by_flight true moving memory = (let some = stays moving memory in grind (arith, nat_tests))
      by_flight false settled memory = mapped p page there memory settled

      here : (after : Page) → Some (record { content = page.content; group = to; dirty = dirty; residence = now }) ≡ Some after → is_anon after.content ≡ true → in_transfer_at after.residence ≡ false
          → 1 ≤ mappers old.page_tables p
      here after is memory settled = by_flight (in_transfer_at page.residence) refl (ap (λ (x : Page). is_anon x.content) (some_inj is) ∙ memory)
  did_mapped what answer none (Cached t f q p frame ticket access out lives_t unread within free unused fresh filed placed e) =
      one_mapped p _ placed (ap (λ (s : State). s.page_tables) e) (λ after is memory settled. absurd (let file : true ≡ false = ap (λ (x : Page). in_transfer_at x.residence) (some_inj is) ∙ settled in cc))
  did_mapped what answer none (Dropped p page counted out there may_go went gone e) = one_mapped p None gone (ap (λ (s : State). s.page_tables) e) (λ after is memory settled. cc)
  did_mapped what answer none (Ended is_gone ending counted out dead ends) = stilled ends.pages
  did_mapped what answer none (Spawned t g is sets shown e) =
      tables_grow t.0 (spawn_unused old t.0 g.0 (sym (ap (refusal old) is) ∙ none)) shown.others (ap (λ (s : State). s.pages) e)
  did_mapped what answer none (Forked t child is out lives_t sets copies e) =
      tables_grow child.0 (fork_unused old (task_at old.tasks t.0) child.0 lives_t (sym (ap (refusal old) is) ∙ none)) copies.others (ap (λ (s : State). s.pages) e)
  did_mapped what answer none (Freed t v is out lives_t frees) = stilled frees.pages
  did_mapped what answer none (Attached t g is out sets e) = same_mapped (ap (λ (s : State). s.pages) e) (ap (λ (s : State). s.page_tables) e)
  did_mapped what answer none (Removed g is out removes) = removed
    where
      removed : AreMapped new.page_tables new.pages
      removed p page there memory settled =
          let was = regrouped-was old.opening.placement g.0 removes.parent (page_at old.pages p) page (sym (removes.pages p) ∙ there) in
          subst (λ (tables : PageTables). 1 ≤ mappers tables p) (sym (ap (λ (s : State). s.page_tables) removes.state))
          (mapped p was.0 was.1 (sym (ap (λ (x : Page). is_anon x.content) was.2) ∙ memory) (sym (ap (λ (x : Page). in_transfer_at x.residence) was.2) ∙ settled))
  did_mapped what answer none (Grown path is out e) = same_mapped (ap (λ (s : State). s.pages) e) (ap (λ (s : State). s.page_tables) e)

-- in whatever state a legal history ends, each page of memory that is in no transfer is shown by some place
pub legal-mapped : (opening : Opening) (history : List Entry) (s : State) → Legal opening history s → AreMapped s.page_tables s.pages
legal-mapped opening [] s legal = subst (λ (x : State). AreMapped x.page_tables x.pages) (sym legal) (λ p page there memory settled. cc)
legal-mapped opening (entry ∷ earlier) s legal =
    did_mapped legal.0 s (legal-live opening earlier legal.0 legal.1) (legal-mapped opening earlier legal.0 legal.1) entry.event entry.reply legal.2.unrefused
    (step_did legal.0 s entry.event entry.reply legal.2.steps)

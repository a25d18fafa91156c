-- How many transfers are in flight after a step and after a history, and that the trace has room for their ends.
use Rattle.std.proofs.Common.{◌≡◌, inl, inr, ℕ, ◌+◌, ◌≤◌, ◌==◌, ◌&&◌, not, Bool, true, false, cond, List, [], ◌∷◌, length, Option, Some, None, refl, sym, ap, ◌∙◌, subst, arith}
use Rattle.std.specs.Prelude.{MatchBool, if◌then◌else◌, is_none, nat_lt}
use Rattle.std.proofs.lemmas.Bool.Decides.{nat_tests}
use Rattle.std.proofs.lemmas.List.Sums.{sum_by-cons}
use Rattle.machine.specs.declared.record.EventCounts.{EventCounts}
use Rattle.machine.specs.declared.record.Life.{Life}
use Rattle.machine.specs.declared.record.Life.TheVariants.{Live, Exited, Killed}
use Rattle.machine.specs.declared.record.Task.{Task}
use Rattle.machine.specs.declared.entry.Entry.{Entry}
use Rattle.machine.specs.declared.event.Cause.{Cause}
use Rattle.machine.specs.declared.event.Op.{Op}
use Rattle.machine.specs.declared.event.Op.TheVariants.{Read, Write}
use Rattle.machine.specs.declared.event.Place.{Place}
use Rattle.machine.specs.declared.event.Place.TheVariants.{Virtual, File}
use Rattle.machine.specs.declared.event.Event.{Event}
use Rattle.machine.specs.declared.event.Event.TheVariants as event
use Rattle.machine.specs.declared.id.TaskId.{TaskId}
use Rattle.machine.specs.declared.reply.Reply.{Reply}
use Rattle.machine.specs.declared.reply.Reply.TheVariants as reply
use Rattle.machine.specs.Slots.{Changes, there_and}
use Rattle.machine.specs.Pages.{Content, Memory, OfFile, Residence, Held, Coming, Going, Away, Page, page_at, is_anon, in_transfer_at, is_in_transfer, in_transfer}
use Rattle.machine.specs.Tasks.{PageTables, mappers, task_at}
use Rattle.machine.specs.State.{Opening, State, over_in, is_frame_free}
use Rattle.machine.specs.Access.{Meeting, Unmapped, Hits, Transferring, NeedsPage, NeedsCopy, NeedsSwapIn, NeedsRead, Dangling, charges, is_fetch, meets}
use Rattle.machine.specs.Reclaim.{counted_at_take, has_takeable, has_transfer, stands, target_of}
use Rattle.machine.specs.Call.{is_granted, meeting_fetches, life_fetches, task_fetches, fetches, need, leaves_entry}
use Rattle.machine.specs.Step.{ChargeStep, TriesCharge, MakesPage, StartsFetch, ReadsFile, HitStep, UnmappedStep, MeetStep, LifeStep, TaskStep, StartsLeave, Drops, LeavesBy, LeavesFrom, Takes, ReclaimStep, KillStep, RelieveStep, still, EndsTransfer, touched, Step}
use Rattle.machine.proofs.SlotLemmas.{one_if, count_there-changes}
use Rattle.machine.proofs.TestLemmas.{count-less}
use Rattle.legal.proofs.Did.{setting-is}
use Rattle.legal.proofs.SoundLemmas.{still_passes}
use Rattle.legal.proofs.MoveLemmas.{MetFile, met_file, Settled, hits_held, swaps_away, in_frame-cases, on_block-cases}
use Rattle.legal.proofs.OpeningLemmas.{step_opening}
use Rattle.legal.proofs.RemovedCounts.{in_transfer-removed}
use Rattle.machine.specs.Legal.{Legal}
use Rattle.machine.specs.Transfers.{begins_transfer, ends_transfer, transfers_begun, transfers_ended}

by_test : {P Q R : Type 0} (b : Bool) → (P → R) → (Q → R) → MatchBool b P Q → R
by_test true f g h = f h
by_test false f g h = g h

-- ---- one step

-- the step leaves so many transfers in flight, and its need was that of its entry and of the end of what it began
record Flies (old : State) (what : Event) (answer : Reply) (new : State) : Type 0 where
  pub counts : in_transfer new.pages + one_if (ends_transfer what) ≡ in_transfer old.pages + one_if (begins_transfer answer)
  pub room : one_if (leaves_entry what) + one_if (begins_transfer answer) ≤ need old what + one_if (ends_transfer what)

-- what stands at a number adds this
abbrev flying : Option Page → ℕ
flying slot = one_if (there_and is_in_transfer slot)

one_if-most : (b : Bool) → one_if b ≤ 1
one_if-most true = omega arith
one_if-most false = omega arith

need-either : (b : Bool) → 1 ≤ (if b then 2 else 1)
need-either true = omega arith
need-either false = omega arith

-- an entry is needed for all that leave one but the end of a transfer
need-some : (s : State) (what : Event) → ends_transfer what ≡ false → one_if (leaves_entry what) ≤ need s what
need-some s (event.Access t place op) e = need-either (fetches s t.0 place op)
need-some s (event.Relieve why) e = need-either (stands s why && has_takeable s (target_of why))
need-some s (event.ReclaimOne g) e = need-either (has_takeable s g.0)
need-some s (event.Arrived ticket bytes) e = cc
need-some s (event.FetchFailed ticket) e = cc
need-some s (event.Left ticket) e = cc
need-some s (event.LeaveFailed ticket) e = cc
need-some s (event.MergeMarks word bits) e = omega arith
need-some s what e = omega arith

-- a page in transfer outlives the end of a task
still_flies : (tables : PageTables) (p : ℕ) (slot : Option Page) → there_and is_in_transfer slot ≡ true → there_and is_in_transfer (still tables p slot) ≡ true
still_flies tables p None e = e
still_flies tables p (Some page) e = by_tests (is_anon page.content) (mappers tables p == 0) (in_transfer_at page.residence) e
  where
    by_tests : (a b c : Bool) → c ≡ true → there_and is_in_transfer (cond (a && (b && not c)) None (Some page)) ≡ true
    by_tests a b false is = cc
    by_tests true true true is = e
    by_tests true false true is = e
    by_tests false b true is = e

module _ (old new : State) where
  -- one page changes
  one_changes : (p : ℕ) (slot to : Option Page) → page_at old.pages p ≡ slot → Changes old.pages new.pages p to → in_transfer new.pages + flying slot ≡ in_transfer old.pages + flying to
  one_changes p slot to there changes =
      let both = count_there-changes is_in_transfer old.pages new.pages p to changes in
      let stood : flying (page_at old.pages p) ≡ flying slot = ap flying there in
      omega (arith, both, stood)

  -- none begins or ends
  quiet : (what : Event) (answer : Reply) → ends_transfer what ≡ false → begins_transfer answer ≡ false → in_transfer new.pages ≡ in_transfer old.pages → Flies old what answer new
  quiet what answer other none same =
      let some = need-some old what other in
      let no_end : one_if (ends_transfer what) ≡ 0 = ap one_if other in
      let no_begin : one_if (begins_transfer answer) ≡ 0 = ap one_if none in
      record { counts = omega (arith, same, no_end, no_begin); room = omega (arith, some, no_begin) }

  -- no page changes
  same_pages : (what : Event) (answer : Reply) → ends_transfer what ≡ false → begins_transfer answer ≡ false → new.pages ≡ old.pages → Flies old what answer new
  same_pages what answer other none same = quiet what answer other none (ap in_transfer same)

  -- one may begin, for which there was need
  may_begin : (what : Event) (answer : Reply) → ends_transfer what ≡ false → need old what ≡ 2 → in_transfer new.pages ≡ in_transfer old.pages + one_if (begins_transfer answer) → Flies old what answer new
  may_begin what answer other needs more =
      let no_end : one_if (ends_transfer what) ≡ 0 = ap one_if other in
      let most = one_if-most (begins_transfer answer) in
      let entry = one_if-most (leaves_entry what) in
      record { counts = omega (arith, more, no_end); room = omega (arith, needs, most, entry) }

  -- ---- accesses

  module _ (t : TaskId) (place : Place) (op : Op) where
    -- where a charge is needed
    charged : (g : ℕ) (Granted : Type 0) (answer : Reply) → (over_in old g ≡ None → is_frame_free old ≡ true → Granted → Flies old (event.Access t place op) answer new) → TriesCharge old g Granted answer new
        → Flies old (event.Access t place op) answer new
    charged g Granted answer granted step = by_over (over_in old g) refl step
      where
        by_free : (free : Bool) → over_in old g ≡ None → is_frame_free old ≡ free → ChargeStep old None free Granted answer new → Flies old (event.Access t place op) answer new
        by_free true within is h = granted within is h
        by_free false within is h = same_pages _ answer refl (ap begins_transfer h.0) (ap (λ (s : State). s.pages) h.1)

        by_over : (low : Option ℕ) → over_in old g ≡ low → ChargeStep old low (is_frame_free old) Granted answer new → Flies old (event.Access t place op) answer new
        by_over (Some low) is h = same_pages _ answer refl (ap begins_transfer h.0) (ap (λ (s : State). s.pages) h.1)
        by_over None is h = by_free (is_frame_free old) is refl h

    unmapped : (answer : Reply) → UnmappedStep old answer new → Flies old (event.Access t place op) answer new
    unmapped (reply.Done byte hit) h = same_pages _ (reply.Done byte hit) refl refl (ap (λ (s : State). s.pages) h.1)
    unmapped answer h = absurd h

    hit : (p frame : ℕ) (page : Page) (done : Op) (answer : Reply) → page_at old.pages p ≡ Some page → HitStep old p page frame done answer new → Flies old (event.Access t place op) answer new
    hit p frame page Read (reply.Done byte at) there h = same_pages _ (reply.Done byte at) refl refl (ap (λ (s : State). s.pages) h.1)
    hit p frame page (Write b) (reply.Done byte at) there h =
        let one = one_changes p (Some page) (Some (touched page (Write b))) there h.2 in
        let same : flying (Some (touched page (Write b))) ≡ flying (Some page) = refl in
        quiet _ (reply.Done byte at) refl refl (omega (arith, one, same))
    hit p frame page done answer there h = absurd h

    makes : (w g : ℕ) (answer : Reply) → MakesPage old t.0 w g op answer new → Flies old (event.Access t place op) answer new
    makes w g answer h = let one = one_changes h.page None _ h.slot_free h.placed in quiet _ answer refl (ap begins_transfer h.answers) (omega (arith, one))

    -- a page begins to be read in: that is what was needed for
    swaps_in : (p g block : ℕ) (page : Page) (answer : Reply) → page_at old.pages p ≡ Some page → page.residence ≡ Away block → fetches old t.0 place op ≡ true
        → StartsFetch old p g page.content block answer new → Flies old (event.Access t place op) answer new
    swaps_in p g block page answer there away fetch h =
        let one = one_changes p (Some page) _ there h.placed in
        let none : flying (Some page) ≡ 0 = ap (λ r. one_if (in_transfer_at r)) away in
        let begins : one_if (begins_transfer answer) ≡ 1 = ap (λ a. one_if (begins_transfer a)) h.answers in
        may_begin _ answer refl (ap (λ b. if b then 2 else 1) fetch) (omega (arith, one, none, begins))

    -- so does a page of a file
    reads_in : (file q g : ℕ) (answer : Reply) → fetches old t.0 place op ≡ true → ReadsFile old file q g answer new → Flies old (event.Access t place op) answer new
    reads_in file q g answer fetch h =
        let one = one_changes h.page None _ h.slot_free h.fetch.placed in
        let begins : one_if (begins_transfer answer) ≡ 1 = ap (λ a. one_if (begins_transfer a)) h.fetch.answers in
        may_begin _ answer refl (ap (λ b. if b then 2 else 1) fetch) (omega (arith, one, begins))

    -- it is known before that a page will be read in
    fetches-known : (task : Task) (met : Meeting) (g : ℕ) → task_at old.tasks t.0 ≡ Some task → task.life ≡ Live → meets old t.0 place op ≡ met → is_fetch met ≡ true
        → charges old.opening.placement met task.group.0 ≡ Some g → over_in old g ≡ None → is_frame_free old ≡ true → fetches old t.0 place op ≡ true
    fetches-known task met g known live is fetch charge within free =
        ap (task_fetches old t.0 place op) known
        ∙ ap (life_fetches old t.0 place op task) live
        ∙ ap (meeting_fetches old task.group.0) is
        ∙ ap (λ (b : Bool). b && is_granted old (charges old.opening.placement met task.group.0)) fetch
        ∙ ap (is_granted old) charge
        ∙ ap (λ (low : Option ℕ). is_none low && is_frame_free old) within
        ∙ free

    -- a page that is to be swapped in stands on its block
    away_at : (p : ℕ) (page : Page) (block : ℕ) → meets old t.0 place op ≡ NeedsSwapIn p page block → (page_at old.pages p ≡ Some page) × (page.residence ≡ Away block)
    away_at p page block is = by_place place is
      where
        by_place : (at : Place) → meets old t.0 at op ≡ NeedsSwapIn p page block → (page_at old.pages p ≡ Some page) × (page.residence ≡ Away block)
        by_place (Virtual v o) e = let found = swaps_away old t.0 v o op p page block e in (found.0, found.1)
        by_place (File f q o) e = absurd (subst (MetFile old f q) e (met_file old t.0 f q o op))

    meeting : (task : Task) (answer : Reply) (met : Meeting) → task_at old.tasks t.0 ≡ Some task → task.life ≡ Live → meets old t.0 place op ≡ met → MeetStep old t.0 task.group.0 op met answer new
        → Flies old (event.Access t place op) answer new
    meeting task answer Unmapped known live is h = unmapped answer h
    meeting task answer (Hits p page frame) known live is h = hit p frame page op answer (hits_held old t.0 place op p page frame is).0 h
    meeting task answer Transferring known live is h = same_pages _ answer refl (ap begins_transfer h.0) (ap (λ (s : State). s.pages) h.1)
    meeting task answer (NeedsPage w) known live is h = charged task.group.0 _ answer (λ within free made. makes w task.group.0 answer made) h
    meeting task answer (NeedsCopy w) known live is h = charged task.group.0 _ answer (λ within free made. makes w task.group.0 answer made) h
    meeting task answer (NeedsSwapIn p page block) known live is h =
        let found = away_at p page block is in
        charged _ _ answer
        (λ within free begun. swaps_in p _ block page answer found.0 found.1 (fetches-known task (NeedsSwapIn p page block) _ known live is refl refl within free) begun) h
    meeting task answer (NeedsRead file q) known live is h =
        charged task.group.0 _ answer (λ within free begun. reads_in file q task.group.0 answer (fetches-known task (NeedsRead file q) task.group.0 known live is refl refl within free) begun) h
    meeting task answer Dangling known live is h = absurd h

    accesses : (answer : Reply) → Step old (event.Access t place op) answer new → Flies old (event.Access t place op) answer new
    accesses answer step = by_slot (task_at old.tasks t.0) refl step
      where
        by_life : (task : Task) (life : Life) → task_at old.tasks t.0 ≡ Some task → task.life ≡ life → LifeStep old life (MeetStep old t.0 task.group.0 op (meets old t.0 place op) answer new) answer new
            → Flies old (event.Access t place op) answer new
        by_life task Live known is h = meeting task answer (meets old t.0 place op) known is refl h
        by_life task Exited known is h = absurd h
        by_life task Killed known is h = same_pages _ answer refl (ap begins_transfer h.0) (ap (λ (s : State). s.pages) h.1)

        by_slot : (slot : Option Task) → task_at old.tasks t.0 ≡ slot → TaskStep old slot (λ task. MeetStep old t.0 task.group.0 op (meets old t.0 place op) answer new) answer new
            → Flies old (event.Access t place op) answer new
        by_slot None known h = absurd h
        by_slot (Some task) known h = by_life task task.life known refl h

  -- ---- reclaims and ends of tasks

  -- a page leaves: it begins to be written out, or is gone
  sent : (p frame block : ℕ) (page : Page) (counted : List EventCounts) (answer : Reply) → page_at old.pages p ≡ Some page → page.residence ≡ Held frame → StartsLeave old p page frame block counted answer new
      → in_transfer new.pages ≡ in_transfer old.pages + one_if (begins_transfer answer)
  sent p frame block page counted answer there held h =
      let one = one_changes p (Some page) _ there h.placed in
      let none : flying (Some page) ≡ 0 = ap (λ r. one_if (in_transfer_at r)) held in
      let begins : one_if (begins_transfer answer) ≡ 1 = ap (λ a. one_if (begins_transfer a)) h.answers in
      omega (arith, one, none, begins)

  dropped : (p frame : ℕ) (page : Page) (counted : List EventCounts) (answer : Reply) → page_at old.pages p ≡ Some page → page.residence ≡ Held frame → Drops old p counted answer new
      → in_transfer new.pages ≡ in_transfer old.pages + one_if (begins_transfer answer)
  dropped p frame page counted answer there held h =
      let one = one_changes p (Some page) None there h.gone in
      let none : flying (Some page) ≡ 0 = ap (λ r. one_if (in_transfer_at r)) held in
      let begins : one_if (begins_transfer answer) ≡ 0 = ap (λ a. one_if (begins_transfer a)) h.answers in
      omega (arith, one, none, begins)

  takes : (target : ℕ) (answer : Reply) → Takes old target answer new → in_transfer new.pages ≡ in_transfer old.pages + one_if (begins_transfer answer)
  takes target answer h = by_residence h.page.residence refl h.leaves
    where
      by_content : (frame : ℕ) (content : Content) → h.page.residence ≡ Held frame → LeavesBy old h.p h.page content frame (counted_at_take old target h.page.group) answer new → in_transfer new.pages ≡ in_transfer old.pages + one_if (begins_transfer answer)
      by_content frame Memory held k = sent h.p frame k.block h.page _ answer h.there held k.leave
      by_content frame (OfFile file q) held k = by_test h.page.dirty (sent h.p frame _ h.page _ answer h.there held) (dropped h.p frame h.page _ answer h.there held) k

      by_residence : (r : Residence) → h.page.residence ≡ r → LeavesFrom old h.p h.page r (counted_at_take old target h.page.group) answer new → in_transfer new.pages ≡ in_transfer old.pages + one_if (begins_transfer answer)
      by_residence (Held frame) held k = by_content frame h.page.content held k
      by_residence (Coming frame block ticket) held k = absurd k
      by_residence (Going frame block ticket) held k = absurd k
      by_residence (Away block) held k = absurd k

  -- the pages in transfer stay where others go that nothing maps any more
  pages_still : (what : Event) (answer : Reply) → ends_transfer what ≡ false → begins_transfer answer ≡ false → ((p : ℕ) → page_at new.pages p ≡ still new.page_tables p (page_at old.pages p)) → Flies old what answer new
  pages_still what answer other none pages =
      let fewer = count-less is_in_transfer old.pages new.pages (λ n e. still_passes new.page_tables n is_in_transfer (page_at old.pages n) (sym (ap (there_and is_in_transfer) (pages n)) ∙ e)) in
      let more = count-less is_in_transfer new.pages old.pages (λ n e. ap (there_and is_in_transfer) (pages n) ∙ still_flies new.page_tables n (page_at old.pages n) e) in
      quiet what answer other none (omega (arith, fewer, more))

  kills : (why : Cause) (limit : ℕ) (answer : Reply) → KillStep old limit answer new → Flies old (event.Relieve why) answer new
  kills why limit (reply.KilledTask t) h = pages_still (event.Relieve why) (reply.KilledTask t) refl refl h.2.pages
  kills why limit (reply.KilledAll victim g tasks) h = pages_still (event.Relieve why) (reply.KilledAll victim g tasks) refl refl h.3.pages
  kills why limit reply.NoVictim h = same_pages (event.Relieve why) reply.NoVictim refl refl (ap (λ (s : State). s.pages) h.1)
  kills why limit answer h = absurd h

  -- a page is taken, for which there was need, or none can be
  reclaims : (what : Event) (target : ℕ) (Idle : Type 0) (answer : Reply) → ends_transfer what ≡ false → (has_takeable old target ≡ true → need old what ≡ 2) → (Idle → Flies old what answer new)
      → ReclaimStep old target Idle answer new → Flies old what answer new
  reclaims what target Idle answer other needs idle step = by_takeable (has_takeable old target) refl step
    where
      by_takeable : (b : Bool) → has_takeable old target ≡ b → MatchBool b (Takes old target answer new) (MatchBool (has_transfer old target) ((answer ≡ reply.Wait) × (new ≡ old)) Idle) → Flies old what answer new
      by_takeable true is h = may_begin what answer other (needs is) (takes target answer h)
      by_takeable false is h = by_test (has_transfer old target) (λ w. same_pages what answer other (ap begins_transfer w.0) (ap (λ (s : State). s.pages) w.1)) idle h

  relieves : (why : Cause) (answer : Reply) → RelieveStep old why answer new → Flies old (event.Relieve why) answer new
  relieves why answer step = by_standing (stands old why) refl step
    where
      by_standing : (b : Bool) → stands old why ≡ b → MatchBool b (ReclaimStep old (target_of why) (KillStep old (target_of why) answer new) answer new) ((answer ≡ reply.Room) × (new ≡ old)) → Flies old (event.Relieve why) answer new
      by_standing true is h =
          reclaims (event.Relieve why) (target_of why) _ answer refl (λ some. ap (λ b. if b && has_takeable old (target_of why) then 2 else 1) is ∙ ap (λ b. if b then 2 else 1) some) (kills why (target_of why) answer) h
      by_standing false is h = same_pages (event.Relieve why) answer refl (ap begins_transfer h.0) (ap (λ (s : State). s.pages) h.1)

  -- an event of a task
  of_task : (what : Event) (answer : Reply) (slot : Option Task) (Live_step : Task → Type 0) → ends_transfer what ≡ false → ((task : Task) → Live_step task → Flies old what answer new) → TaskStep old slot Live_step answer new
      → Flies old what answer new
  of_task what answer None Live_step other living h = absurd h
  of_task what answer (Some task) Live_step other living h = by_life task.life h
    where
      by_life : (life : Life) → LifeStep old life (Live_step task) answer new → Flies old what answer new
      by_life Live k = living task k
      by_life Exited k = absurd k
      by_life Killed k = same_pages what answer other (ap begins_transfer k.0) (ap (λ (s : State). s.pages) k.1)

  -- ---- ends of transfers

  settles : (what : Event) (answer : Reply) (from settled : ℕ → ℕ → Residence) (to : PageTables → ℕ → Page → ℕ → ℕ → Option Page) → ends_transfer what ≡ true → ((frame block : ℕ) → in_transfer_at (from frame block) ≡ true)
      → ((frame block : ℕ) → in_transfer_at (settled frame block) ≡ false)
      → ((tables : PageTables) (q : ℕ) (page : Page) (frame block : ℕ) → Settled tables q page (to tables q page frame block) (record page { residence = settled frame block })) → EndsTransfer old from to answer new
      → Flies old what answer new
  settles what answer from settled to ends flies lands cases h =
      let one = one_changes h.p (Some h.page) (to old.page_tables h.p h.page h.frame h.block) h.there h.placed in
      let flew : flying (Some h.page) ≡ 1 = ap (λ r. one_if (in_transfer_at r)) h.moves ∙ ap one_if (flies h.frame h.block) in
      let rests : flying (to old.page_tables h.p h.page h.frame h.block) ≡ 0 =
      elim (cases old.page_tables h.p h.page h.frame h.block) [
        | inl none ↦ ap flying none.0
        | inr some ↦ ap flying some.0 ∙ ap one_if (lands h.frame h.block)
      ] in
      let end : one_if (ends_transfer what) ≡ 1 = ap one_if ends in
      let no_begin : one_if (begins_transfer answer) ≡ 0 = ap (λ a. one_if (begins_transfer a)) h.answers in
      let entry = one_if-most (leaves_entry what) in
      record { counts = omega (arith, one, flew, rests, end, no_begin); room = omega (arith, end, no_begin, entry) }

step_flies : (old new : State) (what : Event) (answer : Reply) → Step old what answer new → Flies old what answer new
step_flies old new (event.Access t place op) answer h = accesses old new t place op answer h
step_flies old new (event.Arrived ticket bytes) answer h = settles old new _ answer _ (λ frame block. Held frame) _ refl (λ frame block. refl) (λ frame block. refl) in_frame-cases h
step_flies old new (event.FetchFailed ticket) answer h = settles old new _ answer _ (λ frame block. Away block) _ refl (λ frame block. refl) (λ frame block. refl) on_block-cases h
step_flies old new (event.Left ticket) answer h = settles old new _ answer _ (λ frame block. Away block) _ refl (λ frame block. refl) (λ frame block. refl) on_block-cases h
step_flies old new (event.LeaveFailed ticket) answer h = settles old new _ answer _ (λ frame block. Held frame) _ refl (λ frame block. refl) (λ frame block. refl) in_frame-cases h
step_flies old new (event.Relieve why) answer h = relieves old new why answer h
step_flies old new (event.ReclaimOne g) answer h =
    reclaims old new (event.ReclaimOne g) g.0 _ answer refl (λ some. ap (λ b. if b then 2 else 1) some) (λ n. same_pages old new _ answer refl (ap begins_transfer n.0) (ap (λ (s : State). s.pages) n.1)) h
step_flies old new (event.Spawn t g) reply.Ok h = same_pages old new _ reply.Ok refl refl (ap (λ (s : State). s.pages) h.2)
step_flies old new (event.Fork t child) answer h =
    of_task old new (event.Fork t child) answer (task_at old.tasks t.0) _ refl (λ task k. same_pages old new (event.Fork t child) answer refl (ap begins_transfer k.0) (ap (λ (s : State). s.pages) k.3)) h
step_flies old new (event.Exit t) answer h =
    of_task old new (event.Exit t) answer (task_at old.tasks t.0) _ refl (λ task k. pages_still old new (event.Exit t) answer refl (ap begins_transfer k.0) k.1.pages) h
step_flies old new (event.Free t v) answer h =
    of_task old new (event.Free t v) answer (task_at old.tasks t.0) _ refl (λ task k. pages_still old new (event.Free t v) answer refl (ap begins_transfer k.answers) k.pages) h
step_flies old new (event.Attach t g) reply.Ok h = same_pages old new (event.Attach t g) reply.Ok refl refl (ap (λ (s : State). s.pages) h.1)
step_flies old new (event.Mkdir path) reply.Ok h = same_pages old new _ reply.Ok refl refl (ap (λ (s : State). s.pages) h)
step_flies old new (event.Rmdir g) reply.Ok h = quiet old new (event.Rmdir g) reply.Ok refl refl (in_transfer-removed old new g.0 h)
step_flies old new (event.Set g what) reply.Ok h = same_pages old new _ reply.Ok refl refl (ap (λ (s : State). s.pages) (h ∙ setting-is old g.0 what))
step_flies old new (event.Show what) (reply.Shown numbers) h = same_pages old new _ (reply.Shown numbers) refl refl (ap (λ (s : State). s.pages) h.1)
step_flies old new (event.MergeMarks word bits) reply.Ok h = same_pages old new (event.MergeMarks word bits) reply.Ok refl refl (ap (λ (s : State). s.pages) h)
step_flies old new what answer h = absurd h

-- ---- legal histories

-- the entries, and those kept for the ends of the transfers in flight, are within the trace's limit
pub legal-room : (opening : Opening) (history : List Entry) (s : State) → Legal opening history s → length history + in_transfer s.pages ≤ s.opening.trace_limit
legal-room opening [] s legal = subst (λ (s : State). 0 + in_transfer s.pages ≤ s.opening.trace_limit) (sym legal) (omega arith)
legal-room opening (entry ∷ earlier) s legal =
    let before : State = legal.0 in
    let flies = step_flies before s entry.event entry.reply legal.2.steps in
    let limit : s.opening.trace_limit ≡ before.opening.trace_limit = ap (λ (o : Opening). o.trace_limit) (step_opening before entry.event entry.reply s legal.2.steps) in
    let room : length earlier + in_transfer before.pages + need before entry.event ≤ before.opening.trace_limit = within (length earlier + in_transfer before.pages + need before entry.event) before.opening.trace_limit legal.2.room in
    let entry : one_if (leaves_entry entry.event) ≡ 1 = ap one_if legal.2.kept in
    omega (arith, flies.counts, flies.room, limit, room, entry)
  where
    within : (n most : ℕ) → nat_lt most n ≡ false → n ≤ most
    within n most e = grind (arith, nat_tests, e)

-- as many transfers are in flight as were begun and have not ended
pub legal-transfers : (opening : Opening) (history : List Entry) (s : State) → Legal opening history s → in_transfer s.pages + transfers_ended history ≡ transfers_begun history
legal-transfers opening [] s legal = subst (λ (s : State). in_transfer s.pages + transfers_ended [] ≡ transfers_begun []) (sym legal) refl
legal-transfers opening (entry ∷ earlier) s legal =
    let flies = step_flies legal.0 s entry.event entry.reply legal.2.steps in
    let rest = legal-transfers opening earlier legal.0 legal.1 in
    let more = sum_by-cons (λ (e : Entry). one_if (begins_transfer e.reply)) entry earlier in
    let more' = sum_by-cons (λ (e : Entry). one_if (ends_transfer e.event)) entry earlier in
    omega (arith, flies.counts, rest, more, more')

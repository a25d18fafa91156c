-- Whose pages a reclaim takes, and what it does where it takes none.
use Rattle.std.proofs.Common.{◌≡◌, inl, inr, ℕ, ◌==◌, ◌||◌, Bool, true, false, Option, Some, None, eqb-true, refl, sym, ap, ◌∙◌, subst}
use Rattle.std.specs.Prelude.{◌⊎◌, MatchBool}
use Rattle.std.proofs.lemmas.Bool.{and_parts, cases_Bool}
use Rattle.machine.specs.declared.record.Life.{Life}
use Rattle.machine.specs.declared.record.Life.TheVariants.{Live, Exited, Killed}
use Rattle.machine.specs.declared.record.Task.{Task}
use Rattle.machine.specs.declared.event.Cause.{Cause}
use Rattle.machine.specs.declared.event.Op.{Op}
use Rattle.machine.specs.declared.event.Op.TheVariants.{Read, Write}
use Rattle.machine.specs.declared.event.Event.{Event}
use Rattle.machine.specs.declared.event.Event.TheVariants as event
use Rattle.machine.specs.declared.reply.Reply.{Reply}
use Rattle.machine.specs.declared.reply.Reply.TheVariants as reply
use Rattle.machine.specs.Slots.{Changes, there_and}
use Rattle.machine.specs.Tree.{under}
use Rattle.machine.specs.Amounts.{exceeds}
use Rattle.machine.specs.Pages.{Content, Memory, OfFile, Residence, Held, Coming, Going, Away, Page, page_at, is_anon, is_held, home_block}
use Rattle.machine.specs.State.{State, usage, over_in, is_frame_free, effective_min}
use Rattle.machine.specs.Tasks.{task_at}
use Rattle.machine.specs.Access.{Meeting, Unmapped, Hits, Transferring, NeedsPage, NeedsCopy, NeedsSwapIn, NeedsRead, Dangling, meets}
use Rattle.machine.specs.Reclaim.{is_unprotected, counted_at_take, has_takeable, has_transfer, stands, target_of}
use Rattle.machine.specs.Step.{Only, ChargeStep, HitStep, MeetStep, LifeStep, TaskStep, StartsLeave, Drops, Takes, LeavesBy, LeavesFrom, ReclaimStep, ReclaimOneStep, KillStep, RelieveStep, Step}
use Rattle.machine.proofs.Values.{some_inj, never_some, unlike}
use Rattle.machine.proofs.TreeLemmas.{eq_cases}
use Rattle.machine.specs.Events.{took_for}
use Rattle.page_lists.proofs.TakeableLemmas.{next-takeable, takeable-held, takeable-below, takeable-unprotected}
use Rattle.laws.specs.Laws.{victim_in, TakesUnprotected, ReclaimsSpareTheProtected, ReclaimsGiveUpLast, ReclaimsKillNobody, OnlyCleanPagesAreDropped}
use Rattle.laws.proofs.LawLemmas.{by_test, is_taking, never_taken, idle_of}

-- ---- where the answer is that a page was taken, one was

module _ (before after : State) (answer : Reply) (taking : is_taking answer ≡ true) where
  not_only : {P : Type 0} (expected : Reply) → is_taking expected ≡ false → Only before expected answer after → P
  not_only expected other h = unlike (is_taking answer) taking (ap is_taking h.0 ∙ other)

  no_kill : {P : Type 0} (limit : ℕ) (said : Reply) → is_taking said ≡ true → KillStep before limit said after → P
  no_kill limit (reply.KilledTask t) takes h = cc
  no_kill limit (reply.KilledAll victim h_group tasks) takes h = cc
  no_kill limit reply.NoVictim takes h = cc
  no_kill limit said takes h = absurd h

  reclaim_takes : (target : ℕ) (Idle : Type 0) → (Idle → Takes before target answer after) → ReclaimStep before target Idle answer after → Takes before target answer after
  reclaim_takes target Idle idle step = by_test (has_takeable before target) (λ k. k) (λ k. by_test (has_transfer before target) (not_only reply.Wait refl) idle k) step

  relief_takes : (why : Cause) → RelieveStep before why answer after → Takes before (target_of why) answer after
  relief_takes why step = by_test (stands before why) (reclaim_takes (target_of why) _ (no_kill (target_of why) answer taking)) (not_only reply.Room refl) step

  one_takes : (g : ℕ) → ReclaimOneStep before g answer after → Takes before g answer after
  one_takes g step = reclaim_takes g _ (not_only reply.Nothing refl) step

pub step_takes : (before after : State) (what : Event) (answer : Reply) (target : ℕ) → took_for what answer ≡ Some target → Step before what answer after → Takes before target answer after
step_takes before after (event.Relieve why) (reply.Out ticket) target e step = subst (λ t. Takes before t (reply.Out ticket) after) (some_inj e) (relief_takes before after (reply.Out ticket) refl why step)
step_takes before after (event.Relieve why) reply.Dropped target e step = subst (λ t. Takes before t reply.Dropped after) (some_inj e) (relief_takes before after reply.Dropped refl why step)
step_takes before after (event.ReclaimOne g) (reply.Out ticket) target e step = subst (λ t. Takes before t (reply.Out ticket) after) (some_inj e) (one_takes before after (reply.Out ticket) refl g.0 step)
step_takes before after (event.ReclaimOne g) reply.Dropped target e step = subst (λ t. Takes before t reply.Dropped after) (some_inj e) (one_takes before after reply.Dropped refl g.0 step)
step_takes before after what answer target e step = cc

-- ---- the page

module _ (before after : State) (target : ℕ) where
  open_cases : (g : ℕ) → is_unprotected before target g ≡ true → (g ≡ target) ⊎ (exceeds (usage before g) (effective_min before target g) ≡ true)
  open_cases g is = by_same (g == target) refl is
    where
      by_same : (b : Bool) → (g == target) ≡ b → (b || exceeds (usage before g) (effective_min before target g)) ≡ true → (g ≡ target) ⊎ (exceeds (usage before g) (effective_min before target g) ≡ true)
      by_same true same e = inl (eqb-true g target same)
      by_same false same e = inr e

  module _ (answer : Reply) (h : Takes before target answer after) where
    takeable : (is_held h.page ≡ true) × (under before.tree target h.page.group ≡ true) × (is_unprotected before target h.page.group ≡ true)
    takeable = let takes = next-takeable before target h.page h.next in (takeable-held before target h.page takes, takeable-below before target h.page takes, takeable-unprotected before target h.page takes)

    leaves_for : (to : Option Page) → Changes before.pages after.pages h.p to → there_and is_held to ≡ false → TakesUnprotected before target after
    leaves_for to changes gone =
        record {
          p = h.p;
          page = h.page;
          there = h.there;
          held = takeable.0;
          leaves = ap (there_and is_held) changes.changed ∙ gone;
          others = changes.others;
          below = takeable.1;
          unprotected = open_cases h.page.group takeable.2;
        }

    taken_unprotected : TakesUnprotected before target after
    taken_unprotected = by_residence h.page.residence h.leaves
      where
        by_content : (frame : ℕ) (content : Content) → LeavesBy before h.p h.page content frame (counted_at_take before target h.page.group) answer after → TakesUnprotected before target after
        by_content frame Memory k = leaves_for _ k.leave.placed refl
        by_content frame (OfFile file q) k = by_test h.page.dirty (λ l. leaves_for _ l.placed refl) (λ l. leaves_for None l.gone refl) k

        by_residence : (r : Residence) → LeavesFrom before h.p h.page r (counted_at_take before target h.page.group) answer after → TakesUnprotected before target after
        by_residence (Held frame) k = by_content frame h.page.content k
        by_residence (Coming frame block ticket) k = absurd k
        by_residence (Going frame block ticket) k = absurd k
        by_residence (Away block) k = absurd k

pub reclaims_spare_the_protected : ReclaimsSpareTheProtected
reclaims_spare_the_protected before after what answer target taken step = taken_unprotected before after target answer (step_takes before after what answer target taken step)

-- ---- pages that are dropped

-- where the answer says so, the page that goes is the one that was taken, and a clean one of a file
module _ (before after : State) (target : ℕ) (h : Takes before target reply.Dropped after) (p : ℕ) (page : Page) (there : page_at before.pages p ≡ Some page)
    (gone : page_at after.pages p ≡ None) where
  its : (to : Option Page) → Changes before.pages after.pages h.p to → page ≡ h.page
  its to changes =
      elim (eq_cases p h.p) [
        | inl same ↦ some_inj (sym there ∙ ap (page_at before.pages) same ∙ h.there)
        | inr differs ↦ never_some (page_at after.pages p) gone (changes.others p differs ∙ there)
      ]

  taken_clean : (is_anon page.content ≡ false) × (page.dirty ≡ false)
  taken_clean = by_residence h.page.residence h.leaves
    where
      by_dirty : (frame file q : ℕ) (dirty : Bool) → h.page.content ≡ OfFile file q → h.page.dirty ≡ dirty
          → MatchBool dirty (StartsLeave before h.p h.page frame (home_block before.opening.swap before.opening.files file q) (counted_at_take before target h.page.group) reply.Dropped after)
          (Drops before h.p (counted_at_take before target h.page.group) reply.Dropped after)
          → (is_anon page.content ≡ false) × (page.dirty ≡ false)
      by_dirty frame file q true content dirty k = absurd (let e = k.answers in cc)
      by_dirty frame file q false content clean k = let same = its None k.gone in (ap (λ (x : Page). is_anon x.content) same ∙ ap is_anon content, ap (λ (x : Page). x.dirty) same ∙ clean)

      by_content : (frame : ℕ) (content : Content) → h.page.content ≡ content → LeavesBy before h.p h.page content frame (counted_at_take before target h.page.group) reply.Dropped after
          → (is_anon page.content ≡ false) × (page.dirty ≡ false)
      by_content frame Memory is k = absurd (let e = k.leave.answers in cc)
      by_content frame (OfFile file q) is k = by_dirty frame file q h.page.dirty is refl k

      by_residence : (r : Residence) → LeavesFrom before h.p h.page r (counted_at_take before target h.page.group) reply.Dropped after → (is_anon page.content ≡ false) × (page.dirty ≡ false)
      by_residence (Held frame) k = by_content frame h.page.content refl k
      by_residence (Coming frame block ticket) k = absurd k
      by_residence (Going frame block ticket) k = absurd k
      by_residence (Away block) k = absurd k

-- no event of a task is answered so
module _ (before after : State) where
  charge_keeps : (low : Option ℕ) (free : Bool) (Granted : Type 0) → (Granted → ⊥) → ChargeStep before low free Granted reply.Dropped after → ⊥
  charge_keeps (Some low) free Granted granted h = let e = h.0 in cc
  charge_keeps None true Granted granted h = granted h
  charge_keeps None false Granted granted h = let e = h.0 in cc

  hit_keeps : (p : ℕ) (page : Page) (frame : ℕ) (op : Op) → HitStep before p page frame op reply.Dropped after → ⊥
  hit_keeps p page frame Read h = h
  hit_keeps p page frame (Write b) h = h

  meet_keeps : (t g : ℕ) (op : Op) (met : Meeting) → MeetStep before t g op met reply.Dropped after → ⊥
  meet_keeps t g op Unmapped h = h
  meet_keeps t g op (Hits p page frame) h = hit_keeps p page frame op h
  meet_keeps t g op Transferring h = let e = h.0 in cc
  meet_keeps t g op (NeedsPage v) h = charge_keeps (over_in before g) (is_frame_free before) _ (λ made. let e = made.answers in cc) h
  meet_keeps t g op (NeedsCopy v) h = charge_keeps (over_in before g) (is_frame_free before) _ (λ made. let e = made.answers in cc) h
  meet_keeps t g op (NeedsSwapIn p page block) h = charge_keeps (over_in before _) (is_frame_free before) _ (λ begun. let e = begun.answers in cc) h
  meet_keeps t g op (NeedsRead file q) h = charge_keeps (over_in before g) (is_frame_free before) _ (λ begun. let e = begun.fetch.answers in cc) h
  meet_keeps t g op Dangling h = h

  task_keeps : (slot : Option Task) (Live_step : Task → Type 0) → ((task : Task) → Live_step task → ⊥) → TaskStep before slot Live_step reply.Dropped after → ⊥
  task_keeps None Live_step living h = h
  task_keeps (Some task) Live_step living h = by_life task.life h
    where
      by_life : (life : Life) → LifeStep before life (Live_step task) reply.Dropped after → ⊥
      by_life Live k = living task k
      by_life Exited k = k
      by_life Killed k = let e = k.0 in cc

pub only_clean_pages_are_dropped : OnlyCleanPagesAreDropped
only_clean_pages_are_dropped before after (event.Relieve why) step p page there gone =
    taken_clean before after (target_of why) (step_takes before after (event.Relieve why) reply.Dropped (target_of why) refl step) p page there gone
only_clean_pages_are_dropped before after (event.ReclaimOne g) step p page there gone =
    taken_clean before after g.0 (step_takes before after (event.ReclaimOne g) reply.Dropped g.0 refl step) p page there gone
only_clean_pages_are_dropped before after (event.Access t place op) step p page there gone =
    absurd (task_keeps before after (task_at before.tasks t.0) _ (λ task h. meet_keeps before after t.0 task.group.0 op (meets before t.0 place op) h) step)
only_clean_pages_are_dropped before after (event.Fork t child) step p page there gone = absurd (task_keeps before after (task_at before.tasks t.0) _ (λ task h. let e = h.0 in cc) step)
only_clean_pages_are_dropped before after (event.Exit t) step p page there gone = absurd (task_keeps before after (task_at before.tasks t.0) _ (λ task h. let e = h.0 in cc) step)
only_clean_pages_are_dropped before after (event.Free t v) step p page there gone = absurd (task_keeps before after (task_at before.tasks t.0) _ (λ task h. let e = h.answers in cc) step)
only_clean_pages_are_dropped before after (event.Arrived ticket bytes) step p page there gone = absurd (let e = step.answers in cc)
only_clean_pages_are_dropped before after (event.FetchFailed ticket) step p page there gone = absurd (let e = step.answers in cc)
only_clean_pages_are_dropped before after (event.Left ticket) step p page there gone = absurd (let e = step.answers in cc)
only_clean_pages_are_dropped before after (event.LeaveFailed ticket) step p page there gone = absurd (let e = step.answers in cc)
only_clean_pages_are_dropped before after what step p page there gone = absurd step

-- ---- reclaims that take none

pub reclaims_give_up_last : ReclaimsGiveUpLast
reclaims_give_up_last before after g step =
    let found = idle_of (has_takeable before g) (has_transfer before g) _ _ _ _ (never_taken before g reply.Nothing after refl) (λ w. let e = w.0 in cc) (λ n. n.1) step in (found.0, found.1)

pub reclaims_kill_nobody : ReclaimsKillNobody
reclaims_kill_nobody before after g answer step =
    by_test (has_takeable before g.0) (λ k. (never_kills k, tasks k)) (λ k. by_test (has_transfer before g.0) (λ w. only reply.Wait w refl) (λ n. only reply.Nothing n refl) k) step
  where
    takes_none : (said : Reply) → is_taking said ≡ true → victim_in said ≡ None
    takes_none (reply.KilledTask t) takes = cc
    takes_none (reply.KilledAll victim h tasks) takes = cc
    takes_none other takes = refl

    never_kills : Takes before g.0 answer after → victim_in answer ≡ None
    never_kills h = elim (cases_Bool (is_taking answer)) [ inl takes ↦ takes_none answer takes | inr other ↦ absurd (never_taken before g.0 answer after other h) ]

    only : (expected : Reply) → Only before expected answer after → victim_in expected ≡ None → (victim_in answer ≡ None) × (after.tasks ≡ before.tasks)
    only expected h none = (ap victim_in h.0 ∙ none, ap (λ (s : State). s.tasks) h.1)

    tasks : Takes before g.0 answer after → after.tasks ≡ before.tasks
    tasks h = by_residence h.page.residence h.leaves
      where
        by_content : (frame : ℕ) (content : Content) → LeavesBy before h.p h.page content frame (counted_at_take before g.0 h.page.group) answer after → after.tasks ≡ before.tasks
        by_content frame Memory k = ap (λ (s : State). s.tasks) k.leave.state
        by_content frame (OfFile file q) k = by_test h.page.dirty (λ l. ap (λ (s : State). s.tasks) l.state) (λ l. ap (λ (s : State). s.tasks) l.state) k

        by_residence : (r : Residence) → LeavesFrom before h.p h.page r (counted_at_take before g.0 h.page.group) answer after → after.tasks ≡ before.tasks
        by_residence (Held frame) k = by_content frame h.page.content k
        by_residence (Coming frame block ticket) k = absurd k
        by_residence (Going frame block ticket) k = absurd k
        by_residence (Away block) k = absurd k

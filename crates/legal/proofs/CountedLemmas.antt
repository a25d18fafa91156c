-- What a step counts, and that no key is counted more often than entries allow.
use Rattle.std.proofs.Common.{◌≡◌, ◌⊎◌, inl, inr, ℕ, zero, suc, ◌+◌, ◌<◌, ◌≤◌, ◌==◌, ◌&&◌, Bool, true, false, cond, List, [], ◌∷◌, ◌++◌, length, Option, Some, None, refl, sym, ap, ◌∙◌, subst, add-one, eqb-true, arith, length-append}
use Rattle.std.specs.Prelude.{MatchBool, slice_set, filter}
use Rattle.std.proofs.lemmas.List.{length-map}
use Rattle.std.proofs.lemmas.List.Sums.{length-filter}
use Rattle.machine.specs.declared.config.Placement.TheVariants.{Own, Linux}
use Rattle.machine.specs.declared.config.Placement.{Placement}
use Rattle.machine.specs.declared.record.EventCounts.{EventCounts}
use Rattle.machine.specs.declared.record.Key.{Key}
use Rattle.machine.specs.declared.record.Key.TheVariants as key
use Rattle.machine.specs.declared.record.Life.{Life}
use Rattle.machine.specs.declared.record.Life.TheVariants.{Live, Exited, Killed}
use Rattle.machine.specs.declared.record.Task.{Task}
use Rattle.machine.specs.declared.entry.Entry.{Entry}
use Rattle.machine.specs.declared.id.TaskId.{TaskId}
use Rattle.machine.specs.declared.id.GroupId.{GroupId}
use Rattle.machine.specs.declared.event.Cause.{Cause}
use Rattle.machine.specs.declared.event.Op.{Op}
use Rattle.machine.specs.declared.event.Op.TheVariants.{Read, Write}
use Rattle.machine.specs.declared.event.Place.{Place}
use Rattle.machine.specs.declared.event.Event.{Event}
use Rattle.machine.specs.declared.event.Event.TheVariants as event
use Rattle.machine.specs.declared.reply.Reply.{Reply}
use Rattle.machine.specs.declared.reply.Reply.TheVariants as reply
use Rattle.machine.specs.Slots.{there_and}
use Rattle.machine.specs.Pages.{Content, Memory, OfFile, Residence, Held, Coming, Going, Away, Page, is_held, is_held_in, home_block}
use Rattle.machine.specs.Tree.{Node, under}
use Rattle.machine.specs.Counts.{Counted, no_counts, once_more, counts_at, with_event, local, total, is_key, count_of, with_events}
use Rattle.machine.specs.Tasks.{Tasks, task_at, live_tasks, group_of}
use Rattle.machine.specs.State.{Opening, State, over_in, is_frame_free}
use Rattle.machine.specs.Access.{Meeting, Unmapped, Hits, Transferring, NeedsPage, NeedsCopy, NeedsSwapIn, NeedsRead, Dangling, meets}
use Rattle.machine.specs.Reclaim.{has_takeable, has_open, has_transfer, stands, target_of}
use Rattle.machine.specs.Victim.{is_live_under, killed_with, counts_of_killed, counts_of_victim, counts_of_group_kill}
use Rattle.machine.specs.Step.{ChargeStep, HitStep, UnmappedStep, MeetStep, LifeStep, TaskStep, StartsLeave, Drops, LeavesBy, LeavesFrom, Takes, ReclaimStep, KillStep, Step}
use Rattle.machine.specs.Legal.{Legal}
use Rattle.machine.specs.Events.{counts_named, took_for, low_named, NamesTaken, NamesFor, Names, for_groups}
use Rattle.page_lists.proofs.TakeableLemmas.{next-takeable, takeable-held, taken-named}
use Rattle.machine.proofs.TreeLemmas.{lt_cases}
use Rattle.counts.proofs.CountLemmas.{count_of_key-none, local-event, local-push, sum_from, sum_from-same, sum_from-le, sum_from-zero, part_under, total-is}
use Rattle.legal.proofs.Did.{setting-is}
use Rattle.legal.proofs.KillLemmas.{relieves_killing}
use Rattle.legal.proofs.LiveLemmas.{live_under-lives, live-ended, live-ended-le, step_live}

-- ---- what a step counts

-- the table of counts after an event that is answered so
abbrev pub counted_after : State → Event → Reply → List EventCounts
counted_after old what answer = with_events (for_groups old.counted what) (counts_named old what answer)

-- the events that the step counts, and the table with them
pub record Counts (old : State) (what : Event) (answer : Reply) (new : State) : Type 0 where
  pub named : List Counted
  pub names : Names old what answer new named
  pub after : new.counted ≡ with_events (for_groups old.counted what) named

module _ (old new : State) (what : Event) where
  -- a step that takes no page counts what its case names
  plain : (answer : Reply) → took_for what answer ≡ None → new.counted ≡ counted_after old what answer → Counts old what answer new
  plain answer none after = record { named = counts_named old what answer; names = subst (λ taken. NamesFor taken old what answer new (counts_named old what answer)) (sym none) refl; after = after }

  -- an answer that counts nothing
  quiet : (answer expected : Reply) → took_for what expected ≡ None → counted_after old what expected ≡ old.counted → answer ≡ expected → new.counted ≡ old.counted → Counts old what answer new
  quiet answer expected none nothing is same = plain answer (ap (took_for what) is ∙ none) (same ∙ sym (ap (counted_after old what) is ∙ nothing))

  by_test : {Yes No : Type 0} {Goal : Type 0} (b : Bool) → (Yes → Goal) → (No → Goal) → MatchBool b Yes No → Goal
  by_test true on off h = on h
  by_test false on off h = off h

  -- a page that leaves its frame
  module _ (answer : Reply) (target : ℕ) (same_groups : for_groups old.counted what ≡ old.counted) (out : (n : ℕ) → took_for what (reply.Out (record { 0 = n })) ≡ Some target) (dropped : took_for what reply.Dropped ≡ Some target) where
    -- is held no more, whatever is counted then
    record Leaves (p : ℕ) (counted : List EventCounts) : Type 0 where
      took : took_for what answer ≡ Some target
      leaves : is_held_in new.pages p ≡ false
      counts : new.counted ≡ counted

    sent : (p frame block : ℕ) (page : Page) (counted : List EventCounts) → StartsLeave old p page frame block counted answer new → Leaves p counted
    sent p frame block page counted h = record { took = ap (took_for what) h.answers ∙ out h.ticket; leaves = ap (there_and is_held) h.placed.changed; counts = ap (λ (s : State). s.counted) h.state }

    gone : (p : ℕ) (counted : List EventCounts) → Drops old p counted answer new → Leaves p counted
    gone p counted h = record { took = ap (took_for what) h.answers ∙ dropped; leaves = ap (there_and is_held) h.gone.changed; counts = ap (λ (s : State). s.counted) h.state }

    leaves_by : (p frame : ℕ) (page : Page) (content : Content) (counted : List EventCounts) → LeavesBy old p page content frame counted answer new → Leaves p counted
    leaves_by p frame page Memory counted h = sent p frame h.block page counted h.leave
    leaves_by p frame page (OfFile file q) counted h = by_test page.dirty (sent p frame (home_block old.opening.swap old.opening.files file q) page counted) (gone p counted) h

    leaves_from : (p : ℕ) (page : Page) (residence : Residence) (counted : List EventCounts) → LeavesFrom old p page residence counted answer new → Leaves p counted
    leaves_from p page (Held frame) counted h = leaves_by p frame page page.content counted h
    leaves_from p page (Coming frame block ticket) counted h = absurd h
    leaves_from p page (Going frame block ticket) counted h = absurd h
    leaves_from p page (Away block) counted h = absurd h

    takes : Takes old target answer new → Counts old what answer new
    takes h =
        let left = leaves_from h.p h.page h.page.residence _ h.leaves in
        let names : NamesTaken old target new (low_named old target h.page.group) =
        record {
          p = h.p;
          page = h.page;
          there = h.there;
          held = takeable-held old target h.page (next-takeable old target h.page h.next);
          leaves = left.leaves;
          are = refl;
        } in
        record {
          named = low_named old target h.page.group;
          names = subst (λ taken. NamesFor taken old what answer new (low_named old target h.page.group)) (sym left.took) names;
          after = left.counts ∙ taken-named old target h.page.group ∙ ap (λ cs. with_events cs (low_named old target h.page.group)) (sym same_groups);
        }

    reclaims : (Idle : Type 0) → took_for what reply.Wait ≡ None → counted_after old what reply.Wait ≡ old.counted → (Idle → Counts old what answer new) → ReclaimStep old target Idle answer new → Counts old what answer new
    reclaims Idle none wait idle h =
        by_test (has_takeable old target) takes (by_test (has_transfer old target) (λ w. quiet answer reply.Wait none wait w.0 (ap (λ (s : State). s.counted) w.1)) idle) h

  -- an event of a task
  of_task : (slot : Option Task) (Live_step : Task → Type 0) (answer : Reply) → took_for what reply.Killed ≡ None → counted_after old what reply.Killed ≡ old.counted → ((task : Task) → Live_step task → Counts old what answer new)
      → TaskStep old slot Live_step answer new → Counts old what answer new
  of_task None Live_step answer none killed living h = absurd h
  of_task (Some task) Live_step answer none killed living h = by_life task.life h
    where
      by_life : (life : Life) → LifeStep old life (Live_step task) answer new → Counts old what answer new
      by_life Live k = living task k
      by_life Exited k = absurd k
      by_life Killed k = quiet answer reply.Killed none killed k.0 (ap (λ (s : State). s.counted) k.1)

-- an access
module _ (old new : State) (t : TaskId) (place : Place) (op : Op) where
  abbrev access : Event
  access = event.Access t place op

  charged : (low : Option ℕ) (free : Bool) (Granted : Type 0) (answer : Reply) → (Granted → Counts old access answer new) → ChargeStep old low free Granted answer new → Counts old access answer new
  charged (Some a) free Granted answer granted h = plain old new access answer (ap (took_for access) h.0) (ap (λ (s : State). s.counted) h.1 ∙ sym (ap (counted_after old access) h.0))
  charged None free Granted answer granted h = by_test old new access free granted (λ k. quiet old new access answer reply.NoFrame refl refl k.0 (ap (λ (s : State). s.counted) k.1)) h

  hit : (p frame : ℕ) (page : Page) (op' : Op) (answer : Reply) → HitStep old p page frame op' answer new → Counts old access answer new
  hit p frame page Read (reply.Done byte at) h = plain old new access (reply.Done byte at) refl (ap (λ (s : State). s.counted) h.1)
  hit p frame page (Write b) (reply.Done byte at) h = plain old new access (reply.Done byte at) refl (ap (λ (s : State). s.counted) h.3)
  hit p frame page op' answer h = absurd h

  unmapped : (answer : Reply) → UnmappedStep old answer new → Counts old access answer new
  unmapped (reply.Done byte at) h = plain old new access (reply.Done byte at) refl (ap (λ (s : State). s.counted) h.1)
  unmapped answer h = absurd h

  meeting : (g : ℕ) (met : Meeting) (answer : Reply) → MeetStep old t.0 g op met answer new → Counts old access answer new
  meeting g Unmapped answer h = unmapped answer h
  meeting g (Hits p page frame) answer h = hit p frame page op answer h
  meeting g Transferring answer h = quiet old new access answer reply.Busy refl refl h.0 (ap (λ (s : State). s.counted) h.1)
  meeting g (NeedsPage v) answer h = charged (over_in old g) (is_frame_free old) _ answer (λ k. quiet old new access answer _ refl refl k.answers (ap (λ (s : State). s.counted) k.state)) h
  meeting g (NeedsCopy v) answer h = charged (over_in old g) (is_frame_free old) _ answer (λ k. quiet old new access answer _ refl refl k.answers (ap (λ (s : State). s.counted) k.state)) h
  meeting g (NeedsSwapIn p page block) answer h = charged (over_in old _) (is_frame_free old) _ answer (λ k. quiet old new access answer _ refl refl k.answers (ap (λ (s : State). s.counted) k.state)) h
  meeting g (NeedsRead file q) answer h = charged (over_in old g) (is_frame_free old) _ answer (λ k. quiet old new access answer _ refl refl k.fetch.answers (ap (λ (s : State). s.counted) k.fetch.state)) h
  meeting g Dangling answer h = absurd h

-- a relief
kills : (old new : State) (why : Cause) (answer : Reply) → KillStep old (target_of why) answer new → Counts old (event.Relieve why) answer new
kills old new why (reply.KilledTask t) h = plain old new (event.Relieve why) (reply.KilledTask t) refl (ap (λ (s : State). s.counted) h.2.state)
kills old new why (reply.KilledAll victim g tasks) h = plain old new (event.Relieve why) (reply.KilledAll victim g tasks) refl (ap (λ (s : State). s.counted) h.3.state)
kills old new why reply.NoVictim h = plain old new (event.Relieve why) reply.NoVictim refl (ap (λ (s : State). s.counted) h.1)
kills old new why answer h = absurd h

-- a step counts what its case names, and nothing else
pub step-counted : (old new : State) (what : Event) (answer : Reply) → Step old what answer new → Counts old what answer new
step-counted old new (event.Access t place op) answer h =
    of_task old new (event.Access t place op) (task_at old.tasks t.0) _ answer refl refl (λ task k. meeting old new t place op task.group.0 (meets old t.0 place op) answer k) h
step-counted old new (event.Arrived ticket bytes) answer h = plain old new _ answer refl (ap (λ (s : State). s.counted) h.state)
step-counted old new (event.FetchFailed ticket) answer h = plain old new _ answer refl (ap (λ (s : State). s.counted) h.state)
step-counted old new (event.Left ticket) answer h = plain old new _ answer refl (ap (λ (s : State). s.counted) h.state)
step-counted old new (event.LeaveFailed ticket) answer h = plain old new _ answer refl (ap (λ (s : State). s.counted) h.state)
step-counted old new (event.Relieve why) answer h =
    by_test old new (event.Relieve why) (stands old why) (reclaims old new (event.Relieve why) answer (target_of why) refl (λ n. refl) refl _ refl refl (kills old new why answer))
    (λ k. quiet old new (event.Relieve why) answer reply.Room refl refl k.0 (ap (λ (s : State). s.counted) k.1)) h
step-counted old new (event.ReclaimOne g) answer h =
    reclaims old new (event.ReclaimOne g) answer g.0 refl (λ n. refl) refl _ refl refl (λ k. quiet old new (event.ReclaimOne g) answer reply.Nothing refl refl k.0 (ap (λ (s : State). s.counted) k.1)) h
step-counted old new (event.Spawn t g) reply.Ok h = plain old new _ reply.Ok refl (ap (λ (s : State). s.counted) h.2)
step-counted old new (event.Fork t child) answer h = of_task old new (event.Fork t child) (task_at old.tasks t.0) _ answer refl refl (λ task k. plain old new _ answer refl (ap (λ (s : State). s.counted) k.3)) h
step-counted old new (event.Exit t) answer h = of_task old new (event.Exit t) (task_at old.tasks t.0) _ answer refl refl (λ task k. plain old new _ answer refl (ap (λ (s : State). s.counted) k.1.state)) h
step-counted old new (event.Free t v) answer h = of_task old new (event.Free t v) (task_at old.tasks t.0) _ answer refl refl (λ task k. plain old new _ answer refl (ap (λ (s : State). s.counted) k.state)) h
step-counted old new (event.Attach t g) reply.Ok h = plain old new _ reply.Ok refl (ap (λ (s : State). s.counted) h.1)
step-counted old new (event.Mkdir path) reply.Ok h = plain old new (event.Mkdir path) reply.Ok refl (ap (λ (s : State). s.counted) h)
step-counted old new (event.Rmdir g) reply.Ok h = plain old new _ reply.Ok refl (ap (λ (s : State). s.counted) h.state)
step-counted old new (event.Set g what) reply.Ok h = plain old new _ reply.Ok refl (ap (λ (s : State). s.counted) (h ∙ setting-is old g.0 what))
step-counted old new (event.Show what) (reply.Shown numbers) h = plain old new _ (reply.Shown numbers) refl (ap (λ (s : State). s.counted) h.1)
step-counted old new (event.MergeMarks word bits) reply.Ok h = plain old new _ reply.Ok refl (ap (λ (s : State). s.counted) h)
step-counted old new what answer h = absurd h

-- ---- how often at most

-- of the key, at all of the first n groups together
abbrev pub everywhere : List EventCounts → Key → ℕ → ℕ
everywhere counted k n = sum_from (λ g. local counted g k) 0 n

set-beyond : (counted : List EventCounts) (g : ℕ) (x : EventCounts) → length counted ≤ g → slice_set counted g x ≡ counted
set-beyond [] zero x le = refl
set-beyond [] (suc g) x le = refl
set-beyond (c ∷ counted) zero x le = absurd (omega (arith, le))
set-beyond (c ∷ counted) (suc g) x le = ap (λ cs. c ∷ cs) (set-beyond counted g x (omega (arith, le)))

-- at most one more
local-event-le : (counted : List EventCounts) (group : ℕ) (key : Key) (g : ℕ) (k : Key) → local (with_event counted group key) g k ≤ local counted g k + cond (g == group) 1 0
local-event-le counted group key g k =
    elim (lt_cases group (length counted)) [
      | inl lt ↦ (let e = local-event counted group key lt g k in let le = both (g == group) (is_key key k) in omega (arith, e, le))
      | inr beyond ↦ (let same = ap (λ (cs : List EventCounts). local cs g k) (set-beyond counted group (once_more (counts_at counted group) key) (from beyond)) in omega (arith, same))
    ]
  where
    both : (a b : Bool) → cond (a && b) 1 0 ≤ cond a 1 0
    both true true = omega arith
    both true false = omega arith
    both false b = omega arith

    from : (group ≡ length counted) ⊎ (length counted < group) → length counted ≤ group
    from (inl e) = omega (arith, e)
    from (inr lt) = omega (arith, lt)

sum_from-one-le : (f h : ℕ → ℕ) (at k n : ℕ) → ((g : ℕ) → h g ≤ f g + cond (g == at) 1 0) → sum_from h k n ≤ sum_from f k n + 1
sum_from-one-le f h at k zero more = omega arith
sum_from-one-le f h at k (suc n) more = by_case (k == at) refl (sum_from-one-le f h at (k + 1) n more)
  where
    later : k ≡ at → (g : ℕ) → k + 1 ≤ g → h g ≤ f g
    later is g above =
        let e = more g in
        let none : ◌≡◌ {A = ℕ} (cond (g == at) 1 0) 0 = (let other : (g == at) ≡ false = grind (arith, above, is) in ap (λ (b : Bool). let m : ℕ = cond b 1 0 in m) other) in
        omega (arith, e, none)

    by_case : (b : Bool) → (k == at) ≡ b → sum_from h (k + 1) n ≤ sum_from f (k + 1) n + 1 → sum_from h k (suc n) ≤ sum_from f k (suc n) + 1
    by_case true same rest =
        let here = more k in
        let one : ◌≡◌ {A = ℕ} (cond (k == at) 1 0) 1 = ap (λ (b : Bool). let m : ℕ = cond b 1 0 in m) same in
        let none = sum_from-le h f (k + 1) n (λ g above within. later (eqb-true k at same) g above) in
        omega (arith, here, one, none)
    by_case false other rest =
        let here = more k in
        let none : ◌≡◌ {A = ℕ} (cond (k == at) 1 0) 0 = ap (λ (b : Bool). let m : ℕ = cond b 1 0 in m) other in
        omega (arith, here, none, rest)

everywhere-event : (counted : List EventCounts) (group : ℕ) (key k : Key) (n : ℕ) → everywhere (with_event counted group key) k n ≤ everywhere counted k n + 1
everywhere-event counted group key k n = sum_from-one-le (λ g. local counted g k) (λ g. local (with_event counted group key) g k) group 0 n (λ g. local-event-le counted group key g k)

everywhere-events : (counted : List EventCounts) (events : List Counted) (k : Key) (n : ℕ) → everywhere (with_events counted events) k n ≤ everywhere counted k n + length events
everywhere-events counted [] k n = omega arith
everywhere-events counted (c ∷ events) k n =
    let rest = everywhere-events (with_event counted c.group c.key) events k n in
    let one = everywhere-event counted c.group c.key k n in
    omega (arith, rest, one)

everywhere-groups : (counted : List EventCounts) (what : Event) (k : Key) (n : ℕ) → everywhere (for_groups counted what) k n ≤ everywhere counted k n
everywhere-groups counted (event.Mkdir path) k n =
    let same = sum_from-same (λ g. local (counted ++ no_counts ∷ []) g k) (λ g. local counted g k) 0 n (λ g from to. local-push counted g k) in omega (arith, same)
everywhere-groups counted what k n = omega arith

-- a step counts at most three events, and one more for each task that dies with a group
module _ (old new : State) where
  length-victim : (placement : Placement) (tasks : Tasks) (victim : ℕ) → length (counts_of_victim placement tasks victim) ≤ 1
  length-victim Own tasks victim = omega arith
  length-victim Linux tasks victim = omega arith

  length-killed : (placement : Placement) (tree : List Node) (tasks : Tasks) (limit victim h : ℕ) → length (counts_of_group_kill placement tree tasks limit victim h) ≤ 3 + killed_with tree tasks h
  length-killed placement tree tasks limit victim h =
      let one = length-victim placement tasks victim in
      let both = length-append (counts_of_victim placement tasks victim) (counts_of_killed tree tasks h ++ count_of h key.OomGroupKill ∷ []) in
      let passing = filter (there_and (is_live_under tree h)) tasks in
      let more = length-append (counts_of_killed tree tasks h) (count_of h key.OomGroupKill ∷ []) in
      let each = length-map passing (λ (slot : Option Task). count_of (group_of slot) key.OomKill) in
      let many = length-filter (there_and (is_live_under tree h)) tasks in
      omega (arith, one, both, more, each, many)

  -- whoever dies with a group lived
  kills-live : (limit : ℕ) (victim : TaskId) (group : GroupId) (tasks : ℕ) → KillStep old limit (reply.KilledAll victim group tasks) new
      → live_tasks new.tasks + killed_with old.tree old.tasks group.0 ≤ live_tasks old.tasks
  kills-live limit victim group tasks kill = live-ended refl kill.3 (is_live_under old.tree group.0) (λ u is. (is, live_under-lives old.tree group.0 (task_at old.tasks u) is))

  case-few : (what : Event) (answer : Reply) → Step old what answer new → length (counts_named old what answer) + live_tasks new.tasks ≤ live_tasks old.tasks + 3
  case-few (event.Access t place op) (reply.Over g) h = let more = step_live old new (event.Access t place op) (reply.Over g) h in omega (arith, more)
  case-few (event.Relieve why) (reply.KilledTask t) h =
      let kill = relieves_killing old new why (reply.KilledTask t) refl (λ e. cc) (λ e. cc) h in
      let less = live-ended-le refl kill.1.2 in
      omega (arith, less)
  case-few (event.Relieve why) (reply.KilledAll victim g tasks) h =
      let kill = relieves_killing old new why (reply.KilledAll victim g tasks) refl (λ e. cc) (λ e. cc) h in
      let less = kills-live (target_of why) victim g tasks kill.1 in
      let many = length-killed old.opening.placement old.tree old.tasks (target_of why) victim.0 g.0 in
      omega (arith, less, many)
  case-few (event.Relieve why) reply.NoVictim h = let more = step_live old new (event.Relieve why) reply.NoVictim h in omega (arith, more)
  case-few what answer h = let more = step_live old new what answer h in omega (arith, more)

  named-few : (what : Event) (answer : Reply) → Step old what answer new → (named : List Counted) → Names old what answer new named → length named + live_tasks new.tasks ≤ live_tasks old.tasks + 3
  named-few what answer step named names = by_taken (took_for what answer) names
    where
      of_low : (b : Bool) (g : ℕ) → length (cond b [] (count_of g key.Low ∷ [])) ≤ 1
      of_low true g = omega arith
      of_low false g = omega arith

      by_taken : (taken : Option ℕ) → NamesFor taken old what answer new named → length named + live_tasks new.tasks ≤ live_tasks old.tasks + 3
      by_taken None is = let same = ap (λ (cs : List Counted). length cs) is in let few = case-few what answer step in omega (arith, same, few)
      by_taken (Some target) taken =
          let same = ap (λ (cs : List Counted). length cs) taken.are in
          let le = of_low (has_open old target) taken.page.group in
          let more = step_live old new what answer step in
          omega (arith, same, le, more)

-- each entry adds at most three events, but for those of tasks that live no more, of which each had an entry that made it
few-live : (opening : Opening) (history : List Entry) (s : State) → Legal opening history s → (k : Key) (n : ℕ) → everywhere s.counted k n + live_tasks s.tasks ≤ length history + length history + length history
few-live opening [] s legal k n =
    let none = ap (λ (t : State). everywhere t.counted k n) legal ∙ sum_from-zero _ 0 n (λ g from to. nothing g) in
    let nobody : live_tasks s.tasks ≡ 0 = ap (λ (t : State). live_tasks t.tasks) legal in
    omega (arith, none, nobody)
  where
    nothing : (g : ℕ) → local (no_counts ∷ []) g k ≡ 0
    nothing zero = count_of_key-none k
    nothing (suc g) = count_of_key-none k
few-live opening (entry ∷ earlier) s (before, legal, extends) k n =
    let so_far = few-live opening earlier before legal k n in
    let counts = step-counted before s entry.event entry.reply extends.steps in
    let is = ap (λ (cs : List EventCounts). everywhere cs k n) counts.after in
    let more = everywhere-events (for_groups before.counted entry.event) counts.named k n in
    let groups = everywhere-groups before.counted entry.event k n in
    let few = named-few before s entry.event entry.reply extends.steps counts.named counts.names in
    let longer = add-one (length earlier) in
    omega (arith, so_far, is, more, groups, few, longer)

-- no key is counted more often than three times for each entry
pub few-everywhere : (opening : Opening) (history : List Entry) (s : State) → Legal opening history s → (k : Key) (n : ℕ) → everywhere s.counted k n ≤ length history + length history + length history
few-everywhere opening history s legal k n = let few = few-live opening history s legal k n in omega (arith, few)

pub few-total : (opening : Opening) (history : List Entry) (s : State) → Legal opening history s → (tree : List Node) (a : ℕ) (k : Key) → total tree s.counted a k ≤ length history + length history + length history
few-total opening history s legal tree a k =
    let is = total-is tree s.counted a k in
    let le = sum_from-le (part_under tree s.counted a k) (λ g. local s.counted g k) 0 (length tree) (λ g from to. part-le (under tree a g) (local s.counted g k)) in
    let all = few-everywhere opening history s legal k (length tree) in
    omega (arith, is, le, all)
  where
    part-le : (b : Bool) (n : ℕ) → cond b n 0 ≤ n
    part-le true n = omega arith
    part-le false n = omega arith

-- an event leaves the counts of every other key
pub local-other : (counted : List EventCounts) (group : ℕ) (key : Key) (g : ℕ) (k : Key) → is_key key k ≡ false → local (with_event counted group key) g k ≡ local counted g k
local-other counted group key g k other =
    elim (lt_cases group (length counted)) [
      | inl lt ↦ (let e = local-event counted group key lt g k in let none = by_bits (g == group) (is_key key k) other in omega (arith, e, none))
      | inr beyond ↦ ap (λ (cs : List EventCounts). local cs g k) (set-beyond counted group (once_more (counts_at counted group) key) (from beyond))
    ]
  where
    by_bits : (a b : Bool) → b ≡ false → ◌≡◌ {A = ℕ} (cond (a && b) 1 0) 0
    by_bits true b e = ap (λ (c : Bool). let n : ℕ = cond c 1 0 in n) e
    by_bits false b e = refl

    from : (group ≡ length counted) ⊎ (length counted < group) → length counted ≤ group
    from (inl e) = omega (arith, e)
    from (inr lt) = omega (arith, lt)

-- Examples: a relief that kills a group: no task of it is left, and none outside it dies. What is no such relief is shown not to be.
use Rattle.std.proofs.Common.{◌≡◌, ℕ, zero, suc, true, false, List, [], ◌∷◌, length, Option, Some, None, refl, sym, ap, ◌∙◌, arith}
use Rattle.machine.specs.declared.record.Key.TheVariants as key
use Rattle.machine.specs.declared.record.Life.TheVariants.{Live, Exited, Killed}
use Rattle.machine.specs.declared.record.OomGroup.TheVariants.{Single, Whole}
use Rattle.machine.specs.declared.reply.Reply.TheVariants as reply
use Rattle.machine.specs.Slots.{there_and}
use Rattle.machine.specs.Tree.{chain_up, chain, under_at, chain_below}
use Rattle.machine.specs.Pages.{Held, Page, page_at}
use Rattle.machine.specs.Counts.{Counted, count_of, no_counts, local}
use Rattle.machine.specs.Tasks.{task_of, task_at, group_of_task, is_live_task, lives, mapped_at}
use Rattle.machine.specs.Protection.{effective_along}
use Rattle.machine.specs.State.{State}
use Rattle.machine.specs.Victim.{is_candidate, is_worse}
use Rattle.machine.specs.Events.{Names}
use Rattle.machine.specs.Step.{still, Step}
use Rattle.machine.proofs.Values.{some_inj, never_some, unlike}
use Rattle.machine.proofs.MappingLemmas.{mappers-alike}
use Rattle.computed.proofs.ExampleStates.{group, task, shows, single, memory}
use Rattle.computed.proofs.OomGroupExamples.{groups, flagged, tasks, four, crowded, nested, relieve}

-- ---- KilledAll: room for one page more is wanted under /a, and nothing can be taken. The flag is at /a/b, and at /a/b/d below it

-- tasks 1 and 2 are killed, and what they alone show is gone. Task 3 runs, and its page 2 stays in its frame, as a page of /a/b/d
abbrev emptied : State
emptied = record nested {
  pages = None ∷ None ∷ Some (memory 4 (Held 2)) ∷ [];
  tasks = None ∷ Some (task_of 4 Killed) ∷ Some (task_of 4 Killed) ∷ Some (task_of 3 Live) ∷ Some (task_of 4 Killed) ∷ Some (task_of 4 Exited) ∷ [];
  page_tables = [] ∷ [] ∷ [] ∷ (None ∷ shows 2 ∷ []) ∷ [];
  counted = no_counts ∷ record no_counts { oom = 1 } ∷ record no_counts { oom_group_kill = 1 } ∷ no_counts ∷ record no_counts { oom_kill = 2 } ∷ [];
}

-- page 0 and page 1, and page 3 on its block, are those that nobody shows any more
pages_left : (p : ℕ) → page_at emptied.pages p ≡ still emptied.page_tables p (page_at nested.pages p)
pages_left zero = refl
pages_left (suc zero) = refl
pages_left (suc (suc zero)) = refl
pages_left (suc (suc (suc zero))) = refl
pages_left (suc (suc (suc (suc p)))) = refl

-- task 2 shows the most, and so is the victim
none_worse : (t : ℕ) → is_candidate groups tasks 1 t ≡ true → is_worse nested.page_tables t 2 ≡ false
none_worse zero known = refl
none_worse (suc zero) known = refl
none_worse (suc (suc zero)) known = refl
none_worse (suc (suc (suc zero))) known = refl
none_worse (suc (suc (suc (suc t)))) known = refl

-- the reply names it, the group and how many died
kills : Step nested (relieve 1) (reply.KilledAll (task 2) (group 2) 2) emptied
unfolding chain_up chain under_at chain_below effective_along
kills = (record { among = refl; none_worse = none_worse }, refl, refl, record { none = none; others = others; pages = pages_left; ends = ends; stays = stays; state = refl })
  where
    none : (u v : ℕ) → is_candidate groups tasks 2 u ≡ true → mapped_at emptied.page_tables u v ≡ None
    none zero v gone = refl
    none (suc zero) v gone = refl
    none (suc (suc zero)) v gone = refl
    none (suc (suc (suc zero))) v gone = cc
    none (suc (suc (suc (suc u)))) v gone = refl

    others : (u v : ℕ) → is_candidate groups tasks 2 u ≡ false → mapped_at emptied.page_tables u v ≡ mapped_at nested.page_tables u v
    others zero v other = refl
    others (suc zero) v other = cc
    others (suc (suc zero)) v other = cc
    others (suc (suc (suc u))) v other = refl

    ends : (u : ℕ) → is_candidate groups tasks 2 u ≡ true → task_at emptied.tasks u ≡ Some (task_of (group_of_task tasks u) Killed)
    ends zero gone = cc
    ends (suc zero) gone = refl
    ends (suc (suc zero)) gone = refl
    ends (suc (suc (suc zero))) gone = cc
    ends (suc (suc (suc (suc zero)))) gone = cc
    ends (suc (suc (suc (suc (suc zero))))) gone = cc
    ends (suc (suc (suc (suc (suc (suc u)))))) gone = cc

    stays : (u : ℕ) → is_candidate groups tasks 2 u ≡ false → task_at emptied.tasks u ≡ task_at tasks u
    stays zero other = refl
    stays (suc zero) other = cc
    stays (suc (suc zero)) other = cc
    stays (suc (suc (suc u))) other = refl

-- ---- no other reply

-- the victim is not killed alone
not_alone : (new : State) → Step nested (relieve 1) (reply.KilledTask (task 2)) new → ⊥
unfolding chain_up chain under_at chain_below effective_along
not_alone new step = never_some _ step.1 refl

-- nor is nobody
not_nobody : (new : State) → Step nested (relieve 1) reply.NoVictim new → ⊥
unfolding chain_up chain under_at chain_below effective_along
not_nobody new step = let e : true ≡ false = step.0 2 in cc

-- where no group has the flag, none is named
not_without_flag : (h n : ℕ) (new : State) → Step (crowded (single 5)) (relieve 1) (reply.KilledAll (task 2) (group h) n) new → ⊥
unfolding chain_up chain under_at chain_below effective_along
not_without_flag h n new step = never_some _ refl step.1

-- the smaller task, which dies too, is not named as the victim
not_other_victim : (h n : ℕ) (new : State) → Step nested (relieve 1) (reply.KilledAll (task 1) (group h) n) new → ⊥
unfolding chain_up chain under_at chain_below effective_along
not_other_victim h n new step = let e : true ≡ false = step.0.none_worse 2 refl in cc

-- the reply says that task 2 was the victim, that this group was killed, and so many tasks with it
abbrev KillsAs : ℕ → ℕ → State → Type 0
KillsAs h n new = Step nested (relieve 1) (reply.KilledAll (task 2) (group h) n) new

-- the group that is named is /a/b
names_group : (h n : ℕ) (new : State) → KillsAs h n new → 2 ≡ h
unfolding chain_up chain under_at chain_below effective_along
names_group h n new step = some_inj step.1

-- and so not the lower one with the flag
not_lower : (n : ℕ) (new : State) → KillsAs 4 n new → ⊥
not_lower n new step = absurd (let e = names_group 4 n new step in omega (arith, e))

-- nor the limit, which has none
not_limit : (n : ℕ) (new : State) → KillsAs 1 n new → ⊥
not_limit n new step = absurd (let e = names_group 1 n new step in omega (arith, e))

-- /a has the flag too
abbrev topped : State
topped = crowded (flagged Whole Whole Single Single)

-- where room is wanted under /a/b it is not named
not_above : (n : ℕ) (new : State) → Step topped (relieve 2) (reply.KilledAll (task 2) (group 1) n) new → ⊥
unfolding chain_up chain under_at chain_below effective_along
not_above n new step = absurd (let e : 2 ≡ 1 = some_inj step.1 in omega (arith, e))

-- two tasks died, and no reply says another number
names_number : (n : ℕ) (new : State) → KillsAs 2 n new → n ≡ 2
unfolding chain_up chain under_at chain_below effective_along
names_number n new step = step.2

-- not that of the others alone
not_one : (new : State) → KillsAs 2 1 new → ⊥
not_one new step = absurd (let e = names_number 1 new step in omega (arith, e))

-- and not that of all under the limit
not_three : (new : State) → KillsAs 2 3 new → ⊥
not_three new step = absurd (let e = names_number 3 new step in omega (arith, e))

-- ---- no other state

-- no task of the group runs on
not_left_alive : (new : State) → lives new.tasks 1 ≡ true → KillsAs 2 2 new → ⊥
unfolding chain_up chain under_at chain_below effective_along
not_left_alive new runs step = unlike (lives new.tasks 1) runs (ap (there_and is_live_task) (step.3.ends 1 refl))

-- no task outside dies too
not_outside : (new : State) → lives new.tasks 3 ≡ false → KillsAs 2 2 new → ⊥
unfolding chain_up chain under_at chain_below effective_along
not_outside new died step = unlike (lives new.tasks 3) (ap (there_and is_live_task) (step.3.stays 3 refl)) died

-- one that exited before is not killed
not_again : (new : State) → KillsAs 2 2 new → task_at new.tasks 5 ≡ Some (task_of 4 Exited)
unfolding chain_up chain under_at chain_below effective_along
not_again new step = step.3.stays 5 refl

-- what tasks show is what they show in the state above
shows_alike : (new : State) → KillsAs 2 2 new → (u v : ℕ) → mapped_at new.page_tables u v ≡ mapped_at emptied.page_tables u v
unfolding chain_up chain under_at chain_below effective_along
shows_alike new step zero v = step.3.others 0 v refl
shows_alike new step (suc zero) v = step.3.none 1 v refl
shows_alike new step (suc (suc zero)) v = step.3.none 2 v refl
shows_alike new step (suc (suc (suc zero))) v = step.3.others 3 v refl
shows_alike new step (suc (suc (suc (suc zero)))) v = step.3.others 4 v refl
shows_alike new step (suc (suc (suc (suc (suc zero))))) v = step.3.others 5 v refl
shows_alike new step (suc (suc (suc (suc (suc (suc u)))))) v = step.3.others (suc (suc (suc (suc (suc (suc u)))))) v refl

-- and so are the pages
pages_alike : (new : State) → KillsAs 2 2 new → (p : ℕ) → page_at new.pages p ≡ page_at emptied.pages p
unfolding chain_up chain under_at chain_below effective_along
pages_alike new step p = step.3.pages p ∙ same (page_at nested.pages p) ∙ sym (pages_left p)
  where
    same : (slot : Option Page) → still new.page_tables p slot ≡ still emptied.page_tables p slot
    same None = refl
    same (Some page) = rw (mappers-alike emptied.page_tables new.page_tables p (shows_alike new step)) refl

-- the page that task 3 shows does not go
not_shared_page : (new : State) → page_at new.pages 2 ≡ None → KillsAs 2 2 new → ⊥
not_shared_page new gone step = never_some (page_at new.pages 2) gone (pages_alike new step 2)

-- that of task 1 does, though task 1 was not the victim
not_page_left : (new : State) (page : Page) → page_at new.pages 0 ≡ Some page → KillsAs 2 2 new → ⊥
not_page_left new page left step = never_some (page_at new.pages 0) (pages_alike new step 0) left

-- the table of counts is the one above
counts_alike : (new : State) → KillsAs 2 2 new → new.counted ≡ emptied.counted
unfolding chain_up chain under_at chain_below effective_along
counts_alike new step = ap (λ (s : State). s.counted) step.3.state

-- the kill of the group is not counted at the limit
not_counted_at_limit : (new : State) → local new.counted 1 key.OomGroupKill ≡ 1 → KillsAs 2 2 new → ⊥
not_counted_at_limit new once step = absurd (let e : local new.counted 1 key.OomGroupKill ≡ 0 = ap (λ counted. local counted 1 key.OomGroupKill) (counts_alike new step) in omega (arith, once, e))

-- and the two that died are not counted as one
not_counted_once : (new : State) → local new.counted 4 key.OomKill ≡ 1 → KillsAs 2 2 new → ⊥
not_counted_once new once step = absurd (let e : local new.counted 4 key.OomKill ≡ 2 = ap (λ counted. local counted 4 key.OomKill) (counts_alike new step) in omega (arith, once, e))

-- ---- the events of the kill, one by one

-- the kill names `oom` at the limit, `oom_kill` for each task, and `oom_group_kill`
names : Names nested (relieve 1) (reply.KilledAll (task 2) (group 2) 2) emptied four
unfolding chain_up chain under_at
names = refl

-- and nothing else
names_alone : (events : List Counted) → Names nested (relieve 1) (reply.KilledAll (task 2) (group 2) 2) emptied events → events ≡ four
unfolding chain_up chain under_at
names_alone events h = h

-- so not `oom_group_kill` for each of them
names-not_each : Names nested (relieve 1) (reply.KilledAll (task 2) (group 2) 2) emptied (count_of 1 key.Oom ∷ count_of 4 key.OomKill ∷ count_of 4 key.OomKill ∷ count_of 2 key.OomGroupKill ∷ count_of 2 key.OomGroupKill ∷ []) → ⊥
names-not_each h = absurd (let e : 5 ≡ 4 = ap (λ (events : List Counted). length events) (names_alone _ h) in omega (arith, e))

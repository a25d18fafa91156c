-- How many tasks live after a step: at most one more than before; and where tasks end, fewer by those of them that lived.
use Rattle.std.proofs.Common.{◌≡◌, ℕ, suc, ◌+◌, ◌≤◌, Bool, true, false, List, [], ◌∷◌, Option, Some, None, refl, sym, ap, ◌∙◌, arith}
use Rattle.std.proofs.lemmas.Bool.{and_parts}
use Rattle.std.proofs.lemmas.List.Sums.{sum_by-cons}
use Rattle.machine.specs.declared.record.Life.{Life}
use Rattle.machine.specs.declared.record.Task.{Task}
use Rattle.machine.specs.declared.record.EventCounts.{EventCounts}
use Rattle.machine.specs.declared.record.Life.TheVariants.{Live}
use Rattle.machine.specs.declared.event.Event.{Event}
use Rattle.machine.specs.declared.reply.Reply.{Reply}
use Rattle.machine.specs.Slots.{at, there_and, count_there}
use Rattle.machine.specs.Tasks.{SetsTask, task_at, is_live_life, is_live_task, lives, live_tasks}
use Rattle.machine.specs.Tree.{Node}
use Rattle.machine.specs.Victim.{is_live_under}
use Rattle.machine.specs.State.{State}
use Rattle.machine.specs.Step.{EndsTasks, Step}
use Rattle.machine.proofs.SlotLemmas.{one_if, count_there-changes}
use Rattle.legal.proofs.Did.{Did, Kept, Made, Moved, Cached, Dropped, Ended, Spawned, Forked, Freed, Attached, Removed, Grown, step_did}

-- ---- counts over tables

-- where at each number what passes now and what is gone are together at most what passed, so they are in all
module _ {T : Type 0} (test gone : T → Bool) where
  count_there-parts : (xs ys : List (Option T)) → ((j : ℕ) → one_if (there_and test (at ys j)) + one_if (there_and gone (at xs j)) ≤ one_if (there_and test (at xs j)))
      → count_there test ys + count_there gone xs ≤ count_there test xs
  count_there-parts [] [] parts = omega arith
  count_there-parts [] (y ∷ ys) parts =
      let f : Option T → ℕ = λ slot. one_if (there_and test slot) in
      let more = sum_by-cons f y ys in
      let here : f y + 0 ≤ 0 = parts 0 in
      let rest = count_there-parts [] ys (λ j. parts (suc j)) in
      omega (arith, more, here, rest)
  count_there-parts (x ∷ xs) [] parts =
      let f : Option T → ℕ = λ slot. one_if (there_and test slot) in
      let g : Option T → ℕ = λ slot. one_if (there_and gone slot) in
      let more = sum_by-cons f x xs in
      let more_gone = sum_by-cons g x xs in
      let here : 0 + g x ≤ f x = parts 0 in
      let rest = count_there-parts xs [] (λ j. parts (suc j)) in
      omega (arith, more, more_gone, here, rest)
  count_there-parts (x ∷ xs) (y ∷ ys) parts =
      let f : Option T → ℕ = λ slot. one_if (there_and test slot) in
      let g : Option T → ℕ = λ slot. one_if (there_and gone slot) in
      let more = sum_by-cons f x xs in
      let more_gone = sum_by-cons g x xs in
      let more_now = sum_by-cons f y ys in
      let here : f y + g x ≤ f x = parts 0 in
      let rest = count_there-parts xs ys (λ j. parts (suc j)) in
      omega (arith, more, more_gone, more_now, here, rest)

-- ---- ends of tasks

-- whoever is a live task under a limit is live
pub live_under-lives : (tree : List Node) (limit : ℕ) (slot : Option Task) → there_and (is_live_under tree limit) slot ≡ true → there_and is_live_task slot ≡ true
live_under-lives tree limit None is = cc
live_under-lives tree limit (Some task) is = (and_parts (is_live_task task) _ is).0

-- whoever ended lives no more: the tasks that live now, and the live ones that ended, were at most all that lived
module _ {old new : State} {is_gone : ℕ → Bool} {life : Life} {counted : List EventCounts} (dead : is_live_life life ≡ false) (h : EndsTasks old is_gone life counted new) where
  pub live-ended : (gone : Task → Bool) → ((u : ℕ) → there_and gone (task_at old.tasks u) ≡ true → (is_gone u ≡ true) × (lives old.tasks u ≡ true))
      → live_tasks new.tasks + count_there gone old.tasks ≤ live_tasks old.tasks
  live-ended gone those = count_there-parts is_live_task gone old.tasks new.tasks (λ u. by_end u (is_gone u) (there_and gone (task_at old.tasks u)) refl refl)
    where
      by_end : (u : ℕ) (b c : Bool) → is_gone u ≡ b → there_and gone (task_at old.tasks u) ≡ c
          → one_if (lives new.tasks u) + one_if (there_and gone (task_at old.tasks u)) ≤ one_if (lives old.tasks u)
      by_end u true true is goes =
          let none : one_if (lives new.tasks u) ≡ 0 = ap (λ (slot : Option Task). one_if (there_and is_live_task slot)) (h.ends u is) ∙ ap one_if dead in
          let one : one_if (there_and gone (task_at old.tasks u)) ≡ 1 = ap one_if goes in
          let was : one_if (lives old.tasks u) ≡ 1 = ap one_if (those u goes).1 in
          omega (arith, none, one, was)
      by_end u true false is stays =
          let none : one_if (lives new.tasks u) ≡ 0 = ap (λ (slot : Option Task). one_if (there_and is_live_task slot)) (h.ends u is) ∙ ap one_if dead in
          let not_one : one_if (there_and gone (task_at old.tasks u)) ≡ 0 = ap one_if stays in
          omega (arith, none, not_one)
      by_end u false true is goes = absurd (let e : true ≡ false = sym (those u goes).0 ∙ is in cc)
      by_end u false false is stays =
          let same : one_if (lives new.tasks u) ≡ one_if (lives old.tasks u) = ap (λ (slot : Option Task). one_if (there_and is_live_task slot)) (h.stays u is) in
          let not_one : one_if (there_and gone (task_at old.tasks u)) ≡ 0 = ap one_if stays in
          omega (arith, same, not_one)

  -- so no more live than before
  pub live-ended-le : live_tasks new.tasks ≤ live_tasks old.tasks
  live-ended-le = let less = live-ended (λ task. false) (λ u is. absurd (nobody (task_at old.tasks u) is)) in omega (arith, less)
    where
      nobody : (slot : Option Task) → there_and (λ (task : Task). false) slot ≡ true → ⊥
      nobody None is = cc
      nobody (Some task) is = cc

-- ---- steps

module _ (old new : State) (what : Event) (answer : Reply) where
  same_tasks : new.tasks ≡ old.tasks → live_tasks new.tasks ≤ live_tasks old.tasks + 1
  same_tasks e = let same = ap live_tasks e in omega (arith, same)

  one_set : (t g : ℕ) (life : Life) → SetsTask old.tasks t g life new.tasks → live_tasks new.tasks ≤ live_tasks old.tasks + 1
  one_set t g life sets =
      let change = count_there-changes is_live_task old.tasks new.tasks t _ sets in
      let most = one_if-le (is_live_life life) in
      omega (arith, change, most)
    where
      one_if-le : (b : Bool) → one_if b ≤ 1
      one_if-le true = omega arith
      one_if-le false = omega arith

  did_live : Did old what answer new → live_tasks new.tasks ≤ live_tasks old.tasks + 1
  did_live (Kept limits flags counted e) = same_tasks (ap (λ (s : State). s.tasks) e)
  did_live (Made t v p frame access out alive shared within free unused placed shown e) = same_tasks (ap (λ (s : State). s.tasks) e)
  did_live (Moved p page to dirty now counted there whose placed moves mapped e) = same_tasks (ap (λ (s : State). s.tasks) e)
  did_live (Cached t f q p frame ticket access out alive unread within free unused fresh filed placed e) = same_tasks (ap (λ (s : State). s.tasks) e)
  did_live (Dropped p page counted out there may_go went gone e) = same_tasks (ap (λ (s : State). s.tasks) e)
  did_live (Ended is_gone ending counted out dead ends) = let less = live-ended-le dead ends in omega (arith, less)
  did_live (Spawned t g is sets shown e) = one_set t.0 g.0 Live sets
  did_live (Forked t child is out alive sets copies e) = one_set child.0 _ Live sets
  did_live (Freed t v is out alive frees) = same_tasks (ap (λ (s : State). s.tasks) frees.state)
  did_live (Attached t g is out sets e) = one_set t.0 g.0 Live sets
  did_live (Removed g is out removes) = same_tasks (ap (λ (s : State). s.tasks) removes.state)
  did_live (Grown path is out e) = same_tasks (ap (λ (s : State). s.tasks) e)

  -- a step makes at most one task live
  pub step_live : Step old what answer new → live_tasks new.tasks ≤ live_tasks old.tasks + 1
  step_live step = did_live (step_did old new what answer step)

-- The laws.
use Rattle.std.proofs.Common.{◌≡◌, ℕ, ◌+◌, ◌<◌, ◌==◌, ◌&&◌, ◌||◌, not, Bool, true, false, cond, List, [], ◌∷◌, Option, Some, None, refl, ap, ◌∙◌, arith}
use Rattle.std.specs.Prelude.{MatchBool, find}
use Rattle.std.specs.List.{list_any}
use Rattle.std.proofs.lemmas.Bool.Decides.{nat_tests}
use Rattle.std.proofs.lemmas.List.Sums.{sum_by-cons}
use Rattle.machine.specs.declared.record.Life.{Life}
use Rattle.machine.specs.declared.record.Life.TheVariants.{Live, Exited, Killed}
use Rattle.machine.specs.declared.record.Task.{Task}
use Rattle.machine.specs.declared.record.EventCounts.{EventCounts}
use Rattle.machine.specs.declared.record.MemoryStat.{MemoryStat}
use Rattle.machine.specs.declared.record.Key.{Key}
use Rattle.machine.specs.declared.record.Key.TheVariants.{Low, High, Max, Oom, OomKill, OomGroupKill}
use Rattle.machine.specs.declared.event.Place.{Place}
use Rattle.machine.specs.declared.event.Op.{Op}
use Rattle.machine.specs.declared.event.Op.TheVariants.{Read, Write}
use Rattle.machine.specs.declared.reply.Reply.{Reply}
use Rattle.machine.specs.declared.reply.Reply.TheVariants as reply
use Rattle.machine.specs.declared.reply.Shown.TheVariants as shown
use Rattle.machine.specs.declared.record.Limits.{Limits}
use Rattle.machine.specs.Slots.{at, Changes, there_and, count_there}
use Rattle.machine.specs.Tree.{Node, chain, under_at, under}
use Rattle.machine.specs.Amounts.{exceeds}
use Rattle.machine.specs.Counts.{limits_at, is_full, over_at, count_of_key, local, total, counts_by}
use Rattle.machine.specs.Pages.{Content, Memory, OfFile, Residence, Held, Coming, Going, Away, Page, page_at, in_transfer_at, is_anon, frame_at, is_some_number, has_frame, is_charged, charged}
use Rattle.machine.specs.Tasks.{task_at}
use Rattle.machine.specs.State.{State, usage, stat_of, over_in, is_frame_free}
use Rattle.machine.specs.Access.{Meeting, Unmapped, Hits, Transferring, NeedsPage, NeedsCopy, NeedsSwapIn, NeedsRead, Dangling, meets}
use Rattle.machine.specs.Reclaim.{has_takeable, has_transfer, stands, target_of}
use Rattle.machine.specs.Step.{Only, Takes, LeavesFrom, LeavesBy, ChargeStep, MakesPage, StartsFetch, HitStep, UnmappedStep, MeetStep, LifeStep, TaskStep, new_page, touched}
use Rattle.machine.proofs.Values.{unlike}
use Rattle.machine.proofs.SlotLemmas.{one_if, count_there-changes}
use Rattle.legal.proofs.MoveLemmas.{hits_held}
use Rattle.laws.specs.Laws.{TransfersStayCharged, CurrentCountsPages, StatAddsUpToCurrent, EventsAreThoseCounted, ChargesStayWithinMax, ReadsGiveLastWrites}

-- ---- memory.current

pub current_counts_pages : CurrentCountsPages
current_counts_pages before after g n step = let e = step.0 in cc

-- ---- memory.stat

-- what passes a test is of one kind or of the other
both_kinds : {T : Type 0} (test kind : T → Bool) (slots : List (Option T)) → count_there (λ x. test x && kind x) slots + count_there (λ x. test x && not (kind x)) slots ≡ count_there test slots
both_kinds test kind [] = refl
both_kinds {T} test kind (slot ∷ slots) =
    let all = sum_by-cons (λ (slot : Option T). one_if (there_and test slot)) slot slots in
    let of_kind = sum_by-cons (λ (slot : Option T). one_if (there_and (λ x. test x && kind x) slot)) slot slots in
    let of_other = sum_by-cons (λ (slot : Option T). one_if (there_and (λ x. test x && not (kind x)) slot)) slot slots in
    let here = by_slot slot in
    let rest = both_kinds test kind slots in
    omega (arith, all, of_kind, of_other, here, rest)
  where
    by_tests : (a b : Bool) → one_if (a && b) + one_if (a && not b) ≡ one_if a
    by_tests true true = refl
    by_tests true false = refl
    by_tests false b = refl

    by_slot : (slot : Option T) → one_if (there_and (λ x. test x && kind x) slot) + one_if (there_and (λ x. test x && not (kind x)) slot) ≡ one_if (there_and test slot)
    by_slot None = refl
    by_slot (Some x) = by_tests (test x) (kind x)

pub stat_adds_up_to_current : StatAddsUpToCurrent
stat_adds_up_to_current before after g stat step =
    let e = step.0 in
    let same : stat ≡ stat_of before g = cc in
    ap (λ (x : MemoryStat). x.anon + x.file) same ∙ both_kinds (is_charged before.tree g) (λ (page : Page). is_anon page.content) before.pages

-- ---- memory.events and memory.events.local

-- counts that are made of each key's count say that count of it
count_of_key-by : (count : Key → ℕ) (key : Key) → count_of_key (counts_by count) key ≡ count key
count_of_key-by count Low = refl
count_of_key-by count High = refl
count_of_key-by count Max = refl
count_of_key-by count Oom = refl
count_of_key-by count OomKill = refl
count_of_key-by count OomGroupKill = refl

shows_counts : (counts : EventCounts) (count : Key → ℕ) (key : Key) → shown.Events counts ≡ shown.Events (counts_by count) → count_of_key counts key ≡ count key
shows_counts counts count key shows =
    let same : counts ≡ counts_by count = cc in ap (λ (c : EventCounts). count_of_key c key) same ∙ count_of_key-by count key

pub events_are_those_counted : EventsAreThoseCounted
events_are_those_counted before after g counts key =
    (λ step. shows_counts counts (total before.tree before.counted g) key step.0, λ step. shows_counts counts (local before.counted g) key step.0)

-- ---- reads

pub reads_give_last_writes : ReadsGiveLastWrites
reads_give_last_writes first [] earlier entry right = right.1
reads_give_last_writes first (newest ∷ later) earlier entry right = reads_give_last_writes first later earlier entry right.0

-- ---- kills

pub by_test : {P Q R : Type 0} (b : Bool) → (P → R) → (Q → R) → MatchBool b P Q → R
by_test true f g h = f h
by_test false f g h = g h

-- it says that a page was taken
abbrev pub is_taking : Reply → Bool
is_taking (reply.Out ticket) = true
is_taking reply.Dropped = true
is_taking answer = false

-- so does the answer where one leaves
taking_by : (old new : State) (p frame : ℕ) (page : Page) (content : Content) (counted : List EventCounts) (answer : Reply) → LeavesBy old p page content frame counted answer new → is_taking answer ≡ true
taking_by old new p frame page Memory counted answer h = ap is_taking h.leave.answers
taking_by old new p frame page (OfFile file q) counted answer h = by_test page.dirty (λ k. ap is_taking k.answers) (λ k. ap is_taking k.answers) h

taking_from : (old new : State) (p : ℕ) (page : Page) (residence : Residence) (counted : List EventCounts) (answer : Reply) → LeavesFrom old p page residence counted answer new → is_taking answer ≡ true
taking_from old new p page (Held frame) counted answer h = taking_by old new p frame page page.content counted answer h
taking_from old new p page (Coming frame block ticket) counted answer h = absurd h
taking_from old new p page (Going frame block ticket) counted answer h = absurd h
taking_from old new p page (Away block) counted answer h = absurd h

pub never_taken : (old : State) (target : ℕ) (answer : Reply) (new : State) → is_taking answer ≡ false → Takes old target answer new → ⊥
never_taken old target answer new other h = unlike (is_taking answer) (taking_from old new h.p h.page h.page.residence _ answer h.leaves) other

pub idle_of : (a b : Bool) (P Q R S : Type 0) → (P → ⊥) → (Q → ⊥) → (R → S) → MatchBool a P (MatchBool b Q R) → ((not a && not b) ≡ true) × S
idle_of true b P Q R S f g k h = absurd (f h)
idle_of false true P Q R S f g k h = absurd (g h)
idle_of false false P Q R S f g k h = (refl, k h)

-- ---- charges

-- with no group over its max on the way up, none of them is full
not_full : (full : ℕ → Bool) (groups : List ℕ) (a : ℕ) → find full groups ≡ None → list_any (λ g. a == g) groups ≡ true → full a ≡ false
not_full full [] a none is = cc
not_full full (g ∷ groups) a none is =
    elim (full g) as (λ b. full g ≡ b → cond b (Some g) (find full groups) ≡ None → full a ≡ false) [
      | true ↦ λ f none. cc
      | false ↦ λ f none.
          elim (a == g) as (λ b. (a == g) ≡ b → (b || list_any (λ g. a == g) groups) ≡ true → full a ≡ false) [
            | true ↦ λ same is. (let e : a ≡ g = grind (arith, nat_tests, same) in ap full e ∙ f)
            | false ↦ λ other is. not_full full groups a none is
          ] refl is
    ] refl none

granted_within : (tree : List Node) (limits : List Limits) (count : ℕ → ℕ) (g a : ℕ) → over_at tree limits count (Some g) ≡ None → under tree a g ≡ true → exceeds (count a + 1) (limits_at limits a).max ≡ false
unfolding over_at under_at
granted_within tree limits count g a none is = not_full (is_full limits count) (chain tree (Some g)) a none is

module _ (before after : State) (a : ℕ) where
  Within : Type 0
  Within = usage before a < usage after a → exceeds (usage after a) (limits_at after.limits a).max ≡ false

  same_within : after ≡ before → Within
  unfolding Within
  same_within same more = absurd (let e : usage after a ≡ usage before a = ap (λ (s : State). usage s a) same in omega (arith, more, e))

  counted_within : {counted : List EventCounts} → after ≡ record before { counted = counted } → Within
  unfolding Within
  counted_within same more = absurd (let e : usage after a ≡ usage before a = ap (λ (s : State). usage s a) same in omega (arith, more, e))

module _ (before after : State) (a : ℕ) where
  test_of : Page → Bool
  test_of = is_charged before.tree a

  -- a page that is put somewhere is charged once more at most, to its group and to those above it
  placed_within : (p g : ℕ) (page : Page) → page.group ≡ g → has_frame page ≡ true → over_in before g ≡ None → Changes before.pages after.pages p (Some page) → after.tree ≡ before.tree → after.limits ≡ before.limits → Within before after a
  unfolding Within test_of
  placed_within p g page of_group framed none placed tree limits more = by_under (under before.tree a g) refl
    where
      stands : ℕ
      stands = one_if (there_and test_of (at before.pages p))

      count : count_there test_of after.pages + stands ≡ count_there test_of before.pages + one_if (test_of page)
      count = count_there-changes test_of before.pages after.pages p (Some page) placed

      usage_is : usage after a ≡ count_there test_of after.pages
      usage_is = ap (λ (nodes : List Node). charged nodes after.pages a) tree

      test_is : test_of page ≡ under before.tree a g
      test_is = ap (λ b. b && under before.tree a page.group) framed ∙ ap (under before.tree a) of_group

      by_under : (b : Bool) → under before.tree a g ≡ b → exceeds (usage after a) (limits_at after.limits a).max ≡ false
      by_under false is = absurd (let none_more : one_if (test_of page) ≡ 0 = ap one_if (test_is ∙ is) in omega (arith, more, count, usage_is, none_more))
      by_under true is =
          let one_more : one_if (test_of page) ≡ 1 = ap one_if (test_is ∙ is) in
          let sum : usage after a ≡ usage before a + 1 = omega (arith, more, count, usage_is, one_more) in
          rw (sum, limits) (granted_within before.tree before.limits (usage before) g a none is)

  -- a page that is written in place stays charged as it was
  touched_within : (p frame : ℕ) (page : Page) (b : ℕ) → page_at before.pages p ≡ Some page → Changes before.pages after.pages p (Some (touched page (Write b))) → after.tree ≡ before.tree → Within before after a
  unfolding Within test_of
  touched_within p frame page b there placed tree more =
      absurd
      (let count = count_there-changes test_of before.pages after.pages p (Some (touched page (Write b))) placed in
      let usage_is : usage after a ≡ count_there test_of after.pages = ap (λ (nodes : List Node). charged nodes after.pages a) tree in
      let stands : one_if (there_and test_of (at before.pages p)) ≡ one_if (test_of page) = ap (λ (slot : Option Page). one_if (there_and test_of slot)) there in
      let same : one_if (test_of (touched page (Write b))) ≡ one_if (test_of page) = refl in
      omega (arith, more, count, usage_is, stands, same))

  charge_within : (g : ℕ) (Granted : Type 0) (answer : Reply) → (over_in before g ≡ None → Granted → Within before after a) → ChargeStep before (over_in before g) (is_frame_free before) Granted answer after → Within before after a
  charge_within g Granted answer granted step = by_over (over_in before g) refl step
    where
      by_free : (free : Bool) → over_in before g ≡ None → MatchBool free Granted (Only before reply.NoFrame answer after) → Within before after a
      by_free true none h = granted none h
      by_free false none h = same_within before after a h.1

      by_over : (low : Option ℕ) → over_in before g ≡ low → ChargeStep before low (is_frame_free before) Granted answer after → Within before after a
      by_over (Some low) is h = counted_within before after a h.1
      by_over None is h = by_free (is_frame_free before) is h

  unmapped_within : (answer : Reply) → UnmappedStep before answer after → Within before after a
  unmapped_within (reply.Done byte hit) h = same_within before after a h.1
  unmapped_within answer h = absurd h

  hit_within : (p frame : ℕ) (page : Page) (op : Op) (answer : Reply) → page_at before.pages p ≡ Some page → HitStep before p page frame op answer after → Within before after a
  hit_within p frame page Read (reply.Done byte hit) there h = same_within before after a h.1
  hit_within p frame page (Write b) (reply.Done byte hit) there h = touched_within p frame page b there h.2 (ap (λ (s : State). s.tree) h.3)
  hit_within p frame page op answer there h = absurd h

  makes_within : (t v g : ℕ) (op : Op) (answer : Reply) → over_in before g ≡ None → MakesPage before t v g op answer after → Within before after a
  makes_within t v g op answer none h = placed_within h.page g (new_page g h.frame) refl refl none h.placed (ap (λ (s : State). s.tree) h.state) (ap (λ (s : State). s.limits) h.state)

  fetch_within : (p g : ℕ) (content : Content) (block : ℕ) (answer : Reply) → over_in before g ≡ None → StartsFetch before p g content block answer after → Within before after a
  fetch_within p g content block answer none h =
      placed_within p g (record { content = content; group = g; dirty = false; residence = Coming h.frame block h.ticket }) refl refl none h.placed (ap (λ (s : State). s.tree) h.state) (ap (λ (s : State). s.limits) h.state)

  meet_within : (t g : ℕ) (place : Place) (op : Op) (answer : Reply) (meeting : Meeting) → meets before t place op ≡ meeting → MeetStep before t g op meeting answer after → Within before after a
  meet_within t g place op answer Unmapped is h = unmapped_within answer h
  meet_within t g place op answer (Hits p page frame) is h = hit_within p frame page op answer (hits_held before t place op p page frame is).0 h
  meet_within t g place op answer Transferring is h = same_within before after a h.1
  meet_within t g place op answer (NeedsPage v) is h = charge_within g _ answer (λ none made. makes_within t v g op answer none made) h
  meet_within t g place op answer (NeedsCopy v) is h = charge_within g _ answer (λ none made. makes_within t v g op answer none made) h
  meet_within t g place op answer (NeedsSwapIn p page block) is h = charge_within _ _ answer (λ none begun. fetch_within p _ page.content block answer none begun) h
  meet_within t g place op answer (NeedsRead file q) is h = charge_within g _ answer (λ none begun. fetch_within begun.page g (OfFile file q) _ answer none begun.fetch) h
  meet_within t g place op answer Dangling is h = absurd h

pub charges_stay_within_max : ChargesStayWithinMax
unfolding Within
charges_stay_within_max before after t place op answer a step = by_slot (task_at before.tasks t) step
  where
    by_life : (task : Task) (ending : Life) → LifeStep before ending (MeetStep before t task.group.0 op (meets before t place op) answer after) answer after → Within before after a
    by_life task Live h = meet_within before after a t task.group.0 place op answer (meets before t place op) refl h
    by_life task Exited h = absurd h
    by_life task Killed h = same_within before after a h.1

    by_slot : (slot : Option Task) → TaskStep before slot (λ task. MeetStep before t task.group.0 op (meets before t place op) answer after) answer after → Within before after a
    by_slot None h = absurd h
    by_slot (Some task) h = by_life task task.life h

-- ---- transfers

pub transfers_stay_charged : TransfersStayCharged
transfers_stay_charged tree a page moving = ap (λ b. b && under tree a page.group) (framed page.residence moving)
  where
    framed : (r : Residence) → in_transfer_at r ≡ true → is_some_number (frame_at r) ≡ true
    framed (Coming frame block ticket) e = refl
    framed (Going frame block ticket) e = refl
    framed r e = cc

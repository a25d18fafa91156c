-- Which events change what is set of a group.
use Rattle.std.proofs.Common.{◌≡◌, inl, inr, ℕ, zero, suc, ◌<◌, ◌==◌, ◌||◌, not, Bool, true, false, List, [], ◌∷◌, ◌++◌, length, Option, Some, None, refl, sym, ap, ◌∙◌, subst, arith, length-append, length-set}
use Rattle.std.specs.Prelude.{◌⊎◌, slice_index_or, slice_set}
use Rattle.std.proofs.lemmas.Bool.{cases_lt}
use Rattle.std.proofs.lemmas.List.{get_or_append_left, get_or-set_same}
use Rattle.std.proofs.Math.ListN.{get_or-eq_default}
use Rattle.machine.specs.declared.amount.Amount.{Amount}
use Rattle.machine.specs.declared.entry.Entry.{Entry}
use Rattle.machine.specs.declared.event.Op.{Op}
use Rattle.machine.specs.declared.event.Op.TheVariants.{Read, Write}
use Rattle.machine.specs.declared.event.Cause.{Cause}
use Rattle.machine.specs.declared.event.Setting.{Setting}
use Rattle.machine.specs.declared.event.Setting.TheVariants as setting
use Rattle.machine.specs.declared.event.Event.{Event}
use Rattle.machine.specs.declared.event.Event.TheVariants as event
use Rattle.machine.specs.declared.record.EventCounts.{EventCounts}
use Rattle.machine.specs.declared.record.Guard.TheVariants as guard
use Rattle.machine.specs.declared.record.Life.{Life}
use Rattle.machine.specs.declared.record.Life.TheVariants.{Live, Exited, Killed}
use Rattle.machine.specs.declared.record.Limits.{Limits}
use Rattle.machine.specs.declared.record.OomGroup.{OomGroup}
use Rattle.machine.specs.declared.record.OomGroup.TheVariants.{Single}
use Rattle.machine.specs.declared.record.Task.{Task}
use Rattle.machine.specs.declared.refusal.Refusal.TheVariants.{NoEntry}
use Rattle.machine.specs.declared.reply.Reply.{Reply}
use Rattle.machine.specs.declared.reply.Reply.TheVariants as reply
use Rattle.machine.specs.Tree.{Node, no_node, node_at, is_live, without_group}
use Rattle.machine.specs.Pages.{Content, Memory, OfFile, Residence, Held, Coming, Going, Away, Page, Pages}
use Rattle.machine.specs.Counts.{no_limits, limits_at, guard_of, with_guard}
use Rattle.machine.specs.Tasks.{Tasks, PageTables, task_at}
use Rattle.machine.specs.State.{Opening, State, over_in, is_frame_free}
use Rattle.machine.specs.Access.{Meeting, Unmapped, Hits, Transferring, NeedsPage, NeedsCopy, NeedsSwapIn, NeedsRead, Dangling, meets}
use Rattle.machine.specs.Reclaim.{has_takeable, has_transfer, stands, target_of}
use Rattle.machine.specs.Victim.{flag_at, is_whole}
use Rattle.machine.specs.Refusals.{first_cause, file_refusal, refusal}
use Rattle.machine.specs.Step.{ChargeStep, TriesCharge, MakesPage, StartsFetch, ReadsFile, HitStep, UnmappedStep, MeetStep, LifeStep, TaskStep, Takes, LeavesBy, LeavesFrom, ReclaimStep, KillStep, RelieveStep, EndsTransfer, with_setting, Step}
use Rattle.machine.specs.Legal.{Legal}
use Rattle.machine.proofs.Values.{unlike}
use Rattle.legal.proofs.OpeningLemmas.{step_tree}
use Rattle.laws.specs.Laws.{RootIsNeverFlagged, HasSetting, SetsAt, HasDefaults, OnlySetsChangeSettings}
use Rattle.laws.proofs.LawLemmas.{by_test}

-- ---- lists that have a value for each number

-- with one more of what stands for none they have the same
or-push : {X : Type 0} (xs : List X) (d : X) (g : ℕ) → slice_index_or (xs ++ d ∷ []) g d ≡ slice_index_or xs g d
or-push [] d zero = refl
or-push [] d (suc g) = refl
or-push (x ∷ xs) d zero = refl
or-push (x ∷ xs) d (suc g) = or-push xs d g

-- another value stands at its own number alone
or-set : {X : Type 0} (xs : List X) (h g : ℕ) (x d : X) → (slice_index_or (slice_set xs h x) g d ≡ slice_index_or xs g d) ⊎ ((h ≡ g) × (slice_index_or (slice_set xs h x) g d ≡ x))
or-set [] zero g x d = inl refl
or-set [] (suc h) g x d = inl refl
or-set (y ∷ xs) zero zero x d = inr (refl, refl)
or-set (y ∷ xs) zero (suc g) x d = inl refl
or-set (y ∷ xs) (suc h) zero x d = inl refl
or-set (y ∷ xs) (suc h) (suc g) x d = elim (or-set xs h g x d) [ inl same ↦ inl same | inr new ↦ inr (ap suc new.0, new.1) ]

-- ---- steps that leave all settings

abbrev changes_settings : Event → Bool
changes_settings (event.Set g it) = true
changes_settings (event.Mkdir path) = true
changes_settings what = false

module _ (before after : State) where
  abbrev Same : Type 0
  Same = (after.limits ≡ before.limits) × (after.flags ≡ before.flags)

  same : after ≡ before → Same
  same e = (ap (λ (s : State). s.limits) e, ap (λ (s : State). s.flags) e)

  -- all but settings may be another
  kept : {tree : List Node} {pages : Pages} {tasks : Tasks} {tables : PageTables} {counted : List EventCounts}
      → after ≡ record before { tree = tree; pages = pages; tasks = tasks; page_tables = tables; counted = counted } → Same
  kept e = (ap (λ (s : State). s.limits) e, ap (λ (s : State). s.flags) e)

  charged : (g : ℕ) (Granted : Type 0) (answer : Reply) → (Granted → Same) → TriesCharge before g Granted answer after → Same
  charged g Granted answer granted step = by_over (over_in before g) step
    where
      by_over : (low : Option ℕ) → ChargeStep before low (is_frame_free before) Granted answer after → Same
      by_over (Some low) h = kept h.1
      by_over None h = by_test (is_frame_free before) granted (λ k. same k.1) h

  unmapped : (answer : Reply) → UnmappedStep before answer after → Same
  unmapped (reply.Done byte hit) h = same h.1
  unmapped answer h = absurd h

  hits : (p : ℕ) (page : Page) (frame : ℕ) (op : Op) (answer : Reply) → HitStep before p page frame op answer after → Same
  hits p page frame Read (reply.Done byte hit) h = same h.1
  hits p page frame (Write b) (reply.Done byte hit) h = kept h.3
  hits p page frame op answer h = absurd h

  makes : (t v g : ℕ) (op : Op) (answer : Reply) → MakesPage before t v g op answer after → Same
  makes t v g op answer h = kept h.state

  fetches : (p g : ℕ) (content : Content) (block : ℕ) (answer : Reply) → StartsFetch before p g content block answer after → Same
  fetches p g content block answer h = kept h.state

  reads : (file q g : ℕ) (answer : Reply) → ReadsFile before file q g answer after → Same
  reads file q g answer h = kept h.fetch.state

  meeting : (t g : ℕ) (op : Op) (met : Meeting) (answer : Reply) → MeetStep before t g op met answer after → Same
  meeting t g op Unmapped answer h = unmapped answer h
  meeting t g op (Hits p page frame) answer h = hits p page frame op answer h
  meeting t g op Transferring answer h = same h.1
  meeting t g op (NeedsPage v) answer h = charged g _ answer (makes t v g op answer) h
  meeting t g op (NeedsCopy v) answer h = charged g _ answer (makes t v g op answer) h
  meeting t g op (NeedsSwapIn p page block) answer h = charged _ _ answer (fetches p _ page.content block answer) h
  meeting t g op (NeedsRead file q) answer h = charged g _ answer (reads file q g answer) h
  meeting t g op Dangling answer h = absurd h

  of_task : (slot : Option Task) (Live_step : Task → Type 0) (answer : Reply) → ((task : Task) → Live_step task → Same) → TaskStep before slot Live_step answer after → Same
  of_task None Live_step answer living h = absurd h
  of_task (Some task) Live_step answer living h = by_life task.life h
    where
      by_life : (life : Life) → LifeStep before life (Live_step task) answer after → Same
      by_life Live k = living task k
      by_life Exited k = absurd k
      by_life Killed k = same k.1

  leaves_by : (p frame : ℕ) (page : Page) (content : Content) (counted : List EventCounts) (answer : Reply) → LeavesBy before p page content frame counted answer after → Same
  leaves_by p frame page Memory counted answer h = kept h.leave.state
  leaves_by p frame page (OfFile file q) counted answer h = by_test page.dirty (λ k. kept k.state) (λ k. kept k.state) h

  leaves_from : (p : ℕ) (page : Page) (r : Residence) (counted : List EventCounts) (answer : Reply) → LeavesFrom before p page r counted answer after → Same
  leaves_from p page (Held frame) counted answer h = leaves_by p frame page page.content counted answer h
  leaves_from p page (Coming frame block ticket) counted answer h = absurd h
  leaves_from p page (Going frame block ticket) counted answer h = absurd h
  leaves_from p page (Away block) counted answer h = absurd h

  takes : (target : ℕ) (answer : Reply) → Takes before target answer after → Same
  takes target answer h = leaves_from h.p h.page h.page.residence _ answer h.leaves

  reclaims : (target : ℕ) (Idle : Type 0) (answer : Reply) → (Idle → Same) → ReclaimStep before target Idle answer after → Same
  reclaims target Idle answer idle step = by_test (has_takeable before target) (takes target answer) (λ k. by_test (has_transfer before target) (λ w. same w.1) idle k) step

  kills : (limit : ℕ) (answer : Reply) → KillStep before limit answer after → Same
  kills limit (reply.KilledTask t) h = kept h.2.state
  kills limit (reply.KilledAll victim g tasks) h = kept h.3.state
  kills limit reply.NoVictim h = kept h.1
  kills limit answer h = absurd h

  relieves : (why : Cause) (answer : Reply) → RelieveStep before why answer after → Same
  relieves why answer step = by_test (stands before why) (reclaims (target_of why) _ answer (kills (target_of why) answer)) (λ r. same r.1) step

  settles : (from : ℕ → ℕ → Residence) (to : PageTables → ℕ → Page → ℕ → ℕ → Option Page) (answer : Reply) → EndsTransfer before from to answer after → Same
  settles from to answer h = kept h.state

  step_same : (what : Event) (answer : Reply) → changes_settings what ≡ false → Step before what answer after → Same
  step_same (event.Access t place op) answer other h = of_task (task_at before.tasks t.0) _ answer (λ task k. meeting t.0 task.group.0 op (meets before t.0 place op) answer k) h
  step_same (event.Arrived ticket bytes) answer other h = settles _ _ answer h
  step_same (event.FetchFailed ticket) answer other h = settles _ _ answer h
  step_same (event.Left ticket) answer other h = settles _ _ answer h
  step_same (event.LeaveFailed ticket) answer other h = settles _ _ answer h
  step_same (event.Relieve why) answer other h = relieves why answer h
  step_same (event.ReclaimOne g) answer other h = reclaims g.0 _ answer (λ n. same n.1) h
  step_same (event.Spawn t g) reply.Ok other h = kept h.2
  step_same (event.Fork t child) answer other h = of_task (task_at before.tasks t.0) _ answer (λ task k. kept k.3) h
  step_same (event.Exit t) answer other h = of_task (task_at before.tasks t.0) _ answer (λ task k. kept k.1.state) h
  step_same (event.Free t v) answer other h = of_task (task_at before.tasks t.0) _ answer (λ task k. kept k.state) h
  step_same (event.Attach t g) reply.Ok other h = kept h.1
  step_same (event.Mkdir path) answer other h = unlike true refl other
  step_same (event.Rmdir g) reply.Ok other h = kept h.state
  step_same (event.Set g it) answer other h = unlike true refl other
  step_same (event.Show what) (reply.Shown numbers) other h = same h.1
  step_same (event.MergeMarks word bits) reply.Ok other h = same h
  step_same what answer other h = absurd h

-- ---- one setting

has-same : (before after : State) (g : ℕ) (it : Setting) → limits_at after.limits g ≡ limits_at before.limits g → flag_at after.flags g ≡ flag_at before.flags g → HasSetting after g it → HasSetting before g it
has-same before after g (setting.Max amount) limits flag has = sym (ap (λ (l : Limits). l.max) limits) ∙ has
has-same before after g (setting.Guard guard amount) limits flag has = sym (ap (guard_of guard) limits) ∙ has
has-same before after g (setting.OomGroup it) limits flag has = sym flag ∙ has

-- with a setting set a group has this, or what it had
module _ (s : State) (h : ℕ) where
  set_max : (amount : Amount) (g : ℕ) (it : Setting) → HasSetting (with_setting s h (setting.Max amount)) g it → HasSetting s g it ⊎ ((h ≡ g) × (setting.Max amount ≡ it))
  set_max amount g it has =
      elim (or-set s.limits h g (record (limits_at s.limits h) { max = amount }) no_limits) [
        | inl same ↦ inl (has-same s (with_setting s h (setting.Max amount)) g it same refl has)
        | inr new ↦ by_setting it new.0 new.1 has
      ]
    where
      by_setting : (it : Setting) → h ≡ g → limits_at (with_setting s h (setting.Max amount)).limits g ≡ record (limits_at s.limits h) { max = amount }
          → HasSetting (with_setting s h (setting.Max amount)) g it → HasSetting s g it ⊎ ((h ≡ g) × (setting.Max amount ≡ it))
      by_setting (setting.Max other) at is has = inr (at, ap setting.Max (sym (ap (λ (l : Limits). l.max) is) ∙ has))
      by_setting (setting.Guard guard.Min other) at is has = inl (ap (λ (i : ℕ). (limits_at s.limits i).min) (sym at) ∙ sym (ap (λ (l : Limits). l.min) is) ∙ has)
      by_setting (setting.Guard guard.Low other) at is has = inl (ap (λ (i : ℕ). (limits_at s.limits i).low) (sym at) ∙ sym (ap (λ (l : Limits). l.low) is) ∙ has)
      by_setting (setting.OomGroup other) at is has = inl has

  set_min : (amount : Amount) (g : ℕ) (it : Setting) → HasSetting (with_setting s h (setting.Guard guard.Min amount)) g it → HasSetting s g it ⊎ ((h ≡ g) × (setting.Guard guard.Min amount ≡ it))
  set_min amount g it has =
      elim (or-set s.limits h g (with_guard (limits_at s.limits h) guard.Min amount) no_limits) [
        | inl same ↦ inl (has-same s (with_setting s h (setting.Guard guard.Min amount)) g it same refl has)
        | inr new ↦ by_setting it new.0 new.1 has
      ]
    where
      by_setting : (it : Setting) → h ≡ g → limits_at (with_setting s h (setting.Guard guard.Min amount)).limits g ≡ with_guard (limits_at s.limits h) guard.Min amount
          → HasSetting (with_setting s h (setting.Guard guard.Min amount)) g it → HasSetting s g it ⊎ ((h ≡ g) × (setting.Guard guard.Min amount ≡ it))
      by_setting (setting.Max other) at is has = inl (ap (λ (i : ℕ). (limits_at s.limits i).max) (sym at) ∙ sym (ap (λ (l : Limits). l.max) is) ∙ has)
      by_setting (setting.Guard guard.Min other) at is has = inr (at, ap (setting.Guard guard.Min) (sym (ap (λ (l : Limits). l.min) is) ∙ has))
      by_setting (setting.Guard guard.Low other) at is has = inl (ap (λ (i : ℕ). (limits_at s.limits i).low) (sym at) ∙ sym (ap (λ (l : Limits). l.low) is) ∙ has)
      by_setting (setting.OomGroup other) at is has = inl has

  set_low : (amount : Amount) (g : ℕ) (it : Setting) → HasSetting (with_setting s h (setting.Guard guard.Low amount)) g it → HasSetting s g it ⊎ ((h ≡ g) × (setting.Guard guard.Low amount ≡ it))
  set_low amount g it has =
      elim (or-set s.limits h g (with_guard (limits_at s.limits h) guard.Low amount) no_limits) [
        | inl same ↦ inl (has-same s (with_setting s h (setting.Guard guard.Low amount)) g it same refl has)
        | inr new ↦ by_setting it new.0 new.1 has
      ]
    where
      by_setting : (it : Setting) → h ≡ g → limits_at (with_setting s h (setting.Guard guard.Low amount)).limits g ≡ with_guard (limits_at s.limits h) guard.Low amount
          → HasSetting (with_setting s h (setting.Guard guard.Low amount)) g it → HasSetting s g it ⊎ ((h ≡ g) × (setting.Guard guard.Low amount ≡ it))
      by_setting (setting.Max other) at is has = inl (ap (λ (i : ℕ). (limits_at s.limits i).max) (sym at) ∙ sym (ap (λ (l : Limits). l.max) is) ∙ has)
      by_setting (setting.Guard guard.Min other) at is has = inl (ap (λ (i : ℕ). (limits_at s.limits i).min) (sym at) ∙ sym (ap (λ (l : Limits). l.min) is) ∙ has)
      by_setting (setting.Guard guard.Low other) at is has = inr (at, ap (setting.Guard guard.Low) (sym (ap (λ (l : Limits). l.low) is) ∙ has))
      by_setting (setting.OomGroup other) at is has = inl has

  set_flag : (flag : OomGroup) (g : ℕ) (it : Setting) → HasSetting (with_setting s h (setting.OomGroup flag)) g it → HasSetting s g it ⊎ ((h ≡ g) × (setting.OomGroup flag ≡ it))
  set_flag flag g (setting.Max other) has = inl has
  set_flag flag g (setting.Guard guard other) has = inl has
  set_flag flag g (setting.OomGroup other) has = elim (or-set s.flags h g flag Single) [ inl same ↦ inl (sym same ∙ has) | inr new ↦ inr (new.0, ap setting.OomGroup (sym new.1 ∙ has)) ]

  set_one : (set : Setting) (g : ℕ) (it : Setting) → HasSetting (with_setting s h set) g it → HasSetting s g it ⊎ ((h ≡ g) × (set ≡ it))
  set_one (setting.Max amount) g it has = set_max amount g it has
  set_one (setting.Guard guard.Min amount) g it has = set_min amount g it has
  set_one (setting.Guard guard.Low amount) g it has = set_low amount g it has
  set_one (setting.OomGroup flag) g it has = set_flag flag g it has

-- and so with each step
has-step : (before after : State) (what : Event) (answer : Reply) → Step before what answer after → (g : ℕ) (it : Setting) → HasSetting after g it → HasSetting before g it ⊎ SetsAt what g it
has-step before after (event.Set h set) reply.Ok step g it has = set_one before h.0 set g it (subst (λ (s : State). HasSetting s g it) step has)
has-step before after (event.Set h set) answer step g it has = absurd step
has-step before after (event.Mkdir path) reply.Ok step g it has =
    inl
    (has-same before after g it (ap (λ (s : State). limits_at s.limits g) step ∙ or-push before.limits no_limits g)
    (ap (λ (s : State). flag_at s.flags g) step ∙ or-push before.flags Single g) has)
has-step before after (event.Mkdir path) answer step g it has = absurd step
has-step before after what answer step g it has =
    let same = step_same before after what answer refl step in
    inl (has-same before after g it (ap (λ (ls : List Limits). limits_at ls g) same.0) (ap (λ (fs : List OomGroup). flag_at fs g) same.1) has)

-- ---- the root

-- no setting of the root is written
not-root : (s : State) (what : Event) (it : Setting) → SetsAt what 0 it → refusal s what ≡ None → ⊥
not-root s (event.Set h set) it sets none = by_live (is_live s.tree 0) (subst (λ (n : ℕ). file_refusal s.tree n ≡ None) sets.0 none)
  where
    by_live : (live : Bool) → first_cause (not live || (0 == 0)) NoEntry None ≡ None → ⊥
    by_live true e = cc
    by_live false e = cc
not-root s what it sets none = absurd sets

root-flag : (opening : Opening) (history : List Entry) (s : State) → Legal opening history s → flag_at s.flags 0 ≡ Single
root-flag opening [] s first = ap (λ (x : State). flag_at x.flags 0) first
root-flag opening (entry ∷ earlier) s (before, legal, extends) =
    elim (has-step before s entry.event entry.reply extends.steps 0 (setting.OomGroup (flag_at s.flags 0)) refl) [
      | inl had ↦ sym had ∙ root-flag opening earlier before legal
      | inr sets ↦ absurd (not-root before entry.event (setting.OomGroup (flag_at s.flags 0)) sets extends.unrefused)
    ]

pub root_is_never_flagged : RootIsNeverFlagged
root_is_never_flagged opening history s legal = ap is_whole (root-flag opening history s legal)

-- ---- new groups

-- each group has its own
record AreAll (s : State) : Type 0 where
  limits : length s.limits ≡ length s.tree
  flags : length s.flags ≡ length s.tree

all-set : (s : State) (h : ℕ) (set : Setting) → AreAll s → AreAll (with_setting s h set)
all-set s h (setting.Max amount) all = record { limits = length-set s.limits h (record (limits_at s.limits h) { max = amount }) ∙ all.limits; flags = all.flags }
all-set s h (setting.Guard guard amount) all = record { limits = length-set s.limits h (with_guard (limits_at s.limits h) guard amount) ∙ all.limits; flags = all.flags }
all-set s h (setting.OomGroup flag) all = record { limits = all.limits; flags = length-set s.flags h flag ∙ all.flags }

all-other : (before after : State) → Same before after → length after.tree ≡ length before.tree → AreAll before → AreAll after
all-other before after same tree all =
    record {
      limits = ap (λ (ls : List Limits). length ls) same.0 ∙ all.limits ∙ sym tree;
      flags = ap (λ (fs : List OomGroup). length fs) same.1 ∙ all.flags ∙ sym tree;
    }

all-step : (before after : State) (what : Event) (answer : Reply) → Step before what answer after → AreAll before → AreAll after
all-step before after (event.Set h set) reply.Ok step all = subst AreAll (sym step) (all-set before h.0 set all)
all-step before after (event.Set h set) answer step all = absurd step
all-step before after (event.Mkdir path) reply.Ok step all = subst AreAll (sym step) (record { limits = grown before.limits no_limits before.tree _ all.limits; flags = grown before.flags Single before.tree _ all.flags })
  where
    grown : {X Y : Type 0} (xs : List X) (x : X) (ys : List Y) (y : Y) → length xs ≡ length ys → length (xs ++ x ∷ []) ≡ length (ys ++ y ∷ [])
    grown xs x ys y same = let longer = length-append xs (x ∷ []) in let other = length-append ys (y ∷ []) in omega (arith, same, longer, other)
all-step before after (event.Mkdir path) answer step all = absurd step
all-step before after (event.Rmdir g) reply.Ok step all =
    all-other before after (step_same before after (event.Rmdir g) reply.Ok refl step)
    (ap (λ (s : State). length s.tree) step.state ∙ length-set before.tree g.0 (record (node_at before.tree g.0) { live = false })) all
all-step before after (event.Rmdir g) answer step all = absurd step
all-step before after what answer step all =
    all-other before after (step_same before after what answer refl step) (ap (λ (tree : List Node). length tree) (step_tree before what answer after step)) all

legal-all : (opening : Opening) (history : List Entry) (s : State) → Legal opening history s → AreAll s
legal-all opening [] s first = subst AreAll (sym first) (record { limits = refl; flags = refl })
legal-all opening (entry ∷ earlier) s (before, legal, extends) = all-step before s entry.event entry.reply extends.steps (legal-all opening earlier before legal)

-- a group that is live once another was removed was so before
live-before : (tree : List Node) (h g : ℕ) → is_live (without_group tree h) g ≡ true → is_live tree g ≡ true
live-before tree h g live =
    elim (or-set tree h g (record (node_at tree h) { live = false }) no_node) [
      | inl same ↦ sym (ap (λ (n : Node). n.live) same) ∙ live
      | inr gone ↦ unlike (is_live (without_group tree h) g) live (ap (λ (n : Node). n.live) gone.1)
    ]

begins : (before after : State) (what : Event) (answer : Reply) → Step before what answer after → AreAll before → (g : ℕ) → is_live before.tree g ≡ false → is_live after.tree g ≡ true → HasDefaults after g
begins before after (event.Mkdir path) reply.Ok step all g none live =
    elim (cases_lt g (length before.tree)) [
      | inl there ↦
          unlike (is_live before.tree g)
          (sym (ap (λ (n : Node). n.live) (get_or_append_left before.tree _ no_node g there)) ∙ sym (ap (λ (s : State). is_live s.tree g) step) ∙ live) none
      | inr beyond ↦
          (let sizes = all.limits in let numbers = all.flags in (
            ap (λ (s : State). limits_at s.limits g) step ∙ or-push before.limits no_limits g ∙ get_or-eq_default before.limits no_limits (omega (arith, beyond, sizes)),
            ap (λ (s : State). flag_at s.flags g) step ∙ or-push before.flags Single g ∙ get_or-eq_default before.flags Single (omega (arith, beyond, numbers)),
          ))
    ]
begins before after (event.Mkdir path) answer step all g none live = absurd step
begins before after (event.Rmdir h) reply.Ok step all g none live =
    unlike (is_live before.tree g) (live-before before.tree h.0 g (sym (ap (λ (s : State). is_live s.tree g) step.state) ∙ live)) none
begins before after (event.Rmdir h) answer step all g none live = absurd step
begins before after what answer step all g none live =
    unlike (is_live before.tree g) (sym (ap (λ (tree : List Node). is_live tree g) (step_tree before what answer after step)) ∙ live) none

-- ---- a setting that is done

has-set : (s : State) (h : ℕ) (set : Setting) → h < length s.limits → h < length s.flags → HasSetting (with_setting s h set) h set
has-set s h (setting.Max amount) limits flags = ap (λ (l : Limits). l.max) (get_or-set_same s.limits h (record (limits_at s.limits h) { max = amount }) no_limits limits)
has-set s h (setting.Guard guard.Min amount) limits flags = ap (λ (l : Limits). l.min) (get_or-set_same s.limits h (with_guard (limits_at s.limits h) guard.Min amount) no_limits limits)
has-set s h (setting.Guard guard.Low amount) limits flags = ap (λ (l : Limits). l.low) (get_or-set_same s.limits h (with_guard (limits_at s.limits h) guard.Low amount) no_limits limits)
has-set s h (setting.OomGroup flag) limits flags = get_or-set_same s.flags h flag Single flags

-- whose setting is not refused stands in the list of groups
set-there : (s : State) (h : ℕ) → file_refusal s.tree h ≡ None → h < length s.tree
set-there s h none =
    elim (cases_lt h (length s.tree)) [
      | inl there ↦ there
      | inr beyond ↦ unlike (is_live s.tree h) (by_tests (is_live s.tree h) (h == 0) none) (ap (λ (n : Node). n.live) (get_or-eq_default s.tree no_node beyond))
    ]
  where
    by_tests : (live is_root : Bool) → first_cause (not live || is_root) NoEntry None ≡ None → live ≡ true
    by_tests true is_root e = refl
    by_tests false is_root e = cc

set-done : (before after : State) (what : Event) (answer : Reply) → Step before what answer after → AreAll before → refusal before what ≡ None → (g : ℕ) (it : Setting) → SetsAt what g it → HasSetting after g it
set-done before after (event.Set h set) reply.Ok step all none g it sets =
    let there = set-there before h.0 none in
    let limits = all.limits in
    let flags = all.flags in
    subst (λ (s : State). HasSetting s g it) (sym step)
    (subst (λ (x : Setting). HasSetting (with_setting before h.0 set) g x) sets.1
    (subst (λ (n : ℕ). HasSetting (with_setting before h.0 set) n set) sets.0
    (has-set before h.0 set (omega (arith, there, limits)) (omega (arith, there, flags)))))
set-done before after (event.Set h set) answer step all none g it sets = absurd step
set-done before after what answer step all none g it sets = absurd sets

pub only_sets_change_settings : OnlySetsChangeSettings
only_sets_change_settings before after what answer step = (
  has-step before after what answer step,
  λ opening history g legal. begins before after what answer step (legal-all opening history before legal) g,
  λ opening history g it legal none. set-done before after what answer step (legal-all opening history before legal) none g it,
)

-- The reply to a call is settled: from one past, one event of one caller has one reply, but for the numbers of new tickets and for the byte that a read gives.
-- It holds of every past, and of pages of files too: which page is taken, and so whether it is dropped or written out, is what the order says.
use Rattle.std.proofs.Common.{◌≡◌, inl, inr, ℕ, ◌==◌, Bool, true, false, List, Option, Some, None, refl, sym, ap, ◌∙◌, subst, arith}
use Rattle.std.specs.Prelude.{MatchBool, nat_lt, ◌&&◌, ◌||◌, not}
use Rattle.std.proofs.lemmas.Bool.Decides.{nat_tests}
use Rattle.machine.specs.declared.id.TaskId.{TaskId}
use Rattle.machine.specs.declared.id.TicketId.{TicketId}
use Rattle.machine.specs.declared.id.GroupId.{GroupId}
use Rattle.machine.specs.declared.record.EventCounts.{EventCounts}
use Rattle.machine.specs.declared.record.Life.{Life}
use Rattle.machine.specs.declared.record.Life.TheVariants.{Live, Exited, Killed}
use Rattle.machine.specs.declared.record.Task.{Task}
use Rattle.machine.specs.declared.event.Cause.{Cause}
use Rattle.machine.specs.declared.event.Goal.{Goal}
use Rattle.machine.specs.declared.event.Goal.TheVariants.{Amount}
use Rattle.machine.specs.declared.event.Op.{Op}
use Rattle.machine.specs.declared.event.Op.TheVariants.{Read, Write}
use Rattle.machine.specs.declared.event.Place.{Place}
use Rattle.machine.specs.declared.event.Place.TheVariants.{Virtual, File}
use Rattle.machine.specs.declared.event.Event.{Event}
use Rattle.machine.specs.declared.event.Event.TheVariants as event
use Rattle.machine.specs.declared.refusal.Refusal.{Refusal}
use Rattle.machine.specs.declared.refusal.Refusal.TheVariants.{Stranger, TraceFull, NoMemory}
use Rattle.machine.specs.declared.reply.Reply.{Reply}
use Rattle.machine.specs.declared.reply.Reply.TheVariants as reply
use Rattle.machine.specs.Slots.{there_and}
use Rattle.machine.specs.Tree.{Node}
use Rattle.machine.specs.Pages.{Content, Memory, OfFile, Residence, Held, Coming, Going, Away, Page, page_at, is_anon, is_held, is_held_in, home_block}
use Rattle.machine.specs.Tasks.{Tasks, PageTables, task_at, size_of}
use Rattle.machine.specs.State.{State, is_swap_free}
use Rattle.machine.specs.Access.{Meeting, Unmapped, Hits, Transferring, NeedsPage, NeedsCopy, NeedsSwapIn, NeedsRead, Dangling, meets, meets_mapped}
use Rattle.machine.specs.Reclaim.{has_takeable, has_transfer, stands, target_of, goal_of}
use Rattle.machine.specs.Victim.{is_candidate, is_worse, IsWorst, kill_group_of, killed_with}
use Rattle.machine.specs.Eviction.{Picks}
use Rattle.machine.specs.Lists.{HeldLists, Order, served, seen_of, PicksOf, TakesNext, Orders}
use Rattle.machine.specs.Step.{ChargeStep, MakesPage, StartsFetch, ReadsFile, HitStep, UnmappedStep, MeetStep, LifeStep, TaskStep, Takes, StartsLeave, Drops, LeavesBy, LeavesFrom, ReclaimStep, KillStep, EndsTransfer, Step}
use Rattle.machine.specs.Refusals.{refusal}
use Rattle.machine.specs.Call.{Past, Caller, Refuses, Answers, Answered, JudgedBy, Called, knows_pass, is_trace_full, AreBytesAlike, AreAlike}
use Rattle.machine.proofs.Values.{some_inj, never_some, unlike}
use Rattle.machine.proofs.TreeLemmas.{eq_cases}
use Rattle.legal.proofs.MoveLemmas.{Met, met, MetFile, met_file}
use Rattle.page_lists.proofs.PicksLemmas.{picks_alike}

-- ---- replies that are alike

-- a byte is like itself
bytes_alike : (what : Event) (byte : ℕ) → AreBytesAlike what byte byte
bytes_alike (event.Access t place Read) byte = tt
bytes_alike what byte = refl

-- a reply is like itself
alike_self : (what : Event) (answer : Reply) → AreAlike what answer answer
alike_self what (reply.Done byte hit) = (bytes_alike what byte, refl)
alike_self what (reply.Fetch ticket) = tt
alike_self what (reply.Out ticket) = tt
alike_self what answer = refl

-- replies that are both one reply
both : (what : Event) (answer answer' said : Reply) → answer ≡ said → answer' ≡ said → AreAlike what answer answer'
both what answer answer' said is is' = subst (AreAlike what answer) (is ∙ sym is') (alike_self what answer)

-- two tests of one value go the same way
both_ways : {P P' Q Q' R : Type 0} (b : Bool) → (P → P' → R) → (Q → Q' → R) → MatchBool b P Q → MatchBool b P' Q' → R
both_ways true f g h h' = f h h'
both_ways false f g h h' = g h h'

-- ---- victims

-- of two tasks of which neither is worse, both are one
neither_worse : (tables : PageTables) (t t' : ℕ) → is_worse tables t t' ≡ false → is_worse tables t' t ≡ false → t ≡ t'
neither_worse tables t t' not_worse no_better = equal (size_of tables t) (size_of tables t') not_worse no_better
  where
    equal : (m n : ℕ) → (nat_lt n m || ((m == n) && nat_lt t t')) ≡ false → (nat_lt m n || ((n == m) && nat_lt t' t)) ≡ false → t ≡ t'
    equal m n h k = grind (arith, nat_tests)

-- two worst tasks are one
worst_is_one : (tree : List Node) (tasks : Tasks) (tables : PageTables) (limit t t' : ℕ) → IsWorst tree tasks tables limit t → IsWorst tree tasks tables limit t' → t ≡ t'
worst_is_one tree tasks tables limit t t' worst worst' = neither_worse tables t t' (worst'.none_worse t worst.among) (worst.none_worse t' worst'.among)

-- ---- the page that is taken

-- a clean page of a file
abbrev is_clean_file : Page → Bool
is_clean_file page = not (is_anon page.content) && not page.dirty

-- what its leaving answers
abbrev LeftWith : Bool → Reply → Type 0
LeftWith true answer = answer ≡ reply.Dropped
LeftWith false answer = (ticket : TicketId) × (answer ≡ reply.Out ticket)

-- a page that left, its place, and the reply by what it is
record Left (old : State) (p : ℕ) (page : Page) (answer : Reply) (new : State) : Type 0 where
  answers : LeftWith (is_clean_file page) answer
  others : (q : ℕ) → (q ≡ p → ⊥) → page_at new.pages q ≡ page_at old.pages q

-- the page that the order says
record Taken (old : State) (order : Order) (goal : Goal) (target : ℕ) (answer : Reply) : Type 0 where
  g : ℕ
  p : ℕ
  page : Page
  next : served old order goal target ≡ Some g
  looked : HeldLists
  picked : PicksOf (is_swap_free old) order.held g (Some p) looked
  there : page_at old.pages p ≡ Some page
  answers : LeftWith (is_clean_file page) answer

module _ (old new : State) (answer : Reply) where
  -- it is written out
  sent : (p frame block : ℕ) (page : Page) (counted : List EventCounts) → is_clean_file page ≡ false → StartsLeave old p page frame block counted answer new → Left old p page answer new
  sent p frame block page counted stays h =
      record { answers = subst (λ b. LeftWith b answer) (sym stays) (record { 0 = h.ticket }, h.answers); others = h.placed.others }

  -- or dropped
  left_by : (p frame : ℕ) (page : Page) (content : Content) (counted : List EventCounts) → page.content ≡ content → LeavesBy old p page content frame counted answer new → Left old p page answer new
  left_by p frame page Memory counted is h = sent p frame h.block page counted (ap (λ c. not (is_anon c) && not page.dirty) is) h.leave
  left_by p frame page (OfFile file q) counted is h = by_dirty page.dirty refl h
    where
      by_dirty : (b : Bool) → page.dirty ≡ b → MatchBool b (StartsLeave old p page frame (home_block old.opening.swap old.opening.files file q) counted answer new) (Drops old p counted answer new)
          → Left old p page answer new
      by_dirty true dirty k = sent p frame _ page counted (rw (is, dirty) refl) k
      by_dirty false clean k =
          let dropped : is_clean_file page ≡ true = rw (is, clean) refl in
          record { answers = subst (λ b. LeftWith b answer) (sym dropped) k.answers; others = k.gone.others }

  -- where it stood in its frame
  left_from : (p : ℕ) (page : Page) (r : Residence) (counted : List EventCounts) → LeavesFrom old p page r counted answer new → Left old p page answer new
  left_from p page (Held frame) counted h = left_by p frame page page.content counted refl h
  left_from p page (Coming frame block ticket) counted h = absurd h
  left_from p page (Going frame block ticket) counted h = absurd h
  left_from p page (Away block) counted h = absurd h

  -- the page that is held no more is the one that the order says
  taken : (order order' : Order) (goal : Goal) (target : ℕ) → ((b : Bool) → LeftWith b answer → TakesNext old order goal target new order') → Takes old target answer new → Taken old order goal target answer
  taken order order' goal target by_order h = by_turn (by_order (is_clean_file h.page) gone.answers)
    where
      gone : Left old h.p h.page answer new
      gone = left_from h.p h.page h.page.residence _ h.leaves

      by_turn : TakesNext old order goal target new order' → Taken old order goal target answer
      by_turn turn =
          elim (eq_cases turn.p h.p) [
            | inl same ↦ record {
              g = turn.g;
              p = h.p;
              page = h.page;
              next = turn.next;
              looked = turn.looked;
              picked = subst (λ (p : ℕ). PicksOf (is_swap_free old) order.held turn.g (Some p) turn.looked) same turn.picked;
              there = h.there;
              answers = gone.answers;
            }
            | inr differs ↦ unlike (is_held_in old.pages turn.p) turn.was (ap (there_and is_held) (sym (gone.others turn.p differs)) ∙ turn.taken)
          ]

-- two pages that one order says are one, and so answer alike
takes_alike : (what : Event) (old : State) (order : Order) (goal : Goal) (target : ℕ) (answer answer' : Reply) → Taken old order goal target answer → Taken old order goal target answer' → AreAlike what answer answer'
takes_alike what old order goal target answer answer' h h' =
    by_clean (is_clean_file h.page) h.answers (subst (λ b. LeftWith b answer') (ap is_clean_file (sym one_page)) h'.answers)
  where
    one_group : h.g ≡ h'.g
    one_group = some_inj (sym h.next ∙ h'.next)

    -- what the other picked, of the one group
    picked' : Picks (is_swap_free old) (seen_of order.held h.g) (Some h'.p) h'.picked.seen
    picked' = subst (λ (g : ℕ). Picks (is_swap_free old) (seen_of order.held g) (Some h'.p) h'.picked.seen) (sym one_group) h'.picked.picks

    one_number : h.p ≡ h'.p
    one_number = some_inj (picks_alike (is_swap_free old) (seen_of order.held h.g) (Some h.p) (Some h'.p) h.picked.seen h'.picked.seen h.picked.picks picked').0

    one_page : h.page ≡ h'.page
    one_page = some_inj (sym h.there ∙ ap (page_at old.pages) one_number ∙ h'.there)

    by_clean : (b : Bool) → LeftWith b answer → LeftWith b answer' → AreAlike what answer answer'
    by_clean true is is' = both what answer answer' _ is is'
    by_clean false out out' = rw (out.1, out'.1) tt

-- ---- steps

-- no write meets nothing
writes_meet : {P : Type 0} (s : State) (t : ℕ) (place : Place) (b : ℕ) → meets s t place (Write b) ≡ Unmapped → P
writes_meet s t (File f q o) b is = absurd (let found : MetFile s f q Unmapped = subst (MetFile s f q) is (met_file s t f q o (Write b)) in found)
writes_meet s t (Virtual v o) b is =
    let found : Met s t v (Write b) Unmapped = subst (Met s t v (Write b)) is (met s t v o (Write b)) in
    let makes : meets s t (Virtual v o) (Write b) ≡ NeedsPage v = ap (λ m. meets_mapped s v m (Write b)) found in
    cc

-- the page that left was taken in turn: what the order says of an event with this goal and target
abbrev InTurn : State → Order → Event → Goal → ℕ → Type 0
InTurn old order what goal target =
    (new : State) (order' : Order) (answer : Reply) → Orders old order what answer new order' → (b : Bool) → LeftWith b answer → TakesNext old order goal target new order'

-- so it is for a relief
relief_in_turn : (old : State) (order : Order) (why : Cause) → InTurn old order (event.Relieve why) (goal_of why) (target_of why)
relief_in_turn old order why new order' answer on true is = subst (λ a. Orders old order (event.Relieve why) a new order') is on
relief_in_turn old order why new order' answer on false is = subst (λ a. Orders old order (event.Relieve why) a new order') is.1 on

-- and for a reclaim that is asked for
reclaim_in_turn : (old : State) (order : Order) (g : GroupId) → InTurn old order (event.ReclaimOne g) Amount g.0
reclaim_in_turn old order g new order' answer on true is = subst (λ a. Orders old order (event.ReclaimOne g) a new order') is on
reclaim_in_turn old order g new order' answer on false is = subst (λ a. Orders old order (event.ReclaimOne g) a new order') is.1 on

module _ (old new new' : State) (order order' order'' : Order) where
  module _ (what : Event) (answer answer' : Reply) where
    -- a charge is granted to both, or to none
    charged : (low : Option ℕ) (free : Bool) (Granted Granted' : Type 0) → (Granted → Granted' → AreAlike what answer answer') → ChargeStep old low free Granted answer new
        → ChargeStep old low free Granted' answer' new' → AreAlike what answer answer'
    charged (Some low) free Granted Granted' granted h h' = both what answer answer' _ h.0 h'.0
    charged None free Granted Granted' granted h h' = both_ways free granted (λ k k'. both what answer answer' _ k.0 k'.0) h h'

    -- a page that is made
    makes : (t v g : ℕ) (op : Op) → MakesPage old t v g op answer new → MakesPage old t v g op answer' new' → AreAlike what answer answer'
    makes t v g op h h' = both what answer answer' _ h.answers h'.answers

    -- a page that is read in
    fetches : (p g block : ℕ) (content : Content) → StartsFetch old p g content block answer new → StartsFetch old p g content block answer' new' → AreAlike what answer answer'
    fetches p g block content h h' = rw (h.answers, h'.answers) tt

    -- so a page of a file
    reads : (f q g : ℕ) → ReadsFile old f q g answer new → ReadsFile old f q g answer' new' → AreAlike what answer answer'
    reads f q g h h' = rw (h.fetch.answers, h'.fetch.answers) tt

    -- the end of a transfer
    ends : (from : ℕ → ℕ → Residence) (to : PageTables → ℕ → Page → ℕ → ℕ → Option Page) → EndsTransfer old from to answer new → EndsTransfer old from to answer' new' → AreAlike what answer answer'
    ends from to h h' = both what answer answer' _ h.answers h'.answers

    -- the event of a task, by its life
    of_life : (life : Life) (Live_step Live_step' : Type 0) → (Live_step → Live_step' → AreAlike what answer answer') → LifeStep old life Live_step answer new → LifeStep old life Live_step' answer' new'
        → AreAlike what answer answer'
    of_life Live Live_step Live_step' living h h' = living h h'
    of_life Exited Live_step Live_step' living h h' = absurd h
    of_life Killed Live_step Live_step' living h h' = both what answer answer' _ h.0 h'.0

    -- if it is there
    of_task : (slot : Option Task) (Live_step Live_step' : Task → Type 0) → ((task : Task) → Live_step task → Live_step' task → AreAlike what answer answer') → TaskStep old slot Live_step answer new
        → TaskStep old slot Live_step' answer' new' → AreAlike what answer answer'
    of_task None Live_step Live_step' living h h' = absurd h
    of_task (Some task) Live_step Live_step' living h h' = of_life task.life _ _ (living task) h h'

    -- a page is taken by both, or by none
    reclaims : (goal : Goal) (target : ℕ) (Idle Idle' : Type 0) → InTurn old order what goal target → Orders old order what answer new order' → Orders old order what answer' new' order''
        → (Idle → Idle' → AreAlike what answer answer') → ReclaimStep old target Idle answer new → ReclaimStep old target Idle' answer' new' → AreAlike what answer answer'
    reclaims goal target Idle Idle' in_turn on on' idle h h' =
        both_ways (has_takeable old target)
        (λ k k'.
        takes_alike what old order goal target answer answer' (taken old new answer order order' goal target (in_turn new order' answer on) k)
        (taken old new' answer' order order'' goal target (in_turn new' order'' answer' on') k'))
        (both_ways (has_transfer old target) (λ w w'. both what answer answer' _ w.0 w'.0) idle) h h'

  -- a hit is in the page's frame
  hit : (t : TaskId) (place : Place) (op : Op) (p frame : ℕ) (page : Page) (answer answer' : Reply) → HitStep old p page frame op answer new → HitStep old p page frame op answer' new'
      → AreAlike (event.Access t place op) answer answer'
  hit t place Read p frame page (reply.Done byte at) (reply.Done byte' at') h h' = (tt, h.0 ∙ sym h'.0)
  hit t place (Write b) p frame page (reply.Done byte at) (reply.Done byte' at') h h' = (h.0 ∙ sym h'.0, h.1 ∙ sym h'.1)
  hit t place op p frame page (reply.Done byte at) answer' h h' = absurd h'
  hit t place op p frame page answer answer' h h' = absurd h

  -- a read of nothing hits nothing
  unmapped : (t : TaskId) (place : Place) (answer answer' : Reply) → UnmappedStep old answer new → UnmappedStep old answer' new' → AreAlike (event.Access t place Read) answer answer'
  unmapped t place (reply.Done byte at) (reply.Done byte' at') h h' = (tt, h.0 ∙ sym h'.0)
  unmapped t place (reply.Done byte at) answer' h h' = absurd h'
  unmapped t place answer answer' h h' = absurd h

  -- by what the access meets
  meeting : (t : TaskId) (place : Place) (g : ℕ) (op : Op) (answer answer' : Reply) (met : Meeting) → meets old t.0 place op ≡ met → MeetStep old t.0 g op met answer new → MeetStep old t.0 g op met answer' new'
      → AreAlike (event.Access t place op) answer answer'
  meeting t place g Read answer answer' Unmapped is h h' = unmapped t place answer answer' h h'
  meeting t place g (Write b) answer answer' Unmapped is h h' = writes_meet old t.0 place b is
  meeting t place g op answer answer' (Hits p page frame) is h h' = hit t place op p frame page answer answer' h h'
  meeting t place g op answer answer' Transferring is h h' = both (event.Access t place op) answer answer' _ h.0 h'.0
  meeting t place g op answer answer' (NeedsPage w) is h h' =
      let what = event.Access t place op in charged what answer answer' _ _ _ _ (makes what answer answer' t.0 w g op) h h'
  meeting t place g op answer answer' (NeedsCopy w) is h h' =
      let what = event.Access t place op in charged what answer answer' _ _ _ _ (makes what answer answer' t.0 w g op) h h'
  meeting t place g op answer answer' (NeedsSwapIn p page block) is h h' =
      let what = event.Access t place op in charged what answer answer' _ _ _ _ (fetches what answer answer' p _ block page.content) h h'
  meeting t place g op answer answer' (NeedsRead f q) is h h' =
      let what = event.Access t place op in charged what answer answer' _ _ _ _ (reads what answer answer' f q g) h h'
  meeting t place g op answer answer' Dangling is h h' = absurd h

  -- a victim dies alone, or with a group
  one_or_all : {P : Type 0} (limit t victim g : ℕ) → t ≡ victim → kill_group_of old.tree old.flags old.tasks limit t ≡ None → kill_group_of old.tree old.flags old.tasks limit victim ≡ Some g → P
  one_or_all limit t victim g same none some = never_some (kill_group_of old.tree old.flags old.tasks limit victim) (ap (kill_group_of old.tree old.flags old.tasks limit) (sym same) ∙ none) some

  -- both kill one task, or one group, or there is none
  kills : (what : Event) (limit : ℕ) (answer answer' : Reply) → KillStep old limit answer new → KillStep old limit answer' new' → AreAlike what answer answer'
  kills what limit (reply.KilledTask t) (reply.KilledTask t') h h' =
      ap (λ (n : ℕ). reply.KilledTask (record { 0 = n })) (worst_is_one old.tree old.tasks old.page_tables limit t.0 t'.0 h.0 h'.0)
  kills what limit (reply.KilledAll victim g tasks) (reply.KilledAll victim' g' tasks') h h' =
      let same_victim = worst_is_one old.tree old.tasks old.page_tables limit victim.0 victim'.0 h.0 h'.0 in
      let same_group : g.0 ≡ g'.0 = some_inj (sym h.1 ∙ ap (kill_group_of old.tree old.flags old.tasks limit) same_victim ∙ h'.1) in
      let same_many : tasks ≡ tasks' = h.2 ∙ ap (killed_with old.tree old.tasks) same_group ∙ sym h'.2 in
      ap (λ (n : ℕ). reply.KilledAll (record { 0 = n }) g tasks) same_victim ∙ ap (λ (n : ℕ). reply.KilledAll victim' (record { 0 = n }) tasks) same_group ∙ ap (λ (n : ℕ). reply.KilledAll victim' g' n) same_many
  kills what limit (reply.KilledTask t) (reply.KilledAll victim g tasks) h h' =
      one_or_all limit t.0 victim.0 g.0 (worst_is_one old.tree old.tasks old.page_tables limit t.0 victim.0 h.0 h'.0) h.1 h'.1
  kills what limit (reply.KilledAll victim g tasks) (reply.KilledTask t) h h' =
      one_or_all limit t.0 victim.0 g.0 (worst_is_one old.tree old.tasks old.page_tables limit t.0 victim.0 h'.0 h.0) h'.1 h.1
  kills what limit (reply.KilledAll victim g tasks) reply.NoVictim h h' = unlike (is_candidate old.tree old.tasks limit victim.0) h.0.among (h'.0 victim.0)
  kills what limit reply.NoVictim (reply.KilledAll victim g tasks) h h' = unlike (is_candidate old.tree old.tasks limit victim.0) h'.0.among (h.0 victim.0)
  kills what limit (reply.KilledTask t) reply.NoVictim h h' = unlike (is_candidate old.tree old.tasks limit t.0) h.0.among (h'.0 t.0)
  kills what limit reply.NoVictim (reply.KilledTask t) h h' = unlike (is_candidate old.tree old.tasks limit t.0) h'.0.among (h.0 t.0)
  kills what limit reply.NoVictim reply.NoVictim h h' = refl
  kills what limit (reply.KilledTask t) answer' h h' = absurd h'
  kills what limit (reply.KilledAll victim g tasks) answer' h h' = absurd h'
  kills what limit reply.NoVictim answer' h h' = absurd h'
  kills what limit answer answer' h h' = absurd h

  -- by the event
  steps_alike : (what : Event) (answer answer' : Reply) → Orders old order what answer new order' → Orders old order what answer' new' order'' → Step old what answer new → Step old what answer' new'
      → AreAlike what answer answer'
  steps_alike (event.Access t place op) answer answer' on on' h h' =
      of_task (event.Access t place op) answer answer' (task_at old.tasks t.0) _ _ (λ task. meeting t place task.group.0 op answer answer' (meets old t.0 place op) refl) h h'
  steps_alike (event.Arrived ticket bytes) answer answer' on on' h h' = ends (event.Arrived ticket bytes) answer answer' _ _ h h'
  steps_alike (event.FetchFailed ticket) answer answer' on on' h h' = ends (event.FetchFailed ticket) answer answer' _ _ h h'
  steps_alike (event.Left ticket) answer answer' on on' h h' = ends (event.Left ticket) answer answer' _ _ h h'
  steps_alike (event.LeaveFailed ticket) answer answer' on on' h h' = ends (event.LeaveFailed ticket) answer answer' _ _ h h'
  steps_alike (event.Relieve why) answer answer' on on' h h' =
      let what = event.Relieve why in
      both_ways (stands old why) (reclaims what answer answer' (goal_of why) (target_of why) _ _ (relief_in_turn old order why) on on' (kills what (target_of why) answer answer'))
      (λ k k'. both what answer answer' _ k.0 k'.0) h h'
  steps_alike (event.ReclaimOne g) answer answer' on on' h h' =
      let what = event.ReclaimOne g in reclaims what answer answer' Amount g.0 _ _ (reclaim_in_turn old order g) on on' (λ k k'. both what answer answer' _ k.0 k'.0) h h'
  steps_alike (event.Exit t) answer answer' on on' h h' =
      let what = event.Exit t in of_task what answer answer' (task_at old.tasks t.0) _ _ (λ task k k'. both what answer answer' _ k.0 k'.0) h h'
  steps_alike (event.Fork t child) answer answer' on on' h h' =
      let what = event.Fork t child in of_task what answer answer' (task_at old.tasks t.0) _ _ (λ task k k'. both what answer answer' _ k.0 k'.0) h h'
  steps_alike (event.Free t v) answer answer' on on' h h' =
      let what = event.Free t v in of_task what answer answer' (task_at old.tasks t.0) _ _ (λ task k k'. both what answer answer' _ k.answers k'.answers) h h'
  steps_alike (event.Attach t g) reply.Ok reply.Ok on on' h h' = refl
  steps_alike (event.Attach t g) reply.Ok answer' on on' h h' = absurd h'
  steps_alike (event.Spawn t g) reply.Ok reply.Ok on on' h h' = refl
  steps_alike (event.Spawn t g) reply.Ok answer' on on' h h' = absurd h'
  steps_alike (event.Mkdir path) reply.Ok reply.Ok on on' h h' = refl
  steps_alike (event.Mkdir path) reply.Ok answer' on on' h h' = absurd h'
  steps_alike (event.Rmdir g) reply.Ok reply.Ok on on' h h' = refl
  steps_alike (event.Rmdir g) reply.Ok answer' on on' h h' = absurd h'
  steps_alike (event.Set g setting) reply.Ok reply.Ok on on' h h' = refl
  steps_alike (event.Set g setting) reply.Ok answer' on on' h h' = absurd h'
  steps_alike (event.Show asked) (reply.Shown numbers) (reply.Shown numbers') on on' h h' = ap reply.Shown (h.0 ∙ sym h'.0)
  steps_alike (event.Show asked) (reply.Shown numbers) answer' on on' h h' = absurd h'
  steps_alike (event.MergeMarks word bits) reply.Ok reply.Ok on on' h h' = refl
  steps_alike (event.MergeMarks word bits) reply.Ok answer' on on' h h' = absurd h'
  steps_alike what answer answer' on on' h h' = absurd h

-- ---- calls

-- a call that is served, and does not want for memory, is a step
served_step : (old new : Past) (caller : Caller) (what : Event) (answer : Reply) → (answer ≡ reply.Refused NoMemory → ⊥) → Answered old caller what answer new → Answers old caller what answer new
served_step old new caller what (reply.Refused why) memory h = absurd (memory (ap reply.Refused h.0))
served_step old new caller what answer memory h = h

-- two calls from one past, by one caller and with one event, neither of which wants for memory, answer alike
pub replies_are_settled : (old new new' : Past) (caller : Caller) (what : Event) (answer answer' : Reply) → Called old caller what answer new → Called old caller what answer' new'
    → (answer ≡ reply.Refused NoMemory → ⊥) → (answer' ≡ reply.Refused NoMemory → ⊥) → AreAlike what answer answer'
replies_are_settled old new new' caller what answer answer' called called' memory memory' =
    both_ways (knows_pass old.state old.history caller what) (by_cause (refusal old.state what)) (refuses Stranger) called called'
  where
    refuses : (why : Refusal) → Refuses old why answer new → Refuses old why answer' new' → AreAlike what answer answer'
    refuses why h h' = both what answer answer' _ h.0 h'.0

    serves : Answers old caller what answer new → Answers old caller what answer' new' → AreAlike what answer answer'
    serves h h' = steps_alike old.state new.state new'.state old.order new.order new'.order what answer answer' h.order h'.order h.steps h'.steps

    by_cause : (cause : Option Refusal) → JudgedBy old caller what cause answer new → JudgedBy old caller what cause answer' new' → AreAlike what answer answer'
    by_cause (Some why) h h' = refuses why h h'
    by_cause None h h' =
        both_ways (is_trace_full old what) (refuses TraceFull) (λ k k'. serves (served_step old new caller what answer memory k) (served_step old new' caller what answer' memory' k')) h h'

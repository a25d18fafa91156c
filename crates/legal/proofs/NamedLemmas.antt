-- In every legal history the table of counts tells the events that the entries counted, one by one: each is counted at a group that is there.
use Rattle.std.proofs.Common.{◌≡◌, ◌⊎◌, inl, inr, ℕ, zero, suc, ◌+◌, ◌<◌, ◌≤◌, ◌==◌, ◌&&◌, Bool, true, false, cond, MatchBool, List, [], ◌∷◌, ◌++◌, length, Option, Some, None, refl, sym, ap, ◌∙◌, subst, eq-eqb, ne_eqb, arith, length-append, length-set}
use Rattle.std.proofs.lemmas.Bool.Decides.{eqb_tells}
use Rattle.std.proofs.lemmas.Bool.{and_parts}
use Rattle.std.specs.Prelude.{filter}
use Rattle.std.specs.List.{All, last_or}
use Rattle.std.proofs.lemmas.List.Elements.{All-nil, All-cons, All-head, All-tail, All-append, All-filter, All-take}
use Rattle.std.proofs.lemmas.List.Sums.{sum_by-append, sum_by-cons}
use Rattle.std.proofs.Math.ListN.{get_or-eq_default}
use Rattle.machine.specs.declared.config.Placement.TheVariants.{Own, Linux}
use Rattle.machine.specs.declared.config.Placement.{Placement}
use Rattle.machine.specs.declared.entry.Entry.{Entry}
use Rattle.machine.specs.declared.record.EventCounts.{EventCounts}
use Rattle.machine.specs.declared.record.Key.{Key}
use Rattle.machine.specs.declared.record.Key.TheVariants as key
use Rattle.machine.specs.declared.record.Life.{Life}
use Rattle.machine.specs.declared.record.Life.TheVariants.{Live, Exited, Killed}
use Rattle.machine.specs.declared.record.Limits.{Limits}
use Rattle.machine.specs.declared.record.OomGroup.{OomGroup}
use Rattle.machine.specs.declared.record.Task.{Task}
use Rattle.machine.specs.declared.event.Cause.{Cause}
use Rattle.machine.specs.declared.event.Cause.TheVariants as cause
use Rattle.machine.specs.declared.event.Op.{Op}
use Rattle.machine.specs.declared.event.Op.TheVariants.{Read, Write}
use Rattle.machine.specs.declared.event.Place.{Place}
use Rattle.machine.specs.declared.event.Place.TheVariants.{Virtual, File}
use Rattle.machine.specs.declared.event.Event.{Event}
use Rattle.machine.specs.declared.event.Event.TheVariants as event
use Rattle.machine.specs.declared.reply.Reply.{Reply}
use Rattle.machine.specs.declared.reply.Reply.TheVariants as reply
use Rattle.machine.specs.Slots.{there_and}
use Rattle.machine.specs.Tree.{Node, IsTree, IsBelow, node_at, no_node, is_live, chain_up, chain, chain_below}
use Rattle.machine.specs.Pages.{Page, page_at}
use Rattle.machine.specs.Counts.{Counted, is_full, over_at, no_counts, once_more, counts_at, with_event, local, is_key, how_often, count_of, with_events}
use Rattle.machine.specs.Tasks.{Tasks, task_at, is_live_life, is_live_task, lives, group_of, group_of_task}
use Rattle.machine.specs.State.{Opening, State, first_state, usage, over_in, is_frame_free}
use Rattle.machine.specs.Access.{Meeting, Unmapped, Hits, Transferring, NeedsPage, NeedsCopy, NeedsSwapIn, NeedsRead, Dangling, meets, charged_from_swap}
use Rattle.machine.specs.Reclaim.{has_open, stands, target_of}
use Rattle.machine.specs.Victim.{is_live_under, is_candidate, is_flagged, chain_to, kill_group, counts_of_killed, counts_of_victim}
use Rattle.machine.specs.Step.{ChargeStep, HitStep, MeetStep, LifeStep, TaskStep, new_node, Step}
use Rattle.machine.specs.Legal.{Extends, Legal}
use Rattle.machine.specs.Events.{counts_named, took_for, low_named, NamesFor, Names, AreCounted, for_groups}
use Rattle.machine.proofs.Values.{some_inj, unlike}
use Rattle.page_lists.proofs.RegroupedLemmas.{swap-either}
use Rattle.machine.proofs.TreeLemmas.{lt_cases, parent_in, over_at-None, over_at-step}
use Rattle.counts.proofs.CountLemmas.{count_of_key-none, local-event, local-push}
use Rattle.legal.proofs.OpeningLemmas.{tree_after, step_tree}
use Rattle.legal.proofs.MoveLemmas.{MetFile, met_file, swaps_away}
use Rattle.legal.proofs.SoundLemmas.{IsSound, legal-sound, legal-fit}
use Rattle.legal.proofs.KillLemmas.{relieves_killing}
use Rattle.legal.proofs.LiveLemmas.{live_under-lives}
use Rattle.legal.proofs.CountedLemmas.{step-counted}

-- ---- the lowest group without room is there

live-within : (tree : List Node) (g : ℕ) → is_live tree g ≡ true → g < length tree
live-within tree g live =
    elim (lt_cases g (length tree)) [
      | inl lt ↦ lt
      | inr beyond ↦ absurd (let none : is_live tree g ≡ false = ap (λ (x : Node). x.live) (get_or-eq_default tree no_node (from beyond)) in unlike (is_live tree g) live none)
    ]
  where
    from : (g ≡ length tree) ⊎ (length tree < g) → length tree ≤ g
    from (inl e) = omega (arith, e)
    from (inr lt) = omega (arith, lt)

module _ (tree : List Node) (falls : IsTree tree) (above : (g p : ℕ) → is_live tree g ≡ true → (node_at tree g).parent ≡ Some p → is_live tree p ≡ true) (limits : List Limits) (count : ℕ → ℕ) (a : ℕ) where
  over-by : (g : ℕ) → ((p : ℕ) → p < g → is_live tree p ≡ true → over_at tree limits count (Some p) ≡ Some a → is_live tree a ≡ true) → is_live tree g ≡ true → over_at tree limits count (Some g) ≡ Some a → is_live tree a ≡ true
  over-by g lower live e = by_full (is_full limits count g) (sym (over_at-step tree falls limits count g) ∙ e)
    where
      by_parent : (at : Option ℕ) → (node_at tree g).parent ≡ at → over_at tree limits count at ≡ Some a → is_live tree a ≡ true
      by_parent None up e = let none : None ≡ Some a = sym (over_at-None tree falls limits count) ∙ e in cc
      by_parent (Some p) up e = lower p (falls.falls g p up) (above g p live up) e

      by_full : (b : Bool) → cond b (Some g) (over_at tree limits count (node_at tree g).parent) ≡ Some a → is_live tree a ≡ true
      by_full true e = ap (is_live tree) (sym (some_inj e)) ∙ live
      by_full false e = by_parent (node_at tree g).parent refl e

  over-below : (n g : ℕ) → g < n → is_live tree g ≡ true → over_at tree limits count (Some g) ≡ Some a → is_live tree a ≡ true
  over-below zero g lt live e = absurd (omega (arith, lt))
  over-below (suc n) g lt live e = over-by g (λ p below. over-below n p (omega (arith, below, lt))) live e

  pub over-there : (g : ℕ) → is_live tree g ≡ true → over_at tree limits count (Some g) ≡ Some a → a < length tree
  over-there g live e = live-within tree a (over-below (suc g) g (omega arith) live e)

-- ---- replies that no step gives

-- the group that a refused charge names
abbrev group_over : Reply → ℕ
group_over (reply.Over g) = g.0
group_over answer = 0

hit_never : (old new : State) (a p frame : ℕ) (page : Page) (op : Op) → HitStep old p page frame op (reply.Over (record { 0 = a })) new → ⊥
hit_never old new a p frame page Read h = h
hit_never old new a p frame page (Write b) h = h

-- who can be killed is live
candidate_lives : (tree : List Node) (tasks : Tasks) (limit t : ℕ) → is_candidate tree tasks limit t ≡ true → lives tasks t ≡ true
candidate_lives tree tasks limit t among = live_under-lives tree limit (task_at tasks t) among

-- ---- what a step counts is counted at groups that are there

-- so many groups there are, and these events are of them
abbrev pub AreOf : ℕ → List Counted → Type 0
AreOf n [] = Unit {0}
AreOf n (c ∷ events) = (c.group < n) × AreOf n events

all-of : (n : ℕ) (xs ys : List Counted) → AreOf n xs → AreOf n ys → AreOf n (xs ++ ys)
all-of n [] ys are more = more
all-of n (c ∷ xs) ys are more = (are.0, all-of n xs ys are.1 more)

-- the group of each task that dies with a group
victim-there : (placement : Placement) (n : ℕ) (tasks : Tasks) (victim : ℕ) → group_of_task tasks victim < n → AreOf n (counts_of_victim placement tasks victim)
victim-there Own n tasks victim own = tt
victim-there Linux n tasks victim own = (own, tt)

killed-there : (tree : List Node) (h n : ℕ) (tasks : Tasks) → ((t : ℕ) → lives tasks t ≡ true → group_of_task tasks t < n) → AreOf n (counts_of_killed tree tasks h)
killed-there tree h n [] homes = tt
killed-there tree h n (slot ∷ tasks) homes = by_test (there_and (is_live_under tree h) slot) refl (killed-there tree h n tasks (λ t. homes (suc t)))
  where
    by_test : (b : Bool) → there_and (is_live_under tree h) slot ≡ b → AreOf n (counts_of_killed tree tasks h) → AreOf n (counts_of_killed tree (slot ∷ tasks) h)
    by_test true is rest = rw is (homes 0 (live_under-lives tree h slot is), rest)
    by_test false is rest = rw is rest

-- ---- the group that is killed as one is there

-- below a number
abbrev IsWithin : ℕ → ℕ → Type 0
IsWithin n a = a < n

module _ (tree : List Node) (falls : IsTree tree) (n : ℕ) where
  chain_up-there : (steps : ℕ) (at : Option ℕ) → IsBelow at n → All (IsWithin n) (chain_up steps tree at)
  unfolding chain_up
  chain_up-there zero at below = All-nil (IsWithin n)
  chain_up-there (suc steps) None below = All-nil (IsWithin n)
  chain_up-there (suc steps) (Some g) below =
      All-cons (IsWithin n) g (chain_up steps tree (node_at tree g).parent) below (chain_up-there steps (node_at tree g).parent (parent_in tree falls g n below))

  chain_below-there : (limit g : ℕ) → g < n → All (IsWithin n) (chain_below tree limit g)
  unfolding chain_below chain
  chain_below-there limit g below = All-take (IsWithin n) _ (chain_up (suc g) tree (Some g)) (chain_up-there (suc g) (Some g) below)

last-there : (n : ℕ) (o : Option ℕ) (xs : List ℕ) → IsBelow o n → All (IsWithin n) xs → IsBelow (last_or o xs) n
last-there n o [] below all = below
last-there n o (x ∷ xs) below all = last-there n (Some x) xs (All-head (IsWithin n) x xs all) (All-tail (IsWithin n) x xs all)

kill_group-there : (tree : List Node) → IsTree tree → (flags : List OomGroup) (n limit g h : ℕ) → limit < n → g < n → kill_group tree flags limit g ≡ Some h → h < n
kill_group-there tree falls flags n limit g h below own is = subst (λ (o : Option ℕ). IsBelow o n) is (last-there n None (filter (is_flagged flags) (chain_to tree limit g)) tt flagged)
  where
    on_chain : All (IsWithin n) (chain_to tree limit g)
    on_chain = All-append (IsWithin n) (chain_below tree limit g) (limit ∷ []) (chain_below-there tree falls n limit g own) (All-cons (IsWithin n) limit [] below (All-nil (IsWithin n)))

    flagged : All (IsWithin n) (filter (is_flagged flags) (chain_to tree limit g))
    flagged = All-filter (is_flagged flags) (IsWithin n) (chain_to tree limit g) on_chain

module _ (opening : Opening) (history : List Entry) (old new : State) (legal : Legal opening history old) where
  sound : IsSound opening.swap opening.files old.pages old.tasks old.tree
  sound = (legal-sound opening history old legal).1

  by_test : {P Q R : Type 0} (b : Bool) → (P → R) → (Q → R) → MatchBool b P Q → R
  by_test true f g h = f h
  by_test false f g h = g h

  module _ (t : ℕ) (place : Place) (op : Op) (a : ℕ) where
    abbrev over : Reply
    over = reply.Over (record { 0 = a })

    lowest : (low : ℕ) → over ≡ reply.Over (record { 0 = low }) → low ≡ a
    lowest low e = sym (ap group_over e)

    charged : (g : ℕ) (Granted : Type 0) → is_live old.tree g ≡ true → (Granted → ⊥) → ChargeStep old (over_in old g) (is_frame_free old) Granted over new → a < length old.tree
    charged g Granted live never h = by_over (over_in old g) refl h
      where
        by_over : (low : Option ℕ) → over_in old g ≡ low → ChargeStep old low (is_frame_free old) Granted over new → a < length old.tree
        by_over (Some low) is h =
            over-there old.tree sound.falls sound.above old.limits (usage old) a g live (is ∙ ap (λ (n : ℕ). Some n) (lowest low h.0))
        by_over None is h = absurd (by_test (is_frame_free old) never (λ k. let e = k.0 in cc) h)

    meets_virtual : (v o g : ℕ) (met : Meeting) → meets old t (Virtual v o) op ≡ met → is_live old.tree g ≡ true → MeetStep old t g op met over new → a < length old.tree
    meets_virtual v o g Unmapped is live h = absurd h
    meets_virtual v o g (Hits p page frame) is live h = absurd (hit_never old new a p frame page op h)
    meets_virtual v o g Transferring is live h = absurd (let e = h.0 in cc)
    meets_virtual v o g (NeedsPage w) is live h = charged g _ live (λ k. let e = k.answers in cc) h
    meets_virtual v o g (NeedsCopy w) is live h = charged g _ live (λ k. let e = k.answers in cc) h
    meets_virtual v o g (NeedsSwapIn p page block) is live h = charged _ _ there (λ k. let e = k.answers in cc) h
      where
        there : is_live old.tree (charged_from_swap old.opening.placement page.group g) ≡ true
        there =
            elim (swap-either old.opening.placement page.group g) [
              | inl own ↦ ap (is_live old.tree) own ∙ (legal-fit opening history old legal p page (swaps_away old t v o op p page block is).0).live
              | inr reads ↦ ap (is_live old.tree) reads ∙ live
            ]
    meets_virtual v o g (NeedsRead file q) is live h = charged g _ live (λ k. let e = k.fetch.answers in cc) h
    meets_virtual v o g Dangling is live h = absurd h

    meets_file : (f q g : ℕ) (met : Meeting) → MetFile old f q met → is_live old.tree g ≡ true → MeetStep old t g op met over new → a < length old.tree
    meets_file f q g Unmapped met live h = absurd h
    meets_file f q g (Hits p page frame) met live h = absurd (hit_never old new a p frame page op h)
    meets_file f q g Transferring met live h = absurd (let e = h.0 in cc)
    meets_file f q g (NeedsPage w) met live h = absurd met
    meets_file f q g (NeedsCopy w) met live h = absurd met
    meets_file f q g (NeedsSwapIn p page block) met live h = absurd met
    meets_file f q g (NeedsRead file q') met live h = charged g _ live (λ k. let e = k.fetch.answers in cc) h
    meets_file f q g Dangling met live h = absurd h

    at_place : (g : ℕ) → is_live old.tree g ≡ true → (where_to : Place) → MeetStep old t g op (meets old t where_to op) over new → a < length old.tree
    at_place g live (Virtual v o) h = meets_virtual v o g (meets old t (Virtual v o) op) refl live h
    at_place g live (File f q o) h = meets_file f q g (meets old t (File f q o) op) (met_file old t f q o op) live h

    accesses : TaskStep old (task_at old.tasks t) (λ task. MeetStep old t task.group.0 op (meets old t place op) over new) over new → a < length old.tree
    accesses h = by_slot (task_at old.tasks t) refl h
      where
        by_life : (task : Task) (life : Life) → task_at old.tasks t ≡ Some task → task.life ≡ life → LifeStep old life (MeetStep old t task.group.0 op (meets old t place op) over new) over new → a < length old.tree
        by_life task Live known lives_on h =
            at_place task.group.0
            (ap (λ (g : ℕ). is_live old.tree g) (sym (ap group_of known)) ∙ sound.homes t (ap (there_and is_live_task) known ∙ ap is_live_life lives_on)) place h
        by_life task Exited known ended h = absurd h
        by_life task Killed known ended h = absurd (let e = h.0 in cc)

        by_slot : (slot : Option Task) → task_at old.tasks t ≡ slot → TaskStep old slot (λ task. MeetStep old t task.group.0 op (meets old t place op) over new) over new → a < length old.tree
        by_slot None is h = absurd h
        by_slot (Some task) is h = by_life task task.life is refl h

  -- a cause that stands is one of a group that is there
  target-there : 0 < length old.tree → (why : Cause) → stands old why ≡ true → target_of why < length old.tree
  target-there some (cause.Charge g) is = live-within old.tree g.0 (and_parts (is_live old.tree g.0) _ is).0
  target-there some (cause.Lower g) is = live-within old.tree g.0 (and_parts (is_live old.tree g.0) _ is).0
  target-there some cause.Frame is = some

  -- the group of a live task is there
  home-there : (t : ℕ) → lives old.tasks t ≡ true → group_of_task old.tasks t < length old.tree
  home-there t alive = live-within old.tree (group_of_task old.tasks t) (sound.homes t alive)

  case-there : 0 < length old.tree → (what : Event) (answer : Reply) → Step old what answer new → AreOf (length old.tree) (counts_named old what answer)
  case-there some (event.Access t place op) (reply.Over g) h = (accesses t.0 place op g.0 h, tt)
  case-there some (event.Relieve why) (reply.KilledTask t) h =
      let kill = relieves_killing old new why (reply.KilledTask t) refl (λ e. cc) (λ e. cc) h in (
        target-there some why kill.0,
        (home-there t.0 (candidate_lives old.tree old.tasks (target_of why) t.0 kill.1.0.among), tt),
      )
  case-there some (event.Relieve why) (reply.KilledAll victim g tasks) h =
      let kill = relieves_killing old new why (reply.KilledAll victim g tasks) refl (λ e. cc) (λ e. cc) h in
      let limit = target-there some why kill.0 in
      let own = home-there victim.0 (candidate_lives old.tree old.tasks (target_of why) victim.0 kill.1.0.among) in (
        limit,
        all-of (length old.tree) (counts_of_victim old.opening.placement old.tasks victim.0) _ (victim-there old.opening.placement (length old.tree) old.tasks victim.0 own)
            (all-of (length old.tree) (counts_of_killed old.tree old.tasks g.0) _ (killed-there old.tree g.0 (length old.tree) old.tasks home-there)
            (kill_group-there old.tree sound.falls old.flags (length old.tree) (target_of why) (group_of_task old.tasks victim.0) g.0 limit own kill.1.1, tt)),
      )
  case-there some (event.Relieve why) reply.NoVictim h = let kill = relieves_killing old new why reply.NoVictim refl (λ e. cc) (λ e. cc) h in (target-there some why kill.0, tt)
  case-there some what answer h = tt

  -- the group of a page that is taken
  low-there : (target p : ℕ) (page : Page) → page_at old.pages p ≡ Some page → AreOf (length old.tree) (low_named old target page.group)
  low-there target p page there = by_open (has_open old target)
    where
      live : is_live old.tree page.group ≡ true
      live = (legal-fit opening history old legal p page there).live

      by_open : (b : Bool) → AreOf (length old.tree) (cond b [] (count_of page.group key.Low ∷ []))
      by_open true = tt
      by_open false = (live-within old.tree page.group live, tt)

  pub named-there : 0 < length old.tree → (what : Event) (answer : Reply) → Step old what answer new → (named : List Counted) → Names old what answer new named → AreOf (length old.tree) named
  named-there some what answer h named names = by_taken (took_for what answer) names
    where
      by_taken : (taken : Option ℕ) → NamesFor taken old what answer new named → AreOf (length old.tree) named
      by_taken None is = subst (AreOf (length old.tree)) (sym is) (case-there some what answer h)
      by_taken (Some target) taken = subst (AreOf (length old.tree)) (sym taken.are) (low-there target taken.p taken.page taken.there)

-- ---- the table and the events

-- each group has its counts, and there is a group: the root
record HasCounts (s : State) : Type 0 where
  pub all : length s.counted ≡ length s.tree
  pub some : 0 < length s.tree

length-events : (counted : List EventCounts) (events : List Counted) → length (with_events counted events) ≡ length counted
length-events counted [] = refl
length-events counted (c ∷ events) = length-events (with_event counted c.group c.key) events ∙ length-set counted c.group _

length-groups : (before : State) (what : Event) → length before.counted ≡ length before.tree → length (for_groups before.counted what) ≡ length (tree_after before what)
length-groups before (event.Mkdir path) all =
    let counts = length-append before.counted (no_counts ∷ []) in
    let groups = length-append before.tree (new_node before.tree path ∷ []) in
    omega (arith, counts, groups, all)
length-groups before (event.Rmdir g) all = all ∙ sym (length-set before.tree g.0 _)
length-groups before what all = all

-- no group goes from the list
more-groups : (before : State) (what : Event) → length before.tree ≤ length (tree_after before what)
more-groups before (event.Mkdir path) = let groups = length-append before.tree (new_node before.tree path ∷ []) in omega (arith, groups)
more-groups before (event.Rmdir g) = let same = length-set before.tree g.0 (record (node_at before.tree g.0) { live = false }) in omega (arith, same)
more-groups before what = omega arith

has-counts : (opening : Opening) (history : List Entry) (s : State) → Legal opening history s → HasCounts s
has-counts opening [] s legal = subst HasCounts (sym legal) (record { all = refl; some = omega arith })
has-counts opening (entry ∷ earlier) s (before, legal, extends) =
    let so_far = has-counts opening earlier before legal in
    let tree = step_tree before entry.event entry.reply s extends.steps in
    let same : length s.tree ≡ length (tree_after before entry.event) = ap length tree in
    let more = more-groups before entry.event in
    let some = so_far.some in
    let counts = step-counted before s entry.event entry.reply extends.steps in
    record {
      all = ap length counts.after ∙ length-events (for_groups before.counted entry.event) counts.named
          ∙ length-groups before entry.event so_far.all ∙ sym same;
      some = omega (arith, same, more, some);
    }

eq_sym : (a b : ℕ) → (a == b) ≡ (b == a)
eq_sym a b =
    elim (eqb_tells a b) [
      | inl same ↦ same.0 ∙ sym (eq-eqb b a (sym same.1))
      | inr differs ↦ differs.0 ∙ sym (ne_eqb b a (λ e. differs.1 (sym e)))
    ]

more-of : (n m : ℕ) → n ≤ m → (events : List Counted) → AreOf n events → AreOf m events
more-of n m le [] are = tt
more-of n m le (c ∷ events) are = (let lt = are.0 in omega (arith, lt, le), more-of n m le events are.1)

-- a table tells as much more as events were counted in it
local-events : (counted : List EventCounts) (events : List Counted) → AreOf (length counted) events → (g : ℕ) (k : Key) → local (with_events counted events) g k ≡ local counted g k + how_often events g k
local-events counted [] are g k = omega arith
local-events counted (c ∷ events) are g k =
    let longer = length-set counted c.group (once_more (counts_at counted c.group) c.key) in
    let rest = local-events (with_event counted c.group c.key) events (more-of (length counted) _ (omega (arith, longer)) events are.1) g k in
    let one = local-event counted c.group c.key are.0 g k in
    let same : ◌≡◌ {A = ℕ} (cond ((g == c.group) && is_key c.key k) 1 0) (cond ((c.group == g) && is_key c.key k) 1 0) = ap (λ (b : Bool). let n : ℕ = cond (b && is_key c.key k) 1 0 in n) (eq_sym g c.group) in
    let more = sum_by-cons (λ (x : Counted). cond ((x.group == g) && is_key x.key k) 1 0) c events in
    omega (arith, rest, one, same, more)

local-groups : (counted : List EventCounts) (what : Event) (g : ℕ) (k : Key) → local (for_groups counted what) g k ≡ local counted g k
local-groups counted (event.Mkdir path) g k = local-push counted g k
local-groups counted what g k = refl

-- the table tells the events of a history
abbrev pub Tells : State → List Counted → Type 0
Tells s events = (g : ℕ) (k : Key) → local s.counted g k ≡ how_often events g k

pub nothing-told : (opening : Opening) (s : State) → s ≡ first_state opening → Tells s []
nothing-told opening s first g k = ap (λ (t : State). local t.counted g k) first ∙ nothing g k
  where
    nothing : (g : ℕ) (k : Key) → local (no_counts ∷ []) g k ≡ 0
    nothing zero k = count_of_key-none k
    nothing (suc g) k = count_of_key-none k

-- a step counts what it names, and nothing else, at groups that are there
pub step-counts : (opening : Opening) (earlier : List Entry) (before s : State) (what : Event) (answer : Reply) → Legal opening earlier before → (step : Step before what answer s) → (g : ℕ) (k : Key)
    → local s.counted g k ≡ local before.counted g k + how_often (step-counted before s what answer step).named g k
step-counts opening earlier before s what answer legal step g k =
    let has = has-counts opening earlier before legal in
    let counts = step-counted before s what answer step in
    let named = counts.named in
    let there = named-there opening earlier before s legal has.some what answer step named counts.names in
    let all = length-groups before what has.all in
    let more = more-groups before what in
    ap (λ (cs : List EventCounts). local cs g k) counts.after
    ∙ local-events (for_groups before.counted what) named (more-of (length before.tree) _ (omega (arith, all, more)) named there) g k
    ∙ ap (λ n. n + how_often named g k) (local-groups before.counted what g k)

-- and with those of one step more
pub step-told : (opening : Opening) (earlier : List Entry) (entry : Entry) (before s : State) (so_far : List Counted) → Legal opening earlier before → (extends : Extends before earlier entry s) → Tells before so_far
    → Tells s (so_far ++ (step-counted before s entry.event entry.reply extends.steps).named)
step-told opening earlier entry before s so_far legal extends told g k =
    let named = (step-counted before s entry.event entry.reply extends.steps).named in
    step-counts opening earlier before s entry.event entry.reply legal extends.steps g k
    ∙ ap (λ n. n + how_often named g k) (told g k)
    ∙ sym (sum_by-append (λ (x : Counted). cond ((x.group == g) && is_key x.key k) 1 0) so_far named)

-- a legal history can be read as a list of events
pub legal-counted : (opening : Opening) (history : List Entry) (s : State) → Legal opening history s → (events : List Counted) × AreCounted opening history s events
legal-counted opening [] s legal = ([], (legal, refl))
legal-counted opening (entry ∷ earlier) s (before, legal, extends) =
    let so_far = legal-counted opening earlier before legal in
    let counts = step-counted before s entry.event entry.reply extends.steps in
    (so_far.0 ++ counts.named, (before, so_far.0, counts.named, so_far.1, extends, counts.names, refl))

-- and what can be read so is legal
pub counted-legal : (opening : Opening) (history : List Entry) (s : State) (events : List Counted) → AreCounted opening history s events → Legal opening history s
counted-legal opening [] s events (first, none) = first
counted-legal opening (entry ∷ earlier) s events (before, so_far, more, counted, extends, names, are) = (before, counted-legal opening earlier before so_far counted, extends)

-- Kills: of a task alone, and of a group.
use Rattle.std.proofs.Common.{◌≡◌, ◌≢◌, inl, inr, ℕ, zero, suc, ◌+◌, ◌<◌, ◌≤◌, ◌==◌, ◌&&◌, ◌||◌, not, Bool, true, false, cond, List, [], ◌∷◌, ◌++◌, Option, Some, None, eqb-true, eq-eqb, ne_eqb, refl, sym, ap, ◌∙◌, subst, arith}
use Rattle.std.specs.Prelude.{filter, map, nat_lt, sum_by}
use Rattle.std.proofs.lemmas.Bool.{cases_Bool}
use Rattle.std.proofs.lemmas.Bool.Decides.{nat_tests}
use Rattle.std.proofs.lemmas.List.Sums.{sum_by-cons, sum_by-append}
use Rattle.machine.specs.declared.config.Placement.TheVariants.{Own, Linux}
use Rattle.machine.specs.declared.config.Placement.{Placement}
use Rattle.machine.specs.declared.entry.Entry.{Entry}
use Rattle.machine.specs.declared.event.Cause.{Cause}
use Rattle.machine.specs.declared.event.Event.TheVariants as event
use Rattle.machine.specs.declared.record.EventCounts.{EventCounts}
use Rattle.machine.specs.declared.record.Key.{Key}
use Rattle.machine.specs.declared.record.Key.TheVariants as key
use Rattle.machine.specs.declared.record.Life.TheVariants.{Killed}
use Rattle.machine.specs.declared.record.Task.{Task}
use Rattle.machine.specs.declared.reply.Reply.{Reply}
use Rattle.machine.specs.declared.reply.Reply.TheVariants as reply
use Rattle.machine.specs.Slots.{there_and, count_there}
use Rattle.machine.specs.Tree.{Node, node_at, IsTree, under, under_at}
use Rattle.machine.specs.Pages.{is_number}
use Rattle.machine.specs.Tasks.{Tasks, PageTables, task_at, task_of, is_live_task, lives, group_of, group_of_task, size_of}
use Rattle.machine.specs.Counts.{Counted, count_of, is_key, local, how_often}
use Rattle.machine.specs.Victim.{is_live_under, is_candidate, is_worse, IsVictim, is_flagged, kill_group_of, counts_of_killed, counts_of_victim, counts_of_group_kill}
use Rattle.machine.specs.State.{Opening, State}
use Rattle.machine.specs.Reclaim.{has_takeable, has_transfer, is_idle, stands, target_of}
use Rattle.machine.specs.Step.{EndsTasks, KillStep, Step}
use Rattle.machine.specs.Legal.{Legal}
use Rattle.machine.proofs.Values.{some_inj, unlike}
use Rattle.machine.proofs.TreeLemmas.{eq_cases, under_at-None, under_at-step}
use Rattle.oom.proofs.KillGroupLemmas.{candidate-parts, IsHighest, above_parent, kill_group-highest}
use Rattle.legal.proofs.SoundLemmas.{legal-sound}
use Rattle.legal.proofs.CountedLemmas.{step-counted}
use Rattle.legal.proofs.NamedLemmas.{step-counts}
use Rattle.laws.specs.Laws.{victim_in, KillsComeLast, VictimsHaveTheMostPages, IsWholeKill, GroupKillsAreWhole, SingleKillsAreUnflagged, CountsKill, counted_again, KillsAreCounted}
use Rattle.laws.proofs.LawLemmas.{by_test, is_taking, never_taken, idle_of}

-- ---- the step

-- a relief that kills finds nothing to reclaim
kill_step : (before after : State) (why : Cause) (answer : Reply) (victim : ℕ) → victim_in answer ≡ Some victim → Step before (event.Relieve why) answer after → (is_idle before (target_of why) ≡ true) × KillStep before (target_of why) answer after
kill_step before after why answer victim names step =
    by_test (stands before why)
    (λ s. idle_of (has_takeable before (target_of why)) (has_transfer before (target_of why)) _ _ _ _ (never_taken before (target_of why) answer after (takes_none answer names)) (λ w. unnamed (ap victim_in w.0)) (λ kill. kill) s)
    (λ r. absurd (unnamed (ap victim_in r.0))) step
  where
    takes_none : (said : Reply) → victim_in said ≡ Some victim → is_taking said ≡ false
    takes_none (reply.Out ticket) e = cc
    takes_none reply.Dropped e = cc
    takes_none other e = refl

    unnamed : victim_in answer ≡ None → ⊥
    unnamed none = let e : None ≡ Some victim = sym none ∙ names in cc

-- its victim is the worst task
worst : (before after : State) (limit victim : ℕ) (answer : Reply) → victim_in answer ≡ Some victim → KillStep before limit answer after → IsVictim before.tree before.tasks before.page_tables limit (Some victim)
worst before after limit victim (reply.KilledTask t) names h = subst (λ (x : ℕ). IsVictim before.tree before.tasks before.page_tables limit (Some x)) (some_inj names) h.0
worst before after limit victim (reply.KilledAll v g tasks) names h = subst (λ (x : ℕ). IsVictim before.tree before.tasks before.page_tables limit (Some x)) (some_inj names) h.0
worst before after limit victim reply.NoVictim names h = cc
worst before after limit victim other names h = absurd h

-- ---- trees

-- who is above a group is above all that is below it
through : (tree : List Node) → IsTree tree → (n a b g : ℕ) → g < n → under tree a b ≡ true → under tree b g ≡ true → under tree a g ≡ true
through tree is zero a b g lt up down = absurd (omega (arith, lt))
through tree is (suc n) a b g lt up down =
    elim (eq_cases b g) [
      | inl same ↦ sym (ap (under tree a) same) ∙ up
      | inr differs ↦ by_parent (node_at tree g).parent refl (above_parent tree is [] a b g differs down) (λ p e below. through tree is n a b p (let less = is.falls g p e in omega (arith, lt, less)) up below)
    ]
  where
    or_true : (b : Bool) → (b || true) ≡ true
    or_true true = refl
    or_true false = refl

    by_parent : (parent : Option ℕ) → (node_at tree g).parent ≡ parent → under_at tree b (node_at tree g).parent ≡ true → ((p : ℕ) → (node_at tree g).parent ≡ Some p → under tree b p ≡ true → under tree a p ≡ true) → under tree a g ≡ true
    by_parent None e below rest = absurd (unlike (under_at tree b (node_at tree g).parent) below (ap (under_at tree b) e ∙ under_at-None tree is b))
    by_parent (Some p) e below rest =
        under_at-step tree is a g ∙ ap (λ c. (a == g) || c) (ap (under_at tree a) e ∙ rest p e (sym (ap (under_at tree b) e) ∙ below)) ∙ or_true (a == g)

candidate-of : (tree : List Node) (tasks : Tasks) (limit t : ℕ) → lives tasks t ≡ true → under tree limit (group_of_task tasks t) ≡ true → is_candidate tree tasks limit t ≡ true
candidate-of tree tasks limit t alive up = by_slot (task_at tasks t) alive up
  where
    by_slot : (slot : Option Task) → there_and is_live_task slot ≡ true → under tree limit (group_of slot) ≡ true → there_and (is_live_under tree limit) slot ≡ true
    by_slot None a u = cc
    by_slot (Some task) a u = ap (λ b. b && under tree limit task.group.0) a ∙ u

-- the group that dies with a victim
module _ (before : State) (falls : IsTree before.tree) (limit victim h : ℕ) (is_victim : IsVictim before.tree before.tasks before.page_tables limit (Some victim))
    (group : kill_group_of before.tree before.flags before.tasks limit victim ≡ Some h) where
  highest : IsHighest before.tree falls before.flags limit (group_of_task before.tasks victim) (Some h)
  highest =
      subst (IsHighest before.tree falls before.flags limit (group_of_task before.tasks victim)) group
      (kill_group-highest before.tree falls before.flags limit (group_of_task before.tasks victim) (candidate-parts before.tree before.tasks limit victim is_victim.among).1)

  among : is_candidate before.tree before.tasks h victim ≡ true
  among = candidate-of before.tree before.tasks h victim (candidate-parts before.tree before.tasks limit victim is_victim.among).0 highest.2

  -- whoever is under it is under the limit
  within_limit : (t : ℕ) → is_candidate before.tree before.tasks h t ≡ true → is_candidate before.tree before.tasks limit t ≡ true
  within_limit t is =
      let parts = candidate-parts before.tree before.tasks h t is in
      candidate-of before.tree before.tasks limit t parts.0 (through before.tree falls (suc (group_of_task before.tasks t)) limit h (group_of_task before.tasks t) (omega arith) highest.1 parts.1)

-- ---- who dies

-- a task that lives no more has ended
ended-of : (before after : State) (is_gone : ℕ → Bool) (counted : List EventCounts) → EndsTasks before is_gone Killed counted after → (t : ℕ) → lives before.tasks t ≡ true → lives after.tasks t ≡ false → is_gone t ≡ true
ended-of before after is_gone counted ends t alive dead =
    elim (cases_Bool (is_gone t)) [ inl gone ↦ gone | inr stays ↦ absurd (unlike (lives before.tasks t) alive (sym (ap (there_and is_live_task) (ends.stays t stays)) ∙ dead)) ]

dead-candidates : (before after : State) (falls : IsTree before.tree) (limit : ℕ) (answer : Reply) → KillStep before limit answer after → (t : ℕ) → lives before.tasks t ≡ true → lives after.tasks t ≡ false
    → is_candidate before.tree before.tasks limit t ≡ true
dead-candidates before after falls limit (reply.KilledTask victim) kill t alive dead =
    ap (is_candidate before.tree before.tasks limit) (eqb-true t victim.0 (ended-of before after (λ u. u == victim.0) _ kill.2 t alive dead)) ∙ kill.0.among
dead-candidates before after falls limit (reply.KilledAll victim h tasks) kill t alive dead =
    within_limit before falls limit victim.0 h.0 kill.0 kill.1 t (ended-of before after (is_candidate before.tree before.tasks h.0) _ kill.3 t alive dead)
dead-candidates before after falls limit reply.NoVictim kill t alive dead = absurd (unlike (lives before.tasks t) alive (sym (ap (λ (s : State). lives s.tasks t) kill.1) ∙ dead))
dead-candidates before after falls limit other kill t alive dead = absurd kill

pub kills_come_last : KillsComeLast
kills_come_last before after why answer victim names step =
    let found = kill_step before after why answer victim names step in (
      found.0,
      (worst before after (target_of why) victim answer names found.1).among,
      λ opening history t legal alive dead. dead-candidates before after (legal-sound opening history before legal).1.falls (target_of why) answer found.1 t alive dead,
    )

-- one that is not worse has no more mappings, and with as many no lesser number
not_worse : (a b t w : ℕ) → (nat_lt a b || ((b == a) && nat_lt t w)) ≡ false → (b ≤ a) × (b ≡ a → w ≤ t)
not_worse a b t w e = (grind (arith, nat_tests, e), λ same. grind (arith, nat_tests, e, same))

pub victims_have_the_most_pages : VictimsHaveTheMostPages
victims_have_the_most_pages before after why answer victim names step =
    let is = worst before after (target_of why) victim answer names (kill_step before after why answer victim names step).1 in (
      is.among,
      λ t candidate. (not_worse (size_of before.page_tables victim) (size_of before.page_tables t) t victim (is.none_worse t candidate)).0,
      λ t candidate same. (not_worse (size_of before.page_tables victim) (size_of before.page_tables t) t victim (is.none_worse t candidate)).1 same,
    )

pub group_kills_are_whole : GroupKillsAreWhole
group_kills_are_whole opening history before after why victim h tasks legal step =
    let falls = (legal-sound opening history before legal).1.falls in
    let limit = target_of why in
    let kill = (kill_step before after why (reply.KilledAll (record { 0 = victim }) (record { 0 = h }) tasks) victim refl step).1 in
    let up = highest before falls limit victim h kill.0 kill.1 in
    let same_tree : after.tree ≡ before.tree = ap (λ (s : State). s.tree) kill.3.state in
    record {
      killed = kill.3.ends;
      shown = λ t v is. kill.3.none t v is;
      nobody = λ t. elim (cases_Bool (is_candidate before.tree before.tasks h t)) [
        | inl gone ↦ ap (there_and (is_live_under after.tree h)) (kill.3.ends t gone)
        | inr stays ↦ ap (there_and (is_live_under after.tree h)) (kill.3.stays t stays) ∙ ap (λ (tree : List Node). is_candidate tree before.tasks h t) same_tree ∙ stays
      ];
      others = kill.3.stays;
      kept = λ t v is. kill.3.others t v is;
      many = kill.2;
      among = among before falls limit victim h kill.0 kill.1;
      flagged = up.0;
      within = up.1;
      highest = up.3;
    }

pub single_kills_are_unflagged : SingleKillsAreUnflagged
single_kills_are_unflagged opening history before after why victim legal step =
    let falls = (legal-sound opening history before legal).1.falls in
    let limit = target_of why in
    let kill = (kill_step before after why (reply.KilledTask (record { 0 = victim })) victim refl step).1 in
    let none = subst (IsHighest before.tree falls before.flags limit (group_of_task before.tasks victim)) kill.1
    (kill_group-highest before.tree falls before.flags limit (group_of_task before.tasks victim) (candidate-parts before.tree before.tasks limit victim kill.0.among).1) in
    (none, λ t differs. kill.2.stays t (ne_eqb t victim differs))

-- ---- what is counted

-- of a kill of a task
how_often-one : (c : Counted) (events : List Counted) (g : ℕ) (k : Key) → how_often (c ∷ events) g k ≡ cond ((c.group == g) && is_key c.key k) 1 0 + how_often events g k
how_often-one c events g k = sum_by-cons (λ (x : Counted). cond ((x.group == g) && is_key x.key k) 1 0) c events

how_often-both : (xs ys : List Counted) (g : ℕ) (k : Key) → how_often (xs ++ ys) g k ≡ how_often xs g k + how_often ys g k
how_often-both xs ys g k = sum_by-append (λ (x : Counted). cond ((x.group == g) && is_key x.key k) 1 0) xs ys

-- an event of this key, and of another
hit : (a g : ℕ) (b : Bool) → b ≡ true → ◌≡◌ {A = ℕ} (cond ((a == g) && b) 1 0) (cond (a == g) 1 0)
hit a g b is = ap (λ (c : Bool). let n : ℕ = cond ((a == g) && c) 1 0 in n) is ∙ ap (λ (c : Bool). let n : ℕ = cond c 1 0 in n) (and_true (a == g))
  where
    and_true : (c : Bool) → (c && true) ≡ c
    and_true true = refl
    and_true false = refl

miss : (a g : ℕ) (b : Bool) → b ≡ false → ◌≡◌ {A = ℕ} (cond ((a == g) && b) 1 0) 0
miss a g b is = ap (λ (c : Bool). let n : ℕ = cond ((a == g) && c) 1 0 in n) is ∙ ap (λ (c : Bool). let n : ℕ = cond c 1 0 in n) (and_false (a == g))
  where
    and_false : (c : Bool) → (c && false) ≡ false
    and_false true = refl
    and_false false = refl

-- of the tasks of a group that is killed each is counted at its own
killed-often : (tree : List Node) (tasks : Tasks) (h g : ℕ) → how_often (counts_of_killed tree tasks h) g key.OomKill ≡ count_there (λ task. is_live_under tree h task && (task.group.0 == g)) tasks
killed-often tree [] h g = refl
killed-often tree (slot ∷ tasks) h g =
    by_slot slot (killed-often tree tasks h g) ∙ sym (sum_by-cons (λ (s : Option Task). cond (there_and (λ task. is_live_under tree h task && (task.group.0 == g)) s) 1 0) slot tasks)
  where
    by_test : (task : Task) (b : Bool) → how_often (counts_of_killed tree tasks h) g key.OomKill ≡ count_there (λ task. is_live_under tree h task && (task.group.0 == g)) tasks
        → how_often (map (λ (s : Option Task). count_of (group_of s) key.OomKill) (cond b (Some task ∷ filter (there_and (is_live_under tree h)) tasks) (filter (there_and (is_live_under tree h)) tasks))) g key.OomKill
        ≡ cond (b && (task.group.0 == g)) 1 0 + count_there (λ task. is_live_under tree h task && (task.group.0 == g)) tasks
    by_test task true same =
        let one = how_often-one (count_of task.group.0 key.OomKill) (counts_of_killed tree tasks h) g key.OomKill in
        let here = hit task.group.0 g true refl in
        omega (arith, same, one, here)
    by_test task false same = omega (arith, same)

    by_slot : (slot : Option Task) → how_often (counts_of_killed tree tasks h) g key.OomKill ≡ count_there (λ task. is_live_under tree h task && (task.group.0 == g)) tasks
        → how_often (counts_of_killed tree (slot ∷ tasks) h) g key.OomKill ≡ cond (there_and (λ task. is_live_under tree h task && (task.group.0 == g)) slot) 1 0 + count_there (λ task. is_live_under tree h task && (task.group.0 == g)) tasks
    by_slot None same = omega (arith, same)
    by_slot (Some task) same = by_test task (is_live_under tree h task) same

-- and under no other key
killed-other : (tree : List Node) (tasks : Tasks) (h g : ℕ) (k : Key) → is_key key.OomKill k ≡ false → how_often (counts_of_killed tree tasks h) g k ≡ 0
killed-other tree tasks h g k other = by_slots (filter (there_and (is_live_under tree h)) tasks)
  where
    by_slots : (slots : List (Option Task)) → how_often (map (λ (s : Option Task). count_of (group_of s) key.OomKill) slots) g k ≡ 0
    by_slots [] = refl
    by_slots (slot ∷ slots) =
        let rest = by_slots slots in
        let one = how_often-one (count_of (group_of slot) key.OomKill) (map (λ (s : Option Task). count_of (group_of s) key.OomKill) slots) g k in
        let none = miss (group_of slot) g (is_key key.OomKill k) other in
        omega (arith, rest, one, none)

-- the victim is counted once more by Linux's placement, and under no other key
victim-often : (placement : Placement) (tasks : Tasks) (victim g : ℕ) → how_often (counts_of_victim placement tasks victim) g key.OomKill ≡ counted_again placement tasks victim g
victim-often Own tasks victim g = refl
victim-often Linux tasks victim g =
    let one = how_often-one (count_of (group_of_task tasks victim) key.OomKill) [] g key.OomKill in let here = hit (group_of_task tasks victim) g true refl in omega (arith, one, here)

victim-other : (placement : Placement) (tasks : Tasks) (victim g : ℕ) (k : Key) → is_key key.OomKill k ≡ false → how_often (counts_of_victim placement tasks victim) g k ≡ 0
victim-other Own tasks victim g k other = refl
victim-other Linux tasks victim g k other =
    let one = how_often-one (count_of (group_of_task tasks victim) key.OomKill) [] g k in let none = miss (group_of_task tasks victim) g (is_key key.OomKill k) other in omega (arith, one, none)

-- what a kill of a group counts under a key at a group: at the limit, for the victim, for its tasks, at itself
group-often : (placement : Placement) (tree : List Node) (tasks : Tasks) (limit victim h g : ℕ) (k : Key)
    → how_often (counts_of_group_kill placement tree tasks limit victim h) g k
    ≡ cond ((limit == g) && is_key key.Oom k) 1 0 + (how_often (counts_of_victim placement tasks victim) g k + (how_often (counts_of_killed tree tasks h) g k + cond ((h == g) && is_key key.OomGroupKill k) 1 0))
group-often placement tree tasks limit victim h g k =
    let first = how_often-one (count_of limit key.Oom) (counts_of_victim placement tasks victim ++ (counts_of_killed tree tasks h ++ count_of h key.OomGroupKill ∷ [])) g k in
    let again = how_often-both (counts_of_victim placement tasks victim) (counts_of_killed tree tasks h ++ count_of h key.OomGroupKill ∷ []) g k in
    let both = how_often-both (counts_of_killed tree tasks h) (count_of h key.OomGroupKill ∷ []) g k in
    let last = how_often-one (count_of h key.OomGroupKill) [] g k in
    omega (arith, first, again, both, last)

-- and a kill of a task: at the limit, and at its group
single-often : (limit home g : ℕ) (k : Key) → how_often (count_of limit key.Oom ∷ count_of home key.OomKill ∷ []) g k ≡ cond ((limit == g) && is_key key.Oom k) 1 0 + cond ((home == g) && is_key key.OomKill k) 1 0
single-often limit home g k =
    let first = how_often-one (count_of limit key.Oom) (count_of home key.OomKill ∷ []) g k in
    let second = how_often-one (count_of home key.OomKill) [] g k in
    omega (arith, first, second)

module _ (opening : Opening) (history : List Entry) (before after : State) (why : Cause) (legal : Legal opening history before) where
  abbrev limit : ℕ
  limit = target_of why

  one_counts : (t : ℕ) → Step before (event.Relieve why) (reply.KilledTask (record { 0 = t })) after → CountsKill before limit (λ g. cond (group_of_task before.tasks t == g) 1 0) None after
  one_counts t step =
      record {
        oom = λ g. let is = told g key.Oom in let a = hit limit g true refl in let b = miss home g false refl in omega (arith, is, a, b);
        oom_kill = λ g. let is = told g key.OomKill in let a = miss limit g false refl in let b = hit home g true refl in omega (arith, is, a, b);
        oom_group_kill = λ g. let is = told g key.OomGroupKill in let a = miss limit g false refl in let b = miss home g false refl in omega (arith, is, a, b);
        low = λ g. let is = told g key.Low in let a = miss limit g false refl in let b = miss home g false refl in omega (arith, is, a, b);
        high = λ g. let is = told g key.High in let a = miss limit g false refl in let b = miss home g false refl in omega (arith, is, a, b);
        max = λ g. let is = told g key.Max in let a = miss limit g false refl in let b = miss home g false refl in omega (arith, is, a, b);
      }
    where
      home : ℕ
      home = group_of_task before.tasks t

      told : (g : ℕ) (k : Key) → local after.counted g k ≡ local before.counted g k + (cond ((limit == g) && is_key key.Oom k) 1 0 + cond ((home == g) && is_key key.OomKill k) 1 0)
      told g k =
          step-counts opening history before after (event.Relieve why) (reply.KilledTask (record { 0 = t })) legal step g k
          ∙ ap (λ (events : List Counted). local before.counted g k + how_often events g k) (step-counted before after (event.Relieve why) (reply.KilledTask (record { 0 = t })) step).names
          ∙ ap (λ (n : ℕ). local before.counted g k + n) (single-often limit home g k)

  all_counts : (victim h tasks : ℕ) → Step before (event.Relieve why) (reply.KilledAll (record { 0 = victim }) (record { 0 = h }) tasks) after
      → CountsKill before limit (λ g. count_there (λ task. is_live_under before.tree h task && (task.group.0 == g)) before.tasks + counted_again before.opening.placement before.tasks victim g) (Some h) after
  all_counts victim h tasks step =
      record {
        oom = λ g. let is = told g key.Oom in let a = hit limit g true refl in let v = victim-other before.opening.placement before.tasks victim g key.Oom refl in let b = killed-other before.tree before.tasks h g key.Oom refl in let c = miss h g false refl in omega (arith, is, a, v, b, c);
        oom_kill = λ g. let is = told g key.OomKill in let a = miss limit g false refl in let v = victim-often before.opening.placement before.tasks victim g in let b = killed-often before.tree before.tasks h g in let c = miss h g false refl in omega (arith, is, a, v, b, c);
        oom_group_kill = λ g. let is = told g key.OomGroupKill in let a = miss limit g false refl in let v = victim-other before.opening.placement before.tasks victim g key.OomGroupKill refl in let b = killed-other before.tree before.tasks h g key.OomGroupKill refl in let c = hit h g true refl in omega (arith, is, a, v, b, c);
        low = λ g. let is = told g key.Low in let a = miss limit g false refl in let v = victim-other before.opening.placement before.tasks victim g key.Low refl in let b = killed-other before.tree before.tasks h g key.Low refl in let c = miss h g false refl in omega (arith, is, a, v, b, c);
        high = λ g. let is = told g key.High in let a = miss limit g false refl in let v = victim-other before.opening.placement before.tasks victim g key.High refl in let b = killed-other before.tree before.tasks h g key.High refl in let c = miss h g false refl in omega (arith, is, a, v, b, c);
        max = λ g. let is = told g key.Max in let a = miss limit g false refl in let v = victim-other before.opening.placement before.tasks victim g key.Max refl in let b = killed-other before.tree before.tasks h g key.Max refl in let c = miss h g false refl in omega (arith, is, a, v, b, c);
      }
    where
      told : (g : ℕ) (k : Key) → local after.counted g k
          ≡ local before.counted g k
          + (cond ((limit == g) && is_key key.Oom k) 1 0
          + (how_often (counts_of_victim before.opening.placement before.tasks victim) g k + (how_often (counts_of_killed before.tree before.tasks h) g k + cond ((h == g) && is_key key.OomGroupKill k) 1 0)))
      told g k =
          step-counts opening history before after (event.Relieve why) (reply.KilledAll (record { 0 = victim }) (record { 0 = h }) tasks) legal step g k
          ∙ ap (λ (events : List Counted). local before.counted g k + how_often events g k) (step-counted before after (event.Relieve why) (reply.KilledAll (record { 0 = victim }) (record { 0 = h }) tasks) step).names
          ∙ ap (λ (n : ℕ). local before.counted g k + n) (group-often before.opening.placement before.tree before.tasks limit victim h g k)

pub kills_are_counted : KillsAreCounted
kills_are_counted opening history before after why legal = (one_counts opening history before after why legal, all_counts opening history before after why legal)

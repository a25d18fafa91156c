-- A kill of a group, one task number after another.
use Rattle.std.proofs.Common.{◌≡◌, ◌≢◌, ◌⊎◌, inl, inr, ℕ, zero, suc, ◌+◌, ◌<◌, ◌≤◌, ◌^◌, ◌==◌, ◌&&◌, ◌||◌, Bool, true, false, cond, List, [], ◌∷◌, ◌++◌, length, Option, Some, None, eqb-true, eq-eqb, refl, sym, ap, ◌∙◌, subst, arith}
use Rattle.std.specs.Prelude.{filter, map, take, nat_lt}
use Rattle.std.proofs.lemmas.Bool.{and_parts}
use Rattle.std.proofs.lemmas.Bool.Decides.{nat_tests}
use Rattle.std.proofs.lemmas.List.{map-append}
use Rattle.std.proofs.Math.ListN.{get_or-eq_default}
use Rattle.machine.specs.declared.record.EventCounts.{EventCounts}
use Rattle.machine.specs.declared.record.Key.TheVariants as key
use Rattle.machine.specs.declared.record.Life.{Life}
use Rattle.machine.specs.declared.record.Task.{Task}
use Rattle.machine.specs.Slots.{there_and, count_there}
use Rattle.machine.specs.Tree.{Node}
use Rattle.machine.specs.Pages.{page_at}
use Rattle.machine.specs.Tasks.{Tasks, is_live_life, task_at, task_of, group_of, group_of_task, mapped_at, mappers, lives}
use Rattle.machine.specs.Counts.{Counted, count_of, with_event, with_events}
use Rattle.machine.specs.Victim.{is_live_under, is_candidate, killed_with, counts_of_killed, counts_of_victim, counts_of_group_kill}
use Rattle.machine.specs.State.{State}
use Rattle.machine.specs.Lists.{Youngest, ListsHeld, AreGenerations}
use Rattle.machine.proofs.Values.{unlike}
use Rattle.machine.proofs.SlotLemmas.{one_if, count_there-more}
use Rattle.machine.proofs.MappingLemmas.{mappers-less}
use Rattle.page_state.specs.States.{StateOf, AreAtMost}
use Rattle.page_state.specs.Mapped.{AreMapped}
use Rattle.page_state.specs.Changes.{counts_event, counts_events, DropsPages, EndsTasks}
use Rattle.page_state.specs.Kills.{CountsBelow, is_ended_below}
use Rattle.page_state.proofs.DropLemmas.{drops-none, drops-then}

-- ---- counts

pub with_events-append : (counted : List EventCounts) (xs ys : List Counted) → with_events counted (xs ++ ys) ≡ with_events (with_events counted xs) ys
with_events-append counted [] ys = refl
with_events-append counted (x ∷ xs) ys = with_events-append (with_event counted x.group x.key) xs ys

-- the first numbers, and one number more
killed-more : (tree : List Node) (tasks : Tasks) (h n : ℕ)
    → counts_of_killed tree (take (suc n) tasks) h ≡ counts_of_killed tree (take n tasks) h ++ cond (is_candidate tree tasks h n) (count_of (group_of_task tasks n) key.OomKill ∷ []) []
killed-more tree [] h zero = refl
killed-more tree [] h (suc n) = refl
killed-more tree (slot ∷ tasks) h zero = by_test (there_and (is_live_under tree h) slot)
  where
    by_test : (b : Bool) → map (λ (s : Option Task). count_of (group_of s) key.OomKill) (cond b (slot ∷ []) []) ≡ cond b (count_of (group_of slot) key.OomKill ∷ []) []
    by_test true = refl
    by_test false = refl
killed-more tree (slot ∷ tasks) h (suc n) =
    by_test (there_and (is_live_under tree h) slot) (filter (there_and (is_live_under tree h)) (take (suc n) tasks)) (filter (there_and (is_live_under tree h)) (take n tasks)) _ (killed-more tree tasks h n)
  where
    by_test : (b : Bool) (more rest : List (Option Task)) (last : List Counted) → map (λ (s : Option Task). count_of (group_of s) key.OomKill) more ≡ map (λ (s : Option Task). count_of (group_of s) key.OomKill) rest ++ last
        → map (λ (s : Option Task). count_of (group_of s) key.OomKill) (cond b (slot ∷ more) more) ≡ map (λ (s : Option Task). count_of (group_of s) key.OomKill) (cond b (slot ∷ rest) rest) ++ last
    by_test true more rest last e = ap (λ (cs : List Counted). count_of (group_of slot) key.OomKill ∷ cs) e
    by_test false more rest last e = e

pub counts-none : (s : StateOf) (h : ℕ) → AreAtMost s.tables (2 ^ 63 + 2) → CountsBelow s s h 0 0
counts-none s h most = record { counts = refl; many = refl; few = omega arith; most = λ k. let le = most k in omega (arith, le) }

pub counts-more : (old mid new : StateOf) (h n tasks one : ℕ) → CountsBelow old mid h n tasks
    → one ≡ cond (is_candidate mid.tables.tree mid.tables.tasks h n) 1 0 → new ≡ counts_events mid (cond (is_candidate mid.tables.tree mid.tables.tasks h n) (count_of (group_of_task mid.tables.tasks n) key.OomKill ∷ []) [])
    → ((m : ℕ) → AreAtMost mid.tables m → AreAtMost new.tables (m + 1)) → CountsBelow old new h (n + 1) (tasks + one)
counts-more old mid new h n tasks one first is counts most =
    record {
      counts = counts
          ∙ ap (λ (s : StateOf). counts_events s (cond (is_candidate s.tables.tree s.tables.tasks h n) (count_of (group_of_task s.tables.tasks n) key.OomKill ∷ []) [])) first.counts
          ∙ ap (λ (cs : List EventCounts). record old { tables = record (old.tables) { counted = cs } }) (sym (with_events-append old.tables.counted (counts_of_killed old.tables.tree (take n old.tables.tasks) h) _) ∙ ap (with_events old.tables.counted) (sym killed));
      many = (let more = counted in let here = is_one in let many = first.many in omega (arith, more, here, many));
      few = (let few = first.few in let le = one-le (is_candidate mid.tables.tree mid.tables.tasks h n) in omega (arith, few, le, is));
      most = λ k. let le = most (2 ^ 63 + 2 + n) first.most k in omega (arith, le);
    }
  where
    next : suc n ≡ n + 1
    next = omega arith

    killed : counts_of_killed old.tables.tree (take (n + 1) old.tables.tasks) h
        ≡ counts_of_killed old.tables.tree (take n old.tables.tasks) h ++ cond (is_candidate old.tables.tree old.tables.tasks h n) (count_of (group_of_task old.tables.tasks n) key.OomKill ∷ []) []
    killed = sym (ap (λ (m : ℕ). counts_of_killed old.tables.tree (take m old.tables.tasks) h) next) ∙ killed-more old.tables.tree old.tables.tasks h n

    counted : killed_with old.tables.tree (take (n + 1) old.tables.tasks) h ≡ killed_with old.tables.tree (take n old.tables.tasks) h + one_if (there_and (is_live_under old.tables.tree h) (task_at old.tables.tasks n))
    counted = sym (ap (λ (m : ℕ). killed_with old.tables.tree (take m old.tables.tasks) h) next) ∙ count_there-more (is_live_under old.tables.tree h) old.tables.tasks n

    one-le : (b : Bool) → cond b 1 0 ≤ 1
    one-le true = omega arith
    one-le false = omega arith

    is_one : one ≡ one_if (there_and (is_live_under old.tables.tree h) (task_at old.tables.tasks n))
    is_one = is ∙ ap (λ (s : StateOf). let m : ℕ = cond (is_candidate s.tables.tree s.tables.tasks h n) 1 0 in m) first.counts

take-all : {T : Type 0} (xs : List T) (n : ℕ) → length xs ≤ n → take n xs ≡ xs
take-all [] zero le = refl
take-all [] (suc n) le = refl
take-all (x ∷ xs) zero le = absurd (omega (arith, le))
take-all (x ∷ xs) (suc n) le = ap (λ ys. x ∷ ys) (take-all xs n (omega (arith, le)))

-- all numbers were looked at
pub counts-all : (old new : StateOf) (h n tasks : ℕ) → length old.tables.tasks ≤ n → CountsBelow old new h n tasks
    → (tasks ≡ killed_with old.tables.tree old.tables.tasks h) × (new ≡ counts_events old (counts_of_killed old.tables.tree old.tables.tasks h))
counts-all old new h n tasks within all = (
  all.many ∙ ap (λ (slots : Tasks). killed_with old.tables.tree slots h) whole,
  all.counts ∙ ap (λ (slots : Tasks). counts_events old (counts_of_killed old.tables.tree slots h)) whole,
)
  where
    whole : take n old.tables.tasks ≡ old.tables.tasks
    whole = take-all old.tables.tasks n within

-- what is counted at the limit first, for the victim then, and at the group last
pub counts-group : (old first second mid new : StateOf) (limit victim h : ℕ) → first ≡ counts_event old limit key.Oom → second ≡ counts_events first (counts_of_victim first.tables.opening.placement first.tables.tasks victim)
    → mid ≡ counts_events second (counts_of_killed second.tables.tree second.tables.tasks h) → new ≡ counts_event mid h key.OomGroupKill
    → new ≡ counts_events old (counts_of_group_kill old.tables.opening.placement old.tables.tree old.tables.tasks limit victim h)
counts-group old first second mid new limit victim h oom again kills group =
    group ∙ ap (λ (s : StateOf). counts_event s h key.OomGroupKill) (kills ∙ ap (λ (s : StateOf). counts_events s (counts_of_killed s.tables.tree s.tables.tasks h)) twice)
    ∙ ap (λ (cs : List EventCounts). record old { tables = record (old.tables) { counted = cs } })
    (sym (with_events-append (with_event old.tables.counted limit key.Oom) (counts_of_victim old.tables.opening.placement old.tables.tasks victim) ((counts_of_killed old.tables.tree old.tables.tasks h) ++ (count_of h key.OomGroupKill ∷ [])) ∙ with_events-append (with_events (with_event old.tables.counted limit key.Oom) (counts_of_victim old.tables.opening.placement old.tables.tasks victim)) (counts_of_killed old.tables.tree old.tables.tasks h) (count_of h key.OomGroupKill ∷ [])))
  where
    twice : second ≡ counts_events (counts_event old limit key.Oom) (counts_of_victim old.tables.opening.placement old.tables.tasks victim)
    twice = again ∙ ap (λ (s : StateOf). counts_events s (counts_of_victim s.tables.opening.placement s.tables.tasks victim)) oom

-- ---- ends

-- some tasks end, and then some others
module _ (old mid new : StateOf) (life : Life) (was also : ℕ → Bool) (sound : AreGenerations old.order.held) (first : EndsTasks old mid was life) (second : EndsTasks mid new also life) where
  pub ends-then : (all : ℕ → Bool) → ((u : ℕ) → all u ≡ (was u || also u)) → ((u : ℕ) → also u ≡ true → was u ≡ false) → EndsTasks old new all life
  ends-then all is apart =
      record {
        none = λ u v gone. none u v (also u) refl gone;
        others = λ u v stays. let both = neither u stays in second.others u v both.1 ∙ first.others u v both.0;
        ends = λ u gone. ends u (also u) refl gone;
        stays = λ u stays. let both = neither u stays in second.stays u both.1 ∙ first.stays u both.0;
        drops = drops-then old mid new sound first.drops second.drops (λ p. mappers-less mid.tables.page_tables new.tables.page_tables p (λ u v. less u v (also u) refl));
        tables = second.tables ∙ ap (λ (s : State). record s { pages = new.tables.pages; tasks = new.tables.tasks; page_tables = new.tables.page_tables }) first.tables;
      }
    where
      none_of : (a b : Bool) → (a || b) ≡ false → (a ≡ false) × (b ≡ false)
      none_of true b e = absurd cc
      none_of false b e = (refl, e)

      first_of : (a b : Bool) → (a || b) ≡ true → b ≡ false → a ≡ true
      first_of true b e lacks = refl
      first_of false b e lacks = absurd (unlike b e lacks)

      neither : (u : ℕ) → all u ≡ false → (was u ≡ false) × (also u ≡ false)
      neither u stays = none_of (was u) (also u) (sym (is u) ∙ stays)

      none : (u v : ℕ) (b : Bool) → also u ≡ b → all u ≡ true → mapped_at new.tables.page_tables u v ≡ None
      none u v true now gone = second.none u v now
      none u v false now gone = second.others u v now ∙ first.none u v (first_of (was u) (also u) (sym (is u) ∙ gone) now)

      ends : (u : ℕ) (b : Bool) → also u ≡ b → all u ≡ true → task_at new.tables.tasks u ≡ Some (task_of (group_of_task old.tables.tasks u) life)
      ends u true now gone = second.ends u now ∙ ap (λ (slot : Option Task). Some (task_of (group_of slot) life)) (first.stays u (apart u now))
      ends u false now gone = second.stays u now ∙ first.ends u (first_of (was u) (also u) (sym (is u) ∙ gone) now)

      less : (u v : ℕ) (b : Bool) → also u ≡ b → (mapped_at new.tables.page_tables u v ≡ mapped_at mid.tables.page_tables u v) ⊎ (mapped_at new.tables.page_tables u v ≡ None)
      less u v true now = inr (second.none u v now)
      less u v false now = inl (second.others u v now)

-- the same tasks, by another test
ends-same : (old new : StateOf) (life : Life) (was now : ℕ → Bool) → ((u : ℕ) → now u ≡ was u) → EndsTasks old new was life → EndsTasks old new now life
ends-same old new life was now same h =
    record {
      none = λ u v gone. h.none u v (sym (same u) ∙ gone);
      others = λ u v stays. h.others u v (sym (same u) ∙ stays);
      ends = λ u gone. h.ends u (sym (same u) ∙ gone);
      stays = λ u stays. h.stays u (sym (same u) ∙ stays);
      drops = h.drops;
      tables = h.tables;
    }

-- nobody ends
pub ends-nobody : (s : StateOf) (life : Life) (nobody : ℕ → Bool) → ((u : ℕ) → nobody u ≡ false) → AreMapped s.tables.pages s.tables.page_tables → ListsHeld s.tables.pages s.order.held → EndsTasks s s nobody life
ends-nobody s life nobody never mapped listed =
    record {
      none = λ u v gone. absurd (unlike (nobody u) gone (never u));
      others = λ u v stays. refl;
      ends = λ u gone. absurd (unlike (nobody u) gone (never u));
      stays = λ u stays. refl;
      drops = drops-none s mapped listed;
      tables = refl;
    }

pub ends-none : (s : StateOf) (life : Life) (h : ℕ) → AreMapped s.tables.pages s.tables.page_tables → ListsHeld s.tables.pages s.order.held → EndsTasks s s (is_ended_below s h 0) life
ends-none s life h mapped listed = ends-nobody s life (is_ended_below s h 0) (λ u. let none : nat_lt u 0 ≡ false = grind (arith, nat_tests) in ap (λ b. b && is_candidate s.tables.tree s.tables.tasks h u) none) mapped listed

or_false : (b : Bool) → (b || false) ≡ b
or_false true = refl
or_false false = refl

-- a number more is looked at
pub ends-more : (old mid new : StateOf) (life : Life) (h n : ℕ) → AreGenerations old.order.held → EndsTasks old mid (is_ended_below old h n) life
    → EndsTasks mid new (λ u. (u == n) && is_candidate mid.tables.tree mid.tables.tasks h n) life → EndsTasks old new (is_ended_below old h (n + 1)) life
ends-more old mid new life h n sound first second =
    ends-then old mid new life (is_ended_below old h n) (λ u. (u == n) && is_candidate mid.tables.tree mid.tables.tasks h n) sound first second (is_ended_below old h (n + 1)) both apart
  where
    same_there : is_candidate mid.tables.tree mid.tables.tasks h n ≡ is_candidate old.tables.tree old.tables.tasks h n
    same_there =
        ap (λ (s : State). there_and (is_live_under s.tree h) (task_at mid.tables.tasks n)) first.tables
        ∙ ap (λ (slot : Option Task). there_and (is_live_under old.tables.tree h) slot) (first.stays n (not_below n (nat_lt n n) refl))
      where
        not_below : (m : ℕ) (b : Bool) → nat_lt m m ≡ b → (nat_lt m m && is_candidate old.tables.tree old.tables.tasks h m) ≡ false
        not_below m true e = absurd (grind (arith, nat_tests, e))
        not_below m false e = ap (λ x. x && is_candidate old.tables.tree old.tables.tasks h m) e

    both : (u : ℕ) → (nat_lt u (n + 1) && is_candidate old.tables.tree old.tables.tasks h u) ≡ ((nat_lt u n && is_candidate old.tables.tree old.tables.tasks h u) || ((u == n) && is_candidate mid.tables.tree mid.tables.tasks h n))
    both u = by_number (u == n) refl
      where
        by_number : (b : Bool) → (u == n) ≡ b → (nat_lt u (n + 1) && is_candidate old.tables.tree old.tables.tasks h u) ≡ ((nat_lt u n && is_candidate old.tables.tree old.tables.tasks h u) || ((u == n) && is_candidate mid.tables.tree mid.tables.tasks h n))
        by_number true e =
            let within : nat_lt u (n + 1) ≡ true = grind (arith, nat_tests, e) in
            let beyond : nat_lt u n ≡ false = grind (arith, nat_tests, e) in
            let same = ap (λ (m : ℕ). is_candidate old.tables.tree old.tables.tasks h m) (eqb-true u n e) in
            rw (within, beyond, e) (same ∙ sym same_there)
        by_number false e =
            let alike : nat_lt u (n + 1) ≡ nat_lt u n = grind (arith, nat_tests, e) in
            rw (alike, e) (sym (or_false (nat_lt u n && is_candidate old.tables.tree old.tables.tasks h u)))

    apart : (u : ℕ) → ((u == n) && is_candidate mid.tables.tree mid.tables.tasks h n) ≡ true → (nat_lt u n && is_candidate old.tables.tree old.tables.tasks h u) ≡ false
    apart u e = let here = (and_parts (u == n) _ e).0 in let beyond : nat_lt u n ≡ false = grind (arith, nat_tests, here) in ap (λ b. b && is_candidate old.tables.tree old.tables.tasks h u) beyond

-- all numbers were looked at
pub ends-all : (old new : StateOf) (life : Life) (h n : ℕ) → length old.tables.tasks ≤ n → EndsTasks old new (is_ended_below old h n) life → EndsTasks old new (is_candidate old.tables.tree old.tables.tasks h) life
ends-all old new life h n within all = ends-same old new life (is_ended_below old h n) (is_candidate old.tables.tree old.tables.tasks h) (λ u. by_order u (nat_lt u n) refl) all
  where
    by_order : (u : ℕ) (b : Bool) → nat_lt u n ≡ b → is_candidate old.tables.tree old.tables.tasks h u ≡ (nat_lt u n && is_candidate old.tables.tree old.tables.tasks h u)
    by_order u true e = sym (ap (λ x. x && is_candidate old.tables.tree old.tables.tasks h u) e)
    by_order u false e =
        let beyond : length old.tables.tasks ≤ u = grind (arith, nat_tests, e, within) in
        ap (there_and (is_live_under old.tables.tree h)) (get_or-eq_default old.tables.tasks None beyond) ∙ sym (ap (λ x. x && is_candidate old.tables.tree old.tables.tasks h u) e)

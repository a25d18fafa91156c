-- Who is killed: the group that dies with a victim is one that is there.
use Rattle.std.proofs.Common.{◌≡◌, inl, inr, ℕ, zero, suc, ◌<◌, arith, true, false, List, [], Option, Some, None, refl, sym, ap, subst, ◌∙◌}
use Rattle.std.specs.Prelude.{option_map}
use Rattle.std.proofs.lemmas.Bool.{and_parts}
use Rattle.machine.specs.Tree.{Node, node_at, is_live, under, under_at}
use Rattle.machine.specs.Tasks.{lives, group_of_task}
use Rattle.machine.specs.Victim.{IsVictim, kill_group_of, IsVictims}
use Rattle.machine.specs.State.{State}
use Rattle.machine.specs.Reclaim.{stands, target_of, has_takeable, has_transfer}
use Rattle.machine.specs.declared.id.GroupId.{GroupId}
use Rattle.machine.specs.declared.event.Cause.{Cause}
use Rattle.machine.specs.declared.event.Cause.TheVariants as cause
use Rattle.machine.specs.declared.event.Event.TheVariants as event
use Rattle.machine.proofs.Values.{unlike}
use Rattle.machine.proofs.TreeLemmas.{eq_cases, under_at-None}
use Rattle.oom.proofs.KillGroupLemmas.{candidate-parts, IsHighest, above_parent, kill_group-highest}
use Rattle.group_tree.specs.Groups.{IsGroupTree}
use Rattle.oom.specs.declared.Chosen.{Chosen}
use Rattle.oom.specs.Chosen.{pair_of}
use Rattle.page_state.specs.States.{StateOf}
use Rattle.book.specs.Decisions.{kill_with, kill_of, IsDecided}

-- whatever is above a live group is live
above-live : (tree : List Node) → IsGroupTree tree → (n a g : ℕ) → g < n → is_live tree g ≡ true → under tree a g ≡ true → is_live tree a ≡ true
above-live tree is zero a g lt live up = absurd (omega (arith, lt))
above-live tree is (suc n) a g lt live up =
    elim (eq_cases a g) [
      | inl same ↦ ap (is_live tree) same ∙ live
      | inr differs ↦ by_parent (node_at tree g).parent refl (above_parent tree is.earlier_parents [] a a g differs up) (λ p below. above-live tree is n a p (let less = is.earlier_parents.falls g p below in omega (arith, lt, less)) (is.parents_live g p live below))
    ]
  where
    by_parent : (parent : Option ℕ) → (node_at tree g).parent ≡ parent → under_at tree a (node_at tree g).parent ≡ true → ((p : ℕ) → (node_at tree g).parent ≡ Some p → under tree a p ≡ true → is_live tree a ≡ true) → is_live tree a ≡ true
    by_parent None e over rest = absurd (unlike (under_at tree a (node_at tree g).parent) over (ap (under_at tree a) e ∙ under_at-None tree is.earlier_parents a))
    by_parent (Some p) e over rest = rest p e (sym (ap (under_at tree a) e) ∙ over)

-- the group that dies with a victim is there
pub kill_group-live : (s : State) → IsGroupTree s.tree → ((t : ℕ) → lives s.tasks t ≡ true → is_live s.tree (group_of_task s.tasks t) ≡ true) → (limit victim h : ℕ) → IsVictim s.tree s.tasks s.page_tables limit (Some victim)
    → kill_group_of s.tree s.flags s.tasks limit victim ≡ Some h → is_live s.tree h ≡ true
kill_group-live s is homes limit victim h worst group =
    let lives_under = candidate-parts s.tree s.tasks limit victim worst.among in
    let highest = subst (IsHighest s.tree is.earlier_parents s.flags limit (group_of_task s.tasks victim)) group (kill_group-highest s.tree is.earlier_parents s.flags limit (group_of_task s.tasks victim) lives_under.1) in
    above-live s.tree is (suc (group_of_task s.tasks victim)) h (group_of_task s.tasks victim) (omega arith) (homes victim lives_under.0) highest.2

-- ---- what is decided

-- the group for which room is wanted is there
wants-live : (s : State) (why : Cause) → stands s why ≡ true → is_live s.tree 0 ≡ true → is_live s.tree (target_of why) ≡ true
wants-live s (cause.Charge g) wants root = (and_parts (is_live s.tree g.0) _ wants).0
wants-live s (cause.Lower g) wants root = (and_parts (is_live s.tree g.0) _ wants).0
wants-live s cause.Frame wants root = root

-- the victim dies alone, or with its group
pub decided-kill : (s : StateOf) (why : Cause) (limit : GroupId) (chosen : Chosen) → stands s.tables why ≡ true → limit.0 ≡ target_of why → is_live s.tables.tree 0 ≡ true → has_takeable s.tables limit.0 ≡ false → has_transfer s.tables limit.0 ≡ false
    → IsVictims s.tables.tree s.tables.flags s.tables.tasks s.tables.page_tables limit.0 (Some (pair_of chosen)) → IsDecided s (event.Relieve why) (kill_of limit chosen)
decided-kill s why limit chosen wants is root untakeable settled victims = by_group chosen.group victims.1
  where
    live : is_live s.tables.tree limit.0 ≡ true
    live = ap (is_live s.tables.tree) is ∙ wants-live s.tables why wants root

    by_group : (group : Option GroupId) → kill_group_of s.tables.tree s.tables.flags s.tables.tasks limit.0 chosen.victim.0 ≡ option_map (λ (g : GroupId). g.0) group → IsDecided s (event.Relieve why) (kill_with limit chosen.victim group)
    by_group None alone = record { none = refl; sound = (live, record { untakeable = untakeable; settled = settled }, victims.0, alone); fits = (wants, sym is) }
    by_group (Some h) with_group = record { none = refl; sound = (live, record { untakeable = untakeable; settled = settled }, victims.0, with_group); fits = (wants, sym is) }

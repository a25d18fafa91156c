-- Whom the out-of-memory killer takes (mm/oom_kill.c: oom_badness, select_bad_process; pages alone, shared ones counted for each task), and whom with it (mm/memcontrol.c:
-- mem_cgroup_get_oom_group).
use Rattle.std.specs.Prelude.{◌≡◌, ℕ, ◌==◌, ◌&&◌, ◌||◌, nat_lt, Bool, true, false, List, [], ◌∷◌, ◌++◌, map, filter, slice_index_or, Option, Some, None}
use Rattle.std.specs.List.{last_or}
use Rattle.machine.specs.declared.config.Placement.{Placement}
use Rattle.machine.specs.declared.config.Placement.TheVariants.{Own, Linux}
use Rattle.machine.specs.declared.record.Key.TheVariants as key
use Rattle.machine.specs.declared.record.OomGroup.{OomGroup}
use Rattle.machine.specs.declared.record.OomGroup.TheVariants.{Single, Whole}
use Rattle.machine.specs.declared.record.Task.{Task}
use Rattle.machine.specs.Slots.{there_and, count_there}
use Rattle.machine.specs.Tree.{Node, under, chain_below}
use Rattle.machine.specs.Counts.{Counted, count_of}
use Rattle.machine.specs.Tasks.{Tasks, PageTables, task_at, is_live_task, group_of, group_of_task, size_of}

-- a live task of a group at or under the limit
abbrev pub is_live_under : List Node → ℕ → Task → Bool
is_live_under tree limit task = is_live_task task && under tree limit task.group.0

abbrev pub is_candidate : List Node → Tasks → ℕ → ℕ → Bool
is_candidate tree tasks limit t = there_and (is_live_under tree limit) (task_at tasks t)

-- a task with more mappings than the other, or with as many and a lesser number: a total order
abbrev pub is_worse : PageTables → ℕ → ℕ → Bool
is_worse tables t other = nat_lt (size_of tables other) (size_of tables t) || ((size_of tables t == size_of tables other) && nat_lt t other)

-- one of the candidates, and none of them is worse. (Excludes a machine that kills the task of least number whatever its size, or one outside the limit.)
pub record IsWorst (tree : List Node) (tasks : Tasks) (tables : PageTables) (limit worst : ℕ) : Type 0 where
  pub among : is_candidate tree tasks limit worst ≡ true
  pub none_worse : (t : ℕ) → is_candidate tree tasks limit t ≡ true → is_worse tables t worst ≡ false

-- the task to be killed for room under the limit, and None just where there is none
abbrev pub IsVictim : List Node → Tasks → PageTables → ℕ → Option ℕ → Type 0
IsVictim tree tasks tables limit (Some t) = IsWorst tree tasks tables limit t
IsVictim tree tasks tables limit None = (t : ℕ) → is_candidate tree tasks limit t ≡ false

-- ---- the group that dies with it

-- the flag of a group. A new group's, and that of a number that is no group's, is Single, and so is the root's for good, since it has no file for it
abbrev pub flag_at : List OomGroup → ℕ → OomGroup
flag_at flags g = slice_index_or flags g Single

abbrev pub is_whole : OomGroup → Bool
is_whole Single = false
is_whole Whole = true

-- the group has the flag: it is killed as one
abbrev pub is_flagged : List OomGroup → ℕ → Bool
is_flagged flags g = is_whole (flag_at flags g)

-- from a group at or under the limit up to the limit, both counted
abbrev pub chain_to : List Node → ℕ → ℕ → List ℕ
chain_to tree limit g = chain_below tree limit g ++ limit ∷ []

-- the group that is killed as one where a task of g is the victim: the highest on the way from g up to the limit that has the flag, and None where none has, so that the victim dies alone.
-- (Excludes the flag of a group above the limit, the lowest of several that have it, and a limit whose own flag is not looked at.)
abbrev pub kill_group : List Node → List OomGroup → ℕ → ℕ → Option ℕ
kill_group tree flags limit g = last_or None (filter (is_flagged flags) (chain_to tree limit g))

-- the same, for the group of a task
abbrev pub kill_group_of : List Node → List OomGroup → Tasks → ℕ → ℕ → Option ℕ
kill_group_of tree flags tasks limit t = kill_group tree flags limit (group_of_task tasks t)

-- the victim, if there is one, and the group that dies with it, if one does
abbrev pub IsVictims : List Node → List OomGroup → Tasks → PageTables → ℕ → Option (ℕ × Option ℕ) → Type 0
IsVictims tree flags tasks tables limit None = IsVictim tree tasks tables limit None
IsVictims tree flags tasks tables limit (Some victims) =
    IsVictim tree tasks tables limit (Some victims.0) × (kill_group_of tree flags tasks limit victims.0 ≡ victims.1)

-- how many tasks die with the group h: the live ones at or under it
abbrev pub killed_with : List Node → Tasks → ℕ → ℕ
killed_with tree tasks h = count_there (is_live_under tree h) tasks

-- of these each is counted once, by rising number, as killed at its own group
abbrev pub counts_of_killed : List Node → Tasks → ℕ → List Counted
counts_of_killed tree tasks h = map (λ slot. count_of (group_of slot) key.OomKill) (filter (there_and (is_live_under tree h)) tasks)

-- by Linux's placement the victim is counted before that, too, at its own group: the kernel kills it alone, and then once more as one of the group's tasks
abbrev pub counts_of_victim : Placement → Tasks → ℕ → List Counted
counts_of_victim Own tasks victim = []
counts_of_victim Linux tasks victim = count_of (group_of_task tasks victim) key.OomKill ∷ []

-- what is counted where the group h is killed with the victim for room under the limit: that there was none at the limit, each task at its own group, and the kill of the group at h. (Excludes a group's
-- kill that is counted at the limit or for each task, and tasks that are counted at h, or as one.)
abbrev pub counts_of_group_kill : Placement → List Node → Tasks → ℕ → ℕ → ℕ → List Counted
counts_of_group_kill placement tree tasks limit victim h =
    count_of limit key.Oom ∷ (counts_of_victim placement tasks victim ++ (counts_of_killed tree tasks h ++ count_of h key.OomGroupKill ∷ []))

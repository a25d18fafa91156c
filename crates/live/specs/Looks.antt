-- What the control files of groups say when a run has ended.
use Rattle.std.specs.Prelude.{◌≡◌, ℕ, List, map, Option, option_map}
use Rattle.machine.specs.declared.entry.Entry.{Entry}
use Rattle.machine.specs.Tree.{find_group}
use Rattle.machine.specs.Counts.{counts_by, total}
use Rattle.machine.specs.State.{Opening, State, stat_of}
use Rattle.book.specs.Looks.{group_look}
use Rattle.live.specs.declared.looks.EndLook.{EndLook}
use Rattle.live.specs.Passes.{PassOf}
use Rattle.live.specs.OneRun.{IsOneRun}

-- a group: its charges and settings; how many of its pages are memory of tasks and how many are of files; and its event counts, with those of all groups below it
abbrev pub group_at_end : State → ℕ → EndLook
group_at_end s g = record { group = group_look s g; stat = stat_of s g; events = counts_by (total s.tree s.counted g) }

-- the same of the group that has this path, if one has
abbrev pub end_look : State → List ℕ → Option EndLook
end_look s path = option_map (group_at_end s) (find_group s.tree path)

-- Each path was looked at in the state to which the one run led, and in no other. (Excludes the numbers of an earlier state, of another group, and of a run that did not tell the workers what they were told; and a group that was
-- removed.)
pub record EndsLooked (opening : Opening) (entries : List Entry) (passes : List PassOf) (paths : List (List ℕ)) (looks : List (Option EndLook)) : Type 0 where
  pub run : IsOneRun opening entries passes
  pub looks_are : looks ≡ map (end_look run.past.state) paths

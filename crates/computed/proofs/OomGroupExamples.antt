-- Examples: memory.oom.group, by which all tasks of a group are killed as one. Which group that is, who dies with it, what is counted, and what is set, shown and said.
use Rattle.std.proofs.Common.{◌≡◌, ℕ, true, false, List, [], ◌∷◌, ◌++◌, Some, None, refl, ap}
use Rattle.std.specs.Prelude.{codes, replicate}
use Rattle.std.specs.Fmt.{digits}
use Rattle.machine.specs.declared.config.Placement.TheVariants.{Own, Linux}
use Rattle.machine.specs.declared.config.Placement.{Placement}
use Rattle.machine.specs.declared.amount.Amount.TheVariants.{Max}
use Rattle.machine.specs.declared.control.ControlFile.TheVariants as file
use Rattle.machine.specs.declared.event.Cause.TheVariants as cause
use Rattle.machine.specs.declared.event.Setting.TheVariants as setting
use Rattle.machine.specs.declared.event.Query.TheVariants as query
use Rattle.machine.specs.declared.event.Event.{Event}
use Rattle.machine.specs.declared.event.Event.TheVariants as event
use Rattle.machine.specs.declared.record.Key.TheVariants as key
use Rattle.machine.specs.declared.record.Life.TheVariants.{Live, Exited, Killed}
use Rattle.machine.specs.declared.record.OomGroup.{OomGroup}
use Rattle.machine.specs.declared.record.OomGroup.TheVariants.{Single, Whole}
use Rattle.machine.specs.declared.refusal.Refusal.TheVariants.{NoEntry}
use Rattle.machine.specs.declared.reply.Reply.TheVariants as reply
use Rattle.machine.specs.declared.reply.Shown.TheVariants as shown
use Rattle.machine.specs.Tree.{Node, root, without_group, chain_up, chain, under_at, chain_below}
use Rattle.machine.specs.Pages.{Held, Away}
use Rattle.machine.specs.Counts.{Counted, count_of, no_limits, no_counts}
use Rattle.machine.specs.Tasks.{Tasks, task_of}
use Rattle.machine.specs.State.{State}
use Rattle.machine.specs.Control.{flag_of, flag_written, file_named, has_file, text_of}
use Rattle.machine.specs.Printed.{group_kill_text}
use Rattle.machine.specs.Refusals.{refusal}
use Rattle.machine.specs.Victim.{is_candidate, flag_at, kill_group, kill_group_of, killed_with, counts_of_group_kill}
use Rattle.machine.specs.Step.{with_setting, shown_of, Step}
use Rattle.computed.proofs.ExampleStates.{group, shows, below, max_of, single, memory, opening}

-- ---- the group that is killed as one

-- 0 is "/", 1 "/a", 2 "/a/b", 3 "/a/c", and 4 "/a/b/d"
abbrev pub groups : List Node
groups = root ∷ below 0 (codes "/a") ∷ below 1 (codes "/a/b") ∷ below 1 (codes "/a/c") ∷ below 2 (codes "/a/b/d") ∷ []

-- these flags, of 1 to 4
abbrev pub flagged : OomGroup → OomGroup → OomGroup → OomGroup → List OomGroup
flagged a b c d = Single ∷ a ∷ b ∷ c ∷ d ∷ []

-- room is wanted under /a, and the victim is of /a/b/d. No group has the flag: the victim dies alone
group-none : kill_group groups (single 5) 1 4 ≡ None
unfolding chain_up chain chain_below
group-none = refl

-- nor has a group for which no flag is kept
group-unknown : kill_group groups [] 1 4 ≡ None
unfolding chain_up chain chain_below
group-unknown = refl

-- the victim's own group has it
group-own : kill_group groups (flagged Single Single Single Whole) 1 4 ≡ Some 4
unfolding chain_up chain chain_below
group-own = refl

-- one on the way up to the limit
group-between : kill_group groups (flagged Single Whole Single Single) 1 4 ≡ Some 2
unfolding chain_up chain chain_below
group-between = refl

-- and the limit itself
group-limit : kill_group groups (flagged Whole Single Single Single) 1 4 ≡ Some 1
unfolding chain_up chain chain_below
group-limit = refl

-- also where it is the victim's own group
group-own_limit : kill_group groups (flagged Single Single Single Whole) 4 4 ≡ Some 4
unfolding chain_up chain chain_below
group-own_limit = refl

-- of two that have it the higher
group-higher : kill_group groups (flagged Single Whole Single Whole) 1 4 ≡ Some 2
unfolding chain_up chain chain_below
group-higher = refl

-- and of all three the limit
group-highest : kill_group groups (flagged Whole Whole Single Whole) 1 4 ≡ Some 1
unfolding chain_up chain chain_below
group-highest = refl

-- above the limit, which is /a/b here, no flag is looked at
group-above : kill_group groups (flagged Whole Single Single Single) 2 4 ≡ None
unfolding chain_up chain chain_below
group-above = refl

-- and so the one there is not the higher
group-not_above : kill_group groups (flagged Whole Whole Single Single) 2 4 ≡ Some 2
unfolding chain_up chain chain_below
group-not_above = refl

-- for want of a frame room is wanted under the root: the highest of the whole path
group-frame : kill_group groups (flagged Whole Whole Single Whole) 0 4 ≡ Some 1
unfolding chain_up chain chain_below
group-frame = refl

-- the flag of a group beside the path says nothing
group-beside : kill_group groups (flagged Single Single Whole Single) 1 4 ≡ None
unfolding chain_up chain chain_below
group-beside = refl

-- nor that of one below the victim's
group-below : kill_group groups (flagged Single Single Single Whole) 1 2 ≡ None
unfolding chain_up chain chain_below
group-below = refl

-- ---- who dies with it

-- 1 and 2 of /a/b/d and 3 of /a/c run; 4 of /a/b/d was killed, and 5 of it exited
abbrev pub tasks : Tasks
tasks = None ∷ Some (task_of 4 Live) ∷ Some (task_of 4 Live) ∷ Some (task_of 3 Live) ∷ Some (task_of 4 Killed) ∷ Some (task_of 4 Exited) ∷ []

-- with the flag at /a/b, it is the group for each task of /a/b/d
group-of_task : kill_group_of groups (flagged Single Whole Single Single) tasks 1 2 ≡ Some 2
unfolding chain_up chain chain_below
group-of_task = refl

-- and not for the one of /a/c
group-of_other : kill_group_of groups (flagged Single Whole Single Single) tasks 1 3 ≡ None
unfolding chain_up chain chain_below
group-of_other = refl

-- with /a/b the two die that run below it
with-two : killed_with groups tasks 2 ≡ 2
unfolding chain_up chain under_at
with-two = refl

-- with /a a third
with-three : killed_with groups tasks 1 ≡ 3
unfolding chain_up chain under_at
with-three = refl

-- a task of a group below is one of them
dies-below : is_candidate groups tasks 2 1 ≡ true
unfolding chain_up chain under_at
dies-below = refl

-- one of a group beside it is not
dies-not_beside : is_candidate groups tasks 2 3 ≡ false
unfolding chain_up chain under_at
dies-not_beside = refl

-- nor is one that was killed before
dies-not_killed : is_candidate groups tasks 2 4 ≡ false
dies-not_killed = refl

-- or that exited
dies-not_exited : is_candidate groups tasks 2 5 ≡ false
dies-not_exited = refl

-- ---- what is counted

-- a task of /a/b and one of /a/c die with /a, which is the limit too: each is counted at its own group, and the kill of the group once, at /a
counts-limit : counts_of_group_kill Own groups (None ∷ Some (task_of 2 Live) ∷ Some (task_of 3 Live) ∷ []) 1 2 1
    ≡ count_of 1 key.Oom ∷ count_of 2 key.OomKill ∷ count_of 3 key.OomKill ∷ count_of 1 key.OomGroupKill ∷ []
unfolding chain_up chain under_at
counts-limit = refl

-- where a frame was wanted, `oom` is counted at the root, and all else as before
counts-frame : counts_of_group_kill Own groups (None ∷ Some (task_of 2 Live) ∷ Some (task_of 3 Live) ∷ []) 0 2 1
    ≡ count_of 0 key.Oom ∷ count_of 2 key.OomKill ∷ count_of 3 key.OomKill ∷ count_of 1 key.OomGroupKill ∷ []
unfolding chain_up chain under_at
counts-frame = refl

-- the tasks come by number, whatever their groups
counts-order : counts_of_group_kill Own groups (None ∷ Some (task_of 3 Live) ∷ Some (task_of 2 Live) ∷ []) 1 2 1
    ≡ count_of 1 key.Oom ∷ count_of 3 key.OomKill ∷ count_of 2 key.OomKill ∷ count_of 1 key.OomGroupKill ∷ []
unfolding chain_up chain under_at
counts-order = refl

-- by Linux's placement the victim is counted once more, before all of them: here task 2, of /a/c
counts-again : counts_of_group_kill Linux groups (None ∷ Some (task_of 2 Live) ∷ Some (task_of 3 Live) ∷ []) 1 2 1
    ≡ count_of 1 key.Oom ∷ count_of 3 key.OomKill ∷ count_of 2 key.OomKill ∷ count_of 3 key.OomKill ∷ count_of 1 key.OomGroupKill ∷ []
unfolding chain_up chain under_at
counts-again = refl

-- what a kill of /a/b counts where room was wanted under /a: two tasks died, and not those that had ended
abbrev pub four : List Counted
four = count_of 1 key.Oom ∷ count_of 4 key.OomKill ∷ count_of 4 key.OomKill ∷ count_of 2 key.OomGroupKill ∷ []

counts-running : counts_of_group_kill Own groups tasks 1 1 2 ≡ four
unfolding chain_up chain under_at
counts-running = refl

-- ---- a state in which nothing can be taken

-- /a and /a/b have a max of 3 and are full, and the one swap block is used. Task 1 shows page 0, and task 2 pages 1, 2 and 3, the last of which is on the block. Task 3 was forked from
-- task 2 and went to /a/c: of these pages it shows page 2
abbrev pub crowded : List OomGroup → State
crowded flags = record {
  opening = record opening { swap = 1 };
  tree = groups;
  limits = no_limits ∷ max_of 3 ∷ max_of 3 ∷ no_limits ∷ no_limits ∷ [];
  flags = flags;
  pages = Some (memory 4 (Held 0)) ∷ Some (memory 4 (Held 1)) ∷ Some (memory 4 (Held 2)) ∷ Some (memory 4 (Away 0)) ∷ [];
  tasks = tasks;
  page_tables = [] ∷ (shows 0 ∷ []) ∷ (shows 1 ∷ shows 2 ∷ shows 3 ∷ []) ∷ (None ∷ shows 2 ∷ []) ∷ [];
  counted = replicate 5 no_counts;
}

-- /a/b has the flag, and /a/b/d below it
abbrev pub nested : State
nested = crowded (flagged Single Whole Single Whole)

-- room for one page more is wanted under this group
abbrev pub relieve : ℕ → Event
relieve g = event.Relieve (cause.Charge (group g))

-- ---- the flag is set and shown

-- at /a/b alone
sets : Step (crowded (single 5)) (event.Set (group 2) (setting.OomGroup Whole)) reply.Ok (crowded (flagged Single Whole Single Single))
sets = refl

-- and is taken from it again, while /a/b/d has its own
sets-back : with_setting nested 2 (setting.OomGroup Single) ≡ crowded (flagged Single Single Single Whole)
sets-back = refl

-- a max leaves it
sets-max : (with_setting nested 2 (setting.Max Max)).flags ≡ nested.flags
sets-max = refl

-- a new group has none, though its parent has
makes : (new : State) → Step nested (event.Mkdir (codes "/a/b/e")) reply.Ok new → flag_at new.flags 5 ≡ Single
makes new step = ap (λ (s : State). flag_at s.flags 5) step

-- nor has a later group of the path of one that was removed
makes-again : (new : State) → Step (record nested { tree = without_group groups 4 }) (event.Mkdir (codes "/a/b/d")) reply.Ok new → flag_at new.flags 5 ≡ Single
makes-again new step = ap (λ (s : State). flag_at s.flags 5) step

-- the root has no `memory.oom.group` to be set
sets-not_root : refusal nested (event.Set (group 0) (setting.OomGroup Whole)) ≡ Some NoEntry
sets-not_root = refl

-- what is shown is the group's own
shows-own : shown_of nested (query.OomGroup (group 2)) ≡ shown.Flag Whole
shows-own = refl

-- and not that of one below it
shows-not_below : shown_of nested (query.OomGroup (group 1)) ≡ shown.Flag Single
shows-not_below = refl

-- ---- texts

-- the file has this name
named-file : file_named (codes "memory.oom.group") ≡ Some file.OomGroup
named-file = refl

-- and the root has none
file-not_root : has_file 0 file.OomGroup ≡ false
file-not_root = refl

-- a digit, and the line's end
says-whole : text_of 4096 (shown.Flag Whole) ≡ codes "1" ++ 10 ∷ []
says-whole = refl

says-single : text_of 4096 (shown.Flag Single) ≡ codes "0" ++ 10 ∷ []
says-single = refl

-- the same two digits are read
reads-single : flag_of (codes "0") ≡ Some Single
reads-single = refl

reads-whole : flag_of (codes "1") ≡ Some Whole
reads-whole = refl

-- and nothing else: no empty text
reads-not_empty : flag_of (codes "") ≡ None
reads-not_empty = refl

-- no zero in front
reads-not_zero_in_front : flag_of (codes "01") ≡ None
reads-not_zero_in_front = refl

-- no other number
reads-not_two : flag_of (codes "2") ≡ None
reads-not_two = refl

-- no word
reads-not_max : flag_of (codes "max") ≡ None
reads-not_max = refl

-- and no space behind
reads-not_space : flag_of (codes "1 ") ≡ None
reads-not_space = refl

-- as Linux reads it, zeros may be in front
spelled-zero_in_front : flag_written Linux (codes "01") ≡ Some Whole
spelled-zero_in_front = refl

spelled-two_zeros_in_front : flag_written Linux (codes "001") ≡ Some Whole
spelled-two_zeros_in_front = refl

-- and the mark of base 16
spelled-base : flag_written Linux (codes "0x1") ≡ Some Whole
spelled-base = refl

spelled-large_base : flag_written Linux (codes "0X1") ≡ Some Whole
spelled-large_base = refl

-- and a sign before all of it
spelled-sign : flag_written Linux (codes "+1") ≡ Some Whole
spelled-sign = refl

spelled-sign_and_base : flag_written Linux (codes "+0x1") ≡ Some Whole
spelled-sign_and_base = refl

-- zero is written so, too
spelled-two_zeros : flag_written Linux (codes "00") ≡ Some Single
spelled-two_zeros = refl

spelled-base_zero : flag_written Linux (codes "0x0") ≡ Some Single
spelled-base_zero = refl

-- and it has a minus sign
spelled-minus_zero : flag_written Linux (codes "-0") ≡ Some Single
spelled-minus_zero = refl

spelled-minus_base_zeros : flag_written Linux (codes "-0x00") ≡ Some Single
spelled-minus_base_zeros = refl

-- but 010 is eight
spelled-not_octal : flag_written Linux (codes "010") ≡ None
spelled-not_octal = refl

-- the mark of a base is no number
spelled-not_base_alone : flag_written Linux (codes "0x") ≡ None
spelled-not_base_alone = refl

-- nor are sixteen, one thousand and one in base 2 a flag
spelled-not_sixteen : flag_written Linux (codes "0x10") ≡ None
spelled-not_sixteen = refl

spelled-not_letter : flag_written Linux (codes "1k") ≡ None
spelled-not_letter = refl

spelled-not_base_two : flag_written Linux (codes "0b1") ≡ None
spelled-not_base_two = refl

-- nor is a word
spelled-not_word : flag_written Linux (codes "one") ≡ None
spelled-not_word = refl

-- minus one is not one
spelled-not_minus_one : flag_written Linux (codes "-1") ≡ None
spelled-not_minus_one = refl

-- there is one sign at most
spelled-not_two_signs : flag_written Linux (codes "++1") ≡ None
spelled-not_two_signs = refl

spelled-not_both_signs : flag_written Linux (codes "+-1") ≡ None
spelled-not_both_signs = refl

-- and a number is not empty
spelled-not_empty : flag_written Linux (codes "") ≡ None
spelled-not_empty = refl

-- no other number is a flag, in either base
spelled-not_two : flag_written Linux (codes "2") ≡ None
spelled-not_two = refl

spelled-not_base_with_two : flag_written Linux (codes "0x2") ≡ None
spelled-not_base_with_two = refl

-- and none of these counts by our own placement
spelled-by_own_placement : flag_written Own (codes "01") ≡ None
spelled-by_own_placement = refl

-- a kill is printed with its victim, and then with how many died
prints : group_kill_text 1 2 ≡ codes "killed group 1 2" ++ 10 ∷ []
unfolding digits
prints = refl

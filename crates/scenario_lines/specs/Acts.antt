-- What a line of a task stands for: a list of entries, and what is known after it.
use Rattle.std.specs.Prelude.{ℕ, ◌+◌, ◌-◌, Bool, true, false, ◌&&◌, ◌||◌, not, ◌==◌, List, length, codes, min, Option, Some, None, Result, Ok, Err, is_some, nat_lt, nat_le, slice_get, if◌then◌else◌}
use Rattle.machine.specs.declared.command.Actor.TheVariants as actor
use Rattle.machine.specs.declared.command.Command.{Command}
use Rattle.machine.specs.declared.command.Command.TheVariants as command
use Rattle.scenarios.specs.Parts.{part_of}
use Rattle.scenario_words.specs.declared.amount.Purpose.TheVariants as purpose
use Rattle.scenario_words.specs.declared.fault.Cause.TheVariants as cause
use Rattle.scenario_words.specs.declared.fault.Fault.{Fault}
use Rattle.scenario_words.specs.Amounts.{pages_of, pages_within, part_within, number_within}
use Rattle.scenario_words.specs.Faults.{◌>>=◌}
use Rattle.scenario_words.specs.Header.{file_named, file_number, pages_of_file, ended}
use Rattle.scenario_words.specs.TaskNames.{task_name_in}
use Rattle.scenario_words.specs.Words.{FilledWord, word_fault, is_word, word_at, is_at, expect_at}
use Rattle.scenario_lines.specs.declared.access.Act.{Act}
use Rattle.scenario_lines.specs.declared.access.Act.TheVariants as act
use Rattle.scenario_lines.specs.declared.burst.Burst.{Burst}
use Rattle.scenario_lines.specs.declared.burst.Deed.{Deed}
use Rattle.scenario_lines.specs.declared.burst.Deed.TheVariants as deed
use Rattle.scenario_lines.specs.declared.pages.Pages.{Pages}
use Rattle.scenario_lines.specs.declared.pages.Pages.TheVariants as pages
use Rattle.scenario_lines.specs.Pages.{page_count, run_between}
use Rattle.scenario_lines.specs.Scene.{SceneNow, own_number, start_task, condition_form, condition_at}
use Rattle.scenario_lines.specs.Tasks.{mark_of, place_in}

-- how many entries there are
abbrev pub entry_count : Deed → ℕ
entry_count (deed.Access a) = page_count a.pages
entry_count (deed.Command who what) = 1
entry_count (deed.Raw words) = 1
entry_count (deed.Note words) = 0

-- a list that is not cut
abbrev pub whole : Deed → Burst
whole d = record { deed = d; until = None }

-- a task does this to each of these pages
abbrev pub accesses : ℕ → Act → Pages → Burst
accesses task what ps = whole (deed.Access (record { task = task; act = what; pages = ps }))

-- one command of a task
abbrev pub task_command : ℕ → Command → Burst
task_command task what = whole (deed.Command (actor.Task task) what)

-- a word is a part, as `0..5M`
abbrev pub is_part : FilledWord → Bool
is_part w = is_some (part_of w.text)

abbrev pub mark_in : SceneNow → ℕ → ℕ
mark_in s task = mark_of s.tasks.standings task

-- ---- pages of a part, or drawn from it

-- `count` draws from a part; from a part without a page there are none
abbrev pub drawn : ℕ → ℕ → ℕ → ℕ → Pages
drawn first after seed count = if nat_lt first after then pages.Drawn first after seed count else run_between first first

-- `random N seed K`, from this place on
abbrev pub draws_at : List FilledWord → ℕ → ℕ → ℕ → Result Pages Fault
draws_at ws place first after = do
  n ← word_at ws (place + 1)
  count ← number_within 1 1000000 n
  _ ← expect_at ws (place + 2) (codes "seed")
  k ← word_at ws (place + 3)
  seed ← number_within 0 4294967295 k
  ended ws (place + 4) (drawn first after seed count)

-- the pages from a first one to before another, or those that are drawn from them
abbrev pub pages_at : List FilledWord → ℕ → ℕ → ℕ → Result Pages Fault
pages_at ws place first after = if is_at ws place (codes "random") then draws_at ws place first after else ended ws place (run_between first after)

-- the pages of the part that a word is, or draws from it, as the words from this place on say; there are `most` pages
abbrev pub part_at : SceneNow → List FilledWord → FilledWord → ℕ → ℕ → Result Pages Fault
part_at s ws w most place = do
  p ← part_within s.machine.page most w
  pages_at ws place p.0 p.1

-- ---- `write`

-- `pages` pages from the mark on, as far as a task has them: it has 1,024
abbrev pub written : ℕ → ℕ → Pages
written mark pages = run_between mark (mark + min pages (1024 - mark))

-- the task has this number of pages from the mark on, or the mark is not known
abbrev pub if_room : SceneNow → FilledWord → ℕ → ℕ → Result (Unit {0}) Fault
if_room s w mark pages = if nat_lt (1024 - mark) pages && not s.loose then Err (word_fault w cause.PastEnd) else Ok tt

-- `write SIZE`: the pages from the mark on
abbrev pub write_more : SceneNow → List FilledWord → ℕ → FilledWord → Result Burst Fault
write_more s ws task w = do
  count ← pages_of purpose.Used s.machine.page w
  _ ← if_room s w (mark_in s task) count
  ended ws 3 (accesses task act.Write (written (mark_in s task) count))

-- `write A..B`
abbrev pub write_part : SceneNow → List FilledWord → ℕ → FilledWord → Result Burst Fault
write_part s ws task w = do
  ps ← part_at s ws w 1024 3
  Ok (accesses task act.Write ps)

-- `until` is a fault in a block with another
abbrev pub if_no_until : SceneNow → FilledWord → Result (Unit {0}) Fault
if_no_until s w = if s.in_until then Err (word_fault w cause.Until) else Ok tt

-- `write until CONDITION`: the pages from the mark to the last, until it holds
abbrev pub write_until : SceneNow → List FilledWord → ℕ → FilledWord → Result Burst Fault
write_until s ws task w = do
  _ ← if_no_until s w
  _ ← condition_form ws 3 true
  c ← condition_at s ws 3 (Some task)
  Ok (record (accesses task act.Write (run_between (mark_in s task) 1024)) { until = Some c })

abbrev pub write_by : SceneNow → List FilledWord → ℕ → FilledWord → Result Burst Fault
write_by s ws task w =
    if is_word w (codes "until") then write_until s ws task w
    else if is_part w then write_part s ws task w
    else write_more s ws task w

abbrev pub write_act : SceneNow → List FilledWord → ℕ → Result Burst Fault
write_act s ws task = do
  w ← word_at ws 2
  write_by s ws task w

-- ---- `read`

abbrev pub read_part : SceneNow → List FilledWord → Result Pages Fault
read_part s ws = do
  w ← word_at ws 2
  part_at s ws w 1024 3

-- without a part, all pages below the mark
abbrev pub read_pages : SceneNow → List FilledWord → ℕ → Result Pages Fault
read_pages s ws task = if nat_le (length ws) 2 || is_at ws 2 (codes "random") then pages_at ws 2 0 (mark_in s task) else read_part s ws

abbrev pub read_act : SceneNow → List FilledWord → ℕ → Result Burst Fault
read_act s ws task = do
  ps ← read_pages s ws task
  Ok (accesses task act.Read ps)

-- ---- `free`

-- the task gives up pages, and its mark is this after the last one
abbrev pub frees : ℕ → ℕ → Pages → Burst
frees task mark ps = accesses task (act.Free mark) ps

-- there is this number of pages below the mark, or the mark is not known
abbrev pub if_so_many : SceneNow → FilledWord → ℕ → ℕ → Result (Unit {0}) Fault
if_so_many s w mark pages = if nat_lt mark pages && not s.loose then Err (word_fault w cause.NotSoMany) else Ok tt

-- `free SIZE`: the pages below the mark, which becomes the first of them
abbrev pub free_size : SceneNow → List FilledWord → ℕ → FilledWord → Result Burst Fault
free_size s ws task w = do
  count ← pages_of purpose.Bound s.machine.page w
  _ ← if_so_many s w (mark_in s task) count
  ended ws 3 (frees task (mark_in s task - count) (run_between (mark_in s task - count) (mark_in s task)))

-- the mark is the beginning of a part that ends at it, and stays after any other
abbrev pub lowered : ℕ → ℕ × ℕ → ℕ
lowered mark p = if p.1 == mark then p.0 else mark

-- `free A..B`
abbrev pub free_part : SceneNow → List FilledWord → ℕ → FilledWord → Result Burst Fault
free_part s ws task w = do
  p ← part_within s.machine.page 1024 w
  ended ws 3 (frees task (lowered (mark_in s task) p) (run_between p.0 p.1))

-- without another word, `free` is of all pages below the mark
abbrev pub free_by : SceneNow → List FilledWord → ℕ → Option FilledWord → Result Burst Fault
free_by s ws task None = Ok (frees task 0 (run_between 0 (mark_in s task)))
free_by s ws task (Some w) = if is_part w then free_part s ws task w else free_size s ws task w

abbrev pub free_act : SceneNow → List FilledWord → ℕ → Result Burst Fault
free_act s ws task = free_by s ws task (slice_get ws 2)

-- ---- `fork` and `exit`

-- `fork NAME`: the child is started, and has the next number
abbrev pub fork_act : SceneNow → List FilledWord → ℕ → Result (Burst × SceneNow) Fault
fork_act s ws task = do
  w ← word_at ws 2
  names ← task_name_in w
  p ← start_task s w names.name (own_number names.index)
  ended ws 3 (task_command task (command.Fork p.0), p.1)

abbrev pub exit_act : List FilledWord → ℕ → Result Burst Fault
exit_act ws task = ended ws 2 (task_command task command.Exit)

-- ---- `fread` and `fwrite`

-- `count` pages of a file, from the task's place in it; an empty file has none
abbrev pub next_from : ℕ → ℕ → ℕ → Pages
next_from first size count = if size == 0 then run_between 0 0 else pages.Round first size count

-- `next SIZE`
abbrev pub next_pages : SceneNow → List FilledWord → ℕ → ℕ → ℕ → Result Pages Fault
next_pages s ws task file size = do
  w ← word_at ws 4
  count ← pages_within purpose.Used s.machine.page 0 1000000 w
  ended ws 5 (next_from (place_in s.tasks.standings task file) size count)

abbrev pub file_part : SceneNow → List FilledWord → ℕ → Result Pages Fault
file_part s ws size = do
  w ← word_at ws 3
  part_at s ws w size 4

-- without a part, all pages of the file
abbrev pub file_pages : SceneNow → List FilledWord → ℕ → ℕ → ℕ → Result Pages Fault
file_pages s ws task file size =
    if is_at ws 3 (codes "next") then next_pages s ws task file size
    else if nat_le (length ws) 3 || is_at ws 3 (codes "random") then pages_at ws 3 0 size
    else file_part s ws size

abbrev pub or_no_file : FilledWord → Option ℕ → Result ℕ Fault
or_no_file w None = Err (word_fault w cause.NoFile)
or_no_file w (Some place) = Ok place

abbrev pub file_act_of : Bool → ℕ → Act
file_act_of write file = if write then act.FileWrite file else act.FileRead file

-- `fread FILE ..` and `fwrite FILE ..`
abbrev pub file_act : SceneNow → List FilledWord → ℕ → Bool → Result Burst Fault
file_act s ws task write = do
  w ← word_at ws 2
  place ← or_no_file w (file_named s.machine.files w.text)
  ps ← file_pages s ws task (file_number place) (pages_of_file s.machine.files place)
  Ok (accesses task (file_act_of write (file_number place)) ps)

-- ---- a line

-- the line changes nothing that is known
abbrev pub unchanged : {A : Type 0} → SceneNow → Result A Fault → Result (A × SceneNow) Fault
unchanged s (Ok x) = Ok (x, s)
unchanged s (Err f) = Err f

abbrev pub act_by : SceneNow → List FilledWord → ℕ → FilledWord → Result (Burst × SceneNow) Fault
act_by s ws task w =
    if is_word w (codes "write") then unchanged s (write_act s ws task)
    else if is_word w (codes "read") then unchanged s (read_act s ws task)
    else if is_word w (codes "free") then unchanged s (free_act s ws task)
    else if is_word w (codes "fork") then fork_act s ws task
    else if is_word w (codes "exit") then unchanged s (exit_act ws task)
    else if is_word w (codes "fread") then unchanged s (file_act s ws task false)
    else if is_word w (codes "fwrite") then unchanged s (file_act s ws task true)
    else Err (word_fault w cause.NotExpected)

-- what one task of a line does
abbrev pub act_line : SceneNow → List FilledWord → ℕ → Result (Burst × SceneNow) Fault
act_line s ws task = do
  w ← word_at ws 1
  act_by s ws task w

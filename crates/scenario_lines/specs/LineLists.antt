-- What a line stands for that opens no block: lists of entries, and what is known after it.
use Rattle.std.specs.Prelude.{ℕ, zero, suc, ◌+◌, ◌-◌, ◌*◌, ◌/◌, ◌^◌, Bool, false, ◌&&◌, ◌||◌, not, List, [], ◌∷◌, ◌++◌, length, map, codes, decimal, min, Option, Some, None, Result, Ok, Err, slice_get, if◌then◌else◌}
use Rattle.std.specs.Str.{bytes_eq}
use Rattle.machine.specs.declared.command.Actor.TheVariants as actor
use Rattle.machine.specs.declared.command.Command.{Command}
use Rattle.machine.specs.declared.command.Command.TheVariants as command
use Rattle.scenarios.specs.Lines.{is_header_word}
use Rattle.scenario_words.specs.declared.amount.Purpose.TheVariants as purpose
use Rattle.scenario_words.specs.declared.fault.Cause.TheVariants as cause
use Rattle.scenario_words.specs.declared.fault.Fault.{Fault}
use Rattle.scenario_words.specs.declared.task_names.Index.{Index}
use Rattle.scenario_words.specs.declared.task_names.Index.TheVariants as index
use Rattle.scenario_words.specs.Amounts.{pages_of}
use Rattle.scenario_words.specs.Faults.{◌>>=◌}
use Rattle.scenario_words.specs.Header.{ended}
use Rattle.scenario_words.specs.Raw.{raw_form}
use Rattle.scenario_words.specs.TaskNames.{task_names_in}
use Rattle.scenario_words.specs.Words.{FilledWord, word_fault, is_word, word_at, ends_at, expect_at, is_language, is_line_word}
use Rattle.scenario_lines.specs.declared.burst.Burst.{Burst}
use Rattle.scenario_lines.specs.declared.burst.Deed.TheVariants as deed
use Rattle.scenario_lines.specs.Acts.{whole, unchanged, act_line}
use Rattle.scenario_lines.specs.Joined.{joined}
use Rattle.scenario_lines.specs.Notes.{show_line, mark_line, expect_line}
use Rattle.scenario_lines.specs.Scene.{SceneNow, GroupPath, let_line, group_there, group_below_root, made_group, removed_group, script_path, start_task, tasks_there}

-- one command of the shell
abbrev pub by_shell : Command → Burst
by_shell what = whole (deed.Command actor.Shell what)

-- ---- `group`, `set`, `reclaim` and `rmdir`

-- a bound in bytes: a page of the script has 4,096, and a number has 64 bits
abbrev pub bound_bytes : ℕ → ℕ
bound_bytes pages = min (pages * 4096) (2 ^ 64 - 1)

abbrev pub bound_text : SceneNow → FilledWord → Result (List ℕ) Fault
bound_text s w = do
  pages ← pages_of purpose.Bound s.machine.page w
  Ok (decimal (bound_bytes pages))

-- the control file of a key
abbrev pub control_file : FilledWord → Result (List ℕ) Fault
control_file w =
    if is_word w (codes "max") || is_word w (codes "memory.max") then Ok (codes "memory.max")
    else if is_word w (codes "min") || is_word w (codes "memory.min") then Ok (codes "memory.min")
    else if is_word w (codes "low") || is_word w (codes "memory.low") then Ok (codes "memory.low")
    else if is_word w (codes "oom.group") || is_word w (codes "memory.oom.group") then Ok (codes "memory.oom.group")
    else Err (word_fault w cause.NotExpected)

-- `0` or `1`
abbrev pub switch_text : FilledWord → Result (List ℕ) Fault
switch_text w = if is_word w (codes "0") || is_word w (codes "1") then Ok w.text else Err (word_fault w cause.NotExpected)

-- `max`, or a bound
abbrev pub limit_text : SceneNow → FilledWord → Result (List ℕ) Fault
limit_text s w = if is_word w (codes "max") then Ok (codes "max") else bound_text s w

-- what is written to a control file
abbrev pub value_text : SceneNow → List ℕ → FilledWord → Result (List ℕ) Fault
value_text s file w = if bytes_eq file (codes "memory.oom.group") then switch_text w else limit_text s w

-- a key at this place, and its value after it
abbrev pub set_at : SceneNow → List FilledWord → ℕ → GroupPath → Result Burst Fault
set_at s ws place path = do
  k ← word_at ws place
  file ← control_file k
  v ← word_at ws (place + 1)
  text ← value_text s file v
  Ok (by_shell (command.Set (script_path s path) file text))

-- `many` keys with their values, from this place on
abbrev pub sets_from : SceneNow → List FilledWord → GroupPath → ℕ → ℕ → Result (List Burst) Fault
sets_from s ws path place zero = Ok []
sets_from s ws path place (suc many) = do
  b ← set_at s ws place path
  bs ← sets_from s ws path (place + 2) many
  Ok (b ∷ bs)

-- lists before others
abbrev pub onto_lists : List Burst → Result (List Burst) Fault → Result (List Burst) Fault
onto_lists bs more = do
  others ← more
  Ok (bs ++ others)

-- the number of keys after the second word; the last one may lack its value
abbrev pub key_count : List FilledWord → ℕ
key_count ws = (length ws - 1) / 2

-- `group PATH`, and a `set` for each key
abbrev pub group_line : SceneNow → List FilledWord → Result (List Burst × SceneNow) Fault
group_line s ws = do
  w ← word_at ws 1
  p ← made_group s w
  bs ← onto_lists (by_shell (command.Group (script_path p.1 p.0)) ∷ []) (sets_from p.1 ws p.0 2 (key_count ws))
  Ok (bs, p.1)

-- `set PATH KEY VALUE`
abbrev pub set_line : SceneNow → List FilledWord → Result Burst Fault
set_line s ws = do
  w ← word_at ws 1
  path ← group_there s w
  b ← set_at s ws 2 path
  ended ws 4 b

-- `reclaim PATH SIZE`
abbrev pub reclaim_line : SceneNow → List FilledWord → Result Burst Fault
reclaim_line s ws = do
  w ← word_at ws 1
  path ← group_there s w
  v ← word_at ws 2
  text ← bound_text s v
  ended ws 3 (by_shell (command.Set (script_path s path) (codes "memory.reclaim") text))

-- `rmdir PATH`: a word too many is a fault before groups below it are
abbrev pub rmdir_line : SceneNow → List FilledWord → Result (Burst × SceneNow) Fault
rmdir_line s ws = do
  w ← word_at ws 1
  _ ← group_below_root s w
  _ ← ends_at ws 2
  p ← removed_group s w
  Ok (by_shell (command.Rmdir (script_path p.1 p.0)), p.1)

-- ---- `task` and `attach`

-- a task is started in the group of a script's path
abbrev pub start_in : SceneNow → FilledWord → List ℕ → Option ℕ → List ℕ → Result (Burst × SceneNow) Fault
start_in s w name own path = do
  p ← start_task s w name own
  Ok (by_shell (command.Task p.0 path), p.1)

abbrev pub alone_in : Result (Burst × SceneNow) Fault → Result (List Burst × SceneNow) Fault
alone_in r = do
  p ← r
  Ok (p.0 ∷ [], p.1)

-- `many` tasks of a name: their own numbers count up from `first`
abbrev pub starts_from : SceneNow → FilledWord → List ℕ → List ℕ → ℕ → ℕ → Result (List Burst × SceneNow) Fault
starts_from s w name path first zero = Ok ([], s)
starts_from s w name path first (suc many) = do
  p ← start_in s w name (Some first) path
  q ← starts_from p.1 w name path (first + 1) many
  Ok (p.0 ∷ q.0, q.1)

abbrev pub starts_by : SceneNow → FilledWord → List ℕ → Index → List ℕ → Result (List Burst × SceneNow) Fault
starts_by s w name index.Plain path = alone_in (start_in s w name None path)
starts_by s w name (index.One number) path = alone_in (start_in s w name (Some number) path)
starts_by s w name (index.Range first last) path = starts_from s w name path first (last + 1 - first)
starts_by s w name index.All path = Err (word_fault w cause.Name)

-- `NAME[*]` starts nothing
abbrev pub not_all : FilledWord → Index → Result (Unit {0}) Fault
not_all w index.Plain = Ok tt
not_all w (index.One number) = Ok tt
not_all w (index.Range first last) = Ok tt
not_all w index.All = Err (word_fault w cause.Name)

-- `task TASKS in PATH`
abbrev pub task_line : SceneNow → List FilledWord → Result (List Burst × SceneNow) Fault
task_line s ws = do
  w ← word_at ws 1
  names ← task_names_in w
  _ ← not_all w names.index
  _ ← expect_at ws 2 (codes "in")
  g ← word_at ws 3
  path ← group_there s g
  _ ← ends_at ws 4
  starts_by s w names.name names.index (script_path s path)

abbrev pub attaches : List ℕ → List ℕ → List Burst
attaches path tasks = map (λ task. by_shell (command.Attach task path)) tasks

-- `attach TASKS PATH`
abbrev pub attach_line : SceneNow → List FilledWord → Result (List Burst) Fault
attach_line s ws = do
  w ← word_at ws 1
  tasks ← tasks_there s w
  g ← word_at ws 2
  path ← group_there s g
  ended ws 3 (attaches (script_path s path) tasks)

-- ---- other lines

-- `raw WORD ..`
abbrev pub raw_line : List FilledWord → Result Burst Fault
raw_line ws = do
  _ ← raw_form ws
  Ok (whole (deed.Raw (joined ws 1 false)))

-- `daemon`
abbrev pub daemon_line : List FilledWord → Result Burst Fault
daemon_line ws = ended ws 1 (whole (deed.Command actor.Daemon command.Daemon))

-- what each task does, one after the other
abbrev pub acts_from : SceneNow → List FilledWord → List ℕ → Result (List Burst × SceneNow) Fault
acts_from s ws [] = Ok ([], s)
acts_from s ws (task ∷ tasks) = do
  p ← act_line s ws task
  q ← acts_from p.1 ws tasks
  Ok (p.0 ∷ q.0, q.1)

-- a line of tasks
abbrev pub acts_line : SceneNow → List FilledWord → Result (List Burst × SceneNow) Fault
acts_line s ws = do
  w ← word_at ws 0
  tasks ← tasks_there s w
  acts_from s ws tasks

-- ---- a line, by its first word

-- a line that is one list
abbrev pub single_line : SceneNow → List FilledWord → Bool → List ℕ → Result (Burst × SceneNow) Fault
single_line s ws above text =
    if bytes_eq text (codes "set") then unchanged s (set_line s ws)
    else if bytes_eq text (codes "reclaim") then unchanged s (reclaim_line s ws)
    else if bytes_eq text (codes "rmdir") then rmdir_line s ws
    else if bytes_eq text (codes "show") then unchanged s (show_line s ws)
    else if bytes_eq text (codes "mark") then Ok (mark_line ws, s)
    else if bytes_eq text (codes "expect") then unchanged s (expect_line s ws above)
    else if bytes_eq text (codes "raw") then unchanged s (raw_line ws)
    else unchanged s (daemon_line ws)

-- `let` stands for no list
abbrev pub named_value : Result SceneNow Fault → Result (List Burst × SceneNow) Fault
named_value r = do
  s ← r
  Ok ([], s)

abbrev pub word_line : SceneNow → List FilledWord → Bool → List ℕ → Result (List Burst × SceneNow) Fault
word_line s ws above text =
    if bytes_eq text (codes "let") then named_value (let_line s ws)
    else if bytes_eq text (codes "group") then group_line s ws
    else if bytes_eq text (codes "task") then task_line s ws
    else if bytes_eq text (codes "attach") then unchanged s (attach_line s ws)
    else alone_in (single_line s ws above text)

abbrev pub line_by : SceneNow → List FilledWord → Bool → FilledWord → Result (List Burst × SceneNow) Fault
line_by s ws above w =
    if w.quoted || not (is_language w.text) then acts_line s ws
    else if is_header_word w.text then Err (word_fault w cause.HeaderBelow)
    else if is_line_word w.text then word_line s ws above w.text
    else Err (word_fault w cause.NoLine)

-- the lists that a line stands for, and what is known after it; whether a line that could be refused is right above
unfoldable pub line_lists : SceneNow → List FilledWord → Bool → Result (List Burst × SceneNow) Fault
line_lists s ws above = do
  w ← word_at ws 0
  line_by s ws above w

-- ---- lines among others

-- of the shell and the daemon, `daemon` and `reclaim` are allowed inside of `together`
abbrev pub word_together : FilledWord → Result (Unit {0}) Fault
word_together w = if is_word w (codes "daemon") || is_word w (codes "reclaim") then Ok tt else Err (word_fault w cause.Together)

abbrev pub third_together : FilledWord → Option FilledWord → Result (Unit {0}) Fault
third_together act None = Ok tt
third_together act (Some third) = if is_word act (codes "write") && is_word third (codes "until") then Err (word_fault third cause.Until) else Ok tt

-- of a task's lines, all but `fork`, `exit` and `write until`
abbrev pub act_together : List FilledWord → Option FilledWord → Result (Unit {0}) Fault
act_together ws None = Ok tt
act_together ws (Some act) =
    if is_word act (codes "fork") || is_word act (codes "exit") then Err (word_fault act cause.Together)
    else third_together act (slice_get ws 2)

abbrev pub together_by : List FilledWord → FilledWord → Result (Unit {0}) Fault
together_by ws w = if not w.quoted && is_language w.text then word_together w else act_together ws (slice_get ws 1)

-- a line is allowed inside of `together`
abbrev pub together_form : List FilledWord → Result (Unit {0}) Fault
together_form ws = do
  w ← word_at ws 0
  together_by ws w

abbrev pub refusable : Option FilledWord → Bool
refusable None = false
refusable (Some w) = not (is_word w (codes "let") || is_word w (codes "show") || is_word w (codes "mark") || is_word w (codes "expect"))

-- a line could be refused: `expect refused` may follow it
abbrev pub may_be_refused : List FilledWord → Bool
may_be_refused ws = refusable (slice_get ws 0)

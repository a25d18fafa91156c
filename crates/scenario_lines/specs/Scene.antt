-- What is known between two lines of a scenario, and what lines change of it.
use Rattle.std.specs.Prelude.{ℕ, zero, suc, ◌+◌, ◌-◌, Bool, false, ◌||◌, not, ◌==◌, List, [], ◌∷◌, ◌++◌, length, codes, drop, fold, Option, Some, None, Result, Ok, Err, is_some, nat_lt, nat_le, if◌then◌else◌}
use Rattle.std.specs.List.{list_any, before_first, after_first}
use Rattle.std.specs.Option.{unwrap_or}
use Rattle.scenarios.specs.Holes.{NamedText, value_of}
use Rattle.scenario_words.specs.declared.amount.Purpose.TheVariants as purpose
use Rattle.scenario_words.specs.declared.fault.Cause.TheVariants as cause
use Rattle.scenario_words.specs.declared.fault.Fault.{Fault}
use Rattle.scenario_words.specs.declared.task_names.Index.{Index}
use Rattle.scenario_words.specs.declared.task_names.Index.TheVariants as index
use Rattle.scenario_words.specs.Amounts.{pages_of}
use Rattle.scenario_words.specs.Faults.{◌>>=◌}
use Rattle.scenario_words.specs.Header.{Machine, unsaid}
use Rattle.scenario_words.specs.Names.{mentioned, path_text}
use Rattle.scenario_words.specs.Paths.{path_in, is_path, same_path, is_below, has_parent}
use Rattle.scenario_words.specs.TaskNames.{task_names_in, task_name_in}
use Rattle.scenario_words.specs.Words.{FilledWord, word_fault, is_word, word_at, ends_at, expect_at}
use Rattle.scenario_lines.specs.declared.burst.Condition.{Condition}
use Rattle.scenario_lines.specs.declared.burst.Condition.TheVariants as condition
use Rattle.scenario_lines.specs.declared.rounded.Rounded.{Rounded}
use Rattle.scenario_lines.specs.Tasks.{StartedTask, TasksNow, task_named, tasks_named, with_task}

-- a group's path: the names from the root down
abbrev pub GroupPath : Type 0
GroupPath = List (List ℕ)

-- what the header says; the names that a script can't have; the values of names, the newest first; the words that replace those of `let` lines; the groups, the last one made last; the tasks; whether
-- an `until` above has no length; whether the line is in a block with `until`; the sizes that were rounded
pub record SceneNow : Type 0 where
  pub machine : Machine
  pub names : List (List ℕ)
  pub values : List NamedText
  pub settings : List NamedText
  pub groups : List (List (List ℕ))
  pub tasks : TasksNow
  pub loose : Bool
  pub in_until : Bool
  pub rounded : List Rounded

-- nothing is known yet
abbrev pub at_first : List NamedText → SceneNow
at_first settings = record {
  machine = unsaid;
  names = [];
  values = [];
  settings = settings;
  groups = [];
  tasks = record { started = []; standings = [] };
  loose = false;
  in_until = false;
  rounded = [];
}

-- ---- values

abbrev pub is_brace : ℕ → Bool
is_brace b = b == 123 || b == 125

-- a word that may name another: without quotes and braces
abbrev pub checked_name : FilledWord → Result (List ℕ) Fault
checked_name w = if w.quoted || length w.text == 0 || list_any is_brace w.text then Err (word_fault w cause.Name) else Ok w.text

abbrev pub with_value : SceneNow → List ℕ → List ℕ → SceneNow
with_value s name text = record s { values = record { name = name; text = text } ∷ s.values }

-- this number of values, the oldest
abbrev pub oldest : List NamedText → ℕ → List NamedText
oldest values many = drop (length values - many) values

-- `let NAME WORD`: a setting replaces the word
abbrev pub let_line : SceneNow → List FilledWord → Result SceneNow Fault
let_line s ws = do
  w ← word_at ws 1
  name ← checked_name w
  word ← word_at ws 2
  _ ← ends_at ws 3
  Ok (with_value s name (unwrap_or (value_of s.settings name) word.source))

-- ---- groups

abbrev pub is_there : List GroupPath → GroupPath → Bool
is_there groups path = length path == 0 || list_any (λ g. same_path g path) groups

abbrev pub is_parent_there : List GroupPath → GroupPath → Bool
is_parent_there groups path = length path == 1 || list_any (λ g. has_parent path g) groups

abbrev pub has_below : List GroupPath → GroupPath → Bool
has_below groups path = list_any (λ g. is_below g path) groups

-- the others, before and after the group of this path
abbrev pub without : List GroupPath → GroupPath → List GroupPath
without groups path = before_first (λ g. same_path g path) groups ++ after_first (λ g. same_path g path) groups

abbrev pub if_there : List GroupPath → FilledWord → GroupPath → Result GroupPath Fault
if_there groups w path = if is_there groups path then Ok path else Err (word_fault w cause.NoGroup)

-- the group of a word, which is there
abbrev pub group_there : SceneNow → FilledWord → Result GroupPath Fault
group_there s w = do
  path ← path_in w
  if_there s.groups w path

abbrev pub not_root : FilledWord → GroupPath → Result GroupPath Fault
not_root w path = if length path == 0 then Err (word_fault w cause.Root) else Ok path

-- the same, except that the root is a fault
abbrev pub group_below_root : SceneNow → FilledWord → Result GroupPath Fault
group_below_root s w = do
  path ← group_there s w
  not_root w path

abbrev pub with_group : SceneNow → GroupPath → SceneNow
with_group s path = record s { names = fold mentioned s.names path; groups = s.groups ++ path ∷ [] }

abbrev pub if_new : List GroupPath → FilledWord → GroupPath → Result GroupPath Fault
if_new groups w path =
    if is_there groups path then Err (word_fault w cause.GroupThere)
    else if not (is_parent_there groups path) then Err (word_fault w cause.NoGroup)
    else Ok path

-- the path of a group that can be made
abbrev pub path_of_new : SceneNow → FilledWord → Result GroupPath Fault
path_of_new s w = do
  path ← path_in w
  if_new s.groups w path

-- the group of a word is made
abbrev pub made_group : SceneNow → FilledWord → Result (GroupPath × SceneNow) Fault
made_group s w = do
  path ← path_of_new s w
  Ok (path, with_group s path)

abbrev pub old_group : SceneNow → FilledWord → GroupPath → Result (GroupPath × SceneNow) Fault
old_group s w path = if has_below s.groups path then Err (word_fault w cause.GroupsBelow) else Ok (path, record s { groups = without s.groups path })

-- the group of a word is removed
abbrev pub removed_group : SceneNow → FilledWord → Result (GroupPath × SceneNow) Fault
removed_group s w = do
  path ← group_below_root s w
  old_group s w path

-- the script's path of a group
abbrev pub script_path : SceneNow → GroupPath → List ℕ
script_path s path = path_text s.names path

-- ---- tasks

abbrev pub with_started : SceneNow → List ℕ → Option ℕ → SceneNow
with_started s name own = record s { tasks = with_task s.tasks name own }

-- a task of this name, and of this number of its own, is started: it has the next number
abbrev pub start_task : SceneNow → FilledWord → List ℕ → Option ℕ → Result (ℕ × SceneNow) Fault
start_task s w name own =
    if is_some (task_named s.tasks.started name own) then Err (word_fault w cause.TaskThere)
    else if nat_le 65535 (length s.tasks.started) then Err (word_fault w cause.TooManyTasks)
    else Ok (length s.tasks.started + 1, with_started s name own)

abbrev pub or_no_task : FilledWord → Option ℕ → Result ℕ Fault
or_no_task w None = Err (word_fault w cause.NoTask)
or_no_task w (Some task) = Ok task

-- the number of a task that is there
abbrev pub one_task : List StartedTask → FilledWord → List ℕ → Option ℕ → Result ℕ Fault
one_task started w name own = or_no_task w (task_named started name own)

-- the numbers of `many` tasks of a name: their own numbers count up from `first`
abbrev pub tasks_from : List StartedTask → FilledWord → List ℕ → ℕ → ℕ → Result (List ℕ) Fault
tasks_from started w name first zero = Ok []
tasks_from started w name first (suc many) = do
  task ← one_task started w name (Some first)
  tasks ← tasks_from started w name (first + 1) many
  Ok (task ∷ tasks)

abbrev pub if_some : FilledWord → List ℕ → Result (List ℕ) Fault
if_some w [] = Err (word_fault w cause.NoTask)
if_some w (task ∷ tasks) = Ok (task ∷ tasks)

abbrev pub alone : Result ℕ Fault → Result (List ℕ) Fault
alone r = do
  task ← r
  Ok (task ∷ [])

-- the numbers of the tasks of a name that an index means
abbrev pub tasks_by : List StartedTask → FilledWord → List ℕ → Index → Result (List ℕ) Fault
tasks_by started w name index.Plain = alone (one_task started w name None)
tasks_by started w name (index.One number) = alone (one_task started w name (Some number))
tasks_by started w name (index.Range first last) = tasks_from started w name first (last + 1 - first)
tasks_by started w name index.All = if_some w (tasks_named started name)

-- the tasks that a word names
abbrev pub tasks_there : SceneNow → FilledWord → Result (List ℕ) Fault
tasks_there s w = do
  names ← task_names_in w
  tasks_by s.tasks.started w names.name names.index

-- a task's own number, if it has one
abbrev pub own_number : Index → Option ℕ
own_number index.Plain = None
own_number (index.One number) = Some number
own_number (index.Range first last) = None
own_number index.All = None

-- the one task that a word names
abbrev pub task_there : SceneNow → FilledWord → Result ℕ Fault
task_there s w = do
  names ← task_name_in w
  one_task s.tasks.started w names.name (own_number names.index)

-- ---- conditions

-- `killed NAME`, or `killed` if it is of a task
abbrev pub killed_form : List FilledWord → ℕ → Bool → Result (Unit {0}) Fault
killed_form ws place of_task =
    if nat_lt (place + 1) (length ws) then ends_at ws (place + 2)
    else if of_task then Ok tt
    else (do
      _ ← word_at ws (place + 1)
      Ok tt)

-- `PATH current SIZE`
abbrev pub current_form : List FilledWord → ℕ → Result (Unit {0}) Fault
current_form ws place = do
  _ ← expect_at ws (place + 1) (codes "current")
  _ ← word_at ws (place + 2)
  ends_at ws (place + 3)

abbrev pub form_by : List FilledWord → ℕ → Bool → FilledWord → Result (Unit {0}) Fault
form_by ws place of_task w =
    if is_word w (codes "killed") then killed_form ws place of_task
    else if is_path w then current_form ws place
    else Err (word_fault w cause.NotExpected)

-- the form of a condition that begins at this place
abbrev pub condition_form : List FilledWord → ℕ → Bool → Result (Unit {0}) Fault
condition_form ws place of_task = do
  w ← word_at ws place
  form_by ws place of_task w

abbrev pub killed_named : SceneNow → List FilledWord → ℕ → Result Condition Fault
killed_named s ws place = do
  name ← word_at ws (place + 1)
  task ← task_there s name
  Ok (condition.Killed task)

-- the task that is named, or the one whose line it is
abbrev pub killed_at : SceneNow → List FilledWord → ℕ → Option ℕ → Result Condition Fault
killed_at s ws place None = killed_named s ws place
killed_at s ws place (Some task) = if nat_lt (place + 1) (length ws) then killed_named s ws place else Ok (condition.Killed task)

abbrev pub current_at : SceneNow → List FilledWord → ℕ → FilledWord → Result Condition Fault
current_at s ws place w = do
  path ← group_below_root s w
  size ← word_at ws (place + 2)
  pages ← pages_of purpose.Used s.machine.page size
  Ok (condition.Current path pages)

abbrev pub condition_by : SceneNow → List FilledWord → ℕ → Option ℕ → FilledWord → Result Condition Fault
condition_by s ws place task w = if is_word w (codes "killed") then killed_at s ws place task else current_at s ws place w

-- the condition that begins at this place, of a line of a task or not
abbrev pub condition_at : SceneNow → List FilledWord → ℕ → Option ℕ → Result Condition Fault
condition_at s ws place task = do
  w ← word_at ws place
  condition_by s ws place task w

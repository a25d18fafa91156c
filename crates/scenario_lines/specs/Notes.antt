-- Lines that ask and expect: `show`, `mark` and `expect`. They change nothing.
use Rattle.std.specs.Prelude.{ℕ, ◌+◌, ◌-◌, ◌^◌, Bool, true, false, ◌||◌, List, [], ◌∷◌, codes, drop, None, Result, Ok, Err, if◌then◌else◌}
use Rattle.scenario_words.specs.declared.fault.Cause.TheVariants as cause
use Rattle.scenario_words.specs.declared.fault.Fault.{Fault}
use Rattle.scenario_words.specs.Amounts.{size_in, number_within}
use Rattle.scenario_words.specs.Faults.{◌>>=◌}
use Rattle.scenario_words.specs.Paths.{is_path}
use Rattle.scenario_words.specs.Words.{FilledWord, word_fault, is_word, word_at, ends_at, is_at, expect_at}
use Rattle.scenario_lines.specs.declared.burst.Burst.{Burst}
use Rattle.scenario_lines.specs.declared.burst.Deed.TheVariants as deed
use Rattle.scenario_lines.specs.Joined.{joined}
use Rattle.scenario_lines.specs.Scene.{SceneNow, group_below_root, task_there}

-- the words of such a line, as they are written
abbrev pub note : List FilledWord → Burst
note ws = record { deed = deed.Note (joined ws 0 true); until = None }

-- each is a group below the root
abbrev pub groups_form : SceneNow → List FilledWord → Result (Unit {0}) Fault
groups_form s [] = Ok tt
groups_form s (w ∷ ws) = do
  _ ← group_below_root s w
  groups_form s ws

-- `show PATH ..`
abbrev pub show_line : SceneNow → List FilledWord → Result Burst Fault
show_line s ws = do
  _ ← groups_form s (drop 1 ws)
  Ok (note ws)

-- `mark TEXT`
abbrev pub mark_line : List FilledWord → Burst
mark_line ws = note ws

-- ---- `expect`

abbrev pub is_operator : List FilledWord → ℕ → Bool
is_operator ws place = is_at ws place (codes "=") || is_at ws place (codes ">=") || is_at ws place (codes "<=")

-- a number of events
abbrev pub events_form : List FilledWord → ℕ → Result (Unit {0}) Fault
events_form ws place = do
  w ← word_at ws place
  _ ← number_within 0 (2 ^ 64 - 1) w
  ends_at ws (place + 1)

-- a size
abbrev pub size_form : List FilledWord → ℕ → Result (Unit {0}) Fault
size_form ws place = do
  w ← word_at ws place
  _ ← size_in w
  ends_at ws (place + 1)

-- a number of events or a size
abbrev pub number_form : List FilledWord → ℕ → Bool → Result (Unit {0}) Fault
number_form ws place events = if events then events_form ws place else size_form ws place

-- the same, with an operator before it or not
abbrev pub compared_form : List FilledWord → ℕ → Bool → Result (Unit {0}) Fault
compared_form ws place events = if is_operator ws place then number_form ws (place + 1) events else number_form ws place events

-- a number of pages of a group
abbrev pub is_amount : FilledWord → Bool
is_amount w = is_word w (codes "current") || is_word w (codes "anon") || is_word w (codes "file")

abbrev pub is_event : FilledWord → Bool
is_event w =
    is_word w (codes "events.low") || is_word w (codes "events.max") || is_word w (codes "events.oom") || is_word w (codes "events.oom_kill")
    || is_word w (codes "events.oom_group_kill")

abbrev pub key_form : List FilledWord → FilledWord → Result (Unit {0}) Fault
key_form ws key =
    if is_amount key then compared_form ws 3 false
    else if is_event key then compared_form ws 3 true
    else Err (word_fault key cause.NotExpected)

-- `expect PATH KEY [=] N`
abbrev pub group_form : SceneNow → List FilledWord → FilledWord → Result (Unit {0}) Fault
group_form s ws w = do
  _ ← group_below_root s w
  key ← word_at ws 2
  key_form ws key

-- each is a task
abbrev pub each_task : SceneNow → List FilledWord → Result (Unit {0}) Fault
each_task s [] = Ok tt
each_task s (w ∷ ws) = do
  _ ← task_there s w
  each_task s ws

-- `expect killed NAME ..` and `expect alive NAME ..`: at least one
abbrev pub tasks_form : SceneNow → List FilledWord → Result (Unit {0}) Fault
tasks_form s ws = do
  _ ← word_at ws 2
  each_task s (drop 2 ws)

-- `expect nobody killed`
abbrev pub nobody_form : List FilledWord → Result (Unit {0}) Fault
nobody_form ws = do
  _ ← expect_at ws 2 (codes "killed")
  ends_at ws 3

abbrev pub if_above : FilledWord → Bool → Result (Unit {0}) Fault
if_above w above = if above then Ok tt else Err (word_fault w cause.NothingAbove)

-- `expect refused WORD`: the line above could be refused
abbrev pub refused_form : List FilledWord → FilledWord → Bool → Result (Unit {0}) Fault
refused_form ws w above = do
  _ ← word_at ws 2
  _ ← if_above w above
  ends_at ws 3

abbrev pub expect_form : SceneNow → List FilledWord → Bool → FilledWord → Result (Unit {0}) Fault
expect_form s ws above w =
    if is_path w then group_form s ws w
    else if is_word w (codes "in") || is_word w (codes "out") || is_word w (codes "dropped") then compared_form ws 2 false
    else if is_word w (codes "killed") || is_word w (codes "alive") then tasks_form s ws
    else if is_word w (codes "nobody") then nobody_form ws
    else if is_word w (codes "refused") then refused_form ws w above
    else Err (word_fault w cause.NotExpected)

-- an `expect`; whether a line that could be refused is right above
abbrev pub expect_line : SceneNow → List FilledWord → Bool → Result Burst Fault
expect_line s ws above = do
  w ← word_at ws 1
  _ ← expect_form s ws above w
  Ok (note ws)

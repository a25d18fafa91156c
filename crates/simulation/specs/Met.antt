-- When a note of a scenario is as expected.
use Rattle.std.specs.Prelude.{◌≡◌, ◌⊎◌, ℕ, zero, suc, ◌+◌, ◌-◌, ◌^◌, min, Bool, true, false, ◌&&◌, ◌||◌, List, [], ◌∷◌, codes, Option, Some, None, is_some, Result, Ok, Err, slice_get, if◌then◌else◌}
use Rattle.machine.specs.declared.command.Actor.{Actor}
use Rattle.machine.specs.declared.command.Actor.TheVariants.{Control}
use Rattle.machine.specs.declared.command.Command.{Command}
use Rattle.machine.specs.declared.command.Reply.{Reply as Told_by}
use Rattle.machine.specs.declared.command.Step.{Step}
use Rattle.machine.specs.declared.command.Step.TheVariants.{Begin, Advance}
use Rattle.machine.specs.declared.config.Config.{Config}
use Rattle.machine.specs.State.{State, blocks_of}
use Rattle.block_store.specs.Device.{new_disk}
use Rattle.driver.specs.Schedule.{World, first_world, activity_of, Stepped}
use Rattle.driver.specs.Seats.{is_under_way}
use Rattle.scenarios.specs.declared.fault.Fault.{Fault as TextFault}
use Rattle.scenarios.specs.Holes.{NamedText}
use Rattle.scenarios.specs.Lines.{TextLine}
use Rattle.scenarios.specs.Scenario.{scenario_of}
use Rattle.scenario_words.specs.declared.fault.Fault.{Fault}
use Rattle.scenario_words.specs.declared.header.DeviceCall.TheVariants as call
use Rattle.scenario_words.specs.Paths.{is_path}
use Rattle.scenario_words.specs.Words.{FilledWord, is_at}
use Rattle.scenario_lines.specs.HeaderLines.{header_read}
use Rattle.scenario_lines.specs.Joined.{joined}
use Rattle.scenario_lines.specs.Scene.{SceneNow, GroupPath, at_first, group_below_root, script_path}
use Rattle.scenario_faults.specs.Settings.{settings_of}
use Rattle.expansion.specs.declared.expansion.Item.{Item}
use Rattle.expansion.specs.declared.expansion.Item.TheVariants as item
use Rattle.expansion.specs.Walk.{Out, ends, expanded}
use Rattle.scenario_machines.specs.Machines.{IsConfigOf, failing_calls}
use Rattle.scenario_reports.specs.Verdicts.{group_pages, meets_size_if_there}
use Rattle.simulation.specs.declared.simulation.Count.{Count}

-- an `expect` of a group is about what is charged to it, and not about a count of events
abbrev pub is_charge : List FilledWord → Bool
is_charge ws = is_at ws 2 (codes "current") || is_at ws 2 (codes "anon") || is_at ws 2 (codes "file")

abbrev pub is_path_word : Option FilledWord → Bool
is_path_word None = false
is_path_word (Some w) = is_path w

-- it is of a group
abbrev pub is_path_at : List FilledWord → Bool
is_path_at ws = is_path_word (slice_get ws 1)

-- what is said of an `expect` of what is charged to the group that a word names, in this state: whether the group has as many pages as the other words demand.
-- (Excludes another group, an earlier state, and a verdict that is turned round.)
abbrev pub JudgesCharge : ℕ → SceneNow → FilledWord → List FilledWord → State → Bool → Type 0
JudgesCharge page s w ws state met =
    (path : GroupPath) × (group_below_root s w ≡ Ok path) × (met ≡ meets_size_if_there page ws 3 (group_pages state (script_path s path) ws))

abbrev pub IsJudged : ℕ → SceneNow → List FilledWord → State → Bool → Type 0
IsJudged page s ws state met = (w : FilledWord) × (slice_get ws 1 ≡ Some w) × JudgesCharge page s w ws state met

-- an `expect` of what is charged to a group
abbrev pub is_of_charge : List FilledWord → Bool
is_of_charge ws = is_at ws 0 (codes "expect") && (is_path_at ws && is_charge ws)

-- what is said of a note, which has these words: of an `expect`, whether it is met. If it is of what is charged to a group, the machine decides. (Excludes an `expect` that is passed over.)
abbrev pub JudgesNote : ℕ → SceneNow → List ℕ → State → Option Bool → Type 0
JudgesNote page s text state said =
    (ws : List FilledWord) × (joined ws 0 true ≡ text) × (is_some said ≡ is_at ws 0 (codes "expect")) × (is_of_charge ws ≡ true → (met : Bool) × (said ≡ Some met) × IsJudged page s ws state met)

-- ---- the count of a run

-- the page stays, and all is well after it only if it was so before. (Excludes a run that is well again.)
abbrev pub Keeps : Count → Count → Type 0
Keeps old new = (new.page ≡ old.page) × (new.well ≡ true → old.well ≡ true)

-- the number of expectations that were judged, after a note
abbrev pub counted : List FilledWord → ℕ → ℕ
counted ws n = if is_at ws 0 (codes "expect") then min (n + 1) (2 ^ 64 - 1) else n

-- a note is counted if it is an `expect`; and all is well after it only if the note is met. (Excludes an `expect` that is not looked at once another one was not met.)
abbrev pub CountsNote : Count → Count → SceneNow → List ℕ → State → Type 0
CountsNote old new s text state =
    (ws : List FilledWord) × (joined ws 0 true ≡ text) × Keeps old new × (new.judged ≡ counted ws old.judged) × (new.well ≡ true → is_of_charge ws ≡ true → IsJudged old.page.bytes s ws state true)

-- ---- the items of a scenario, on the plain machine

-- so many turns of an actor, each of a command that is under way
abbrev pub Advances : ℕ → World → Actor → World → Type 0
Advances zero w who v = v ≡ w
Advances (suc turns) w who v =
    (mid : World) × (answers : List Told_by) × (is_under_way (activity_of who w.seats) ≡ true) × Stepped w (Advance who) answers mid × Advances turns mid who v

-- a command from its beginning to its answer. (Excludes one that is left under way.)
abbrev pub Completes : World → Actor → Command → World → Type 0
Completes w who what v =
    (mid : World) × (answers : List Told_by) × (turns : ℕ) × Stepped w (Begin who what) answers mid × Advances turns mid who v × (is_under_way (activity_of who v.seats) ≡ false)

-- the machine may have read a file before a note, and has done nothing else
abbrev pub ReadsAtMost : World → World → Type 0
ReadsAtMost w v = (v ≡ w) ⊎ ((what : Command) × Completes w Control what v)

-- a note is met as the machine stands there
abbrev pub MeetsNote : ℕ → World → List ℕ → World → Type 0
MeetsNote page w text v =
    (s : SceneNow) × (ws : List FilledWord) × (joined ws 0 true ≡ text) × ReadsAtMost w v × (is_of_charge ws ≡ true → IsJudged page s ws v.past.state true)

-- so many steps of the machine
abbrev pub StepsBy : ℕ → World → World → Type 0
StepsBy zero w v = v ≡ w
StepsBy (suc steps) w v = (mid : World) × (s : Step) × (answers : List Told_by) × Stepped w s answers mid × StepsBy steps mid v

-- an entry is carried out, and a note is met. Of a line `raw` only that it takes some steps
abbrev pub MeetsItem : ℕ → World → Item → World → Type 0
MeetsItem page w (item.Entry who what) v = Completes w who what v
MeetsItem page w (item.Raw line) v = (steps : ℕ) × StepsBy steps w v
MeetsItem page w (item.Note text) v = MeetsNote page w text v
MeetsItem page w item.Opened v = v ≡ w
MeetsItem page w (item.Unreached line) v = v ≡ w

-- items, one after the other. (Excludes a note that is judged before the entries above it are carried out, or after one below it.)
abbrev pub MeetsItems : ℕ → World → List Out → World → Type 0
MeetsItems page w [] v = v ≡ w
MeetsItems page w (out ∷ outs) v = (mid : World) × MeetsItem page w out.item mid × MeetsItems page mid outs v

-- ---- a scenario

-- a new machine as the header asks for it, over a new device
abbrev pub Opens : SceneNow → World → Type 0
Opens s w =
    (config : Config) × IsConfigOf s.machine s.names config
    × (w ≡ first_world config (new_disk (blocks_of config) (failing_calls call.Read s.machine.failing) (failing_calls call.Write s.machine.failing)))

abbrev pub MeetsAllBy : Result (ℕ × SceneNow) Fault → List Out → Type 0
MeetsAllBy (Err f) outs = ⊥
MeetsAllBy (Ok p) outs = (begin : World) × (end : World) × Opens p.1 begin × MeetsItems p.1.machine.page begin outs end

-- these lines, on a new machine: each entry was carried out, and each note was met where it stands
abbrev pub MeetsLines : List TextLine → List NamedText → Type 0
MeetsLines ls named = ends (expanded ls named).ending ≡ true → MeetsAllBy (header_read (at_first named) ls) (expanded ls named).outs

abbrev pub MeetsBy : Result (List TextLine) TextFault → List NamedText → Type 0
MeetsBy (Err f) named = ⊥
MeetsBy (Ok ls) named = MeetsLines ls named

-- a scenario with these settings is as expected, if no list with `until` is in it
abbrev pub IsAsExpected : List ℕ → List (List ℕ) → Type 0
IsAsExpected text settings = MeetsBy (scenario_of text) (settings_of settings)

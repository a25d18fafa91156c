-- What each line of a script asks for, as it is found by the steps of its schedule. No public clause cites it.
use Rattle.std.specs.Prelude.{◌≡◌, ℕ, map, Bool, true, false, ◌&&◌, ◌==◌, List, [], ◌∷◌, Option, Some, None, if◌then◌else◌}
use Rattle.std.specs.Str.{is_utf8}
use Rattle.machine.specs.declared.command.Step.{Step}
use Rattle.machine.specs.declared.command.Step.TheVariants as step
use Rattle.machine.specs.Numbers.{is_numeral}
use Rattle.scripts.specs.declared.forms.Word.{Word}
use Rattle.scripts.specs.declared.forms.Word.TheVariants as word
use Rattle.scripts.specs.declared.forms.Speaker.TheVariants as speaker
use Rattle.scripts.specs.declared.meaning.Item.{Item}
use Rattle.scripts.specs.declared.meaning.Item.TheVariants as item
use Rattle.scripts.specs.Forms.{word_named, takes_line, same_word}
use Rattle.scripts.specs.Script.{steps_of, lines_of}
use Rattle.scripts.specs.Work.{is_go}
use Rattle.schedules.specs.Schedule.{ScheduleOf}
use Rattle.scripts.specs.Words.{words_of, is_comment}
use Rattle.division.specs.declared.said.Said.{Said}
use Rattle.division.specs.declared.said.Said.TheVariants as said

-- ---- the lines `go`

abbrev pub names_go : Option Word → Bool
names_go None = false
names_go (Some w) = same_word w word.Go

abbrev pub task_go : List (List ℕ) → Bool
task_go [] = false
task_go (word ∷ a) = names_go (word_named speaker.Task word)

-- of a line without its `begin`
abbrev pub bare_go : List (List ℕ) → Bool
bare_go [] = false
bare_go (first ∷ more) = if is_numeral first then task_go more else names_go (word_named speaker.Shell first)

abbrev pub words_go : List (List ℕ) → Bool
words_go [] = false
words_go (first ∷ more) =
    if is_comment first then false
    else if takes_line (word_named speaker.Shell first) then bare_go more
    else bare_go (first ∷ more)

abbrev pub is_go_line : List ℕ → Bool
is_go_line line = is_utf8 line && words_go (words_of line)

-- ---- steps and their numbers

-- how many of the first two are of the line with this number
abbrev pub width : List ℕ → ℕ → ℕ
width [] number = 0
width (first ∷ []) number = if first == number then 1 else 0
width (first ∷ second ∷ numbers) number = if first == number then (if second == number then 2 else 1) else 0

-- the first of two steps begins a command that is done to its end
abbrev pub whole_by : Bool → Step → Said
whole_by true (step.Begin who what) = said.Does who what
whole_by true (step.Advance who) = said.Step (step.Advance who)
whole_by true (step.Finish who) = said.Step (step.Finish who)
whole_by false s = said.Step s

-- of a line with so many steps, of which these are the first
abbrev pub stepped_by : ℕ → List Step → Said
stepped_by n [] = said.Nothing
stepped_by n (s ∷ steps) = if n == 0 then said.Nothing else whole_by (n == 2) s

abbrev pub said_by : Bool → ℕ → List Step → Said
said_by goes n steps = if goes then said.Go else stepped_by n steps

-- what the line asks for
abbrev pub said_of_item : Item → Said
said_of_item item.EndsSetup = said.Go
said_of_item (item.Does who what) = said.Does who what
said_of_item (item.Begins who what) = said.Step (step.Begin who what)
said_of_item (item.Advances who) = said.Step (step.Advance who)
said_of_item (item.Finishes who) = said.Step (step.Finish who)
said_of_item item.Nothing = said.Nothing
said_of_item (item.Frames n) = said.Nothing
said_of_item (item.Swap n) = said.Nothing
said_of_item (item.File file) = said.Nothing
said_of_item (item.Marks m) = said.Nothing
said_of_item (item.Trace n) = said.Nothing
said_of_item (item.Fails what n) = said.Nothing
said_of_item item.Recursive = said.Nothing
said_of_item (item.PageSize p) = said.Nothing

-- lines that say this, none of them faulty, were read as this schedule
pub record IsRead (is : List Item) (ls : List (List ℕ)) (schedule : ScheduleOf) : Type 0 where
  pub steps : schedule.steps ≡ steps_of is
  pub numbers : schedule.numbers ≡ lines_of is
  pub goes : map is_go_line ls ≡ map is_go is

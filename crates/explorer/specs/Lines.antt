-- The lines of an outcome.
use Rattle.std.specs.Prelude.{ℕ, Bool, true, false, ◌&&◌, ◌==◌, not, List, ◌++◌, filter, flat_map}
use Rattle.machine.specs.declared.command.Actor.{Actor}
use Rattle.machine.specs.declared.command.Answer.{Answer}
use Rattle.machine.specs.declared.command.Answer.TheVariants as answer
use Rattle.machine.specs.declared.command.Word.TheVariants as word
use Rattle.machine.specs.declared.command.Reply.{Reply as Told_by}
use Rattle.machine.specs.Printed.{printed}
use Rattle.scripts.specs.Work.{number_of}
use Rattle.explorer.specs.declared.parts.Row.{Row}

-- the answer reports a kill
abbrev pub is_kill : Answer → Bool
is_kill (answer.Kill task) = true
is_kill (answer.KillAll victim tasks) = true
is_kill (answer.Byte byte) = false
is_kill (answer.Text text) = false
is_kill answer.Done = false
is_kill (answer.Word said) = false

abbrev pub tells_kill : Told_by → Bool
tells_kill told = is_kill told.answer

-- the answer is that its command meets a page in transfer
abbrev pub is_busy : Answer → Bool
is_busy (answer.Word word.Busy) = true
is_busy (answer.Word said) = false
is_busy (answer.Byte byte) = false
is_busy (answer.Text text) = false
is_busy answer.Done = false
is_busy (answer.Kill task) = false
is_busy (answer.KillAll victim tasks) = false

abbrev pub tells_busy : Told_by → Bool
tells_busy told = is_busy told.answer

-- it answers a command of the actor
abbrev pub answers_to : Actor → Told_by → Bool
answers_to who told = (number_of told.actor == number_of who) && not (tells_kill told)

-- the lines of these answers
abbrev pub lines_of : List Told_by → List ℕ
lines_of answers = flat_map printed answers

-- the lines of the answers to the commands of the row's actor
abbrev pub lines_for : List Told_by → Row → List ℕ
lines_for said row = lines_of (filter (answers_to row.actor) said)

-- the lines of an outcome: each actor's, then the kills', then those of the looks. (Excludes kills that are left out, and looks that are.)
abbrev pub outcome_text : List Row → List Told_by → List Told_by → List ℕ
outcome_text rows said looked = flat_map (lines_for said) rows ++ lines_of (filter tells_kill said) ++ lines_of looked

-- What a run on threads shows of groups at its end: some of their control files, as `cat` prints them.
use Rattle.std.specs.Prelude.{ℕ, List, [], ◌∷◌, ◌++◌, map, codes, Option, Some, None, if◌then◌else◌}
use Rattle.std.specs.Str.Lines.{lines}
use Rattle.machine.specs.declared.command.Actor.TheVariants.{Shell}
use Rattle.machine.specs.declared.command.Answer.TheVariants as answer
use Rattle.machine.specs.declared.command.Word.TheVariants as word
use Rattle.machine.specs.declared.refusal.Refusal.TheVariants as refusal
use Rattle.machine.specs.declared.id.GroupId.{GroupId}
use Rattle.machine.specs.declared.event.Query.{Query}
use Rattle.machine.specs.declared.event.Query.TheVariants as query
use Rattle.machine.specs.declared.control.ControlFile.{ControlFile}
use Rattle.machine.specs.declared.control.ControlFile.TheVariants as file
use Rattle.machine.specs.declared.reply.Shown.{Shown}
use Rattle.machine.specs.Control.{line, text_of, has_file}
use Rattle.machine.specs.Printed.{answer_text}
use Rattle.machine.specs.State.{State}
use Rattle.machine.specs.Step.{shown_of}
use Rattle.machine.specs.Tree.{find_group}
use Rattle.scripts.specs.Script.{items_of, steps_of}
use Rattle.printer.specs.Paths.{paths_in}
use Rattle.shown_groups.specs.declared.shown.Shows.{Shows}
use Rattle.shown_groups.specs.declared.shown.Shows.TheVariants as shows
use Rattle.shown_groups.specs.declared.shown.Missing.{Missing}
use Rattle.shown_groups.specs.declared.shown.Missing.TheVariants as missing

-- ---- one file

-- the numbers of a group's file, if there is such a group and it has the file
abbrev pub numbers_of_file : State → ControlFile → (GroupId → Query) → Option ℕ → Option Shown
numbers_of_file s what asks None = None
numbers_of_file s what asks (Some g) = if has_file g what then Some (shown_of s (asks (record { 0 = g }))) else None

-- what `cat` answers with pages of this size: the file's text, or that there is no such file
abbrev pub cat_text : ℕ → Option Shown → List ℕ
cat_text page_size None = answer_text Shell (answer.Word (word.Refused refusal.NoEntry))
cat_text page_size (Some numbers) = text_of page_size numbers

-- a line with the file's name, and after it what `cat` answers
abbrev pub file_text : ℕ → List ℕ → List ℕ → Option Shown → List ℕ
file_text page_size path name numbers = line (path ++ (codes "/" ++ name)) ++ cat_text page_size numbers

-- ---- the files of a path

-- the three files of the group that has the path in this state. (Excludes the numbers of another group under a path, and those of one file under the name of another.)
abbrev pub files_text : State → List ℕ → Option ℕ → List ℕ
files_text s path g =
    file_text s.opening.page_size path (codes "memory.current") (numbers_of_file s file.Current query.Current g)
    ++ (file_text s.opening.page_size path (codes "memory.stat") (numbers_of_file s file.Stat query.Stat g)
    ++ file_text s.opening.page_size path (codes "memory.events") (numbers_of_file s file.Events query.Events g))

-- the same, or nothing if no group has the path and such are left out
abbrev pub found_text : Missing → State → List ℕ → Option ℕ → List ℕ
found_text missing.Skipped s path None = []
found_text missing.Skipped s path (Some g) = files_text s path (Some g)
found_text missing.Told s path g = files_text s path g

-- of all these paths, in their order
abbrev pub paths_text : Missing → State → List (List ℕ) → List ℕ
paths_text how s [] = []
paths_text how s (path ∷ paths) = found_text how s path (find_group s.tree path) ++ paths_text how s paths

-- ---- what a run shows

-- nothing
abbrev pub no_text : State → List ℕ
no_text s = []

-- all groups that the script makes and that are there in this state; or the groups of the paths, and under a path without a group that it has none
abbrev pub shown_text : Shows → List ℕ → State → List ℕ
shown_text shows.All script s = paths_text missing.Skipped s (paths_in (steps_of (items_of (lines script))))
shown_text (shows.These paths) script s = paths_text missing.Told s (map (λ p. p.now) paths.now)

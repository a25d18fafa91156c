-- What a line says.
use Rattle.std.specs.Prelude.{ℕ, Bool, ◌^◌, List, [], ◌∷◌, Option, Some, None, min, position, unwrap_or, slice_index_or, if◌then◌else◌}
use Rattle.std.specs.Option.{option_map}
use Rattle.std.specs.Str.{bytes_eq}
use Rattle.machine.specs.declared.command.Actor.{Actor}
use Rattle.machine.specs.declared.command.Actor.TheVariants as actor
use Rattle.machine.specs.declared.command.Command.{Command}
use Rattle.machine.specs.declared.command.Command.TheVariants as command
use Rattle.machine.specs.declared.record.Guard.TheVariants as guard
use Rattle.machine.specs.declared.event.Place.TheVariants as place
use Rattle.machine.specs.declared.event.Op.{Op}
use Rattle.machine.specs.declared.event.Op.TheVariants as op
use Rattle.machine.specs.declared.config.File.{File}
use Rattle.machine.specs.declared.config.Watermarks.{Watermarks}
use Rattle.machine.specs.declared.limit.TheConstants.{MOST_FILES}
use Rattle.machine.specs.declared.page_size.PageSize.{PageSize}
use Rattle.machine.specs.Numbers.{is_numeral, number_below}
use Rattle.machine.specs.Control.{page_size_of}
use Rattle.machine.specs.PageSizes.{page_of, of_4k}
use Rattle.scripts.specs.declared.meaning.Item.{Item}
use Rattle.scripts.specs.declared.meaning.Item.TheVariants as item
use Rattle.scripts.specs.declared.forms.Word.{Word}
use Rattle.scripts.specs.declared.forms.Word.TheVariants as word
use Rattle.scripts.specs.declared.forms.Speaker.TheVariants as speaker
use Rattle.scripts.specs.declared.forms.DeviceCall.{DeviceCall}
use Rattle.scripts.specs.declared.forms.DeviceCall.TheVariants as call
use Rattle.scripts.specs.Forms.{word_named, takes_line, actor_named, call_named}
use Rattle.scripts.specs.Words.{is_comment}

-- the number that a word writes, below a limit; 0 of a word that writes none, which a faultless line has not
abbrev pub value : ℕ → List ℕ → ℕ
value limit word = unwrap_or (number_below limit word) 0

abbrev pub number_value : List ℕ → ℕ
number_value word = value (2 ^ 32) word

abbrev pub byte_value : List ℕ → ℕ
byte_value word = value 256 word

abbrev pub at : List (List ℕ) → ℕ → List ℕ
at arguments i = slice_index_or arguments i []

abbrev pub actor_of : Option (List ℕ) → Actor
actor_of None = actor.Shell
actor_of (Some task) = actor.Task (number_value task)

-- the actor that a word names or numbers
abbrev pub actor_value : List ℕ → Actor
actor_value word = unwrap_or (actor_named word) (actor.Task (number_value word))

-- the call of the device that a word names; a read of a word that names none, which a faultless line has not
abbrev pub call_value : List ℕ → DeviceCall
call_value word = unwrap_or (call_named word) call.Read

abbrev pub marks_of : List ℕ → List ℕ → Watermarks
marks_of low high = record { low = number_value low; high = number_value high }

-- the page that a word says; one of 4K of a word that says none, which a faultless line has not
abbrev pub page_value : List ℕ → PageSize
page_value word = unwrap_or (option_map page_of (page_size_of word)) of_4k

abbrev pub access_to : List ℕ → List ℕ → Op → Command
access_to page offset op = command.Access (place.Virtual (number_value page) (number_value offset)) op

-- the file of this name has it
abbrev pub has_name : List ℕ → File → Bool
has_name name file = bytes_eq file.name name

-- the number of the file of this name: its place. Of a name that none has it is one that no file has, since there are at most 64 in a faultless script
abbrev pub file_number : List File → List ℕ → ℕ
file_number files name = min (unwrap_or (position (has_name name) files) MOST_FILES) MOST_FILES

abbrev pub file_access_to : List File → List ℕ → List ℕ → List ℕ → Op → Command
file_access_to files name page offset op = command.Access (place.File (file_number files name) (number_value page) (number_value offset)) op

abbrev pub file_of : List ℕ → List ℕ → File
file_of name pages = record { name = name; pages = number_value pages }

-- of a line with this word and these arguments, behind a task's number where there is one, where the header has these files; what `begin` says, the line behind it tells
abbrev pub word_means : List File → Option (List ℕ) → Word → List (List ℕ) → Item
word_means files task word.Frames a = item.Frames (number_value (at a 0))
word_means files task word.Swap a = item.Swap (number_value (at a 0))
word_means files task word.File a = item.File (file_of (at a 0) (at a 1))
word_means files task word.Watermarks a = item.Marks (marks_of (at a 0) (at a 1))
word_means files task word.Trace a = item.Trace (number_value (at a 0))
word_means files task word.Fault a = item.Fails (call_value (at a 0)) (number_value (at a 1))
word_means files task word.RecursiveProtection a = item.Recursive
word_means files task word.PageSize a = item.PageSize (page_value (at a 0))
word_means files task word.Group a = item.Does (actor_of task) (command.Group (at a 0))
word_means files task word.Rmdir a = item.Does (actor_of task) (command.Rmdir (at a 0))
word_means files task word.Task a = item.Does (actor_of task) (command.Task (number_value (at a 0)) (at a 1))
word_means files task word.Attach a = item.Does (actor_of task) (command.Attach (number_value (at a 0)) (at a 1))
word_means files task word.Set a = item.Does (actor_of task) (command.Set (at a 0) (at a 1) (at a 2))
word_means files task word.Cat a = item.Does (actor_of task) (command.Cat (at a 0) (at a 1))
word_means files task word.Protection a = item.Does (actor_of task) (command.Protection guard.Min (at a 0) (at a 1))
word_means files task word.LowProtection a = item.Does (actor_of task) (command.Protection guard.Low (at a 0) (at a 1))
word_means files task word.Write a = item.Does (actor_of task) (access_to (at a 0) (at a 1) (op.Write (byte_value (at a 2))))
word_means files task word.Read a = item.Does (actor_of task) (access_to (at a 0) (at a 1) op.Read)
word_means files task word.FileWrite a = item.Does (actor_of task) (file_access_to files (at a 0) (at a 1) (at a 2) (op.Write (byte_value (at a 3))))
word_means files task word.FileRead a = item.Does (actor_of task) (file_access_to files (at a 0) (at a 1) (at a 2) op.Read)
word_means files task word.Fork a = item.Does (actor_of task) (command.Fork (number_value (at a 0)))
word_means files task word.Free a = item.Does (actor_of task) (command.Free (number_value (at a 0)))
word_means files task word.Exit a = item.Does (actor_of task) command.Exit
word_means files task word.Daemon a = item.Does actor.Daemon command.Daemon
word_means files task word.Begin a = item.Nothing
word_means files task word.Step a = item.Advances (actor_value (at a 0))
word_means files task word.Finish a = item.Finishes (actor_value (at a 0))
word_means files task word.Go a = item.EndsSetup

abbrev pub named_means : List File → Option (List ℕ) → Option Word → List (List ℕ) → Item
named_means files task None a = item.Nothing
named_means files task (Some word) a = word_means files task word a

abbrev pub task_means : List File → List ℕ → List (List ℕ) → Item
task_means files task [] = item.Nothing
task_means files task (word ∷ a) = named_means files (Some task) (word_named speaker.Task word) a

-- of a line without its `begin`
abbrev pub bare_means : List File → List (List ℕ) → Item
bare_means files [] = item.Nothing
bare_means files (first ∷ more) =
    if is_numeral first then task_means files first more
    else named_means files None (word_named speaker.Shell first) more

-- what is begun is not finished, and control does what the shell would do
abbrev pub only_begun : Item → Item
only_begun (item.Does actor.Shell what) = item.Begins actor.Control what
only_begun (item.Does who what) = item.Begins who what
only_begun i = i

-- what the words of a faultless line say, where the header has these files
abbrev pub meaning : List File → List (List ℕ) → Item
meaning files [] = item.Nothing
meaning files (first ∷ more) =
    if is_comment first then item.Nothing
    else if takes_line (word_named speaker.Shell first) then only_begun (bare_means files more)
    else bare_means files (first ∷ more)

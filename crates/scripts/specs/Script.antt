-- What a script says, and its first faulty line.
use Rattle.std.specs.Prelude.{◌≡◌, ℕ, ◌+◌, ◌-◌, ◌<◌, ◌≤◌, Bool, true, false, List, [], ◌∷◌, ◌++◌, length, fold, take, replicate, Option, Some, None, slice_index_or}
use Rattle.std.specs.List.{list_any, filter_map, flat_map}
use Rattle.machine.specs.declared.command.Step.{Step}
use Rattle.machine.specs.declared.command.Step.TheVariants as step
use Rattle.scripts.specs.declared.meaning.Item.{Item}
use Rattle.scripts.specs.declared.meaning.Item.TheVariants as item
use Rattle.scripts.specs.declared.forms.Word.{Word}
use Rattle.scripts.specs.declared.forms.Word.TheVariants as word
use Rattle.scripts.specs.declared.forms.DeviceCall.{DeviceCall}
use Rattle.scripts.specs.declared.forms.DeviceCall.TheVariants as call
use Rattle.scripts.specs.declared.fault.Cause.{Cause}
use Rattle.scripts.specs.declared.fault.ScriptFault.{ScriptFault}
use Rattle.scripts.specs.declared.fault.ScriptFault.TheVariants as script_fault
use Rattle.scripts.specs.declared.mode.Mode.{Mode}
use Rattle.scripts.specs.declared.mode.Mode.TheVariants as mode
use Rattle.scripts.specs.Words.{words_of}
use Rattle.scripts.specs.Context.{Around}
use Rattle.scripts.specs.Faults.{fault}
use Rattle.scripts.specs.Meaning.{meaning}
use Rattle.scripts.specs.Header.{config_of, header_frames}

-- ---- what a script says

-- what one line more says behind those that say this: a file's name is that of a file before it
abbrev pub with_line : List Item → List ℕ → List Item
with_line is l = is ++ meaning (config_of is).files (words_of l) ∷ []

-- what each of these lines says
abbrev pub items_of : List (List ℕ) → List Item
items_of ls = fold with_line [] ls

-- which call of the kind is to fail, where the line says so of one
abbrev pub fails : DeviceCall → Item → Option ℕ
fails call.Read (item.Fails call.Read n) = Some n
fails call.Write (item.Fails call.Write n) = Some n
fails what i = None

-- the calls of the kind that are to fail, in the order of the lines
abbrev pub faults_of : DeviceCall → List Item → List ℕ
faults_of what is = filter_map (fails what) is

-- what is done is begun and finished
abbrev pub steps_of_item : Item → List Step
steps_of_item (item.Does actor what) = step.Begin actor what ∷ step.Finish actor ∷ []
steps_of_item (item.Begins actor what) = step.Begin actor what ∷ []
steps_of_item (item.Advances actor) = step.Advance actor ∷ []
steps_of_item (item.Finishes actor) = step.Finish actor ∷ []
steps_of_item item.Nothing = []
steps_of_item (item.Frames n) = []
steps_of_item (item.Swap n) = []
steps_of_item (item.File file) = []
steps_of_item (item.Marks m) = []
steps_of_item (item.Trace n) = []
steps_of_item (item.Fails what n) = []
steps_of_item item.Recursive = []
steps_of_item (item.PageSize p) = []
steps_of_item item.EndsSetup = []

abbrev pub steps_of : List Item → List Step
steps_of is = flat_map steps_of_item is

-- for each of the steps the number of the line that it comes of, where the first line's number is this
abbrev pub lines_from : ℕ → List Item → List ℕ
lines_from n [] = []
lines_from n (i ∷ is) = replicate (length (steps_of_item i)) n ++ lines_from (n + 1) is

abbrev pub lines_of : List Item → List ℕ
lines_of is = lines_from 1 is

-- by what the script is read for: a run on threads has no steps
abbrev pub steps_in : Mode → List Item → List Step
steps_in mode.Schedule is = steps_of is
steps_in mode.Run is = []

abbrev pub lines_in : Mode → List Item → List ℕ
lines_in mode.Schedule is = lines_of is
lines_in mode.Run is = []

-- ---- the first faulty line

-- the line is none of the header's, and not skipped
abbrev pub is_command : Item → Bool
is_command (item.Does actor what) = true
is_command (item.Begins actor what) = true
is_command (item.Advances actor) = true
is_command (item.Finishes actor) = true
is_command item.EndsSetup = true
is_command item.Nothing = false
is_command (item.Frames n) = false
is_command (item.Swap n) = false
is_command (item.File file) = false
is_command (item.Marks m) = false
is_command (item.Trace n) = false
is_command (item.Fails what n) = false
is_command item.Recursive = false
is_command (item.PageSize p) = false

-- the word of the header that the line begins with
abbrev pub header_word : Item → Option Word
header_word (item.Frames n) = Some word.Frames
header_word (item.Swap n) = Some word.Swap
header_word (item.File file) = Some word.File
header_word (item.Marks m) = Some word.Watermarks
header_word (item.Trace n) = Some word.Trace
header_word (item.Fails what n) = Some word.Fault
header_word item.Recursive = Some word.RecursiveProtection
header_word (item.PageSize p) = Some word.PageSize
header_word item.Nothing = None
header_word (item.Does actor what) = None
header_word (item.Begins actor what) = None
header_word (item.Advances actor) = None
header_word (item.Finishes actor) = None
header_word item.EndsSetup = None

-- what a line has to know of the others, where the header asks for so many frames and the lines before say this
abbrev pub around_of : ℕ → List Item → Around
around_of frames is = record { frames = frames; commands = list_any is_command is; given = filter_map header_word is; config = config_of is }

-- why a line is faulty behind those before it, in a script that is read for this, if it is; by its place, from 0
abbrev pub fault_at : Mode → List (List ℕ) → ℕ → Option Cause
fault_at mode ls k = fault mode (around_of (header_frames ls) (items_of (take k ls))) (slice_index_or ls k [])

-- no line is faulty
abbrev pub IsFaultless : Mode → List (List ℕ) → Type 0
IsFaultless mode ls = (k : ℕ) → k < length ls → fault_at mode ls k ≡ None

-- the line of this number, from 1 on, is the first faulty one, and this is why
pub record IsFirstFault (mode : Mode) (ls : List (List ℕ)) (number : ℕ) (cause : Cause) : Type 0 where
  pub within : (0 < number) × (number ≤ length ls)
  pub faulty : fault_at mode ls (number - 1) ≡ Some cause
  pub first : (k : ℕ) → k + 1 < number → fault_at mode ls k ≡ None

-- the fault is the first of the script; or memory was wanted to tell
abbrev pub NamesFirstFault : Mode → ScriptFault → List (List ℕ) → Type 0
NamesFirstFault mode script_fault.Memory ls = Unit {0}
NamesFirstFault mode (script_fault.At line cause) ls = IsFirstFault mode ls line cause

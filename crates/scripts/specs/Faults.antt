-- The faults of a line.
use Rattle.std.specs.Prelude.{ℕ, ◌+◌, Bool, true, false, ◌&&◌, ◌||◌, not, List, [], ◌∷◌, ◌^◌, length, Option, Some, None, is_some, nat_lt, nat_le, if◌then◌else◌}
use Rattle.std.specs.List.{list_all, list_any, zip}
use Rattle.std.specs.Str.{is_utf8}
use denote.Ref.{Bor}
use Rattle.machine.specs.declared.config.Config.{Config}
use Rattle.machine.specs.declared.limit.TheConstants.{MOST_FILES, MOST_BLOCKS}
use Rattle.machine.specs.Control.{page_size_of}
use Rattle.machine.specs.Names.{is_name, is_path}
use Rattle.machine.specs.Numbers.{is_numeral, number_below}
use Rattle.machine.specs.State.{are_watermarks, blocks_of}
use Rattle.scripts.specs.declared.fault.Cause.{Cause}
use Rattle.scripts.specs.declared.fault.Cause.TheVariants.{NotText, UnknownWord, MissingArgument, ExtraArgument, BadNumber, BadPageSize, BadName, HeaderAfterCommands, HeaderTwice, TooManyFiles, TooManyBlocks, OnlyInSchedule}
use Rattle.scripts.specs.declared.forms.Word.{Word}
use Rattle.scripts.specs.declared.forms.Word.TheVariants as word
use Rattle.scripts.specs.declared.forms.Speaker.TheVariants as speaker
use Rattle.scripts.specs.declared.forms.Kind.{Kind}
use Rattle.scripts.specs.declared.forms.Kind.TheVariants.{Number, Path, Name, Actor, Call, PageSize, Any, Line}
use Rattle.scripts.specs.declared.forms.Manner.{Manner}
use Rattle.scripts.specs.declared.forms.Manner.TheVariants as manner
use Rattle.scripts.specs.declared.mode.Mode.{Mode}
use Rattle.scripts.specs.Forms.{form_of, word_named, same_word, takes_line, may_stand, is_scheduled, is_run, actor_named, call_named}
use Rattle.scripts.specs.Context.{Around}
use Rattle.scripts.specs.Words.{words_of, is_comment}
use Rattle.scripts.specs.Meaning.{at, number_value, marks_of, has_name}

-- what a reference to a word points to
abbrev pub now : Bor (List ℕ) → List ℕ
now x = x.now

abbrev pub is_within : ℕ → ℕ → Option ℕ → Bool
is_within least most None = false
is_within least most (Some n) = nat_le least n && nat_le n most

-- an argument is an actor, a task's number or a name, or a call of the device, where its place asks for one
abbrev pub word_fits : Kind → List ℕ → Bool
word_fits (Number least most) word = true
word_fits Path word = true
word_fits Name word = true
word_fits Actor word = is_numeral word || is_some (actor_named word)
word_fits Call word = is_some (call_named word)
word_fits PageSize word = true
word_fits Any word = true
word_fits Line word = true

-- an argument is a number as its place asks for, where its place asks for one
abbrev pub number_fits : Kind → List ℕ → Bool
number_fits (Number least most) word = is_within least most (number_below (2 ^ 32) word)
number_fits Path word = true
number_fits Name word = true
number_fits Actor word = is_some (actor_named word) || is_some (number_below (2 ^ 32) word)
number_fits Call word = true
number_fits PageSize word = true
number_fits Any word = true
number_fits Line word = true

-- an argument is a path, or a file's name, where its place asks for one
abbrev pub name_fits : Kind → List ℕ → Bool
name_fits (Number least most) word = true
name_fits Path word = is_path word
name_fits Name word = is_name word
name_fits Actor word = true
name_fits Call word = true
name_fits PageSize word = true
name_fits Any word = true
name_fits Line word = true

abbrev pub task_fits : Option (List ℕ) → Bool
task_fits None = true
task_fits (Some word) = is_some (number_below (2 ^ 32) word)

abbrev pub all_fit : (Kind → List ℕ → Bool) → List Kind → List (List ℕ) → Bool
all_fit fits kinds words = list_all (λ p. fits p.0 p.1) (zip kinds words)

-- the daemon's marks, if the line gives them, are in order and within the frames
abbrev pub marks_fit : ℕ → Word → List (List ℕ) → Bool
marks_fit frames w arguments = not (same_word w word.Watermarks) || are_watermarks (marks_of (at arguments 0) (at arguments 1)) frames

-- the page size, if the line gives one, is one that a page may have
abbrev pub page_fits : Word → List (List ℕ) → Bool
page_fits w arguments = not (same_word w word.PageSize) || is_some (page_size_of (at arguments 0))

-- the line gives a file a name that one before it has
abbrev pub names_again : Config → Word → List (List ℕ) → Bool
names_again config w arguments = same_word w word.File && list_any (has_name (at arguments 0)) config.files

-- the line asks for a file where there are as many as there can be
abbrev pub files_full : Config → Word → Bool
files_full config w = same_word w word.File && nat_le MOST_FILES (length config.files)

-- how many blocks the header asks for up to this line, where the line asks for some
abbrev pub blocks_with : Config → Word → List (List ℕ) → ℕ
blocks_with config word.Swap arguments = blocks_of (record config { swap = number_value (at arguments 0) })
blocks_with config word.File arguments = blocks_of config + number_value (at arguments 1)
blocks_with config w arguments = 0

-- the cause of the first test that holds
abbrev pub first_of : List (Bool × Cause) → Option Cause
first_of [] = None
first_of (c ∷ cs) = if c.0 then Some c.1 else first_of cs

-- of a line with a known word, behind a task's number where there is one, in a script that is read for this
abbrev pub word_faults : Mode → Around → Manner → Option (List ℕ) → Word → List (List ℕ) → List (Bool × Cause)
word_faults mode around how task word arguments =
    let form = form_of word in
    (not (may_stand how word) || not (all_fit word_fits form.arguments arguments), UnknownWord)
    ∷ (nat_lt (length arguments) (length form.arguments), MissingArgument)
    ∷ (nat_lt (length form.arguments) (length arguments), ExtraArgument)
    ∷ (not (task_fits task) || not (all_fit number_fits form.arguments arguments), BadNumber)
    ∷ (not (marks_fit around.frames word arguments), BadNumber)
    ∷ (not (page_fits word arguments), BadPageSize)
    ∷ (not (all_fit name_fits form.arguments arguments), BadName)
    ∷ (form.header && around.commands, HeaderAfterCommands)
    ∷ ((form.once && list_any (same_word word) around.given) || names_again around.config word arguments, HeaderTwice)
    ∷ (files_full around.config word, TooManyFiles)
    ∷ (nat_lt MOST_BLOCKS (blocks_with around.config word arguments), TooManyBlocks)
    ∷ (is_scheduled how word && is_run mode, OnlyInSchedule)
    ∷ []

abbrev pub named_faults : Mode → Around → Manner → Option (List ℕ) → Option Word → List (List ℕ) → List (Bool × Cause)
named_faults mode around how task None arguments = (true, UnknownWord) ∷ []
named_faults mode around how task (Some word) arguments = word_faults mode around how task word arguments

-- of a line that begins with a task's number
abbrev pub task_faults : Mode → Around → Manner → List ℕ → List (List ℕ) → List (Bool × Cause)
task_faults mode around how task [] = (true, MissingArgument) ∷ []
task_faults mode around how task (word ∷ arguments) = named_faults mode around how (Some task) (word_named speaker.Task word) arguments

-- of a line without its `begin`
abbrev pub bare_faults : Mode → Around → Manner → List (List ℕ) → List (Bool × Cause)
bare_faults mode around how [] = (true, MissingArgument) ∷ []
bare_faults mode around how (first ∷ more) =
    if is_numeral first then task_faults mode around how first more
    else named_faults mode around how None (word_named speaker.Shell first) more

abbrev pub line_faults : Mode → Around → List (List ℕ) → List (Bool × Cause)
line_faults mode around [] = []
line_faults mode around (first ∷ more) =
    if is_comment first then []
    else if takes_line (word_named speaker.Shell first) then bare_faults mode around manner.Begun more
    else bare_faults mode around manner.Whole (first ∷ more)

-- why a line of a script that is read for this is faulty, if it is
abbrev pub fault : Mode → Around → List ℕ → Option Cause
fault mode around line = first_of ((not (is_utf8 line), NotText) ∷ line_faults mode around (words_of line))

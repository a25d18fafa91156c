-- Lines of a script, after `raw`.
use Rattle.std.specs.Prelude.{ℕ, ◌+◌, ◌^◌, Bool, true, false, ◌&&◌, ◌||◌, not, ◌==◌, List, [], ◌∷◌, length, codes, Option, Some, None, Result, Ok, Err, is_some, nat_le, if◌then◌else◌}
use Rattle.std.specs.List.{list_all}
use Rattle.std.specs.Str.{bytes_eq}
use Rattle.machine.specs.Names.{is_name, is_path}
use Rattle.machine.specs.Numbers.{is_numeral, number_below}
use Rattle.scripts.specs.Faults.{is_within}
use Rattle.scripts.specs.Words.{is_blank}
use Rattle.scenario_words.specs.declared.fault.Cause.TheVariants as cause
use Rattle.scenario_words.specs.declared.fault.Fault.{Fault}
use Rattle.scenario_words.specs.declared.raw.Kind.{Kind}
use Rattle.scenario_words.specs.declared.raw.Kind.TheVariants as kind
use Rattle.scenario_words.specs.Faults.{◌>>=◌}
use Rattle.scenario_words.specs.Words.{FilledWord, word_fault, word_at, ends_at}

abbrev pub number_of : List ℕ → Option ℕ
number_of text = number_below (2 ^ 32) text

-- no space, tab or line's end
abbrev pub in_word : ℕ → Bool
in_word b = not (is_blank b || b == 10)

-- one word of a script
abbrev pub is_one_word : List ℕ → Bool
is_one_word text = not (length text == 0) && list_all in_word text

abbrev pub is_actor : List ℕ → Bool
is_actor text = bytes_eq text (codes "shell") || bytes_eq text (codes "control") || bytes_eq text (codes "daemon") || is_some (number_of text)

-- a text is a word of this kind
abbrev pub fits : Kind → List ℕ → Bool
fits kind.Number text = is_some (number_of text)
fits kind.Byte text = is_within 0 255 (number_of text)
fits kind.Path text = is_path text
fits kind.File text = is_name text
fits kind.Word text = is_one_word text
fits kind.Actor text = is_actor text

-- what follows a word that may not be begun
abbrev pub unless_begun : Bool → List Kind → Option (List Kind)
unless_begun begun kinds = if begun then None else Some kinds

-- what follows a word of the shell's
abbrev pub shell_kinds : List ℕ → Bool → Option (List Kind)
shell_kinds word begun =
    if bytes_eq word (codes "group") || bytes_eq word (codes "rmdir") then Some (kind.Path ∷ [])
    else if bytes_eq word (codes "task") || bytes_eq word (codes "attach") then Some (kind.Number ∷ kind.Path ∷ [])
    else if bytes_eq word (codes "set") then Some (kind.Path ∷ kind.Word ∷ kind.Word ∷ [])
    else if bytes_eq word (codes "cat") then Some (kind.Path ∷ kind.Word ∷ [])
    else if bytes_eq word (codes "prot") || bytes_eq word (codes "lowprot") then Some (kind.Path ∷ kind.Path ∷ [])
    else if bytes_eq word (codes "daemon") then Some []
    else if bytes_eq word (codes "step") || bytes_eq word (codes "finish") then unless_begun begun (kind.Actor ∷ [])
    else if bytes_eq word (codes "go") then unless_begun begun []
    else None

-- what follows a word of a task's
abbrev pub task_kinds : List ℕ → Option (List Kind)
task_kinds word =
    if bytes_eq word (codes "write") then Some (kind.Number ∷ kind.Number ∷ kind.Byte ∷ [])
    else if bytes_eq word (codes "read") then Some (kind.Number ∷ kind.Number ∷ [])
    else if bytes_eq word (codes "fwrite") then Some (kind.File ∷ kind.Number ∷ kind.Number ∷ kind.Byte ∷ [])
    else if bytes_eq word (codes "fread") then Some (kind.File ∷ kind.Number ∷ kind.Number ∷ [])
    else if bytes_eq word (codes "fork") || bytes_eq word (codes "free") then Some (kind.Number ∷ [])
    else if bytes_eq word (codes "exit") then Some []
    else None

-- a word is of this kind
abbrev pub kind_form : Kind → FilledWord → Result (Unit {0}) Fault
kind_form k w = if fits k w.text then Ok tt else Err (word_fault w cause.Raw)

abbrev pub kind_at : List FilledWord → ℕ → Kind → Result (Unit {0}) Fault
kind_at ws place k = do
  w ← word_at ws place
  kind_form k w

-- the words from this place on are of these kinds, and no more follow
abbrev pub kinds_form : List FilledWord → ℕ → List Kind → Result (Unit {0}) Fault
kinds_form ws place [] = ends_at ws place
kinds_form ws place (k ∷ ks) = do
  _ ← kind_at ws place k
  kinds_form ws (place + 1) ks

-- what follows a word at this place
abbrev pub arguments_form : List FilledWord → ℕ → FilledWord → Option (List Kind) → Result (Unit {0}) Fault
arguments_form ws place w None = Err (word_fault w cause.Raw)
arguments_form ws place w (Some kinds) = kinds_form ws (place + 1) kinds

-- a task's line, whose number is this word
abbrev pub task_form : List FilledWord → ℕ → FilledWord → Result (Unit {0}) Fault
task_form ws place w =
    if not (is_some (number_of w.text)) then Err (word_fault w cause.Raw) else (do
      act ← word_at ws (place + 1)
      arguments_form ws (place + 1) act (task_kinds act.text))

abbrev pub begins_with_begin : FilledWord → Bool
begins_with_begin w = bytes_eq w.text (codes "begin")

-- a line that begins at this place, and is begun or not
abbrev pub line_form : List FilledWord → ℕ → Bool → Result (Unit {0}) Fault
line_form ws place begun = do
  w ← word_at ws place
  if is_numeral w.text then task_form ws place w else arguments_form ws place w (shell_kinds w.text begun)

abbrev pub form_behind : List FilledWord → FilledWord → Result (Unit {0}) Fault
form_behind ws w = if begins_with_begin w then line_form ws 2 true else line_form ws 1 false

abbrev pub raw_words : List FilledWord → Result (Unit {0}) Fault
raw_words ws = do
  w ← word_at ws 1
  form_behind ws w

-- the words after `raw` are a line of a script that is allowed after its header
unfoldable pub raw_form : List FilledWord → Result (Unit {0}) Fault
raw_form ws = raw_words ws

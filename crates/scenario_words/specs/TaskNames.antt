-- Names of tasks: `NAME`, `NAME[I]`, `NAME[I..J]` and `NAME[*]`. Quotes may be around a part of a name.
use Rattle.std.specs.Prelude.{ℕ, ◌+◌, ◌^◌, Bool, true, false, ◌&&◌, ◌||◌, not, ◌==◌, List, [], ◌∷◌, ◌++◌, length, codes, encode_utf8_all, Option, Some, None, Result, Ok, Err, nat_lt, nat_le, option_and_then, if◌then◌else◌}
use Rattle.std.specs.List.{list_all, position_or_len, before_first, after_first}
use Rattle.std.specs.Option.{option_map}
use Rattle.std.specs.Str.{bytes_eq, chars}
use Rattle.std.specs.String.{string_bytes}
use Rattle.machine.specs.Numbers.{number_below}
use Rattle.scenarios.specs.Sizes.{is_point, has_point}
use Rattle.scenarios.specs.Words.{is_quote}
use Rattle.scenario_words.specs.declared.fault.Cause.TheVariants as cause
use Rattle.scenario_words.specs.declared.fault.Fault.{Fault}
use Rattle.scenario_words.specs.declared.task_names.Index.{Index}
use Rattle.scenario_words.specs.declared.task_names.Index.TheVariants as index
use Rattle.scenario_words.specs.declared.task_names.TaskNames.{TaskNames}
use Rattle.scenario_words.specs.Faults.{◌>>=◌}
use Rattle.scenario_words.specs.Words.{FilledWord, word_fault, is_language}

-- a name, and which of its tasks
pub record NamesText : Type 0 where
  pub name : List ℕ
  pub index : Index

abbrev pub names_text : TaskNames → NamesText
names_text n = record { name = string_bytes n.name; index = n.index }

-- ---- brackets

-- what is before `]`, inside of quotes or outside; after it are only quotes
abbrev pub inside_brackets : Bool → List ℕ → Option (List ℕ)
inside_brackets quoted [] = None
inside_brackets quoted (c ∷ cs) =
    if is_quote c then inside_brackets (not quoted) cs
    else if not quoted && c == 91 then None
    else if not quoted && c == 93 then (if list_all is_quote cs then Some [] else None)
    else option_map (λ more. c ∷ more) (inside_brackets quoted cs)

-- the characters of a name, and those in its brackets, if it has some
abbrev pub bracketed : Bool → List ℕ → Option (List ℕ × Option (List ℕ))
bracketed quoted [] = Some ([], None)
bracketed quoted (c ∷ cs) =
    if is_quote c then bracketed (not quoted) cs
    else if not quoted && c == 91 then option_map (λ inner. ([], Some inner)) (inside_brackets quoted cs)
    else if not quoted && c == 93 then None
    else option_map (λ p. (c ∷ p.0, p.1)) (bracketed quoted cs)

-- the same as bytes
abbrev pub as_bytes : List ℕ × Option (List ℕ) → List ℕ × Option (List ℕ)
as_bytes p = (encode_utf8_all p.0, option_map encode_utf8_all p.1)

-- the name that a word is without its quotes, and what is in its brackets
abbrev pub name_parts : FilledWord → Option (List ℕ × Option (List ℕ))
name_parts w = option_map as_bytes (bracketed false (chars w.source))

-- ---- numbers

-- up to 10 digits
abbrev pub short_number : List ℕ → Option ℕ
short_number digits = if nat_le (length digits) 10 then number_below (2 ^ 64) digits else None

-- the number after a second point
abbrev pub number_behind_point : List ℕ → Option ℕ
number_behind_point [] = None
number_behind_point (b ∷ bs) = if is_point b then short_number bs else None

abbrev pub range_of : Option ℕ → Option ℕ → Option Index
range_of None last = None
range_of (Some first) None = None
range_of (Some first) (Some last) = if nat_le first last then Some (index.Range first last) else None

abbrev pub index_by : Bool → List ℕ → Option Index
index_by true inner = range_of (short_number (before_first is_point inner)) (number_behind_point (after_first is_point inner))
index_by false inner = option_map index.One (short_number inner)

-- `*`, a number, or two with two points between
abbrev pub index_of : List ℕ → Option Index
index_of inner = if bytes_eq inner (codes "*") then Some index.All else index_by (has_point inner) inner

abbrev pub index_in : Option (List ℕ) → Option Index
index_in None = Some index.Plain
index_in (Some inner) = index_of inner

-- ---- a word

-- a name is not empty, and a word of the language is one only in quotes
abbrev pub is_task_name : Bool → List ℕ → Bool
is_task_name quoted name = not (length name == 0 || (not quoted && is_language name))

abbrev pub if_name : FilledWord → List ℕ → Index → Result NamesText Fault
if_name w name i = if is_task_name w.quoted name then Ok (record { name = name; index = i }) else Err (word_fault w cause.Name)

abbrev pub indexed : FilledWord → List ℕ → Option Index → Result NamesText Fault
indexed w name None = Err (word_fault w cause.Name)
indexed w name (Some i) = if_name w name i

abbrev pub names_by : FilledWord → Option (List ℕ × Option (List ℕ)) → Result NamesText Fault
names_by w None = Err (word_fault w cause.Name)
names_by w (Some p) = indexed w p.0 (index_in p.1)

-- the tasks that a word names
unfoldable pub task_names_in : FilledWord → Result NamesText Fault
task_names_in w = names_by w (name_parts w)

abbrev pub only_one : FilledWord → NamesText → Index → Result NamesText Fault
only_one w names index.Plain = Ok names
only_one w names (index.One number) = Ok names
only_one w names (index.Range first last) = Err (word_fault w cause.Name)
only_one w names index.All = Err (word_fault w cause.Name)

-- the one task that a word names
unfoldable pub task_name_in : FilledWord → Result NamesText Fault
task_name_in w = do
  names ← task_names_in w
  only_one w names names.index

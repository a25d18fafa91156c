-- A task's name while its characters are read. No public clause cites it.
use Rattle.std.specs.Prelude.{◌≡◌, ℕ, Bool, true, false, List, [], ◌∷◌, ◌++◌, encode_utf8_all, Option, Some, None, Result, Ok, Err, if◌then◌else◌}
use Rattle.std.specs.List.{list_all}
use Rattle.std.specs.Option.{option_map}
use Rattle.std.specs.String.{string_bytes}
use Rattle.scenarios.specs.Words.{is_quote}
use Rattle.scenario_words.specs.declared.fault.Cause.TheVariants as cause
use Rattle.scenario_words.specs.declared.fault.ExpandError.{ExpandError}
use Rattle.scenario_words.specs.declared.fault.ExpandError.TheVariants as error
use Rattle.scenario_words.specs.declared.task_names.Brackets.{Brackets}
use Rattle.scenario_words.specs.declared.task_names.Place.{Place}
use Rattle.scenario_words.specs.declared.task_names.Place.TheVariants as place
use Rattle.scenario_words.specs.TaskNames.{inside_brackets, bracketed, name_parts}
use Rattle.scenario_words.specs.Words.{FilledWord, word_fault}

-- what has been read: of the name, and of what is in its brackets; whether a quote is open; where the next character is
pub record Reading : Type 0 where
  pub name : List ℕ
  pub inner : List ℕ
  pub quoted : Bool
  pub place : Place

abbrev pub reading : Brackets → Reading
reading b = record { name = string_bytes b.name; inner = string_bytes b.inner; quoted = b.quoted; place = b.place }

-- both parts, with what follows of them
abbrev pub with_parts : List ℕ → List ℕ → List ℕ × Option (List ℕ) → List ℕ × Option (List ℕ)
with_parts name inner p = (name ++ encode_utf8_all p.0, option_map (λ more. inner ++ encode_utf8_all more) p.1)

abbrev pub with_inner : List ℕ → List ℕ → List ℕ → List ℕ × Option (List ℕ)
with_inner name inner more = (name, Some (inner ++ encode_utf8_all more))

abbrev pub read_by : Place → List ℕ → List ℕ → Bool → List ℕ → Option (List ℕ × Option (List ℕ))
read_by place.Before name inner quoted cs = option_map (with_parts name inner) (bracketed quoted cs)
read_by place.Inside name inner quoted cs = option_map (with_inner name inner) (inside_brackets quoted cs)
read_by place.Behind name inner quoted cs = if list_all is_quote cs then Some (name, Some inner) else None

-- the parts of a word of which this has been read, and these characters follow
abbrev pub read_on : Reading → List ℕ → Option (List ℕ × Option (List ℕ))
read_on r cs = read_by r.place r.name r.inner r.quoted cs

-- a character was added, or is not allowed
abbrev pub Adds : Reading → ℕ → Reading → Bool → Type 0
Adds old c new true = (cs : List ℕ) → read_on old (c ∷ cs) ≡ read_on new cs
Adds old c new false = (cs : List ℕ) → read_on old (c ∷ cs) ≡ None

-- a word was read to its end
abbrev pub Reads : FilledWord → Result Brackets ExpandError → Type 0
Reads w (Ok b) = read_on (reading b) [] ≡ name_parts w
Reads w (Err error.Memory) = Unit {0}
Reads w (Err (error.Faulty f)) = (f ≡ word_fault w cause.Name) × (name_parts w ≡ None)

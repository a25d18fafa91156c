-- Sizes that are no whole page. Each is noted once at its place, with the number of pages that it was taken as.
use Rattle.std.specs.Prelude.{ℕ, zero, suc, ◌+◌, ◌-◌, ◌/◌, Bool, true, false, ◌&&◌, ◌||◌, not, ◌==◌, List, [], ◌∷◌, ◌++◌, length, codes, Option, Some, None, Result, Ok, Err, slice_get, if◌then◌else◌}
use Rattle.std.specs.List.{list_any}
use Rattle.std.specs.Str.{bytes_eq}
use Rattle.scenarios.specs.declared.sizes.Size.{Size}
use Rattle.scenarios.specs.declared.sizes.SizeFault.{SizeFault}
use Rattle.scenarios.specs.Parts.{halves}
use Rattle.scenarios.specs.Sizes.{size_of, is_whole}
use Rattle.scenario_words.specs.declared.amount.Purpose.{Purpose}
use Rattle.scenario_words.specs.declared.amount.Purpose.TheVariants as purpose
use Rattle.scenario_words.specs.Amounts.{rounded}
use Rattle.scenario_words.specs.Paths.{is_path}
use Rattle.scenario_words.specs.Words.{FilledWord, is_at, is_language}
use Rattle.scenario_lines.specs.declared.rounded.Rounded.{Rounded}

abbrev pub same_purpose : Purpose → Purpose → Bool
same_purpose purpose.Used purpose.Used = true
same_purpose purpose.Used purpose.Bound = false
same_purpose purpose.Bound purpose.Used = false
same_purpose purpose.Bound purpose.Bound = true

-- a size of this word, for this purpose
abbrev pub is_of : FilledWord → Purpose → Rounded → Bool
is_of w what r = r.line == w.line && r.column == w.column && same_purpose r.purpose what

abbrev pub size_noted : ℕ → List Rounded → FilledWord → List ℕ → Purpose → Result Size SizeFault → List Rounded
size_noted page rs w text what (Err e) = rs
size_noted page rs w text what (Ok size) =
    if is_whole size page || list_any (is_of w what) rs then rs
    else rs ++ record { line = w.line; column = w.column; purpose = what; text = text; pages = rounded what size page } ∷ []

-- a text of a word, if it is a size that is no whole page, and none is noted of the word for this purpose
abbrev pub text_noted : ℕ → List Rounded → FilledWord → List ℕ → Purpose → List Rounded
text_noted page rs w text what = size_noted page rs w text what (size_of text)

abbrev pub word_noted : ℕ → List Rounded → Option FilledWord → Purpose → List Rounded
word_noted page rs None what = rs
word_noted page rs (Some w) what = text_noted page rs w w.text what

-- of a part, its beginning is a bound, and its end is used
abbrev pub halves_noted : ℕ → List Rounded → FilledWord → Option (List ℕ × List ℕ) → List Rounded
halves_noted page rs w None = rs
halves_noted page rs w (Some h) = text_noted page (text_noted page rs w h.0 purpose.Bound) w h.1 purpose.Used

abbrev pub part_noted : ℕ → List Rounded → Option FilledWord → List Rounded
part_noted page rs None = rs
part_noted page rs (Some w) = halves_noted page rs w (halves w.text)

-- ---- lines

-- the value of the key at this place, which is a size for each key but `oom.group`
abbrev pub value_noted : ℕ → List Rounded → List FilledWord → ℕ → List Rounded
value_noted page rs ws place =
    if is_at ws place (codes "oom.group") || is_at ws place (codes "memory.oom.group") then rs
    else word_noted page rs (slice_get ws (place + 1)) purpose.Bound

-- the values of `many` keys, from this place on
abbrev pub values_noted : ℕ → List Rounded → List FilledWord → ℕ → ℕ → List Rounded
values_noted page rs ws place zero = rs
values_noted page rs ws place (suc many) = values_noted page (value_noted page rs ws place) ws (place + 2) many

abbrev pub condition_by : ℕ → List Rounded → List FilledWord → ℕ → Option FilledWord → List Rounded
condition_by page rs ws place None = rs
condition_by page rs ws place (Some w) = if is_path w then word_noted page rs (slice_get ws (place + 2)) purpose.Used else rs

-- the size of the condition that begins at this place
abbrev pub condition_noted : ℕ → List Rounded → List FilledWord → ℕ → List Rounded
condition_noted page rs ws place = condition_by page rs ws place (slice_get ws place)

-- a line of files: what follows `next`, or a part
abbrev pub file_noted : ℕ → List Rounded → List FilledWord → List Rounded
file_noted page rs ws =
    if is_at ws 3 (codes "next") then word_noted page rs (slice_get ws 4) purpose.Used
    else part_noted page rs (slice_get ws 3)

-- `write SIZE` and `free SIZE`
abbrev pub amount_noted : ℕ → List Rounded → List FilledWord → List Rounded
amount_noted page rs ws =
    if is_at ws 1 (codes "write") then word_noted page rs (slice_get ws 2) purpose.Used
    else if is_at ws 1 (codes "free") then word_noted page rs (slice_get ws 2) purpose.Bound
    else rs

-- a line of a task
abbrev pub task_noted : ℕ → List Rounded → List FilledWord → List Rounded
task_noted page rs ws =
    if is_at ws 1 (codes "fread") || is_at ws 1 (codes "fwrite") then file_noted page rs ws
    else if is_at ws 2 (codes "until") then condition_noted page rs ws 3
    else if is_at ws 1 (codes "fork") then rs
    else part_noted page (amount_noted page rs ws) (slice_get ws 2)

abbrev pub both_noted : ℕ → List Rounded → List FilledWord → List Rounded
both_noted page rs ws = word_noted page (word_noted page rs (slice_get ws 1) purpose.Bound) (slice_get ws 2) purpose.Bound

-- another line, by its first word
abbrev pub other_noted : ℕ → List Rounded → List FilledWord → List ℕ → List Rounded
other_noted page rs ws text =
    if bytes_eq text (codes "memory") || bytes_eq text (codes "swap") then word_noted page rs (slice_get ws 1) purpose.Bound
    else if bytes_eq text (codes "watermarks") then both_noted page rs ws
    else if bytes_eq text (codes "file") then word_noted page rs (slice_get ws 2) purpose.Used
    else if bytes_eq text (codes "reclaim") then word_noted page rs (slice_get ws 2) purpose.Bound
    else if bytes_eq text (codes "group") || bytes_eq text (codes "set") then values_noted page rs ws 2 ((length ws - 1) / 2)
    else rs

abbrev pub line_by_first : ℕ → List Rounded → List FilledWord → Option FilledWord → List Rounded
line_by_first page rs ws None = rs
line_by_first page rs ws (Some first) = if first.quoted || not (is_language first.text) then task_noted page rs ws else other_noted page rs ws first.text

-- the sizes that are noted after a line without a fault
abbrev pub sizes_noted : ℕ → List Rounded → List FilledWord → List Rounded
sizes_noted page rs ws = line_by_first page rs ws (slice_get ws 0)

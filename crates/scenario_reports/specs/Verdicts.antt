-- What an `expect` demands: of a number, and of the tasks that were killed.
use Rattle.std.specs.Prelude.{ℕ, ◌+◌, ◌-◌, ◌*◌, ◌^◌, ◌==◌, min, Bool, false, ◌&&◌, not, List, [], ◌∷◌, drop, codes, option_map, Option, Some, None, Result, Ok, Err, slice_get, nat_le, if◌then◌else◌}
use Rattle.std.specs.List.{list_any, list_all, flat_map}
use Rattle.machine.specs.Numbers.{number_below}
use Rattle.machine.specs.State.{State}
use Rattle.book.specs.Looks.{look_at, stat_at}
use Rattle.scenarios.specs.declared.sizes.Size.{Size}
use Rattle.scenarios.specs.Sizes.{in_millionths}
use Rattle.scenario_words.specs.declared.fault.Fault.{Fault}
use Rattle.scenario_words.specs.Amounts.{size_in}
use Rattle.scenario_words.specs.Words.{FilledWord, is_at}
use Rattle.scenario_lines.specs.Notes.{is_operator}
use Rattle.scenario_lines.specs.Scene.{SceneNow, task_there}
use Rattle.scenario_pictures.specs.declared.measures.Moved.{Moved}
use Rattle.scenario_reports.specs.declared.verdicts.Operator.{Operator}
use Rattle.scenario_reports.specs.declared.verdicts.Operator.TheVariants as operator

-- ---- numbers

-- how the words compare from this place on: by `>=`, by `<=`, or by `=`, which may be left out. (Excludes `>=` read as `<=`, and another word read as `>=`.)
abbrev pub operator_of : List FilledWord → ℕ → Operator
operator_of ws place = if is_at ws place (codes ">=") then operator.Least else if is_at ws place (codes "<=") then operator.Most else operator.Equal

-- the place of the amount that is wanted: after the operator, if there is one. (Excludes an operator that is taken for the amount.)
abbrev pub wanted_place : List FilledWord → ℕ → ℕ
wanted_place ws place = if is_operator ws place then place + 1 else place

-- what was found is what is wanted, at least that, or at most that. (Excludes `>=` taken for `<=` or for `>`, and `=` that holds of a larger number.)
abbrev pub holds : Operator → ℕ → ℕ → Bool
holds operator.Equal found wanted = found == wanted
holds operator.Least found wanted = nat_le wanted found
holds operator.Most found wanted = nat_le found wanted

-- if there is no wanted amount, nothing meets it
abbrev pub meets : Operator → ℕ → Option ℕ → Bool
meets how found None = false
meets how found (Some wanted) = holds how found wanted

abbrev pub some_millionths : ℕ → Result Size Fault → Option ℕ
some_millionths page (Ok size) = Some (in_millionths size page)
some_millionths page (Err f) = None

-- the size that a word is, in millionths of a byte, for pages of so many bytes. (Excludes a size that is rounded to bytes or to pages.)
abbrev pub wanted_size : ℕ → Option FilledWord → Option ℕ
wanted_size page None = None
wanted_size page (Some w) = some_millionths page (size_in w)

-- so many pages are as the words demand from this place on; both sides are millionths of a byte. (Excludes a size with a fraction of a byte that is met by the whole bytes below it, and a word that is
-- not a size.)
abbrev pub meets_size : ℕ → List FilledWord → ℕ → ℕ → Bool
meets_size page ws place pages = meets (operator_of ws place) (pages * page * 10 ^ 6) (wanted_size page (slice_get ws (wanted_place ws place)))

abbrev pub wanted_count : Option FilledWord → Option ℕ
wanted_count None = None
wanted_count (Some w) = number_below (2 ^ 64) w.text

-- a count is as the words demand from this place on. (Excludes a word that is not a number.)
abbrev pub meets_count : List FilledWord → ℕ → ℕ → Bool
meets_count ws place count = meets (operator_of ws place) count (wanted_count (slice_get ws (wanted_place ws place)))

-- the bytes of so many pages, at most 2^64 - 1. (Excludes a product that wraps.)
abbrev pub bytes_found : ℕ → ℕ → ℕ
bytes_found page pages = min (pages * page) (2 ^ 64 - 1)

-- ---- groups

-- the pages that the line is about, of the group that has this path in this state: all that are charged to it and below it, the anonymous ones, or those of files. None if no
-- group has the path. (Excludes `current` judged by the pages of files, the pages of another group, and those of an earlier state.)
abbrev pub group_pages : State → List ℕ → List FilledWord → Option ℕ
group_pages s path ws =
    if is_at ws 2 (codes "current") then option_map (λ look. look.usage) (look_at s path)
    else if is_at ws 2 (codes "anon") then option_map (λ stat. stat.anon) (stat_at s path)
    else option_map (λ stat. stat.file) (stat_at s path)

-- a missing group meets nothing. (Excludes one that counts as an empty group.)
abbrev pub meets_size_if_there : ℕ → List FilledWord → ℕ → Option ℕ → Bool
meets_size_if_there page ws place None = false
meets_size_if_there page ws place (Some pages) = meets_size page ws place pages

-- ---- what moved

-- the pages that the line is about: those that were read in, written out, or dropped. (Excludes `in` judged by the pages that were written out.)
abbrev pub moved_pages : Moved → List FilledWord → ℕ
moved_pages moved ws = if is_at ws 1 (codes "in") then moved.read else if is_at ws 1 (codes "out") then moved.written else moved.dropped

-- ---- tasks

abbrev pub task_or_none : Result ℕ Fault → List ℕ
task_or_none (Ok task) = task ∷ []
task_or_none (Err f) = []

-- the tasks that the words name, each by one word. A word that names no task is left out.
abbrev pub named_tasks : SceneNow → List FilledWord → List ℕ
named_tasks s ws = flat_map (λ w. task_or_none (task_there s w)) ws

-- the tasks that `expect killed` names after its second word. `expect nobody killed` names none. (Excludes one where `killed` is read as a task.)
abbrev pub wanted_dead : SceneNow → List FilledWord → List ℕ
wanted_dead s ws = if is_at ws 1 (codes "nobody") then [] else named_tasks s (drop 2 ws)

abbrev pub has_all : List ℕ → List ℕ → Bool
has_all tasks wanted = list_all (λ task. list_any (λ other. other == task) tasks) wanted

-- the tasks are the same, in any order. (Excludes a death that was not expected, and an expected one that did not come.)
abbrev pub are_same : List ℕ → List ℕ → Bool
are_same dead wanted = has_all dead wanted && has_all wanted dead

-- none of the tasks is gone. (Excludes a line that is met if one of several tasks is alive.)
abbrev pub are_alive : (ℕ → Bool) → List ℕ → Bool
are_alive gone tasks = not (list_any gone tasks)

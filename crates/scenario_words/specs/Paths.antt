-- Paths of groups: the names from the root down, which a line writes with a slash before each.
use Rattle.std.specs.Prelude.{ℕ, ◌+◌, Bool, ◌&&◌, not, ◌==◌, List, [], ◌∷◌, length, codes, nat_lt, slice_index, Result, Ok, Err, if◌then◌else◌}
use Rattle.std.specs.List.{list_all, slice_split, starts_with}
use Rattle.std.specs.Str.{bytes_eq}
use Rattle.machine.specs.Names.{is_slash}
use Rattle.scenario_words.specs.declared.fault.Cause.TheVariants as cause
use Rattle.scenario_words.specs.declared.fault.Fault.{Fault}
use Rattle.scenario_words.specs.Words.{FilledWord, word_fault}

-- the names begin with others
abbrev pub begins_with : List (List ℕ) → List (List ℕ) → Bool
begins_with names others = starts_with bytes_eq names others

abbrev pub same_path : List (List ℕ) → List (List ℕ) → Bool
same_path path other = length path == length other && begins_with path other

abbrev pub is_below : List (List ℕ) → List (List ℕ) → Bool
is_below path other = nat_lt (length other) (length path) && begins_with path other

-- another is the parent: it has all names except the last
abbrev pub has_parent : List (List ℕ) → List (List ℕ) → Bool
has_parent path other = length path == (length other + 1) && begins_with path other

-- not empty, `.` or `..`
abbrev pub is_group_name : List ℕ → Bool
is_group_name name = not (length name == 0) && not (bytes_eq name (codes ".")) && not (bytes_eq name (codes ".."))

-- the names after the first slash; the root has none
abbrev pub names_behind : List ℕ → List (List ℕ)
names_behind [] = []
names_behind (b ∷ bs) = slice_split is_slash (b ∷ bs)

-- the path of a word whose text has this after its first slash, if each name is one
abbrev pub path_behind : FilledWord → List ℕ → Result (List (List ℕ)) Fault
path_behind w bs = if list_all is_group_name (names_behind bs) then Ok (names_behind bs) else Err (word_fault w cause.Path)

-- its text begins with a slash
abbrev pub path_by : FilledWord → List ℕ → Result (List (List ℕ)) Fault
path_by w [] = Err (word_fault w cause.Path)
path_by w (b ∷ bs) = if b == 47 then path_behind w bs else Err (word_fault w cause.Path)

-- the path that a word is
unfoldable pub path_in : FilledWord → Result (List (List ℕ)) Fault
path_in w = path_by w w.text

-- the word begins as paths do
abbrev pub is_path : FilledWord → Bool
is_path w = slice_index w.text 0 == 47

-- Names of the script, for those of the scenario.
use Rattle.std.specs.Prelude.{ℕ, ◌+◌, ◌-◌, ◌^◌, Bool, ◌&&◌, ◌||◌, not, List, [], ◌∷◌, ◌++◌, Option, Some, None, length, flat_map, codes, decimal, drop, nat_eq, position, is_some, slice_get, if◌then◌else◌}
use Rattle.std.specs.List.{starts_with}
use Rattle.std.specs.Str.{bytes_eq}
use Rattle.machine.specs.Names.{is_name}
use Rattle.machine.specs.Numbers.{number_below}

-- a script has this name as it is
abbrev pub is_own : List ℕ → Bool
is_own name = is_name name && not (starts_with nat_eq name (codes "_x"))

abbrev pub place_of : List (List ℕ) → List ℕ → Option ℕ
place_of others name = position (λ n. bytes_eq n name) others

-- behind the others, if it is none of them
abbrev pub with_new : List (List ℕ) → List ℕ → Option ℕ → List (List ℕ)
with_new others name None = others ++ name ∷ []
with_new others name (Some place) = others

-- the names that a script can't have, in the order of their first mention, when this one is mentioned
abbrev pub mentioned : List (List ℕ) → List ℕ → List (List ℕ)
mentioned others name = if is_own name then others else with_new others name (place_of others name)

-- one that is not mentioned yet has the number of the next
abbrev pub number_at : ℕ → Option ℕ → ℕ
number_at many None = many + 1
number_at many (Some place) = place + 1

-- the script's name: the name itself, or `_xK`, where it is the K-th of the others
abbrev pub script_name : List (List ℕ) → List ℕ → List ℕ
script_name others name = if is_own name then name else codes "_x" ++ decimal (number_at (length others) (place_of others name))

-- each name behind a slash
abbrev pub names_text : List (List ℕ) → List (List ℕ) → List ℕ
names_text others names = flat_map (λ n. 47 ∷ script_name others n) names

-- the script's path of these names, from the root down: `/` for the root
abbrev pub path_text : List (List ℕ) → List (List ℕ) → List ℕ
path_text others [] = 47 ∷ []
path_text others (n ∷ ns) = names_text others (n ∷ ns)

-- ---- what the script's names stand for

-- the script has the name as it is, or it was mentioned
abbrev pub is_mentioned : List (List ℕ) → List ℕ → Bool
is_mentioned others name = is_own name || is_some (place_of others name)

abbrev pub name_numbered : List (List ℕ) → Option ℕ → Option (List ℕ)
name_numbered others None = None
name_numbered others (Some number) = slice_get others (number - 1)

-- the scenario's name that a name of the script stands for
abbrev pub true_name : List (List ℕ) → List ℕ → Option (List ℕ)
true_name others text = if is_own text then Some text else name_numbered others (number_below (2 ^ 64) (drop 2 text))

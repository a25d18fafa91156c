-- How many actors there are, by a set of their numbers.
use Rattle.std.proofs.Common.{◌≡◌, ℕ, ◌≤◌, nat_eq, List, [], ◌∷◌, ◌++◌, map, length, take, refl, ap, ◌∙◌, HashSet, Vec, Global}
use Rattle.std.specs.List.{list_any}
use Rattle.std.specs.HashSet.{contains, IsUnique, hash_set_len}
use Rattle.std.specs.Set.{distinct_count}
use Rattle.std.proofs.lemmas.Cmp.{nat_eq_equiv}
use Rattle.std.proofs.lemmas.List.{take_all}
use Rattle.std.proofs.lemmas.Map.Made.{hash_set_len-from_list}
use Rattle.machine.specs.declared.command.Actor.{Actor}
use Rattle.machine.specs.declared.command.Command.{Command}
use Rattle.scripts.specs.Work.{number_of, shown_rows, numbers_of}
use Rattle.thread_runs.specs.Actors.{actors_in}

-- the set has just these numbers
abbrev pub HasJust : {S : Type 0} → HashSet ℕ S → List ℕ → Type 0
HasJust numbers ns = (n : ℕ) → contains nat_eq numbers n ≡ list_any (nat_eq n) ns

abbrev pub row_numbers : List (Actor × Vec Command Global) → List ℕ
row_numbers rows = map (λ row. number_of row.0) rows

shown_numbers : (rows : List (Actor × Vec Command Global)) → row_numbers rows ≡ numbers_of (shown_rows rows)
shown_numbers [] = refl
shown_numbers (row ∷ rows) = ap (λ (ns : List ℕ). number_of row.0 ∷ ns) (shown_numbers rows)

-- it has all of them, each once
pub counts_actors : {S : Type 0} (numbers : HashSet ℕ S) (setup : List (Actor × Command)) (work : List (Actor × Vec Command Global)) (i : ℕ) → length work ≤ i → HasJust numbers (map (λ p. number_of p.0) setup ++ row_numbers (take i work)) → IsUnique nat_eq numbers
    → hash_set_len numbers ≡ actors_in setup (shown_rows work)
counts_actors numbers setup work i over has unique =
    hash_set_len-from_list nat_eq_equiv _ numbers (has, unique)
    ∙ ap (λ (ns : List ℕ). distinct_count nat_eq (map (λ (p : Actor × Command). number_of p.0) setup ++ ns)) (ap row_numbers (take_all i work over) ∙ shown_numbers work)

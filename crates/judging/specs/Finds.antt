-- What a pass keeps of the paths of a command.
use Rattle.std.specs.Prelude.{ℕ, List, [], ◌∷◌}
use Rattle.machine.specs.Tree.{Node, find_group}
use Rattle.book.specs.Passes.{PassOf, find_of, keeping}

-- the pass, after these paths were looked up with it one after the other
abbrev pub looking : List Node → List (List ℕ) → PassOf → PassOf
looking tree [] pass = pass
looking tree (path ∷ paths) pass = looking tree paths (keeping pass (find_of path (find_group tree path)))

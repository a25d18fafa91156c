-- The groups that steps make, by their paths.
use Rattle.std.specs.Prelude.{ℕ, not, List, [], ◌∷◌, filter, Option, Some, None}
use Rattle.std.specs.List.{filter_map}
use Rattle.std.specs.Str.{bytes_eq}
use Rattle.machine.specs.declared.command.Command.{Command}
use Rattle.machine.specs.declared.command.Command.TheVariants as command
use Rattle.machine.specs.declared.command.Step.{Step}
use Rattle.machine.specs.declared.command.Step.TheVariants.{Begin}

-- the path of the group that a command makes, if it makes one
abbrev pub path_made : Command → Option (List ℕ)
path_made (command.Group path) = Some path
path_made others = None

-- a command belongs to the step that begins it
abbrev pub path_begun : Step → Option (List ℕ)
path_begun (Begin who what) = path_made what
path_begun others = None

-- each text once, where it comes first
abbrev pub firsts : List (List ℕ) → List (List ℕ)
firsts [] = []
firsts (text ∷ texts) = text ∷ filter (λ other. not (bytes_eq other text)) (firsts texts)

-- the paths of all groups that steps make, each once, in the order in which they are first made. (Excludes a group that is left out, one that is
-- there twice, and one that no step makes.)
abbrev pub paths_in : List Step → List (List ℕ)
paths_in steps = firsts (filter_map path_begun steps)

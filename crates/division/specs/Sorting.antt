-- The parts of a script by what its lines ask for. No public clause cites it.
use Rattle.std.specs.Prelude.{◌≡◌, ℕ, fold, Bool, true, false, ◌==◌, nat_le, List, [], ◌∷◌, ◌++◌, Option, Some, None, map, if◌then◌else◌}
use Rattle.std.specs.List.{filter_map, flat_map, list_any, before_first, after_first}
use Rattle.machine.specs.declared.command.Actor.{Actor}
use Rattle.machine.specs.declared.command.Step.{Step}
use Rattle.machine.specs.declared.command.Step.TheVariants.{Begin, Advance, Finish}
use Rattle.scripts.specs.Work.{number_of, with_actor}
use Rattle.division.specs.declared.said.Said.{Said}
use Rattle.division.specs.declared.said.Said.TheVariants as said
use Rattle.division.specs.declared.script.Sorted.{Sorted}
use Rattle.division.specs.Division.{worker_for, shown_row}

abbrev pub goes : Said → Bool
goes said.Go = true
goes said.Nothing = false
goes (said.Does who what) = false
goes (said.Step s) = false

abbrev pub steps_asked : Said → List Step
steps_asked said.Go = []
steps_asked said.Nothing = []
steps_asked (said.Does who what) = Begin who what ∷ Finish who ∷ []
steps_asked (said.Step s) = s ∷ []

abbrev pub is_apart : Said → Bool
is_apart (said.Step s) = true
is_apart said.Go = false
is_apart said.Nothing = false
is_apart (said.Does who what) = false

abbrev pub begins : Step → Option Actor
begins (Begin who what) = Some who
begins (Advance who) = None
begins (Finish who) = None

abbrev pub left : Said → Option Actor
left (said.Step s) = begins s
left said.Go = None
left said.Nothing = None
left (said.Does who what) = None

abbrev pub worker : Said → Option Actor
worker (said.Does who what) = Some (worker_for who)
worker (said.Step s) = None
worker said.Go = None
worker said.Nothing = None

-- the actor's number is this one or above it
abbrev pub reaches : ℕ → Actor → Bool
reaches number actor = nat_le number (number_of actor)

abbrev pub with_found : List Actor → Option Actor → List Actor
with_found actors None = actors
with_found actors (Some who) = with_actor actors who

-- what of the line the actor begins in the work
abbrev pub begun : Actor → Said → Option Step
begun who (said.Does actor what) = if number_of (worker_for actor) == number_of who then Some (Begin who what) else None
begun who (said.Step s) = None
begun who said.Go = None
begun who said.Nothing = None

abbrev pub option_list : {A : Type 0} → Option A → List A
option_list None = []
option_list (Some x) = x ∷ []

abbrev pub with_line : Actor × List Step → Said → Actor × List Step
with_line row line = (row.0, row.1 ++ option_list (begun row.0 line))

-- the actors of the work
abbrev pub actors_asked : List Said → List Said → List Actor
actors_asked setup work = fold with_actor (fold with_actor [] (filter_map left setup)) (filter_map worker work)

pub record AreSorted (lines : List Said) (parts : Sorted) : Type 0 where
  pub setup : parts.setup.items ≡ flat_map steps_asked (before_first goes lines)
  pub whole : list_any is_apart (before_first goes (after_first goes lines)) ≡ false
  pub rows :
      map shown_row parts.rows.items ≡ map (λ (who : Actor). (who, filter_map (begun who) (before_first goes (after_first goes lines)))) (actors_asked (before_first goes lines) (before_first goes (after_first goes lines)))
  pub looks : parts.looks.items ≡ flat_map steps_asked (after_first goes (after_first goes lines))

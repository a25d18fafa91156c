-- What was gathered after another run.
use Rattle.std.proofs.Common.{◌≡◌, ℕ, suc, ◌+◌, ◌<◌, List, [], ◌∷◌, ◌++◌, map, length, refl, ap, sym, ◌∙◌, subst, arith, length-append}
use Rattle.std.proofs.lemmas.List.{length-map}
use Rattle.orders.specs.Paths.{paths}
use Rattle.orders.specs.declared.point.Point.{Point}
use Rattle.orders.specs.Course.{Course, path_of, left}
use Rattle.orders.specs.Runs.{Run, path_of_run, turns, turns_at, AreAllRuns, IsWalk, IsWithin}
use Rattle.orders.proofs.Walk.{left_from-some}
use Rattle.walks.specs.Walks.{MadeAll, MadeSome, MadeSoFar}

one_more : (runs : List Run) (run : Run) (count : ℕ) → length runs ≡ count → length (runs ++ run ∷ []) ≡ count + 1
one_more runs run count e = length-append runs (run ∷ []) ∙ ap (λ (n : ℕ). n + 1) e

pub so_far-open : {M : Type 0} (gathered : M → List Run → Type 0) (machine : M) (depth : ℕ) (course : Course) → IsWalk depth [] course → gathered machine [] → MadeSoFar gathered machine depth 0 course
so_far-open gathered machine depth course walk h = record { runs = []; walk = walk; count_is = refl; gathers = h }

pub so_far-more : {M : Type 0} (gathered : M → List Run → Type 0) (old new : M) (depth count : ℕ) (before after next : Course) → MadeSoFar gathered old depth count before → ((runs : List Run) → IsWalk depth runs before → IsWalk depth runs after) → ((runs : List Run) → gathered old runs → gathered new (runs ++ turns after ∷ [])) → ((runs : List Run) → IsWalk depth runs after → IsWalk depth (runs ++ turns after ∷ []) next) → MadeSoFar gathered new depth (count + 1) next
so_far-more gathered old new depth count before after next m on gathers step =
    record { runs = m.runs ++ turns after ∷ []; walk = step m.runs (on m.runs m.walk); count_is = one_more m.runs (turns after) count m.count_is; gathers = gathers m.runs m.gathers }

pub all-made : {M : Type 0} (gathered : M → List Run → Type 0) (old new : M) (depth count : ℕ) (before after : Course) → MadeSoFar gathered old depth count before → ((runs : List Run) → IsWalk depth runs before → IsWalk depth runs after) → ((runs : List Run) → gathered old runs → gathered new (runs ++ turns after ∷ [])) → ((runs : List Run) → IsWalk depth runs after → AreAllRuns depth (runs ++ turns after ∷ [])) → MadeAll gathered new depth (count + 1)
all-made gathered old new depth count before after m on gathers done =
    record { runs = m.runs ++ turns after ∷ []; all = done m.runs (on m.runs m.walk); count_is = one_more m.runs (turns after) count m.count_is; gathers = gathers m.runs m.gathers }

-- as many turns as actors that took them
pub turns-many : (points : List Point) → length (turns_at points) ≡ length (path_of points)
turns-many [] = refl
turns-many (point ∷ points) = ap (λ (n : ℕ). suc n) (turns-many points)

pub some-made : {M : Type 0} (gathered : M → List Run → Type 0) (machine : M) (depth count : ℕ) (course : Course) → turns course ≡ [] → MadeSoFar gathered machine depth count course → MadeSome gathered machine depth count
some-made gathered machine depth count course begins m =
    record {
      runs = m.runs;
      runs_are = m.walk.came_by.runs_are;
      count_is = m.count_is;
      gathers = m.gathers;
      more = λ tree each.
          let P : Run → Type 0 = λ (r : Run). IsWithin tree r in
          let e : map path_of_run m.runs ++ left depth tree course ≡ paths depth tree = m.walk.whole tree each (subst P (sym begins) tt) in
          let n : length (map path_of_run m.runs) + length (left depth tree course) ≡ length (paths depth tree) =
          sym (length-append (map path_of_run m.runs) (left depth tree course)) ∙ ap (λ (l : List (List ℕ)). length l) e in
          let k : length (map path_of_run m.runs) ≡ count = length-map m.runs path_of_run ∙ m.count_is in
          let some : 0 < length (left depth tree course) = left_from-some depth tree [] course.points in
          omega arith;
    }

-- How far a walk is.
use Rattle.std.specs.Prelude.{◌≡◌, ℕ, zero, suc, ◌+◌, ◌<◌, List, [], ◌∷◌, ◌++◌, length, take, drop, slice_index}
use Rattle.orders.specs.declared.point.Point.{Point}
use Rattle.orders.specs.Paths.{Tree, paths_from, paths_by}

-- the points of the current path, from the root on, and how many of them the current run has passed
pub record Course : Type 0 where
  pub points : List Point
  pub depth : ℕ

-- the actor that takes the turn at the point
abbrev pub chosen : Point → ℕ
chosen point = slice_index point.ready.items point.at

-- the ready actors whose turn there has not been tried yet, in order
abbrev pub later : Point → List ℕ
later point = drop (point.at + 1) point.ready.items

-- the actors that took the turns at these points, in sequence
abbrev pub path_of : List Point → List ℕ
path_of [] = []
path_of (point ∷ points) = chosen point ∷ path_of points

-- the actors that took the turns of the current run so far
abbrev pub taken : Course → List ℕ
taken course = path_of (take course.depth course.points)

-- the paths that are left after this beginning, including the current one: those that go on as it does, and then those of a later actor at its last point,
-- at the last but one, and so on
abbrev pub left_from : ℕ → Tree → List ℕ → List Point → List (List ℕ)
left_from depth tree path [] = paths_from depth tree path
left_from zero tree path (point ∷ points) = path ∷ []
left_from (suc depth) tree path (point ∷ points) =
    left_from depth tree (path ++ chosen point ∷ []) points ++ paths_by depth tree path (later point)

-- the paths of the tree that are left, including the current one
abbrev pub left : ℕ → Tree → Course → List (List ℕ)
left depth tree course = left_from depth tree [] course.points

-- after this path, the actors that are ready at each of the points are those of the tree
abbrev pub FollowsFrom : Tree → List ℕ → List Point → Type 0
FollowsFrom tree path [] = Unit {0}
FollowsFrom tree path (point ∷ points) =
    (point.ready.items ≡ tree path) × FollowsFrom tree (path ++ chosen point ∷ []) points

abbrev pub Follows : Tree → Course → Type 0
Follows tree course = FollowsFrom tree [] course.points

-- the run has passed all points of its path
abbrev pub IsThrough : Course → Type 0
IsThrough course = course.depth ≡ length course.points

-- ---- one point

-- the point that the run has reached is the first of these
abbrev pub HeadIs : (Point → Type 0) → List Point → Type 0
HeadIs is [] = ⊥
HeadIs is (point ∷ points) = is point

-- at the point that the run has reached these actors are ready, and this one takes the turn
abbrev pub IsKnown : Course → List ℕ → ℕ → Type 0
IsKnown course ready who =
    HeadIs (λ (point : Point). (point.ready.items ≡ ready) × (who ≡ chosen point)) (drop course.depth course.points)

-- other actors are ready there
abbrev pub IsOther : Course → List ℕ → Type 0
IsOther course ready = HeadIs (λ (point : Point). point.ready.items ≡ ready → ⊥) (drop course.depth course.points)

-- the run reached a new point: these actors are ready there, and the first of them takes the turn
pub record Adds (old : Course) (ready : List ℕ) (who : ℕ) (new : Course) : Type 0 where
  pub through : IsThrough old
  pub point : Point
  pub within : point.at < length point.ready.items
  pub ready_is : point.ready.items ≡ ready
  pub first : point.at ≡ 0
  pub who_is : who ≡ chosen point
  pub points : new.points ≡ old.points ++ point ∷ []
  pub depth : new.depth ≡ length old.points + 1

-- ---- on to the next path

-- no later actor is ready at any of the points
abbrev pub AreLast : List Point → Type 0
AreLast [] = Unit {0}
AreLast (point ∷ points) = (later point ≡ []) × AreLast points

-- the same actors are ready, and the next of them takes the turn
abbrev pub Bumps : Point → Point → Type 0
Bumps old new = (new.ready.items ≡ old.ready.items) × (new.at ≡ old.at + 1)

-- at the last point with a later actor the next one takes the turn, and the points after it are gone
pub record Advances (old new : List Point) : Type 0 where
  pub front : List Point
  pub before : Point
  pub after : Point
  pub tail : List Point
  pub old_is : old ≡ front ++ before ∷ tail
  pub new_is : new ≡ front ++ after ∷ []
  pub bumps : Bumps before after
  pub within : after.at < length after.ready.items
  pub lasts : AreLast tail

-- a later actor is ready at the point
abbrev pub HasLater : Point → Type 0
HasLater point = point.at + 1 < length point.ready.items

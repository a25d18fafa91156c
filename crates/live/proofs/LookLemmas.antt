-- Looks at several paths.
use Rattle.std.proofs.Common.{◌≡◌, ℕ, List, [], ◌∷◌, map, refl, ap, Bor}

pub map-now : {A : Type 0} (f : List ℕ → A) (paths : List (Bor (List ℕ))) → map (λ (p : Bor (List ℕ)). f p.now) paths ≡ map f (map (λ (p : Bor (List ℕ)). p.now) paths)
map-now f [] = refl
map-now {A} f (path ∷ paths) = ap (λ (l : List A). f path.now ∷ l) (map-now f paths)

-- How rows grow.
use Rattle.std.proofs.Common.{◌≡◌, ℕ, ◌+◌, List, [], ◌∷◌, ◌++◌, map, replicate, refl, sym, ap, ◌∙◌, append_assoc, append-nil}
use Rattle.std.proofs.lemmas.List.{replicate-append-replicate}
use denote.Ref.{Bor}
use Rattle.charts.specs.declared.watching.Shown.{Shown}
use Rattle.charts.specs.declared.watching.Row.{Row}
use Rattle.charts.specs.Watched.{Seen, seen_of, expanded}

pub expanded-append : (xs ys : List Row) → expanded (xs ++ ys) ≡ expanded xs ++ expanded ys
expanded-append [] ys = refl
expanded-append (x ∷ xs) ys = ap (λ (rows : List Seen). replicate x.steps (seen_of x) ++ rows) (expanded-append xs ys) ∙ sym (append_assoc (replicate x.steps (seen_of x)) (expanded xs) (expanded ys))

-- one row behind the others
pub expanded-last : (xs : List Row) (x : Row) → expanded (xs ++ x ∷ []) ≡ expanded xs ++ replicate x.steps (seen_of x)
expanded-last xs x = expanded-append xs (x ∷ []) ∙ ap (λ (rows : List Seen). expanded xs ++ rows) (append-nil (replicate x.steps (seen_of x)))

-- a new row stands for one step
pub expanded-new : (xs : List Row) (x : Row) → x.steps ≡ 1 → expanded (xs ++ x ∷ []) ≡ expanded xs ++ seen_of x ∷ []
expanded-new xs x one = expanded-last xs x ∙ ap (λ (n : ℕ). expanded xs ++ replicate n (seen_of x)) one

-- the last row stands for one step more
pub expanded-more : (xs : List Row) (last next : Row) → next.steps ≡ last.steps + 1 → seen_of last ≡ seen_of next → expanded (xs ++ next ∷ []) ≡ expanded (xs ++ last ∷ []) ++ seen_of next ∷ []
expanded-more xs last next more same =
    expanded-last xs next
    ∙ ap (λ (n : ℕ). expanded xs ++ replicate n (seen_of next)) more
    ∙ ap (λ (rows : List Seen). expanded xs ++ rows) (sym (replicate-append-replicate last.steps 1 (seen_of next)))
    ∙ sym (append_assoc (expanded xs) (replicate last.steps (seen_of next)) (seen_of next ∷ []))
    ∙ ap (λ (seen : Seen). (expanded xs ++ replicate last.steps seen) ++ seen_of next ∷ []) (sym same)
    ∙ ap (λ (rows : List Seen). rows ++ seen_of next ∷ []) (sym (expanded-last xs last))

-- what is made of the texts that are lent is what is made of the texts
pub map-now : (f : List ℕ → Shown) (ps : List (Bor (List ℕ))) → map (λ (p : Bor (List ℕ)). f p.now) ps ≡ map f (map (λ (p : Bor (List ℕ)). p.now) ps)
map-now f [] = refl
map-now f (p ∷ ps) = ap (λ (rows : List Shown). f p.now ∷ rows) (map-now f ps)

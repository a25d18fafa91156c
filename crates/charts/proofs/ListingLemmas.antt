-- What is left to list.
use Rattle.std.proofs.Common.{◌≡◌, ℕ, ◌+◌, ◌-◌, ◌≤◌, ◌<◌, Bool, true, false, if◌then◌else◌, List, [], ◌∷◌, ◌++◌, map, length, drop, get_or, replicate, refl, sym, ap, ◌∙◌, append-nil, append_assoc, arith, Result, Ok, Err, OnOk}
use Rattle.std.proofs.lemmas.List.{drop_all, drop_more, replicate-append-replicate}
use denote.Ref.{Bor}
use Rattle.charts.specs.declared.watching.Machine.{Machine}
use Rattle.charts.specs.declared.watching.Shown.{Shown}
use Rattle.charts.specs.Watched.{Seen}
use Rattle.charts.specs.Listed.{groups_text, is_last, phase_of, steps_text}

groups-none : (size : ℕ) (number : ℕ) (phase : List ℕ) (machine : Machine) (paths : List (List ℕ)) → groups_text size number phase machine paths [] ≡ []
groups-none size number phase machine [] = refl
groups-none size number phase machine (path ∷ paths) = refl

-- what holds where it went well
pub on_ok : {T E P Q : Type 0} (r : Result T E) → OnOk r P → (P → Q) → OnOk r Q
on_ok (Ok x) h f = f h
on_ok (Err e) h f = tt

-- nothing is left where the paths are through
pub no_path-left : (size : ℕ) (number at : ℕ) (phase : List ℕ) (machine : Machine) (ps : List (Bor (List ℕ))) (shown : List Shown) → length ps ≤ at → groups_text size number phase machine (map (λ (p : Bor (List ℕ)). p.now) (drop at ps)) shown ≡ []
no_path-left size number at phase machine ps shown e = ap (λ (qs : List (Bor (List ℕ))). groups_text size number phase machine (map (λ (p : Bor (List ℕ)). p.now) qs) shown) (drop_all at ps e)

-- nor where what is shown is
pub none_shown-left : (size : ℕ) (number at : ℕ) (phase : List ℕ) (machine : Machine) (paths : List (List ℕ)) (shown : List Shown) → length shown ≤ at → groups_text size number phase machine paths (drop at shown) ≡ []
none_shown-left size number at phase machine paths shown e = ap (λ (left : List Shown). groups_text size number phase machine paths left) (drop_all at shown e) ∙ groups-none size number phase machine paths

-- and all was listed by then
pub all_listed : (old new all left : List ℕ) → old ++ all ≡ new ++ left → left ≡ [] → new ≡ old ++ all
all_listed old new all left same none = sym (append-nil new) ∙ ap (λ (xs : List ℕ). new ++ xs) (sym none) ∙ sym same

-- the lines behind a step
abbrev pub step_text : ℕ → ℕ → List (List ℕ) → List (List ℕ) → Seen → List ℕ
step_text size number phases paths row = groups_text size number (phase_of phases number) row.machine paths row.groups

-- one step more of a row
pub step-listed : (size : ℕ) (numbers : List ℕ) (next : ℕ) (phases paths : List (List ℕ)) (row : Seen) (steps left : ℕ) (rest : List Seen) → next < length numbers → left < steps
    → steps_text size (drop next numbers) phases paths (replicate (steps - left) row ++ rest)
    ≡ (if is_last (get_or numbers next 0) (drop (next + 1) numbers) then step_text size (get_or numbers next 0) phases paths row else []) ++ steps_text size (drop (next + 1) numbers) phases paths (replicate (steps - (left + 1)) row ++ rest)
step-listed size numbers next phases paths row steps left rest inside among =
    let k : ℕ = steps - (left + 1) in
    let more : steps - left ≡ 1 + k = omega (arith, among) in
    ap (λ (n : ℕ). steps_text size (drop next numbers) phases paths (replicate n row ++ rest)) more
    ∙ ap (λ (rows : List Seen). steps_text size (drop next numbers) phases paths (rows ++ rest)) (sym (replicate-append-replicate 1 k row))
    ∙ ap (λ (ns : List ℕ). steps_text size ns phases paths (row ∷ (replicate k row ++ rest))) (drop_more numbers next 0 inside)

-- its lines were added, where it is the last of its line
pub then-listed : (b : Bool) (old new added rest : List ℕ) → b ≡ true → new ≡ old ++ added → old ++ ((if b then added else []) ++ rest) ≡ new ++ rest
then-listed b old new added rest e is = ap (λ (b : Bool). old ++ ((if b then added else []) ++ rest)) e ∙ sym (append_assoc old added rest) ∙ ap (λ (xs : List ℕ). xs ++ rest) (sym is)

pub else-listed : (b : Bool) (old new added rest : List ℕ) → b ≡ false → new ≡ old → old ++ ((if b then added else []) ++ rest) ≡ new ++ rest
else-listed b old new added rest e is = ap (λ (b : Bool). old ++ ((if b then added else []) ++ rest)) e ∙ ap (λ (xs : List ℕ). xs ++ rest) (sym is)

-- no step more
pub row-over : (size : ℕ) (numbers : List ℕ) (phases paths : List (List ℕ)) (row : Seen) (steps left : ℕ) (rest : List Seen) → steps ≤ left → steps_text size numbers phases paths (replicate (steps - left) row ++ rest) ≡ steps_text size numbers phases paths rest
row-over size numbers phases paths row steps left rest over = let none : steps - left ≡ 0 = omega (arith, over) in ap (λ (n : ℕ). steps_text size numbers phases paths (replicate n row ++ rest)) none

-- no line is left
pub lines-over : (size : ℕ) (numbers : List ℕ) (next : ℕ) (phases paths : List (List ℕ)) (rows : List Seen) → length numbers ≤ next → steps_text size (drop next numbers) phases paths rows ≡ []
lines-over size numbers next phases paths rows over = ap (λ (ns : List ℕ). steps_text size ns phases paths rows) (drop_all next numbers over)

-- no row is left
pub rows-over : (size : ℕ) (numbers : List ℕ) (phases paths : List (List ℕ)) → steps_text size numbers phases paths [] ≡ []
rows-over size [] phases paths = refl
rows-over size (number ∷ numbers) phases paths = refl

-- First arrivals, entry by entry.
use Rattle.std.proofs.Common.{◌≡◌, ℕ, ◌+◌, ◌<◌, List, [], ◌∷◌, ◌++◌, length, reverse, take, drop, get_or, sym, ap, ◌∙◌, subst, Option, Some, None}
use Rattle.std.proofs.lemmas.List.{take-append-drop, reverse-append}
use Rattle.machine.specs.declared.entry.Entry.{Entry}
use Rattle.machine.specs.FirstBytes.{or_else, brought_by, first_arrival}
use Rattle.machine.specs.Audit.{before}
use Rattle.trace.proofs.WalkLemmas.{before-more}

-- where no page arrived before, an entry's is the first
pub first_arrival-more : (file q : ℕ) (xs : List Entry) (k : ℕ) (e : Entry) (brought : Option (List ℕ)) → k < length xs → e ≡ get_or xs k e → first_arrival file q (before xs k) ≡ None
    → brought ≡ brought_by file q e.event (before xs k) → first_arrival file q (before xs (k + 1)) ≡ brought
first_arrival-more file q xs k e brought lt is none by =
    ap (first_arrival file q) (before-more xs k e lt is) ∙ (ap (λ first. or_else first (brought_by file q e.event (before xs k))) none ∙ sym by)

-- the first stays the first
pub first_arrival-later : (file q : ℕ) (later earlier : List Entry) (bytes : List ℕ) → first_arrival file q earlier ≡ Some bytes → first_arrival file q (later ++ earlier) ≡ Some bytes
first_arrival-later file q [] earlier bytes h = h
first_arrival-later file q (entry ∷ later) earlier bytes h =
    ap (λ first. or_else first (brought_by file q entry.event (later ++ earlier))) (first_arrival-later file q later earlier bytes h)

-- in the whole trace the later entries stand before
pub reverse-before : (xs : List Entry) (k : ℕ) → reverse (drop k xs) ++ before xs k ≡ reverse xs
reverse-before xs k = sym (reverse-append (take k xs) (drop k xs)) ∙ ap reverse (take-append-drop k xs)

pub first_arrival-found : (file q : ℕ) (xs : List Entry) (k : ℕ) (bytes : List ℕ) → first_arrival file q (before xs k) ≡ Some bytes → first_arrival file q (reverse xs) ≡ Some bytes
first_arrival-found file q xs k bytes h =
    subst (λ (history : List Entry). first_arrival file q history ≡ Some bytes) (reverse-before xs k) (first_arrival-later file q (reverse (drop k xs)) (before xs k) bytes h)

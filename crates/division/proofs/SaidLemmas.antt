-- What a line asks for, by its steps.
use Rattle.std.proofs.Common.{◌≡◌, ℕ, zero, suc, ◌+◌, ◌≤◌, Bool, true, false, List, [], ◌∷◌, ◌++◌, length, drop, map, refl, sym, ap, ◌∙◌, subst, append_assoc, append-nil, arith}
use Rattle.std.specs.Str.Lines.{lines}
use Rattle.std.specs.Prelude.{◌==◌, if◌then◌else◌, replicate}
use Rattle.std.proofs.lemmas.Bool.Decides.{nat_tests}
use Rattle.machine.specs.declared.command.Step.{Step}
use Rattle.scripts.specs.declared.meaning.Item.{Item}
use Rattle.scripts.specs.declared.meaning.Item.TheVariants as item
use Rattle.scripts.specs.Script.{steps_of, steps_of_item, lines_from}
use Rattle.scripts.specs.Work.{is_go}
use Rattle.division.specs.declared.said.Said.{Said}
use Rattle.schedules.specs.Schedule.{ScheduleOf}
use Rattle.division.specs.declared.said.Said.TheVariants as said
use Rattle.division.specs.Said.{is_go_line, width, said_by, said_of_item, IsRead}

-- what was found of the lines so far
pub record SoFar (is : List Item) (said : List Said) (steps : List Step) (numbers : List ℕ) (number : ℕ) (ls : List (List ℕ)) : Type 0 where
  pub rest : List Item
  pub found : said ++ map said_of_item rest ≡ map said_of_item is
  pub steps_are : steps ≡ steps_of rest
  pub numbers_are : numbers ≡ lines_from number rest
  pub goes : map is_go_line ls ≡ map is_go rest

-- no number is below the first
abbrev FromUp : ℕ → List ℕ → Type 0
FromUp n [] = Unit {0}
FromUp n (k ∷ ks) = (n ≤ k) × FromUp n ks

up-lower : (m n : ℕ) (ks : List ℕ) → m ≤ n → FromUp n ks → FromUp m ks
up-lower m n [] le h = tt
up-lower m n (k ∷ ks) le h = (let a = h.0 in omega arith, up-lower m n ks le h.1)

up-copies : (n count : ℕ) (ks : List ℕ) → FromUp n ks → FromUp n (replicate count n ++ ks)
up-copies n zero ks h = h
up-copies n (suc count) ks h = (omega arith, up-copies n count ks h)

up-lines : (n : ℕ) (is : List Item) → FromUp n (lines_from n is)
up-lines n [] = tt
up-lines n (i ∷ is) = up-copies n (length (steps_of_item i)) (lines_from (n + 1) is) (up-lower n (n + 1) (lines_from (n + 1) is) (omega arith) (up-lines (n + 1) is))

other-if : (k n : ℕ) (x y : ℕ) → n + 1 ≤ k → (if k == n then x else y) ≡ y
other-if k n x y le =
    let e : (k == n) ≡ false = grind (arith, nat_tests) in rw e refl

same-if : (n : ℕ) (x y : ℕ) → (if n == n then x else y) ≡ x
same-if n x y =
    let e : (n == n) ≡ true = grind (arith, nat_tests) in rw e refl

none-of : (n : ℕ) (ks : List ℕ) → FromUp (n + 1) ks → width ks n ≡ 0
none-of n [] h = refl
none-of n (k ∷ []) h = other-if k n 1 0 h.0
none-of n (k ∷ j ∷ ks) h = other-if k n (if j == n then 2 else 1) 0 h.0

one-of : (n : ℕ) (ks : List ℕ) → FromUp (n + 1) ks → width (n ∷ ks) n ≡ 1
one-of n [] h = same-if n 1 0
one-of n (k ∷ ks) h = same-if n (if k == n then 2 else 1) 0 ∙ other-if k n 2 1 h.0

two-of : (n : ℕ) (ks : List ℕ) → width (n ∷ n ∷ ks) n ≡ 2
two-of n ks = same-if n (if n == n then 2 else 1) 0 ∙ same-if n 2 1

-- this is what the line asks for, and these are the steps and the numbers behind it, if it has so many steps
abbrev pub NextAt : Item → List Item → ℕ → ℕ → Type 0
NextAt i is number w =
    (said_by (is_go i) w (steps_of (i ∷ is)) ≡ said_of_item i) × (drop w (steps_of (i ∷ is)) ≡ steps_of is) × (drop w (lines_from number (i ∷ is)) ≡ lines_from (number + 1) is)

abbrev widths : Item → List Item → ℕ → ℕ
widths i is number = width (lines_from number (i ∷ is)) number

later : (number : ℕ) (is : List Item) → FromUp (number + 1) (lines_from (number + 1) is)
later number is = up-lines (number + 1) is

none : (number : ℕ) (is : List Item) → width (lines_from (number + 1) is) number ≡ 0
none number is = none-of number (lines_from (number + 1) is) (later number is)

idle : (steps : List Step) → said_by false 0 steps ≡ said.Nothing
idle [] = refl
idle (s ∷ steps) = refl

pub next : (i : Item) (is : List Item) (number : ℕ) → NextAt i is number (widths i is number)
next item.Nothing is number = let P : ℕ → Type 0 = λ w. NextAt item.Nothing is number w in subst P (sym (none number is)) (idle (steps_of is), refl, refl)
next (item.Frames n) is number = let P : ℕ → Type 0 = λ w. NextAt (item.Frames n) is number w in subst P (sym (none number is)) (idle (steps_of is), refl, refl)
next (item.Swap n) is number = let P : ℕ → Type 0 = λ w. NextAt (item.Swap n) is number w in subst P (sym (none number is)) (idle (steps_of is), refl, refl)
next (item.File f) is number = let P : ℕ → Type 0 = λ w. NextAt (item.File f) is number w in subst P (sym (none number is)) (idle (steps_of is), refl, refl)
next (item.Marks m) is number = let P : ℕ → Type 0 = λ w. NextAt (item.Marks m) is number w in subst P (sym (none number is)) (idle (steps_of is), refl, refl)
next (item.Trace n) is number = let P : ℕ → Type 0 = λ w. NextAt (item.Trace n) is number w in subst P (sym (none number is)) (idle (steps_of is), refl, refl)
next (item.PageSize p) is number = let P : ℕ → Type 0 = λ w. NextAt (item.PageSize p) is number w in subst P (sym (none number is)) (idle (steps_of is), refl, refl)
next (item.Fails what n) is number = let P : ℕ → Type 0 = λ w. NextAt (item.Fails what n) is number w in subst P (sym (none number is)) (idle (steps_of is), refl, refl)
next item.Recursive is number = let P : ℕ → Type 0 = λ w. NextAt item.Recursive is number w in subst P (sym (none number is)) (idle (steps_of is), refl, refl)
next item.EndsSetup is number = let P : ℕ → Type 0 = λ w. NextAt item.EndsSetup is number w in subst P (sym (none number is)) (refl, refl, refl)
next (item.Does who what) is number =
    let P : ℕ → Type 0 = λ w. NextAt (item.Does who what) is number w in subst P (sym (two-of number (lines_from (number + 1) is))) (refl, refl, refl)
next (item.Begins who what) is number =
    let P : ℕ → Type 0 = λ w. NextAt (item.Begins who what) is number w in subst P (sym (one-of number (lines_from (number + 1) is) (later number is))) (refl, refl, refl)
next (item.Advances who) is number =
    let P : ℕ → Type 0 = λ w. NextAt (item.Advances who) is number w in subst P (sym (one-of number (lines_from (number + 1) is) (later number is))) (refl, refl, refl)
next (item.Finishes who) is number =
    let P : ℕ → Type 0 = λ w. NextAt (item.Finishes who) is number w in subst P (sym (one-of number (lines_from (number + 1) is) (later number is))) (refl, refl, refl)

pub at_start : (is : List Item) (ls : List (List ℕ)) (schedule : ScheduleOf) (said : List Said) (steps : List Step) (numbers : List ℕ) → IsRead is ls schedule → said ≡ [] → steps ≡ schedule.steps → numbers ≡ schedule.numbers → SoFar is said steps numbers 1 ls
at_start is ls schedule said steps numbers h e f g =
    record { rest = is; found = ap (λ (s : List Said). s ++ map said_of_item is) e; steps_are = f ∙ h.steps; numbers_are = g ∙ h.numbers; goes = h.goes }

pub one_more : (is : List Item) (said after : List Said) (steps steps' : List Step) (numbers numbers' : List ℕ) (number number' w : ℕ) (l : List ℕ) (ls all : List (List ℕ)) (new : Said) (goes : Bool)
    → SoFar is said steps numbers number all → all ≡ l ∷ ls → goes ≡ is_go_line l → w ≡ width numbers number → new ≡ said_by goes w steps → after ≡ said ++ new ∷ [] → steps' ≡ drop w steps → numbers' ≡ drop w numbers
    → number' ≡ number + 1 → SoFar is after steps' numbers' number' ls
one_more is said after steps steps' numbers numbers' number number' w l ls all new goes h all_is goes_is w_is new_is after_is steps_is numbers_is number_is =
    by_rest h.rest h.found h.steps_are h.numbers_are (sym (ap (map is_go_line) all_is) ∙ h.goes)
  where
    by_rest : (rest : List Item) → said ++ map said_of_item rest ≡ map said_of_item is → steps ≡ steps_of rest → numbers ≡ lines_from number rest → map is_go_line (l ∷ ls) ≡ map is_go rest → SoFar is after steps' numbers' number' ls
    by_rest [] found s n g = absurd cc
    by_rest (i ∷ rest) found s n g =
        let here : is_go_line l ≡ is_go i = cc in
        let width_is : w ≡ widths i rest number = w_is ∙ ap (λ (ks : List ℕ). width ks number) n in
        let at : NextAt i rest number w = let P : ℕ → Type 0 = λ w. NextAt i rest number w in subst P (sym width_is) (next i rest number) in
        let is_new : new ≡ said_of_item i = new_is ∙ ap (λ (b : Bool). said_by b w steps) (goes_is ∙ here) ∙ ap (λ (t : List Step). said_by (is_go i) w t) s ∙ at.0 in
        record {
          rest = rest;
          found = ap (λ (t : List Said). t ++ map said_of_item rest) after_is ∙ append_assoc said (new ∷ []) (map said_of_item rest) ∙ ap (λ (x : Said). said ++ (x ∷ map said_of_item rest)) is_new ∙ found;
          steps_are = steps_is ∙ ap (drop w) s ∙ at.1;
          numbers_are = numbers_is ∙ ap (drop w) n ∙ at.2 ∙ ap (λ (k : ℕ). lines_from k rest) (sym number_is);
          goes = cc;
        }

pub at_end : (is : List Item) (said : List Said) (steps : List Step) (numbers : List ℕ) (number : ℕ) (ls : List (List ℕ)) → SoFar is said steps numbers number ls → ls ≡ [] → said ≡ map said_of_item is
at_end is said steps numbers number ls h e = by_rest h.rest h.found (sym (ap (map is_go_line) e) ∙ h.goes)
  where
    by_rest : (rest : List Item) → said ++ map said_of_item rest ≡ map said_of_item is → map is_go_line [] ≡ map is_go rest → said ≡ map said_of_item is
    by_rest [] found g = sym (append-nil said) ∙ found
    by_rest (i ∷ rest) found g = absurd cc

pub no_line : (bytes : List ℕ) → length bytes ≡ 0 → lines bytes ≡ []
no_line [] e = refl
no_line (b ∷ bytes) e = absurd (omega (arith, e))

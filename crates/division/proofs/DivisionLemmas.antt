-- The parts of a script, by what its lines say.
use Rattle.std.proofs.Common.{◌≡◌, ℕ, suc, ◌+◌, ◌≤◌, Bool, true, false, cond, ltb, List, [], ◌∷◌, ◌++◌, length, take, drop, map, Some, None, refl, sym, ap, ◌∙◌, arith}
use Rattle.std.specs.Prelude.{◌==◌, ◌||◌, not, fold, position, if◌then◌else◌}
use Rattle.std.specs.List.{filter_map, cons_option, flat_map, list_any, prefix_len, before_first, after_first, position_or_len}
use Rattle.std.proofs.lemmas.Bool.{ltb-false}
use Rattle.std.proofs.lemmas.Bool.Decides.{nat_tests}
use Rattle.std.proofs.lemmas.List.{length-map}
use Rattle.std.proofs.lemmas.List.Sums.{fold-append}
use Rattle.machine.specs.declared.command.Actor.{Actor}
use Rattle.machine.specs.declared.command.Command.{Command}
use Rattle.machine.specs.declared.command.Step.{Step}
use Rattle.machine.specs.declared.command.Step.TheVariants.{Begin}
use Rattle.scripts.specs.declared.meaning.Item.{Item}
use Rattle.scripts.specs.declared.meaning.Item.TheVariants as item
use Rattle.scripts.specs.Script.{steps_of, steps_of_item}
use Rattle.scripts.specs.Work.{is_go, before_go, behind_go, does, commands_by, number_of, with_actor}
use Rattle.division.specs.declared.fault.Fault.{Fault}
use Rattle.division.specs.declared.fault.Fault.TheVariants as fault
use Rattle.division.specs.declared.said.Said.{Said}
use Rattle.division.specs.declared.script.Sorted.{Sorted}
use Rattle.division.specs.Division.{work_in, looks_in, takes_apart, worker_for, by_worker, worked_in, left_by, actors_in, row_in, shown_row, IsDivided}
use Rattle.division.specs.Faults.{IsUnsorted, IsUndivided}
use Rattle.division.specs.Said.{said_of_item}
use Rattle.division.specs.Sorting.{goes, steps_asked, is_apart, left, worker, begun, actors_asked, AreSorted}
use Rattle.explorer.specs.declared.parts.Parts.{Parts}

-- ---- none passes

any_by : {X : Type 0} (p : X → Bool) (x : X) (xs : List X) (b : Bool) → ltb (cond (not b) (1 + position_or_len p xs) 0) (suc (length xs)) ≡ false → (ltb (position_or_len p xs) (length xs) ≡ false → list_any p xs ≡ false) → (b || list_any p xs) ≡ false
any_by p x xs true e ih = (let le : suc (length xs) ≤ 0 = ltb-false _ _ e in absurd (omega (arith, le)))
any_by p x xs false e ih =
    let le : suc (length xs) ≤ 1 + position_or_len p xs = ltb-false _ _ e in
    ih (grind (arith, nat_tests))

none_by : {X : Type 0} (p : X → Bool) (xs : List X) → ltb (position_or_len p xs) (length xs) ≡ false → list_any p xs ≡ false
none_by p [] e = refl
none_by p (x ∷ xs) e = any_by p x xs (p x) e (none_by p xs)

none_if : {X : Type 0} (p : X → Bool) (xs : List X) (t : Bool) → ltb (position_or_len p xs) (length xs) ≡ t → cond t (Some (position_or_len p xs)) None ≡ None → list_any p xs ≡ false
none_if p xs true e h = absurd cc
none_if p xs false e h = none_by p xs e

pub none : {X : Type 0} (p : X → Bool) (xs : List X) → position p xs ≡ None → list_any p xs ≡ false
none p xs h = none_if p xs (ltb (position_or_len p xs) (length xs)) refl h

pub no_items : {X : Type 0} (xs : List X) → length xs ≡ 0 → xs ≡ []
no_items [] e = refl
no_items (x ∷ xs) e = absurd (omega (arith, e))

-- ---- line by line

goes-said : (i : Item) → goes (said_of_item i) ≡ is_go i
goes-said item.EndsSetup = refl
goes-said _ = refl

pub steps-said : (i : Item) → steps_asked (said_of_item i) ≡ steps_of_item i
steps-said item.EndsSetup = refl
steps-said _ = refl

apart-said : (i : Item) → is_apart (said_of_item i) ≡ takes_apart i
apart-said item.EndsSetup = refl
apart-said _ = refl

left-said : (i : Item) → left (said_of_item i) ≡ left_by i
left-said item.EndsSetup = refl
left-said _ = refl

-- ---- the division

before_if : (i : Item) (is : List Item) (b : Bool) → take (prefix_len (λ x. not (goes x)) (map said_of_item is)) (map said_of_item is) ≡ map said_of_item (before_go is)
    → take (cond (not b) (1 + prefix_len (λ x. not (goes x)) (map said_of_item is)) 0) (map said_of_item (i ∷ is)) ≡ map said_of_item (if b then [] else i ∷ before_go is)
before_if i is true ih = refl
before_if i is false ih =
    let one : 1 + prefix_len (λ x. not (goes x)) (map said_of_item is) ≡ suc (prefix_len (λ x. not (goes x)) (map said_of_item is)) = omega arith in
    rw one (ap (λ (l : List Said). said_of_item i ∷ l) ih)

pub before : (is : List Item) → before_first goes (map said_of_item is) ≡ map said_of_item (before_go is)
before [] = refl
before (i ∷ is) = rw (goes-said i) (before_if i is (is_go i) (before is))

after_if : (i : Item) (is : List Item) (b : Bool) → drop (prefix_len (λ x. not (goes x)) (map said_of_item is) + 1) (map said_of_item is) ≡ map said_of_item (behind_go is)
    → drop (cond (not b) (1 + prefix_len (λ x. not (goes x)) (map said_of_item is)) 0 + 1) (map said_of_item (i ∷ is)) ≡ map said_of_item (if b then is else behind_go is)
after_if i is true ih = refl
after_if i is false ih =
    let one : 1 + prefix_len (λ x. not (goes x)) (map said_of_item is) + 1 ≡ suc (prefix_len (λ x. not (goes x)) (map said_of_item is) + 1) = omega arith in
    rw one ih

pub after : (is : List Item) → after_first goes (map said_of_item is) ≡ map said_of_item (behind_go is)
after [] = refl
after (i ∷ is) = rw (goes-said i) (after_if i is (is_go i) (after is))

-- ---- the parts

pub steps : (is : List Item) → flat_map steps_asked (map said_of_item is) ≡ steps_of is
steps [] = refl
steps (i ∷ is) = rw (steps-said i) (ap (λ (l : List Step). steps_of_item i ++ l) (steps is))

whole : (is : List Item) → list_any is_apart (map said_of_item is) ≡ list_any takes_apart is
whole [] = refl
whole (i ∷ is) = rw (apart-said i) (ap (λ (b : Bool). takes_apart i || b) (whole is))

lefts : (is : List Item) → filter_map left (map said_of_item is) ≡ filter_map left_by is
lefts [] = refl
lefts (i ∷ is) = rw (left-said i) (ap (cons_option (left_by i)) (lefts is))

abbrev asked : List Item → List (Actor × Command)
asked is = map by_worker (filter_map does is)

worker_one : (i : Item) (is : List Item) (l : List Actor) → l ≡ map (λ (p : Actor × Command). p.0) (asked is) → cons_option (worker (said_of_item i)) l ≡ map (λ (p : Actor × Command). p.0) (asked (i ∷ is))
worker_one (item.Does who what) is l e = ap (λ (m : List Actor). worker_for who ∷ m) e
worker_one item.EndsSetup is l e = e
worker_one _ is l e = e

workers : (is : List Item) → filter_map worker (map said_of_item is) ≡ map (λ (p : Actor × Command). p.0) (asked is)
workers [] = refl
workers (i ∷ is) = worker_one i is (filter_map worker (map said_of_item is)) (workers is)

begun_if : (who : Actor) (what : Command) (b : Bool) (l : List Step) (m : List Command) → l ≡ map (Begin who) m → cons_option (if b then Some (Begin who what) else None) l ≡ map (Begin who) (cons_option (if b then Some what else None) m)
begun_if who what true l m e = ap (λ (s : List Step). Begin who what ∷ s) e
begun_if who what false l m e = e

begun_one : (who : Actor) (i : Item) (is : List Item) (l : List Step) → l ≡ map (Begin who) (commands_by who (asked is)) → cons_option (begun who (said_of_item i)) l ≡ map (Begin who) (commands_by who (asked (i ∷ is)))
begun_one who (item.Does actor what) is l e = begun_if who what (number_of (worker_for actor) == number_of who) l (commands_by who (asked is)) e
begun_one who item.EndsSetup is l e = e
begun_one who _ is l e = e

begins : (who : Actor) (is : List Item) → filter_map (begun who) (map said_of_item is) ≡ map (Begin who) (commands_by who (asked is))
begins who [] = refl
begins who (i ∷ is) = begun_one who i is (filter_map (begun who) (map said_of_item is)) (begins who is)

-- ---- all of it

actors : (is : List Item) (lines setup work : List Said) → setup ≡ map said_of_item (before_go is) → work ≡ map said_of_item (work_in is) → actors_asked setup work ≡ actors_in is
actors is lines setup work e f =
    ap (λ (l : List Said). actors_asked l work) e ∙ ap (actors_asked (map said_of_item (before_go is))) f
    ∙ ap (λ (l : List Actor). fold with_actor (fold with_actor [] l) (filter_map worker (map said_of_item (work_in is)))) (lefts (before_go is))
    ∙ ap (fold with_actor (fold with_actor [] (filter_map left_by (before_go is)))) (workers (work_in is))
    ∙ sym (fold-append with_actor [] (filter_map left_by (before_go is)) (map (λ (p : Actor × Command). p.0) (worked_in is)))

each_row : (is : List Item) (work : List Said) (who : List Actor) → work ≡ map said_of_item (work_in is) → map (λ (w : Actor). (w, filter_map (begun w) work)) who ≡ map (row_in is) who
each_row is work [] f = refl
each_row is work (w ∷ who) f =
    ap (λ (l : List Step). (w, l) ∷ map (λ (v : Actor). (v, filter_map (begun v) work)) who) (ap (filter_map (begun w)) f ∙ begins w (work_in is))
    ∙ ap (λ (l : List (Actor × List Step)). row_in is w ∷ l) (each_row is work who f)

pub divided : (is : List Item) (lines : List Said) (sorted : Sorted) (parts : Parts) → lines ≡ map said_of_item is → AreSorted lines sorted → parts.setup ≡ sorted.setup → parts.rows ≡ sorted.rows → parts.looks ≡ sorted.looks → IsDivided is parts
divided is lines sorted parts e h s r l =
    let first : before_first goes lines ≡ map said_of_item (before_go is) = ap (before_first goes) e ∙ before is in
    let behind : after_first goes lines ≡ map said_of_item (behind_go is) = ap (after_first goes) e ∙ after is in
    let work : before_first goes (after_first goes lines) ≡ map said_of_item (work_in is) = ap (before_first goes) behind ∙ before (behind_go is) in
    let looks : after_first goes (after_first goes lines) ≡ map said_of_item (looks_in is) = ap (after_first goes) behind ∙ after (behind_go is) in
    record {
      setup = ap (λ (v : _). v.items) s ∙ h.setup ∙ ap (flat_map steps_asked) first ∙ steps (before_go is);
      whole = sym (ap (list_any is_apart) work ∙ whole (work_in is)) ∙ h.whole;
      rows =
          ap (λ (v : _). map shown_row v.items) r ∙ h.rows ∙ each_row is (before_first goes (after_first goes lines)) (actors_asked (before_first goes lines) (before_first goes (after_first goes lines))) work
          ∙ ap (map (row_in is)) (actors is lines (before_first goes lines) (before_first goes (after_first goes lines)) first work);
      looks = ap (λ (v : _). v.items) l ∙ h.looks ∙ ap (flat_map steps_asked) looks ∙ steps (looks_in is);
    }

-- ---- no parts

apart_len : (is : List Item) → position_or_len is_apart (map said_of_item is) ≡ position_or_len takes_apart is
apart_len [] = refl
apart_len (i ∷ is) = rw (apart-said i) (ap (λ (n : ℕ). cond (not (takes_apart i)) (1 + n) 0) (apart_len is))

apart_place : (is : List Item) → position is_apart (map said_of_item is) ≡ position takes_apart is
apart_place is =
    ap (λ (n : ℕ). cond (ltb n (length (map said_of_item is))) (Some n) None) (apart_len is)
    ∙ ap (λ (m : ℕ). cond (ltb (position_or_len takes_apart is) m) (Some (position_or_len takes_apart is)) None) (length-map is said_of_item)

module _ (is : List Item) (setup work : List Said) (first : setup ≡ map said_of_item (before_go is)) (second : work ≡ map said_of_item (work_in is)) where
  all_whole : list_any is_apart work ≡ false → list_any takes_apart (work_in is) ≡ false
  all_whole h = sym (ap (list_any is_apart) second ∙ whole (work_in is)) ∙ h

  all_actors : actors_asked setup work ≡ actors_in is
  all_actors = actors is setup setup work first second

  no_parts : (why : Fault) → IsUnsorted setup work (length setup + 2) why → IsUndivided is why
  no_parts (fault.TakesApart number) (place, h, n) = record {
    place = place;
    first = sym (apart_place (work_in is)) ∙ ap (position is_apart) (sym second) ∙ h;
    number_is = n ∙ ap (λ (l : List Said). length l + 2 + place) first ∙ ap (λ (m : ℕ). m + 2 + place) (length-map (before_go is) said_of_item);
  }
  no_parts fault.NoWork (h, none) = record { whole = all_whole h; none = sym all_actors ∙ none }
  no_parts (fault.TooManyActors count) (h, n, more) = record { whole = all_whole h; counts = n ∙ ap (λ (l : List Actor). length l) all_actors; more = more }
  no_parts fault.Memory h = tt
  no_parts (fault.Script why) h = absurd h
  no_parts (fault.SetupFails number said) h = absurd h
  no_parts (fault.NoOutcome number outcomes) h = absurd h
  no_parts fault.Changed h = absurd h
  no_parts (fault.Unwritable error) h = absurd h

pub undivided : (is : List Item) (lines : List Said) (why : Fault) → lines ≡ map said_of_item is → IsUnsorted (before_first goes lines) (before_first goes (after_first goes lines)) (length (before_first goes lines) + 2) why → IsUndivided is why
undivided is lines why e h =
    let behind : after_first goes lines ≡ map said_of_item (behind_go is) = ap (after_first goes) e ∙ after is in
    no_parts is (before_first goes lines) (before_first goes (after_first goes lines)) (ap (before_first goes) e ∙ before is) (ap (before_first goes) behind ∙ before (behind_go is)) why h

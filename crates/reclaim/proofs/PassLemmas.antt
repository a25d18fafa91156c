-- Which group gives a page, and that one does wherever one has a page to give.
use Rattle.std.proofs.Common.{inl, inr, ◌≡◌, ℕ, ◌+◌, ◌==◌, ◌&&◌, ◌||◌, not, nat_lt, zero, suc, Bool, true, false, if◌then◌else◌, List, [], ◌∷◌, get_or, drop, take, Option, Some, None, refl, sym, ap, ◌∙◌, subst, arith}
use Rattle.std.specs.Prelude.{find, is_some, All}
use Rattle.std.specs.Option.{option_or}
use Rattle.std.specs.List.{list_any}
use Rattle.std.proofs.lemmas.Bool.{cases_Bool, and_parts}
use Rattle.std.proofs.lemmas.Bool.Decides.{nat_tests}
use Rattle.std.proofs.lemmas.List.Elements.{All-head, All-tail, All-append, All-take, All-drop}
use Rattle.std.proofs.lemmas.List.Folds.{find-append, list_any-append, list_any_at, Any-from_list_any}
use Rattle.machine.specs.declared.id.GroupId.{GroupId}
use Rattle.machine.specs.Order.{Cursor, round_from, place_in, asked_of, in_turn, asking_order, served_by, served_first}
use Rattle.machine.specs.Tree.{Node, is_live, under, preorder}
use Rattle.machine.specs.Eviction.{has_old_file}
use Rattle.aging.specs.Groups.{seen_at}
use Rattle.group_tree.specs.Groups.{IsGroupTree}
use Rattle.group_tree.specs.Tables.{number}
use Rattle.group_tree.specs.Walk.{behind}
use Rattle.group_tree.proofs.PreorderLemmas.{preorder-has}
use Rattle.reclaim.specs.declared.scan_control.ScanControl.{ScanControl}
use Rattle.reclaim.specs.Pass.{gives_by, asked_by, IsGiver, GivesNone}
use Rattle.reclaim.specs.Walk.{is_at, behind_last, up_to, in_walk, ones, AreAsked}
use Rattle.reclaim.proofs.WalkLemmas.{up_to-none, parts}

-- ---- the first of a list that passes

module _ {X : Type 0} where
  -- what is found is among them, and passes
  pub found-passes : (P : X → Type 0) (f : X → Bool) (xs : List X) (y : X) → All P xs → find f xs ≡ Some y → P y × (f y ≡ true)
  found-passes P f [] y all e = absurd cc
  found-passes P f (x ∷ xs) y all e = by_test (found-passes P f xs y (All-tail P x xs all)) (f x) refl e
    where
      by_test : (find f xs ≡ Some y → P y × (f y ≡ true)) → (b : Bool) → f x ≡ b → (if b then Some x else find f xs) ≡ Some y → P y × (f y ≡ true)
      by_test rest true is found = let same : x ≡ y = cc in (subst P same (All-head P x xs all), ap f (sym same) ∙ is)
      by_test rest false is found = rest found

  -- and where none is found, none passes
  pub none-passes : (f : X → Bool) (xs : List X) → find f xs ≡ None → list_any f xs ≡ false
  none-passes f [] e = refl
  none-passes f (x ∷ xs) e = by_test (none-passes f xs) (f x) refl e
    where
      by_test : (find f xs ≡ None → list_any f xs ≡ false) → (b : Bool) → f x ≡ b → (if b then Some x else find f xs) ≡ None → (f x || list_any f xs) ≡ false
      by_test rest true is none = absurd cc
      by_test rest false is none = ap (λ b. b || list_any f xs) is ∙ rest none

-- a group of the list fails a test that none of the list passes
among : (f : ℕ → Bool) (g : ℕ) (gs : List ℕ) → list_any (λ a. a == g) gs ≡ true → list_any f gs ≡ false → f g ≡ false
among f g gs here none =
    elim (cases_Bool (f g)) [
      | inl passes ↦
          (let place = Any-from_list_any (λ a. a == g) gs here in
          let same : place.1 ≡ g = grind (arith, nat_tests, place.4) in
          absurd (let found = list_any_at f gs place.0 place.1 place.2 (ap f (place.3 ∙ same) ∙ passes) in let wrong : true ≡ false = sym found ∙ none in cc))
      | inr fails ↦ fails
    ]

-- ---- one group of a walk

-- a walk goes on behind a group that gives none, unless it ends there
pub find-step : (test : ℕ → Bool) (g : ℕ) (walk rest : List ℕ) (last : Option ℕ) {gives_one ends : Bool} → walk ≡ g ∷ rest → test g ≡ gives_one → is_at last g ≡ ends
    → find test (up_to walk last) ≡ (if gives_one then Some g else find test (if ends then [] else up_to rest last))
find-step test g walk rest last {gives_one} {ends} e one end =
    ap (λ w. find test (up_to w last)) e
    ∙ ap (λ b. if b then Some g else find test (if is_at last g then [] else up_to rest last)) one
    ∙ ap (λ b. if gives_one then Some g else find test (if b then [] else up_to rest last)) end

-- ---- which groups are asked
module _ (tree : List Node) (target : ℕ) where
  pub asked-rest : (walk rest : List ℕ) (g : ℕ) → walk ≡ g ∷ rest → AreAsked tree target walk → AreAsked tree target rest
  asked-rest walk rest g e asked = All-tail (λ a. (is_live tree a ≡ true) × (under tree target a ≡ true)) g rest (subst (AreAsked tree target) e asked)

  pub asked-behind : (walk : List ℕ) (last : ℕ) → AreAsked tree target walk → AreAsked tree target (behind walk last)
  asked-behind [] last asked = asked
  asked-behind (g ∷ rest) last asked =
      let later : AreAsked tree target rest = asked-rest (g ∷ rest) rest g refl asked in
      elim (g == last) as (λ b. AreAsked tree target (if b then rest else behind rest last)) [
        | true ↦ later
        | false ↦ asked-behind rest last later
      ]

  -- all that a walk from the target comes to
  pub asked-all : IsGroupTree tree → is_live tree target ≡ true → AreAsked tree target (preorder tree target)
  asked-all groups live =
      λ k d lt.
      let g = get_or (preorder tree target) k d in
      let among = list_any_at (λ a. a == g) (preorder tree target) k d lt (let same : (g == g) ≡ true = grind arith in same) in
      and_parts _ _ (sym (preorder-has tree groups target g live) ∙ among)

  -- and the group whose turn goes on
  asked-turn : (parts : Bool) (cursor : Cursor) → AreAsked tree target (in_turn parts tree target cursor)
  asked-turn parts cursor =
      elim (parts && nat_lt 0 cursor.left) as (λ b. AreAsked tree target (if b then asked_of tree target cursor.group else [])) [
        | true ↦ of_group cursor.group
        | false ↦ λ k d lt. absurd (omega (arith, lt))
      ]
    where
      of_group : (last : Option ℕ) → AreAsked tree target (asked_of tree target last)
      of_group None = λ k d lt. absurd (omega (arith, lt))
      of_group (Some g) =
          elim (cases_Bool (is_live tree g && under tree target g)) [
            | inl is ↦ subst (λ b. AreAsked tree target (if b then g ∷ [] else [])) (sym is) (one (and_parts _ _ is))
            | inr other ↦ subst (λ b. AreAsked tree target (if b then g ∷ [] else [])) (sym other) (λ k d lt. absurd (omega (arith, lt)))
          ]
        where
          one : (is_live tree g ≡ true) × (under tree target g ≡ true) → AreAsked tree target (g ∷ [])
          one both zero d lt = both
          one both (suc k) d lt = absurd (omega (arith, lt))

  -- in the order in which they are
  pub asked-order : (parts : Bool) (cursor : Cursor) → IsGroupTree tree → is_live tree target ≡ true → AreAsked tree target (asking_order parts tree target cursor)
  asked-order parts cursor groups live =
      All-append (λ g. (is_live tree g ≡ true) × (under tree target g ≡ true)) (in_turn parts tree target cursor) (round_from (preorder tree target) (place_in (preorder tree target) cursor.group))
      (asked-turn parts cursor) (round (preorder tree target) (place_in (preorder tree target) cursor.group) (asked-all groups live))
    where
      round : (gs : List ℕ) (place : Option ℕ) → AreAsked tree target gs → AreAsked tree target (round_from gs place)
      round gs None all = all
      round gs (Some k) all =
          All-append (λ g. (is_live tree g ≡ true) × (under tree target g ≡ true)) (drop (k + 1) gs) (take (k + 1) gs)
          (All-drop (λ g. (is_live tree g ≡ true) × (under tree target g ≡ true)) (k + 1) gs all) (All-take (λ g. (is_live tree g ≡ true) × (under tree target g ≡ true)) (k + 1) gs all)

-- ---- the two parts of a pass

some_first : (a b : Option ℕ) → is_some a ≡ true → option_or a b ≡ a
some_first None b e = absurd cc
some_first (Some x) b e = refl

none_first : (a b : Option ℕ) → is_some a ≡ false → option_or a b ≡ b
none_first None b e = refl
none_first (Some x) b e = absurd cc

same_some : (group : Option GroupId) → is_some (number group) ≡ is_some group
same_some None = refl
same_some (Some group) = refl

module _ (tree : List Node) (test : ℕ → Bool) (target : ℕ) (last : Option ℕ) where
  parts-find : in_walk tree test target last ≡ option_or (find test (behind_last (preorder tree target) last)) (find test (up_to (preorder tree target) last))
  parts-find = ap (find test) (sym (parts (preorder tree target) last)) ∙ find-append test (behind_last (preorder tree target) last) (up_to (preorder tree target) last)

  -- what the first part finds is served
  pub first_part : (group : Option GroupId) → number group ≡ find test (behind_last (preorder tree target) last) → is_some group ≡ true → number group ≡ in_walk tree test target last
  first_part group e some =
      e ∙ sym (parts-find ∙ some_first _ (find test (up_to (preorder tree target) last)) (ap is_some (sym e) ∙ same_some group ∙ some))

  -- and else what the second part finds
  pub second_part : (walk : List ℕ) (group later : Option GroupId) → walk ≡ preorder tree target → number group ≡ find test (behind_last (preorder tree target) last) → is_some group ≡ false
      → number later ≡ find test (up_to walk last) → number later ≡ in_walk tree test target last
  second_part walk group later w e none f =
      f ∙ ap (λ gs. find test (up_to gs last)) w
      ∙ sym (parts-find ∙ none_first _ (find test (up_to (preorder tree target) last)) (ap is_some (sym e) ∙ same_some group ∙ none))

-- ---- the group whose turn goes on
module _ (tree : List Node) (test : ℕ → Bool) (target : ℕ) (parts : Bool) (cursor : Cursor) where
  turn-find : served_by parts tree test target cursor ≡ option_or (find test (in_turn parts tree target cursor)) (in_walk tree test target cursor.group)
  turn-find = find-append test (in_turn parts tree target cursor) (round_from (preorder tree target) (place_in (preorder tree target) cursor.group))

  -- it is served, if it has a page to give
  pub goes_on : (g : GroupId) → ones (Some g.0) ≡ in_turn parts tree target cursor → test g.0 ≡ true → Some g.0 ≡ served_by parts tree test target cursor
  goes_on g is gives = sym (turn-find ∙ ap (λ gs. option_or (find test gs) (in_walk tree test target cursor.group)) (sym is) ∙ ap (λ b. option_or (if b then Some g.0 else None) (in_walk tree test target cursor.group)) gives)

  -- if it has none, the walk tells
  pub ends_turn : (g : GroupId) (later : Option GroupId) → ones (Some g.0) ≡ in_turn parts tree target cursor → test g.0 ≡ false → number later ≡ in_walk tree test target cursor.group
      → number later ≡ served_by parts tree test target cursor
  ends_turn g later is gives found =
      found ∙ sym (turn-find ∙ ap (λ gs. option_or (find test gs) (in_walk tree test target cursor.group)) (sym is) ∙ ap (λ b. option_or (if b then Some g.0 else None) (in_walk tree test target cursor.group)) gives)

  -- and if no turn goes on
  pub no_turn : (later : Option GroupId) → [] ≡ in_turn parts tree target cursor → number later ≡ in_walk tree test target cursor.group → number later ≡ served_by parts tree test target cursor
  no_turn later is found = found ∙ sym (turn-find ∙ ap (λ gs. option_or (find test gs) (in_walk tree test target cursor.group)) (sym is))

-- ---- the groups that are asked first
module _ (parts : Bool) (tree : List Node) (old gives : ℕ → Bool) (target : ℕ) (cursor : Cursor) where
  -- where age is not heeded, there is one pass
  pub one_pass : (heeds : Bool) (group : Option GroupId) → heeds ≡ false → number group ≡ served_by parts tree gives target cursor → number group ≡ served_first heeds parts tree old gives target cursor
  one_pass heeds group is found = rw is found

  -- where it is, what the first pass finds is served
  pub pass_in_front : (heeds : Bool) (group : Option GroupId) → heeds ≡ true → number group ≡ served_by parts tree old target cursor → is_some group ≡ true → number group ≡ served_first heeds parts tree old gives target cursor
  pass_in_front heeds group is found some =
      found ∙ sym (some_first (served_by parts tree old target cursor) (served_by parts tree gives target cursor) (ap is_some (sym found) ∙ same_some group ∙ some))
      ∙ ap (λ b. served_first b parts tree old gives target cursor) (sym is)

  -- and else what the second one finds
  pub pass_behind : (heeds : Bool) (group later : Option GroupId) → heeds ≡ true → number group ≡ served_by parts tree old target cursor → is_some group ≡ false → number later ≡ served_by parts tree gives target cursor
      → number later ≡ served_first heeds parts tree old gives target cursor
  pass_behind heeds group later is none_found none found =
      found ∙ sym (none_first (served_by parts tree old target cursor) (served_by parts tree gives target cursor) (ap is_some (sym none_found) ∙ same_some group ∙ none))
      ∙ ap (λ b. served_first b parts tree old gives target cursor) (sym is)

-- a group that the first pass does not ask is served by the second one
pub served-by-all : (parts : Bool) (tree : List Node) (old gives : ℕ → Bool) (target : ℕ) (cursor : Cursor) (heeds : Bool) (g : ℕ) → (heeds ≡ true → old g ≡ false) → served_first heeds parts tree old gives target cursor ≡ Some g
    → served_by parts tree gives target cursor ≡ Some g
served-by-all parts tree old gives target cursor false g unasked serves = serves
served-by-all parts tree old gives target cursor true g unasked serves = by_front (served_by parts tree old target cursor) refl serves
  where
    by_front : (front : Option ℕ) → served_by parts tree old target cursor ≡ front → option_or front (served_by parts tree gives target cursor) ≡ Some g → served_by parts tree gives target cursor ≡ Some g
    by_front None is later = later
    by_front (Some h) is here =
        let same : h ≡ g = cc in
        let passes = (found-passes (λ a. Unit {0}) old (asking_order parts tree target cursor) h (λ k d lt. tt) is).1 in
        absurd (let wrong : true ≡ false = sym passes ∙ ap old same ∙ unasked refl in cc)

-- whether a group is asked: those without an old file are not, in a pass that asks for one
pub unasked : (sc : ScanControl) (old_files low_reclaim has : Bool) (g : ℕ) → has ≡ has_old_file (seen_at g sc.gens.now sc.marks.now) → (old_files && not has) ≡ true → asked_by sc old_files low_reclaim g ≡ false
unasked sc true low_reclaim true g is e = absurd cc
unasked sc true low_reclaim false g is e = rw (sym is) (and_false (gives_by sc low_reclaim g))
  where
    and_false : (b : Bool) → (b && false) ≡ false
    and_false true = refl
    and_false false = refl
unasked sc false low_reclaim has g is e = absurd cc

-- so the first pass does not ask a group without an old file
pub unasked-here : (sc : ScanControl) (low_reclaim : Bool) (g : ℕ) → sc.heeds_age ≡ true → not (sc.heeds_age && has_old_file (seen_at g sc.gens.now sc.marks.now)) ≡ true → asked_by sc true low_reclaim g ≡ false
unasked-here sc low_reclaim g heeds all = unasked sc true low_reclaim (has_old_file (seen_at g sc.gens.now sc.marks.now)) g refl (ap (λ b. not (b && has_old_file (seen_at g sc.gens.now sc.marks.now))) (sym heeds) ∙ all)

-- ---- one gives a page wherever one has a page to give

turn_here : (t all : Bool) → (all || (t || false)) ≡ (t || all)
turn_here true true = refl
turn_here true false = refl
turn_here false true = refl
turn_here false false = refl

turn_on : (a b r : Bool) → (a || (b || r)) ≡ (b || (a || r))
turn_on true true r = refl
turn_on true false r = refl
turn_on false b r = refl

-- a test that one of the parts passes, the walk passes
around_place : (test : ℕ → Bool) (gs : List ℕ) (last : ℕ) → (list_any test (behind gs last) || list_any test (up_to gs (Some last))) ≡ list_any test gs
around_place test [] last = refl
around_place test (g ∷ gs) last =
    elim (cases_Bool (g == last)) [
      | inl at ↦
          ap (λ b. list_any test (if b then gs else behind gs last) || (test g || list_any test (if b then [] else up_to gs (Some last)))) at ∙ turn_here (test g) (list_any test gs)
      | inr past ↦
          ap (λ b. list_any test (if b then gs else behind gs last) || (test g || list_any test (if b then [] else up_to gs (Some last)))) past
          ∙ turn_on (list_any test (behind gs last)) (test g) (list_any test (up_to gs (Some last)))
          ∙ ap (λ b. test g || b) (around_place test gs last)
    ]

around : (test : ℕ → Bool) (gs : List ℕ) (last : Option ℕ) → (list_any test (behind_last gs last) || list_any test (up_to gs last)) ≡ list_any test gs
around test gs None = ap (list_any test) (up_to-none gs)
around test gs (Some last) = around_place test gs last

second_none : (a b : Option ℕ) → option_or a b ≡ None → b ≡ None
second_none None b e = e
second_none (Some x) b e = absurd cc

module _ (sc : ScanControl) (low_reclaim : Bool) (groups : IsGroupTree sc.protection.tree.now) (cursor : Cursor) where
  abbrev tree : List Node
  tree = sc.protection.tree.now

  abbrev target : ℕ
  target = sc.protection.target.0

  -- the group that one pass serves has a page to give
  one-serves : (g : ℕ) → served_by sc.takes_parts tree (gives_by sc low_reclaim) target cursor ≡ Some g → IsGiver sc low_reclaim g
  one-serves g found =
      let is = found-passes (λ a. (is_live tree a ≡ true) × (under tree target a ≡ true)) (gives_by sc low_reclaim) (asking_order sc.takes_parts tree target cursor) g (asked-order tree target sc.takes_parts cursor groups sc.live) found in
      record { live = is.0.0; below = is.0.1; gives = is.1 }

  -- and where it serves none, none has
  none-serves : served_by sc.takes_parts tree (gives_by sc low_reclaim) target cursor ≡ None → GivesNone sc low_reclaim
  none-serves nothing g there below =
      among (gives_by sc low_reclaim) g (preorder tree target)
      (preorder-has tree groups target g sc.live ∙ ap (λ b. b && under tree target g) there ∙ below)
      (sym (around (gives_by sc low_reclaim) (preorder tree target) cursor.group) ∙ sym (list_any-append (gives_by sc low_reclaim) (behind_last (preorder tree target) cursor.group) (up_to (preorder tree target) cursor.group))
      ∙ ap (list_any (gives_by sc low_reclaim)) (parts (preorder tree target) cursor.group)
      ∙ none-passes (gives_by sc low_reclaim) _ (second_none (find (gives_by sc low_reclaim) (in_turn sc.takes_parts tree target cursor)) _ (sym (turn-find tree (gives_by sc low_reclaim) target sc.takes_parts cursor) ∙ nothing)))

  -- so with the pass in front
  abbrev asked_first : Bool → Option ℕ
  asked_first heeds = served_first heeds sc.takes_parts tree (asked_by sc true low_reclaim) (gives_by sc low_reclaim) target cursor

  pub first-serves : (heeds : Bool) (g : ℕ) → asked_first heeds ≡ Some g → IsGiver sc low_reclaim g
  first-serves false g found = one-serves g found
  first-serves true g found = by_front (served_by sc.takes_parts tree (asked_by sc true low_reclaim) target cursor) refl found
    where
      by_front : (front : Option ℕ) → served_by sc.takes_parts tree (asked_by sc true low_reclaim) target cursor ≡ front → option_or front (served_by sc.takes_parts tree (gives_by sc low_reclaim) target cursor) ≡ Some g → IsGiver sc low_reclaim g
      by_front None is later = one-serves g later
      by_front (Some h) is here =
          let found = found-passes (λ a. (is_live tree a ≡ true) × (under tree target a ≡ true)) (asked_by sc true low_reclaim) (asking_order sc.takes_parts tree target cursor) g (asked-order tree target sc.takes_parts cursor groups sc.live) (is ∙ here) in
          record { live = found.0.0; below = found.0.1; gives = (and_parts (gives_by sc low_reclaim g) _ found.1).0 }

  pub first-none : (heeds : Bool) → asked_first heeds ≡ None → GivesNone sc low_reclaim
  first-none false nothing = none-serves nothing
  first-none true nothing = none-serves (by_front (served_by sc.takes_parts tree (asked_by sc true low_reclaim) target cursor) nothing)
    where
      by_front : (front : Option ℕ) → option_or front (served_by sc.takes_parts tree (gives_by sc low_reclaim) target cursor) ≡ None → served_by sc.takes_parts tree (gives_by sc low_reclaim) target cursor ≡ None
      by_front None later = later
      by_front (Some h) here = absurd cc

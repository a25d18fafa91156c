-- No group begins two turns more than one that is asked all the while: each turn is that of the next group that is asked, and the groups stand in one circle.
use Rattle.std.proofs.Common.{◌≡◌, ℕ, ◌+◌, ◌≤◌, ◌==◌, ◌&&◌, ◌||◌, not, nat_lt, Bool, true, false, if◌then◌else◌, List, [], ◌∷◌, Option, Some, None, refl, sym, ap, ◌∙◌, subst, arith, get_or-set_other}
use Rattle.std.specs.Prelude.{find}
use Rattle.machine.proofs.Values.{some_inj}
use Rattle.std.specs.Option.{option_or}
use Rattle.std.specs.List.{list_any}
use Rattle.std.proofs.lemmas.Bool.Decides.{nat_tests}
use Rattle.std.proofs.lemmas.List.Folds.{find-append}
use Rattle.machine.specs.declared.event.Goal.{Goal}
use Rattle.machine.specs.declared.event.Event.{Event}
use Rattle.machine.specs.declared.event.Event.TheVariants as event
use Rattle.machine.specs.declared.reply.Reply.{Reply}
use Rattle.machine.specs.Events.{took_for}
use Rattle.machine.specs.Pages.{is_number}
use Rattle.machine.specs.Tree.{Node, is_live, under, IsTree, preorder}
use Rattle.machine.specs.State.{Opening, State, opening_of}
use Rattle.machine.specs.Reclaim.{goal_in}
use Rattle.machine.specs.Order.{Cursor, no_cursor, cursor_at, heeds_age, takes_parts, asked_of, in_turn, asking_order, round_from, place_in, served_first}
use Rattle.machine.specs.Lists.{gives, gives_old, served}
use Rattle.machine.specs.Call.{Past, Caller, Called}
use Rattle.group_tree.proofs.TreeFacts.{live-within}
use Rattle.legal.proofs.OpeningLemmas.{tree_after, step_tree}
use Rattle.legal.proofs.SoundLemmas.{legal-sound, legal-fit}
use Rattle.laws.specs.Laws.{LeavesInOrder, Call, changes_groups, Follow, takes_for, is_asked, IsAskedThroughout, gives_in, turn_goes_on, pages_given, turns_begun, IsByTurns, SharesAreEven}
use Rattle.laws.proofs.Legals.{IsLegal, legal-called}
use Rattle.laws.proofs.CallLemmas.{IsOrdered, called_or, orders_or, ordered-called, called_leaves}
use Rattle.laws.proofs.OrderLemmas.{runs_ordered}
use Rattle.reclaim.proofs.PreorderOnce.{times, IsOnce, above-least, preorder_once, times-other}
use Rattle.laws.proofs.RoundLemmas.{comes_first, find-none, first_before, last_after, first_stays}

-- ---- the group that is served is the first that is asked

find-some : (test : ℕ → Bool) (gs : List ℕ) (other : Option ℕ) → list_any test gs ≡ true → option_or (find test gs) other ≡ find test gs
find-some test [] other some = absurd (let wrong : false ≡ true = some in cc)
find-some test (a ∷ gs) other some = by_test (find-some test gs other) (test a) refl some
  where
    by_test : (list_any test gs ≡ true → option_or (find test gs) other ≡ find test gs) → (b : Bool) → test a ≡ b → (b || list_any test gs) ≡ true
        → option_or (if test a then Some a else find test gs) other ≡ (if test a then Some a else find test gs)
    by_test more true is some = ap (λ b. option_or (if b then Some a else find test gs) other) is ∙ sym (ap (λ b. if b then Some a else find test gs) is)
    by_test more false is some = ap (λ b. option_or (if b then Some a else find test gs) other) is ∙ more some ∙ sym (ap (λ b. if b then Some a else find test gs) is)

find-any : (test : ℕ → Bool) (gs : List ℕ) (other : Option ℕ) → list_any test gs ≡ false → option_or (find test gs) other ≡ other
find-any test [] other none = refl
find-any test (a ∷ gs) other none = by_test (find-any test gs other) (test a) refl none
  where
    by_test : (list_any test gs ≡ false → option_or (find test gs) other ≡ other) → (b : Bool) → test a ≡ b → (b || list_any test gs) ≡ false → option_or (if test a then Some a else find test gs) other ≡ other
    by_test more true is none = absurd (let wrong : true ≡ false = none in cc)
    by_test more false is none = ap (λ b. option_or (if b then Some a else find test gs) other) is ∙ more none

first-asked : (heeds parts : Bool) (tree : List Node) (old given : ℕ → Bool) (target : ℕ) (cursor : Cursor)
    → served_first heeds parts tree old given target cursor
    ≡ find (λ g. if heeds && list_any old (asking_order parts tree target cursor) then old g else given g) (asking_order parts tree target cursor)
first-asked false parts tree old given target cursor = refl
first-asked true parts tree old given target cursor = by_old (list_any old (asking_order parts tree target cursor)) refl
  where
    by_old : (b : Bool) → list_any old (asking_order parts tree target cursor) ≡ b
        → option_or (find old (asking_order parts tree target cursor)) (find given (asking_order parts tree target cursor)) ≡ find (λ g. if b then old g else given g) (asking_order parts tree target cursor)
    by_old true some = find-some old (asking_order parts tree target cursor) (find given (asking_order parts tree target cursor)) some
    by_old false none = find-any old (asking_order parts tree target cursor) (find given (asking_order parts tree target cursor)) none

found-passes : (test : ℕ → Bool) (gs : List ℕ) (x : ℕ) → find test gs ≡ Some x → test x ≡ true
found-passes test [] x e = absurd (let wrong : None ≡ Some x = e in cc)
found-passes test (a ∷ gs) x e = by_test (found-passes test gs x) (test a) refl e
  where
    by_test : (find test gs ≡ Some x → test x ≡ true) → (b : Bool) → test a ≡ b → (if b then Some a else find test gs) ≡ Some x → test x ≡ true
    by_test more true is e = let same : a ≡ x = some_inj e in ap test (sym same) ∙ is
    by_test more false is e = more e

-- ---- the turn that goes on

-- what a turn goes on with is the group that was served last
turn-cursor : (parts : Bool) (tree : List Node) (target : ℕ) (cursor : Cursor) (test : ℕ → Bool) (x : ℕ) → find test (in_turn parts tree target cursor) ≡ Some x
    → (cursor.group ≡ Some x) × (list_any (λ a. a == x) (in_turn parts tree target cursor) ≡ true)
turn-cursor parts tree target cursor test x = by_left (parts && nat_lt 0 cursor.left) cursor.group
  where
    by_test : (c : ℕ) (b : Bool) → test c ≡ b → (if b then Some c else None) ≡ Some x → c ≡ x
    by_test c true is e = some_inj e
    by_test c false is e = absurd (let wrong : None ≡ Some x = e in cc)

    by_asked : (c : ℕ) (b : Bool) → find test (if b then c ∷ [] else []) ≡ Some x → (Some c ≡ Some x) × (list_any (λ a. a == x) (if b then c ∷ [] else []) ≡ true)
    by_asked c true e =
        let same = by_test c (test c) refl e in
        let own : (c == x) ≡ true = grind (arith, same) in
        (ap (λ n. Some n) same, ap (λ b. b || false) own)
    by_asked c false e = absurd (let wrong : None ≡ Some x = e in cc)

    by_group : (group : Option ℕ) → find test (asked_of tree target group) ≡ Some x → (group ≡ Some x) × (list_any (λ a. a == x) (asked_of tree target group) ≡ true)
    by_group None e = absurd (let wrong : None ≡ Some x = e in cc)
    by_group (Some c) e = by_asked c (is_live tree c && under tree target c) e

    by_left : (b : Bool) (group : Option ℕ) → find test (if b then asked_of tree target group else []) ≡ Some x
        → (group ≡ Some x) × (list_any (λ a. a == x) (if b then asked_of tree target group else []) ≡ true)
    by_left true group e = by_group group e
    by_left false group e = absurd (let wrong : None ≡ Some x = e in cc)

-- one that passes is none of those of which none does
none-here : (test : ℕ → Bool) (x : ℕ) (gs : List ℕ) → test x ≡ true → list_any test gs ≡ false → list_any (λ a. a == x) gs ≡ false
none-here test x [] passes none = refl
none-here test x (a ∷ gs) passes none = by_test (none-here test x gs passes) (a == x) refl (test a) refl none
  where
    by_test : (list_any test gs ≡ false → list_any (λ a. a == x) gs ≡ false) → (b : Bool) → (a == x) ≡ b → (t : Bool) → test a ≡ t → (t || list_any test gs) ≡ false → ((a == x) || list_any (λ a. a == x) gs) ≡ false
    by_test more b at true is none = absurd (let wrong : true ≡ false = none in cc)
    by_test more true at false is none =
        let same : a ≡ x = grind (arith, nat_tests, at) in
        absurd (let wrong : true ≡ false = sym passes ∙ ap test (sym same) ∙ is in cc)
    by_test more false at false is none = ap (λ b. b || list_any (λ a. a == x) gs) at ∙ more none

-- what is in a list comes there once at least
here-times : (h : ℕ) (gs : List ℕ) → list_any (λ a. a == h) gs ≡ true → 1 ≤ times h gs
here-times h [] here = absurd (let wrong : false ≡ true = here in cc)
here-times h (a ∷ gs) here = by_test (here-times h gs) (a == h) refl here
  where
    by_test : (list_any (λ a. a == h) gs ≡ true → 1 ≤ times h gs) → (b : Bool) → (a == h) ≡ b → (b || list_any (λ a. a == h) gs) ≡ true → 1 ≤ times h (a ∷ gs)
    by_test more true at here = let one : times h (a ∷ gs) ≡ 1 + times h gs = ap (λ b. (if b then 1 else 0) + times h gs) at in omega (arith, one)
    by_test more false at here = let same = times-other h a gs at in let some = more here in omega (arith, same, some)

-- ---- one call

stays_tree : (old : State) (what : Event) → changes_groups what ≡ false → tree_after old what ≡ old.tree
stays_tree old (event.Mkdir path) e = absurd (let wrong : true ≡ false = e in cc)
stays_tree old (event.Rmdir g) e = absurd (let wrong : true ≡ false = e in cc)
stays_tree old what e = refl

module _ (opening : Opening) (old new : Past) (caller : Caller) (what : Event) (answer : Reply) (called : Called old caller what answer new) (same : changes_groups what ≡ false) where
  call-tree : new.state.tree ≡ old.state.tree
  call-tree =
      called_or old new caller what answer (λ is. ap (λ (p : Past). p.state.tree) is) (λ h. step_tree old.state what answer new.state h.steps ∙ stays_tree old.state what same) called

  -- a call that takes no page for a target leaves its cursor
  call-cursor : (target : ℕ) → is_number (took_for what answer) target ≡ false → cursor_at new.order.cursors target ≡ cursor_at old.order.cursors target
  call-cursor target other =
      called_or old new caller what answer (λ is. ap (λ (p : Past). cursor_at p.order.cursors target) is)
      (λ h. orders_or old.state new.state old.order new.order what answer
      (λ goal t took stays takes.
      ap (λ (cs : List Cursor). cursor_at cs target) takes.moves
      ∙ get_or-set_other old.order.cursors t target _ no_cursor
      (λ e. let wrong : true ≡ false = sym (ap (λ o. is_number o target) took ∙ (let own : (t == target) ≡ true = grind (arith, e) in own)) ∙ other in cc))
      (λ path is adds. absurd (let wrong : true ≡ false = sym (ap changes_groups is) ∙ same in cc))
      (λ g is removes. absurd (let wrong : true ≡ false = sym (ap changes_groups is) ∙ same in cc))
      (λ word bits is merges. ap (λ (cs : List Cursor). cursor_at cs target) merges.1)
      (λ stays keeps. ap (λ (cs : List Cursor). cursor_at cs target) keeps.1)
      h.order)
      called

-- ---- what one call adds

-- the groups from behind the one that was served last on and round to it
abbrev ring : Past → ℕ → List ℕ
ring past target = round_from (preorder past.state.tree target) (place_in (preorder past.state.tree target) (cursor_at past.order.cursors target).group)

abbrev extra : Bool → ℕ
extra b = if b then 1 else 0

-- one more turn, if this group comes first
abbrev lead : ℕ → ℕ → List ℕ → ℕ
lead g h gs = extra (comes_first g h gs)

abbrev begun : ℕ → ℕ → Past → Call → ℕ
begun target g past c = extra (gives_in target g past c && not (turn_goes_on target g past c))

-- whose turn begins adds one, and no other does
counts-one : (given goes : Bool) → given ≡ true → goes ≡ false → extra (given && not goes) ≡ 1
counts-one true false is on = refl
counts-one true true is on = absurd (let wrong : true ≡ false = on in cc)
counts-one false goes is on = absurd (let wrong : false ≡ true = is in cc)

counts-none : (given goes : Bool) → given ≡ false → extra (given && not goes) ≡ 0
counts-none false goes is = refl
counts-none true goes is = absurd (let wrong : true ≡ false = is in cc)

counts-on : (given goes : Bool) → goes ≡ true → extra (given && not goes) ≡ 0
counts-on false goes on = refl
counts-on true true on = refl
counts-on true false on = absurd (let wrong : false ≡ true = on in cc)

lead-least : (b : Bool) → b ≡ true → extra b ≡ 1
lead-least true e = refl
lead-least false e = absurd (let wrong : false ≡ true = e in cc)

lead-none : (b : Bool) → b ≡ false → extra b ≡ 0
lead-none false e = refl
lead-none true e = absurd (let wrong : true ≡ false = e in cc)

lead-less : (a b : Bool) → (a ≡ true → b ≡ true) → extra a ≤ extra b
lead-less true b f = let one = lead-least b (f refl) in omega (arith, one)
lead-less false b f = omega arith

-- a call adds to the turns of one group no more than to those of another that it asks, with the lead that it takes away
abbrev Adds : ℕ → ℕ → ℕ → Past → Call → Type 0
Adds target g h past c = begun target g past c + lead g h (ring c.after target) ≤ begun target h past c + lead g h (ring past target)

module _ (opening : Opening) (past : Past) (c : Call) (called : Called past c.caller c.what c.answer c.after) (same : changes_groups c.what ≡ false) (legal : IsLegal opening past) (was : IsOrdered past) (target g h : ℕ)
    (differs : (g == h) ≡ false) (there : list_any (λ a. a == h) (preorder past.state.tree target) ≡ true) where
  tree-same : c.after.state.tree ≡ past.state.tree
  tree-same = call-tree opening past c.after c.caller c.what c.answer called same

  ring-of : (group : Option ℕ) → (cursor_at c.after.order.cursors target).group ≡ group → ring c.after target ≡ round_from (preorder past.state.tree target) (place_in (preorder past.state.tree target) group)
  ring-of group is =
      ap (λ (tree : List Node). round_from (preorder tree target) (place_in (preorder tree target) (cursor_at c.after.order.cursors target).group)) tree-same
      ∙ ap (λ o. round_from (preorder past.state.tree target) (place_in (preorder past.state.tree target) o)) is

  -- no page is taken for the target
  adds-none : takes_for target c ≡ false → Adds target g h past c
  adds-none other =
      let stays : ring c.after target ≡ ring past target = ring-of (cursor_at past.order.cursors target).group (ap (λ (cursor : Cursor). cursor.group) (call-cursor opening past c.after c.caller c.what c.answer called same target other)) in
      let one = counts-none (gives_in target g past c) (turn_goes_on target g past c) (ap (λ b. b && is_number (served past.state past.order (goal_in c.what) target) g) other) in
      let lead_same : lead g h (ring c.after target) ≡ lead g h (ring past target) = ap (lead g h) stays in
      omega (arith, one, lead_same)

  module _ (took : took_for c.what c.answer ≡ Some target) (asked : is_asked past (goal_in c.what) target h ≡ true) where
    abbrev goal : Goal
    goal = goal_in c.what

    abbrev parts : Bool
    parts = takes_parts past.state.opening.placement goal

    abbrev cursor : Cursor
    cursor = cursor_at past.order.cursors target

    abbrev walk : List ℕ
    walk = preorder past.state.tree target

    leaves : LeavesInOrder past goal target c.after
    leaves = called_leaves opening past c.after c.caller c.what c.answer target took called legal was

    abbrev x : ℕ
    x = leaves.taken.page.group

    falls : IsTree past.state.tree
    falls = (legal-sound opening past.history past.state legal).1.falls

    once : IsOnce walk
    once =
        let least = above-least past.state.tree falls target x leaves.taken.below in
        let inside = live-within past.state.tree x (legal-fit opening past.history past.state legal leaves.taken.p leaves.taken.page leaves.taken.there).live in
        preorder_once past.state.tree falls target (omega (arith, least, inside))

    -- it is the first that is asked
    found : option_or (find (is_asked past goal target) (in_turn parts past.state.tree target cursor)) (find (is_asked past goal target) (ring past target)) ≡ Some x
    found =
        sym (find-append (is_asked past goal target) (in_turn parts past.state.tree target cursor) (ring past target))
        ∙ sym (first-asked (heeds_age past.state.opening.placement goal target) parts past.state.tree (gives_old past.state past.order.held target) (gives past.state target) target cursor) ∙ leaves.turn

    -- and it alone gives
    given : (a : ℕ) → gives_in target a past c ≡ (x == a)
    given a =
        let own : (target == target) ≡ true = grind arith in
        ap (λ o. is_number o target && is_number (served past.state past.order goal target) a) took ∙ ap (λ b. b && is_number (served past.state past.order goal target) a) own ∙ ap (λ o. is_number o a) leaves.turn

    ring-after : ring c.after target ≡ round_from walk (place_in walk (Some x))
    ring-after = ring-of (Some x) leaves.named

    -- its turn goes on
    goes-on : find (is_asked past goal target) (in_turn parts past.state.tree target cursor) ≡ Some x → Adds target g h past c
    goes-on first =
        let on = turn-cursor parts past.state.tree target cursor (is_asked past goal target) x first in
        let none = by_given (x == g) refl on.1 in
        let stays : lead g h (ring c.after target) ≡ lead g h (ring past target) = ap (lead g h) (ring-after ∙ ap (λ o. round_from walk (place_in walk o)) (sym on.0)) in
        omega (arith, none, stays)
      where
        by_given : (b : Bool) → (x == g) ≡ b → list_any (λ a. a == x) (in_turn parts past.state.tree target cursor) ≡ true → begun target g past c ≡ 0
        by_given true here on =
            let its : x ≡ g = grind (arith, nat_tests, here) in
            counts-on (gives_in target g past c) (turn_goes_on target g past c) (ap (λ n. list_any (λ a. a == n) (in_turn parts past.state.tree target cursor)) (sym its) ∙ on)
        by_given false other on = counts-none (gives_in target g past c) (turn_goes_on target g past c) (given g ∙ other)

    -- or it begins
    begins : list_any (is_asked past goal target) (in_turn parts past.state.tree target cursor) ≡ false → find (is_asked past goal target) (ring past target) ≡ Some x → is_asked past goal target x ≡ true
        → Adds target g h past c
    begins idle first passes = by_group (x == h) refl (x == g) refl
      where
        some : 1 ≤ times h walk
        some = here-times h walk there

        on : (a : ℕ) → x ≡ a → turn_goes_on target a past c ≡ false
        on a its = ap (λ n. list_any (λ b. b == n) (in_turn parts past.state.tree target cursor)) (sym its) ∙ none-here (is_asked past goal target) x (in_turn parts past.state.tree target cursor) passes idle

        one : (a : ℕ) → (x == a) ≡ true → begun target a past c ≡ 1
        one a here = counts-one (gives_in target a past c) (turn_goes_on target a past c) (given a ∙ here) (on a (let its : x ≡ a = grind (arith, nat_tests, here) in its))

        none : (a : ℕ) → (x == a) ≡ false → begun target a past c ≡ 0
        none a other = counts-none (gives_in target a past c) (turn_goes_on target a past c) (given a ∙ other)

        most : (b : Bool) → extra b ≤ 1
        most true = omega arith
        most false = omega arith

        by_group : (b : Bool) → (x == h) ≡ b → (d : Bool) → (x == g) ≡ d → Adds target g h past c
        by_group true here true here_too =
            let its : x ≡ h = grind (arith, nat_tests, here) in
            let other : x ≡ g = grind (arith, nat_tests, here_too) in
            absurd (let wrong : true ≡ false = (let both : (g == h) ≡ true = grind (arith, its, other) in sym both) ∙ differs in cc)
        by_group true here false other =
            let adds = one h here in
            let adds_none = none g other in
            let least = most (comes_first g h (ring c.after target)) in
            omega (arith, adds, adds_none, least)
        by_group false other true here =
            let its : x ≡ g = grind (arith, nat_tests, here) in
            let adds = one g here in
            let adds_none = none h other in
            let before : lead g h (ring past target) ≡ 1 =
            lead-least (comes_first g h (ring past target))
            (ap (λ n. comes_first n h (ring past target)) (sym its) ∙ first_before (is_asked past goal target) walk (place_in walk cursor.group) x g h once first asked some other) in
            let behind : lead g h (ring c.after target) ≡ 0 =
            lead-none (comes_first g h (ring c.after target))
            (ap (comes_first g h) ring-after ∙ ap (λ n. comes_first n h (round_from walk (place_in walk (Some x)))) (sym its) ∙ last_after (is_asked past goal target) walk (place_in walk cursor.group) x g h once first asked some other) in
            omega (arith, adds, adds_none, before, behind)
        by_group false other false nor =
            let adds_none = none g nor in
            let none_too = none h other in
            let less =
            lead-less (comes_first g h (ring c.after target)) (comes_first g h (ring past target))
            (λ is. first_stays (is_asked past goal target) walk (place_in walk cursor.group) x g h once first asked some other nor (sym (ap (comes_first g h) ring-after) ∙ is)) in
            omega (arith, adds_none, none_too, less)

    adds-one : Adds target g h past c
    adds-one = by_turn (find (is_asked past goal target) (in_turn parts past.state.tree target cursor)) refl found
      where
        passes : (gs : List ℕ) → find (is_asked past goal target) gs ≡ Some x → is_asked past goal target x ≡ true
        passes gs first = found-passes (is_asked past goal target) gs x first

        by_turn : (front : Option ℕ) → find (is_asked past goal target) (in_turn parts past.state.tree target cursor) ≡ front → option_or (find (is_asked past goal target) (in_turn parts past.state.tree target cursor)) (find (is_asked past goal target) (ring past target)) ≡ Some x → Adds target g h past c
        by_turn (Some y) is first = goes-on (is ∙ (let both : Some y ≡ Some x = sym (ap (λ o. option_or o (find (is_asked past goal target) (ring past target))) is) ∙ first in both))
        by_turn None is first =
            let later : find (is_asked past goal target) (ring past target) ≡ Some x = sym (ap (λ o. option_or o (find (is_asked past goal target) (ring past target))) is) ∙ first in
            begins (find-none (is_asked past goal target) (in_turn parts past.state.tree target cursor) is) later (passes (ring past target) later)

  call-adds : (takes_for target c ≡ true → is_asked past (goal_in c.what) target h ≡ true) → Adds target g h past c
  call-adds asked = by_taken (took_for c.what c.answer) refl
    where
      by_target : (t : ℕ) → took_for c.what c.answer ≡ Some t → (b : Bool) → (t == target) ≡ b → Adds target g h past c
      by_target t took true here =
          let its : t ≡ target = grind (arith, nat_tests, here) in
          adds-one (took ∙ ap (λ n. Some n) its) (asked (ap (λ o. is_number o target) took ∙ here))
      by_target t took false other = adds-none (ap (λ o. is_number o target) took ∙ other)

      by_taken : (taken : Option ℕ) → took_for c.what c.answer ≡ taken → Adds target g h past c
      by_taken None is = adds-none (ap (λ o. is_number o target) is)
      by_taken (Some t) is = by_target t is (t == target) refl

-- ---- all calls

module _ (opening : Opening) (target g h : ℕ) (differs : (g == h) ≡ false) where
  turns-even : (past : Past) (calls : List Call) → IsLegal opening past → IsOrdered past → Follow past calls → list_any (λ a. a == h) (preorder past.state.tree target) ≡ true → IsAskedThroughout target h past calls
      → turns_begun target g past calls ≤ turns_begun target h past calls + lead g h (ring past target)
  turns-even past [] legal was follow there asked = omega arith
  turns-even past (c ∷ later) legal was follow there asked =
      let after = legal-called opening past c.after c.caller c.what c.answer follow.0 legal in
      let adds = call-adds opening past c follow.0 follow.1 legal was target g h differs there asked.0 in
      let tree = call-tree opening past c.after c.caller c.what c.answer follow.0 follow.1 in
      let rest =
      turns-even c.after later after (ordered-called opening past c.after c.caller c.what c.answer after follow.0 was) follow.2 (ap (λ (t : List Node). list_any (λ a. a == h) (preorder t target)) tree ∙ there) asked.1 in
      omega (arith, adds, rest)

-- where a turn is one page, as many turns begin as pages are given
pages-turns : (target g : ℕ) (past : Past) (calls : List Call) → IsByTurns target past calls → pages_given target g past calls ≡ turns_begun target g past calls
pages-turns target g past [] turns = refl
pages-turns target g past (c ∷ later) turns =
    ap (λ n. extra (gives_in target g past c) + n) (pages-turns target g c.after later turns.1)
    ∙ ap (λ n. n + turns_begun target g c.after later) (by_taken (takes_for target c) refl turns.0)
  where
    ends : (b : Bool) → extra b ≡ extra (b && not false)
    ends true = refl
    ends false = refl

    by_taken : (b : Bool) → takes_for target c ≡ b → (takes_for target c ≡ true → takes_parts past.state.opening.placement (goal_in c.what) ≡ false)
        → extra (gives_in target g past c) ≡ begun target g past c
    by_taken true is single =
        ends (gives_in target g past c)
        ∙ ap (λ b. extra (gives_in target g past c && not (list_any (λ a. a == g) (in_turn b past.state.tree target (cursor_at past.order.cursors target))))) (sym (single is))
    by_taken false is single =
        ap (λ b. extra (b && is_number (served past.state past.order (goal_in c.what) target) g)) is
        ∙ ap (λ b. extra ((b && is_number (served past.state past.order (goal_in c.what) target) g) && not (turn_goes_on target g past c))) (sym is)

-- a lead is one turn
even-lead : (a b : ℕ) (first : Bool) → a ≤ b + extra first → a ≤ b + 1
even-lead a b true h = h
even-lead a b false h = omega (arith, h)

pub shares_are_even : SharesAreEven
shares_are_even config before lines answers end runs target g h calls follow there asked =
    let turns = by_group (g == h) refl in
    (turns, λ single. subst (λ n. n ≤ pages_given target h end.past calls + 1) (sym (pages-turns target g end.past calls single)) (subst (λ n. turns_begun target g end.past calls ≤ n + 1) (sym (pages-turns target h end.past calls single)) turns))
  where
    by_group : (b : Bool) → (g == h) ≡ b → turns_begun target g end.past calls ≤ turns_begun target h end.past calls + 1
    by_group true here =
        let its : g ≡ h = grind (arith, nat_tests, here) in
        let both : turns_begun target g end.past calls ≡ turns_begun target h end.past calls = ap (λ n. turns_begun target n end.past calls) its in
        omega (arith, both)
    by_group false differs =
        let ordered = runs_ordered config before lines answers end runs in
        even-lead _ _ _ (turns-even (opening_of config) target g h differs end.past calls ordered.tickets.legal ordered.order follow there asked)

-- Where a reclaim heeds age, and some group has an old page of a file to give, the group that is served has one.
use Rattle.std.proofs.Common.{inl, inr, ◌≡◌, ℕ, zero, suc, ◌+◌, ◌<◌, ◌≤◌, ◌==◌, ◌||◌, Bool, true, false, if◌then◌else◌, List, [], ◌∷◌, length, drop, take, map, filter, Option, Some, None, refl, sym, ap, ◌∙◌, subst, arith}
use Rattle.std.specs.Prelude.{flat_map, find}
use Rattle.std.specs.List.{list_any, enumerate_from}
use Rattle.std.specs.Option.{option_or}
use Rattle.std.proofs.lemmas.Bool.{cases_Bool, and_from, and_parts, or_left, or_right, or_cases}
use Rattle.std.proofs.lemmas.Bool.Decides.{nat_tests}
use Rattle.std.proofs.lemmas.List.{take-append-drop}
use Rattle.std.proofs.lemmas.List.Folds.{list_any-append, list_any_at, Any-from_list_any}
use Rattle.machine.specs.declared.entry.Entry.{Entry}
use Rattle.machine.specs.declared.event.Goal.{Goal}
use Rattle.machine.specs.Slots.{at, any_there}
use Rattle.machine.specs.Tree.{Node, node_at, is_live, is_child, is_parent, under, under_at, IsTree, numbers, preorder_to, preorder}
use Rattle.machine.specs.Pages.{Page}
use Rattle.machine.specs.Order.{Cursor, round_from, place_in, in_turn, asking_order, served_by, heeds_age, takes_parts, served_first, cursor_at}
use Rattle.machine.specs.State.{Opening, State}
use Rattle.machine.specs.Reclaim.{is_next}
use Rattle.machine.specs.Eviction.{has_old_file}
use Rattle.machine.specs.Lists.{Order, seen_of, is_next_of, gives, gives_old, served}
use Rattle.machine.specs.Legal.{Legal}
use Rattle.machine.proofs.Values.{some_inj, unlike}
use Rattle.machine.proofs.TreeLemmas.{eq_cases, under_at-None, under_at-step}
use Rattle.page_lists.proofs.TakeableLemmas.{next-takeable, takeable-below}
use Rattle.legal.proofs.SoundLemmas.{live-below, legal-sound, legal-fit}

-- ---- the first of a list that passes

-- what is found passes
found-passes : (test : ℕ → Bool) (gs : List ℕ) (g : ℕ) → find test gs ≡ Some g → test g ≡ true
found-passes test [] g e = absurd cc
found-passes test (a ∷ gs) g e = by_test (found-passes test gs g) (test a) refl e
  where
    by_test : (find test gs ≡ Some g → test g ≡ true) → (b : Bool) → test a ≡ b → (if b then Some a else find test gs) ≡ Some g → test g ≡ true
    by_test rest true is found = ap test (sym (some_inj found)) ∙ is
    by_test rest false is found = rest found

-- and where none is found, none passes
none-passes : (test : ℕ → Bool) (gs : List ℕ) → find test gs ≡ None → list_any test gs ≡ false
none-passes test [] e = refl
none-passes test (a ∷ gs) e = by_test (none-passes test gs) (test a) refl e
  where
    by_test : (find test gs ≡ None → list_any test gs ≡ false) → (b : Bool) → test a ≡ b → (if b then Some a else find test gs) ≡ None → (test a || list_any test gs) ≡ false
    by_test rest true is none = absurd cc
    by_test rest false is none = ap (λ b. b || list_any test gs) is ∙ rest none

-- a test that a group of the list passes, one of the list passes
one-passes : (test : ℕ → Bool) (g : ℕ) (gs : List ℕ) → list_any (λ a. a == g) gs ≡ true → test g ≡ true → list_any test gs ≡ true
one-passes test g gs here passes =
    let place = Any-from_list_any (λ a. a == g) gs here in
    let same : place.1 ≡ g = grind (arith, nat_tests, place.4) in
    list_any_at test gs place.0 place.1 place.2 (ap test (place.3 ∙ same) ∙ passes)

-- ---- the order of asking

either_way : (a b : Bool) → (a || b) ≡ (b || a)
either_way true true = refl
either_way true false = refl
either_way false true = refl
either_way false false = refl

-- it has each group of the walk from the target, wherever it begins
round-any : (test : ℕ → Bool) (gs : List ℕ) (place : Option ℕ) → list_any test (round_from gs place) ≡ list_any test gs
round-any test gs None = refl
round-any test gs (Some k) =
    list_any-append test (drop (k + 1) gs) (take (k + 1) gs) ∙ either_way (list_any test (drop (k + 1) gs)) (list_any test (take (k + 1) gs))
    ∙ sym (list_any-append test (take (k + 1) gs) (drop (k + 1) gs)) ∙ ap (list_any test) (take-append-drop (k + 1) gs)

-- ---- the groups that a walk comes to

is_among : ℕ → List ℕ → Bool
is_among g gs = list_any (λ a. a == g) gs

chosen : (test : ℕ → Bool) (n : ℕ) (ns : List ℕ) (b : Bool) → test n ≡ b → filter test (n ∷ ns) ≡ (if b then n ∷ filter test ns else filter test ns)
chosen test n ns b e = ap (λ t. if t then n ∷ filter test ns else filter test ns) e

-- what lists joined end to end have, one of them has
joined_one : (g : ℕ) (test : ℕ → Bool) (f : ℕ → List ℕ) (ns : List ℕ) → is_among g (flat_map f (filter test ns)) ≡ true → (c : ℕ) × (test c ≡ true) × (is_among g (f c) ≡ true)
unfolding is_among
joined_one g test f [] h = absurd cc
joined_one g test f (n ∷ ns) h =
    elim (cases_Bool (test n)) [
      | inl passes ↦ elim (or_cases _ _ (sym (list_any-append (λ a. a == g) (f n) (flat_map f (filter test ns))) ∙ ap (λ cs. is_among g (flat_map f cs)) (sym (chosen test n ns true passes)) ∙ h)) [
        | inl here ↦ (n, passes, here)
        | inr later ↦ joined_one g test f ns later
      ]
      | inr fails ↦ joined_one g test f ns (ap (λ cs. is_among g (flat_map f cs)) (sym (chosen test n ns false fails)) ∙ h)
    ]

-- and what one of them has, they have
joined_any : (g c : ℕ) (test : ℕ → Bool) (f : ℕ → List ℕ) (ns : List ℕ) → is_among c ns ≡ true → test c ≡ true → is_among g (f c) ≡ true → is_among g (flat_map f (filter test ns)) ≡ true
unfolding is_among
joined_any g c test f [] h passes own = absurd cc
joined_any g c test f (n ∷ ns) h passes own =
    elim (eq_cases n c) [
      | inl same ↦
          (let taken = ap (λ cs. is_among g (flat_map f cs)) (chosen test n ns true (ap test same ∙ passes)) in
          taken ∙ list_any-append (λ a. a == g) (f n) (flat_map f (filter test ns)) ∙ or_left _ _ (ap (λ m. is_among g (f m)) same ∙ own))
      | inr other ↦
          (let differs : (n == c) ≡ false = grind (arith, other) in
          let later = joined_any g c test f ns (sym (ap (λ b. b || is_among c ns) differs) ∙ h) passes own in
          elim (cases_Bool (test n)) [
            | inl taken ↦
                ap (λ cs. is_among g (flat_map f cs)) (chosen test n ns true taken) ∙ list_any-append (λ a. a == g) (f n) (flat_map f (filter test ns))
                ∙ or_right _ _ later
            | inr left_out ↦ ap (λ cs. is_among g (flat_map f cs)) (chosen test n ns false left_out) ∙ later
          ])
    ]

numbered : (k g : ℕ) (xs : List Node) → k ≤ g → g < k + length xs → is_among g (map (λ e. e.0) (enumerate_from k xs)) ≡ true
unfolding is_among
numbered k g [] from to = absurd (omega arith)
numbered k g (x ∷ xs) from to =
    elim (eq_cases k g) [
      | inl same ↦ or_left _ _ (let here : (k == g) ≡ true = grind (arith, same) in here)
      | inr other ↦ or_right _ _ (numbered (k + 1) g xs (omega (arith, other)) (omega arith))
    ]

-- each live group has its number in the list
live-numbered : (tree : List Node) (g : ℕ) → is_live tree g ≡ true → is_among g (numbers tree) ≡ true
live-numbered tree g live = let below = live-below tree g live in numbered 0 g tree (omega arith) (omega (arith, below))

-- a walk that comes to a group comes to its children, one step deeper
walk-child : (tree : List Node) (p g : ℕ) → is_child p (node_at tree g) ≡ true → (n s : ℕ) → is_among p (preorder_to n tree s) ≡ true → is_among g (preorder_to (suc n) tree s) ≡ true
unfolding is_among preorder_to
walk-child tree p g child zero s h = absurd cc
walk-child tree p g child (suc n) s h =
    elim (or_cases (s == p) _ h) [
      | inl here ↦
          (let same : s ≡ p = grind (arith, here) in
          let own : (g == g) ≡ true = grind arith in
          let first : is_among g (preorder_to (suc n) tree g) ≡ true = or_left (g == g) _ own in
          or_right (s == g) _
          (joined_any g g (λ c. is_child s (node_at tree c)) (preorder_to (suc n) tree) (numbers tree) (live-numbered tree g (and_parts _ _ child).0) (ap (λ q. is_child q (node_at tree g)) same ∙ child) first))
      | inr later ↦
          (let below = joined_one p (λ c. is_child s (node_at tree c)) (preorder_to n tree) (numbers tree) later in
          or_right (s == g) _
          (joined_any g below.0 (λ c. is_child s (node_at tree c)) (preorder_to (suc n) tree) (numbers tree) (live-numbered tree below.0 (and_parts _ _ below.1).0) below.1
          (walk-child tree p g child n below.0 below.2)))
    ]

module _ (tree : List Node) (is : IsTree tree) (above : (g p : ℕ) → is_live tree g ≡ true → (node_at tree g).parent ≡ Some p → is_live tree p ≡ true) (target : ℕ) where
  -- so it comes to each live group below the target, as deep as that group has a number
  walk-reaches : (n g : ℕ) → g < n → is_live tree g ≡ true → under tree target g ≡ true → (at : Option ℕ) → (node_at tree g).parent ≡ at → is_among g (preorder_to n tree target) ≡ true
  unfolding is_among preorder_to
  walk-reaches zero g lt live below at parent = absurd (omega arith)
  walk-reaches (suc n) g lt live below None parent =
      elim (or_cases (target == g) _ (sym (under_at-step tree is target g) ∙ below)) [
        | inl here ↦ or_left (target == g) _ here
        | inr higher ↦ absurd (let none : true ≡ false = sym higher ∙ ap (under_at tree target) parent ∙ under_at-None tree is target in cc)
      ]
  walk-reaches (suc n) g lt live below (Some p) parent =
      elim (or_cases (target == g) _ (sym (under_at-step tree is target g) ∙ below)) [
        | inl here ↦ or_left (target == g) _ here
        | inr higher ↦
            (let falls = is.falls g p parent in
            let own : (p == p) ≡ true = grind arith in
            let child : is_child p (node_at tree g) ≡ true = and_from _ _ live (ap (λ at. is_parent at p) parent ∙ own) in
            let more = walk-reaches n p (omega (arith, falls)) (above g p live parent) (ap (under_at tree target) (sym parent) ∙ higher) (node_at tree p).parent refl in
            walk-child tree p g child n target more)
      ]

  walk-has : (g : ℕ) → is_live tree g ≡ true → under tree target g ≡ true → list_any (λ a. a == g) (preorder tree target) ≡ true
  unfolding is_among
  walk-has g live below = walk-reaches (length tree) g (live-below tree g live) live below (node_at tree g).parent refl

-- ---- the pages of a group that gives one

-- where some page passes a test, one that is there does
some-there : (test : Page → Bool) (slots : List (Option Page)) → any_there test slots ≡ true → (p : ℕ) × (page : Page) × (at slots p ≡ Some page) × (test page ≡ true)
some-there test [] e = absurd cc
some-there test (None ∷ slots) e = let later = some-there test slots e in (suc later.0, later.1, later.2, later.3)
some-there test (Some page ∷ slots) e =
    elim (or_cases (test page) _ e) [
      | inl passes ↦ (0, page, refl, passes)
      | inr rest ↦ (let later = some-there test slots rest in (suc later.0, later.1, later.2, later.3))
    ]

-- in a state that a legal history leads to, a walk from the target comes to each group that has a page to give
giver-asked : (opening : Opening) (history : List Entry) (s : State) → Legal opening history s → (target g : ℕ) → gives s target g ≡ true → list_any (λ a. a == g) (preorder s.tree target) ≡ true
giver-asked opening history s legal target g given =
    let found = some-there (is_next_of s target g) s.pages given in
    let page = found.1 in
    let its = and_parts (page.group == g) (is_next s target page) found.3 in
    let same : page.group ≡ g = grind (arith, nat_tests, its.0) in
    let sound = (legal-sound opening history s legal).1 in
    walk-has s.tree sound.falls sound.above target g (subst (λ a. is_live s.tree a ≡ true) same (legal-fit opening history s legal found.0 page found.2).live)
    (subst (λ a. under s.tree target a ≡ true) same (takeable-below s target page (next-takeable s target page its.1)))

-- ---- who is served

-- where age is heeded, and a group of the walk has an old one to give, so has the one that is served
first-has_old : (parts : Bool) (tree : List Node) (gives_old gives : ℕ → Bool) (target : ℕ) (cursor : Cursor) (h g : ℕ) → list_any (λ a. a == h) (preorder tree target) ≡ true → gives_old h ≡ true
    → served_first true parts tree gives_old gives target cursor ≡ Some g → gives_old g ≡ true
first-has_old parts tree gives_old gives target cursor h g here old next = by_found (served_by parts tree gives_old target cursor) refl next
  where
    round : List ℕ
    round = round_from (preorder tree target) (place_in (preorder tree target) cursor.group)

    order : List ℕ
    order = asking_order parts tree target cursor

    one : list_any gives_old order ≡ true
    one =
        list_any-append gives_old (in_turn parts tree target cursor) round
        ∙ or_right _ _ (round-any gives_old (preorder tree target) (place_in (preorder tree target) cursor.group) ∙ one-passes gives_old h (preorder tree target) here old)

    by_found : (found : Option ℕ) → served_by parts tree gives_old target cursor ≡ found → option_or found (served_by parts tree gives target cursor) ≡ Some g → gives_old g ≡ true
    by_found None none is = unlike (list_any gives_old order) one (none-passes gives_old order none)
    by_found (Some a) found is = found-passes gives_old order g (found ∙ is)

-- so it is with the group that an order serves, in a state that a legal history leads to
pub served-has_old : (opening : Opening) (history : List Entry) (s : State) → Legal opening history s → (order : Order) (goal : Goal) (target h g : ℕ) → heeds_age opening.placement goal target ≡ true
    → gives_old s order.held target h ≡ true → served s order goal target ≡ Some g → gives_old s order.held target g ≡ true
served-has_old opening history s legal order goal target h g heeds old next =
    let asked = giver-asked opening history s legal target h (and_parts (gives s target h) (has_old_file (seen_of order.held h)) old).0 in
    let heeded : heeds_age s.opening.placement goal target ≡ true = ap (λ (o : Opening). heeds_age o.placement goal target) (legal-sound opening history s legal).0 ∙ heeds in
    let parts = takes_parts s.opening.placement goal in
    first-has_old parts s.tree (gives_old s order.held target) (gives s target) target (cursor_at order.cursors target) h g asked old
    (ap (λ b. served_first b parts s.tree (gives_old s order.held target) (gives s target) target (cursor_at order.cursors target)) (sym heeded) ∙ next)

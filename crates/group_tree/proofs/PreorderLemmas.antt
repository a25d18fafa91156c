-- A walk over a group and those below it, step by step.
use Rattle.std.proofs.Common.{inl, inr, ◌≡◌, ℕ, zero, suc, ◌+◌, ◌<◌, ◌≤◌, ◌==◌, Bool, true, false, if◌then◌else◌, ◌&&◌, ◌||◌, List, [], ◌∷◌, ◌++◌, length, drop, get_or, map, filter, Option, Some, None, refl, sym, ap, ◌∙◌, subst, arith, add-one, drop-cons, length-drop}
use Rattle.std.specs.Prelude.{flat_map}
use Rattle.std.specs.List.{enumerate_from, list_any}
use Rattle.std.proofs.lemmas.Bool.{cases_lt, cases_Bool, and_from, and_parts, or_left, or_right, or_cases}
use Rattle.std.proofs.lemmas.Bool.Decides.{nat_tests}
use Rattle.std.proofs.lemmas.List.Folds.{list_any-append}
use Rattle.machine.specs.Tree.{Node, no_node, node_at, is_live, is_child, is_parent, under, under_at, IsTree, numbers, children, preorder_to, preorder}
use Rattle.machine.proofs.TreeLemmas.{eq_cases, under_at-None, under_at-step}
use Rattle.group_tree.specs.Groups.{IsGroupTree}
use Rattle.group_tree.specs.Walk.{children_among, children_from}
use Rattle.group_tree.proofs.TreeFacts.{live-within, within}
use Rattle.group_tree.proofs.LineageLemmas.{under-child}
use Rattle.group_tree.proofs.WalkLemmas.{under_here}

nothing_left : (xs : List Node) → length xs ≡ 0 → xs ≡ []
nothing_left [] h = refl
nothing_left (x ∷ xs) h = absurd (omega arith)

-- there is no child beyond the last group
pub children_from-end : (tree : List Node) (p k : ℕ) → length tree ≤ k → children_from tree p k ≡ []
children_from-end tree p k h =
    ap (children_among p k) (nothing_left (drop k tree) (let len = length-drop k tree in omega (arith, len)))

-- a group is a child, or it is not
children_from-step : (tree : List Node) (p k : ℕ) → k < length tree
    → children_from tree p k ≡ (if is_child p (node_at tree k) then k ∷ children_from tree p (k + 1) else children_from tree p (k + 1))
children_from-step tree p k h =
    ap (children_among p k) (drop-cons tree k no_node h)
    ∙ ap (λ j. if is_child p (node_at tree k) then k ∷ children_among p (k + 1) (drop j tree) else children_among p (k + 1) (drop j tree)) (sym (add-one k))

pub children_from-child : (tree : List Node) (p k : ℕ) → k < length tree → is_child p (node_at tree k) ≡ true → children_from tree p k ≡ k ∷ children_from tree p (k + 1)
children_from-child tree p k h t =
    children_from-step tree p k h ∙ ap (λ b. if b then k ∷ children_from tree p (k + 1) else children_from tree p (k + 1)) t

pub children_from-other : (tree : List Node) (p k : ℕ) → k < length tree → is_child p (node_at tree k) ≡ false → children_from tree p k ≡ children_from tree p (k + 1)
children_from-other tree p k h t =
    children_from-step tree p k h ∙ ap (λ b. if b then k ∷ children_from tree p (k + 1) else children_from tree p (k + 1)) t

-- the children of the definition are those from the first group on
among_numbers : (at : ℕ → Node) (p k : ℕ) (xs : List Node) → ((i : ℕ) → i < length xs → at (k + i) ≡ get_or xs i no_node)
    → filter (λ g. is_child p (at g)) (map (λ e. e.0) (enumerate_from k xs)) ≡ children_among p k xs
among_numbers at p k [] h = refl
among_numbers at p k (x ∷ xs) h =
    let here : at k ≡ x = ap at (let same : k ≡ k + 0 = omega arith in same) ∙ h 0 (omega arith) in
    let others = among_numbers at p (k + 1) xs (λ i lt. ap at (let same : k + 1 + i ≡ k + suc i = omega arith in same) ∙ h (suc i) (omega arith)) in
    ap (λ node. if is_child p node then k ∷ filter (λ g. is_child p (at g)) (map (λ e. e.0) (enumerate_from (k + 1) xs)) else filter (λ g. is_child p (at g)) (map (λ e. e.0) (enumerate_from (k + 1) xs))) here
    ∙ ap (λ rest. if is_child p x then k ∷ rest else rest) others

pub children-from : (tree : List Node) (p : ℕ) → children tree p ≡ children_from tree p 0
children-from tree p = among_numbers (node_at tree) p 0 tree (λ i lt. ap (node_at tree) (let same : 0 + i ≡ i = omega arith in same))

pub is_parent-same : (at : Option ℕ) (p : ℕ) → is_parent at p ≡ true → at ≡ Some p
is_parent-same None p e = absurd cc
is_parent-same (Some q) p e = let same : q ≡ p = grind (arith, nat_tests, e) in ap Some same

pub child_parent : (tree : List Node) (p g : ℕ) → is_child p (node_at tree g) ≡ true → (node_at tree g).parent ≡ Some p
child_parent tree p g t = is_parent-same _ p (and_parts (node_at tree g).live _ t).1

pub child-from : (tree : List Node) (p g : ℕ) → is_live tree g ≡ true → (node_at tree g).parent ≡ Some p → is_child p (node_at tree g) ≡ true
child-from tree p g live below = and_from (is_live tree g) _ live (ap (λ at. is_parent at p) below ∙ (let own : (p == p) ≡ true = grind arith in own))

flat_map-child : (tree : List Node) (f h : ℕ → List ℕ) (p k : ℕ) → ((node_at tree k).parent ≡ Some p → f k ≡ h k) → k < length tree
    → flat_map f (children_from tree p (k + 1)) ≡ flat_map h (children_from tree p (k + 1)) → (b : Bool) → is_child p (node_at tree k) ≡ b
    → flat_map f (children_from tree p k) ≡ flat_map h (children_from tree p k)
flat_map-child tree f h p k same lt rest true t =
    let step = children_from-child tree p k lt t in
    ap (flat_map f) step ∙ ap (λ ys. ys ++ flat_map f (children_from tree p (k + 1))) (same (child_parent tree p k t)) ∙ ap (λ ys. h k ++ ys) rest ∙ sym (ap (flat_map h) step)
flat_map-child tree f h p k same lt rest false t =
    let step = children_from-other tree p k lt t in
    ap (flat_map f) step ∙ rest ∙ sym (ap (flat_map h) step)

-- what agrees at each child of a group from a number on agrees over them all
pub flat_map-children : (tree : List Node) (f h : ℕ → List ℕ) (p low : ℕ) → ((c : ℕ) → low ≤ c → (node_at tree c).parent ≡ Some p → f c ≡ h c) → (n k : ℕ) → low ≤ k → length tree ≤ n + k
    → flat_map f (children_from tree p k) ≡ flat_map h (children_from tree p k)
flat_map-children tree f h p low same zero k from e = let none = children_from-end tree p k (omega arith) in ap (flat_map f) none ∙ sym (ap (flat_map h) none)
flat_map-children tree f h p low same (suc n) k from e =
    elim (cases_lt k (length tree)) [
      | inl lt ↦ flat_map-child tree f h p k (same k from) lt (flat_map-children tree f h p low same n (k + 1) (omega arith) (omega arith)) (is_child p (node_at tree k)) refl
      | inr ge ↦ (let none = children_from-end tree p k ge in ap (flat_map f) none ∙ sym (ap (flat_map h) none))
    ]

module _ (tree : List Node) (is : IsTree tree) where
  no_child : (g k : ℕ) → k ≤ g → is_child g (node_at tree k) ≡ false
  no_child g k h =
      elim (cases_Bool (is_child g (node_at tree k))) [
        | inl child ↦ absurd (let falls = is.falls k g (child_parent tree g k child) in omega (arith, falls, h))
        | inr other ↦ other
      ]

  -- the children of a group are numbered above it
  pub children_from-own : (g n k : ℕ) → g < length tree → k + n ≡ g + 1 → children_from tree g k ≡ children_from tree g (g + 1)
  children_from-own g zero k lt h = let same : k ≡ g + 1 = omega arith in ap (children_from tree g) same
  children_from-own g (suc n) k lt h =
      let before : k ≤ g = omega arith in
      children_from-other tree g k (omega arith) (no_child g k before) ∙ children_from-own g n (k + 1) lt (omega arith)

  -- a greater depth changes nothing
  preorder_to-steps : (n m g : ℕ) → g < length tree → length tree ≤ n + g → length tree ≤ m + g → preorder_to n tree g ≡ preorder_to m tree g
  unfolding preorder_to
  preorder_to-steps zero m g lt h k = absurd (omega arith)
  preorder_to-steps (suc n) zero g lt h k = absurd (omega arith)
  preorder_to-steps (suc n) (suc m) g lt h k =
      let same = children-from tree g in
      ap (λ cs. g ∷ flat_map (preorder_to n tree) cs) same
      ∙ ap (λ rest. g ∷ rest)
      (flat_map-children tree (preorder_to n tree) (preorder_to m tree) g 0
      (λ c from e. let falls = is.falls c g e in let inside = within tree c g e in preorder_to-steps n m c inside (omega (arith, falls, h)) (omega (arith, falls, k))) (length tree) 0 (omega arith) (omega arith))
      ∙ sym (ap (λ cs. g ∷ flat_map (preorder_to m tree) cs) same)

  pub preorder-step : (g : ℕ) → g < length tree → preorder tree g ≡ g ∷ flat_map (preorder tree) (children_from tree g (g + 1))
  unfolding preorder_to
  preorder-step g lt =
      preorder_to-steps (length tree) (suc (length tree)) g lt (omega arith) (omega arith) ∙ ap (λ cs. g ∷ flat_map (preorder tree) cs) (children-from tree g ∙ children_from-own g (g + 1) 0 lt (omega arith))

-- Which groups a walk comes to.
is_among : ℕ → List ℕ → Bool
is_among g gs = list_any (λ a. a == g) gs

chosen : (test : ℕ → Bool) (n : ℕ) (ns : List ℕ) (b : Bool) → test n ≡ b → filter test (n ∷ ns) ≡ (if b then n ∷ filter test ns else filter test ns)
chosen test n ns b e = ap (λ t. if t then n ∷ filter test ns else filter test ns) e

-- what lists joined end to end have, one of them has
joined_one : (g : ℕ) (test : ℕ → Bool) (f : ℕ → List ℕ) (ns : List ℕ) → is_among g (flat_map f (filter test ns)) ≡ true → (c : ℕ) × (test c ≡ true) × (is_among g (f c) ≡ true)
unfolding is_among
joined_one g test f [] h = absurd cc
joined_one g test f (n ∷ ns) h =
    elim (cases_Bool (test n)) [
      | inl passes ↦ elim (or_cases _ _ (sym (list_any-append (λ a. a == g) (f n) (flat_map f (filter test ns))) ∙ ap (λ cs. is_among g (flat_map f cs)) (sym (chosen test n ns true passes)) ∙ h)) [
        | inl here ↦ (n, passes, here)
        | inr later ↦ joined_one g test f ns later
      ]
      | inr fails ↦ joined_one g test f ns (ap (λ cs. is_among g (flat_map f cs)) (sym (chosen test n ns false fails)) ∙ h)
    ]

-- and what one of them has, they have
joined_any : (g c : ℕ) (test : ℕ → Bool) (f : ℕ → List ℕ) (ns : List ℕ) → is_among c ns ≡ true → test c ≡ true → is_among g (f c) ≡ true → is_among g (flat_map f (filter test ns)) ≡ true
unfolding is_among
joined_any g c test f [] h passes own = absurd cc
joined_any g c test f (n ∷ ns) h passes own =
    elim (eq_cases n c) [
      | inl same ↦
          (let taken = ap (λ cs. is_among g (flat_map f cs)) (chosen test n ns true (ap test same ∙ passes)) in
          taken ∙ list_any-append (λ a. a == g) (f n) (flat_map f (filter test ns)) ∙ or_left _ _ (ap (λ m. is_among g (f m)) same ∙ own))
      | inr other ↦
          (let differs : (n == c) ≡ false = grind (arith, other) in
          let later = joined_any g c test f ns (sym (ap (λ b. b || is_among c ns) differs) ∙ h) passes own in
          elim (cases_Bool (test n)) [
            | inl taken ↦
                ap (λ cs. is_among g (flat_map f cs)) (chosen test n ns true taken) ∙ list_any-append (λ a. a == g) (f n) (flat_map f (filter test ns))
                ∙ or_right _ _ later
            | inr left_out ↦ ap (λ cs. is_among g (flat_map f cs)) (chosen test n ns false left_out) ∙ later
          ])
    ]

numbered : (k g : ℕ) (xs : List Node) → k ≤ g → g < k + length xs → is_among g (map (λ e. e.0) (enumerate_from k xs)) ≡ true
unfolding is_among
numbered k g [] from to = absurd (omega arith)
numbered k g (x ∷ xs) from to =
    elim (eq_cases k g) [
      | inl same ↦ or_left _ _ (let here : (k == g) ≡ true = grind (arith, same) in here)
      | inr other ↦ or_right _ _ (numbered (k + 1) g xs (omega (arith, other)) (omega arith))
    ]

module _ (tree : List Node) (is : IsTree tree) (target : ℕ) (there : target < length tree) where
  preorder-children : (s : ℕ) → s < length tree → preorder tree s ≡ s ∷ flat_map (preorder tree) (children tree s)
  preorder-children s lt =
      preorder-step tree is s lt ∙ ap (λ cs. s ∷ flat_map (preorder tree) cs) (sym (children-from tree s ∙ children_from-own tree is s (s + 1) 0 lt (omega arith)))

  -- a walk comes to live groups under the target
  comes_to : (n s g : ℕ) → is_live tree s ≡ true → under tree target s ≡ true → is_among g (preorder_to n tree s) ≡ true → (is_live tree g ≡ true) × (under tree target g ≡ true)
  unfolding is_among preorder_to
  comes_to zero s g live below h = absurd cc
  comes_to (suc n) s g live below h =
      elim (or_cases (s == g) _ h) [
        | inl here ↦ (let same : s ≡ g = grind (arith, here) in (subst (λ a. is_live tree a ≡ true) same live, subst (λ a. under tree target a ≡ true) same below))
        | inr later ↦
            (let child = joined_one g (λ c. is_child s (node_at tree c)) (preorder_to n tree) (numbers tree) later in
            comes_to n child.0 g (and_parts _ _ child.1).0 (under-child tree is target child.0 s (child_parent tree s child.0 child.1) below) child.2)
      ]

  -- and with a group to each of its children
  goes_on : (n s p g : ℕ) → s < length tree → length tree ≤ n + s → is_child p (node_at tree g) ≡ true → g < length tree → is_among p (preorder tree s) ≡ true → is_among g (preorder tree s) ≡ true
  unfolding is_among
  goes_on zero s p g lt enough child inside h = absurd (omega arith)
  goes_on (suc n) s p g lt enough child inside h =
      elim (or_cases (s == p) _ (ap (is_among p) (sym (preorder-children s lt)) ∙ h)) [
        | inl here ↦
            (let same : s ≡ p = grind (arith, here) in
            let own : (g == g) ≡ true = grind arith in
            ap (is_among g) (preorder-children s lt)
            ∙ or_right _ _ (joined_any g g (λ c. is_child s (node_at tree c)) (preorder tree) (numbers tree) (numbered 0 g tree (omega arith) (omega arith)) (ap (λ q. is_child q (node_at tree g)) same ∙ child)
            (ap (is_among g) (preorder-children g inside) ∙ or_left _ _ own)))
        | inr later ↦
            (let below = joined_one p (λ c. is_child s (node_at tree c)) (preorder tree) (numbers tree) later in
            let parent = child_parent tree s below.0 below.1 in
            let falls = is.falls below.0 s parent in
            let lower = within tree below.0 s parent in
            ap (is_among g) (preorder-children s lt)
            ∙ or_right _ _ (joined_any g below.0 (λ c. is_child s (node_at tree c)) (preorder tree) (numbers tree) (numbered 0 below.0 tree (omega arith) (omega arith)) below.1
            (goes_on n below.0 p g lower (omega (arith, falls)) child inside below.2)))
      ]

  -- nor does it leave one out
  reaches : ((g p : ℕ) → is_live tree g ≡ true → (node_at tree g).parent ≡ Some p → is_live tree p ≡ true) → (n g : ℕ) → g < n → is_live tree g ≡ true → under tree target g ≡ true
      → (at : Option ℕ) → (node_at tree g).parent ≡ at → is_among g (preorder tree target) ≡ true
  unfolding is_among
  reaches parents zero g lt live below at parent = absurd (omega arith)
  reaches parents (suc n) g lt live below None parent =
      elim (or_cases (target == g) _ (sym (under_at-step tree is target g) ∙ below)) [
        | inl here ↦ ap (is_among g) (preorder-children target there) ∙ or_left (target == g) _ here
        | inr above ↦ absurd (let none : true ≡ false = sym above ∙ ap (under_at tree target) parent ∙ under_at-None tree is target in cc)
      ]
  reaches parents (suc n) g lt live below (Some p) parent =
      elim (or_cases (target == g) _ (sym (under_at-step tree is target g) ∙ below)) [
        | inl here ↦ ap (is_among g) (preorder-children target there) ∙ or_left (target == g) _ here
        | inr above ↦
            (let falls = is.falls g p parent in
            let own : (p == p) ≡ true = grind arith in
            let child : is_child p (node_at tree g) ≡ true = and_from _ _ live (ap (λ at. is_parent at p) parent ∙ own) in
            let more = reaches parents n p (omega (arith, falls)) (parents g p live parent) (ap (under_at tree target) (sym parent) ∙ above) (node_at tree p).parent refl in
            goes_on (length tree) target p g there (omega arith) child (live-within tree g live) more)
      ]

same_tests : (a b : Bool) → (a ≡ true → b ≡ true) → (b ≡ true → a ≡ true) → a ≡ b
same_tests true b f h = sym (f refl)
same_tests false true f h = h refl
same_tests false false f h = refl

-- a walk from a live group comes to exactly the live groups at or below it
pub preorder-has : (tree : List Node) → IsGroupTree tree → (target g : ℕ) → is_live tree target ≡ true → list_any (λ a. a == g) (preorder tree target) ≡ (is_live tree g && under tree target g)
unfolding is_among
preorder-has tree groups target g live =
    let is = groups.earlier_parents in
    let there = live-within tree target live in
    same_tests _ _
    (λ h. let comes = comes_to tree is target there (length tree) target g live (under_here tree target target (let own : (target == target) ≡ true = grind arith in own)) h in and_from _ _ comes.0 comes.1)
    (λ h. reaches tree is target there groups.parents_live (suc g) g (omega arith) (and_parts _ _ h).0 (and_parts _ _ h).1 (node_at tree g).parent refl)

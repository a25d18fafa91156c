-- Which part of the list of live groups is a group's, and what is behind a group there.
use Rattle.std.proofs.Common.{inl, inr, ◌⊎◌, ◌≡◌, ℕ, zero, suc, ◌+◌, ◌-◌, ◌<◌, ◌≤◌, ◌==◌, ◌||◌, Bool, true, false, List, [], ◌∷◌, ◌++◌, length, take, drop, get_or, slice_index, refl, sym, ap, ◌∙◌, subst, arith, length-append, length-drop, nat_lt, map, if◌then◌else◌}
use Rattle.std.specs.Prelude.{flat_map}
use Rattle.std.specs.List.{list_any, between}
use Rattle.std.specs.declared.string.String.{String}
use Rattle.std.specs.declared.alloc.Global.{Global}
use Rattle.machine.specs.declared.id.GroupId.{GroupId}
use Rattle.std.proofs.lemmas.Bool.{cases_Bool, and_parts}
use Rattle.std.proofs.lemmas.Bool.Decides.{nat_tests}
use Rattle.std.proofs.lemmas.List.{get_or_append_left, get_or-append-add, drop-append-le, get_or_default, length-map, take-map, drop-map}
use Rattle.std.proofs.lemmas.List.Elements.{All-from_get_or}
use Rattle.std.proofs.lemmas.List.Folds.{list_any_at, list_any_none}
use Rattle.std.proofs.Math.Seq.{take-append_seam, drop-append-add, get_or-append_seam, drop-append_seam}
use Rattle.machine.specs.Tree.{Node, root, no_node, node_at, is_live, is_child, has_children, under, preorder, preorder_to}
use Rattle.machine.proofs.Values.{unlike}
use Rattle.group_tree.specs.Groups.{IsGroupTree}
use Rattle.group_tree.specs.Walk.{children_among, children_from, behind}
use Rattle.group_tree.specs.declared.tree.Group.{Group}
use Rattle.group_tree.specs.declared.walk.Walk.{Walk}
use Rattle.group_tree.specs.Tables.{nodes_of, AreTables}
use Rattle.group_tree.specs.Places.{numbers_of, IsWalk, IsWalkOf}
use Rattle.group_tree.proofs.TreeFacts.{live-within}
use Rattle.group_tree.proofs.PushLemmas.{IsGroupTree-root, root_alone}
use Rattle.group_tree.proofs.PreorderLemmas.{child_parent, preorder-step, preorder-has, children_from-own}
use Rattle.group_tree.proofs.SpliceLemmas.{found-within, own}
use Rattle.group_tree.proofs.RemovedWalk.{preorder-childless}
use Rattle.group_tree.proofs.BehindLemmas.{behind-at, behind-none}

-- a part of a list
pub part-of : (before part after : List ℕ) → between (length before) (length before + length part) (before ++ (part ++ after)) ≡ part
part-of before part after =
    let len : length before + length part - length before ≡ length part = omega arith in
    ap (λ n. take n (drop (length before) (before ++ (part ++ after)))) len ∙ ap (λ xs. take (length part) xs) (drop-append_seam before (part ++ after)) ∙ take-append_seam part after

-- and what is left of it behind its first i
pub rest-of : (before part after : List ℕ) (i : ℕ) → i ≤ length part → between (length before + i) (length before + length part) (before ++ (part ++ after)) ≡ drop i part
rest-of before part after i within =
    let count : length before + length part - (length before + i) ≡ length (drop i part) = (let len = length-drop i part in omega (arith, len, within)) in
    ap (λ n. take n (drop (length before + i) (before ++ (part ++ after)))) count
    ∙ ap (λ xs. take (length (drop i part)) xs) (drop-append-add before (part ++ after) i ∙ drop-append-le i part after within) ∙ take-append_seam (drop i part) after

module _ (tree : List Node) (walk places spans : List ℕ) (groups : IsGroupTree tree) (w : IsWalk tree walk places spans) where
  root_live : is_live tree 0 ≡ true
  root_live = ap (λ (x : Node). x.live) groups.root_first.1

  -- the walk from a group, in the list
  pub record Part (g : ℕ) : Type 0 where
    pub before : List ℕ
    pub after : List ℕ
    pub is : walk ≡ before ++ (preorder tree g ++ after)
    pub place : slice_index places g ≡ length before

  -- where its group stands, its place says
  pub part-placed : (g : ℕ) → is_live tree g ≡ true → (before after : List ℕ) → walk ≡ before ++ (preorder tree g ++ after) → slice_index places g ≡ length before
  part-placed g live before after is =
      let step = preorder-step tree groups.earlier_parents g (live-within tree g live) in
      let here : slice_index walk (length before) ≡ g =
      ap (λ xs. slice_index xs (length before)) (is ∙ ap (λ xs. before ++ (xs ++ after)) step) ∙ get_or-append_seam before g (flat_map (preorder tree) (children_from tree g (g + 1)) ++ after) 0 in
      let a = length-append before (preorder tree g ++ after) in
      let b = length-append (preorder tree g) after in
      let c = ap length is in
      let d = ap length step in
      ap (slice_index places) (sym here) ∙ w.placed (length before) (omega (arith, a, b, c, d))

  pub part : (g : ℕ) → is_live tree g ≡ true → Part g
  part g live =
      let found = found-within tree groups.earlier_parents groups.parents_live 0 g live (w.rooted g live) in
      let is : walk ≡ found.before ++ (preorder tree g ++ found.after) = w.walked ∙ found.was in
      record { before = found.before; after = found.after; is = is; place = part-placed g live found.before found.after is }

  -- it is within the list, which is short
  pub ends-within : (g : ℕ) → is_live tree g ≡ true → slice_index places g + slice_index spans g ≤ length walk
  ends-within g live =
      let p = part g live in
      let a = length-append p.before (preorder tree g ++ p.after) in
      let b = length-append (preorder tree g) p.after in
      let c = ap length p.is in
      let d = p.place in
      let e = w.spanned g live in
      omega (arith, a, b, c, d, e)

  pub is-short : length walk ≤ 256
  is-short = let few = groups.few in let counted = w.counted in omega (arith, few, counted)

  pub some-span : (g : ℕ) → is_live tree g ≡ true → 1 ≤ slice_index spans g
  some-span g live =
      let step = ap length (preorder-step tree groups.earlier_parents g (live-within tree g live)) in
      let e = w.spanned g live in
      omega (arith, step, e)

  pub the-part : (g : ℕ) → is_live tree g ≡ true → between (slice_index places g) (slice_index places g + slice_index spans g) walk ≡ preorder tree g
  the-part g live =
      let p = part g live in
      let d = p.place in
      let e = w.spanned g live in
      ap (λ n. between n (n + slice_index spans g) walk) d ∙ ap (λ n. between (length p.before) (length p.before + n) walk) e ∙ ap (λ xs. between (length p.before) (length p.before + length (preorder tree g)) xs) p.is
      ∙ part-of p.before (preorder tree g) p.after

  -- whoever stands in the list is live
  pub live-at : (i : ℕ) → i < length walk → is_live tree (slice_index walk i) ≡ true
  live-at i lt =
      let seen : list_any (λ a. a == slice_index walk i) walk ≡ true = list_any_at (λ a. a == slice_index walk i) walk i 0 lt (let same : (slice_index walk i == slice_index walk i) ≡ true = grind arith in same) in
      (and_parts (is_live tree (slice_index walk i)) (under tree 0 (slice_index walk i)) (sym (preorder-has tree groups 0 (slice_index walk i) root_live) ∙ ap (list_any (λ a. a == slice_index walk i)) (sym w.walked) ∙ seen)).0

  -- the j-th of a part
  in-part : (start : ℕ) (p : Part start) (j : ℕ) → j < length (preorder tree start) → (slice_index (preorder tree start) j ≡ slice_index walk (length p.before + j)) × (length p.before + j < length walk)
  in-part start p j lt =
      let a = length-append p.before (preorder tree start ++ p.after) in
      let b = length-append (preorder tree start) p.after in
      let c = ap length p.is in (
        sym (ap (λ xs. slice_index xs (length p.before + j)) p.is ∙ get_or-append-add p.before (preorder tree start ++ p.after) j 0 ∙ get_or_append_left (preorder tree start) p.after 0 j lt),
        omega (arith, a, b, c, lt),
      )

  module _ (start : ℕ) (there : is_live tree start ≡ true) (g : ℕ) where
    -- a removed group is behind none
    pub behind-removed : is_live tree g ≡ false → behind (preorder tree start) g ≡ []
    behind-removed dead =
        let p = part start there in
        behind-none (preorder tree start) g
        (λ j lt same.
        let at = in-part start p j lt in
        unlike (is_live tree g) (ap (is_live tree) (sym same ∙ at.0) ∙ live-at (length p.before + j) at.1) dead)

    -- nor is one that stands elsewhere
    pub behind-elsewhere : (slice_index places g < slice_index places start) ⊎ (slice_index places start + slice_index spans start ≤ slice_index places g) → behind (preorder tree start) g ≡ []
    behind-elsewhere apart =
        let p = part start there in
        let d = p.place in
        let e = w.spanned start there in
        behind-none (preorder tree start) g
        (λ j lt same.
        let at = in-part start p j lt in
        let stands : slice_index places g ≡ length p.before + j = ap (slice_index places) (sym same ∙ at.0) ∙ w.placed (length p.before + j) at.1 in
        elim apart [
          | inl below ↦ omega (arith, stands, below, d)
          | inr above ↦ omega (arith, stands, above, d, e, lt)
        ])

    -- what is behind one that stands there is the rest of the part
    pub behind-within : is_live tree g ≡ true → slice_index places start ≤ slice_index places g → slice_index places g < slice_index places start + slice_index spans start
        → behind (preorder tree start) g ≡ between (slice_index places g + 1) (slice_index places start + slice_index spans start) walk
    behind-within live from to =
        let p = part start there in
        let d = p.place in
        let e = w.spanned start there in
        let lt : slice_index places g - length p.before < length (preorder tree start) = omega (arith, from, to, d, e) in
        let back : length p.before + (slice_index places g - length p.before) ≡ slice_index places g = omega (arith, from, d) in
        let own_part = part g live in
        let step = preorder-step tree groups.earlier_parents g (live-within tree g live) in
        let stands : slice_index walk (slice_index places g) ≡ g =
        ap (slice_index walk) own_part.place ∙ ap (λ xs. slice_index xs (length own_part.before)) (own_part.is ∙ ap (λ xs. own_part.before ++ (xs ++ own_part.after)) step)
        ∙ get_or-append_seam own_part.before g (flat_map (preorder tree) (children_from tree g (g + 1)) ++ own_part.after) 0 in
        let at = in-part start p (slice_index places g - length p.before) lt in
        let next : length p.before + (slice_index places g - length p.before + 1) ≡ slice_index places g + 1 = omega (arith, back) in
        behind-at (preorder tree start) (slice_index places g - length p.before) g lt (at.0 ∙ ap (slice_index walk) back ∙ stands)
        (λ j less same.
        let before = in-part start p j (omega (arith, less, lt)) in
        let elsewhere : slice_index places g ≡ length p.before + j = ap (slice_index places) (sym same ∙ before.0) ∙ w.placed (length p.before + j) before.1 in
        omega (arith, elsewhere, less, back))
        ∙ sym (rest-of p.before (preorder tree start) p.after (slice_index places g - length p.before + 1) (omega (arith, lt)))
        ∙ ap (λ n. between n (length p.before + length (preorder tree start)) (p.before ++ (preorder tree start ++ p.after))) next
        ∙ ap (λ xs. between (slice_index places g + 1) (length p.before + length (preorder tree start)) xs) (sym p.is)
        ∙ ap (λ n. between (slice_index places g + 1) (n + length (preorder tree start)) walk) (sym d)
        ∙ ap (λ n. between (slice_index places g + 1) (slice_index places start + n) walk) (sym e)

-- ---- what is read of the tables

-- what a tree keeps, said of the groups that a contract sees
pub held : (tree : List Node) (old : List Group) (count : ℕ) (index : List (String Global × GroupId)) (walk : Walk) → AreTables old count index × IsWalkOf (nodes_of old) walk → nodes_of old ≡ tree
    → IsGroupTree tree × IsWalkOf tree walk
held tree old count index walk is view = (subst IsGroupTree view is.0.tree, subst (λ (t : List Node). IsWalkOf t walk) view is.1)

numbers-between : (order : List GroupId) (i j : ℕ) → map (λ g. g.0) (between i j order) ≡ between i j (numbers_of order)
numbers-between order i j = sym (take-map (λ (g : GroupId). g.0) (j - i) (drop i order)) ∙ ap (λ (xs : List ℕ). take (j - i) xs) (sym (drop-map (λ (g : GroupId). g.0) i order))

pub span-at : (tree : List Node) (walk : Walk) → IsGroupTree tree × IsWalkOf tree walk → (g : ℕ) → is_live tree g ≡ true → (span : ℕ) → span ≡ get_or walk.spans.items g span → span ≡ slice_index walk.spans.items g
span-at tree walk both g live span read = read ∙ get_or_default walk.spans.items g span 0 (let lt = live-within tree g live in let len = both.1.spans_len in omega (arith, lt, len))

module _ (tree : List Node) (walk : Walk) (both : IsGroupTree tree × IsWalkOf tree walk) (g : ℕ) (live : is_live tree g ≡ true) (place : ℕ) (read : place ≡ get_or walk.places.items g place) where
  pub place-read : place ≡ slice_index walk.places.items g
  place-read = read ∙ get_or_default walk.places.items g place 0 (let lt = live-within tree g live in let len = both.1.places_len in omega (arith, lt, len))

  module _ (span : ℕ) (span_read : span ≡ get_or walk.spans.items g span) where
    pub span-read : span ≡ slice_index walk.spans.items g
    span-read = span-at tree walk both g live span span_read

    -- the part that the numbers name is in the order
    pub end-read : (place + span ≤ length walk.order.items) × (length walk.order.items ≤ 256)
    end-read =
        let a = place-read in
        let b = span-read in
        let c = ends-within tree (numbers_of walk.order.items) walk.places.items walk.spans.items both.0 both.1 g live in
        let d = is-short tree (numbers_of walk.order.items) walk.places.items walk.spans.items both.0 both.1 in
        let len : length (numbers_of walk.order.items) ≡ length walk.order.items = length-map walk.order.items (λ g. g.0) in
        (omega (arith, a, b, c, len), omega (arith, d, len))

    -- and is the walk from the group
    pub part-read : map (λ g. g.0) (between place (place + span) walk.order.items) ≡ preorder tree g
    part-read =
        numbers-between walk.order.items place (place + span) ∙ ap (λ (n : ℕ). between n (n + span) (numbers_of walk.order.items)) place-read
        ∙ ap (λ (n : ℕ). between (slice_index walk.places.items g) (slice_index walk.places.items g + n) (numbers_of walk.order.items)) span-read
        ∙ the-part tree (numbers_of walk.order.items) walk.places.items walk.spans.items both.0 both.1 g live

    module _ (h : ℕ) where
      pub behind-dead : is_live tree h ≡ false → behind (preorder tree g) h ≡ []
      behind-dead dead = behind-removed tree (numbers_of walk.order.items) walk.places.items walk.spans.items both.0 both.1 g live h dead

      module _ (h_live : is_live tree h ≡ true) (at : ℕ) (at_read : at ≡ slice_index walk.places.items h) where
        pub behind-outside : (at < place) ⊎ (place + span ≤ at) → behind (preorder tree g) h ≡ []
        behind-outside apart =
            let a = place-read in
            let b = span-read in
            behind-elsewhere tree (numbers_of walk.order.items) walk.places.items walk.spans.items both.0 both.1 g live h
            (elim apart [
              | inl below ↦ inl (omega (arith, a, at_read, below))
              | inr above ↦ inr (omega (arith, a, b, at_read, above))
            ])

        pub behind-inside : place ≤ at → at < place + span → map (λ g. g.0) (between (at + 1) (place + span) walk.order.items) ≡ behind (preorder tree g) h
        behind-inside from to =
            let a = place-read in
            let b = span-read in
            numbers-between walk.order.items (at + 1) (place + span) ∙ ap (λ (n : ℕ). between (n + 1) (place + span) (numbers_of walk.order.items)) at_read
            ∙ ap (λ (n : ℕ). between (slice_index walk.places.items h + 1) (n + span) (numbers_of walk.order.items)) a
            ∙ ap (λ (n : ℕ). between (slice_index walk.places.items h + 1) (slice_index walk.places.items g + n) (numbers_of walk.order.items)) b
            ∙ sym (behind-within tree (numbers_of walk.order.items) walk.places.items walk.spans.items both.0 both.1 g live h h_live (omega (arith, a, at_read, from)) (omega (arith, a, b, at_read, to)))

-- ---- children

among-some : (p k : ℕ) (xs : List Node) → list_any (is_child p) xs ≡ true → 0 < length (children_among p k xs)
among-some p k [] h = absurd cc
among-some p k (x ∷ xs) h =
    elim (cases_Bool (is_child p x)) [
      | inl child ↦ (let taken = ap (λ b. length (if b then k ∷ children_among p (k + 1) xs else children_among p (k + 1) xs)) child in omega (arith, taken))
      | inr other ↦
          (let later = among-some p (k + 1) xs (sym (ap (λ b. b || list_any (is_child p) xs) other) ∙ h) in
          let left_out = ap (λ b. length (if b then k ∷ children_among p (k + 1) xs else children_among p (k + 1) xs)) other in
          omega (arith, later, left_out))
    ]

some-walk : (tree : List Node) (cs : List ℕ) → 0 < length tree → 0 < length cs → 0 < length (flat_map (preorder tree) cs)
unfolding preorder_to
some-walk [] cs there some = absurd (omega arith)
some-walk (x ∷ tree) [] there some = absurd (omega arith)
some-walk (x ∷ tree) (c ∷ cs) there some =
    let all = length-append (preorder (x ∷ tree) c) (flat_map (preorder (x ∷ tree)) cs) in
    let one : 0 < length (preorder (x ∷ tree) c) = omega arith in
    omega (arith, all, one)

-- a group has children where its span is not itself alone
pub span-children : (tree : List Node) → IsGroupTree tree → (g : ℕ) → is_live tree g ≡ true → nat_lt 1 (length (preorder tree g)) ≡ has_children tree g
span-children tree groups g live =
    let lt = live-within tree g live in
    elim (cases_Bool (has_children tree g)) [
      | inl some ↦
          (let step = ap length (preorder-step tree groups.earlier_parents g lt) in
          let same : children_from tree g 0 ≡ children_from tree g (g + 1) = children_from-own tree groups.earlier_parents g (g + 1) 0 lt (omega arith) in
          let more = some-walk tree (children_from tree g (g + 1)) (omega (arith, lt)) (let least = among-some g 0 tree some in let len = ap length same in omega (arith, least, len)) in
          (let test : nat_lt 1 (length (preorder tree g)) ≡ true = grind (arith, nat_tests, step, more) in test) ∙ sym some)
      | inr none ↦
          (let one = ap length (preorder-childless tree groups.earlier_parents g lt none) in
          (let test : nat_lt 1 (length (preorder tree g)) ≡ false = grind (arith, nat_tests, one) in test) ∙ sym none)
    ]

-- a removed group has none
pub removed-childless : (tree : List Node) → IsGroupTree tree → (g : ℕ) → is_live tree g ≡ false → has_children tree g ≡ false
removed-childless tree groups g dead =
    list_any_none (is_child g) tree (All-from_get_or (λ x. is_child g x ≡ false) tree no_node (λ j lt. other j (is_child g (node_at tree j)) refl))
  where
    other : (j : ℕ) (b : Bool) → is_child g (node_at tree j) ≡ b → is_child g (node_at tree j) ≡ false
    other j true is = absurd (unlike (is_live tree g) (groups.parents_live j g (and_parts (is_live tree j) _ is).0 (child_parent tree g j is)) dead)
    other j false is = is

-- the root alone
pub IsWalk-root : (walk places spans : List ℕ) → walk ≡ 0 ∷ [] → places ≡ 0 ∷ [] → spans ≡ 1 ∷ [] → IsWalk (root ∷ []) walk places spans
IsWalk-root walk places spans walk_is places_are spans_are =
    subst (λ (xs : List ℕ). IsWalk (root ∷ []) xs places spans) (sym walk_is)
    (subst (λ (xs : List ℕ). IsWalk (root ∷ []) (0 ∷ []) xs spans) (sym places_are)
    (subst (λ (xs : List ℕ). IsWalk (root ∷ []) (0 ∷ []) (0 ∷ []) xs) (sym spans_are)
    (record {
      rooted = rooted;
      walked = sym alone;
      placed = placed;
      spanned = spanned;
      counted = sym root_alone;
      places_len = refl;
      spans_len = refl;
    })))
  where
    alone : preorder (root ∷ []) 0 ≡ 0 ∷ []
    alone = preorder-childless (root ∷ []) IsGroupTree-root.earlier_parents 0 (omega arith) refl

    rooted : (g : ℕ) → is_live (root ∷ []) g ≡ true → under (root ∷ []) 0 g ≡ true
    rooted zero live = own (root ∷ []) 0
    rooted (suc g) live = absurd (let wrong : false ≡ true = live in cc)

    placed : (i : ℕ) → i < 1 → slice_index (0 ∷ []) (slice_index (0 ∷ []) i) ≡ i
    placed zero lt = refl
    placed (suc i) lt = absurd (omega arith)

    spanned : (g : ℕ) → is_live (root ∷ []) g ≡ true → slice_index (1 ∷ []) g ≡ length (preorder (root ∷ []) g)
    spanned zero live = sym (ap length alone)
    spanned (suc g) live = absurd (let wrong : false ≡ true = live in cc)

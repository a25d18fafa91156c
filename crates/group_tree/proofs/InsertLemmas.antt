-- The list of live groups with a group more, behind all at and below its parent.
use Rattle.std.proofs.Common.{inl, inr, ◌≡◌, ◌≢◌, ℕ, ◌+◌, ◌-◌, ◌<◌, ◌≤◌, ◌==◌, Bool, true, false, if◌then◌else◌, List, [], ◌∷◌, ◌++◌, length, drop, get_or, slice_index, Some, sym, ap, ◌∙◌, subst, arith, append_assoc, length-append, nat_lt}
use Rattle.std.specs.List.{insert}
use Rattle.std.proofs.lemmas.Bool.{cases_Bool}
use Rattle.std.proofs.lemmas.Bool.Decides.{nat_tests}
use Rattle.std.proofs.lemmas.List.{get_or_append_left, length-map}
use Rattle.std.proofs.lemmas.List.Edits.{get_or-insert_at, get_or-insert_below, get_or-insert_above, length-insert}
use Rattle.std.proofs.Math.Seq.{take-append_seam, drop-append_seam, get_or-append_seam}
use Rattle.machine.specs.Tree.{Node, is_live, under, share, IsTree, IsBelow, preorder}
use Rattle.machine.proofs.Values.{unlike}
use Rattle.machine.proofs.TreeLemmas.{lt_cases, share-beyond, share-under, under_at-append, IsTree-push}
use Rattle.group_tree.specs.Groups.{IsGroupTree}
use Rattle.machine.specs.declared.id.GroupId.{GroupId}
use Rattle.indexmap.proofs.SetLemmas.{map-insert}
use Rattle.group_tree.specs.declared.walk.Walk.{Walk}
use Rattle.group_tree.specs.Places.{numbers_of, IsOnceEach, ArePlaced, IsWalk, IsWalkOf}
use Rattle.group_tree.proofs.TreeFacts.{live-within, at_old, at_new, at_none}
use Rattle.group_tree.proofs.LineageLemmas.{under-child}
use Rattle.group_tree.proofs.TableLemmas.{live_groups-push}
use Rattle.group_tree.proofs.SpliceLemmas.{swaps-length}
use Rattle.group_tree.proofs.PushedWalk.{preorder-new, swaps-pushed, same-pushed}
use Rattle.group_tree.proofs.OrderLemmas.{part-placed, ends-within, live-at, place-read, span-at}

-- what a call that succeeded left
pub succeeded : {X : Type 0} (done : Bool) (left new old : X) → left ≡ (if done then new else old) → done ≡ true → left ≡ new
succeeded done left new old is so = is ∙ ap (λ b. if b then new else old) so

-- ---- a list with a number more

insert-behind : (before part after : List ℕ) (n e : ℕ) → e ≡ length before + length part → insert (before ++ (part ++ after)) e n ≡ before ++ ((part ++ n ∷ []) ++ after)
insert-behind before part after n e end =
    let len : e ≡ length (before ++ part) = (let a = length-append before part in omega (arith, a, end)) in
    ap (λ xs. insert xs e n) (sym (append_assoc before part after)) ∙ ap (λ k. insert ((before ++ part) ++ after) k n) len
    ∙ ap (λ xs. xs ++ n ∷ drop (length (before ++ part)) ((before ++ part) ++ after)) (take-append_seam (before ++ part) after)
    ∙ ap (λ xs. (before ++ part) ++ n ∷ xs) (drop-append_seam (before ++ part) after)
    ∙ append_assoc before part (n ∷ after) ∙ ap (λ xs. before ++ xs) (sym (append_assoc part (n ∷ []) after))

-- where a number stands in the longer list, by its place in the list
abbrev moved : (ℕ → ℕ) → ℕ → ℕ → ℕ → ℕ
moved place e n y = if y == n then e else (if nat_lt (place y) e then place y else place y + 1)

module _ (xs : List ℕ) (e n : ℕ) (within : e ≤ length xs) where
  -- each that is there stood there, one place lower from e on, or is the new one
  insert-has : (P : ℕ → ℕ → Type 0) → ((i : ℕ) → i < e → P i (slice_index xs i)) → P e n → ((i : ℕ) → e ≤ i → i < length xs → P (i + 1) (slice_index xs i))
      → (i : ℕ) → i < length (insert xs e n) → P i (slice_index (insert xs e n) i)
  insert-has P below here above i lt =
      elim (lt_cases i e) [
        | inl less ↦ subst (P i) (sym (get_or-insert_below xs e n 0 i less within)) (below i less)
        | inr (inl same) ↦ subst (λ j. P j (slice_index (insert xs e n) j)) (sym same) (subst (P e) (sym (get_or-insert_at xs e n 0 within)) here)
        | inr (inr more) ↦
            (let back : i - 1 + 1 ≡ i = omega (arith, more) in
            let len = length-insert xs e n within in
            subst (λ j. P j (slice_index (insert xs e n) j)) back
            (subst (P (i - 1 + 1)) (sym (get_or-insert_above xs e n 0 (i - 1) (omega (arith, more)) within)) (above (i - 1) (omega (arith, more)) (omega (arith, more, len, lt)))))
      ]

  insert-once : (place : ℕ → ℕ) → ((i : ℕ) → i < length xs → place (slice_index xs i) ≡ i) → ((i : ℕ) → i < length xs → slice_index xs i ≢ n) → IsOnceEach (insert xs e n)
  insert-once place once new = (moved place e n, insert-has (λ i y. moved place e n y ≡ i) below here above)
    where
      below : (i : ℕ) → i < e → moved place e n (slice_index xs i) ≡ i
      below i less =
          let differs : (slice_index xs i == n) ≡ false = grind (arith, nat_tests, new i (omega (arith, less, within))) in
          let stands = once i (omega (arith, less, within)) in
          let test : nat_lt (place (slice_index xs i)) e ≡ true = grind (arith, nat_tests, stands, less) in
          ap (λ b. if b then e else (if nat_lt (place (slice_index xs i)) e then place (slice_index xs i) else place (slice_index xs i) + 1)) differs
          ∙ ap (λ b. if b then place (slice_index xs i) else place (slice_index xs i) + 1) test ∙ stands

      here : moved place e n n ≡ e
      here = let same : (n == n) ≡ true = grind arith in ap (λ b. if b then e else (if nat_lt (place n) e then place n else place n + 1)) same

      above : (i : ℕ) → e ≤ i → i < length xs → moved place e n (slice_index xs i) ≡ i + 1
      above i more lt =
          let differs : (slice_index xs i == n) ≡ false = grind (arith, nat_tests, new i lt) in
          let stands = once i lt in
          let test : nat_lt (place (slice_index xs i)) e ≡ false = grind (arith, nat_tests, stands, more) in
          ap (λ b. if b then e else (if nat_lt (place (slice_index xs i)) e then place (slice_index xs i) else place (slice_index xs i) + 1)) differs
          ∙ ap (λ b. if b then place (slice_index xs i) else place (slice_index xs i) + 1) test ∙ ap (λ j. j + 1) stands

-- ---- the walk

module _ (tree : List Node) (walk places spans : List ℕ) (groups : IsGroupTree tree) (w : IsWalk tree walk places spans) (p : ℕ) (parent_live : is_live tree p ≡ true)
    (e : ℕ) (end : e ≡ slice_index places p + slice_index spans p) where
  pub end-within : e ≤ length walk
  end-within = let within = ends-within tree walk places spans groups w p parent_live in omega (arith, within, end)

  below-new : (i : ℕ) → i < length walk → slice_index walk i < length tree
  below-new i lt = live-within tree (slice_index walk i) (live-at tree walk places spans groups w i lt)

  pub inserted-within : (i : ℕ) → i < length (insert walk e (length tree)) → slice_index (insert walk e (length tree)) i < length tree + 1
  inserted-within =
      insert-has walk e (length tree) end-within (λ i y. y < length tree + 1) (λ i less. let lt = below-new i (let inside = end-within in omega (arith, less, inside)) in omega (arith, lt)) (omega arith)
      (λ i more lt. let low = below-new i lt in omega (arith, low))

  pub inserted-once : IsOnceEach (insert walk e (length tree))
  inserted-once = insert-once walk e (length tree) end-within (slice_index places) w.placed (λ i lt same. let low = below-new i lt in omega (arith, low, same))

  -- those before the new one stay where they are
  pub inserted-before : (more : List ℕ) → ArePlaced (insert walk e (length tree)) (places ++ more) e
  inserted-before more i less =
      let inside = end-within in
      let low = below-new i (omega (arith, less, inside)) in
      let len = w.places_len in
      ap (slice_index (places ++ more)) (get_or-insert_below walk e (length tree) 0 i less inside) ∙ get_or_append_left places more 0 (slice_index walk i) (omega (arith, low, len))
      ∙ w.placed i (omega (arith, less, inside))

  -- a live group's span is short, the new one's too
  pub spans-short : (g : ℕ) → is_live tree g ≡ true → slice_index (spans ++ 1 ∷ []) g ≤ 256
  spans-short g live =
      let lt = live-within tree g live in
      let len = w.spans_len in
      let old : slice_index (spans ++ 1 ∷ []) g ≡ slice_index spans g = get_or_append_left spans (1 ∷ []) 0 g (omega (arith, lt, len)) in
      let within = ends-within tree walk places spans groups w g live in
      let counted = w.counted in
      let few = groups.few in
      omega (arith, old, within, counted, few)

  module _ (x : Node) (live : x.live ≡ true) (below : x.parent ≡ Some p) (places' spans' : List ℕ) (placed : ArePlaced (insert walk e (length tree)) places' (length (insert walk e (length tree))))
      (places_len : length places' ≡ length places + 1) (spans_are : (g : ℕ) → slice_index spans' g ≡ slice_index (spans ++ 1 ∷ []) g + share tree g (Some p)) (spans_len : length spans' ≡ length spans + 1) where
    walked : insert walk e (length tree) ≡ preorder (tree ++ x ∷ []) 0
    walked =
        let swaps = swaps-pushed tree x p groups live below parent_live 0 (w.rooted p parent_live) in
        let is : walk ≡ swaps.before ++ (preorder tree p ++ swaps.after) = w.walked ∙ swaps.was in
        let place = part-placed tree walk places spans groups w p parent_live swaps.before swaps.after is in
        let span = w.spanned p parent_live in
        ap (λ xs. insert xs e (length tree)) is ∙ insert-behind swaps.before (preorder tree p) swaps.after (length tree) e (omega (arith, end, place, span)) ∙ sym swaps.now_is

    spanned-old : (g : ℕ) → g < length tree → is_live tree g ≡ true → slice_index spans' g ≡ length (preorder (tree ++ x ∷ []) g)
    spanned-old g lt there =
        let len = w.spans_len in
        let old : slice_index (spans ++ 1 ∷ []) g ≡ slice_index spans g = get_or_append_left spans (1 ∷ []) 0 g (omega (arith, lt, len)) in
        let now = spans_are g in
        let was = w.spanned g there in
        let counts = share-under tree groups.earlier_parents g (Some p) in
        elim (cases_Bool (under tree g p)) [
          | inl inside ↦
              (let one : share tree g (Some p) ≡ 1 = counts ∙ ap (λ b. if b then 1 else 0) inside in
              let more = swaps-length (preorder tree p) (preorder tree p ++ length tree ∷ []) (preorder tree g) (preorder (tree ++ x ∷ []) g) (swaps-pushed tree x p groups live below parent_live g inside) in
              let put = length-append (preorder tree p) (length tree ∷ []) in
              omega (arith, old, now, was, one, more, put))
          | inr outside ↦
              (let none : share tree g (Some p) ≡ 0 = counts ∙ ap (λ b. if b then 1 else 0) outside in
              let same = ap length (same-pushed tree x p groups live below parent_live g lt outside) in
              omega (arith, old, now, was, none, same))
        ]

    spanned-new : slice_index spans' (length tree) ≡ length (preorder (tree ++ x ∷ []) (length tree))
    spanned-new =
        let len = w.spans_len in
        let pushed : slice_index (spans ++ 1 ∷ []) (length tree) ≡ 1 = ap (slice_index (spans ++ 1 ∷ [])) (sym len) ∙ get_or-append_seam spans 1 [] 0 in
        let now = spans_are (length tree) in
        let none = share-beyond tree groups.earlier_parents (Some p) (length tree) (live-within tree p parent_live) in
        let alone = ap length (preorder-new tree x p groups live below parent_live) in
        omega (arith, pushed, now, none, alone)

    pub IsWalk-inserted : IsWalk (tree ++ x ∷ []) (insert walk e (length tree)) places' spans'
    IsWalk-inserted =
        let more = length-append tree (x ∷ []) in
        let one_more = live_groups-push tree x live in
        let len = length-insert walk e (length tree) end-within in
        let counted = w.counted in
        let old_places = w.places_len in
        let old_spans = w.spans_len in
        record {
          rooted =
              λ g there.
              elim (lt_cases g (length tree)) [
                | inl old ↦ under_at-append tree (x ∷ []) groups.earlier_parents 0 (Some g) old ∙ w.rooted g (sym (ap (λ (y : Node). y.live) (at_old tree x g old)) ∙ there)
                | inr (inl new) ↦
                    under-child (tree ++ x ∷ []) is_tree 0 g p (ap (λ (y : Node). y.parent) (at_new tree x g new) ∙ below)
                    (under_at-append tree (x ∷ []) groups.earlier_parents 0 (Some p) (live-within tree p parent_live) ∙ w.rooted p parent_live)
                | inr (inr beyond) ↦ absurd (unlike (is_live (tree ++ x ∷ []) g) there (ap (λ (y : Node). y.live) (at_none tree x g beyond)))
              ];
          walked = walked;
          placed = placed;
          spanned =
              λ g there.
              elim (lt_cases g (length tree)) [
                | inl old ↦ spanned-old g old (sym (ap (λ (y : Node). y.live) (at_old tree x g old)) ∙ there)
                | inr (inl new) ↦ subst (λ (h : ℕ). slice_index spans' h ≡ length (preorder (tree ++ x ∷ []) h)) (sym new) spanned-new
                | inr (inr beyond) ↦ absurd (unlike (is_live (tree ++ x ∷ []) g) there (ap (λ (y : Node). y.live) (at_none tree x g beyond)))
              ];
          counted = omega (arith, len, counted, one_more);
          places_len = omega (arith, places_len, old_places, more);
          spans_len = omega (arith, spans_len, old_spans, more);
        }
      where
        is_tree : IsTree (tree ++ x ∷ [])
        is_tree = IsTree-push tree x groups.earlier_parents (subst (λ at. IsBelow at (length tree)) (sym below) (live-within tree p parent_live))

-- ---- the tables of a walk

module _ (tree : List Node) (old : Walk) (both : IsGroupTree tree × IsWalkOf tree old) (p : ℕ) (parent_live : is_live tree p ≡ true) (place : ℕ) (read : place ≡ get_or old.places.items p place)
    (span : ℕ) (span_read : span ≡ get_or old.spans.items p span) where
  end : place + span ≡ slice_index old.places.items p + slice_index old.spans.items p
  end = let a = place-read tree old both p parent_live place read in let b = span-at tree old both p parent_live span span_read in omega (arith, a, b)

  pub short-spans : (spans : List ℕ) → spans ≡ old.spans.items ++ 1 ∷ [] → (g : ℕ) → is_live tree g ≡ true → slice_index spans g ≤ 256
  short-spans spans spans_are g live = subst (λ (xs : List ℕ). slice_index xs g ≤ 256) (sym spans_are) (spans-short tree (numbers_of old.order.items) old.places.items old.spans.items both.0 both.1 p parent_live (place + span) end g live)

  module _ (group : GroupId) (next : group.0 ≡ length tree) (order : List GroupId) (order_is : order ≡ insert old.order.items (place + span) group) where
    numbers_are : numbers_of order ≡ insert (numbers_of old.order.items) (place + span) (length tree)
    numbers_are = ap numbers_of order_is ∙ map-insert (λ (g : GroupId). g.0) old.order.items (place + span) group ∙ ap (insert (numbers_of old.order.items) (place + span)) next

    pub order-within : (places : List ℕ) → places ≡ old.places.items ++ (place + span) ∷ [] → (i : ℕ) → i < length order → slice_index (numbers_of order) i < length places
    order-within places places_are i lt =
        let len : length (numbers_of order) ≡ length order = length-map order (λ g. g.0) in
        let same = ap length numbers_are in
        let low = inserted-within tree (numbers_of old.order.items) old.places.items old.spans.items both.0 both.1 p parent_live (place + span) end i (omega (arith, len, same, lt)) in
        let number = ap (λ (xs : List ℕ). slice_index xs i) numbers_are in
        let more = length-append old.places.items ((place + span) ∷ []) in
        let now = ap length places_are in
        let was = both.1.places_len in
        omega (arith, low, number, more, now, was)

    pub order-once : IsOnceEach (numbers_of order)
    order-once = subst IsOnceEach (sym numbers_are) (inserted-once tree (numbers_of old.order.items) old.places.items old.spans.items both.0 both.1 p parent_live (place + span) end)

    pub order-before : (places : List ℕ) → places ≡ old.places.items ++ (place + span) ∷ [] → ArePlaced (numbers_of order) places (place + span)
    order-before places places_are =
        subst (λ (xs : List ℕ). ArePlaced xs places (place + span)) (sym numbers_are)
        (subst (λ (xs : List ℕ). ArePlaced (insert (numbers_of old.order.items) (place + span) (length tree)) xs (place + span)) (sym places_are)
        (inserted-before tree (numbers_of old.order.items) old.places.items old.spans.items both.0 both.1 p parent_live (place + span) end ((place + span) ∷ [])))

    pub walk-inserted : (places' spans' : List ℕ) → ArePlaced (numbers_of order) places' (length order) → length places' ≡ length old.places.items + 1
        → ((g : ℕ) → slice_index spans' g ≡ slice_index (old.spans.items ++ 1 ∷ []) g + share tree g (Some p)) → length spans' ≡ length old.spans.items + 1
        → (node : Node) → node.live ≡ true → node.parent ≡ Some p → IsWalk (tree ++ node ∷ []) (numbers_of order) places' spans'
    walk-inserted places' spans' placed places_len spans_are spans_len node live below =
        let len : length (numbers_of order) ≡ length order = length-map order (λ g. g.0) in
        subst (λ (xs : List ℕ). IsWalk (tree ++ node ∷ []) xs places' spans') (sym numbers_are)
        (IsWalk-inserted tree (numbers_of old.order.items) old.places.items old.spans.items both.0 both.1 p parent_live (place + span) end node live below places' spans'
        (subst (λ (xs : List ℕ). ArePlaced xs places' (length xs)) numbers_are (subst (ArePlaced (numbers_of order) places') (sym len) placed)) places_len spans_are spans_len)

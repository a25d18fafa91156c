-- The list of live groups with a group less.
use Rattle.std.proofs.Common.{inl, inr, ◌≡◌, ◌≢◌, ℕ, ◌+◌, ◌-◌, ◌<◌, ◌≤◌, ◌==◌, ◌||◌, true, false, if◌then◌else◌, List, [], ◌∷◌, ◌++◌, length, get_or, slice_index, Option, Some, None, refl, sym, ap, ◌∙◌, subst, arith, length-append, length-set, nat_lt}
use Rattle.std.specs.List.{remove}
use Rattle.std.proofs.lemmas.Bool.{cases_lt, cases_Bool}
use Rattle.std.proofs.lemmas.Bool.Decides.{nat_tests}
use Rattle.std.proofs.lemmas.List.{length-map}
use Rattle.std.proofs.lemmas.List.Edits.{get_or-remove_below, get_or-remove_above, length-remove, remove-append_right}
use Rattle.machine.specs.Tree.{Node, node_at, is_live, has_children, under, under_at, share, preorder, without_group}
use Rattle.machine.proofs.Values.{unlike}
use Rattle.machine.proofs.TreeLemmas.{share-under, under_at-None, under_at-step}
use Rattle.machine.proofs.RemovedLemmas.{without-dead, without-other, without-under}
use Rattle.group_tree.specs.Groups.{IsGroupTree}
use Rattle.machine.specs.declared.id.GroupId.{GroupId}
use Rattle.indexmap.proofs.SetLemmas.{map-remove}
use Rattle.group_tree.specs.declared.walk.Walk.{Walk}
use Rattle.group_tree.specs.Places.{numbers_of, IsOnceEach, ArePlaced, IsWalk, IsWalkOf}
use Rattle.group_tree.proofs.TreeFacts.{live-within}
use Rattle.group_tree.proofs.RemoveLemmas.{live-removed}
use Rattle.group_tree.proofs.SpliceLemmas.{Swaps, swaps-length}
use Rattle.group_tree.proofs.RemovedWalk.{preorder-childless, swaps-removed, same-removed}
use Rattle.group_tree.proofs.OrderLemmas.{part-placed, live-at, place-read}

-- ---- a list with a number less

-- where a number stands in the shorter list, by its place in the list
abbrev moved : (ℕ → ℕ) → ℕ → ℕ → ℕ
moved place e y = if nat_lt (place y) e then place y else place y - 1

module _ (xs : List ℕ) (e : ℕ) (within : e < length xs) where
  -- each that is there stood there, or one place higher from e on
  remove-has : (P : ℕ → ℕ → Type 0) → ((i : ℕ) → i < e → P i (slice_index xs i)) → ((i : ℕ) → e ≤ i → i + 1 < length xs → P i (slice_index xs (i + 1)))
      → (i : ℕ) → i < length (remove xs e) → P i (slice_index (remove xs e) i)
  remove-has P below above i lt =
      elim (cases_lt i e) [
        | inl less ↦ subst (P i) (sym (get_or-remove_below xs e 0 i less within)) (below i less)
        | inr more ↦ (let len = length-remove xs e within in subst (P i) (sym (get_or-remove_above xs e 0 i more within)) (above i more (omega (arith, lt, len))))
      ]

  remove-once : (place : ℕ → ℕ) → ((i : ℕ) → i < length xs → place (slice_index xs i) ≡ i) → IsOnceEach (remove xs e)
  remove-once place once = (moved place e, remove-has (λ i y. moved place e y ≡ i) below above)
    where
      below : (i : ℕ) → i < e → moved place e (slice_index xs i) ≡ i
      below i less =
          let stands = once i (omega (arith, less, within)) in
          let test : nat_lt (place (slice_index xs i)) e ≡ true = grind (arith, nat_tests, stands, less) in
          ap (λ b. if b then place (slice_index xs i) else place (slice_index xs i) - 1) test ∙ stands

      above : (i : ℕ) → e ≤ i → i + 1 < length xs → moved place e (slice_index xs (i + 1)) ≡ i
      above i more lt =
          let stands = once (i + 1) lt in
          let test : nat_lt (place (slice_index xs (i + 1))) e ≡ false = grind (arith, nat_tests, stands, more) in
          ap (λ b. if b then place (slice_index xs (i + 1)) else place (slice_index xs (i + 1)) - 1) test ∙ (let less : place (slice_index xs (i + 1)) - 1 ≡ i = omega (arith, stands) in less)

-- ---- the walk

module _ (tree : List Node) (walk places spans : List ℕ) (groups : IsGroupTree tree) (w : IsWalk tree walk places spans) (g : ℕ) (below : 0 < g) (live : is_live tree g ≡ true) (childless : has_children tree g ≡ false) where
  -- a group that is not the root hangs below one
  parent-of : (at : Option ℕ) → (node_at tree g).parent ≡ at → (p : ℕ) × ((node_at tree g).parent ≡ Some p)
  parent-of None e =
      let differs : (0 == g) ≡ false = grind (arith, nat_tests, below) in
      absurd
      (unlike (under tree 0 g) (w.rooted g live)
      (under_at-step tree groups.earlier_parents 0 g ∙ ap (λ b. b || under_at tree 0 (node_at tree g).parent) differs ∙ ap (under_at tree 0) e ∙ under_at-None tree groups.earlier_parents 0))
  parent-of (Some p) e = (p, e)

  parent : (p : ℕ) × ((node_at tree g).parent ≡ Some p)
  parent = parent-of (node_at tree g).parent refl

  root-above : under tree 0 parent.0 ≡ true
  root-above =
      let differs : (0 == g) ≡ false = grind (arith, nat_tests, below) in
      ap (under_at tree 0) (sym parent.1) ∙ sym (ap (λ b. b || under_at tree 0 (node_at tree g).parent) differs) ∙ sym (under_at-step tree groups.earlier_parents 0 g) ∙ w.rooted g live

  swaps : (target : ℕ) → under tree target parent.0 ≡ true → Swaps (g ∷ []) [] (preorder tree target) (preorder (without_group tree g) target)
  swaps = swaps-removed tree g parent.0 groups live parent.1 childless

  record Stands : Type 0 where
    before : List ℕ
    after : List ℕ
    is : walk ≡ before ++ (g ∷ after)
    place : slice_index places g ≡ length before
    now_is : preorder (without_group tree g) 0 ≡ before ++ after

  stands : Stands
  stands =
      let s = swaps 0 root-above in
      let is : walk ≡ s.before ++ (g ∷ s.after) = w.walked ∙ s.was in
      let own : g ∷ s.after ≡ preorder tree g ++ s.after = ap (λ (xs : List ℕ). xs ++ s.after) (sym (preorder-childless tree groups.earlier_parents g (live-within tree g live) childless)) in
      record {
        before = s.before;
        after = s.after;
        is = is;
        place = part-placed tree walk places spans groups w g live s.before s.after (is ∙ ap (λ xs. s.before ++ xs) own);
        now_is = s.now_is;
      }

  module _ (e : ℕ) (place : e ≡ slice_index places g) where
    pub place-within : e < length walk
    place-within =
        let s = stands in
        let at = s.place in
        let len = length-append s.before (g ∷ s.after) in
        let all = ap length s.is in
        omega (arith, place, at, len, all)

    pub removed-within : (i : ℕ) → i < length (remove walk e) → slice_index (remove walk e) i < length tree
    removed-within =
        remove-has walk e place-within (λ i y. y < length tree)
        (λ i less. live-within tree (slice_index walk i) (live-at tree walk places spans groups w i (let inside = place-within in omega (arith, less, inside))))
        (λ i more lt. live-within tree (slice_index walk (i + 1)) (live-at tree walk places spans groups w (i + 1) lt))

    pub removed-once : IsOnceEach (remove walk e)
    removed-once = remove-once walk e place-within (slice_index places) w.placed

    -- those before it stay where they are
    pub removed-before : ArePlaced (remove walk e) places e
    removed-before i less =
        let inside = place-within in
        ap (slice_index places) (get_or-remove_below walk e 0 i less inside) ∙ w.placed i (omega (arith, less, inside))

    module _ (places' spans' : List ℕ) (placed : ArePlaced (remove walk e) places' (length (remove walk e)))
        (places_len : length places' ≡ length places) (spans_are : (h : ℕ) → slice_index spans' h + share tree h (node_at tree g).parent ≡ slice_index spans h) (spans_len : length spans' ≡ length spans) where
      walked : remove walk e ≡ preorder (without_group tree g) 0
      walked =
          let s = stands in
          let at : e ≡ length s.before = place ∙ s.place in
          let none : length s.before - length s.before ≡ 0 = omega arith in
          ap (λ xs. remove xs e) s.is ∙ ap (λ k. remove (s.before ++ (g ∷ s.after)) k) at ∙ remove-append_right s.before (g ∷ s.after) (length s.before) (length s.before) refl (omega arith)
          ∙ ap (λ k. s.before ++ remove (g ∷ s.after) k) none ∙ sym s.now_is

      spanned : (h : ℕ) → h ≢ g → is_live tree h ≡ true → slice_index spans' h ≡ length (preorder (without_group tree g) h)
      spanned h other there =
          let now = spans_are h in
          let was = w.spanned h there in
          let counts : share tree h (node_at tree g).parent ≡ (if under tree h parent.0 then 1 else 0) = ap (share tree h) parent.1 ∙ share-under tree groups.earlier_parents h (Some parent.0) in
          elim (cases_Bool (under tree h parent.0)) [
            | inl inside ↦
                (let one : share tree h (node_at tree g).parent ≡ 1 = counts ∙ ap (λ b. if b then 1 else 0) inside in
                let fewer = swaps-length (g ∷ []) [] (preorder tree h) (preorder (without_group tree g) h) (swaps h inside) in
                omega (arith, now, was, one, fewer))
            | inr outside ↦
                (let none : share tree h (node_at tree g).parent ≡ 0 = counts ∙ ap (λ b. if b then 1 else 0) outside in
                let same = ap length (same-removed tree g parent.0 groups live parent.1 childless h (live-within tree h there) outside) in
                omega (arith, now, was, none, same))
          ]

      pub IsWalk-removed : IsWalk (without_group tree g) (remove walk e) places' spans'
      IsWalk-removed =
          let same : length (without_group tree g) ≡ length tree = length-set tree g _ in
          let fewer = live-removed tree g groups live childless (λ e. omega (arith, e, below)) in
          let len = length-remove walk e place-within in
          let counted = w.counted in
          let old_places = w.places_len in
          let old_spans = w.spans_len in
          record {
            rooted = λ h alive. without-under tree g 0 (Some h) ∙ w.rooted h (was_live h alive);
            walked = walked;
            placed = placed;
            spanned = λ h alive. spanned h (not_g h alive) (was_live h alive);
            counted = omega (arith, len, counted, fewer);
            places_len = omega (arith, places_len, old_places, same);
            spans_len = omega (arith, spans_len, old_spans, same);
          }
        where
          not_g : (h : ℕ) → is_live (without_group tree g) h ≡ true → h ≢ g
          not_g h alive same = unlike (is_live (without_group tree g) g) (ap (is_live (without_group tree g)) (sym same) ∙ alive) (without-dead tree g)

          was_live : (h : ℕ) → is_live (without_group tree g) h ≡ true → is_live tree h ≡ true
          was_live h alive = ap (λ (n : Node). n.live) (sym (without-other tree g h (not_g h alive))) ∙ alive

-- ---- the tables of a walk

module _ (tree : List Node) (old : Walk) (both : IsGroupTree tree × IsWalkOf tree old) (g : ℕ) (below : 0 < g) (live : is_live tree g ≡ true) (childless : has_children tree g ≡ false) (place : ℕ) (read : place ≡ get_or old.places.items g place) where
  at : place ≡ slice_index old.places.items g
  at = place-read tree old both g live place read

  pub order-has : place < length old.order.items
  order-has =
      let inside = place-within tree (numbers_of old.order.items) old.places.items old.spans.items both.0 both.1 g below live childless place at in
      let len : length (numbers_of old.order.items) ≡ length old.order.items = length-map old.order.items (λ g. g.0) in
      omega (arith, inside, len)

  module _ (order : List GroupId) (order_is : order ≡ remove old.order.items place) where
    numbers_are : numbers_of order ≡ remove (numbers_of old.order.items) place
    numbers_are = ap numbers_of order_is ∙ map-remove (λ (h : GroupId). h.0) old.order.items place

    pub order-within : (places : List ℕ) → places ≡ old.places.items → (i : ℕ) → i < length order → slice_index (numbers_of order) i < length places
    order-within places places_are i lt =
        let len : length (numbers_of order) ≡ length order = length-map order (λ g. g.0) in
        let same = ap length numbers_are in
        let low = removed-within tree (numbers_of old.order.items) old.places.items old.spans.items both.0 both.1 g below live childless place at i (omega (arith, len, same, lt)) in
        let number = ap (λ (xs : List ℕ). slice_index xs i) numbers_are in
        let now = ap length places_are in
        let was = both.1.places_len in
        omega (arith, low, number, now, was)

    pub order-once : IsOnceEach (numbers_of order)
    order-once = subst IsOnceEach (sym numbers_are) (removed-once tree (numbers_of old.order.items) old.places.items old.spans.items both.0 both.1 g below live childless place at)

    pub order-before : (places : List ℕ) → places ≡ old.places.items → ArePlaced (numbers_of order) places place
    order-before places places_are =
        subst (λ (xs : List ℕ). ArePlaced xs places place) (sym numbers_are)
        (subst (λ (xs : List ℕ). ArePlaced (remove (numbers_of old.order.items) place) xs place) (sym places_are)
        (removed-before tree (numbers_of old.order.items) old.places.items old.spans.items both.0 both.1 g below live childless place at))

    pub walk-removed : (places' spans' : List ℕ) → ArePlaced (numbers_of order) places' (length order) → length places' ≡ length old.places.items
        → ((h : ℕ) → slice_index spans' h + share tree h (node_at tree g).parent ≡ slice_index old.spans.items h) → length spans' ≡ length old.spans.items
        → IsWalk (without_group tree g) (numbers_of order) places' spans'
    walk-removed places' spans' placed places_len spans_are spans_len =
        let len : length (numbers_of order) ≡ length order = length-map order (λ g. g.0) in
        subst (λ (xs : List ℕ). IsWalk (without_group tree g) xs places' spans') (sym numbers_are)
        (IsWalk-removed tree (numbers_of old.order.items) old.places.items old.spans.items both.0 both.1 g below live childless place at places' spans'
        (subst (λ (xs : List ℕ). ArePlaced xs places' (length xs)) numbers_are (subst (ArePlaced (numbers_of order) places') (sym len) placed)) places_len spans_are spans_len)

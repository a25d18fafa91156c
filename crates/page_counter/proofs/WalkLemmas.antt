-- Steps of the walks from a group up to the root.
use Rattle.std.proofs.Common.{inl, inr, ◌≡◌, ℕ, ◌+◌, ◌-◌, ◌<◌, ◌≤◌, List, length, Option, Some, None, refl, sym, ap, ◌∙◌, arith, slice_index, slice_set, get_or, get_or-set_other, get_or-set_same, cond, ◌==◌, Bool, true, false}
use Rattle.std.specs.Option.{option_eq}
use Rattle.std.proofs.lemmas.List.{get_or_default}
use Rattle.machine.specs.declared.id.GroupId.{GroupId}
use Rattle.machine.specs.declared.record.Limits.{Limits}
use Rattle.machine.specs.Amounts.{exceeds}
use Rattle.machine.specs.Counts.{no_limits, limits_at, is_full, over_at}
use Rattle.machine.specs.Tree.{Node, node_at, is_live, IsTree, share, IsAbove}
use Rattle.group_tree.specs.Lineages.{IsLineage}
use Rattle.group_tree.specs.Tables.{number}
use Rattle.machine.proofs.TreeLemmas.{eq_cases, share-step, share-own, share-above, share-le, over_at-step}

-- the group, if there is one, is live
abbrev pub IsLiveAt : List Node → Option ℕ → Type 0
IsLiveAt tree None = Unit {0}
IsLiveAt tree (Some g) = is_live tree g ≡ true

live_at : (tree : List Node) → IsLineage tree → (g : ℕ) → is_live tree g ≡ true → (at : Option ℕ) → (node_at tree g).parent ≡ at → IsLiveAt tree at
live_at tree is g live None parent = tt
live_at tree is g live (Some p) parent = is.parents_live g p live parent

-- what a live group hangs below is live
pub live_parent : (tree : List Node) → IsLineage tree → (g : ℕ) → is_live tree g ≡ true → IsLiveAt tree (node_at tree g).parent
live_parent tree is g live = live_at tree is g live (node_at tree g).parent refl

module _ (tree : List Node) (is : IsTree tree) (now old : List ℕ) (group g : ℕ) where
  -- now lacks what the walk from the group to here took
  abbrev pub IsTaken : Option ℕ → Type 0
  IsTaken at = (a : ℕ) → a < length tree → slice_index now a + share tree a (Some group) ≡ slice_index old a + share tree a at

  -- now has what the walk from the group to here added
  abbrev pub IsAdded : Option ℕ → Type 0
  IsAdded at = (a : ℕ) → a < length tree → slice_index now a + share tree a at ≡ slice_index old a + share tree a (Some group)

  pub can_take : (until : Option ℕ) → g < length tree → IsAbove tree until (Some g) → (until ≡ Some g → ⊥) → IsTaken (Some g)
      → ((a : ℕ) → a < length tree → share tree a (Some group) ≤ slice_index old a + share tree a until) → 1 ≤ slice_index now g
  can_take until there above differs taken counted =
      let e = taken g there in
      let k = counted g there in
      let own = share-own tree is g in
      let none = share-above tree is until g above differs in
      omega (arith, e, k, own, none)

  pub taken_more : g < length now → 1 ≤ slice_index now g → IsTaken (Some g)
      → (a : ℕ) → a < length tree → slice_index (slice_set now g (slice_index now g - 1)) a + share tree a (Some group) ≡ slice_index old a + share tree a (node_at tree g).parent
  taken_more within more taken a lt =
      let step = share-step tree is a g in
      let e = taken a lt in
      elim (eq_cases a g) [
        | inl same ↦ (let there : slice_index (slice_set now g (slice_index now g - 1)) a ≡ slice_index now g - 1 = rw same (get_or-set_same now g _ _ within) in let yes_same : (a == g) ≡ true = grind (arith, same) in let at_g : slice_index now a ≡ slice_index now g = ap (slice_index now) same in grind (arith, step, e, there, yes_same, at_g, more))
        | inr differs ↦ (let there : slice_index (slice_set now g (slice_index now g - 1)) a ≡ slice_index now a = get_or-set_other now g a _ _ differs in let not_same : (a == g) ≡ false = grind (arith, differs) in grind (arith, step, e, there, not_same))
      ]

  pub added_more : g < length now → IsAdded (Some g)
      → (a : ℕ) → a < length tree → slice_index (slice_set now g (slice_index now g + 1)) a + share tree a (node_at tree g).parent ≡ slice_index old a + share tree a (Some group)
  added_more within added a lt =
      let step = share-step tree is a g in
      let e = added a lt in
      elim (eq_cases a g) [
        | inl same ↦ (let there : slice_index (slice_set now g (slice_index now g + 1)) a ≡ slice_index now g + 1 = rw same (get_or-set_same now g _ _ within) in let yes_same : (a == g) ≡ true = grind (arith, same) in let at_g : slice_index now a ≡ slice_index now g = ap (slice_index now) same in grind (arith, step, e, there, yes_same, at_g))
        | inr differs ↦ (let there : slice_index (slice_set now g (slice_index now g + 1)) a ≡ slice_index now a = get_or-set_other now g a _ _ differs in let not_same : (a == g) ≡ false = grind (arith, differs) in grind (arith, step, e, there, not_same))
      ]

  -- the walk has not come here yet
  pub not_yet : g < length tree → IsAbove tree (Some g) (Some group) → IsAdded (Some g) → slice_index now g ≡ slice_index old g
  not_yet there above added =
      let e = added g there in
      let own = share-own tree is g in
      let h = above g in
      let le = share-le tree is g (Some group) in
      omega (arith, e, own, h, le)

  -- what the limit that was read says of the counts before the walk
  full_before : (limits : List Limits) (d : Limits) (full : Bool) → g < length limits → slice_index now g ≡ slice_index old g → exceeds (slice_index now g + 1) (get_or limits g d).max ≡ full
      → is_full limits (λ a. slice_index old a) g ≡ full
  full_before limits d full within same test =
      ap (λ n. exceeds (n + 1) (limits_at limits g).max) (sym same) ∙ ap (λ l. exceeds (slice_index now g + 1) l.max) (get_or_default limits g no_limits d within) ∙ test

  -- here the max would be passed
  pub over_here : (limits : List Limits) (d : Limits) → g < length limits → slice_index now g ≡ slice_index old g → exceeds (slice_index now g + 1) (get_or limits g d).max ≡ true
      → over_at tree limits (λ a. slice_index old a) (Some g) ≡ Some g
  over_here limits d within same full =
      over_at-step tree is limits (λ a. slice_index old a) g
      ∙ ap (λ b. cond b (Some g) (over_at tree limits (λ a. slice_index old a) (node_at tree g).parent)) (full_before limits d true within same full)

  -- here it would not
  pub over_on : (limits : List Limits) (d : Limits) → g < length limits → slice_index now g ≡ slice_index old g → exceeds (slice_index now g + 1) (get_or limits g d).max ≡ false
      → over_at tree limits (λ a. slice_index old a) (Some g) ≡ over_at tree limits (λ a. slice_index old a) (node_at tree g).parent
  over_on limits d within same free =
      over_at-step tree is limits (λ a. slice_index old a) g
      ∙ ap (λ b. cond b (Some g) (over_at tree limits (λ a. slice_index old a) (node_at tree g).parent)) (full_before limits d false within same free)

-- the test that the walk is at its end
pub differs_from_test : (test : GroupId → GroupId → Bool) → ((u g : GroupId) → u.0 ≡ g.0 → test u g ≡ true) → (until : Option GroupId) (g : GroupId) → option_eq test until (Some g) ≡ false → number until ≡ Some g.0 → ⊥
differs_from_test test same None g differs e = cc
differs_from_test test same (Some u) g differs e = let at : u.0 ≡ g.0 = cc in let equal = same u g at in cc

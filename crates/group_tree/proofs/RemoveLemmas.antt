-- A group less keeps what holds of every tree, and its path finds nothing.
use Rattle.std.proofs.Common.{inl, inr, ◌≡◌, ◌≢◌, ℕ, zero, suc, ◌+◌, ◌==◌, ◌&&◌, Bool, true, false, cond, if◌then◌else◌, List, [], ◌∷◌, length, Option, Some, None, eqb-true, refl, sym, ap, ◌∙◌, arith, length-set}
use Rattle.std.specs.Prelude.{slice_set}
use Rattle.std.specs.List.{position_from}
use Rattle.std.specs.Str.{bytes_eq}
use Rattle.std.proofs.lemmas.Bool.{and_parts}
use Rattle.std.proofs.lemmas.Iterator.Adapters.{position_from-zero}
use Rattle.std.proofs.lemmas.List.Sums.{sum_by-cons}
use Rattle.machine.specs.Tree.{Node, node_at, is_live, is_parent, is_child, has_children, is_at_path, live_groups, find_group, without_group}
use Rattle.machine.proofs.Values.{unlike}
use Rattle.machine.proofs.TreeLemmas.{eq_cases}
use Rattle.machine.proofs.RemovedLemmas.{without-parent, without-dead, without-other, without-falls, without-chain}
use Rattle.machine.proofs.RemovedLemmas.{no_child}
use Rattle.group_tree.specs.Groups.{IsGroupTree}

-- ---- paths

-- texts that are told equal are
same-text : (xs ys : List ℕ) → bytes_eq xs ys ≡ true → xs ≡ ys
same-text [] [] e = refl
same-text [] (y ∷ ys) e = cc
same-text (x ∷ xs) [] e = cc
same-text (x ∷ xs) (y ∷ ys) e =
    let both = and_parts (x == y) (bytes_eq xs ys) e in
    ap (λ (z : ℕ). z ∷ xs) (eqb-true x y both.0) ∙ ap (λ (zs : List ℕ). y ∷ zs) (same-text xs ys both.1)

-- tables of one length that pass a test at the same numbers have it first at one number
first-alike : (test : Node → Bool) (n : ℕ) (xs ys : List Node) → length ys ≡ length xs → ((k : ℕ) → test (node_at ys k) ≡ test (node_at xs k)) → position_from test n ys ≡ position_from test n xs
first-alike test n [] [] len same = refl
first-alike test n [] (y ∷ ys) len same = cc
first-alike test n (x ∷ xs) [] len same = cc
first-alike test n (x ∷ xs) (y ∷ ys) len same =
    ap (λ b. cond b (Some n) (position_from test (n + 1) ys)) (same 0)
    ∙ ap (cond (test x) (Some n)) (first-alike test (n + 1) xs ys (let len' : length ys + 1 ≡ length xs + 1 = omega (arith, len) in omega (arith, len')) (λ k. same (suc k)))

-- where none passes there is no first
first-none : (test : Node → Bool) (n : ℕ) (xs : List Node) → ((k : ℕ) → test (node_at xs k) ≡ false) → position_from test n xs ≡ None
first-none test n [] none = refl
first-none test n (x ∷ xs) none = ap (λ b. cond b (Some n) (position_from test (n + 1) xs)) (none 0) ∙ first-none test (n + 1) xs (λ k. none (suc k))

module _ (tree : List Node) (g : ℕ) (groups : IsGroupTree tree) (live : is_live tree g ≡ true) (childless : has_children tree g ≡ false) (below : g ≢ 0) where
  removed-at : (path : List ℕ) → is_at_path path (node_at (without_group tree g) g) ≡ false
  removed-at path = ap (λ b. b && bytes_eq (node_at (without_group tree g) g).path path) (without-dead tree g)

  -- two live groups at one path are one
  one-at : (path : List ℕ) (h k : ℕ) → is_at_path path (node_at tree h) ≡ true → is_at_path path (node_at tree k) ≡ true → h ≡ k
  one-at path h k at_h at_k = let same : Some h ≡ Some k = sym (found h at_h) ∙ found k at_k in cc
    where
      found : (h : ℕ) → is_at_path path (node_at tree h) ≡ true → find_group tree path ≡ Some h
      found h at_h =
          let both = and_parts (is_live tree h) (bytes_eq (node_at tree h).path path) at_h in
          ap (find_group tree) (sym (same-text (node_at tree h).path path both.1)) ∙ groups.own_paths h both.0

  -- a path finds what it did, but for that of the group
  pub find-removed : (path : List ℕ) → find_group (without_group tree g) path ≡ (if is_at_path path (node_at tree g) then None else find_group tree path)
  find-removed path = by_test (is_at_path path (node_at tree g)) refl
    where
      elsewhere : (k : ℕ) → k ≢ g → is_at_path path (node_at (without_group tree g) k) ≡ is_at_path path (node_at tree k)
      elsewhere k other = ap (is_at_path path) (without-other tree g k other)

      by_test : (b : Bool) → is_at_path path (node_at tree g) ≡ b → find_group (without_group tree g) path ≡ cond b None (find_group tree path)
      by_test true is =
          position_from-zero (is_at_path path) (without_group tree g)
          ∙ first-none (is_at_path path) 0 (without_group tree g)
          (λ k.
          elim (eq_cases k g) [
            | inl same ↦ ap (λ (x : ℕ). is_at_path path (node_at (without_group tree g) x)) same ∙ removed-at path
            | inr other ↦ elsewhere k other ∙ not_there k other is (is_at_path path (node_at tree k)) refl
          ])
        where
          not_there : (k : ℕ) → k ≢ g → is_at_path path (node_at tree g) ≡ true → (c : Bool) → is_at_path path (node_at tree k) ≡ c → is_at_path path (node_at tree k) ≡ false
          not_there k other is true there = absurd (other (one-at path k g there is))
          not_there k other is false there = there
      by_test false is =
          position_from-zero (is_at_path path) (without_group tree g)
          ∙ first-alike (is_at_path path) 0 tree (without_group tree g) (length-set tree g _)
          (λ k.
          elim (eq_cases k g) [
            | inl same ↦ ap (λ (x : ℕ). is_at_path path (node_at (without_group tree g) x)) same ∙ removed-at path ∙ sym (ap (λ (x : ℕ). is_at_path path (node_at tree x)) same ∙ is)
            | inr other ↦ elsewhere k other
          ])
          ∙ sym (position_from-zero (is_at_path path) tree)

  not_g : (h : ℕ) → is_live (without_group tree g) h ≡ true → h ≢ g
  not_g h alive same = unlike (is_live (without_group tree g) h) alive (ap (is_live (without_group tree g)) same ∙ without-dead tree g)

  was_live : (h : ℕ) → is_live (without_group tree g) h ≡ true → is_live tree h ≡ true
  was_live h alive = sym (ap (λ (n : Node). n.live) (without-other tree g h (not_g h alive))) ∙ alive

  own_paths : (h : ℕ) → is_live (without_group tree g) h ≡ true → find_group (without_group tree g) (node_at (without_group tree g) h).path ≡ Some h
  own_paths h alive =
      ap (λ (n : Node). find_group (without_group tree g) n.path) (without-other tree g h (not_g h alive))
      ∙ find-removed (node_at tree h).path
      ∙ ap (λ b. cond b None (find_group tree (node_at tree h).path)) (elsewhere (is_at_path (node_at tree h).path (node_at tree g)) refl)
      ∙ groups.own_paths h (was_live h alive)
    where
      elsewhere : (b : Bool) → is_at_path (node_at tree h).path (node_at tree g) ≡ b → is_at_path (node_at tree h).path (node_at tree g) ≡ false
      elsewhere true is =
          let both = and_parts (is_live tree g) (bytes_eq (node_at tree g).path (node_at tree h).path) is in
          let found : Some g ≡ Some h = sym (ap (find_group tree) (sym (same-text (node_at tree g).path (node_at tree h).path both.1)) ∙ groups.own_paths g live) ∙ groups.own_paths h (was_live h alive) in
          let same : g ≡ h = cc in
          absurd (not_g h alive (sym same))
      elsewhere false is = is

  parents_live : (h p : ℕ) → is_live (without_group tree g) h ≡ true → (node_at (without_group tree g) h).parent ≡ Some p → is_live (without_group tree g) p ≡ true
  parents_live h p alive hangs =
      let hangs' : (node_at tree h).parent ≡ Some p = sym (without-parent tree g h) ∙ hangs in
      ap (λ (n : Node). n.live) (without-other tree g p (not_parent hangs')) ∙ groups.parents_live h p (was_live h alive) hangs'
    where
      not_parent : (node_at tree h).parent ≡ Some p → p ≢ g
      not_parent hangs' same =
          unlike (is_child g (node_at tree h))
          (ap (λ (b : Bool). b && is_parent (node_at tree h).parent g) (was_live h alive) ∙ ap (λ (o : Option ℕ). is_parent o g) (hangs' ∙ ap (λ (x : ℕ). Some x) same) ∙ own g)
          (no_child tree g h childless)
        where
          own : (n : ℕ) → (n == n) ≡ true
          own n = grind arith

  -- one group less is live
  pub live-removed : live_groups (without_group tree g) + 1 ≡ live_groups tree
  live-removed = count tree g live
    where
      count : (tree : List Node) (g : ℕ) → is_live tree g ≡ true → live_groups (slice_set tree g (record (node_at tree g) { live = false })) + 1 ≡ live_groups tree
      count [] g alive = absurd (let wrong : false ≡ true = alive in cc)
      count (x ∷ tree) zero alive =
          let more = sum_by-cons (λ (y : Node). if y.live then 1 else 0) x tree in
          let less = sum_by-cons (λ (y : Node). if y.live then 1 else 0) (record x { live = false }) tree in
          let one : ◌≡◌ {A = ℕ} (if x.live then 1 else 0) 1 = ap (λ b. if b then 1 else 0) alive in
          omega (arith, more, less, one)
      count (x ∷ tree) (suc g) alive =
          let rest = count tree g alive in
          let more = sum_by-cons (λ (y : Node). if y.live then 1 else 0) x tree in
          let less = sum_by-cons (λ (y : Node). if y.live then 1 else 0) x (slice_set tree g (record (node_at tree g) { live = false })) in
          omega (arith, rest, more, less)

  pub IsGroupTree-removed : IsGroupTree (without_group tree g)
  IsGroupTree-removed =
      let len : length (without_group tree g) ≡ length tree = length-set tree g _ in
      let fewer = live-removed in
      let few = groups.few in
      let some = groups.root_first.0 in
      let numbers = groups.numbers in
      record {
        earlier_parents = without-falls tree g groups.earlier_parents;
        root_first = (omega (arith, len, some), without-other tree g 0 (λ e. below (sym e)) ∙ groups.root_first.1);
        parents_live = parents_live;
        own_paths = own_paths;
        levels = λ h. (let same = ap (λ (ns : List ℕ). length ns) (without-chain tree g (Some h)) in let deep = groups.levels h in omega (arith, same, deep));
        few = omega (arith, fewer, few);
        numbers = omega (arith, len, numbers);
      }

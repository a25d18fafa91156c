-- Steps of the walk that counts an event from its group up to the root.
use Rattle.std.proofs.Common.{inl, inr, ◌≡◌, ℕ, ◌+◌, ◌<◌, ◌≤◌, ◌&&◌, Bool, true, false, cond, List, length, Option, Some, None, refl, sym, ap, ◌∙◌, arith, get_or-set_other, get_or-set_same}
use Rattle.std.specs.Prelude.{slice_set}
use Rattle.std.proofs.lemmas.Bool.Decides.{eqb_tells}
use Rattle.machine.specs.declared.record.EventCounts.{EventCounts}
use Rattle.machine.specs.declared.record.Key.{Key}
use Rattle.machine.specs.declared.record.Key.TheVariants.{Low, High, Max, Oom, OomKill, OomGroupKill}
use Rattle.machine.specs.Tree.{Node, node_at, under, share, IsTree}
use Rattle.machine.specs.Counts.{no_counts, count_of_key, local, is_key}
use Rattle.machine.proofs.TreeLemmas.{share-step, share-own, share-le, share-None, share-is}

-- what an event of the key adds to the count of k at a, from here up
abbrev pub part : List Node → Key → ℕ → Key → Option ℕ → ℕ
part tree key a k at = cond (is_key key k) (share tree a at) 0

-- now has what the walk from the group to here added
pub record IsCountedTo (tree : List Node) (key : Key) (now old : List EventCounts) (group at : Option ℕ) : Type 0 where
  pub counts : (a : ℕ) (k : Key) → a < length tree → local now a k + part tree key a k at ≡ local old a k + part tree key a k group

own_key : (key : Key) → is_key key key ≡ true
own_key Low = refl
own_key High = refl
own_key Max = refl
own_key Oom = refl
own_key OomKill = refl
own_key OomGroupKill = refl

more_here : (b : Bool) (before after old here up all : ℕ) → after ≡ before + cond b 1 0 → here ≡ 1 + up → before + cond b here 0 ≡ old + cond b all 0 → after + cond b up 0 ≡ old + cond b all 0
more_here true before after old here up all more step is = omega (arith, more, step, is)
more_here false before after old here up all more step is = omega (arith, more, is)

test_part : (u b : Bool) → ◌≡◌ {A = ℕ} (cond b (cond u 1 0) 0) (cond (u && b) 1 0)
test_part true true = refl
test_part true false = refl
test_part false true = refl
test_part false false = refl

module _ (tree : List Node) (is : IsTree tree) (key : Key) (now old : List EventCounts) (group : Option ℕ) where
  -- nothing was added here yet
  not_yet : (g : ℕ) → g < length tree → IsCountedTo tree key now old group (Some g) → local now g key ≤ local old g key
  not_yet g lt counted =
      let e = counted.counts g key lt in
      let own : part tree key g key (Some g) ≡ 1 = ap (λ b. cond b (share tree g (Some g)) 0) (own_key key) ∙ share-own tree is g in
      let all : part tree key g key group ≡ share tree g group = ap (λ b. cond b (share tree g group) 0) (own_key key) in
      let le = share-le tree is g group in
      omega (arith, e, own, all, le)

  -- so there is room for one more
  pub not_full : (g most : ℕ) → g < length tree → IsCountedTo tree key now old group (Some g) → local old g key < most → local now g key < most
  not_full g most lt counted room = let le = not_yet g lt counted in omega (arith, le, room)

  -- one step up
  pub counted_more : (g : ℕ) (after : EventCounts) → g < length tree → length now ≡ length tree → ((k : Key) → count_of_key after k ≡ local now g k + cond (is_key key k) 1 0)
      → IsCountedTo tree key now old group (Some g) → IsCountedTo tree key (slice_set now g after) old group (node_at tree g).parent
  counted_more g after lt all more counted = record {
    counts =
        λ a k within.
        (let e = counted.counts a k within in
        let step = share-step tree is a g in
        elim (eqb_tells a g) [
          | inl same ↦
              (let inside : g < length now = omega (arith, all, lt) in
              let at_g : local (slice_set now g after) a k ≡ count_of_key after k = ap (λ i. local (slice_set now g after) i k) same.1 ∙ ap (λ c. count_of_key c k) (get_or-set_same now g after no_counts inside) in
              let one : share tree a (Some g) ≡ 1 + share tree a (node_at tree g).parent = step ∙ ap (λ b. cond b 1 0 + share tree a (node_at tree g).parent) same.0 in
              let now_at : local now a k ≡ local now g k = ap (λ i. local now i k) same.1 in
              more_here (is_key key k) (local now a k) (local (slice_set now g after) a k) (local old a k) (share tree a (Some g)) (share tree a (node_at tree g).parent) (share tree a group)
              (at_g ∙ more k ∙ ap (λ n. n + cond (is_key key k) 1 0) (sym now_at)) one e)
          | inr differs ↦
              (let kept : local (slice_set now g after) a k ≡ local now a k = ap (λ c. count_of_key c k) (get_or-set_other now g a after no_counts differs.1) in
              let same_share : share tree a (Some g) ≡ share tree a (node_at tree g).parent = step ∙ ap (λ b. cond b 1 0 + share tree a (node_at tree g).parent) differs.0 ∙ omega arith in
              ap (λ n. n + part tree key a k (node_at tree g).parent) kept ∙ ap (λ n. local now a k + cond (is_key key k) n 0) (sym same_share) ∙ e)
        ]);
  }

  -- past the root all are counted
  pub counted_all : (g : ℕ) → group ≡ Some g → IsCountedTo tree key now old group None → (a : ℕ) (k : Key) → a < length tree → local now a k ≡ local old a k + cond (under tree a g && is_key key k) 1 0
  counted_all g start counted a k lt =
      let e = counted.counts a k lt in
      let none : part tree key a k None ≡ 0 = ap (λ n. cond (is_key key k) n 0) (share-None tree is a) ∙ nothing (is_key key k) in
      let all : part tree key a k group ≡ cond (under tree a g && is_key key k) 1 0 =
      ap (λ at. cond (is_key key k) (share tree a at) 0) start ∙ ap (λ n. cond (is_key key k) n 0) (share-is tree a (Some g)) ∙ test_part (under tree a g) (is_key key k)
      in
      omega (arith, e, none, all)
    where
      nothing : (b : Bool) → ◌≡◌ {A = ℕ} (cond b 0 0) 0
      nothing true = refl
      nothing false = refl

-- How often events were counted: at a group, and as sums over groups.
use Rattle.std.proofs.Common.{◌≡◌, inl, inr, ℕ, zero, suc, ◌+◌, ◌<◌, ◌≤◌, ◌==◌, ◌&&◌, Bool, true, false, cond, List, [], ◌∷◌, ◌++◌, length, Some, refl, sym, ap, ◌∙◌, eqb-true, arith, length-append, get_or-set_same, get_or-set_other}
use Rattle.std.specs.Prelude.{map, filter, sum_by}
use Rattle.std.specs.List.{enumerate_from}
use Rattle.std.proofs.lemmas.Bool.Decides.{eqb_tells}
use Rattle.std.proofs.lemmas.List.Sums.{sum_by-cons}
use Rattle.std.proofs.Math.ListN.{get_or-eq_default}
use Rattle.machine.specs.declared.record.EventCounts.{EventCounts}
use Rattle.machine.specs.declared.record.Key.{Key}
use Rattle.machine.specs.declared.record.Key.TheVariants.{Low, High, Max, Oom, OomKill, OomGroupKill}
use Rattle.machine.specs.Tree.{Node, under, IsTree}
use Rattle.machine.specs.Counts.{no_counts, count_of_key, once_more, counts_at, with_event, local, total, is_key}
use Rattle.machine.proofs.TreeLemmas.{under_at-append, under_at-beyond}

-- ---- six numbers

pub count_of_key-none : (k : Key) → count_of_key no_counts k ≡ 0
count_of_key-none Low = refl
count_of_key-none High = refl
count_of_key-none Max = refl
count_of_key-none Oom = refl
count_of_key-none OomKill = refl
count_of_key-none OomGroupKill = refl

-- the key is counted once more, and no other
pub count_of_key-more : (counts : EventCounts) (key k : Key) → count_of_key (once_more counts key) k ≡ count_of_key counts k + cond (is_key key k) 1 0
count_of_key-more counts Low Low = refl
count_of_key-more counts Low High = omega arith
count_of_key-more counts Low Max = omega arith
count_of_key-more counts Low Oom = omega arith
count_of_key-more counts Low OomKill = omega arith
count_of_key-more counts Low OomGroupKill = omega arith
count_of_key-more counts High Low = omega arith
count_of_key-more counts High High = refl
count_of_key-more counts High Max = omega arith
count_of_key-more counts High Oom = omega arith
count_of_key-more counts High OomKill = omega arith
count_of_key-more counts High OomGroupKill = omega arith
count_of_key-more counts Max Low = omega arith
count_of_key-more counts Max High = omega arith
count_of_key-more counts Max Max = refl
count_of_key-more counts Max Oom = omega arith
count_of_key-more counts Max OomKill = omega arith
count_of_key-more counts Max OomGroupKill = omega arith
count_of_key-more counts Oom Low = omega arith
count_of_key-more counts Oom High = omega arith
count_of_key-more counts Oom Max = omega arith
count_of_key-more counts Oom Oom = refl
count_of_key-more counts Oom OomKill = omega arith
count_of_key-more counts Oom OomGroupKill = omega arith
count_of_key-more counts OomKill Low = omega arith
count_of_key-more counts OomKill High = omega arith
count_of_key-more counts OomKill Max = omega arith
count_of_key-more counts OomKill Oom = omega arith
count_of_key-more counts OomKill OomKill = refl
count_of_key-more counts OomKill OomGroupKill = omega arith
count_of_key-more counts OomGroupKill Low = omega arith
count_of_key-more counts OomGroupKill High = omega arith
count_of_key-more counts OomGroupKill Max = omega arith
count_of_key-more counts OomGroupKill Oom = omega arith
count_of_key-more counts OomGroupKill OomKill = omega arith
count_of_key-more counts OomGroupKill OomGroupKill = refl

-- ---- one group's

-- an event is counted at its group
pub local-event : (counted : List EventCounts) (group : ℕ) (key : Key) → group < length counted → (g : ℕ) (k : Key) → local (with_event counted group key) g k ≡ local counted g k + cond ((g == group) && is_key key k) 1 0
local-event counted group key lt g k =
    elim (eqb_tells g group) [
      | inl same ↦
          (let at_group : local (with_event counted group key) g k ≡ count_of_key (once_more (counts_at counted group) key) k =
          ap (λ i. local (with_event counted group key) i k) same.1 ∙ ap (λ c. count_of_key c k) (get_or-set_same counted group _ no_counts lt) in
          at_group ∙ count_of_key-more (counts_at counted group) key k ∙ ap (λ i. local counted i k + cond (is_key key k) 1 0) (sym same.1) ∙ ap (λ b. local counted g k + cond (b && is_key key k) 1 0) (sym same.0))
      | inr differs ↦
          (let kept : local (with_event counted group key) g k ≡ local counted g k = ap (λ c. count_of_key c k) (get_or-set_other counted group g _ no_counts differs.1) in
          let none : cond ((g == group) && is_key key k) 1 0 ≡ 0 = ap (λ (b : Bool). let n : ℕ = cond (b && is_key key k) 1 0 in n) differs.0 in
          omega (arith, kept, none))
    ]

-- a group more has nothing counted, as a number that is no group's
pub counts_at-push : (counted : List EventCounts) (g : ℕ) → counts_at (counted ++ no_counts ∷ []) g ≡ counts_at counted g
counts_at-push [] zero = refl
counts_at-push [] (suc g) = refl
counts_at-push (c ∷ counted) zero = refl
counts_at-push (c ∷ counted) (suc g) = counts_at-push counted g

pub local-push : (counted : List EventCounts) (g : ℕ) (k : Key) → local (counted ++ no_counts ∷ []) g k ≡ local counted g k
local-push counted g k = ap (λ c. count_of_key c k) (counts_at-push counted g)

pub local-beyond : (counted : List EventCounts) (g : ℕ) (k : Key) → length counted ≤ g → local counted g k ≡ 0
local-beyond counted g k le = ap (λ c. count_of_key c k) (get_or-eq_default counted no_counts le) ∙ count_of_key-none k

-- ---- sums over numbers

-- the sum over the n numbers from k on
abbrev pub sum_from : (ℕ → ℕ) → ℕ → ℕ → ℕ
sum_from f k zero = 0
sum_from f k (suc n) = f k + sum_from f (k + 1) n

pub sum_from-same : (f h : ℕ → ℕ) (k n : ℕ) → ((g : ℕ) → k ≤ g → g < k + n → f g ≡ h g) → sum_from f k n ≡ sum_from h k n
sum_from-same f h k zero same = refl
sum_from-same f h k (suc n) same =
    let here = same k (omega arith) (omega arith) in
    let rest = sum_from-same f h (k + 1) n (λ g from to. same g (omega (arith, from)) (omega (arith, to))) in
    omega (arith, here, rest)

pub sum_from-le : (f h : ℕ → ℕ) (k n : ℕ) → ((g : ℕ) → k ≤ g → g < k + n → f g ≤ h g) → sum_from f k n ≤ sum_from h k n
sum_from-le f h k zero same = omega arith
sum_from-le f h k (suc n) same =
    let here = same k (omega arith) (omega arith) in
    let rest = sum_from-le f h (k + 1) n (λ g from to. same g (omega (arith, from)) (omega (arith, to))) in
    omega (arith, here, rest)

pub sum_from-zero : (f : ℕ → ℕ) (k n : ℕ) → ((g : ℕ) → k ≤ g → g < k + n → f g ≡ 0) → sum_from f k n ≡ 0
sum_from-zero f k zero none = refl
sum_from-zero f k (suc n) none =
    let here = none k (omega arith) (omega arith) in
    let rest = sum_from-zero f (k + 1) n (λ g from to. none g (omega (arith, from)) (omega (arith, to))) in
    omega (arith, here, rest)

-- one number more at the end
pub sum_from-more : (f : ℕ → ℕ) (k n : ℕ) → sum_from f k (suc n) ≡ sum_from f k n + f (k + n)
sum_from-more f k zero = let same : f (k + 0) ≡ f k = ap f (omega arith) in omega (arith, same)
sum_from-more f k (suc n) =
    let rest = sum_from-more f (k + 1) n in
    let same : f (k + 1 + n) ≡ f (k + suc n) = ap f (omega arith) in
    omega (arith, rest, same)

-- a term is at most the sum
pub sum_from-term : (f : ℕ → ℕ) (k n g : ℕ) → k ≤ g → g < k + n → f g ≤ sum_from f k n
sum_from-term f k zero g from to = absurd (omega (arith, from, to))
sum_from-term f k (suc n) g from to =
    elim (eqb_tells g k) [
      | inl same ↦ (let here : f g ≡ f k = ap f same.1 in omega (arith, here))
      | inr differs ↦ (let other = differs.1 in let rest = sum_from-term f (k + 1) n g (grind (arith, from, other)) (omega (arith, to)) in omega (arith, rest))
    ]

-- sums that differ by as much at one number
pub sum_from-one : (f h : ℕ → ℕ) (at d k n : ℕ) → ((g : ℕ) → h g ≡ f g + cond (g == at) d 0) → k ≤ at → at < k + n → sum_from h k n ≡ sum_from f k n + d
sum_from-one f h at d k zero more from to = absurd (omega (arith, from, to))
sum_from-one f h at d k (suc n) more from to =
    elim (eqb_tells k at) [
      | inl same ↦
          (let here = more k in
          let one : ◌≡◌ {A = ℕ} (cond (k == at) d 0) d = ap (λ (b : Bool). let m : ℕ = cond b d 0 in m) same.0 in
          let is = same.1 in
          let rest = sum_from-same h f (k + 1) n (λ g above within. let e = more g in let none = not_at g (omega (arith, above, is)) in omega (arith, e, none)) in
          omega (arith, here, one, rest))
      | inr differs ↦
          (let here = more k in
          let none : ◌≡◌ {A = ℕ} (cond (k == at) d 0) 0 = ap (λ (b : Bool). let m : ℕ = cond b d 0 in m) differs.0 in
          let other = differs.1 in
          let rest = sum_from-one f h at d (k + 1) n more (grind (arith, from, other)) (omega (arith, to)) in
          omega (arith, here, none, rest))
    ]
  where
    not_at : (g : ℕ) → at < g → ◌≡◌ {A = ℕ} (cond (g == at) d 0) 0
    not_at g above = let other : (g == at) ≡ false = grind (arith, above) in ap (λ (b : Bool). let m : ℕ = cond b d 0 in m) other

-- a sum over numbers that pass a test, with the numbers of a list's elements
filtered : {X : Type 0} (test : ℕ → Bool) (f : ℕ → ℕ) (k : ℕ) (xs : List X) → sum_by f (filter test (map (λ e. e.0) (enumerate_from k xs))) ≡ sum_from (λ g. cond (test g) (f g) 0) k (length xs)
filtered test f k [] = refl
filtered {X} test f k (x ∷ xs) = by_test (test k) ∙ ap (λ n. cond (test k) (f k) 0 + n) (filtered test f (k + 1) xs)
  where
    rest : List ℕ
    rest = filter test (map (λ (e : ℕ × X). e.0) (enumerate_from (k + 1) xs))

    by_test : (b : Bool) → sum_by f (cond b (k ∷ rest) rest) ≡ cond b (f k) 0 + sum_by f rest
    by_test true = sum_by-cons f k rest
    by_test false = omega arith

-- ---- sums over groups

-- what a group adds to the number of a
abbrev pub part_under : List Node → List EventCounts → ℕ → Key → ℕ → ℕ
part_under tree counted a k g = cond (under tree a g) (local counted g k) 0

pub total-is : (tree : List Node) (counted : List EventCounts) (a : ℕ) (k : Key) → total tree counted a k ≡ sum_from (part_under tree counted a k) 0 (length tree)
total-is tree counted a k = filtered (under tree a) (λ g. local counted g k) 0 tree

-- trees of one length with the same groups under one
pub total-alike : (new old : List Node) (counted : List EventCounts) (a : ℕ) (k : Key) → length new ≡ length old → ((g : ℕ) → g < length old → under new a g ≡ under old a g) → total new counted a k ≡ total old counted a k
total-alike new old counted a k len same =
    total-is new counted a k ∙ ap (sum_from (part_under new counted a k) 0) len
    ∙ sum_from-same (part_under new counted a k) (part_under old counted a k) 0 (length old) (λ g from to. ap (λ b. cond b (local counted g k) 0) (same g (omega (arith, to))))
    ∙ sym (total-is old counted a k)

-- an event is counted at each group that its own is under
pub total-event : (tree : List Node) (counted : List EventCounts) (group : ℕ) (key : Key) → group < length tree → length counted ≡ length tree → (a : ℕ) (k : Key)
    → total tree (with_event counted group key) a k ≡ total tree counted a k + cond (under tree a group && is_key key k) 1 0
total-event tree counted group key lt len a k =
    total-is tree (with_event counted group key) a k
    ∙ sum_from-one (part_under tree counted a k) (part_under tree (with_event counted group key) a k) group (cond (under tree a group && is_key key k) 1 0) 0 (length tree) one (omega arith) (omega (arith, lt))
    ∙ ap (λ n. n + cond (under tree a group && is_key key k) 1 0) (sym (total-is tree counted a k))
  where
    by_cases : (u same is : Bool) (before after : ℕ) → after ≡ before + cond (same && is) 1 0 → ◌≡◌ {A = ℕ} (cond u after 0) (cond u before 0 + cond same (cond (u && is) 1 0) 0)
    by_cases true true is before after e = e
    by_cases true false is before after e = e
    by_cases false true is before after e = refl
    by_cases false false is before after e = refl

    moved : (g : ℕ) (b : Bool) → (g == group) ≡ b → ◌≡◌ {A = ℕ} (cond (g == group) (cond (under tree a g && is_key key k) 1 0) 0) (cond (g == group) (cond (under tree a group && is_key key k) 1 0) 0)
    moved g true e = ap (λ (h : ℕ). let n : ℕ = cond (g == group) (cond (under tree a h && is_key key k) 1 0) 0 in n) (eqb-true g group e)
    moved g false e = ap (λ (b : Bool). let n : ℕ = cond b (cond (under tree a g && is_key key k) 1 0) 0 in n) e ∙ sym (ap (λ (b : Bool). let n : ℕ = cond b (cond (under tree a group && is_key key k) 1 0) 0 in n) e)

    one : (g : ℕ) → part_under tree (with_event counted group key) a k g ≡ part_under tree counted a k g + cond (g == group) (cond (under tree a group && is_key key k) 1 0) 0
    one g =
        by_cases (under tree a g) (g == group) (is_key key k) (local counted g k) (local (with_event counted group key) g k) (local-event counted group key (omega (arith, lt, len)) g k)
        ∙ ap (λ n. part_under tree counted a k g + n) (moved g (g == group) refl)

-- a group more has nothing counted
pub total-push : (tree : List Node) (node : Node) (counted : List EventCounts) → IsTree tree → length counted ≡ length tree → (a : ℕ) (k : Key) → total (tree ++ node ∷ []) (counted ++ no_counts ∷ []) a k ≡ total tree counted a k
total-push tree node counted is len a k =
    total-is (tree ++ node ∷ []) (counted ++ no_counts ∷ []) a k
    ∙ ap (sum_from after 0) longer
    ∙ sum_from-more after 0 (length tree)
    ∙ (let olds = sum_from-same after (part_under tree counted a k) 0 (length tree) (λ g from to. old g (omega (arith, to))) in let seam : after (0 + length tree) ≡ after (length tree) = ap after (omega arith) in omega (arith, olds, last, seam))
    ∙ sym (total-is tree counted a k)
  where
    after : ℕ → ℕ
    after = part_under (tree ++ node ∷ []) (counted ++ no_counts ∷ []) a k

    longer : length (tree ++ node ∷ []) ≡ suc (length tree)
    longer = let more = length-append tree (node ∷ []) in omega (arith, more)

    old : (g : ℕ) → g < length tree → after g ≡ part_under tree counted a k g
    old g lt =
        ap (λ n. cond (under (tree ++ node ∷ []) a g) n 0) (local-push counted g k)
        ∙ ap (λ b. cond b (local counted g k) 0) (under_at-append tree (node ∷ []) is a (Some g) lt)

    nothing : (b : Bool) (n : ℕ) → n ≡ 0 → cond b n 0 ≡ 0
    nothing true n e = e
    nothing false n e = refl

    last : after (length tree) ≡ 0
    last = nothing (under (tree ++ node ∷ []) a (length tree)) _ (local-push counted (length tree) k ∙ local-beyond counted (length tree) k (omega (arith, len)))

-- no group is under a number that is not one yet
pub total-beyond : (tree : List Node) (counted : List EventCounts) → IsTree tree → (a : ℕ) (k : Key) → length tree ≤ a → total tree counted a k ≡ 0
total-beyond tree counted is a k le =
    total-is tree counted a k
    ∙ sum_from-zero (part_under tree counted a k) 0 (length tree)
    (λ g from to. ap (λ (b : Bool). let n : ℕ = cond b (local counted g k) 0 in n) (under_at-beyond tree is (Some g) a (let below : g < a = omega (arith, to, le) in below)))

-- no number passes that of a group which all are under
module _ (tree : List Node) (counted : List EventCounts) (root : ℕ) (rooted : (g : ℕ) → g < length tree → under tree root g ≡ true) (k : Key) where
  at_root : (g : ℕ) → g < length tree → part_under tree counted root k g ≡ local counted g k
  at_root g lt = ap (λ b. cond b (local counted g k) 0) (rooted g lt)

  part-le : (b : Bool) (n : ℕ) → cond b n 0 ≤ n
  part-le true n = omega arith
  part-le false n = omega arith

  pub total-le : (a : ℕ) → total tree counted a k ≤ total tree counted root k
  total-le a =
      let here = total-is tree counted a k in
      let all = total-is tree counted root k in
      let le = sum_from-le (part_under tree counted a k) (part_under tree counted root k) 0 (length tree)
      (λ g from to. let is = at_root g (omega (arith, to)) in let part = part-le (under tree a g) (local counted g k) in omega (arith, is, part)) in
      omega (arith, here, all, le)

  pub local-le : (a : ℕ) → a < length tree → local counted a k ≤ total tree counted root k
  local-le a lt =
      let all = total-is tree counted root k in
      let le = sum_from-term (part_under tree counted root k) 0 (length tree) a (omega arith) (omega (arith, lt)) in
      let is = at_root a lt in
      omega (arith, all, le, is)

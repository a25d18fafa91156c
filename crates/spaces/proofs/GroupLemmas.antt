-- How many live tasks are of each group.
use Rattle.std.proofs.Common.{◌≡◌, inl, inr, ℕ, zero, suc, ◌+◌, ◌-◌, ◌<◌, ◌≤◌, ◌==◌, ◌&&◌, Bool, true, false, List, [], ◌∷◌, ◌++◌, length, Option, Some, None, eq-eqb, ne_eqb, refl, sym, ap, ◌∙◌, arith, get_or, get_or-set_same, get_or-set_other, slice_set}
use Rattle.std.specs.Prelude.{nat_lt, slice_index}
use Rattle.std.proofs.lemmas.Bool.Decides.{nat_tests}
use Rattle.std.proofs.lemmas.List.{get_or_default, length-set}
use Rattle.std.proofs.lemmas.List.Sums.{count_by-le-length}
use Rattle.machine.specs.declared.record.Task.{Task}
use Rattle.machine.specs.Slots.{there_and, any_there, count_there}
use Rattle.machine.specs.Tasks.{Tasks, PageTables, task_at, group_of, group_of_task, is_live_task, is_live_in, lives, has_tasks}
use Rattle.machine.proofs.TreeLemmas.{eq_cases}
use Rattle.machine.proofs.SlotLemmas.{one_if, any_there-none, count_there-none, count_there-some}
use Rattle.machine.proofs.TestLemmas.{none_has}
use Rattle.spaces.specs.Tables.{AreSpaces, tasks_in}
use Rattle.spaces.proofs.PlaceLemmas.{kept-within}

-- ---- one task

-- a live task is of its own group, and one that has ended, or is not there, of none
in-alive : (slot : Option Task) (g : ℕ) → there_and is_live_task slot ≡ true → there_and (is_live_in g) slot ≡ (group_of slot == g)
in-alive None g alive = absurd (let wrong : false ≡ true = alive in cc)
in-alive (Some task) g alive = ap (λ (b : Bool). b && (task.group.0 == g)) alive

pub in-ended : (slot : Option Task) (g : ℕ) → there_and is_live_task slot ≡ false → there_and (is_live_in g) slot ≡ false
in-ended None g ended = refl
in-ended (Some task) g ended = ap (λ (b : Bool). b && (task.group.0 == g)) ended

-- ---- a kept number

-- the number of a group, read as n, is written: one more there, and no other changes
pub counted-more : (counts : List ℕ) (g n : ℕ) → g < length counts → n ≡ get_or counts g n → (k : ℕ) → slice_index (slice_set counts g (n + 1)) k ≡ slice_index counts k + one_if (g == k)
counted-more counts g n there read k =
    elim (eq_cases k g) [
      | inl is ↦
          (let was = read ∙ get_or_default counts g n 0 there in
          let now = get_or-set_same counts g (n + 1) 0 there in
          let own = ap one_if (eq-eqb g g refl) in
          let here : slice_index (slice_set counts g (n + 1)) g ≡ slice_index counts g + one_if (g == g) = omega (arith, was, now, own) in
          ap (slice_index (slice_set counts g (n + 1))) is ∙ here ∙ ap (λ (x : ℕ). slice_index counts x + one_if (g == x)) (sym is))
      | inr other ↦ (let same = get_or-set_other counts g k (n + 1) 0 other in let miss = ap one_if (ne_eqb g k (λ e. other (sym e))) in omega (arith, same, miss))
    ]

-- one less
counted-less : (counts : List ℕ) (g n : ℕ) → g < length counts → n ≡ get_or counts g n → 1 ≤ n → (k : ℕ) → slice_index (slice_set counts g (n - 1)) k + one_if (g == k) ≡ slice_index counts k
counted-less counts g n there read some k =
    elim (eq_cases k g) [
      | inl is ↦
          (let was = read ∙ get_or_default counts g n 0 there in
          let now = get_or-set_same counts g (n - 1) 0 there in
          let own = ap one_if (eq-eqb g g refl) in
          let here : slice_index (slice_set counts g (n - 1)) g + one_if (g == g) ≡ slice_index counts g = omega (arith, was, now, own, some) in
          ap (λ (x : ℕ). slice_index (slice_set counts g (n - 1)) x + one_if (g == x)) is ∙ here ∙ ap (slice_index counts) (sym is))
      | inr other ↦ (let same = get_or-set_other counts g k (n - 1) 0 other in let miss = ap one_if (ne_eqb g k (λ e. other (sym e))) in omega (arith, same, miss))
    ]

-- a group more has none yet
pub counted-group : (counts : List ℕ) (k : ℕ) → slice_index (counts ++ 0 ∷ []) k ≡ slice_index counts k
counted-group [] zero = refl
counted-group [] (suc k) = refl
counted-group (count ∷ counts) zero = refl
counted-group (count ∷ counts) (suc k) = counted-group counts k

-- ---- what always holds

module _ (tasks : Tasks) (tables : PageTables) (live : ℕ) (by_group counts : List ℕ) (h : AreSpaces tasks tables live by_group counts) where
  -- a live task is counted, and its group is there
  group-some : (t g : ℕ) → lives tasks t ≡ true → g ≡ group_of_task tasks t → 1 ≤ slice_index by_group g
  group-some t g alive of =
      let some = count_there-some (is_live_in g) tasks t (in-alive (task_at tasks t) g alive ∙ eq-eqb (group_of_task tasks t) g (sym of)) in
      let kept = h.grouped g in
      omega (arith, some, kept)

  pub group-within : (t g : ℕ) → lives tasks t ≡ true → g ≡ group_of_task tasks t → g < length by_group
  group-within t g alive of = kept-within by_group g (let some = group-some t g alive of in omega (arith, some))

  -- no group has more than there are task numbers
  group-few : (g : ℕ) → slice_index by_group g ≤ 65536
  group-few g =
      let few = count_by-le-length (there_and (is_live_in g)) tasks in
      let kept = h.grouped g in
      let within = h.within in
      omega (arith, few, kept, within)

  -- the number of a group, read as n: one more can be counted
  pub group-fits : (g n : ℕ) → g < length by_group → n ≡ get_or by_group g n → n + 1 < 4294967296
  group-fits g n there read = let is = read ∙ get_or_default by_group g n 0 there in let few = group-few g in omega (arith, is, few)

  -- that of a live task's group is not 0
  pub group-counted : (t g n : ℕ) → lives tasks t ≡ true → g ≡ group_of_task tasks t → n ≡ get_or by_group g n → 1 ≤ n
  group-counted t g n alive of read =
      let is = read ∙ get_or_default by_group g n 0 (group-within t g alive of) in
      let some = group-some t g alive of in
      omega (arith, is, some)

  -- a live task leaves its group
  pub group-left : (t g n : ℕ) → lives tasks t ≡ true → g ≡ group_of_task tasks t → n ≡ get_or by_group g n → (k : ℕ) → slice_index (slice_set by_group g (n - 1)) k + one_if (there_and (is_live_in k) (task_at tasks t)) ≡ slice_index by_group k
  group-left t g n alive of read k =
      let less = counted-less by_group g n (group-within t g alive of) read (group-counted t g n alive of read) k in
      let own : one_if (there_and (is_live_in k) (task_at tasks t)) ≡ one_if (g == k) = ap one_if (in-alive (task_at tasks t) k alive) ∙ ap (λ (x : ℕ). one_if (x == k)) (sym of) in
      omega (arith, less, own)

  -- and comes to another, or the same, whose number is read as m: one more can be counted there
  pub left-fits : (t g n to m : ℕ) → lives tasks t ≡ true → g ≡ group_of_task tasks t → n ≡ get_or by_group g n → to < length by_group → m ≡ get_or (slice_set by_group g (n - 1)) to m → m + 1 < 4294967296
  left-fits t g n to m alive of read there read_to =
      let same = length-set by_group g (n - 1) in
      let is = read_to ∙ get_or_default (slice_set by_group g (n - 1)) to m 0 (omega (arith, there, same)) in
      let left = group-left t g n alive of read to in
      let few = group-few to in
      omega (arith, is, left, few)

-- ---- whether there is one

-- one passes the test where one is counted
any_there-counted : {T : Type 0} (test : T → Bool) (xs : List (Option T)) → any_there test xs ≡ nat_lt 0 (count_there test xs)
any_there-counted test xs = by_answer (any_there test xs) refl
  where
    by_answer : (b : Bool) → any_there test xs ≡ b → any_there test xs ≡ nat_lt 0 (count_there test xs)
    by_answer false is = let none = count_there-none test xs (none_has test xs is) in is ∙ sym (ap (nat_lt 0) none)
    by_answer true is = by_count (count_there test xs) refl
      where
        by_count : (n : ℕ) → count_there test xs ≡ n → any_there test xs ≡ nat_lt 0 (count_there test xs)
        by_count zero none = absurd (let wrong : true ≡ false = sym is ∙ any_there-none test xs none in cc)
        by_count (suc n) some = is ∙ sym (ap (nat_lt 0) some ∙ (let h : 0 < suc n = omega arith in grind (arith, nat_tests, h)))

-- a group has a live task where one is counted
pub has_tasks-counted : (tasks : Tasks) (by_group : List ℕ) → ((g : ℕ) → tasks_in tasks g ≡ slice_index by_group g) → (g : ℕ) → has_tasks tasks g ≡ nat_lt 0 (slice_index by_group g)
has_tasks-counted tasks by_group grouped g = any_there-counted (is_live_in g) tasks ∙ ap (nat_lt 0) (grouped g)

-- A task begins or ends.
use Rattle.std.proofs.Common.{◌≡◌, ◌≢◌, inl, inr, ℕ, ◌+◌, ◌-◌, ◌<◌, ◌≤◌, ◌==◌, ◌&&◌, Bool, true, false, cond, List, [], length, Option, Some, None, refl, sym, ap, ◌∙◌, arith, replicate, get_or, slice_set, get_or-set_same, get_or-set_other}
use Rattle.std.specs.Prelude.{is_some, nat_le, not, option_map, slice_index}
use Rattle.std.proofs.lemmas.List.{get_or-replicate, get_or_past, length-replicate, length-set}
use Rattle.std.proofs.lemmas.Bool.Decides.{nat_tests}
use Rattle.machine.specs.declared.id.PageId.{PageId}
use Rattle.machine.specs.declared.record.Life.{Life}
use Rattle.machine.specs.declared.record.Life.TheVariants.{Live}
use Rattle.machine.specs.declared.record.Task.{Task}
use Rattle.machine.specs.declared.refusal.Refusal.TheVariants.{Invalid, NumberUsed, NoSpace}
use Rattle.machine.specs.Access.{task_pages}
use Rattle.machine.specs.Refusals.{first_cause, number_refusal}
use Rattle.machine.specs.Slots.{at, there_and}
use Rattle.machine.specs.Tasks.{Tasks, PageTable, PageTables, task_at, SetsTask, task_of, group_of_task, is_live_task, is_live_life, is_live_in, lives, live_tasks, table_of, number_of_page, mapped_at, ShowsNothing}
use Rattle.machine.proofs.TreeLemmas.{eq_cases, lt_cases}
use Rattle.machine.proofs.SlotLemmas.{one_if, count_there-changes, count_there-some}
use Rattle.machine.proofs.MappingLemmas.{mappers-alike}
use Rattle.spaces.specs.Tables.{AreSpaces}
use Rattle.spaces.proofs.PlaceLemmas.{table_of-within}
use Rattle.spaces.proofs.GroupLemmas.{in-ended, counted-more, group-left}

-- a table without a place, and one of whose places none shows a page, show nothing
at-empty : (table : PageTable) (v : ℕ) → length table ≡ 0 → option_map number_of_page (at table v) ≡ None
at-empty table v empty = ap (option_map number_of_page) (get_or_past table v None (omega (arith, empty)))

at-replicate : (n v : ℕ) → at {T = PageId} (replicate n None) v ≡ None
at-replicate n v =
    elim (lt_cases v n) [
      | inl lt ↦ get_or-replicate n v None None lt
      | inr past ↦ get_or_past (replicate n None) v None (let len = length-replicate {A = Option PageId} n None in elim past [ inl is ↦ omega (arith, is, len) | inr lt ↦ omega (arith, lt, len) ])
    ]

-- one task begins or ends, and its table has another length; what the tables show stays
pub AreSpaces-task : (tasks tasks' : Tasks) (tables tables' : PageTables) (live live' : ℕ) (by_group by_group' counts : List ℕ) (t g : ℕ) (life : Life) → AreSpaces tasks tables live by_group counts → SetsTask tasks t g life tasks' → length tasks' ≤ 65536
    → length tables' ≡ length tasks' → live' + one_if (lives tasks t) ≡ live + one_if (is_live_life life)
    → ((k : ℕ) → slice_index by_group' k + one_if (there_and (is_live_in k) (task_at tasks t)) ≡ slice_index by_group k + one_if (is_live_in k (task_of g life))) → length (table_of tables' t) ≡ cond (is_live_life life) task_pages 0
    → ((u : ℕ) → u ≢ t → table_of tables' u ≡ table_of tables u) → ((u v : ℕ) → mapped_at tables' u v ≡ mapped_at tables u v) → AreSpaces tasks' tables' live' by_group' counts
AreSpaces-task tasks tasks' tables tables' live live' by_group by_group' counts t g life h sets within as_many living grouped whole others same =
    record {
      within = within;
      as_many = as_many;
      living =
          (let moved = count_there-changes is_live_task tasks tasks' t (Some (task_of g life)) sets in
          let was = h.living in
          omega (arith, moved, was, living));
      grouped =
          (λ k.
          let moved = count_there-changes (is_live_in k) tasks tasks' t (Some (task_of g life)) sets in
          let was = h.grouped k in
          let kept = grouped k in
          omega (arith, moved, was, kept));
      whole =
          λ u.
          elim (eq_cases u t) [
            | inl is ↦ ap (λ (x : ℕ). length (table_of tables' x)) is ∙ whole ∙ ap (λ slot. cond (there_and is_live_task slot) task_pages 0) (sym sets.changed) ∙ ap (λ (x : ℕ). cond (lives tasks' x) task_pages 0) (sym is)
            | inr other ↦ ap length (others u other) ∙ h.whole u ∙ ap (λ slot. cond (there_and is_live_task slot) task_pages 0) (sym (sets.others u other))
          ];
      counted = λ p. mappers-alike tables tables' p same ∙ h.counted p;
    }

-- a table in place of one that showed nothing shows nothing: all tables show what they did
pub same-shown : (tables tables' : PageTables) (t : ℕ) → ((v : ℕ) → mapped_at tables t v ≡ None) → ((v : ℕ) → mapped_at tables' t v ≡ None) → ((u : ℕ) → u ≢ t → table_of tables' u ≡ table_of tables u)
    → (u v : ℕ) → mapped_at tables' u v ≡ mapped_at tables u v
same-shown tables tables' t before now others u v =
    elim (eq_cases u t) [
      | inl is ↦ ap (λ (x : ℕ). mapped_at tables' x v) is ∙ now v ∙ sym (before v) ∙ ap (λ (x : ℕ). mapped_at tables x v) (sym is)
      | inr other ↦ ap (λ (table : PageTable). option_map number_of_page (at table v)) (others u other)
    ]

-- ---- a task begins

-- a number that a new task can have is within, and no task's
pub number-within : (tasks : Tasks) (t : ℕ) → number_refusal tasks t ≡ None → t ≤ 65535
number-within tasks t free = by_range (nat_le 1 t && nat_le t 65535) refl free
  where
    by_range : (b : Bool) → (nat_le 1 t && nat_le t 65535) ≡ b
        → first_cause (not b) Invalid (first_cause (is_some (task_at tasks t)) NumberUsed (first_cause (nat_le 1024 (live_tasks tasks)) NoSpace None)) ≡ None → t ≤ 65535
    by_range true is e = grind (arith, nat_tests, is)
    by_range false is e = absurd (cc)

pub number-fresh : (tasks : Tasks) (t : ℕ) → number_refusal tasks t ≡ None → lives tasks t ≡ false
number-fresh tasks t free = by_range (not (nat_le 1 t && nat_le t 65535)) free
  where
    by_slot : (slot : Option Task) → first_cause (is_some slot) NumberUsed (first_cause (nat_le 1024 (live_tasks tasks)) NoSpace None) ≡ None → there_and is_live_task slot ≡ false
    by_slot None e = refl
    by_slot (Some task) e = absurd (cc)

    by_range : (b : Bool) → first_cause b Invalid (first_cause (is_some (task_at tasks t)) NumberUsed (first_cause (nat_le 1024 (live_tasks tasks)) NoSpace None)) ≡ None → lives tasks t ≡ false
    by_range true e = absurd (cc)
    by_range false e = by_slot (task_at tasks t) e

module _ (tasks : Tasks) (tables tables' : PageTables) (live : ℕ) (by_group counts : List ℕ) (h : AreSpaces tasks tables live by_group counts) (t : ℕ) (free : number_refusal tasks t ≡ None) (put : table_of tables' t ≡ replicate task_pages None) (others : (u : ℕ) → u ≢ t → table_of tables' u ≡ table_of tables u) where
  fresh : lives tasks t ≡ false
  fresh = number-fresh tasks t free

  nothing-before : (v : ℕ) → mapped_at tables t v ≡ None
  nothing-before v = at-empty (table_of tables t) v (h.whole t ∙ ap (λ b. cond b task_pages 0) fresh)

  nothing-now : (v : ℕ) → mapped_at tables' t v ≡ None
  nothing-now v = ap (λ (table : PageTable). option_map number_of_page (at table v)) put ∙ ap (option_map number_of_page) (at-replicate task_pages v)

  pub same-begun : (u v : ℕ) → mapped_at tables' u v ≡ mapped_at tables u v
  same-begun = same-shown tables tables' t nothing-before nothing-now others

  pub ShowsNothing-begun : ShowsNothing tables tables' t
  ShowsNothing-begun = record { none = nothing-now; others = λ u w other. same-begun u w }

  pub AreSpaces-begun : (tasks' : Tasks) (g n : ℕ) → SetsTask tasks t g Live tasks' → length tasks' ≤ 65536 → length tables' ≡ length tasks' → g < length by_group → n ≡ get_or by_group g n
      → AreSpaces tasks' tables' (live + 1) (slice_set by_group g (n + 1)) counts
  AreSpaces-begun tasks' g n sets within as_many there read =
      let none : one_if (lives tasks t) ≡ 0 = ap one_if fresh in
      let before : (k : ℕ) → one_if (there_and (is_live_in k) (task_at tasks t)) ≡ 0 = λ k. ap one_if (in-ended (task_at tasks t) k fresh) in
      AreSpaces-task tasks tasks' tables tables' live (live + 1) by_group (slice_set by_group g (n + 1)) counts t g Live h sets within as_many (omega (arith, none))
      (λ k. let was = before k in let more = counted-more by_group g n there read k in omega (arith, was, more)) (ap length put ∙ length-replicate {A = Option PageId} task_pages None) others same-begun

-- ---- a task ends

pub AreSpaces-ended : (tasks tasks' : Tasks) (tables : PageTables) (live : ℕ) (by_group counts : List ℕ) (t g n : ℕ) (life : Life) (table : PageTable) → AreSpaces tasks tables live by_group counts → lives tasks t ≡ true → is_live_life life ≡ false
    → ((v : ℕ) → mapped_at tables t v ≡ None) → SetsTask tasks t (group_of_task tasks t) life tasks' → length tasks' ≡ length tasks → table ≡ [] → g ≡ group_of_task tasks t → n ≡ get_or by_group g n
    → AreSpaces tasks' (slice_set tables t table) (live - 1) (slice_set by_group g (n - 1)) counts
AreSpaces-ended tasks tasks' tables live by_group counts t g n life table h alive ended nothing sets same_length empty of read =
    let whole : length (table_of tables t) ≡ task_pages = h.whole t ∙ ap (λ b. cond b task_pages 0) alive in
    let there = table_of-within tables t (omega (arith, whole)) in
    let now : table_of (slice_set tables t table) t ≡ [] = get_or-set_same tables t table [] there ∙ empty in
    let others : (u : ℕ) → u ≢ t → table_of (slice_set tables t table) u ≡ table_of tables u = λ u other. get_or-set_other tables t u table [] other in
    let within = h.within in
    let one : one_if (lives tasks t) ≡ 1 = ap one_if alive in
    let zero : one_if (is_live_life life) ≡ 0 = ap one_if ended in
    let some = count_there-some is_live_task tasks t alive in
    let living = h.living in
    AreSpaces-task tasks tasks' tables (slice_set tables t table) live (live - 1) by_group (slice_set by_group g (n - 1)) counts t (group_of_task tasks t) life h sets (omega (arith, within, same_length)) (length-set tables t table ∙ h.as_many ∙ sym same_length)
    (omega (arith, one, zero, some, living))
    (λ k.
    let left = group-left tasks tables live by_group counts h t g n alive of read k in
    let none : one_if (is_live_in k (task_of (group_of_task tasks t) life)) ≡ 0 = ap (λ (b : Bool). one_if (b && (group_of_task tasks t == k))) ended in
    omega (arith, left, none))
    (ap length now ∙ ap (λ b. cond b task_pages 0) (sym ended)) others (same-shown tables (slice_set tables t table) t nothing (λ v. ap (λ (x : PageTable). option_map number_of_page (at x v)) now) others)

-- ---- a task moves

pub AreSpaces-moved : (tasks tasks' : Tasks) (tables : PageTables) (live : ℕ) (by_group counts : List ℕ) (t from to n m : ℕ) → AreSpaces tasks tables live by_group counts → lives tasks t ≡ true → SetsTask tasks t to Live tasks' → length tasks' ≡ length tasks
    → from ≡ group_of_task tasks t → n ≡ get_or by_group from n → to < length by_group → m ≡ get_or (slice_set by_group from (n - 1)) to m
    → AreSpaces tasks' tables live (slice_set (slice_set by_group from (n - 1)) to (m + 1)) counts
AreSpaces-moved tasks tasks' tables live by_group counts t from to n m h alive sets same_length of read there read_to =
    let within = h.within in
    let left = slice_set by_group from (n - 1) in
    let one : one_if (lives tasks t) ≡ 1 = ap one_if alive in
    AreSpaces-task tasks tasks' tables tables live live by_group (slice_set left to (m + 1)) counts t to Live h sets (omega (arith, within, same_length)) (h.as_many ∙ sym same_length) (omega (arith, one))
    (λ k.
    let less = group-left tasks tables live by_group counts h t from n alive of read k in
    let more = counted-more left to m (let same = length-set by_group from (n - 1) in omega (arith, there, same)) read_to k in
    omega (arith, less, more))
    (h.whole t ∙ ap (λ b. cond b task_pages 0) alive) (λ u other. refl) (λ u v. refl)

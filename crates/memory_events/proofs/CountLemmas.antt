-- The numbers that are kept are the sums that they stand for, whatever is done.
use Rattle.std.proofs.Common.{inl, inr, ◌≡◌, ℕ, zero, suc, ◌+◌, ◌<◌, ◌≤◌, ◌&&◌, true, false, cond, List, [], ◌∷◌, ◌++◌, length, get_or, Some, None, refl, sym, ap, ◌∙◌, arith, length-append, length-set, get_or-set_other, get_or-set_same}
use Rattle.std.specs.Prelude.{slice_set}
use Rattle.std.proofs.lemmas.Bool.Decides.{eqb_tells}
use Rattle.std.proofs.lemmas.List.{get_or_read}
use Rattle.machine.specs.declared.record.EventCounts.{EventCounts}
use Rattle.machine.specs.declared.record.Key.{Key}
use Rattle.machine.specs.declared.record.Key.TheVariants.{Low, High, Max, Oom, OomKill, OomGroupKill}
use Rattle.machine.specs.Tree.{Node, no_node, node_at, is_live, under, IsTree}
use Rattle.machine.specs.Counts.{no_counts, count_of_key, once_more, with_event, local, total, counts_by, is_key}
use Rattle.machine.proofs.TreeLemmas.{lt_cases, same_under}
use Rattle.counts.proofs.CountLemmas.{count_of_key-none, local-push, local-beyond, total-alike, total-event, total-push, total-beyond, total-le, local-le}
use Rattle.group_tree.specs.Lineages.{bare, IsLineage}
use Rattle.group_tree.proofs.LineageLemmas.{live-within}
use Rattle.memory_events.specs.Tables.{AreSums}

-- the six counts are those by their keys
pub counts_by-same : (f g : Key → ℕ) → ((k : Key) → f k ≡ g k) → counts_by f ≡ counts_by g
counts_by-same f g same = rw (same Low, same High, same Max, same Oom, same OomKill, same OomGroupKill) refl

none_by_key : (x : EventCounts) → (x.low ≡ 0) × ((x.high ≡ 0) × ((x.max ≡ 0) × ((x.oom ≡ 0) × ((x.oom_kill ≡ 0) × (x.oom_group_kill ≡ 0))))) → (k : Key) → count_of_key x k ≡ count_of_key no_counts k
none_by_key x none Low = none.0
none_by_key x none High = none.1.0
none_by_key x none Max = none.1.1.0
none_by_key x none Oom = none.1.1.1.0
none_by_key x none OomKill = none.1.1.1.1.0
none_by_key x none OomGroupKill = none.1.1.1.1.1

-- a new group's counts at the end
pub pushed_none : (old new : List EventCounts) (x : EventCounts) → (x.low ≡ 0) × ((x.high ≡ 0) × ((x.max ≡ 0) × ((x.oom ≡ 0) × ((x.oom_kill ≡ 0) × (x.oom_group_kill ≡ 0))))) → new ≡ old ++ x ∷ [] → new ≡ old ++ no_counts ∷ []
pushed_none old new x none is = is ∙ ap (λ y. old ++ y ∷ []) (counts_by-same (count_of_key x) (count_of_key no_counts) (none_by_key x none))

-- a live group has its counts
pub within-counts : (tree : List Node) (counts : List EventCounts) (group : ℕ) → is_live tree group ≡ true → length counts ≡ length tree → group < length counts
within-counts tree counts group live all = let lt = live-within tree group live in omega (arith, lt, all)

-- a number that is read
pub local-read : (counts : List EventCounts) (a : ℕ) (x : EventCounts) (k : Key) → a < length counts → x ≡ get_or counts a x → count_of_key x k ≡ local counts a k
local-read counts a x k lt is = ap (λ c. count_of_key c k) (get_or_read counts a x lt is no_counts)

-- the root alone
pub sums-root : (tree : List Node) (totals locals : List EventCounts) → tree ≡ bare None ∷ [] → totals ≡ no_counts ∷ [] → locals ≡ no_counts ∷ [] → AreSums tree totals locals
sums-root tree totals locals is_tree is_totals is_locals = record {
  all_totals = ap length is_totals ∙ sym (ap length is_tree);
  all_locals = ap length is_locals ∙ sym (ap length is_tree);
  sums = λ a k lt. ap (λ cs. local cs a k) is_totals ∙ none a k ∙ sym (ap (λ (ns : List Node). total ns locals a k) is_tree ∙ ap (λ cs. total (bare None ∷ []) cs a k) is_locals ∙ total-push-none a k);
}
  where
    none : (a : ℕ) (k : Key) → local (no_counts ∷ []) a k ≡ 0
    none zero k = count_of_key-none k
    none (suc a) k = count_of_key-none k

    total-push-none : (a : ℕ) (k : Key) → total (bare None ∷ []) (no_counts ∷ []) a k ≡ 0
    total-push-none a k = total-push [] (bare None) [] (record { falls = λ g p e. cc }) refl a k

-- a group more, with nothing counted
module _ (tree : List Node) (totals locals : List EventCounts) (p : ℕ) (is : IsTree tree) (are : AreSums tree totals locals) where
  one_more : (counts new : List EventCounts) (after : List Node) → length counts ≡ length tree → after ≡ tree ++ bare (Some p) ∷ [] → new ≡ counts ++ no_counts ∷ [] → length new ≡ length after
  one_more counts new after all is_tree is_new =
      let by_tree = ap length is_tree ∙ length-append tree (bare (Some p) ∷ []) in
      let by_new = ap length is_new ∙ length-append counts (no_counts ∷ []) in
      omega (arith, all, by_tree, by_new)

  as_before : (a : ℕ) (k : Key) → local totals a k ≡ total tree locals a k
  as_before a k =
      elim (lt_cases a (length tree)) [
        | inl lt ↦ are.sums a k lt
        | inr (inl at) ↦ (let all = are.all_totals in local-beyond totals a k (omega (arith, at, all)) ∙ sym (total-beyond tree locals is a k (omega (arith, at))))
        | inr (inr beyond) ↦ (let all = are.all_totals in local-beyond totals a k (omega (arith, beyond, all)) ∙ sym (total-beyond tree locals is a k (omega (arith, beyond))))
      ]

  pub sums-push : (after : List Node) (new_totals new_locals : List EventCounts) → after ≡ tree ++ bare (Some p) ∷ [] → new_totals ≡ totals ++ no_counts ∷ [] → new_locals ≡ locals ++ no_counts ∷ [] → AreSums after new_totals new_locals
  sums-push after new_totals new_locals is_tree is_totals is_locals = record {
    all_totals = one_more totals new_totals after are.all_totals is_tree is_totals;
    all_locals = one_more locals new_locals after are.all_locals is_tree is_locals;
    sums =
        λ a k lt.
        ap (λ cs. local cs a k) is_totals ∙ local-push totals a k ∙ as_before a k ∙ sym (total-push tree (bare (Some p)) locals is are.all_locals a k)
        ∙ sym (ap (λ (ns : List Node). total ns new_locals a k) is_tree ∙ ap (λ cs. total (tree ++ bare (Some p) ∷ []) cs a k) is_locals);
  }

-- a group less: what it hung below stays known
pub sums-remove : (tree : List Node) (group : ℕ) → is_live tree group ≡ true → (after : List Node) (totals locals : List EventCounts) → after ≡ slice_set tree group (record (node_at tree group) { live = false }) → AreSums tree totals locals → AreSums after totals locals
sums-remove tree group live after totals locals is are =
    let len : length after ≡ length tree = ap length is ∙ length-set tree group _ in
    record {
      all_totals = are.all_totals ∙ sym len;
      all_locals = are.all_locals ∙ sym len;
      sums = λ a k lt. are.sums a k (omega (arith, lt, len)) ∙ sym (total-alike after tree locals a k len (λ g within. same_under after tree same_parent a (Some g)));
    }
  where
    same_parent : (g : ℕ) → (node_at after g).parent ≡ (node_at tree g).parent
    same_parent g =
        ap (λ (ns : List Node). (node_at ns g).parent) is
        ∙ elim (eqb_tells g group) [
          | inl same ↦ rw same.1 (ap (λ x. x.parent) (get_or-set_same tree group _ no_node (live-within tree group live)))
          | inr differs ↦ ap (λ x. x.parent) (get_or-set_other tree group g _ no_node differs.1)
        ]

-- an event is counted: at its group, and in the numbers of all above it
module _ (tree : List Node) (totals locals : List EventCounts) (group : ℕ) (key : Key) (was after : EventCounts) (live : is_live tree group ≡ true) (are : AreSums tree totals locals) (read : was ≡ get_or locals group was) (more : after ≡ once_more was key) where
  pub with_event-is : slice_set locals group after ≡ with_event locals group key
  with_event-is = ap (slice_set locals group) (more ∙ ap (λ x. once_more x key) (get_or_read locals group was (within-counts tree locals group live are.all_locals) read no_counts))

  pub sums-count : (new_totals : List EventCounts) → length new_totals ≡ length totals → ((a : ℕ) (k : Key) → a < length tree → local new_totals a k ≡ local totals a k + cond (under tree a group && is_key key k) 1 0)
      → AreSums tree new_totals (slice_set locals group after)
  sums-count new_totals same_length by_totals = record {
    all_totals = same_length ∙ are.all_totals;
    all_locals = length-set locals group after ∙ are.all_locals;
    sums =
        λ a k lt.
        by_totals a k lt ∙ ap (λ n. n + cond (under tree a group && is_key key k) 1 0) (are.sums a k lt) ∙ sym (total-event tree locals group key (live-within tree group live) are.all_locals a k)
        ∙ ap (λ cs. total tree cs a k) (sym with_event-is);
  }

-- no number of a key passes the root's
module _ (tree : List Node) (totals locals : List EventCounts) (is : IsLineage tree) (are : AreSums tree totals locals) (key : Key) where
  pub totals-le-root : (a : ℕ) → a < length tree → local totals a key ≤ total tree locals 0 key
  totals-le-root a lt = let here = are.sums a key lt in let le = total-le tree locals 0 is.rooted key a in omega (arith, here, le)

  pub locals-le-root : (a : ℕ) → a < length tree → local locals a key ≤ total tree locals 0 key
  locals-le-root a lt = local-le tree locals 0 is.rooted key a lt

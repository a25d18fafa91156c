-- Counts of events over groups without their paths.
use Rattle.std.proofs.Common.{◌≡◌, ℕ, ◌+◌, ◌≤◌, ◌&&◌, Bool, true, false, cond, List, length, ap, ◌∙◌, arith}
use Rattle.machine.specs.declared.record.EventCounts.{EventCounts}
use Rattle.machine.specs.declared.record.Key.{Key}
use Rattle.machine.specs.Tree.{Node, under, is_live}
use Rattle.machine.specs.Counts.{is_key, with_event, total, counts_by}
use Rattle.counts.proofs.CountLemmas.{total-event}
use Rattle.group_tree.specs.Kin.{AreKin}
use Rattle.group_tree.proofs.LineageLemmas.{live-within}
use Rattle.page_state.proofs.KinLemmas.{kin-total}

-- what is shown of a whole group
pub shown-totals : (kin tree : List Node) → AreKin kin tree → (counted : List EventCounts) (g : ℕ) → counts_by (total kin counted g) ≡ counts_by (total tree counted g)
shown-totals kin tree are counted g = ap counts_by (same_keys (kin-total kin tree are counted g))
  where
    same_keys : {f h : Key → ℕ} → ((k : Key) → f k ≡ h k) → f ≡ h
    same_keys same = λ i k. same k i

-- an event adds one at most
pub total-most : (tree : List Node) (counted : List EventCounts) (g : ℕ) (key : Key) → is_live tree g ≡ true → length counted ≡ length tree → (a : ℕ) (k : Key) → total tree (with_event counted g key) a k ≤ total tree counted a k + 1
total-most tree counted g key live len a k = let is = total-event tree counted g key (live-within tree g live) len a k in let one = most (under tree a g && is_key key k) in omega (arith, is, one)
  where
    most : (b : Bool) → cond b 1 0 ≤ 1
    most true = omega arith
    most false = omega arith

-- What is written into the table of counts.
use Rattle.std.proofs.Common.{inl, inr, ◌≡◌, ℕ, ◌+◌, ◌-◌, ◌<◌, ◌≤◌, ◌==◌, true, false, List, length, Some, None, refl, sym, ap, ◌∙◌, arith, slice_index, slice_set, get_or-set_other, get_or-set_same}
use Rattle.machine.specs.declared.record.Limits.{Limits}
use Rattle.machine.specs.Tree.{IsTree, share}
use Rattle.machine.proofs.TreeLemmas.{eq_cases, share-None}
use Rattle.group_tree.proofs.LineageLemmas.{live-within}
use Rattle.page_counter.specs.Counts.{Counts, SameGroups, Charges, MovesUp, AreCounts, IsOut}
use Rattle.page_counter.specs.Tables.{IsCounted}
use Rattle.page_counter.proofs.ChargeLemmas.{live-out, counts_itself}

-- one less at the group of a charge that is out
module _ (s : Counts) (g : ℕ) (is : IsTree s.tree) (same_length : length s.usage ≡ length s.tree) (out : IsOut s g) where
  pub counts_one : 1 ≤ slice_index s.usage g
  counts_one = counts_itself s g is out

  pub MovesUp-set : MovesUp s (record s { usage = slice_set s.usage g (slice_index s.usage g - 1) }) g
  MovesUp-set =
      record {
        groups = record { tree = refl; limits = refl; room = refl };
        usage =
            λ a lt.
            elim (eq_cases a g) [
              | inl same ↦
                  (let within : g < length s.usage = (let there = live-within s.tree g (live-out s g out) in omega (arith, there, same_length)) in
                  let e : slice_index (slice_set s.usage g (slice_index s.usage g - 1)) a ≡ slice_index s.usage g - 1 = rw same (get_or-set_same s.usage g _ _ within) in
                  let test : (a == g) ≡ true = grind (arith, same) in
                  let here : slice_index s.usage a ≡ slice_index s.usage g = ap (slice_index s.usage) same in
                  let more = counts_one in
                  grind (arith, e, test, here, more))
              | inr differs ↦
                  (let e : slice_index (slice_set s.usage g (slice_index s.usage g - 1)) a ≡ slice_index s.usage a = get_or-set_other s.usage g a _ _ differs in
                  let test : (a == g) ≡ false = grind (arith, differs) in
                  grind (arith, e, test))
            ];
      }

-- what the walk of a charge leaves
pub Charges-added : (s : Counts) (now usage : List ℕ) (g : ℕ) → usage ≡ now → ((a : ℕ) → a < length s.tree → slice_index now a ≡ slice_index s.usage a + share s.tree a (Some g)) → Charges s (record s { usage = usage }) g
Charges-added s now usage g same added =
    record {
      groups = record { tree = refl; limits = refl; room = refl };
      usage = λ a lt. ap (λ u. slice_index u a) same ∙ added a lt;
    }

-- and that of a charge taken back
pub Charges-taken : (s : Counts) (now usage : List ℕ) (g : ℕ) → IsTree s.tree → usage ≡ now → ((a : ℕ) → a < length s.tree → slice_index now a + share s.tree a (Some g) ≡ slice_index s.usage a + share s.tree a None)
    → Charges (record s { usage = usage }) s g
Charges-taken s now usage g is same taken =
    record {
      groups = record { tree = refl; limits = refl; room = refl };
      usage = λ a lt. (let e = taken a lt in let none = share-None s.tree is a in let here = ap (λ u. slice_index u a) same in omega (arith, e, none, here));
    }

-- the tables stay such, where only counts changed
pub IsCounted-counts : (old new : Counts) (charges : List ℕ) → IsCounted old → SameGroups old new → length new.usage ≡ length old.usage → AreCounts new charges → IsCounted new
IsCounted-counts old new charges held groups same counted =
    record {
      limits_length = ap length groups.limits ∙ held.limits_length ∙ sym (ap length groups.tree);
      usage_length = same ∙ held.usage_length ∙ sym (ap length groups.tree);
      charges = charges;
      counted = counted;
    }

-- and where only limits did
pub IsCounted-limits : (s : Counts) (limits : List Limits) → length limits ≡ length s.limits → IsCounted s → IsCounted (record s { limits = limits })
IsCounted-limits s limits same held =
    record {
      limits_length = same ∙ held.limits_length;
      usage_length = held.usage_length;
      charges = held.charges;
      counted = record { live = held.counted.live; counts = held.counted.counts };
    }

-- The worst of some candidates, one more being looked at.
use Rattle.std.proofs.Common.{◌≡◌, inl, inr, ℕ, ◌+◌, ◌<◌, ◌==◌, ◌&&◌, ◌||◌, true, false, List, Option, Some, ap, ◌∙◌, subst, arith}
use Rattle.std.specs.Prelude.{nat_lt}
use Rattle.std.proofs.lemmas.Bool.Decides.{nat_tests}
use Rattle.machine.specs.Tree.{Node}
use Rattle.machine.specs.Tasks.{Tasks, PageTables, size_of}
use Rattle.machine.specs.Victim.{is_candidate, is_worse}
use Rattle.machine.proofs.TreeLemmas.{eq_cases}
use Rattle.oom.specs.declared.Candidate.{Candidate}
use Rattle.oom.specs.Worst.{IsWorstOf, IsWorstBelow}

-- by sizes: whoever is not worse than one that is smaller is not worse than the larger
not_worse : (a b c t w k : ℕ) → (nat_lt b a || ((a == b) && nat_lt t w)) ≡ false → b < c → (nat_lt c a || ((a == c) && nat_lt t k)) ≡ false
not_worse a b c t w k h lt = grind (arith, nat_tests, h, lt)

not_worse_self : (a t : ℕ) → (nat_lt a a || ((a == a) && nat_lt t t)) ≡ false
not_worse_self a t = grind (arith, nat_tests)

-- a larger candidate takes the place of the worst
pub worst-larger : (tree : List Node) (tasks : Tasks) (tables : PageTables) (limit below size : ℕ) (worst : Option Candidate) (other : Candidate)
    → IsWorstBelow tree tasks tables limit below worst → worst ≡ Some other → is_candidate tree tasks limit below ≡ true → size ≡ size_of tables below → other.size < size
    → IsWorstOf tree tasks tables limit (below + 1) below size
worst-larger tree tasks tables limit below size worst other h is hit sized larger =
    let before : IsWorstOf tree tasks tables limit below other.task.0 other.size = subst (IsWorstBelow tree tasks tables limit below) is h in
    let kept = before.sized in
    let more : size_of tables other.task.0 < size_of tables below = omega (arith, kept, sized, larger) in
    record {
      within = omega arith;
      among = hit;
      sized = sized;
      none_worse = λ t lt too.
          elim (eq_cases t below) [
            | inl same ↦ ap (λ u. is_worse tables u below) same ∙ not_worse_self (size_of tables below) below
            | inr new ↦ not_worse (size_of tables t) (size_of tables other.task.0) (size_of tables below) t other.task.0 below (before.none_worse t (omega (arith, lt, new)) too) more
          ];
    }

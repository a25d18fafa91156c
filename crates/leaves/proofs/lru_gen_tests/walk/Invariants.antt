use Rattle.std.proofs.Common.{◌≡◌, true, IfSome}
use Rattle.machine.specs.declared.id.PageId.{PageId}
use Rattle.machine.specs.Generations.{row_of, has_page}
use Rattle.lru_gen.specs.Gens.{gens_of}
use Rattle.leaves.proofs.lru_gen_tests.walk.Given as goal

abbrev pub invariant-loop : goal.invariant-loop
invariant-loop l = IfSome l.next (λ (p : PageId). has_page p.0 (row_of l.kind (gens_of l.gens l.group.0)).pages ≡ true)

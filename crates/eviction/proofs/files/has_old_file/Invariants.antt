use Rattle.std.proofs.Common.{◌≡◌, true, length, option_map, IfSome}
use Rattle.machine.specs.Generations.{has_page}
use Rattle.machine.specs.Eviction.{old_of}
use Rattle.lru_gen.specs.Gens.{gens_of}
use Rattle.aging.proofs.PromoteLemmas.{rest_of}
use Rattle.eviction.proofs.FileLemmas.{has_unmarked}
use Rattle.eviction.proofs.files.has_old_file.Given as goal

abbrev pub invariant-loop-next : goal.invariant-loop-next
invariant-loop-next l =
    let gens = gens_of l.gens l.group.0 in
    let old = old_of gens.max_seq gens.file.pages in
    record {
      there : IfSome l.next (λ p. has_page p.0 old ≡ true);
      same : has_unmarked l.marks (rest_of (option_map (λ p. p.0) l.next) old) ≡ has_unmarked l.marks old;
    }

abbrev pub decreases-loop-next : goal.decreases-loop-next
decreases-loop-next l = length (rest_of (option_map (λ p. p.0) l.next) (old_of (gens_of l.gens l.group.0).max_seq (gens_of l.gens l.group.0).file.pages))

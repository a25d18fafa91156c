use Rattle.std.proofs.Common.{◌≡◌, ◌<◌, ◌≤◌, length, option_map}
use Rattle.machine.specs.Generations.{row_of, on_row}
use Rattle.machine.specs.Aging.{cleared, promoted}
use Rattle.lru_gen.specs.Gens.{gens_of}
use Rattle.aging.specs.Groups.{ChangesOnly}
use Rattle.aging.proofs.PromoteLemmas.{with_pages, ending, rest_of, IsThere, steps_left}
use Rattle.aging.proofs.promotion.promote.Given as goal

abbrev pub invariant-loop-next : goal.invariant-loop-next
invariant-loop-next l = record {
  gens :
      with_pages l.kind (ending (option_map (λ p. p.0) l.next) (gens_of l.gens l.group.0).max_seq l.marks (row_of l.kind (gens_of l.gens l.group.0)).pages) (gens_of l.gens l.group.0)
      ≡ on_row l.fn.kind (promoted (gens_of l.fn.gens l.fn.group.0).max_seq l.fn.marks) (gens_of l.fn.gens l.fn.group.0);
  marks : cleared (rest_of (option_map (λ p. p.0) l.next) (row_of l.kind (gens_of l.gens l.group.0)).pages) l.marks ≡ cleared (row_of l.fn.kind (gens_of l.fn.gens l.fn.group.0)).pages l.fn.marks;
  there : IsThere (option_map (λ p. p.0) l.next) (row_of l.kind (gens_of l.gens l.group.0)).pages;
  only : ChangesOnly l.fn.group.0 l.fn.gens l.gens;
  group : l.group.0 < length l.gens.groups;
  marked : l.gens.pages ≤ length l.marks;
}

abbrev pub decreases-loop-next : goal.decreases-loop-next
decreases-loop-next l = steps_left (option_map (λ p. p.0) l.next) l.marks (row_of l.kind (gens_of l.gens l.group.0)).pages

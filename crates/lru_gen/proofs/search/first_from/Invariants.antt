use Rattle.std.proofs.Common.{◌≡◌}
use Rattle.lru_gen.proofs.SearchLemmas.{first_of}
use Rattle.lru_gen.proofs.search.first_from.Given as goal

abbrev pub invariant-loop-later : goal.invariant-loop-later
invariant-loop-later l = first_of l.rings.lists l.group.0 l.kind l.oldest l.end l.later ≡ first_of l.rings.lists l.group.0 l.kind l.oldest l.end l.turn

use Rattle.std.proofs.Common.{◌≡◌}
use Rattle.lru_gen.specs.Rows.{HaveMoved}
use Rattle.lru_gen.proofs.moving.move_pages.Given as goal

abbrev pub invariant-loop-turn : goal.invariant-loop-turn
invariant-loop-turn l = record {
  lists : HaveMoved l.initial.rings.lists l.rings.lists l.from.0 l.fn.to.0 l.kind l.oldest l.turn l.seq;
  others : l.rings ≡ record l.initial.rings { lists = l.rings.lists };
}

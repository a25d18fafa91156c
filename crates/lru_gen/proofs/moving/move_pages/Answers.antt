use Rattle.std.proofs.Common.{length, refl, ap, ◌∙◌, arith}
use Rattle.rings.specs.Rings.{RingsOf}
use Rattle.lru_gen.proofs.SlotLemmas.{slot_in_lists}
use Rattle.lru_gen.proofs.MoveLemmas.{none_moved, one_moved}
use Rattle.lru_gen.proofs.moving.move_pages.Goals as goal

pub loop-turn-init : goal.loop-turn-init
loop-turn-init c = record {
  lists = none_moved c.args.from.0 c.args.to.0 c.args.kind c.args.oldest c.args.seq c.requires.apart c.args.rings.now.lists;
  others = refl;
}

pub loop-turn-preserved : goal.loop-turn-preserved
loop-turn-preserved c = record {
  lists =
      one_moved c.args.from.0 c.args.to.0 c.args.kind c.args.oldest c.args.seq c.requires.apart c.args.rings.now.lists c.loop-turn.rings.lists c.splice_back.new.self.lists
      c.loop-turn.turn c.list_of.result.0 c.list_of-target.result.0 c.loop-turn-test.true c.loop-turn.invariant.lists c.list_of.ensures c.list_of-target.ensures
      (slot_in_lists c.args.from.0 (length c.loop-turn.rings.lists) c.list_of.result.0 c.args.kind _ (let room = c.requires.from_lists in let size = c.loop-turn.invariant.lists.size in omega (arith, room, size)) c.list_of.ensures)
      (slot_in_lists c.args.to.0 (length c.loop-turn.rings.lists) c.list_of-target.result.0 c.args.kind _ (let room = c.requires.to_lists in let size = c.loop-turn.invariant.lists.size in omega (arith, room, size)) c.list_of-target.ensures)
      c.splice_back.ensures.lists;
  others = c.splice_back.ensures.others ∙ ap (λ (v : RingsOf). record v { lists = c.splice_back.new.self.lists }) c.loop-turn.invariant.others;
}

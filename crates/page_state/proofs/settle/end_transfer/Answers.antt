use Rattle.std.proofs.Common.{subst}
use Rattle.machine.specs.Slots.{Changes}
use Rattle.pages.specs.Transfers.{page_after, IsFreed}
use Rattle.page_state.proofs.SettleLemmas.{settled-block, settled-frame, settled-charge, kept-in_frame, kept-at_home, kept-on_block}
use Rattle.page_state.proofs.settle.end_transfer.Goals as goal

pub give-requires : goal.give-requires
give-requires g c =
    let w = c.requires.stands in
    let freed = subst (IsFreed w.1 w.2 w.3 c.args.end) c.in-Slot.is (c.settle-kind.ensures.freed w.0 w.1 w.2 w.3 w.4) in
    let out = settled-block c.args.counters.now c.args.pool.now c.args.slots.now c.args.pages.now.pages w.0 c.args.page.0 w.1 w.2 w.3 c.args.ticket.number w.4 c.requires.kept c.in-Slot.slot freed.1 freed.2 in
    record { out = out.0; in_range = out.1 }

pub give_room-requires : goal.give_room-requires
give_room-requires g c =
    let w = c.requires.stands in
    let freed = subst (IsFreed w.1 w.2 w.3 c.args.end) c.in-Room.is (c.settle-kind.ensures.freed w.0 w.1 w.2 w.3 w.4) in
    let placed = subst (λ end. Changes c.args.pages.now.pages c.settle-kind.new.self.pages c.args.page.0 (page_after end w.1 w.2 w.3)) freed.0 (c.settle-kind.ensures.ends w.0 w.1 w.2 w.3 w.4).placed in
    let out = settled-frame c.args.counters.now c.args.pool.now c.args.slots.now c.args.pages.now.pages w.0 c.args.page.0 w.1 w.2 w.3 c.args.ticket.number w.4 c.requires.kept c.in-Room.frame.number freed.1 in
    record {
      out = out.0;
      in_range = out.1;
      charged = settled-charge c.args.counters.now c.args.pool.now c.args.slots.now c.args.pages.now.pages w.0 c.args.page.0 w.1 w.2 w.3 c.args.ticket.number w.4 c.requires.kept c.settle-kind.new.self.pages c.in-Room.charge freed.2 c.are_counted.ensures.lineage.earlier_parents placed;
    }

pub returns-in-Slot-clause-kept : goal.returns-in-Slot-clause-kept
returns-in-Slot-clause-kept g c =
    let w = c.requires.stands in
    let freed = subst (IsFreed w.1 w.2 w.3 c.args.end) c.in-Slot.is (c.settle-kind.ensures.freed w.0 w.1 w.2 w.3 w.4) in
    let placed = subst (λ end. Changes c.args.pages.now.pages c.settle-kind.new.self.pages c.args.page.0 (page_after end w.1 w.2 w.3)) freed.0 (c.settle-kind.ensures.ends w.0 w.1 w.2 w.3 w.4).placed in
    kept-in_frame c.args.counters.now c.args.pool.now c.args.slots.now c.args.pages.now.pages w.0 c.args.page.0 w.1 w.2 w.3 c.args.ticket.number w.4 c.requires.kept c.settle-kind.new.self.pages c.give.new.self c.in-Slot.slot freed.1 freed.2 placed c.give.ensures.counts c.give.ensures.more c.give.ensures.blocks

pub returns-in-Room-clause-kept : goal.returns-in-Room-clause-kept
returns-in-Room-clause-kept g c =
    let w = c.requires.stands in
    let freed = subst (IsFreed w.1 w.2 w.3 c.args.end) c.in-Room.is (c.settle-kind.ensures.freed w.0 w.1 w.2 w.3 w.4) in
    let placed = subst (λ end. Changes c.args.pages.now.pages c.settle-kind.new.self.pages c.args.page.0 (page_after end w.1 w.2 w.3)) freed.0 (c.settle-kind.ensures.ends w.0 w.1 w.2 w.3 w.4).placed in
    kept-on_block c.args.counters.now c.args.pool.now c.args.slots.now c.args.pages.now.pages w.0 c.args.page.0 w.1 w.2 w.3 c.args.ticket.number w.4 c.requires.kept c.settle-kind.new.self.pages c.give_room.new.counters c.give_room.new.pool c.in-Room.frame.number c.in-Room.charge freed.1 freed.2 placed c.give_room.ensures.frame c.give_room.ensures.uncharged

pub returns-in-Nothing-clause-kept : goal.returns-in-Nothing-clause-kept
returns-in-Nothing-clause-kept g c =
    let w = c.requires.stands in
    let freed = subst (IsFreed w.1 w.2 w.3 c.args.end) c.in-Nothing.is (c.settle-kind.ensures.freed w.0 w.1 w.2 w.3 w.4) in
    let placed = subst (λ end. Changes c.args.pages.now.pages c.settle-kind.new.self.pages c.args.page.0 (page_after end w.1 w.2 w.3)) freed.0 (c.settle-kind.ensures.ends w.0 w.1 w.2 w.3 w.4).placed in
    kept-at_home c.args.counters.now c.args.pool.now c.args.slots.now c.args.pages.now.pages w.0 c.args.page.0 w.1 w.2 w.3 c.args.ticket.number w.4 c.requires.kept c.settle-kind.new.self.pages freed.1 placed

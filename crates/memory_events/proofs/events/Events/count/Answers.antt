use Rattle.std.proofs.Common.{◌∙◌, ap, length, arith}
use Rattle.std.proofs.lemmas.List.{with_items_is}
use Rattle.machine.specs.Counts.{local}
use Rattle.group_tree.proofs.LineageLemmas.{live-within}
use Rattle.memory_events.proofs.CountLemmas.{local-read, within-counts, with_event-is, sums-count, totals-le-root, locals-le-root}
use Rattle.memory_events.proofs.events.Events.count.Goals as goal

pub count_once-requires : goal.count_once-requires
count_once-requires c =
    let inside = c.self.inside in
    let requires = rw (← c.self.view_is) at c.requires in
    let read = local-read inside.locals.items c.args.group.0 c.index_mut.result.now c.args.key (within-counts inside.lineage.tree inside.locals.items c.args.group.0 requires.live c.self.invariant.all_locals) c.index_mut.ensures.value in
    let le = locals-le-root inside.lineage.tree inside.totals.items inside.locals.items c.is_lineage.ensures c.self.invariant c.args.key c.args.group.0 (live-within inside.lineage.tree c.args.group.0 requires.live) in
    let room = requires.room in
    omega (arith, read, le, room)

pub count_up-requires-clause-room : goal.count_up-requires-clause-room
count_up-requires-clause-room c =
    let inside = c.self.inside in
    let requires = rw (← c.self.view_is) at c.requires in
    let room = requires.room in
    λ a lt. rw c.as_mut_slice.ensures.value (let le = totals-le-root inside.lineage.tree inside.totals.items inside.locals.items c.is_lineage.ensures c.self.invariant c.args.key a lt in omega (arith, le, room))

pub invariant_of-self : goal.invariant_of-self
invariant_of-self c =
    let inside = c.self.inside in
    let requires = rw (← c.self.view_is) at c.requires in
    let items = with_items_is inside.totals c.count_up.new.totals (omega arith) in
    let totals = rw c.as_mut_slice.ensures.value at c.count_up.ensures in
    sums-count inside.lineage.tree inside.totals.items inside.locals.items c.args.group.0 c.args.key c.index_mut.result.now c.count_once.new.counts requires.live c.self.invariant c.index_mut.ensures.value c.count_once.ensures _
    (ap length items ∙ omega arith)
    (λ a k lt. ap (λ counts. local counts a k) items ∙ totals a k lt)

pub returns-clause-counted : goal.returns-clause-counted
returns-clause-counted c =
    let inside = c.self.inside in
    let requires = rw (← c.self.view_is) at c.requires in
    rw (← c.self.view_is)
    (with_event-is inside.lineage.tree inside.totals.items inside.locals.items c.args.group.0 c.args.key c.index_mut.result.now c.count_once.new.counts requires.live c.self.invariant c.index_mut.ensures.value c.count_once.ensures)

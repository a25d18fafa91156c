use Rattle.std.proofs.Common.{◌≡◌, ◌∙◌, Some, length, refl, ap}
use Rattle.machine.specs.Counts.{count_of_key, counts_at}
use Rattle.counts.proofs.CountLemmas.{count_of_key-more}
use Rattle.machine.proofs.TreeLemmas.{parent_in}
use Rattle.memory_events.proofs.WalkLemmas.{not_full, counted_more, counted_all}
use Rattle.memory_events.proofs.events.count_up.Goals as goal

pub count_once-requires : goal.count_once-requires
count_once-requires c =
    let tree = c.args.lineage.now.tree in
    let live = rw c.in-Some.is at c.loop-at.invariant.live in
    let counted = rw c.in-Some.is at c.loop-at.invariant.counted in
    not_full tree c.requires.lineage.earlier_parents c.args.key c.loop-at.totals c.args.totals.now (Some c.args.group.0) c.in-Some.here.0 _ live counted (c.requires.room c.in-Some.here.0 live)

pub loop-at-preserved : goal.loop-at-preserved
loop-at-preserved c =
    let tree = c.args.lineage.now.tree in
    let is = c.requires.lineage.earlier_parents in
    let live = rw c.in-Some.is at c.loop-at.invariant.live in
    let counted = rw c.in-Some.is at c.loop-at.invariant.counted in
    let all : length c.loop-at.totals ≡ length tree = c.loop-at.auto.totals ∙ c.requires.same_length in
    rw c.parent-at.ensures.parent (record {
      live = parent_in tree is c.in-Some.here.0 (length tree) live;
      counted = counted_more tree is c.args.key c.loop-at.totals c.args.totals.now (Some c.args.group.0) c.in-Some.here.0 c.count_once.new.counts live all
          (λ k. ap (λ x. count_of_key x k) c.count_once.ensures ∙ count_of_key-more (counts_at c.loop-at.totals c.in-Some.here.0) c.args.key k) counted;
    })

pub returns : goal.returns
returns c =
    let counted = rw c.in_default.is at c.loop-at.invariant.counted in
    counted_all c.args.lineage.now.tree c.requires.lineage.earlier_parents c.args.key c.loop-at.totals c.args.totals.now (Some c.args.group.0) c.args.group.0 refl counted

use Rattle.std.proofs.Common.{◌≡◌, true, Some, arith, ap}
use Rattle.machine.specs.Tree.{is_live}
use Rattle.group_tree.specs.Tables.{number, nodes_of}
use Rattle.group_tree.proofs.SpanLemmas.{in-table, parent-read, parent-live, parent-nearer, AgreeUp, all-counted, counted-once, one-more}
use Rattle.group_tree.proofs.walk.widen.Goals as goal

pub overflow_add-spans : goal.overflow_add-spans
overflow_add-spans c =
    let live : is_live (nodes_of c.args.groups.now) c.in-Some.here.0 ≡ true = rw c.in-Some.is at c.loop-at.invariant.live in
    let agree : AgreeUp (nodes_of c.args.groups.now) c.loop-at.spans (Some c.in-Some.here.0) c.args.spans.now (number c.args.from) = rw c.in-Some.is at c.loop-at.invariant.counts in
    let once = counted-once (nodes_of c.args.groups.now) c.requires.tree.earlier_parents c.loop-at.spans c.args.spans.now (number c.args.from) c.in-Some.here.0 agree in
    let few = c.requires.few c.in-Some.here.0 live in
    omega (arith, once, few)

pub loop-at-smaller : goal.loop-at-smaller
loop-at-smaller c =
    let live : is_live (nodes_of c.args.groups.now) c.in-Some.here.0 ≡ true = rw c.in-Some.is at c.loop-at.invariant.live in
    rw c.in-Some.is (parent-nearer c.args.groups.now c.requires.tree.earlier_parents c.in-Some.here.0 c.index-groups-here.result live)

pub loop-at-preserved : goal.loop-at-preserved
loop-at-preserved c =
    let live : is_live (nodes_of c.args.groups.now) c.in-Some.here.0 ≡ true = rw c.in-Some.is at c.loop-at.invariant.live in
    let agree : AgreeUp (nodes_of c.args.groups.now) c.loop-at.spans (Some c.in-Some.here.0) c.args.spans.now (number c.args.from) = rw c.in-Some.is at c.loop-at.invariant.counts in
    let inside = in-table c.args.groups.now c.in-Some.here.0 live in
    record {
      live = parent-live c.args.groups.now c.requires.tree c.in-Some.here.0 c.index-groups-here.result live;
      counts =
          rw (parent-read c.args.groups.now c.in-Some.here.0 c.index-groups-here.result inside)
          (one-more (nodes_of c.args.groups.now) c.requires.tree.earlier_parents c.loop-at.spans c.args.spans.now (number c.args.from) c.in-Some.here.0 (omega arith) agree);
    }

pub returns-clause-spans : goal.returns-clause-spans
returns-clause-spans c =
    all-counted (nodes_of c.args.groups.now) c.requires.tree.earlier_parents c.loop-at.spans c.args.spans.now (number c.loop-at.at) (number c.args.from) (ap number c.in_default.is) c.loop-at.invariant.counts

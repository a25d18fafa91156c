use Rattle.std.proofs.Common.{◌≡◌, true, Some, arith, sym, ap}
use Rattle.machine.specs.Tree.{is_live}
use Rattle.group_tree.specs.Tables.{number, nodes_of}
use Rattle.group_tree.proofs.SpanLemmas.{in-table, parent-read, parent-live, parent-nearer, AgreeUp, all-counted, counted-once, one-less}
use Rattle.group_tree.proofs.walk.narrow.Goals as goal

pub overflow_sub-spans : goal.overflow_sub-spans
overflow_sub-spans c =
    let live : is_live (nodes_of c.args.groups.now) c.in-Some.here.0 ≡ true = rw c.in-Some.is at c.loop-at.invariant.live in
    let agree : AgreeUp (nodes_of c.args.groups.now) c.args.spans.now (Some c.in-Some.here.0) c.loop-at.spans (number c.args.from) = rw c.in-Some.is at c.loop-at.invariant.counts in
    let once = counted-once (nodes_of c.args.groups.now) c.requires.tree.earlier_parents c.args.spans.now c.loop-at.spans (number c.args.from) c.in-Some.here.0 agree in
    let some = c.requires.some c.in-Some.here.0 live in
    omega (arith, once, some)

pub loop-at-smaller : goal.loop-at-smaller
loop-at-smaller c =
    let live : is_live (nodes_of c.args.groups.now) c.in-Some.here.0 ≡ true = rw c.in-Some.is at c.loop-at.invariant.live in
    rw c.in-Some.is (parent-nearer c.args.groups.now c.requires.tree.earlier_parents c.in-Some.here.0 c.index-groups-here.result live)

pub loop-at-preserved : goal.loop-at-preserved
loop-at-preserved c =
    let live : is_live (nodes_of c.args.groups.now) c.in-Some.here.0 ≡ true = rw c.in-Some.is at c.loop-at.invariant.live in
    let agree : AgreeUp (nodes_of c.args.groups.now) c.args.spans.now (Some c.in-Some.here.0) c.loop-at.spans (number c.args.from) = rw c.in-Some.is at c.loop-at.invariant.counts in
    let inside = in-table c.args.groups.now c.in-Some.here.0 live in
    record {
      live = parent-live c.args.groups.now c.requires.tree c.in-Some.here.0 c.index-groups-here.result live;
      counts =
          rw (parent-read c.args.groups.now c.in-Some.here.0 c.index-groups-here.result inside)
          (let some = c.requires.some c.in-Some.here.0 live in
          let once = counted-once (nodes_of c.args.groups.now) c.requires.tree.earlier_parents c.args.spans.now c.loop-at.spans (number c.args.from) c.in-Some.here.0 agree in
          one-less (nodes_of c.args.groups.now) c.requires.tree.earlier_parents c.args.spans.now c.loop-at.spans (number c.args.from) c.in-Some.here.0 (omega arith) (omega (arith, some, once)) agree);
    }

pub returns-clause-spans : goal.returns-clause-spans
returns-clause-spans c g =
    sym (all-counted (nodes_of c.args.groups.now) c.requires.tree.earlier_parents c.args.spans.now c.loop-at.spans (number c.loop-at.at) (number c.args.from) (ap number c.in_default.is) c.loop-at.invariant.counts g)

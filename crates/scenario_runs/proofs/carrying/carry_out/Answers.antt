use Rattle.std.proofs.Common.{◌++◌, ◌∷◌, [], Option, Some, sym, ap, subst}
use Rattle.expansion.specs.declared.expansion.Item.{Item}
use Rattle.expansion.specs.ToCome.{still}
use Rattle.expansion.specs.Walk.{Ran}
use Rattle.scenario_runs.specs.Carried.{CarriesItem, IsNextItem}
use Rattle.scenario_runs.proofs.CarryLemmas.{said_of, end_stays, item_comes, item_more}
use Rattle.scenario_runs.proofs.carrying.carry_out.Goals as goal

pub returns-in-Ends : goal.returns-in-Ends
returns-in-Ends g c = record {
  carried = λ end.
      let whole = still c.args.expansion.now in
      let now = still c.loop.expansion in
      let later = still c.next_item.new.expansion in
      let left = still c.carry_item.new.expansion in
      let so_far = c.loop.invariant end in
      let end_now = end_stays whole now so_far.0 so_far.1 end in
      let next : IsNextItem now (Some c.in-Some.item) later = subst (λ (i : Option Item). IsNextItem now i later) c.in-Some.is (c.in_ok-item.ensures (said_of now end_now)) in
      let same = c.in_ok-carry_item.ensures.still (said_of later (end_stays now later (next.0 ∷ []) next.2 end_now)) in
      let split = item_comes whole now later left so_far.0 next.0 so_far.1 next.2 same in
      let carried =
      item_more g.O.Sink.took g.O.Sink.saw g.O.Observer.goes_on g.met.O.Observer.unchanged g.met.O.Observer.longer g.O.Observer.judged so_far.0 next.0 c.args.observer.now c.loop.observer c.carry_item.new.observer c.args.stepper.now c.loop.stepper
      c.carry_item.new.stepper so_far.2
      (subst (λ (i : Item). CarriesItem g.O.Sink.took g.O.Sink.saw g.O.Observer.goes_on g.O.Observer.judged c.loop.observer c.loop.stepper i c.carry_item.new.observer c.carry_item.new.stepper) (sym next.1) c.in_ok-carry_item.ensures.carries) in
      (so_far.0 ++ next.0 ∷ [], left.outs, ap (λ (r : Ran). r.outs) split, carried, c.in_ok-carry_item.ensures.ended c.in-Ends.is);
}

pub loop-preserved : goal.loop-preserved
loop-preserved g c = λ end.
    let whole = still c.args.expansion.now in
    let now = still c.loop.expansion in
    let later = still c.next_item.new.expansion in
    let left = still c.carry_item.new.expansion in
    let so_far = c.loop.invariant end in
    let end_now = end_stays whole now so_far.0 so_far.1 end in
    let next : IsNextItem now (Some c.in-Some.item) later = subst (λ (i : Option Item). IsNextItem now i later) c.in-Some.is (c.in_ok-item.ensures (said_of now end_now)) in
    let same = c.in_ok-carry_item.ensures.still (said_of later (end_stays now later (next.0 ∷ []) next.2 end_now)) in
    let split = item_comes whole now later left so_far.0 next.0 so_far.1 next.2 same in
    let carried =
    item_more g.O.Sink.took g.O.Sink.saw g.O.Observer.goes_on g.met.O.Observer.unchanged g.met.O.Observer.longer g.O.Observer.judged so_far.0 next.0 c.args.observer.now c.loop.observer c.carry_item.new.observer c.args.stepper.now c.loop.stepper
    c.carry_item.new.stepper so_far.2
    (subst (λ (i : Item). CarriesItem g.O.Sink.took g.O.Sink.saw g.O.Observer.goes_on g.O.Observer.judged c.loop.observer c.loop.stepper i c.carry_item.new.observer c.carry_item.new.stepper) (sym next.1) c.in_ok-carry_item.ensures.carries) in
    (so_far.0 ++ next.0 ∷ [], split, carried)

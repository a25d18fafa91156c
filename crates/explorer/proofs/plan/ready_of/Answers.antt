use Rattle.std.proofs.Common.{List, ℕ, sym, subst, take}
use Rattle.std.specs.List.Sorted.{IsStrictlyIncreasing}
use Rattle.explorer.proofs.CarriedLemmas.{take-next}
use Rattle.explorer.proofs.WorkLemmas.{ready-step, ready-rising}
use Rattle.explorer.proofs.plan.ready_of.Goals as goal

pub loop-place-preserved : goal.loop-place-preserved
loop-place-preserved c =
    ready-step c.args.run.now c.args.rows.now c.loop-place.place c.index-rows-place.result c.loop-place.ready.items _ c.loop-place-test.true
    (take-next c.args.rows.now c.loop-place.place c.index-rows-place.result c.loop-place-test.true c.index-rows-place.is) c.loop-place.invariant c.in_ok-add_if_ready.ensures

pub returns-clause-rising : goal.returns-clause-rising
returns-clause-rising c =
    let P : List ℕ → Type 0 = λ (l : List ℕ). IsStrictlyIncreasing l in
    subst P (sym c.loop-place.invariant) (ready-rising 0 c.args.run.now.seats (take c.loop-place.place c.args.rows.now))

use Rattle.std.proofs.Common.{◌≡◌, ℕ, ◌+◌, ◌<◌, length, take, Bool, Ok, ap, sym, ◌∙◌, subst, arith}
use Rattle.orders.specs.Course.{Course, taken}
use Rattle.orders.specs.Runs.{turns, IsWalk}
use Rattle.walks.specs.Walks.{IsCut, Goes, Ends}
use Rattle.walks.proofs.Made.{turns-many}
use Rattle.walks.proofs.run.Goals as goal

pub returns-then-not-branch-clause-walks : goal.returns-then-not-branch-clause-walks
returns-then-not-branch-clause-walks g c =
    let ends : Ends g.M.Machine.gathered c.loop-turn.machine c.go_on.new.machine c.loop-turn.orders c.go_on.new.orders = c.go_on.ensures.ends (c.in_ok-go_on.was ∙ ap (λ (b : Bool). Ok b) c.if-not-branch.true) in
    λ _ runs w. let W : Course → Type 0 = λ (o : Course). IsWalk c.args.depth runs o in subst W (sym ends.same) (c.loop-turn.invariant.walks runs w)

pub loop-turn-preserved : goal.loop-turn-preserved
loop-turn-preserved g c =
    let goes : Goes g.M.Machine.came g.M.Machine.gathered c.loop-turn.machine c.go_on.new.machine c.loop-turn.orders c.go_on.new.orders = c.go_on.ensures.goes (c.in_ok-go_on.was ∙ ap (λ (b : Bool). Ok b) c.if-not-branch.false) in
    let counted : length (taken c.loop-turn.orders) ≡ c.loop-turn._turn = c.loop-turn.invariant.counted in
    let lt : length (taken c.loop-turn.orders) < c.args.depth = omega arith in
    record {
      comes = goes.comes;
      counted = goes.one ∙ ap (λ (n : ℕ). n + 1) counted;
      walks = λ runs w. goes.walks c.args.depth runs lt (c.loop-turn.invariant.walks runs w);
      gathers = λ runs h. goes.gathers runs (c.loop-turn.invariant.gathers runs h);
      stays = g.met.M.Machine.further c.args.machine.now c.loop-turn.machine c.go_on.new.machine c.loop-turn.invariant.stays c.in_ok-go_on.ensures.stays;
    }

pub returns-clause-walks : goal.returns-clause-walks
returns-clause-walks g c = λ e runs w.
    let ends : Ends g.M.Machine.gathered c.loop-turn.machine c.end.new.machine c.loop-turn.orders c.end.new.orders = c.end.ensures.ends e in
    let W : Course → Type 0 = λ (o : Course). IsWalk c.args.depth runs o in subst W (sym ends.same) (c.loop-turn.invariant.walks runs w)

pub returns-clause-cut : goal.returns-clause-cut
returns-clause-cut g c = λ e.
    let counted : length (taken c.loop-turn.orders) ≡ c.loop-turn._turn = c.loop-turn.invariant.counted in
    let many : length (turns c.loop-turn.orders) ≡ length (taken c.loop-turn.orders) = turns-many (take c.loop-turn.orders.depth c.loop-turn.orders.points) in
    let all : length (turns c.loop-turn.orders) ≡ c.args.depth = omega arith in
    let C : ℕ → Type 0 = λ (n : ℕ). IsCut g.M.Machine.came g.M.Machine.may c.end.new.machine n in
    subst C all (c.end.ensures.cut e)

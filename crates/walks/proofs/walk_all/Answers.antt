use Rattle.std.proofs.Common.{◌≡◌, ℕ, Bool, true, Ok, ap, ◌∙◌, subst, arith}
use Rattle.walks.specs.Walks.{MadeSome}
use Rattle.walks.proofs.Made.{so_far-open, so_far-more, all-made, some-made}
use Rattle.walks.proofs.walk_all.Goals as goal

pub loop-walked-init : goal.loop-walked-init
loop-walked-init g c =
    record {
      begins = c.open-orders.ensures.taken;
      anew = c.open-orders.ensures.turns;
      made = so_far-open g.M.Machine.gathered c.args.machine.now c.args.depth c.open-orders.result (c.open-orders.ensures.walks c.args.depth) c.requires;
      stays = g.met.M.Machine.same c.args.machine.now;
    }

pub returns-then-not-next-clause-walked : goal.returns-then-not-next-clause-walked
returns-then-not-next-clause-walked g c =
    let e : c.run.result ≡ Ok true = c.in_ok-run.was ∙ ap (λ (b : Bool). Ok b) c.if-not-branch.false in
    all-made g.M.Machine.gathered c.loop-walked.machine c.run.new.machine c.args.depth c.loop-walked.walked c.loop-walked.orders c.run.new.orders c.loop-walked.invariant.made
    (c.run.ensures.walks e) (c.run.ensures.gathered e)
    (λ runs w. c.next.ensures.all c.if-not-next.true c.args.depth runs (c.run.ensures.short e) w)

pub loop-walked-preserved : goal.loop-walked-preserved
loop-walked-preserved g c =
    let e : c.run.result ≡ Ok true = c.in_ok-run.was ∙ ap (λ (b : Bool). Ok b) c.if-not-branch.false in
    record {
      begins = c.next.ensures.taken;
      anew = c.next.ensures.turns;
      made = so_far-more g.M.Machine.gathered c.loop-walked.machine c.run.new.machine c.args.depth c.loop-walked.walked c.loop-walked.orders c.run.new.orders c.next.new.self c.loop-walked.invariant.made
          (c.run.ensures.walks e) (c.run.ensures.gathered e)
          (λ runs w. c.next.ensures.walks c.if-not-next.false c.args.depth runs (c.run.ensures.short e) w);
      stays = g.met.M.Machine.further c.args.machine.now c.loop-walked.machine c.run.new.machine c.loop-walked.invariant.stays (c.in_ok-run.ensures.stays);
    }

pub returns-clause-walked : goal.returns-clause-walked
returns-clause-walked g c =
    let P : ℕ → Type 0 = λ (n : ℕ). MadeSome g.M.Machine.gathered c.loop-walked.machine c.args.depth n in
    let e : c.loop-walked.walked ≡ c.args.most = omega arith in
    subst P e (some-made g.M.Machine.gathered c.loop-walked.machine c.args.depth c.loop-walked.walked c.loop-walked.orders c.loop-walked.invariant.anew c.loop-walked.invariant.made)

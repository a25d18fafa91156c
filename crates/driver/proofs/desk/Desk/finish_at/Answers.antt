use Rattle.std.proofs.Common.{◌∙◌, ◌+◌, ◌++◌, [], ◌∷◌, ap, sym, refl, arith, inl, inr, length-append, subst}
use Rattle.machine.specs.declared.command.Answer.TheVariants.{Word}
use Rattle.machine.specs.declared.command.Word.TheVariants.{TurnLimit}
use Rattle.driver.specs.Schedule.{said_at, all_said}
use Rattle.driver.specs.Desks.{world, lent_to}
use Rattle.driver.proofs.Runs.{lent_no_more, if_some, Goings-more, all_said-more, same-refl, same-more}
use Rattle.driver.proofs.SinkLemmas.{on_err, took_none, turns_start, turn_starts, limit_starts, said-few}
use Rattle.turns.specs.Turns.{answer_by}
use Rattle.driver.proofs.desk.Desk.finish_at.Goals as goal

pub loop-turn-init : goal.loop-turn-init
loop-turn-init g c = record { on = c.requires.on; same = same-refl _; place = c.requires.place; first = if_some c.args.lent refl; rests = c.requires.rests; some = c.requires.some; goes = ([], refl, g.met.S.Sink.nothing _, refl); unseen = g.met.S.Sink.unseen _ }

pub returns-then-ends-clause-finishes : goal.returns-then-ends-clause-finishes
returns-then-ends-clause-finishes g c =
    let k = c.loop-turn.invariant.goes in (
      all_said c.args.actor k.0 ++ said_at c.args.actor c.in_ok-outcome.outcome,
      g.met.S.Sink.more _ _ _ _ _ (took_none g.S.Sink.took g.met.S.Sink.more _ _ _ _ k.2 c.give_notice.ensures.quiet) c.in_ok-say.ensures.said,
      (
        k.0,
        lent_to (world c.loop-turn.self (g.D.BlockDevice.disk c.loop-turn.device)) c.args.actor c.loop-turn.lent,
        k.3,
        inl (record {
          last = c.in_ok-outcome.outcome;
          turn = c.in_ok-outcome.ensures.turn;
          ends = sym c.ends-ends.ensures ∙ c.if-ends.true;
          within = omega (arith, k.1, c.loop-turn-test.true);
          answers_are = refl;
        }),
      ),
    )

pub loop-turn-preserved : goal.loop-turn-preserved
loop-turn-preserved g c =
    let k = c.loop-turn.invariant.goes in
    record {
      on = c.in_ok-outcome.ensures.on;
      same = same-more _ _ _ c.loop-turn.invariant.same c.in_ok-outcome.ensures.same;
      place = c.turn.ensures.place;
      first = tt;
      rests = tt;
      some = tt;
      goes = (
        k.0 ++ c.in_ok-outcome.outcome ∷ [],
        length-append k.0 (c.in_ok-outcome.outcome ∷ []) ∙ ap (λ n. n + 1) k.1,
        subst (g.S.Sink.took _ _) (sym (all_said-more c.args.actor k.0 c.in_ok-outcome.outcome)) (g.met.S.Sink.more _ _ _ _ _ (took_none g.S.Sink.took g.met.S.Sink.more _ _ _ _ k.2 c.give_notice.ensures.quiet) c.in_ok-say.ensures.said),
        Goings-more _ _ k.0 _ _ c.in_ok-outcome.outcome k.3 c.in_ok-outcome.ensures.turn (sym c.ends-ends.ensures ∙ c.if-ends.false),
      );
      unseen = g.met.S.Sink.further _ _ _ _ _ c.loop-turn.invariant.unseen (g.met.S.Sink.further _ _ _ _ _ c.give_notice.ensures.unseen c.say.ensures.unseen);
    }

pub returns-then-ends-clause-unseen : goal.returns-then-ends-clause-unseen
returns-then-ends-clause-unseen g c = g.met.S.Sink.further _ _ _ _ _ c.loop-turn.invariant.unseen (g.met.S.Sink.further _ _ _ _ _ c.give_notice.ensures.unseen c.say.ensures.unseen)

pub returns-clause-unseen : goal.returns-clause-unseen
returns-clause-unseen g c = g.met.S.Sink.further _ _ _ _ _ c.loop-turn.invariant.unseen c.answer.ensures.unseen

pub returns-clause-finishes : goal.returns-clause-finishes
returns-clause-finishes g c =
    let k = c.loop-turn.invariant.goes in (
      all_said c.args.actor k.0 ++ answer_by c.args.actor (Word TurnLimit),
      g.met.S.Sink.more _ _ _ _ _ k.2 c.in_ok-answer.ensures.said,
      (
        k.0,
        lent_to (world c.loop-turn.self (g.D.BlockDevice.disk c.loop-turn.device)) c.args.actor c.loop-turn.lent,
        k.3,
        inr (record { spent = omega (arith, k.1, c.loop-turn-test.false, c.loop-turn.auto._turn-end); stays = lent_no_more _ c.args.actor c.loop-turn.lent c.loop-turn._turn c.args.self.now.turns c.loop-turn.invariant.first c.loop-turn.invariant.some (omega (arith, c.loop-turn-test.false, c.loop-turn.auto._turn-end)); answers_are = refl }),
      ),
    )

pub returns-in_err-outcome-clause-cut : goal.returns-in_err-outcome-clause-cut
returns-in_err-outcome-clause-cut g c =
    let k = c.loop-turn.invariant.goes in
    on_err c.from_residual.result (record {
      answers = all_said c.args.actor k.0;
      begun = [];
      few = omega arith;
      heard = record { mid = c.give_notice.new.sink; takes = took_none g.S.Sink.took g.met.S.Sink.more _ _ _ _ k.2 c.give_notice.ensures.quiet; fails = g.met.S.Sink.stays _ };
      starts = turns_start _ c.args.actor k.0 (lent_to (world c.loop-turn.self (g.D.BlockDevice.disk c.loop-turn.device)) c.args.actor c.loop-turn.lent) (g.D.BlockDevice.disk c.turn.new.device) (omega (arith, k.1, c.loop-turn-test.true)) k.3 (sym c.in_err-outcome.ensures.unmoved) c.history_is_right.ensures.right;
    })

pub returns-in_err-say-clause-cut : goal.returns-in_err-say-clause-cut
returns-in_err-say-clause-cut g c =
    let k = c.loop-turn.invariant.goes in
    on_err c.from_residual-in_err-say.result (record {
      answers = all_said c.args.actor k.0;
      begun = said_at c.args.actor c.in_ok-outcome.outcome;
      few = said-few c.args.actor c.in_ok-outcome.outcome;
      heard = record { mid = c.give_notice.new.sink; takes = took_none g.S.Sink.took g.met.S.Sink.more _ _ _ _ k.2 c.give_notice.ensures.quiet; fails = c.in_err-say.ensures.failed };
      starts = turn_starts _ c.args.actor k.0 (lent_to (world c.loop-turn.self (g.D.BlockDevice.disk c.loop-turn.device)) c.args.actor c.loop-turn.lent) c.in_ok-outcome.outcome (world c.turn.new.self (g.D.BlockDevice.disk c.turn.new.device)) (omega (arith, k.1, c.loop-turn-test.true)) k.3 c.in_ok-outcome.ensures.turn c.history_is_right-in-loop-turn.ensures.right;
    })

pub returns-in_err-answer-clause-cut : goal.returns-in_err-answer-clause-cut
returns-in_err-answer-clause-cut g c =
    let k = c.loop-turn.invariant.goes in
    on_err c.from_residual-in_err-answer.result (record {
      answers = all_said c.args.actor k.0;
      begun = answer_by c.args.actor (Word TurnLimit);
      few = omega arith;
      heard = record { mid = c.loop-turn.sink; takes = k.2; fails = c.in_err-answer.ensures.failed };
      starts = limit_starts _ c.args.actor k.0 (lent_to (world c.loop-turn.self (g.D.BlockDevice.disk c.loop-turn.device)) c.args.actor c.loop-turn.lent) (omega (arith, k.1, c.loop-turn-test.false, c.loop-turn.auto._turn-end)) k.3 c.history_is_right-2.ensures.right;
    })

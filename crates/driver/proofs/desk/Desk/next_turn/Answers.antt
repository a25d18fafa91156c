use Rattle.std.proofs.Common.{◌∙◌, List, refl, ap, sym, arith}
use Rattle.driver.specs.declared.seat.Activity.TheVariants.{Rests}
use Rattle.driver.specs.declared.seat.Seat.{Seat}
use Rattle.driver.specs.Schedule.{World, activity_of, with_activity}
use Rattle.turns.specs.Turns.{judged}
use Rattle.driver.specs.Desks.{world, blocks_of_desk, worker_of_desk}
use Rattle.driver.proofs.SeatLists.{activity_of-with_activity, with_activity-twice, still_rests}
use Rattle.driver.proofs.Runs.{on_with, turn_taken, turn_does, turn_begun, turn_rests, judged_taken}
use Rattle.driver.proofs.desk.Desk.next_turn.Goals as goal

pub first_turn-requires-clause-on : goal.first_turn-requires-clause-on
first_turn-requires-clause-on g c =
    on_with c.args.self.now c.args.self.now.pass c.take.new.self (g.D.BlockDevice.disk c.args.device.now) refl c.requires.on.current (omega (arith, c.take.ensures.len, c.requires.room)) c.requires.on
    (c.take.ensures.own (worker_of_desk c.args.self.now) (blocks_of_desk c.args.self.now) c.requires.on.own)

pub first_turn-requires-clause-rests : goal.first_turn-requires-clause-rests
first_turn-requires-clause-rests g c = ap (λ (ss : List Seat). activity_of c.args.actor ss) c.take.ensures.now ∙ activity_of-with_activity c.args.actor Rests c.args.self.now.seats

pub turn_stage-requires-clause-on : goal.turn_stage-requires-clause-on
turn_stage-requires-clause-on g c =
    on_with c.args.self.now c.args.self.now.pass c.take.new.self (g.D.BlockDevice.disk c.args.device.now) refl c.requires.on.current (omega (arith, c.take.ensures.len, c.requires.room)) c.requires.on
    (c.take.ensures.own (worker_of_desk c.args.self.now) (blocks_of_desk c.args.self.now) c.requires.on.own)

pub turn_stage-requires-clause-own : goal.turn_stage-requires-clause-own
turn_stage-requires-clause-own g c = c.in-Does.ensures.held (worker_of_desk c.args.self.now) (blocks_of_desk c.args.self.now) c.requires.on.own

pub turn_stage-requires-clause-rests : goal.turn_stage-requires-clause-rests
turn_stage-requires-clause-rests g c = ap (λ (ss : List Seat). activity_of c.args.actor ss) c.take.ensures.now ∙ activity_of-with_activity c.args.actor Rests c.args.self.now.seats

pub returns-in-Rests-clause-turn : goal.returns-in-Rests-clause-turn
returns-in-Rests-clause-turn g c =
    let old : World = world c.args.self.now (g.D.BlockDevice.disk c.args.device.now) in
    rw c.word.ensures
    (turn_rests old (record old { seats = c.take.new.self }) c.args.actor (sym c.in-Rests.ensures.was)
    (ap (λ (ss : List Seat). record old { seats = ss }) (c.take.ensures.now ∙ still_rests c.args.actor c.args.place c.args.self.now.seats c.requires.place (sym c.in-Rests.ensures.was))))

pub returns-in-Rests-clause-on : goal.returns-in-Rests-clause-on
returns-in-Rests-clause-on g c =
    on_with c.args.self.now c.args.self.now.pass c.take.new.self (g.D.BlockDevice.disk c.args.device.now) refl c.requires.on.current (omega (arith, c.take.ensures.len, c.requires.room)) c.requires.on
    (c.take.ensures.own (worker_of_desk c.args.self.now) (blocks_of_desk c.args.self.now) c.requires.on.own)

pub returns-in_ok-first_turn-in-Begun-clause-turn : goal.returns-in_ok-first_turn-in-Begun-clause-turn
returns-in_ok-first_turn-in-Begun-clause-turn g c =
    let old : World = world c.args.self.now (g.D.BlockDevice.disk c.args.device.now) in
    let new : World = world c.first_turn.new.self (g.D.BlockDevice.disk c.first_turn.new.device) in
    turn_begun old new c.args.actor c.in-Begun.command c.in_ok-first_turn-in-Begun.field-0 (sym c.in-Begun.ensures.was)
    (judged_taken old c.take.new.self new c.args.actor (judged old.past.state.opening old.past.state.tree c.args.actor c.in-Begun.command) c.in_ok-first_turn-in-Begun.field-0 c.take.ensures.now c.in_ok-first_turn-in-Begun.ensures.turn)

pub returns-in_ok-turn_stage-in-Does-clause-turn : goal.returns-in_ok-turn_stage-in-Does-clause-turn
returns-in_ok-turn_stage-in-Does-clause-turn g c =
    let old : World = world c.args.self.now (g.D.BlockDevice.disk c.args.device.now) in
    let new : World = world c.turn_stage.new.self (g.D.BlockDevice.disk c.turn_stage.new.device) in
    turn_does old new c.args.actor c.in-Does.stage c.in_ok-turn_stage-in-Does.field-0 (sym c.in-Does.ensures.was)
    (turn_taken old old.caller c.take.new.self new c.args.actor c.in-Does.stage c.in_ok-turn_stage-in-Does.field-0 refl
    (λ what. ap (λ (ss : List Seat). with_activity c.args.actor what ss) c.take.ensures.now ∙ with_activity-twice c.args.actor what Rests c.args.self.now.seats) c.in_ok-turn_stage-in-Does.ensures.turn)

use Rattle.std.proofs.Common.{◌≡◌, ◌∙◌, List, Ok, Err, refl, ap, sym, arith}
use Rattle.machine.specs.Call.{Caller}
use Rattle.driver.specs.declared.seat.Seat.{Seat}
use Rattle.driver.specs.Schedule.{World}
use Rattle.turns.specs.Turns.{judged}
use Rattle.driver.specs.Desks.{world}
use Rattle.driver.proofs.SeatLists.{still_rests}
use Rattle.driver.proofs.FindLemmas.{looked-up}
use Rattle.driver.proofs.Runs.{on_with, turn_taken, judged_goes, judged_refused}
use Rattle.driver.proofs.desk.Desk.first_turn.Goals as goal

pub turn_stage-requires-clause-on : goal.turn_stage-requires-clause-on
turn_stage-requires-clause-on g c =
    let looked = looked-up c.args.self.now.book c.args.actor c.args.command.now c.args.self.now.pass c.judge.new.pass (rw c.book.ensures at c.in_ok-judged.ensures.looked) in
    on_with c.args.self.now c.judge.new.pass c.args.self.now.seats (g.D.BlockDevice.disk c.args.device.now) looked.caller (looked.current ∙ c.requires.on.current) (omega (arith, looked.room, c.requires.room)) c.requires.on c.requires.on.own

pub turn_stage-requires-clause-room : goal.turn_stage-requires-clause-room
turn_stage-requires-clause-room g c =
    let looked = looked-up c.args.self.now.book c.args.actor c.args.command.now c.args.self.now.pass c.judge.new.pass (rw c.book.ensures at c.in_ok-judged.ensures.looked) in
    omega (arith, looked.room, c.requires.room)

pub returns-in-Err-clause-on : goal.returns-in-Err-clause-on
returns-in-Err-clause-on g c =
    let looked = looked-up c.args.self.now.book c.args.actor c.args.command.now c.args.self.now.pass c.judge.new.pass (rw c.book.ensures at c.in_ok-judged.ensures.looked) in
    on_with c.args.self.now c.judge.new.pass c.args.self.now.seats (g.D.BlockDevice.disk c.args.device.now) looked.caller (looked.current ∙ c.requires.on.current) (omega (arith, looked.room, c.requires.room)) c.requires.on c.requires.on.own

pub returns-in-Err-clause-turn : goal.returns-in-Err-clause-turn
returns-in-Err-clause-turn g c =
    let old : World = world c.args.self.now (g.D.BlockDevice.disk c.args.device.now) in
    let looked = looked-up c.args.self.now.book c.args.actor c.args.command.now c.args.self.now.pass c.judge.new.pass (rw c.book.ensures at c.in_ok-judged.ensures.looked) in
    let was = rw c.book.ensures at c.in_ok-judged.ensures.judged in
    let found : Err c.in-Err.cause ≡ judged old.past.state.opening old.past.state.tree c.args.actor c.args.command.now = cc (was, c.in-Err.is) in
    rw c.word.ensures
    (judged_refused old (record old { caller = c.judge.new.pass.caller }) c.args.actor (judged old.past.state.opening old.past.state.tree c.args.actor c.args.command.now) c.in-Err.cause found
    (ap (λ (k : Caller). record old { caller = k }) looked.caller ∙ ap (λ (ss : List Seat). record old { seats = ss }) (sym (still_rests c.args.actor c.args.place c.args.self.now.seats c.requires.place c.requires.rests))))

pub returns-in_ok-turn_stage-in-Ok-clause-turn : goal.returns-in_ok-turn_stage-in-Ok-clause-turn
returns-in_ok-turn_stage-in-Ok-clause-turn g c =
    let old : World = world c.args.self.now (g.D.BlockDevice.disk c.args.device.now) in
    let new : World = world c.turn_stage.new.self (g.D.BlockDevice.disk c.turn_stage.new.device) in
    let looked = looked-up c.args.self.now.book c.args.actor c.args.command.now c.args.self.now.pass c.judge.new.pass (rw c.book.ensures at c.in_ok-judged.ensures.looked) in
    let was = rw c.book.ensures at c.in_ok-judged.ensures.judged in
    let found : Ok c.in-Ok.stage ≡ judged old.past.state.opening old.past.state.tree c.args.actor c.args.command.now = cc (was, c.in-Ok.is) in
    judged_goes old new c.args.actor (judged old.past.state.opening old.past.state.tree c.args.actor c.args.command.now) c.in-Ok.stage c.in_ok-turn_stage-in-Ok.field-0 found
    (turn_taken old c.judge.new.pass.caller old.seats new c.args.actor c.in-Ok.stage c.in_ok-turn_stage-in-Ok.field-0 looked.caller (λ what. refl) c.in_ok-turn_stage-in-Ok.ensures.turn)

use Rattle.shortages.proofs.walk.Machine.ask.Goals as goal

pub run-requires-clause-own : goal.run-requires-clause-own
run-requires-clause-own c = (0, c.first-stage.ensures.own c.first-stage.new.self.pass.caller.worker 0)

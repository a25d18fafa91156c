use Rattle.std.proofs.Common.{refl, ap, Ok, Err}
use Rattle.turns.specs.declared.turn.Stage.TheVariants as stage
use Rattle.turns.specs.declared.turn.Transition.TheVariants as transition
use Rattle.pages.specs.Tickets.{TicketOf}
use Rattle.live.proofs.live.Live.read_in.Goals as goal

pub returns-in-Ok-clause-reads : goal.returns-in-Ok-clause-reads
returns-in-Ok-clause-reads g c = record {
  answered = Ok tt;
  filled = c.read_shared.new.self.bytes;
  kept = refl;
  goes = ap (λ (t : TicketOf). transition.Goes (stage.Arrive c.args.access t)) c.read_shared.ensures.same;
}

pub returns-in-Err-clause-reads : goal.returns-in-Err-clause-reads
returns-in-Err-clause-reads g c = record {
  answered = Err c.in-Err.field-0;
  filled = c.read_shared.new.self.bytes;
  kept = refl;
  goes = ap (λ (t : TicketOf). transition.Goes (stage.FetchFail t)) c.read_shared.ensures.same;
}

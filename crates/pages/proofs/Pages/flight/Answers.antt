use Rattle.std.proofs.Common.{ap, sym, ◌∙◌}
use Rattle.pages.specs.PagesOf.{is_flight_to}
use Rattle.pages.proofs.FlightLemmas.{flies}
use Rattle.pages.proofs.Pages.flight.Goals as goal

pub returns-clause-flying : goal.returns-clause-flying
returns-clause-flying c = λ d. rw (← c.self.view_is) (flies _ c.self.inside.flights.slots c.self.invariant.0.in_flight c.args.ticket.0 d ∙ sym (ap (is_flight_to d) (c.copied.ensures ∙ c.get.ensures)))

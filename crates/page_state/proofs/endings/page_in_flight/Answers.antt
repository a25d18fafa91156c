use Rattle.machine.proofs.Values.{unlike}
use Rattle.machine.specs.Pages.{is_in_flight}
use Rattle.page_state.proofs.EndingLemmas.{flies-so, flies-alone}
use Rattle.page_state.proofs.endings.page_in_flight.Goals as goal

pub unreachable-requires : goal.unreachable-requires
unreachable-requires c = unlike (is_in_flight c.args.direction c.args.pages.now.pages c.args.ticket.0) c.requires (c.in_default.ensures.flying c.args.direction)

pub returns-clause-stands : goal.returns-clause-stands
returns-clause-stands c = flies-so c.args.pages.now.pages c.args.ticket.0 c.in-Some.flight c.args.direction c.in-Some.ensures.moves (c.in-Some.ensures.flying c.args.direction) c.requires

pub returns-clause-alone : goal.returns-clause-alone
returns-clause-alone c = λ p label f b stood. flies-alone c.args.pages.now.pages c.args.pages.now.flights c.args.ticket.0 c.in-Some.flight c.args.direction p label f b c.are_in_flight.ensures c.in-Some.ensures.flight stood

use Rattle.std.proofs.Common.{refl}
use Rattle.book_events.specs.declared.event.Event.TheVariants.{FetchFailed}
use Rattle.book_events.specs.Events.{event_of, reply_of}
use Rattle.driver.proofs.TracedLemmas.{called-given_up}
use Rattle.driver.proofs.calls.give_in.Goals as goal

pub returns-in_default-clause-given_up : goal.returns-in_default-clause-given_up
returns-in_default-clause-given_up c = called-given_up c.args.book.now c.call.new.book c.args.pass.now.caller (event_of (FetchFailed c.args.ticket)) refl (reply_of c.call.result) c.call.ensures.called

use Rattle.std.proofs.Common.{[], ◌∷◌}
use Rattle.book_events.specs.Events.{event_of}
use Rattle.live.proofs.shared_book.SharedBook.ask.Given as goal

-- the history is told of just the event that is asked
abbrev pub ghosts-ask : goal.ghosts-ask
ghosts-ask g a = record { events = event_of a.event ∷ [] }

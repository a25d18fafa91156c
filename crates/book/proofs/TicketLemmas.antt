-- What is known of a ticket that is given out.
use Rattle.std.proofs.Common.{◌≡◌, ℕ, List, Option, refl, sym, ap, ◌∙◌, length}
use Rattle.machine.specs.declared.entry.Entry.{Entry}
use Rattle.machine.specs.Slots.{there_and}
use Rattle.machine.specs.Pages.{Coming, Going}
use Rattle.pages.specs.Tickets.{TicketOf, stamped}
use Rattle.pages.specs.PagesOf.{labelled}
use Rattle.book_events.specs.declared.event.Reply.{Reply}
use Rattle.book_events.specs.declared.event.Reply.TheVariants as reply
use Rattle.page_state.specs.States.{StateOf, byte_shown}
use Rattle.book_events.specs.Spots.{offset_of}
use Rattle.book.specs.Effects.{is_in_memory}
use Rattle.book_events.specs.Replies.{HandsOut}
use Rattle.pages.specs.declared.flight.Flight.{Flight}
use Rattle.machine.specs.declared.id.WorkerId.{WorkerId}
use Rattle.machine.specs.History.{ticket_given}
use Rattle.book_events.specs.Events.{reply_of}
use Rattle.machine.specs.declared.event.Event.{Event}
use Rattle.machine.specs.declared.event.Event.TheVariants as event
use Rattle.book.specs.MakesStep.{RepliesTo, GivesTicket, stamped_reply, noted}
use Rattle.book.specs.Told.{IsHistory}
use Rattle.book.proofs.StepLemmas.{knows-some}

-- a ticket that the parts give out, stamped, as a book gives it
pub gives_more : (new : StateOf) (history : List Entry) (counts : List ℕ) (takers : List WorkerId) (passes worker entry : ℕ) (answer : Reply) → IsHistory new history counts takers → entry ≡ length history → GivesTicket new answer
    → HandsOut (record { state = new.tables; history = history; order = new.order; passes = passes }) worker (stamped_reply worker entry answer)
gives_more new history counts takers passes worker entry (reply.Fetch ticket) told newest gives =
    record {
      p = gives.0;
      page = labelled gives.1 (Coming gives.2 ticket.block ticket.number);
      frame = gives.2;
      there = gives.3;
      coming = refl;
      own = refl;
      entry = newest;
      fresh = ap (λ (t : TicketOf). t.handed) gives.4;
    }
gives_more new history counts takers passes worker entry (reply.Out ticket) told newest gives =
    record {
      p = gives.0;
      page = labelled gives.1 (Going gives.2 ticket.block ticket.number);
      frame = gives.2;
      there = gives.3;
      going = refl;
      own = refl;
      entry = newest;
      fresh = ap (λ (t : TicketOf). t.handed) gives.4;
      bytes = λ files honest spot lt there shown.
          gives.5 (offset_of spot) lt
          ∙ sym (ap (λ (p : Option ℕ). byte_shown new.bytes p (offset_of spot)) shown)
          ∙ told.bytes files honest spot there (knows-some new spot gives.0 shown (ap (there_and (λ page. is_in_memory page.residence)) gives.3), lt);
    }
gives_more new history counts takers passes worker entry answer told newest gives = tt

-- what stands in the history of a reply is not of its ticket's worker
pub reply_of-stamped : (worker entry : ℕ) (answer : Reply) → reply_of (stamped_reply worker entry answer) ≡ reply_of answer
reply_of-stamped worker entry (reply.Fetch ticket) = refl
reply_of-stamped worker entry (reply.Out ticket) = refl
reply_of-stamped worker entry answer = refl

-- and so with which event it answers
pub replies-stamped : (worker entry : ℕ) (what : Event) (answer : Reply) → RepliesTo what answer → RepliesTo what (stamped_reply worker entry answer)
replies-stamped worker entry what (reply.Fetch ticket) h = any_fetch what h
  where
    any_fetch : (what : Event) → RepliesTo what (reply.Fetch ticket) → RepliesTo what (reply.Fetch (stamped ticket worker entry))
    any_fetch (event.Access t place op) h = h
    any_fetch what h = h
replies-stamped worker entry what (reply.Out ticket) h = any_out what h
  where
    any_out : (what : Event) → RepliesTo what (reply.Out ticket) → RepliesTo what (reply.Out (stamped ticket worker entry))
    any_out (event.Relieve why) h = h
    any_out what h = h
replies-stamped worker entry what answer h = h

-- what neither begins a read-in nor a write-out is as it was
pub unstamped : (worker entry : ℕ) (answer : Reply) → ((ticket : TicketOf) → answer ≡ reply.Fetch ticket → ⊥) → ((ticket : TicketOf) → answer ≡ reply.Out ticket → ⊥) → answer ≡ stamped_reply worker entry answer
unstamped worker entry (reply.Fetch ticket) fetch out = absurd (fetch ticket refl)
unstamped worker entry (reply.Out ticket) fetch out = absurd (out ticket refl)
unstamped worker entry answer fetch out = refl

-- and its taker is nobody's page's
pub unnoted : (flights : List (Option Flight)) (takers : List WorkerId) (worker : ℕ) (answer : Reply) → ((ticket : TicketOf) → answer ≡ reply.Fetch ticket → ⊥) → ((ticket : TicketOf) → answer ≡ reply.Out ticket → ⊥)
    → takers ≡ noted flights takers worker (ticket_given (reply_of answer))
unnoted flights takers worker (reply.Fetch ticket) fetch out = absurd (fetch ticket refl)
unnoted flights takers worker (reply.Out ticket) fetch out = absurd (out ticket refl)
unnoted flights takers worker answer fetch out = refl

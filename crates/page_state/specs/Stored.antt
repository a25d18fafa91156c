-- What is stored of the pages, and how it changes: a record for each change, said once, for the parts that keep it and for what is seen of all parts joined.
use Rattle.std.specs.Prelude.{◌≡◌, ◌≢◌, ℕ, ◌==◌, if◌then◌else◌, false, List, Option, Some, None}
use Rattle.machine.specs.Slots.{Changes}
use Rattle.machine.specs.Pages.{Page, Pages, page_at, is_ticket_taken}
use Rattle.machine.specs.Step.{new_page}
use Rattle.machine.specs.declared.record.Direction.{Direction}
use Rattle.pages.specs.Tickets.{TicketOf, new_ticket}
use Rattle.pages.specs.PagesOf.{byte_in, Label, labelled, moving, flight}
use Rattle.pages.specs.declared.flight.Flight.{Flight}

-- the pages and their bytes, both by the page's number, and by ticket number the transfers in flight
pub record Stored : Type 0 where
  pub pages : Pages
  pub bytes : List (Option (List ℕ))
  pub flights : List (Option Flight)

-- memory of g came into this frame, under a number that was free. Its bytes are these but for one
pub record AddsPage (old new : Stored) (p g frame : ℕ) (begins : ℕ → ℕ) (o byte : ℕ) : Type 0 where
  pub number_free : page_at old.pages p ≡ None
  pub placed : Changes old.pages new.pages p (Some (new_page g frame))
  pub bytes : (q k : ℕ) → byte_in new.bytes q k ≡ (if q == p then (if o == k then byte else begins k) else byte_in old.bytes q k)
  pub flights : new.flights ≡ old.flights

-- a page is from now on in transfer in this direction, between this frame and this block, under a ticket that no page had
pub record BeginsTransfer (old new : Stored) (direction : Direction) (p : ℕ) (label : Label) (frame block : ℕ) (ticket : TicketOf) : Type 0 where
  pub ticket_free : is_ticket_taken old.pages ticket.number ≡ false
  pub given : ticket ≡ new_ticket ticket.number block ticket.bytes
  pub placed : Changes old.pages new.pages p (Some (labelled label (moving direction frame block ticket.number)))
  pub listed : Changes old.flights new.flights ticket.number (Some (flight p direction))

-- the transfer of a page under ticket n has ended, and this is what became of the page
pub record SettlesPage (old new : Stored) (p n : ℕ) (to : Option Page) : Type 0 where
  pub placed : Changes old.pages new.pages p to
  pub unlisted : Changes old.flights new.flights n None
  pub others : (q k : ℕ) → q ≢ p → byte_in new.bytes q k ≡ byte_in old.bytes q k

-- a page in no transfer is gone with its bytes
pub record DropsPage (old new : Stored) (p : ℕ) : Type 0 where
  pub gone : Changes old.pages new.pages p None
  pub others : (q k : ℕ) → q ≢ p → byte_in new.bytes q k ≡ byte_in old.bytes q k
  pub flights : new.flights ≡ old.flights

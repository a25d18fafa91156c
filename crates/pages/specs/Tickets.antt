-- What a contract sees of a ticket.
use Rattle.std.specs.Prelude.{ℕ, Bool, true, false, List}

-- its number, the worker that it was given to, the place of the entry that gave it out, its block, whether the book handed it back, and its bytes:
-- those that were read, or those to be written
pub record TicketOf : Type 0 where
  pub number : ℕ
  pub worker : ℕ
  pub entry : ℕ
  pub block : ℕ
  pub handed : Bool
  pub bytes : List ℕ

-- a ticket that is nobody's yet
abbrev pub new_ticket : ℕ → ℕ → List ℕ → TicketOf
new_ticket number block bytes = record { number = number; worker = 0; entry = 0; block = block; handed = false; bytes = bytes }

-- it is given to a worker, by the entry at this place
abbrev pub stamped : TicketOf → ℕ → ℕ → TicketOf
stamped ticket worker entry = record ticket { worker = worker; entry = entry }

abbrev pub handed_back : TicketOf → TicketOf
handed_back ticket = record ticket { handed = true }

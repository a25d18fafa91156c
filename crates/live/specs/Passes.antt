-- What a contract sees of a worker's pass.
use Rattle.std.specs.Prelude.{ℕ, ◌-◌, List, [], ◌∷◌, ◌++◌}
use Rattle.machine.specs.declared.event.Event.{Event}
use Rattle.machine.specs.declared.reply.Reply.{Reply}
use Rattle.machine.specs.Call.{Caller}
use Rattle.book.specs.declared.kept.Kept.{Kept}
use Rattle.book.specs.Passes.{PassOf as Book_pass, call_of}
use Rattle.live.specs.declared.history.Exchange.{Exchange}
use Rattle.live.specs.declared.history.Exchange.TheVariants.{Call}

-- whose pass it is, and what was asked with it and answered, the oldest first
pub record PassOf : Type 0 where
  pub caller : Caller
  -- each thing with all bytes
  pub exchanges : List Exchange
  -- the same as the pass has it in memory, an arrival without its bytes
  pub kept : List Kept
  -- for how many more there is memory
  pub room : ℕ

-- the book's pass, with what was exchanged with it
abbrev pub pass_of : Book_pass → List Exchange → PassOf
pass_of pass exchanges = record { caller = pass.caller; exchanges = exchanges; kept = pass.kept; room = pass.room }

-- as the book sees it
abbrev pub book_pass : PassOf → Book_pass
book_pass pass = record { caller = pass.caller; kept = pass.kept; room = pass.room }

-- the pass, after an event that was asked with it and answered
abbrev pub answering : PassOf → Event → Reply → PassOf
answering pass what said = record { caller = pass.caller; exchanges = pass.exchanges ++ Call what said ∷ []; kept = pass.kept ++ call_of what said ∷ []; room = pass.room - 1 }

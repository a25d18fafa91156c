-- What always holds of a book's history.
use Rattle.std.specs.Prelude.{◌≡◌, ℕ, ◌+◌, ◌*◌, ◌≤◌, List, length, slice_index, slice_index_or, IfSome, Some}
use Rattle.machine.specs.declared.entry.Entry.{Entry}
use Rattle.machine.specs.declared.id.WorkerId.{WorkerId}
use Rattle.machine.specs.Slots.{at}
use Rattle.machine.specs.Generations.{gens_at}
use Rattle.machine.specs.Legal.{Legal}
use Rattle.machine.specs.History.{Spot, Right, at_first, last, Honest, taker, entries_by, Numbered}
use Rattle.page_state.specs.States.{StateOf}
use Rattle.book_events.specs.Spots.{IsThere}
use Rattle.book.specs.Effects.{byte_at_spot, KnowsSpot}

-- by page number, the worker who took the ticket of the page's transfer
abbrev pub taker_of : List WorkerId → ℕ → ℕ
taker_of takers p = (slice_index_or takers p (record { 0 = 0 })).0

-- the history leads to the tables; whatever the files had at first, it gave each read the last write where every arrival brought it; and it is numbered by worker
pub record IsHistory (c : StateOf) (history : List Entry) (counts : List ℕ) (takers : List WorkerId) : Type 0 where
  pub legal : Legal c.tables.opening history c.tables
  pub right : (files : ℕ → ℕ → ℕ → ℕ) → Honest (at_first files) history → Right (at_first files) history
  pub numbered : Numbered history
  -- each byte of a live task or of a file that is in memory is the one last written there
  pub bytes : (files : ℕ → ℕ → ℕ → ℕ) → Honest (at_first files) history → (spot : Spot) → IsThere c.tables spot → KnowsSpot c spot → byte_at_spot c spot ≡ last (at_first files) history spot
  -- the taker of each transfer in flight is noted by its page
  pub taken : (n : ℕ) → IfSome (at c.flights n) (λ f. taker n history ≡ Some (taker_of takers f.page.0))
  pub counted : (w : ℕ) → slice_index counts w ≡ length (entries_by w history)
  -- a group's lists begin with generation 3, and an entry begins three more at most
  pub young : (g : ℕ) → (gens_at c.order.held.groups g).max_seq ≤ 3 + 3 * length history

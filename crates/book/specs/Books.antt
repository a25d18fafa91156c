-- What a book's fields mean, and what is always true of them.
use Rattle.std.specs.Prelude.{◌+◌, ◌≤◌, length, reverse}
use Rattle.machine.specs.Pages.{in_transfer}
use Rattle.machine.specs.State.{page_numbers}
use Rattle.machine.specs.Call.{Past}
use Rattle.book.specs.declared.book.Book.TheInside.{Inside}
use Rattle.book.specs.Told.{IsHistory}

abbrev pub past_of : Inside → Past
past_of b = record { state = b.state.tables; history = reverse b.trace.entries; order = b.state.order; passes = length b.counts.items }

pub record IsBook (b : Inside) : Type 0 where
  pub told : IsHistory b.state (reverse b.trace.entries) b.counts.items b.takers.items
  -- each transfer in flight has room for the entry of its end
  pub within : length b.trace.entries + in_transfer b.state.tables.pages ≤ b.state.tables.opening.trace_limit
  -- the trace's room comes from the opening
  pub room : b.state.tables.opening.trace_limit ≤ b.trace.limit
  pub few : length b.counts.items ≤ 131072
  -- there is a place for each page number
  pub takers : page_numbers b.state.tables.opening ≤ length b.takers.items

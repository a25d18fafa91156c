-- What a worker asks and is told, one thing at a time, with all bytes.
use Rattle.std.specs.Prelude.{ℕ, Bool, List, count_by, Option, option_map}
use Rattle.machine.specs.declared.entry.Entry.{Entry}
use Rattle.book.specs.declared.kept.Kept.{Kept}
use Rattle.book.specs.declared.kept.Kept.TheVariants as kept
use Rattle.book.specs.Passes.{call_of, is_entry}
use Rattle.live.specs.declared.history.Exchange.{Exchange}
use Rattle.live.specs.declared.history.Exchange.TheVariants.{Call, Find}

-- what a pass keeps of it: all but the bytes of an arrival
abbrev pub kept_of : Exchange → Kept
kept_of (Call what said) = call_of what said
kept_of (Find path found) = kept.Find path found

-- this is found for a path
abbrev pub finding : List ℕ → Option ℕ → Exchange
finding path g = Find path (option_map (λ n. record { 0 = n }) g)

-- it stands in the trace: an event that was not refused
abbrev pub stands : Exchange → Bool
stands exchange = is_entry (kept_of exchange)

-- how many of them stand in the trace
abbrev pub entries_in : List Exchange → ℕ
entries_in exchanges = count_by stands exchanges

-- an entry of the trace as its worker's exchange
abbrev pub exchange_of : Entry → Exchange
exchange_of entry = Call entry.event entry.reply

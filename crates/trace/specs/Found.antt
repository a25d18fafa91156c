-- Arrivals that found the bytes which an earlier entry left. No public clause cites these.
use Rattle.std.specs.Prelude.{◌≡◌, ℕ, List, reverse, Option, Some, None}
use Rattle.machine.specs.declared.entry.Entry.{Entry}
use Rattle.machine.specs.History.{fetch_of, last}
use Rattle.machine.specs.FirstBytes.{first_of}
use Rattle.machine.specs.Audit.{before}
use Rattle.trace.specs.declared.fetch.ReadIn.{ReadIn}
use Rattle.trace.specs.declared.link.Link.TheVariants.{After}
use Rattle.trace.specs.declared.step.Stand.{Stand}
use Rattle.trace.specs.Links.{IsStand}
use Rattle.trace.specs.Settled.{AreBytes}
use Rattle.trace.specs.Walks.{spot_in, page_at, fetched_at}

-- the latest read-in under the ticket among the first so many entries found the bytes that the entry at `after` left
pub record HasFound (entries : List Entry) (end ticket after : ℕ) : Type 0 where
  pub read_in : ReadIn
  pub fetched : fetch_of ticket (before entries end) ≡ Some (fetched_at entries read_in)
  pub stands : IsStand entries (record { at = read_in.at; page = page_at read_in.access.task read_in.access.place; link = After after })

-- these are all bytes last written to the page. (Excludes bytes that a later write changed.)
abbrev pub IsKnown : List Entry → Stand → Option (List ℕ) → Type 0
IsKnown entries stand None = Unit {0}
IsKnown entries stand (Some bytes) = AreBytes bytes (λ o. last (first_of (reverse entries)) (before entries stand.at) (spot_in stand.page o))

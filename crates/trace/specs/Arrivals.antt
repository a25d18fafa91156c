-- What is known of the first arrivals of files' pages. No public clause cites these.
use Rattle.std.specs.Prelude.{◌≡◌, ℕ, ◌<◌, List, length, reverse, slice_index_or, Option, Some, None}
use Rattle.machine.specs.declared.event.Event.{Event}
use Rattle.machine.specs.declared.event.Event.TheVariants as event
use Rattle.machine.specs.declared.entry.Entry.{Entry}
use Rattle.trace.specs.declared.link.Link.{Link}
use Rattle.trace.specs.declared.link.Link.TheVariants as link
use Rattle.machine.specs.FirstBytes.{first_arrival}
use Rattle.trace.specs.Rows.{RowOf}
use Rattle.trace.specs.Heads.{link_in}

-- what an event brings, if it is an arrival
abbrev pub arrived_bytes : Event → Option (List ℕ)
arrived_bytes (event.Arrived ticket bytes) = Some bytes
arrived_bytes what = None

-- the page's first arrival brought these
abbrev pub IsFirstOf : List Entry → ℕ → ℕ → Option (List ℕ) → Type 0
IsFirstOf entries f q None = ⊥
IsFirstOf entries f q (Some bytes) = first_arrival f q (reverse entries) ≡ Some bytes

-- by a link: none has arrived, or the entry there was the first
abbrev pub IsArrival : List Entry → ℕ → ℕ → Link → Type 0
IsArrival entries f q link.Unknown = Unit {0}
IsArrival entries f q link.First = first_arrival f q (reverse entries) ≡ None
IsArrival entries f q (link.After j) = (j < length entries) × ((e : Entry) → e ≡ slice_index_or entries j e → IsFirstOf entries f q (arrived_bytes e.event))

abbrev pub AreArrivals : List Entry → List RowOf → Type 0
AreArrivals entries rows = (f q : ℕ) → IsArrival entries f q (link_in rows f q)

-- what is known of a page after an event that stands at this place, where it brought this to the page
abbrev pub arrival_after : Option (List ℕ) → ℕ → Link → Link
arrival_after (Some bytes) at link.First = link.After at
arrival_after (Some bytes) at link.Unknown = link.Unknown
arrival_after (Some bytes) at (link.After j) = link.After j
arrival_after None at known = known

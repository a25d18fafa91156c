-- What a trace keeps beside its entries. No public clause cites this.
use Rattle.std.specs.Prelude.{◌≡◌, ◌≤◌, length, vec_capacity}
use Rattle.trace.specs.declared.entries.Trace.TheInside.{Inside}
use Rattle.trace.specs.Traces.{TraceOf}
use Rattle.trace.specs.Links.{AreLinks}
use Rattle.trace.specs.Arrivals.{AreArrivals}
use Rattle.trace.specs.Heads.{AreKnown, known_in}

abbrev pub trace_of : Inside → TraceOf
trace_of t = record { entries = t.entries.items; limit = t.limit }

-- each entry has its link, and what is known of pages is right; there is room for all the entries that there may be
pub record IsTrace (t : Inside) : Type 0 where
  pub links : AreLinks t.entries.items t.links.items
  pub sized : length t.links.items ≡ length t.entries.items
  pub known : AreKnown t.entries.items (known_in t.heads)
  pub arrivals : AreArrivals t.entries.items t.arrivals.items
  pub entries_room : t.limit ≤ vec_capacity t.entries
  pub links_room : t.limit ≤ vec_capacity t.links
  pub found_sized : length t.found.items ≡ length t.entries.items
  pub found_room : t.limit ≤ vec_capacity t.found
  pub few : t.limit ≤ 1048576

-- What is known of the bytes of each page at the end of a trace. No public clause cites these.
use Rattle.std.specs.Prelude.{◌≡◌, ℕ, ◌==◌, ◌&&◌, Bool, false, if◌then◌else◌, List, length, slice_index_or, Option, Some, None}
use Rattle.machine.specs.declared.event.Op.TheVariants.{Write}
use Rattle.machine.specs.declared.event.Event.{Event}
use Rattle.machine.specs.declared.event.Event.TheVariants as event
use Rattle.machine.specs.declared.reply.Reply.{Reply}
use Rattle.machine.specs.declared.reply.Reply.TheVariants as reply
use Rattle.machine.specs.declared.entry.Entry.{Entry}
use Rattle.trace.specs.declared.page.Page.{Page}
use Rattle.trace.specs.declared.page.Page.TheVariants.{Memory, File}
use Rattle.trace.specs.declared.link.Link.{Link}
use Rattle.trace.specs.declared.link.Link.TheVariants as link
use Rattle.trace.specs.declared.heads.Heads.{Heads}
use Rattle.trace.specs.Walks.{is_place_of, is_memory_of, is_page_of_task, page_in}
use Rattle.trace.specs.Links.{IsLink}
use Rattle.trace.specs.Rows.{RowOf, at_row, empty_row}

-- what is known of a page after an event, from what was known of each before it; the entry stands at this place
abbrev pub link_after : Event → Reply → ℕ → (Page → Link) → Page → Link
link_after (event.Access t place (Write b)) (reply.Done byte hit) at known page = if is_place_of page t.0 place then link.After at else known page
link_after (event.Spawn t g) reply.Ok at known page = if is_memory_of page t.0 then link.First else known page
link_after (event.Fork t child) reply.Ok at known page = if is_memory_of page child.0 then known (page_in page t) else known page
link_after (event.Free t v) reply.Ok at known page = if is_page_of_task page t.0 v then link.First else known page
link_after what answer at known page = known page

-- it is this, or nothing is known
abbrev pub MayBe : Link → Link → Type 0
MayBe link.Unknown other = Unit {0}
MayBe link.First other = link.First ≡ other
MayBe (link.After j) other = link.After j ≡ other

-- what is known is right of every page
abbrev pub AreKnown : List Entry → (Page → Link) → Type 0
AreKnown entries known = (page : Page) → IsLink entries (length entries) page (known page)

-- ---- tables

abbrev pub link_in : List RowOf → ℕ → ℕ → Link
link_in rows r c = at_row (slice_index_or rows r empty_row) c

abbrev pub known_in : Heads → Page → Link
known_in heads (Memory task v) = link_in heads.tasks.items task.0 v
known_in heads (File file q) = link_in heads.files.items file q

-- the two are one page
abbrev pub is_page : Page → Page → Bool
is_page (Memory task v) (Memory task' v') = (task.0 == task'.0) && (v == v')
is_page (File file q) (File file' q') = (file == file') && (q == q')
is_page page other = false

-- what is known of the page of an access
abbrev pub link_for : (Page → Link) → Option Page → Link
link_for known None = link.Unknown
link_for known (Some page) = known page

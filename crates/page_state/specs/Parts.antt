-- How the parts change together that a page owns something of. No public clause cites it.
use Rattle.std.specs.Prelude.{◌≡◌, ◌≢◌, ℕ, ◌<◌, ◌++◌, ◌∷◌, [], Bool, true, false, Option, Some, None, slice_index, is_some}
use Rattle.machine.specs.Slots.{Changes}
use Rattle.machine.specs.Pages.{Content, Memory, OfFile, Page, page_at, home_block, is_frame_taken, is_swap_taken, charged, used_frames}
use Rattle.machine.specs.declared.config.Placement.{Placement}
use Rattle.machine.specs.Lists.{Generation, Youngest, entry_after, GoesOn, with_group}
use Rattle.machine.specs.Counts.{over, no_limits}
use Rattle.group_tree.specs.Lineages.{bare}
use Rattle.machine.specs.Access.{page_size}
use Rattle.machine.specs.Tasks.{PageTables}
use Rattle.machine.specs.Step.{still}
use Rattle.machine.specs.declared.record.Direction.{Direction}
use Rattle.machine.specs.declared.record.Direction.TheVariants.{Out}
use Rattle.page_counter.specs.Counts.{SameGroups}
use Rattle.pages.specs.Tickets.{TicketOf}
use Rattle.pages.specs.declared.way.WayOut.TheVariants as way
use Rattle.pages.specs.PagesOf.{byte_in, Label, way_of}
use Rattle.page_state.specs.declared.parts.Parts.{Parts}
use Rattle.page_state.specs.Stored.{Stored, AddsPage, BeginsTransfer, SettlesPage, DropsPage}

-- what they store of the pages
abbrev pub stored_in : Parts → Stored
stored_in h = record { pages = h.pages.pages; bytes = h.pages.bytes; flights = h.pages.flights }

-- what stays where a page changes
pub record Stays (h h' : Parts) : Type 0 where
  pub groups : SameGroups h.counters h'.counters
  pub frames : h'.pool.frames ≡ h.pool.frames
  pub most_spares : h'.pool.most_spares ≡ h.pool.most_spares
  pub blocks : h'.slots.blocks ≡ h.slots.blocks
  pub numbers : h'.pages.numbers ≡ h.pages.numbers
  pub page_groups : h'.pages.groups ≡ h.pages.groups
  pub page_frames : h'.pages.frames ≡ h.pages.frames
  pub held_numbers : h'.held.numbers ≡ h.held.numbers
  pub moving_room : h'.moving.room ≡ h.moving.room
  pub files : h'.pages.files ≡ h.pages.files

-- the lists of the pages in frames go on, and a page that comes there enters this generation
abbrev pub ListsGoOn : Generation → Parts → Parts → Type 0
ListsGoOn generation old new = GoesOn generation old.pages.pages old.held.lists new.pages.pages new.held.lists

-- the lowest group from g up whose max one page more would pass
abbrev pub over_of : Parts → ℕ → Option ℕ
over_of h g = over h.counters.tree h.counters.limits (charged h.counters.tree h.pages.pages) g

-- the charge of one page to g is granted: no max and no want of a frame is in its way
pub record IsGranted (h : Parts) (g : ℕ) : Type 0 where
  pub under : over_of h g ≡ None
  pub free : used_frames h.pages.pages < h.pool.frames

-- a page of g came, with these bytes but for one, into a frame that no page had
pub record Adds (old new : Parts) (p g : ℕ) (begins : ℕ → ℕ) (o byte : ℕ) : Type 0 where
  pub frame : ℕ
  pub in_range : frame < old.pool.frames
  pub unused : is_frame_taken old.pages.pages frame ≡ false
  pub adds : AddsPage (stored_in old) (stored_in new) p g frame begins o byte
  pub held : ListsGoOn Youngest old new
  pub stays : Stays old new

-- where a page that leaves its frame is written: memory to a swap block that no page has, a page of a file that was written to to its home block
abbrev pub GoesTo : Parts → Content → Bool → ℕ → Type 0
GoesTo h Memory dirty block = (block < h.slots.blocks) × (is_swap_taken h.pages.pages block ≡ false)
GoesTo h (OfFile file q) dirty block = (dirty ≡ true) × (block ≡ home_block h.slots.blocks h.pages.files.sizes file q)

-- a page in a frame is from now on being written out; the ticket has its bytes
pub record BeginsOut (old new : Parts) (p : ℕ) (label : Label) (frame : ℕ) (ticket : TicketOf) : Type 0 where
  pub block : GoesTo old label.content label.dirty ticket.block
  pub begins : BeginsTransfer (stored_in old) (stored_in new) Out p label frame ticket.block ticket
  pub holds : (o : ℕ) → o < page_size → slice_index ticket.bytes o ≡ byte_in old.pages.bytes p o
  pub bytes : (q o : ℕ) → byte_in new.pages.bytes q o ≡ byte_in old.pages.bytes q o
  pub held : ListsGoOn Youngest old new
  pub stays : Stays old new

-- the transfer in this direction of a page under a ticket has ended, and this is what became of the page
pub record Settles (old new : Parts) (placement : Placement) (direction : Direction) (p n : ℕ) (to : Option Page) : Type 0 where
  pub settles : SettlesPage (stored_in old) (stored_in new) p n to
  pub held : ListsGoOn (entry_after placement direction) old new
  pub stays : Stays old new

-- a page is gone
pub record Drops (old new : Parts) (p : ℕ) : Type 0 where
  pub drops : DropsPage (stored_in old) (stored_in new) p
  pub held : ListsGoOn Youngest old new
  pub stays : Stays old new

-- a page in a frame leaves it: it begins to be written out under this ticket; or it is a page of a file as its home block has it, and is gone
abbrev pub LeavesSo : Parts → Parts → ℕ → Label → ℕ → Option TicketOf → Type 0
LeavesSo old new p label frame (Some ticket) = BeginsOut old new p label frame ticket
LeavesSo old new p label frame None = (way_of label.content label.dirty ≡ way.Dropped) × Drops old new p

-- a page is gone with its bytes where nothing maps it and it is in no transfer, and all else stays
pub record DropsUnmapped (old new : Parts) (tables : PageTables) (p : ℕ) : Type 0 where
  pub pages : Changes old.pages.pages new.pages.pages p (still tables p (page_at old.pages.pages p))
  pub bytes : (q o : ℕ) → is_some (page_at new.pages.pages q) ≡ true → byte_in new.pages.bytes q o ≡ byte_in old.pages.bytes q o
  pub others : (q o : ℕ) → q ≢ p → byte_in new.pages.bytes q o ≡ byte_in old.pages.bytes q o
  pub flights : new.pages.flights ≡ old.pages.flights
  pub held : ListsGoOn Youngest old new
  pub stays : Stays old new

-- ---- groups

-- there is memory for one group more
pub record HasGroupRoom (h : Parts) : Type 0 where
  pub counters : 0 < h.counters.room
  pub held : 0 < h.held.room
  pub pages : 0 < h.pages.room

-- there may be memory for more groups, and all else is as it was
pub record Reserves (old new : Parts) : Type 0 where
  pub tree : new.counters.tree ≡ old.counters.tree
  pub limits : new.counters.limits ≡ old.counters.limits
  pub held : new.held ≡ record old.held { room = new.held.room }
  pub pages : new.pages ≡ record old.pages { room = new.pages.room }
  pub others : new ≡ record old { counters = new.counters; held = new.held; pages = new.pages }

-- a group came below another, without limits and without a page
pub record TakesGroup (old new : Parts) (parent : ℕ) : Type 0 where
  pub tree : new.counters.tree ≡ old.counters.tree ++ bare (Some parent) ∷ []
  pub limits : new.counters.limits ≡ old.counters.limits ++ no_limits ∷ []
  pub held : new.held.lists ≡ with_group old.held.lists
  pub pages : new.pages ≡ record old.pages { groups = new.pages.groups; room = new.pages.room }
  pub others : new ≡ record old { counters = new.counters; held = new.held; pages = new.pages }

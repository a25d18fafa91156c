-- How transfers begin and end.
use Rattle.std.specs.Prelude.{◌≡◌, ◌≢◌, ℕ, ◌+◌, ◌<◌, Bool, true, false, Option, Some, None, slice_index}
use Rattle.machine.specs.Slots.{at, Changes}
use Rattle.machine.specs.Pages.{Content, Memory, OfFile, Held, Away, Page, Pages, page_at, file_page, home_block, is_anon}
use Rattle.machine.specs.Access.{page_size}
use Rattle.machine.specs.declared.record.Direction.{Direction}
use Rattle.machine.specs.declared.record.Direction.TheVariants.{In, Out}
use Rattle.pages.specs.declared.end.End.{End}
use Rattle.pages.specs.declared.end.End.TheVariants.{InFrame, OnBlock}
use Rattle.pages.specs.declared.end.Freed.{Freed}
use Rattle.pages.specs.declared.end.Freed.TheVariants as freed
use Rattle.pages.specs.Tickets.{TicketOf, new_ticket}
use Rattle.pages.specs.declared.source.Source.{Source}
use Rattle.pages.specs.declared.source.Source.TheVariants as source
use Rattle.files.specs.Files.{FilesOf}
use Rattle.pages.specs.PagesOf.{PagesOf, byte_in, Label, labelled, memory_of, of_file, moving, flight, HasResidence}

-- a transfer of a page begins, in this direction, under a ticket that was free
pub record Starts (old new : PagesOf) (p : ℕ) (label : Label) (direction : Direction) (frame block : ℕ) (ticket : TicketOf) : Type 0 where
  pub free : at old.flights ticket.number ≡ None
  pub listed : Changes old.flights new.flights ticket.number (Some (flight p direction))
  pub placed : Changes old.pages new.pages p (Some (labelled label (moving direction frame block ticket.number)))
  pub given : ticket ≡ new_ticket ticket.number block ticket.bytes
  pub fewer : old.tickets ≡ new.tickets + 1
  pub numbers : new.numbers ≡ old.numbers
  pub groups : new.groups ≡ old.groups
  pub room : new.room ≡ old.room
  pub files : new.files ≡ old.files
  pub frames : new.frames ≡ old.frames

-- a page is read from its block into a frame
pub record StartsIn (old new : PagesOf) (p : ℕ) (label : Label) (frame block : ℕ) (ticket : TicketOf) : Type 0 where
  pub starts : Starts old new p label In frame block ticket
  pub bytes : (q o : ℕ) → q ≢ p → byte_in new.bytes q o ≡ byte_in old.bytes q o

-- what is read in, charged to g: memory of a group on its slot, which becomes a page of g; or a page of a file, from its home block, under a number that no page has
abbrev pub ReadsFrom : Pages → ℕ → FilesOf → Source → ℕ → ℕ → Label → ℕ → Type 0
ReadsFrom pages numbers files (source.Swapped page) g p label block = (page.0 ≡ p) × (label ≡ memory_of g) × (h : ℕ) × HasResidence pages p (memory_of h) (Away block)
ReadsFrom pages numbers files (source.File at) g p label block =
    (p < numbers) × (label ≡ of_file at.file at.page g false) × (block ≡ home_block files.first files.sizes at.file at.page) × (page_at pages p ≡ None)

-- it can be: the page is there; or the file has it, and no page holds it
abbrev pub IsReadable : Pages → FilesOf → Source → Type 0
IsReadable pages files (source.Swapped page) = (h block : ℕ) × HasResidence pages page.0 (memory_of h) (Away block)
IsReadable pages files (source.File at) = (at.page < slice_index files.sizes at.file) × (file_page pages at.file at.page ≡ None)

-- what is read in comes to be a page
abbrev pub is_new : Source → Bool
is_new (source.Swapped page) = false
is_new (source.File at) = true

-- that is read into a frame from now on
pub record StartsFrom (old new : PagesOf) (from : Source) (g p frame : ℕ) (ticket : TicketOf) : Type 0 where
  pub label : Label
  pub block : ℕ
  pub reads : ReadsFrom old.pages old.numbers old.files from g p label block
  pub starts : StartsIn old new p label frame block ticket

-- how a page that has to be written leaves its frame: memory by a slot, a page of a file by none
abbrev pub LeavesBy : Content → Bool → Option ℕ → Type 0
LeavesBy Memory dirty (Some slot) = Unit {0}
LeavesBy (OfFile file q) dirty None = dirty ≡ true
LeavesBy content dirty slot = ⊥

-- and to which block: the slot's, or its home
abbrev pub block_for : FilesOf → Content → Option ℕ → ℕ
block_for files (OfFile file q) slot = home_block files.first files.sizes file q
block_for files Memory (Some slot) = slot
block_for files Memory None = 0

-- a page in a frame is written to a block; the ticket has a copy of its bytes
pub record StartsOut (old new : PagesOf) (p : ℕ) (label : Label) (frame block : ℕ) (ticket : TicketOf) : Type 0 where
  pub starts : Starts old new p label Out frame block ticket
  pub holds : (o : ℕ) → o < page_size → slice_index ticket.bytes o ≡ byte_in old.bytes p o
  pub bytes : (q o : ℕ) → byte_in new.bytes q o ≡ byte_in old.bytes q o

-- a page after a transfer between a frame and a block: a page of a file that is out of its frame is no page any more
abbrev pub on_block_as : Content → Label → ℕ → Option Page
on_block_as Memory label block = Some (labelled label (Away block))
on_block_as (OfFile file q) label block = None

abbrev pub page_after : End → Label → ℕ → ℕ → Option Page
page_after InFrame label frame block = Some (labelled label (Held frame))
page_after OnBlock label frame block = on_block_as label.content label block

-- what a page owns no more after a transfer between a frame and a block: memory its slot, or each page its frame and its charge. A home block is nobody's
abbrev pub IsFreed : Label → ℕ → ℕ → End → Freed → Type 0
IsFreed label frame block end (freed.Slot slot) = (end ≡ InFrame) × (is_anon label.content ≡ true) × (slot ≡ block)
IsFreed label frame block end (freed.Room room charge) = (end ≡ OnBlock) × (room.number ≡ frame) × (charge ≡ label.group)
IsFreed label frame block end freed.Nothing = (end ≡ InFrame) × (is_anon label.content ≡ false)

-- the transfer of a page under a ticket has ended so: its bytes are the same where it is in its frame
pub record Ends (old new : PagesOf) (p : ℕ) (label : Label) (frame block n : ℕ) (end : End) : Type 0 where
  pub placed : Changes old.pages new.pages p (page_after end label frame block)
  pub unlisted : Changes old.flights new.flights n None
  pub more : new.tickets ≡ old.tickets + 1
  pub numbers : new.numbers ≡ old.numbers
  pub groups : new.groups ≡ old.groups
  pub room : new.room ≡ old.room
  pub files : new.files ≡ old.files
  pub bytes : end ≡ InFrame → (q o : ℕ) → byte_in new.bytes q o ≡ byte_in old.bytes q o
  pub others : (q o : ℕ) → q ≢ p → byte_in new.bytes q o ≡ byte_in old.bytes q o
  pub frames : new.frames ≡ old.frames

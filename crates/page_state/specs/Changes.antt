-- How the joined parts change: one record for each change, which is one of the machine's tables in all parts at once.
use Rattle.std.specs.Prelude.{◌≡◌, ◌≢◌, ℕ, ◌+◌, ◌<◌, ◌≤◌, ◌==◌, ◌&&◌, if◌then◌else◌, Bool, false, true, List, [], ◌∷◌, ◌++◌, slice_index, is_some, Option, Some, None, option_map}
use Rattle.machine.specs.declared.event.Goal.{Goal}
use Rattle.machine.specs.declared.record.Key.{Key}
use Rattle.machine.specs.declared.record.Life.{Life}
use Rattle.machine.specs.declared.record.Life.TheVariants.{Live}
use Rattle.machine.specs.declared.record.OomGroup.TheVariants.{Single}
use Rattle.machine.specs.declared.event.Setting.{Setting}
use Rattle.machine.specs.Slots.{Changes}
use Rattle.machine.specs.Tree.{is_live, node_at, without_group}
use Rattle.machine.specs.Pages.{Content, Memory, OfFile, Held, Page, page_at, home_block, is_held_in}
use Rattle.machine.specs.declared.event.Op.TheVariants.{Write}
use Rattle.machine.specs.Counts.{Counted, no_limits, no_counts, with_event, with_events}
use Rattle.machine.specs.Tasks.{PageTables, SetsTask, task_at, task_of, group_of_task, mapped_at, mappers, Shows, Copies, ShowsNothing}
use Rattle.machine.specs.State.{Opening, State, page_numbers, over_in, is_frame_free}
use Rattle.machine.specs.Access.{page_size}
use Rattle.machine.specs.Reclaim.{is_next}
use Rattle.machine.specs.Generations.{gens_at}
use Rattle.machine.specs.Lists.{Generation, Youngest, entry_after, MergesMarks, GoesOn, TakesNext, AddsLists, RemovesLists}
use Rattle.machine.specs.Step.{IsFreeFrame, IsFreeBlock, touched, still, in_frame, on_block, new_node, regrouped, with_setting}
use Rattle.pages.specs.declared.end.End.{End}
use Rattle.pages.specs.declared.end.End.TheVariants.{InFrame, OnBlock}
use Rattle.pages.specs.PagesOf.{byte_in, Label, labelled, of_file, HasResidence}
use Rattle.machine.specs.declared.record.Direction.{Direction}
use Rattle.machine.specs.declared.record.Direction.TheVariants.{In, Out}
use Rattle.files.specs.Files.{FilesOf}
use Rattle.pages.specs.Tickets.{TicketOf}
use Rattle.pages.specs.declared.source.Source.{Source}
use Rattle.pages.specs.Transfers.{ReadsFrom}
use Rattle.page_state.specs.declared.room.NoRoom.{NoRoom}
use Rattle.page_state.specs.declared.room.NoRoom.TheVariants as lacks
use Rattle.page_state.specs.States.{StateOf, byte_shown}
use Rattle.page_state.specs.Stored.{Stored, AddsPage, BeginsTransfer, SettlesPage, DropsPage}

-- ---- room

-- the charge of one page to g is granted: no max and no want of a frame is in its way
pub record HasRoom (s : State) (g : ℕ) : Type 0 where
  pub under : over_in s g ≡ None
  pub free : is_frame_free s ≡ true

-- it is not: the lowest group from g up has no room, one that is there; or no frame is free
abbrev pub LacksRoom : State → ℕ → NoRoom → Type 0
LacksRoom s g (lacks.Over a) = (over_in s g ≡ Some a.0) × (is_live s.tree a.0 ≡ true)
LacksRoom s g lacks.NoFrame = (over_in s g ≡ None) × (is_frame_free s ≡ false)

-- the files of the opening, at home behind the swap blocks
abbrev pub files_of : Opening → FilesOf
files_of opening = record { first = opening.swap; sizes = opening.files }

-- what is stored of the pages
abbrev pub stored_of : StateOf → Stored
stored_of s = record { pages = s.tables.pages; bytes = s.bytes; flights = s.flights }

-- ---- counting

-- the pages and the lists of those that are held go on, and a page that comes to be held enters this generation
abbrev pub KeepsLists : Generation → StateOf → StateOf → Type 0
KeepsLists generation old new = GoesOn generation old.tables.pages old.order.held new.tables.pages new.order.held

-- an event is counted, and all else is as it was
abbrev pub counts_event : StateOf → ℕ → Key → StateOf
counts_event old g key = record old { tables = record (old.tables) { counted = with_event old.tables.counted g key } }

-- and several events
abbrev pub counts_events : StateOf → List Counted → StateOf
counts_events old events = record old { tables = record (old.tables) { counted = with_events old.tables.counted events } }

-- ---- pages

-- a virtual page of a task shows this page in a frame, and others show it too
pub record SharesPage (s : State) (t v p : ℕ) : Type 0 where
  pub shown : mapped_at s.page_tables t v ≡ Some p
  pub held : is_held_in s.pages p ≡ true
  pub shared : 1 < mappers s.page_tables p

-- a page is made for a virtual page of a task, and charged to the group. Its bytes are those that the virtual page showed, zeros where it showed nothing, but for one byte
pub record MakesPage (old new : StateOf) (t v g o byte : ℕ) : Type 0 where
  pub page : ℕ
  pub frame : ℕ
  pub frame_free : IsFreeFrame old.tables frame
  pub in_range : page < page_numbers old.tables.opening
  pub adds : AddsPage (stored_of old) (stored_of new) page g frame (byte_shown old.bytes (mapped_at old.tables.page_tables t v)) o byte
  pub shown : Shows old.tables.page_tables new.tables.page_tables t v (Some page)
  pub tables : new.tables ≡ record old.tables { pages = new.tables.pages; page_tables = new.tables.page_tables }
  pub held : KeepsLists Youngest old new
  pub cursors : new.order.cursors ≡ old.order.cursors

-- the pages held in the frames of these bits are marked as accessed, and all else is as it was
pub record MergesFrames (old new : StateOf) (word bits : ℕ) : Type 0 where
  pub merges : MergesMarks old.tables.opening.placement old.tables.pages word bits old.order.held new.order.held
  pub others : new ≡ record old { order = record { held = new.order.held; cursors = old.order.cursors } }

-- a byte of a page in a frame is written, and a page of a file is dirty then
pub record WritesByte (old new : StateOf) (p o byte : ℕ) : Type 0 where
  pub placed : (page : Page) → page_at old.tables.pages p ≡ Some page → Changes old.tables.pages new.tables.pages p (Some (touched page (Write byte)))
  pub tables : new.tables ≡ record old.tables { pages = new.tables.pages }
  pub bytes : (q k : ℕ) → byte_in new.bytes q k ≡ (if (q == p) && (o == k) then byte else byte_in old.bytes q k)
  pub flights : new.flights ≡ old.flights
  pub order : new.order ≡ old.order

-- a page is from now on being read from this block into a frame that no page had
pub record BeginsReadIn (old new : StateOf) (p : ℕ) (label : Label) (block : ℕ) (ticket : TicketOf) : Type 0 where
  pub frame : ℕ
  pub frame_free : IsFreeFrame old.tables frame
  pub begins : BeginsTransfer (stored_of old) (stored_of new) In p label frame block ticket
  pub tables : new.tables ≡ record old.tables { pages = new.tables.pages }
  pub bytes : (q k : ℕ) → q ≢ p → byte_in new.bytes q k ≡ byte_in old.bytes q k
  pub held : KeepsLists Youngest old new
  pub cursors : new.order.cursors ≡ old.order.cursors

-- what the source names, charged to g, is from now on being read in
pub record BeginsRead (old new : StateOf) (from : Source) (g : ℕ) (ticket : TicketOf) : Type 0 where
  pub page : ℕ
  pub label : Label
  pub block : ℕ
  pub reads : ReadsFrom old.tables.pages (page_numbers old.tables.opening) (files_of old.tables.opening) from g page label block
  pub begins : BeginsReadIn old new page label block ticket

-- where a page that leaves its frame is written: memory to a swap block that no page has, a page of a file that was written to to its home block
abbrev pub IsWrittenTo : State → Content → Bool → ℕ → Type 0
IsWrittenTo s Memory dirty block = IsFreeBlock s block
IsWrittenTo s (OfFile file q) dirty block = (dirty ≡ true) × (block ≡ home_block s.opening.swap s.opening.files file q)

-- of the group that is served for the target the page that is next is from now on being written out; the ticket has its bytes
pub record BeginsWriteOut (old new : StateOf) (goal : Goal) (target group : ℕ) (ticket : TicketOf) : Type 0 where
  pub p : ℕ
  pub label : Label
  pub own : label.group ≡ group
  pub frame : ℕ
  pub stood : HasResidence old.tables.pages p label (Held frame)
  pub may : is_next old.tables target (labelled label (Held frame)) ≡ true
  pub block : IsWrittenTo old.tables label.content label.dirty ticket.block
  pub begins : BeginsTransfer (stored_of old) (stored_of new) Out p label frame ticket.block ticket
  pub holds : (k : ℕ) → k < page_size → slice_index ticket.bytes k ≡ byte_in new.bytes p k
  pub tables : new.tables ≡ record old.tables { pages = new.tables.pages }
  pub bytes : (q k : ℕ) → byte_in new.bytes q k ≡ byte_in old.bytes q k
  pub next : TakesNext old.tables old.order goal target new.tables new.order
  -- three generations more are begun at most
  pub ages : (h : ℕ) → (gens_at new.order.held.groups h).max_seq ≤ (gens_at old.order.held.groups h).max_seq + 3

-- of the group that is served the page that is next, one of a file as its home block has it, is gone
pub record DropsClean (old new : StateOf) (goal : Goal) (target group : ℕ) : Type 0 where
  pub p : ℕ
  pub file : ℕ
  pub q : ℕ
  pub g : ℕ
  pub own : g ≡ group
  pub frame : ℕ
  pub stood : HasResidence old.tables.pages p (of_file file q g false) (Held frame)
  pub may : is_next old.tables target (labelled (of_file file q g false) (Held frame)) ≡ true
  pub drops : DropsPage (stored_of old) (stored_of new) p
  pub tables : new.tables ≡ record old.tables { pages = new.tables.pages }
  pub next : TakesNext old.tables old.order goal target new.tables new.order
  -- three generations more are begun at most
  pub ages : (h : ℕ) → (gens_at new.order.held.groups h).max_seq ≤ (gens_at old.order.held.groups h).max_seq + 3

-- that page begins to be written out under this ticket, or is dropped
abbrev pub TakesPage : StateOf → StateOf → Goal → ℕ → ℕ → Option TicketOf → Type 0
TakesPage old new goal target group (Some ticket) = BeginsWriteOut old new goal target group ticket
TakesPage old new goal target group None = DropsClean old new goal target group

-- what becomes of a page whose transfer between a frame and a block ends so, with these page tables
abbrev pub ended_as : End → PageTables → ℕ → Page → ℕ → ℕ → Option Page
ended_as InFrame tables p page frame block = in_frame tables p page frame block
ended_as OnBlock tables p page frame block = on_block tables p page frame block

-- the transfer in this direction of a page under ticket n ends, and this is what becomes of the page
pub record EndsTransfer (old new : StateOf) (direction : Direction) (p n : ℕ) (to : Option Page) : Type 0 where
  pub settles : SettlesPage (stored_of old) (stored_of new) p n to
  pub tables : new.tables ≡ record old.tables { pages = new.tables.pages }
  pub held : KeepsLists (entry_after old.tables.opening.placement direction) old new
  pub cursors : new.order.cursors ≡ old.order.cursors

-- ---- tasks

-- a task of the group begins, and shows nothing
pub record StartsTask (old new : StateOf) (t g : ℕ) : Type 0 where
  pub starts : SetsTask old.tables.tasks t g Live new.tables.tasks
  pub none : (v : ℕ) → mapped_at new.tables.page_tables t v ≡ None
  pub same : (u v : ℕ) → mapped_at new.tables.page_tables u v ≡ mapped_at old.tables.page_tables u v
  pub tables : new.tables ≡ record old.tables { tasks = new.tables.tasks; page_tables = new.tables.page_tables }
  pub order : new.order ≡ old.order
  pub bytes : new.bytes ≡ old.bytes
  pub flights : new.flights ≡ old.flights

-- a task begins in the group of another, and shows what that one shows
pub record ForksTask (old new : StateOf) (parent child : ℕ) : Type 0 where
  pub starts : SetsTask old.tables.tasks child (group_of_task old.tables.tasks parent) Live new.tables.tasks
  pub copies : Copies old.tables.page_tables new.tables.page_tables parent child
  pub tables : new.tables ≡ record old.tables { tasks = new.tables.tasks; page_tables = new.tables.page_tables }
  pub order : new.order ≡ old.order
  pub bytes : new.bytes ≡ old.bytes
  pub flights : new.flights ≡ old.flights

-- a live task is of another group, and nothing else changes
pub record MovesTask (old new : StateOf) (t g : ℕ) : Type 0 where
  pub moves : SetsTask old.tables.tasks t g Live new.tables.tasks
  pub tables : new.tables ≡ record old.tables { tasks = new.tables.tasks }
  pub order : new.order ≡ old.order
  pub bytes : new.bytes ≡ old.bytes
  pub flights : new.flights ≡ old.flights

-- pages that nothing maps any more are gone, unless they are in transfer, and the others are as they were
pub record DropsPages (old new : StateOf) : Type 0 where
  pub pages : (p : ℕ) → page_at new.tables.pages p ≡ still new.tables.page_tables p (page_at old.tables.pages p)
  pub bytes : (p k : ℕ) → is_some (page_at new.tables.pages p) ≡ true → byte_in new.bytes p k ≡ byte_in old.bytes p k
  pub flights : new.flights ≡ old.flights
  pub held : KeepsLists Youngest old new
  pub cursors : new.order.cursors ≡ old.order.cursors

-- a virtual page of a task shows nothing any more
pub record Unmaps (old new : StateOf) (t v : ℕ) : Type 0 where
  pub shown : Shows old.tables.page_tables new.tables.page_tables t v None
  pub drops : DropsPages old new
  pub tables : new.tables ≡ record old.tables { pages = new.tables.pages; page_tables = new.tables.page_tables }

-- no virtual page of a task shows anything any more
pub record UnmapsAll (old new : StateOf) (t : ℕ) : Type 0 where
  pub shown : ShowsNothing old.tables.page_tables new.tables.page_tables t
  pub drops : DropsPages old new
  pub tables : new.tables ≡ record old.tables { pages = new.tables.pages; page_tables = new.tables.page_tables }

-- the tasks of which the test holds end so: their virtual pages show nothing any more. Every other task stays, and shows what it showed
pub record EndsTasks (old new : StateOf) (is_gone : ℕ → Bool) (life : Life) : Type 0 where
  pub none : (u v : ℕ) → is_gone u ≡ true → mapped_at new.tables.page_tables u v ≡ None
  pub others : (u v : ℕ) → is_gone u ≡ false → mapped_at new.tables.page_tables u v ≡ mapped_at old.tables.page_tables u v
  pub ends : (u : ℕ) → is_gone u ≡ true → task_at new.tables.tasks u ≡ Some (task_of (group_of_task old.tables.tasks u) life)
  pub stays : (u : ℕ) → is_gone u ≡ false → task_at new.tables.tasks u ≡ task_at old.tables.tasks u
  pub drops : DropsPages old new
  pub tables : new.tables ≡ record old.tables { pages = new.tables.pages; tasks = new.tables.tasks; page_tables = new.tables.page_tables }

-- one task ends
abbrev pub EndsTask : StateOf → StateOf → ℕ → Life → Type 0
EndsTask old new t life = EndsTasks old new (λ u. u == t) life

-- ---- groups

-- a group of this path more, without limits, without the flag and without a page, for which as a target no group was served
pub record AddsGroup (old new : StateOf) (path : List ℕ) : Type 0 where
  pub tables : new.tables ≡ record old.tables { tree = old.tables.tree ++ new_node old.tables.tree path ∷ []; limits = old.tables.limits ++ no_limits ∷ []; flags = old.tables.flags ++ Single ∷ []; counted = old.tables.counted ++ no_counts ∷ [] }
  pub order : AddsLists old.order new.order
  pub bytes : new.bytes ≡ old.bytes
  pub flights : new.flights ≡ old.flights

-- a group goes, and its pages, in transfer and on their blocks too, are its parent's, or by Linux's placement on their blocks alone the root's
pub record RemovesGroup (old new : StateOf) (g : ℕ) : Type 0 where
  pub parent : ℕ
  pub below : (node_at old.tables.tree g).parent ≡ Some parent
  pub pages : (p : ℕ) → page_at new.tables.pages p ≡ option_map (regrouped old.tables.opening.placement g parent) (page_at old.tables.pages p)
  pub tables : new.tables ≡ record old.tables { tree = without_group old.tables.tree g; pages = new.tables.pages }
  pub order : RemovesLists (Some parent) g old.order new.order
  pub bytes : (p k : ℕ) → byte_in new.bytes p k ≡ byte_in old.bytes p k
  pub flights : new.flights ≡ old.flights

-- another value for one setting of a group
abbrev pub sets_in : StateOf → ℕ → Setting → StateOf
sets_in old g setting = record old { tables = with_setting old.tables g setting }

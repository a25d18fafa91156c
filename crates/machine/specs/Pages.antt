-- Pages and where they stand (kernel: mm/memcontrol.c, mm/swap_state.c, mm/vmscan.c).
use Rattle.std.specs.Prelude.{◌≡◌, ℕ, ◌+◌, ◌<◌, ◌==◌, ◌&&◌, not, Bool, true, false, List, position, slice_index, sum, take, Option, Some, None}
use Rattle.machine.specs.declared.record.Direction.{Direction}
use Rattle.machine.specs.declared.record.Direction.TheVariants.{In, Out}
use Rattle.machine.specs.Slots.{at, there_and, count_there, any_there}
use Rattle.machine.specs.Tree.{Node, under}

-- what a page holds: memory of tasks, or a page of a file
pub data Content : Type 0 where
  Memory : Content
  OfFile : ℕ → ℕ → Content

-- where a page stands: in a frame; being read from a block into a frame; being written from a frame to a block; on its block alone.
-- The last number of a transfer is its ticket's
pub data Residence : Type 0 where
  Held : ℕ → Residence
  Coming : ℕ → ℕ → ℕ → Residence
  Going : ℕ → ℕ → ℕ → Residence
  Away : ℕ → Residence

-- a page: its group is the one that is charged for it while it has a frame
pub record Page : Type 0 where
  pub content : Content
  pub group : ℕ
  pub dirty : Bool
  pub residence : Residence

abbrev pub Pages : Type 0
Pages = List (Option Page)

abbrev pub is_anon : Content → Bool
is_anon Memory = true
is_anon (OfFile file page) = false

-- it holds this page of this file
abbrev pub is_page_of : ℕ → ℕ → Content → Bool
is_page_of file q Memory = false
is_page_of file q (OfFile file' q') = (file' == file) && (q' == q)

abbrev pub is_held_at : Residence → Bool
is_held_at (Held frame) = true
is_held_at residence = false

abbrev pub in_transfer_at : Residence → Bool
in_transfer_at (Coming frame block ticket) = true
in_transfer_at (Going frame block ticket) = true
in_transfer_at residence = false

-- the frame, block and ticket of a page that has one
abbrev pub frame_at : Residence → Option ℕ
frame_at (Held frame) = Some frame
frame_at (Coming frame block ticket) = Some frame
frame_at (Going frame block ticket) = Some frame
frame_at (Away block) = None

abbrev pub block_at : Residence → Option ℕ
block_at (Held frame) = None
block_at (Coming frame block ticket) = Some block
block_at (Going frame block ticket) = Some block
block_at (Away block) = Some block

abbrev pub ticket_at : Residence → Option ℕ
ticket_at (Coming frame block ticket) = Some ticket
ticket_at (Going frame block ticket) = Some ticket
ticket_at residence = None

abbrev pub is_number : Option ℕ → ℕ → Bool
is_number None n = false
is_number (Some m) n = m == n

abbrev pub is_some_number : Option ℕ → Bool
is_some_number None = false
is_some_number (Some n) = true

-- the page of a number, if it is there
abbrev pub page_at : Pages → ℕ → Option Page
page_at pages p = at pages p

-- the page that holds this page of this file, if one does (kernel: filemap_get_folio)
abbrev pub file_page : Pages → ℕ → ℕ → Option ℕ
file_page pages file q = position (there_and (λ page. is_page_of file q page.content)) pages

-- the page has a frame, and so is charged: pages in transfer are. (Excludes a machine that uncharges when write-out begins.)
abbrev pub has_frame : Page → Bool
has_frame page = is_some_number (frame_at page.residence)

abbrev pub is_held : Page → Bool
is_held page = is_held_at page.residence

abbrev pub is_in_transfer : Page → Bool
is_in_transfer page = in_transfer_at page.residence

-- the page of a number is there, in a frame and in no transfer
abbrev pub is_held_in : Pages → ℕ → Bool
is_held_in pages p = there_and is_held (page_at pages p)

-- the page is charged to a or below it
abbrev pub is_charged : List Node → ℕ → Page → Bool
is_charged tree a page = has_frame page && under tree a page.group

-- how many pages have a frame and a group at or under a (memory.current; mm/page_counter.c)
abbrev pub charged : List Node → Pages → ℕ → ℕ
charged tree pages a = count_there (is_charged tree a) pages

-- of these how many hold memory of tasks, and how many a file's page (memory.stat)
abbrev pub charged_anon : List Node → Pages → ℕ → ℕ
charged_anon tree pages a = count_there (λ page. is_charged tree a page && is_anon page.content) pages

abbrev pub charged_file : List Node → Pages → ℕ → ℕ
charged_file tree pages a = count_there (λ page. is_charged tree a page && not (is_anon page.content)) pages

-- how many frames, and how many swap blocks, are in use. A file page's block is its home and no swap block
abbrev pub used_frames : Pages → ℕ
used_frames pages = count_there has_frame pages

abbrev pub has_swap : Page → Bool
has_swap page = is_anon page.content && is_some_number (block_at page.residence)

abbrev pub used_swap : Pages → ℕ
used_swap pages = count_there has_swap pages

abbrev pub in_transfer : Pages → ℕ
in_transfer pages = count_there is_in_transfer pages

-- a page has this frame; an anonymous page this block; a transfer this ticket
abbrev pub has_this_frame : ℕ → Page → Bool
has_this_frame f page = is_number (frame_at page.residence) f

abbrev pub is_frame_taken : Pages → ℕ → Bool
is_frame_taken pages f = any_there (has_this_frame f) pages

abbrev pub is_swap_taken : Pages → ℕ → Bool
is_swap_taken pages b = any_there (λ page. is_anon page.content && is_number (block_at page.residence) b) pages

abbrev pub is_ticket_taken : Pages → ℕ → Bool
is_ticket_taken pages n = any_there (λ page. is_number (ticket_at page.residence) n) pages

-- the page is in transfer in this direction under this ticket
abbrev pub is_flying_at : Direction → ℕ → Residence → Bool
is_flying_at In n (Coming frame block ticket) = ticket == n
is_flying_at Out n (Going frame block ticket) = ticket == n
is_flying_at direction n residence = false

-- a transfer in this direction is in flight under the ticket
abbrev pub is_in_flight : Direction → Pages → ℕ → Bool
is_in_flight direction pages n = any_there (λ page. is_flying_at direction n page.residence) pages

-- the home block of a file's page: home blocks follow the swap blocks, in the files' order
abbrev pub home_block : ℕ → List ℕ → ℕ → ℕ → ℕ
home_block swap sizes file page = swap + sum (take file sizes) + page

-- ---- what holds of each page

-- where a page of a file stands: in its frame, or between that and its home block; and only what was written to is written out
abbrev pub IsAtHome : ℕ → Bool → Residence → Type 0
IsAtHome home dirty (Held frame) = Unit {0}
IsAtHome home dirty (Coming frame block ticket) = block ≡ home
IsAtHome home dirty (Going frame block ticket) = (block ≡ home) × (dirty ≡ true)
IsAtHome home dirty (Away block) = ⊥

abbrev pub IsFiledAs : ℕ → List ℕ → Page → Content → Type 0
IsFiledAs swap sizes page Memory = page.dirty ≡ false
IsFiledAs swap sizes page (OfFile file q) = (q < slice_index sizes file) × IsAtHome (home_block swap sizes file q) page.dirty page.residence

-- memory is never dirty, and a page of a file is one that the file has, at home
abbrev pub IsFiled : ℕ → List ℕ → Page → Type 0
IsFiled swap sizes page = IsFiledAs swap sizes page page.content

-- What an access meets (mm/memory.c: handle_mm_fault).
use Rattle.std.specs.Prelude.{ℕ, ◌==◌, ◌&&◌, nat_lt, Bool, true, false, if◌then◌else◌, slice_index, Option, Some, None}
use Rattle.machine.specs.declared.config.Placement.{Placement}
use Rattle.machine.specs.declared.config.Placement.TheVariants.{Linux}
use Rattle.machine.specs.declared.event.Place.{Place}
use Rattle.machine.specs.declared.event.Place.TheVariants.{Virtual, File}
use Rattle.machine.specs.declared.event.Op.{Op}
use Rattle.machine.specs.declared.event.Op.TheVariants.{Read, Write}
use Rattle.machine.specs.Pages.{Residence, Held, Coming, Going, Away, Page, Pages, page_at, file_page}
use Rattle.machine.specs.Tasks.{PageTables, mapped_at, mappers}
use Rattle.machine.specs.State.{Opening, State}

-- bytes of a page's content, whatever the page stands for in amounts (`page_size` of an `Opening`); and virtual pages of a task
abbrev pub page_size : ℕ
page_size = 4096

abbrev pub task_pages : ℕ
task_pages = 1024

-- the place is there. A number that is no file's has no page
abbrev pub is_place : Opening → Place → Bool
is_place opening (Virtual v offset) = nat_lt v task_pages && nat_lt offset page_size
is_place opening (File file q offset) = nat_lt q (slice_index opening.files file) && nat_lt offset page_size

-- what an access meets: one case for each row of the rules of access
pub data Meeting : Type 0 where
  -- a read where nothing is mapped
  Unmapped : Meeting
  -- a page in a frame that the access may use as it is: its number, the page, the frame
  Hits : ℕ → Page → ℕ → Meeting
  -- a page that is being read in or written out
  Transferring : Meeting
  -- a write where nothing is mapped: a page of zeros has to be made for the virtual page
  NeedsPage : ℕ → Meeting
  -- a write to a page that others map too: a copy has to be made for the virtual page
  NeedsCopy : ℕ → Meeting
  -- a page on its swap block: its number, the page, the block
  NeedsSwapIn : ℕ → Page → ℕ → Meeting
  -- a page of a file that has no record: it has to be read in. The file, and its page
  NeedsRead : ℕ → ℕ → Meeting
  -- a mapping of a page that is not there, or a page of a file out of its frame. No legal state has one, and no step answers it
  Dangling : Meeting

-- a write in place would change what the others see. (Excludes a shared page written in place.)
abbrev pub is_shared_write : PageTables → ℕ → Op → Bool
is_shared_write tables p Read = false
is_shared_write tables p (Write b) = nat_lt 1 (mappers tables p)

abbrev pub meets_residence : State → ℕ → ℕ → Page → Residence → Op → Meeting
meets_residence s v p page (Held frame) op = if is_shared_write s.page_tables p op then NeedsCopy v else Hits p page frame
meets_residence s v p page (Coming frame block ticket) op = Transferring
meets_residence s v p page (Going frame block ticket) op = Transferring
meets_residence s v p page (Away block) op = NeedsSwapIn p page block

abbrev pub meets_slot : State → ℕ → ℕ → Option Page → Op → Meeting
meets_slot s v p None op = Dangling
meets_slot s v p (Some page) op = meets_residence s v p page page.residence op

abbrev pub meets_mapped : State → ℕ → Option ℕ → Op → Meeting
meets_mapped s v None Read = Unmapped
meets_mapped s v None (Write b) = NeedsPage v
meets_mapped s v (Some p) op = meets_slot s v p (page_at s.pages p) op

-- a page of a file is written in place, whoever else reads it
abbrev pub meets_cached_at : ℕ → Page → Residence → Meeting
meets_cached_at p page (Held frame) = Hits p page frame
meets_cached_at p page (Coming frame block ticket) = Transferring
meets_cached_at p page (Going frame block ticket) = Transferring
meets_cached_at p page (Away block) = Dangling

abbrev pub meets_record : ℕ → Option Page → Meeting
meets_record p None = Dangling
meets_record p (Some page) = meets_cached_at p page page.residence

abbrev pub meets_cached : Pages → ℕ → ℕ → Option ℕ → Meeting
meets_cached pages file q None = NeedsRead file q
meets_cached pages file q (Some p) = meets_record p (page_at pages p)

-- what an access of a live task meets. (Excludes a page of a file that each task, or each group, has for itself.)
abbrev pub meets : State → ℕ → Place → Op → Meeting
meets s t (Virtual v offset) op = meets_mapped s v (mapped_at s.page_tables t v) op
meets s t (File file q offset) op = meets_cached s.pages file q (file_page s.pages file q)

-- the group that a swap-in charges: the page's own. By Linux's placement a page of the root is charged to the group of the task that reads it in. On its block such a page was one of a removed
-- group (kernel: mem_cgroup_swapin_charge_folio), or one of the root itself, which in Linux stays the root's. (Excludes a reader that is charged by our own placement, and one that is charged
-- for a page of another group that is there.)
abbrev pub charged_from_swap : Placement → ℕ → ℕ → ℕ
charged_from_swap Linux g own = if g == 0 then own else g
charged_from_swap placement g own = g

-- the group that an access would charge: for a swap-in the page's or the accessor's, else the accessor's; None where it needs no charge
abbrev pub charges : Placement → Meeting → ℕ → Option ℕ
charges placement (NeedsSwapIn p page block) own = Some (charged_from_swap placement page.group own)
charges placement (NeedsPage v) own = Some own
charges placement (NeedsCopy v) own = Some own
charges placement (NeedsRead file q) own = Some own
charges placement meeting own = None

-- it would begin a transfer
abbrev pub is_fetch : Meeting → Bool
is_fetch (NeedsSwapIn p page block) = true
is_fetch (NeedsRead file q) = true
is_fetch meeting = false

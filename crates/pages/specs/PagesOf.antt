-- What a contract sees of `Pages`.
use Rattle.std.specs.Prelude.{◌≡◌, ℕ, ◌&&◌, Bool, true, false, if◌then◌else◌, List, position, Option, Some, None, IfSome, option_map, slice_index}
use Rattle.machine.specs.Slots.{at, there_and, count_there}
use Rattle.machine.specs.Pages.{Content, Memory, OfFile, Residence, Held, Coming, Going, Away, Page, Pages, page_at, file_page, is_held, is_in_transfer, has_this_frame, is_number, ticket_at, IsFiled}
use Rattle.files.specs.Files.{FilesOf}
use Rattle.pages.specs.declared.residence.Residence.{Residence as Code_residence}
use Rattle.pages.specs.declared.residence.Residence.TheVariants as code
use Rattle.machine.specs.declared.record.Direction.{Direction}
use Rattle.machine.specs.declared.record.Direction.TheVariants.{In, Out}
use Rattle.pages.specs.declared.flight.Flight.{Flight}
use Rattle.pages.specs.declared.way.WayOut.{WayOut}
use Rattle.pages.specs.declared.way.WayOut.TheVariants as way

-- the pages and their bytes, both by the page's number; how many page numbers there are; by ticket number the transfers in flight;
-- for how many transfers more there is memory; how many groups there are; for how many groups more there is memory; the files; and of how
-- many frames pages can be told by the frame
pub record PagesOf : Type 0 where
  pub pages : Pages
  pub bytes : List (Option (List ℕ))
  pub numbers : ℕ
  pub flights : List (Option Flight)
  pub tickets : ℕ
  pub groups : ℕ
  pub room : ℕ
  pub files : FilesOf
  pub frames : ℕ

-- the page is held in this frame
abbrev pub is_held_frame : ℕ → Page → Bool
is_held_frame f page = is_held page && has_this_frame f page

-- the page that is held in this frame, if one is (kernel: pfn_folio)
abbrev pub frame_holder : Pages → ℕ → Option ℕ
frame_holder pages f = position (there_and (is_held_frame f)) pages

-- how many pages there are
abbrev pub pages_there : Pages → ℕ
pages_there pages = count_there (λ page. true) pages

abbrev pub byte_of : Option (List ℕ) → ℕ → ℕ
byte_of None offset = 0
byte_of (Some bytes) offset = slice_index bytes offset

-- a byte of a page that has a frame; 0 where there is no page
abbrev pub byte_in : List (Option (List ℕ)) → ℕ → ℕ → ℕ
byte_in bytes p offset = byte_of (at bytes p) offset

-- what a page is, wherever it is: what it holds, whose it is, and whether it was written to since its file's home block had its bytes
pub record Label : Type 0 where
  pub content : Content
  pub group : ℕ
  pub dirty : Bool

abbrev pub label_of : Page → Label
label_of page = record { content = page.content; group = page.group; dirty = page.dirty }

abbrev pub labelled : Label → Residence → Page
labelled label residence = record { content = label.content; group = label.group; dirty = label.dirty; residence = residence }

-- memory of a group
abbrev pub memory_of : ℕ → Label
memory_of g = record { content = Memory; group = g; dirty = false }

-- a page of a file, of a group, and whether it was written to
abbrev pub of_file : ℕ → ℕ → ℕ → Bool → Label
of_file file q g dirty = record { content = OfFile file q; group = g; dirty = dirty }

-- the page of this number is this one, and is there
abbrev pub HasResidence : Pages → ℕ → Label → Residence → Type 0
HasResidence pages p label residence = page_at pages p ≡ Some (labelled label residence)

-- where a page is, as the code names it
abbrev pub residence_of : Residence → Code_residence
residence_of (Held frame) = code.Held (record { 0 = frame })
residence_of (Coming frame block ticket) = code.Coming
residence_of (Going frame block ticket) = code.Going
residence_of (Away block) = code.Away block

-- in transfer in this direction, between a frame and a block, under a ticket
abbrev pub moving : Direction → ℕ → ℕ → ℕ → Residence
moving In frame block ticket = Coming frame block ticket
moving Out frame block ticket = Going frame block ticket

-- the page of a number is there and in transfer
abbrev pub is_moving_in : Pages → ℕ → Bool
is_moving_in pages p = there_and is_in_transfer (page_at pages p)

-- it is in transfer under this ticket
abbrev pub is_under_ticket : Pages → ℕ → ℕ → Bool
is_under_ticket pages p n = there_and (λ page. is_number (ticket_at page.residence) n) (page_at pages p)

abbrev pub flight : ℕ → Direction → Flight
flight p direction = record { page = record { 0 = p }; direction = direction }

abbrev pub is_direction : Direction → Direction → Bool
is_direction In In = true
is_direction Out Out = true
is_direction wanted direction = false

-- a transfer in this direction
abbrev pub is_flight_to : Direction → Option Flight → Bool
is_flight_to direction slot = there_and (λ flight. is_direction direction flight.direction) slot

-- the page of a flight is in transfer in the flight's direction, under this ticket
pub record IsInTransfer (pages : Pages) (n : ℕ) (flight : Flight) : Type 0 where
  pub label : Label
  pub frame : ℕ
  pub block : ℕ
  pub stands : HasResidence pages flight.page.0 label (moving flight.direction frame block n)

-- what always holds: the transfers in flight are those of the pages that are in transfer
pub record AreInFlight (pages : Pages) (flights : List (Option Flight)) : Type 0 where
  pub known : (n : ℕ) → IfSome (at flights n) (λ flight. IsInTransfer pages n flight)
  pub listed : (p n : ℕ) → is_under_ticket pages p n ≡ true → option_map (λ (f : Flight). f.page.0) (at flights n) ≡ Some p

-- and: memory is never dirty, each page of a file is one that the file has, at home, and none is there twice
pub record AreFiled (files : FilesOf) (pages : Pages) : Type 0 where
  pub filed : (p : ℕ) → IfSome (page_at pages p) (IsFiled files.first files.sizes)
  pub single : (p file q : ℕ) → IfSome (page_at pages p) (λ page. page.content ≡ OfFile file q → file_page pages file q ≡ Some p)

-- how a page leaves its frame for good
abbrev pub way_of : Content → Bool → WayOut
way_of Memory dirty = way.ToSwap
way_of (OfFile file q) dirty = if dirty then way.ToHome else way.Dropped

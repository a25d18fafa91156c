-- What a contract sees of pages, by what they are made of: the numbers that pages have, what the pages own, the transfers in flight, and
-- the lists of the groups' pages.
use Rattle.std.specs.Prelude.{◌≡◌, ◌≢◌, ℕ, ◌-◌, ◌^◌, ◌<◌, ◌==◌, Bool, true, false, List, [], length, min, sum, slice_index, Option, Some, None, IfSome, map, option_map, is_some}
use Rattle.slab.specs.Slab.{Slab, get, slab_len}
use Rattle.rings.specs.Rings.{RingsOf, list_at, has}
use Rattle.machine.specs.Slots.{at, there_and}
use Rattle.machine.specs.Pages.{Content, Memory, OfFile, Residence, Held, Away, Page, Pages, page_at, has_this_frame, is_page_of, home_block, IsFiled}
use Rattle.machine.specs.declared.id.PageId.{PageId}
use Rattle.pages.specs.declared.flight.Flight.{Flight}
use Rattle.pages.specs.declared.owned_page.OwnedPage.{OwnedPage}
use Rattle.pages.specs.declared.owned_page.Place.{Place}
use Rattle.pages.specs.declared.owned_page.Place.TheVariants as place
use Rattle.pages.specs.declared.owned_page.FilePage.{FilePage}
use Rattle.pages.specs.declared.owned_page.Content.{Content as Holds}
use Rattle.pages.specs.declared.owned_page.Content.TheVariants as holds
use Rattle.pages.specs.declared.owned_page.Backing.{Backing}
use Rattle.pages.specs.declared.owned_page.Backing.TheVariants as backing
use Rattle.files.specs.Files.{FilesOf}
use Rattle.pages.specs.PagesOf.{PagesOf, labelled, moving, Label, byte_of, AreInFlight}

-- what a page holds, and whether it was written to since its home block had its bytes
abbrev pub content_of : Holds → Content
content_of holds.Memory = Memory
content_of (holds.OfFile at dirty) = OfFile at.file at.page

abbrev pub is_dirty : Holds → Bool
is_dirty holds.Memory = false
is_dirty (holds.OfFile at dirty) = dirty

-- a page of this group that holds this
abbrev pub label_holding : Holds → ℕ → Label
label_holding content g = record { content = content_of content; group = g; dirty = is_dirty content }

abbrev pub block_of : Backing → ℕ
block_of (backing.Swap slot) = slot
block_of (backing.Home block) = block

-- whose a page is that is there, and where it is
abbrev pub group_at : Place → ℕ
group_at (place.Frame frame charge) = charge
group_at (place.Moving frame charge direction backing ticket) = charge
group_at (place.Away group slot) = group.0

abbrev pub residence_at : Place → Residence
residence_at (place.Frame frame charge) = Held frame.number
residence_at (place.Moving frame charge direction backing ticket) = moving direction frame.number (block_of backing) ticket.0
residence_at (place.Away group slot) = Away slot

-- the page that owns these
abbrev pub page_of : OwnedPage → Page
page_of owned = labelled (label_holding owned.content (group_at owned.place)) (residence_at owned.place)

abbrev pub bytes_at : Place → List ℕ
bytes_at (place.Frame frame charge) = frame.bytes
bytes_at (place.Moving frame charge direction backing ticket) = frame.bytes
bytes_at (place.Away group slot) = []

abbrev pub bytes_of : OwnedPage → List ℕ
bytes_of owned = bytes_at owned.place

-- one byte of a page is written, and no other changes
pub record WritesByte (old new : Option (List ℕ)) (offset byte : ℕ) : Type 0 where
  pub written : byte_of new offset ≡ byte
  pub others : (o : ℕ) → o ≢ offset → byte_of new o ≡ byte_of old o

-- a page is there, and of the group
abbrev pub is_of : ℕ → Option Page → Bool
is_of g slot = there_and (λ page. page.group == g) slot

-- a page is on the list of a group exactly where it is there and of that group
abbrev pub AreMembers : List (List ℕ) → Pages → Type 0
AreMembers lists pages = (g p : ℕ) → has (list_at lists g) p ≡ is_of g (page_at pages p)

-- for how many groups more there is memory, as far as the lists can be counted in 31 bits
abbrev pub room_of : ℕ → ℕ → ℕ
room_of lists groups = min lists (2 ^ 31 - 1 - groups)

-- the page of a file that a page holds, if it holds one
abbrev pub file_at : Content → Option FilePage
file_at Memory = None
file_at (OfFile file q) = Some (record { file = file; page = q })

-- how far the home block of a page of a file is behind the first
abbrev pub place_in : FilesOf → ℕ → ℕ → ℕ
place_in files file q = home_block files.first files.sizes file q - files.first

-- this page is found at a place of the cache
abbrev pub is_found : Option PageId → ℕ → Bool
is_found slot p = there_and (λ (page : PageId). page.0 == p) slot

-- by home block, from the first on, a page is found exactly where it holds the page of a file that is at home there
abbrev pub AreCached : FilesOf → List (Option PageId) → Pages → Type 0
AreCached files cache pages = (file q p : ℕ) → q < slice_index files.sizes file
    → is_found (at cache (place_in files file q)) p ≡ there_and (λ page. is_page_of file q page.content) (page_at pages p)

-- memory is never dirty, and each page of a file is one that the file has, at home
abbrev pub AreHome : FilesOf → Pages → Type 0
AreHome files pages = (p : ℕ) → IfSome (page_at pages p) (IsFiled files.first files.sizes)

-- each page that has a frame is told by its frame; where no page has it, what stands there says nothing
abbrev pub AreFramed : List (Option PageId) → Pages → Type 0
AreFramed by_frame pages = (p f : ℕ) → there_and (has_this_frame f) (page_at pages p) ≡ true → at by_frame f ≡ Some (record { 0 = p })

module _ {T : Type 0} where
  -- the numbers, what the pages own, the transfers, the groups' lists, the files, and of how many frames pages are told
  abbrev pub view_of : Slab T → List (Option OwnedPage) → Slab Flight → RingsOf → FilesOf → ℕ → PagesOf
  view_of numbers owned transfers members files frames = record {
    pages = map (option_map page_of) owned;
    bytes = map (option_map bytes_of) owned;
    numbers = numbers.capacity;
    flights = transfers.slots;
    tickets = transfers.capacity - slab_len transfers;
    groups = length members.lists;
    room = room_of members.room (length members.lists);
    files = files;
    frames = frames;
  }

  -- a number is taken exactly where a page owns something at its place, and there is memory for the place of each number;
  -- the transfers are those of the pages that are in transfer; the number of each page and of each transfer fits 32 bits;
  -- each page is on its group's list, which has a link for each number; and each page of a file is at home, and is found by its home
  pub record ArePages (numbers : Slab T) (owned : List (Option OwnedPage)) (places : ℕ) (transfers : Slab Flight) (members : RingsOf) (files : FilesOf) (cache : List (Option PageId)) : Type 0 where
    pub taken : (n : ℕ) → is_some (get numbers n) ≡ is_some (at owned n)
    pub within : numbers.capacity ≡ places
    pub in_flight : AreInFlight (map (option_map page_of) owned) transfers.slots
    pub few : numbers.capacity < 4294967296
    pub countable : transfers.capacity < 4294967296
    pub linked : members.numbers ≡ numbers.capacity
    pub listed : AreMembers members.lists (map (option_map page_of) owned)
    pub filed : AreHome files (map (option_map page_of) owned)
    pub cached : AreCached files cache (map (option_map page_of) owned)
    -- there is a place in the cache for each page of a file
    pub homes : length cache ≡ sum files.sizes

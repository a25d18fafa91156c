-- What pages own, and how the parts agree that keep it. No public clause cites it.
use Rattle.std.specs.Prelude.{◌≡◌, ℕ, ◌+◌, ◌<◌, ◌≤◌, ◌==◌, ◌&&◌, Bool, true, false, if◌then◌else◌, List, length, map, min, Option, option_map, Some, None, IfSome, sum}
use Rattle.machine.specs.Slots.{Changes, there_and, count_there}
use Rattle.machine.specs.Tree.{is_live}
use Rattle.machine.specs.Pages.{Residence, Going, Page, Pages, page_at, is_anon, is_number, block_at, charged, has_frame, has_this_frame, has_swap, is_in_transfer, in_transfer}
use Rattle.machine.specs.Lists.{ListsHeld}
use Rattle.counts.specs.Numbers.{times}
use Rattle.frames.specs.Pool.{PoolOf}
use Rattle.block_store.specs.Slots.{SlotsOf}
use Rattle.page_counter.specs.Counts.{Counts, usage_of}
use Rattle.pages.specs.declared.owned_page.OwnedPage.{OwnedPage}
use Rattle.pages.specs.declared.owned_page.Backing.{Backing}
use Rattle.pages.specs.declared.owned_page.Backing.TheVariants as backing
use Rattle.pages.specs.Records.{page_of}
use Rattle.page_state.specs.declared.parts.Parts.{Parts}

-- a page has this swap block
abbrev pub has_this_block : ℕ → Page → Bool
has_this_block b page = is_anon page.content && is_number (block_at page.residence) b

abbrev pub is_leaving_at : Residence → Bool
is_leaving_at (Going frame block ticket) = true
is_leaving_at residence = false

abbrev pub is_going : Page → Bool
is_going page = is_leaving_at page.residence

abbrev pub as_number : Bool → ℕ
as_number b = if b then 1 else 0

-- each of so many is free or a page's, once: `has` tells whether a page has one at all
pub record IsBalanced (this : ℕ → Page → Bool) (has : Page → Bool) (total : ℕ) (free : List ℕ) (pages : Pages) : Type 0 where
  pub once : (n : ℕ) → n < total → times free n + count_there (this n) pages ≡ 1
  pub none_beyond : (n : ℕ) → total ≤ n → times free n + count_there (this n) pages ≡ 0
  pub all : length free + count_there has pages ≡ total

-- the counters count the pages that have a frame, and each page is of a group that is there
pub record IsCounted (counters : Counts) (pages : Pages) : Type 0 where
  pub counts : (a : ℕ) → a < length counters.tree → usage_of counters a ≡ charged counters.tree pages a
  pub live : (p : ℕ) → IfSome (page_at pages p) (λ page. is_live counters.tree page.group ≡ true)

-- frames, swap blocks and charges are free or a page's
pub record AreKept (counters : Counts) (pool : PoolOf) (slots : SlotsOf) (pages : Pages) : Type 0 where
  pub frames : IsBalanced has_this_frame has_frame pool.frames pool.free pages
  pub blocks : IsBalanced has_this_block has_swap slots.blocks slots.free pages
  pub counted : IsCounted counters pages

-- these are the numbers of the pages that pass the test, each once
pub record AreListed (test : Page → Bool) (numbers : List ℕ) (pages : Pages) : Type 0 where
  pub once : (p : ℕ) → times numbers p ≡ as_number (there_and test (page_at pages p))
  pub len : length numbers ≡ count_there test pages

-- they agree
pub record PartsAgree (h : Parts) : Type 0 where
  pub kept : AreKept h.counters h.pool h.slots h.pages.pages
  pub few : h.pool.frames < 4294967296
  pub held : ListsHeld h.pages.pages h.held.lists
  pub moving : AreListed is_in_transfer h.moving.numbers h.pages.pages
  -- there is room in the queue for as many pages as there are frames
  pub moving_room : h.pool.frames ≤ h.moving.room
  -- each group has its lists and its pages, and each page number its links and its mark
  pub held_groups : length h.held.lists.groups ≡ length h.counters.tree
  pub page_groups : h.pages.groups ≡ length h.counters.tree
  -- a page can be told by each frame
  pub page_frames : h.pages.frames ≡ h.pool.frames
  pub held_numbers : h.held.numbers ≡ h.pages.numbers
  -- a page that is being written out has a spare, of as many as there can be: each has a frame, and a swap block or its home
  pub spares : h.pool.spares + count_there is_going h.pages.pages ≡ h.pool.most_spares
  pub most_spares : h.pool.most_spares ≡ min h.pool.frames (h.slots.blocks + sum h.pages.files.sizes)
  -- each page has a frame or a swap block, and may have a number
  pub numbers : h.pool.frames + h.slots.blocks ≤ h.pages.numbers
  -- home blocks stand behind the swap blocks
  pub homes : h.pages.files.first ≡ h.slots.blocks
  -- each frame may come to be in transfer
  pub tickets : h.pool.frames ≤ h.pages.tickets + in_transfer h.pages.pages

-- memory in transfer has a slot; a page of a file has none
abbrev pub has_slot : Backing → Bool
has_slot (backing.Swap slot) = true
has_slot (backing.Home block) = false

-- it has this slot
abbrev pub is_slot : Backing → ℕ → Bool
is_slot (backing.Swap slot) b = slot == b
is_slot (backing.Home block) b = false

-- the pages that own this, by number
abbrev pub pages_of : List (Option OwnedPage) → Pages
pages_of owned = map (option_map page_of) owned

-- a page stood in a table, and is gone from it
pub record Leaves (counters : Counts) (pool : PoolOf) (slots : SlotsOf) (page : Page) : Type 0 where
  pub pages : Pages
  pub rest : Pages
  pub p : ℕ
  pub stood : page_at pages p ≡ Some page
  pub gone : Changes pages rest p None
  pub kept : AreKept counters pool slots pages

-- what the page owned is given back
abbrev pub Releases : Page → Counts → PoolOf → SlotsOf → Counts → PoolOf → SlotsOf → Type 0
Releases page counters pool slots counters' pool' slots' =
    (pages rest : Pages) (p : ℕ) → page_at pages p ≡ Some page → Changes pages rest p None → AreKept counters pool slots pages → AreKept counters' pool' slots' rest

-- Examples: page tables, what an access meets, and which group has no room for it.
use Rattle.std.proofs.Common.{◌≡◌, true, false, [], ◌∷◌, Some, None, refl}
use Rattle.machine.specs.declared.config.Placement.TheVariants.{Own}
use Rattle.machine.specs.declared.event.Op.TheVariants.{Read, Write}
use Rattle.machine.specs.declared.event.Place.TheVariants.{Virtual}
use Rattle.machine.specs.Tree.{chain_up, chain, under_at}
use Rattle.machine.specs.Pages.{Held, Coming, Going, Away, used_frames, used_swap, home_block}
use Rattle.machine.specs.Counts.{over_at}
use Rattle.machine.specs.Tasks.{mapped_at, size_of, mappers}
use Rattle.machine.specs.State.{over_in}
use Rattle.machine.specs.Access.{is_place, Unmapped, Hits, Transferring, NeedsPage, NeedsCopy, NeedsSwapIn, Dangling, meets, charges}
use Rattle.machine.specs.Step.{still}
use Rattle.computed.proofs.ExampleStates.{shows, memory, of_file, pages, tables, opening, busy}

-- ---- page tables

-- what a place shows
mapped : mapped_at tables 2 2 ≡ Some 3
mapped = refl

-- an empty place shows nothing
mapped-empty : mapped_at tables 2 1 ≡ None
mapped-empty = refl

-- nor does one past the table's end
mapped-past_end : mapped_at tables 2 1000 ≡ None
mapped-past_end = refl

-- a task is as large as it has places that show something
sizes : size_of tables 2 ≡ 3
sizes = refl

-- a page that two tasks show has two mappers
mappers-shared : mappers tables 0 ≡ 2
mappers-shared = refl

-- a page that a task shows at two places counts twice, in its size too
mappers-twice : mappers ((shows 5 ∷ shows 5 ∷ []) ∷ []) 5 ≡ 2
mappers-twice = refl

-- ---- what stays when task 1 ends, and so shows nothing

-- page 0 stays, since task 2 shows it
stays-mapped : still ([] ∷ [] ∷ (shows 0 ∷ []) ∷ []) 0 (Some (memory 2 (Held 4))) ≡ Some (memory 2 (Held 4))
stays-mapped = refl

-- page 1 is gone, since nothing shows it
goes-unmapped : still ([] ∷ [] ∷ (shows 0 ∷ []) ∷ []) 1 (Some (memory 2 (Held 5))) ≡ None
goes-unmapped = refl

-- a page that is being read in stays
stays-coming : still [] 2 (Some (memory 2 (Coming 0 1 7))) ≡ Some (memory 2 (Coming 0 1 7))
stays-coming = refl

-- and so does one that is being written out
stays-going : still [] 3 (Some (memory 3 (Going 1 2 8))) ≡ Some (memory 3 (Going 1 2 8))
stays-going = refl

-- a file's page stays, which nothing maps
stays-file : still [] 5 (Some (of_file 2 false (Held 2))) ≡ Some (of_file 2 false (Held 2))
stays-file = refl

-- ---- frames and blocks

-- two pages are in frames, and two in transfer have one too
frames-used : used_frames pages ≡ 4
frames-used = refl

-- two pages in transfer have a block, and one is on its block
swap-used : used_swap pages ≡ 3
swap-used = refl

-- behind 8 swap blocks stand the 3 pages of file 0, then those of file 1
home : home_block 8 (3 ∷ 2 ∷ []) 1 1 ≡ 12
home = refl

-- ---- what an access meets

-- a task has 1,024 virtual pages of 4,096 bytes: this is the last byte
place-last : is_place opening (Virtual 1023 4095) ≡ true
place-last = refl

-- and this is none
place-page : is_place opening (Virtual 1024 0) ≡ false
place-page = refl

-- a page in a frame is hit: page 1 in frame 5
hits : meets busy 1 (Virtual 1 0) (Write 7) ≡ Hits 1 (memory 2 (Held 5)) 5
hits = refl

-- a read of a shared page is a hit too, in a frame that is charged to the other task's group
hits-shared : meets busy 2 (Virtual 0 0) Read ≡ Hits 0 (memory 2 (Held 4)) 4
hits-shared = refl

-- and a write to it wants a copy
copies : meets busy 2 (Virtual 0 0) (Write 7) ≡ NeedsCopy 0
copies = refl

-- nobody writes to a page that is being read in
waits-coming : meets busy 1 (Virtual 2 0) (Write 7) ≡ Transferring
waits-coming = refl

-- and nobody reads one that is being written out
waits-going : meets busy 2 (Virtual 2 0) Read ≡ Transferring
waits-going = refl

-- a page on its block has to be read in
swaps : meets busy 2 (Virtual 3 0) Read ≡ NeedsSwapIn 4 (memory 3 (Away 3)) 3
swaps = refl

-- a read where nothing is mapped needs no page
unmapped : meets busy 1 (Virtual 9 0) Read ≡ Unmapped
unmapped = refl

-- a write there does
needs_page : meets busy 1 (Virtual 9 0) (Write 7) ≡ NeedsPage 9
needs_page = refl

-- page 99 is not there
dangles : meets (record busy { page_tables = [] ∷ (shows 99 ∷ []) ∷ [] }) 1 (Virtual 0 0) (Write 7) ≡ Dangling
dangles = refl

-- ---- charges

-- a copy is charged to the group of the task that writes, and not to that of the page
charges-copy : charges Own (meets busy 2 (Virtual 0 0) (Write 7)) 3 ≡ Some 3
charges-copy = refl

-- a page that is read in is charged to its own group again, also for a task of another
charges-swap_in : charges Own (meets busy 2 (Virtual 3 0) Read) 5 ≡ Some 3
charges-swap_in = refl

-- both /p/a and /p are full: the lowest says so
over-lowest : over_in busy 2 ≡ Some 2
unfolding chain_up chain under_at over_at
over-lowest = refl

-- /p/b has no max, and its parent is full
over-parent : over_in busy 3 ≡ Some 1
unfolding chain_up chain under_at over_at
over-parent = refl

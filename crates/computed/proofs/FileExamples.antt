-- Examples: pages of files, which tasks of all groups share: what an access of one meets, who is charged for it, where it goes, and what is shown of it.
use Rattle.std.proofs.Common.{◌≡◌, ℕ, zero, suc, Bool, true, false, [], ◌∷◌, Option, Some, None, refl, ap, ◌∙◌, arith}
use Rattle.machine.specs.declared.config.Placement.TheVariants.{Own}
use Rattle.machine.specs.declared.event.Op.{Op}
use Rattle.machine.specs.declared.event.Op.TheVariants.{Read, Write}
use Rattle.machine.specs.declared.event.Place.TheVariants.{File}
use Rattle.machine.specs.declared.event.Query.TheVariants as query
use Rattle.machine.specs.declared.event.Event.{Event}
use Rattle.machine.specs.declared.event.Event.TheVariants as event
use Rattle.machine.specs.declared.id.FrameId.{FrameId}
use Rattle.machine.specs.declared.record.Life.TheVariants.{Live}
use Rattle.machine.specs.declared.reply.Reply.{Reply}
use Rattle.machine.specs.declared.reply.Reply.TheVariants as reply
use Rattle.machine.specs.declared.reply.Shown.TheVariants as shown
use Rattle.machine.specs.declared.refusal.Refusal.TheVariants.{BadPlace}
use Rattle.machine.specs.Tree.{chain_up, chain, under_at, chain_below}
use Rattle.machine.specs.Protection.{effective_along}
use Rattle.machine.specs.Pages.{OfFile, Residence, Held, Coming, Going, Away, Page, Pages, page_at, file_page, used_frames, used_swap, IsFiled}
use Rattle.machine.specs.Counts.{no_limits, over_at, no_counts}
use Rattle.machine.specs.Tasks.{task_of}
use Rattle.machine.specs.State.{State, usage, stat_of, is_swap_free}
use Rattle.machine.specs.Access.{is_place, Hits, Transferring, NeedsRead, Dangling, meets, charges, is_fetch}
use Rattle.machine.specs.Refusals.{refusal}
use Rattle.machine.specs.Reclaim.{is_takeable, has_takeable}
use Rattle.machine.specs.Call.{need}
use Rattle.machine.specs.Lists.{shown_at, is_in_bits}
use Rattle.machine.specs.Step.{in_frame, on_block, touched, shown_of, LeavesFrom, Step}
use Rattle.machine.proofs.Values.{some_inj}
use Rattle.page_lists.proofs.TakeableLemmas.{next-takeable}
use Rattle.computed.proofs.ExampleStates.{group, task, frame, shows, tree, max_of, single, memory, opening}
use Rattle.std.specs.Prelude.{replicate}

-- ---- a state

-- a page of a file, charged to a group
abbrev pub cached : ℕ → ℕ → ℕ → Bool → Residence → Page
cached f q g dirty residence = record { content = OfFile f q; group = g; dirty = dirty; residence = residence }

-- page 0 of /p/a is memory. Page 1, of /p/a, has page 1 of file 0, clean, in frame 1; page 2, of /p/b, page 0 of file 1, dirty, in frame 2. Into frame 3 comes page 2 of file 0, for /p/b,
-- from its home, and from frame 4 goes page 1 of file 1, of /p/a, to its home
abbrev pub kept : Pages
kept =
    Some (memory 2 (Held 0)) ∷ Some (cached 0 1 2 false (Held 1)) ∷ Some (cached 1 0 3 true (Held 2)) ∷ Some (cached 0 2 3 false (Coming 3 6 7)) ∷ Some (cached 1 1 2 true (Going 4 8 9))
    ∷ []

-- 6 frames, 4 swap blocks, and two files of 3 pages. Task 1 is of /p/a, and task 2 of /p/b
abbrev pub caching : State
caching = record {
  opening = record opening { files = 3 ∷ 3 ∷ [] };
  tree = tree;
  limits = [];
  flags = single 6;
  pages = kept;
  tasks = None ∷ Some (task_of 2 Live) ∷ Some (task_of 3 Live) ∷ [];
  page_tables = [] ∷ (shows 0 ∷ []) ∷ [];
  counted = replicate 6 no_counts;
}

abbrev at_file : ℕ → ℕ → ℕ → Op → Event
at_file t f q op = event.Access (task t) (File f q 5) op

-- ---- which page it is

-- page 1 of file 0 and page 1 of file 1 are two
found : file_page kept 0 1 ≡ Some 1
found = refl

found-of_other : file_page kept 1 1 ≡ Some 4
found-of_other = refl

-- no page holds page 0 of file 0: page 0 is memory
found-none : file_page kept 0 0 ≡ None
found-none = refl

-- a page of a file in transfer has a frame
frames : used_frames kept ≡ 5
frames = refl

-- but no swap block: home blocks are none
no_swap : used_swap kept ≡ 0
no_swap = refl

-- ---- what belongs where

-- a page that is read in comes from the home of the page that it holds: behind 4 swap blocks, and the 2 pages before it
filed-coming : IsFiled 4 (3 ∷ 3 ∷ []) (cached 0 2 3 false (Coming 3 6 7))
filed-coming = (omega arith, refl)

-- and from no other block
filed-not_elsewhere : IsFiled 4 (3 ∷ 3 ∷ []) (cached 0 2 3 false (Coming 3 5 7)) → ⊥
filed-not_elsewhere is = absurd (let home = is.1 in omega (arith, home))

-- no clean page is written out
filed-not_clean : IsFiled 4 (3 ∷ 3 ∷ []) (cached 1 1 2 false (Going 4 8 9)) → ⊥
filed-not_clean is = let e : false ≡ true = is.1.1 in cc

-- file 0 has no page 3
filed-not_past_end : IsFiled 4 (3 ∷ 3 ∷ []) (cached 0 3 3 false (Held 3)) → ⊥
filed-not_past_end is = absurd (let within = is.0 in omega (arith, within))

-- a page of a file without a frame has no record
filed-not_away : IsFiled 4 (3 ∷ 3 ∷ []) (cached 0 2 3 false (Away 6)) → ⊥
filed-not_away is = is.1

-- and memory is not dirty
filed-not_dirty : IsFiled 4 (3 ∷ 3 ∷ []) (record (memory 2 (Held 0)) { dirty = true }) → ⊥
filed-not_dirty is = let e : true ≡ false = is in cc

-- ---- places

-- the last byte of the last page of the last file
place-last : is_place caching.opening (File 1 2 4095) ≡ true
place-last = refl

-- the page behind it
place-page : is_place caching.opening (File 1 3 0) ≡ false
place-page = refl

-- the byte behind it
place-offset : is_place caching.opening (File 1 2 4096) ≡ false
place-offset = refl

-- and a file that there is not
place-file : refusal caching (event.Access (task 1) (File 2 0 0) Read) ≡ Some BadPlace
place-file = refl

-- a page of a file is there for every task
place-any : refusal caching (event.Access (task 2) (File 0 1 0) (Write 7)) ≡ None
place-any = refl

-- ---- what an access meets

-- a page that has no record has to be read in
reads : meets caching 1 (File 0 0 5) Read ≡ NeedsRead 0 0
reads = refl

-- also for a write to one of its bytes: a page of zeros would not do
reads-to_write : meets caching 1 (File 0 0 5) (Write 7) ≡ NeedsRead 0 0
reads-to_write = refl

-- a page in its frame is hit, by a task of another group too
hits : meets caching 2 (File 0 1 5) Read ≡ Hits 1 (cached 0 1 2 false (Held 1)) 1
hits = refl

-- and written in place: no group has a copy of its own
hits-write : meets caching 2 (File 0 1 5) (Write 7) ≡ Hits 1 (cached 0 1 2 false (Held 1)) 1
hits-write = refl

-- nobody reads a page that is being read in
waits-coming : meets caching 1 (File 0 2 5) Read ≡ Transferring
waits-coming = refl

-- nor writes to one that is being written out
waits-going : meets caching 1 (File 1 1 5) (Write 7) ≡ Transferring
waits-going = refl

-- a page of a file on its block alone is none of a legal state
dangles : meets (record caching { pages = Some (cached 0 0 2 false (Away 4)) ∷ [] }) 1 (File 0 0 5) Read ≡ Dangling
dangles = refl

-- ---- charges

-- who reads it in pays for it
charges-reader : charges Own (meets caching 2 (File 0 0 5) Read) 3 ≡ Some 3
charges-reader = refl

-- and who hits it pays nothing
charges-hit : charges Own (meets caching 2 (File 0 1 5) Read) 3 ≡ None
charges-hit = refl

-- it is a transfer that begins, and so needs two entries
fetches : is_fetch (meets caching 1 (File 0 0 5) (Write 7)) ≡ true
fetches = refl

needs_two : need caching (at_file 1 0 0 Read) ≡ 2
unfolding chain_up chain under_at over_at
needs_two = refl

-- where /p/b is full, its task gets no page of a file
over-own : (answer : Reply) (new : State) → Step (record caching { limits = no_limits ∷ no_limits ∷ no_limits ∷ max_of 2 ∷ [] }) (at_file 2 0 0 Read) answer new → answer ≡ reply.Over (group 3)
unfolding chain_up chain under_at over_at
over-own answer new step = step.0

-- but one that is there it reads
over-not_hit : (b : ℕ) → Step (record caching { limits = no_limits ∷ no_limits ∷ no_limits ∷ max_of 2 ∷ [] }) (at_file 2 0 1 Read) (reply.Done b (Some (frame 1))) (record caching { limits = no_limits ∷ no_limits ∷ no_limits ∷ max_of 2 ∷ [] })
over-not_hit b = (refl, refl)

-- ---- steps

-- a read of a page that has no record begins to read it in, clean, from its home, under a number that was free; and for the reader's group
fetch-home : (answer : Reply) (new : State) → Step caching (at_file 2 1 2 Read) answer new
    → (p f n : ℕ) × (page_at caching.pages p ≡ None) × (page_at new.pages p ≡ Some (cached 1 2 3 false (Coming f 9 n))) × (answer ≡ reply.Fetch (record { 0 = n }))
unfolding chain_up chain under_at over_at
fetch-home answer new step = (step.page, step.fetch.frame, step.fetch.ticket, step.slot_free, step.fetch.placed.changed, step.fetch.answers)

-- and so does a write, which is tried again when the page is there
fetch-write : (answer : Reply) (new : State) → Step caching (at_file 1 0 0 (Write 7)) answer new
    → (p f n : ℕ) × (page_at caching.pages p ≡ None) × (page_at new.pages p ≡ Some (cached 0 0 2 false (Coming f 4 n))) × (answer ≡ reply.Fetch (record { 0 = n }))
unfolding chain_up chain under_at over_at
fetch-write answer new step = (step.page, step.fetch.frame, step.fetch.ticket, step.slot_free, step.fetch.placed.changed, step.fetch.answers)

-- a read that hits changes nothing, whoever reads: the page stays /p/a's
hit-same : (answer : Reply) (new : State) → Step caching (at_file 2 0 1 Read) answer new → new ≡ caching
hit-same (reply.Done byte hit) new step = step.1
hit-same answer new step = absurd step

-- a write makes the page dirty, where it was clean, and it stays /p/a's
hit-dirty : (answer : Reply) (new : State) → Step caching (at_file 2 0 1 (Write 7)) answer new → page_at new.pages 1 ≡ Some (cached 0 1 2 true (Held 1))
hit-dirty (reply.Done byte hit) new step = step.2.changed
hit-dirty answer new step = absurd step

-- and gives its byte and the frame
hit-gives : (b : ℕ) (hit : Option FrameId) (new : State) → Step caching (at_file 2 0 1 (Write 7)) (reply.Done b hit) new → (b ≡ 7) × (hit ≡ Some (frame 1))
hit-gives b hit new step = (step.0, step.1)

-- a write to memory leaves it clean
touched-memory : touched (memory 2 (Held 0)) (Write 7) ≡ memory 2 (Held 0)
touched-memory = refl

-- a read leaves a dirty page dirty, and a clean one clean
touched-read : touched (cached 1 0 3 true (Held 2)) Read ≡ cached 1 0 3 true (Held 2)
touched-read = refl

-- the page that a place of a file shows has that page of that file
shown-page : shown_at caching 1 (File 0 1 5) ≡ Some 1
shown-page = refl

-- and is the same one for each task
shown-same : shown_at caching 1 (File 0 1 0) ≡ shown_at caching 2 (File 0 1 4095)
shown-same = refl

-- where no page has it, none is shown
shown-none : shown_at caching 1 (File 0 0 0) ≡ None
shown-none = refl

-- a page of a file is marked by the bit of its frame
in_bits-file : is_in_bits 0 2 (cached 0 1 2 false (Held 1)) ≡ true
in_bits-file = refl

-- but not by that of a frame into which it is being read
in_bits-not_coming : is_in_bits 0 8 (cached 0 2 3 false (Coming 3 6 7)) ≡ false
in_bits-not_coming = refl

-- ---- reclaim

-- no swap block is free, since there is none
abbrev swapless : State
swapless = record caching { opening = record caching.opening { swap = 0 } }

-- memory has nowhere to go
takeable-memory : is_takeable swapless 0 (memory 2 (Held 0)) ≡ false
unfolding chain_up chain under_at chain_below effective_along
takeable-memory = refl

-- a page of a file has: to its home, or away
takeable-file : is_takeable swapless 0 (cached 0 1 2 false (Held 1)) ≡ true
unfolding chain_up chain under_at chain_below effective_along
takeable-file = refl

-- but none that is in transfer
takeable-not_moving : is_takeable swapless 0 (cached 0 2 3 false (Coming 3 6 7)) ≡ false
takeable-not_moving = refl

-- a clean page is dropped, and its record goes
drops : (answer : Reply) (new : State) → LeavesFrom caching 1 (cached 0 1 2 false (Held 1)) (Held 1) [] answer new → (answer ≡ reply.Dropped) × (page_at new.pages 1 ≡ None)
drops answer new h = (h.answers, h.gone.changed)

-- a dirty one is written to its home, and is dirty still
sends : (answer : Reply) (new : State) → LeavesFrom caching 2 (cached 1 0 3 true (Held 2)) (Held 2) [] answer new → (n : ℕ) × (answer ≡ reply.Out (record { 0 = n })) × (page_at new.pages 2 ≡ Some (cached 1 0 3 true (Going 2 7 n)))
sends answer new h = (h.ticket, h.answers, h.placed.changed)

-- of the pages of /p/b the dirty one alone can be taken
only_dirty : (p : ℕ) (page : Page) → page_at kept p ≡ Some page → is_takeable swapless 3 page ≡ true → p ≡ 2
unfolding chain_up chain under_at chain_below effective_along
only_dirty zero page there takeable = absurd (let e : false ≡ true = ap (is_takeable swapless 3) (some_inj there) ∙ takeable in cc)
only_dirty (suc zero) page there takeable = absurd (let e : false ≡ true = ap (is_takeable swapless 3) (some_inj there) ∙ takeable in cc)
only_dirty (suc (suc zero)) page there takeable = refl
only_dirty (suc (suc (suc zero))) page there takeable = absurd (let e : false ≡ true = ap (is_takeable swapless 3) (some_inj there) ∙ takeable in cc)
only_dirty (suc (suc (suc (suc zero)))) page there takeable = absurd (let e : false ≡ true = ap (is_takeable swapless 3) (some_inj there) ∙ takeable in cc)
only_dirty (suc (suc (suc (suc (suc p))))) page there takeable = cc

-- so a reclaim of /p/b takes it, though no swap block is free
takes-dirty : is_swap_free swapless ≡ false
takes-dirty = refl

takes-some : has_takeable swapless 3 ≡ true
unfolding chain_up chain under_at chain_below effective_along
takes-some = refl

takes-number : (answer : Reply) (new : State) → Step swapless (event.ReclaimOne (group 3)) answer new → (p : ℕ) × (page : Page) × (page_at kept p ≡ Some page) × (p ≡ 2)
unfolding chain_up chain under_at chain_below effective_along
takes-number answer new step = (step.p, step.page, step.there, only_dirty step.p step.page step.there (next-takeable swapless 3 step.page step.next))

-- ---- ends of transfers

-- a page that was read in stands in its frame, clean, though nothing maps it
ends-arrived : in_frame [] 3 (cached 0 2 3 false (Coming 3 6 7)) 3 6 ≡ Some (cached 0 2 3 false (Held 3))
ends-arrived = refl

-- one that could not be read has no record
ends-failed : on_block [] 3 (cached 0 2 3 false (Coming 3 6 7)) 3 6 ≡ None
ends-failed = refl

-- and neither has one that was written out
ends-left : on_block [] 4 (cached 1 1 2 true (Going 4 8 9)) 4 8 ≡ None
ends-left = refl

-- but one that could not be written stays, dirty
ends-kept : in_frame [] 4 (cached 1 1 2 true (Going 4 8 9)) 4 8 ≡ Some (cached 1 1 2 true (Held 4))
ends-kept = refl

-- ---- `memory.stat`

-- /p/a has a page of memory, and two of files: one is being written out
stat : stat_of caching 2 ≡ record { anon = 1; file = 2 }
unfolding chain_up chain under_at
stat = refl

-- /p/b has two of files, one of which is being read in
stat-files : shown_of caching (query.Stat (group 3)) ≡ shown.Stat (record { anon = 0; file = 2 })
unfolding chain_up chain under_at
stat-files = refl

-- /p has what both have
stat-parent : stat_of caching 1 ≡ record { anon = 1; file = 4 }
unfolding chain_up chain under_at
stat-parent = refl

-- and both numbers are what `memory.current` has
stat-all : usage caching 1 ≡ 5
unfolding chain_up chain under_at
stat-all = refl

-- a page on its swap block is charged to nobody
stat-away : stat_of (record caching { pages = Some (memory 2 (Away 0)) ∷ Some (cached 0 0 2 true (Held 0)) ∷ [] }) 2 ≡ record { anon = 0; file = 1 }
unfolding chain_up chain under_at
stat-away = refl

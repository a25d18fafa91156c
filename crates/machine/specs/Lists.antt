-- The pages that are held, in generation lists by group, and the page that a reclaim takes of them (mm/vmscan.c: shrink_node_memcgs; mm/multigen_lru).
use Rattle.std.specs.Prelude.{◌≡◌, ℕ, ◌+◌, ◌-◌, ◌/◌, ◌%◌, ◌==◌, ◌&&◌, ◌||◌, not, nat_le, nat_lt, Bool, true, false, if◌then◌else◌, List, [], ◌∷◌, ◌++◌, length, map, filter, replicate, slice_index_or, slice_set, Option, Some, None}
use Rattle.std.specs.Int.{bit_at}
use Rattle.machine.specs.declared.config.Placement.{Placement}
use Rattle.machine.specs.declared.config.Placement.TheVariants.{Own, Linux}
use Rattle.machine.specs.declared.record.Direction.{Direction}
use Rattle.machine.specs.declared.record.Direction.TheVariants.{In, Out}
use Rattle.machine.specs.declared.record.Kind.{Kind}
use Rattle.machine.specs.declared.record.Kind.TheVariants.{Anon, File}
use Rattle.machine.specs.declared.event.Goal.{Goal}
use Rattle.machine.specs.declared.event.Goal.TheVariants.{Amount}
use Rattle.machine.specs.declared.event.Place.{Place}
use Rattle.machine.specs.declared.event.Place.TheVariants as place
use Rattle.machine.specs.declared.event.Event.{Event}
use Rattle.machine.specs.declared.event.Event.TheVariants as event
use Rattle.machine.specs.declared.reply.Reply.{Reply}
use Rattle.machine.specs.declared.reply.Reply.TheVariants as reply
use Rattle.machine.specs.Slots.{there_and, any_there}
use Rattle.machine.specs.Pages.{Content, Memory, OfFile, Residence, Held, Page, Pages, page_at, is_anon, is_held, is_held_in, is_number, file_page}
use Rattle.machine.specs.Tasks.{mapped_at}
use Rattle.machine.specs.Order.{Cursor, no_cursor, cursor_at, heeds_age, takes_parts, served_first, cursor_after}
use Rattle.machine.specs.State.{Opening, State, page_numbers, usage, is_swap_free}
use Rattle.machine.specs.Tree.{node_at}
use Rattle.machine.specs.Reclaim.{is_next, target_of, goal_of}
use Rattle.machine.specs.Generations.{Row, Gens, of_kind, row_of, has_page, new_gens, added, gens_at, with_gens, handed_over, IsGens}
use Rattle.machine.specs.Aging.{Seen, is_marked}
use Rattle.machine.specs.Eviction.{has_old_file, Picks}

-- the pages in frames that are in no transfer: by group number the generation lists that they are on; and by page number whether a page is marked as accessed, and where it isn't, how many
-- of the hits that it takes have come
pub record HeldLists : Type 0 where
  pub groups : List Gens
  pub marks : List Bool
  pub hits : List ℕ

abbrev pub hits_at : List ℕ → ℕ → ℕ
hits_at hits p = slice_index_or hits p 0

-- these; and by target whose turn it is
pub record Order : Type 0 where
  pub held : HeldLists
  pub cursors : List Cursor

-- the root without a page; a page number for each frame and each swap block, none of them marked or hit; and the root for which no group was served
abbrev pub first_order : Opening → Order
first_order opening =
    record { held = record { groups = new_gens ∷ []; marks = replicate (page_numbers opening) false; hits = replicate (page_numbers opening) 0 }; cursors = no_cursor ∷ [] }

-- ---- the group and the page

-- a page of the group may be taken now for the target
abbrev pub is_next_of : State → ℕ → ℕ → Page → Bool
is_next_of s target g page = (page.group == g) && is_next s target page

abbrev pub gives : State → ℕ → ℕ → Bool
gives s target g = any_there (is_next_of s target g) s.pages

-- the lists of one group, beside the marks
abbrev pub seen_of : HeldLists → ℕ → Seen
seen_of held g = record { gens = gens_at held.groups g; marks = held.marks }

-- it has a page to give, and an old page of a file. (Excludes a group that is protected, and yet asked for its old file.)
abbrev pub gives_old : State → HeldLists → ℕ → ℕ → Bool
gives_old s held target g = gives s target g && has_old_file (seen_of held g)

-- the group that gives a page to a reclaim of the target
abbrev pub served : State → Order → Goal → ℕ → Option ℕ
served s order goal target =
    served_first (heeds_age s.opening.placement goal target) (takes_parts s.opening.placement goal) s.tree (gives_old s order.held target) (gives s target) target (cursor_at order.cursors target)

-- whose turn it is for the target, once this group has given it a page. A group's size is what is charged to it and below it, its memory.current
abbrev pub cursor_served : State → Order → Goal → ℕ → ℕ → Cursor
cursor_served s order goal target g = cursor_after (takes_parts s.opening.placement goal) s.tree (gives s target) (usage s) target (cursor_at order.cursors target) g

-- one group has other lists, and there are other marks
abbrev pub with_seen : HeldLists → ℕ → Seen → HeldLists
with_seen held g seen = record { groups = with_gens held.groups g seen.gens; marks = seen.marks; hits = held.hits }

-- the page of the group that is evicted next, and the lists after the search for it. (Excludes a search that ages the lists of other groups, or of the target.)
pub record PicksOf (swap_free : Bool) (held : HeldLists) (g : ℕ) (answer : Option ℕ) (held' : HeldLists) : Type 0 where
  pub seen : Seen
  pub picks : Picks swap_free (seen_of held g) answer seen
  pub lists : held' ≡ with_seen held g seen

-- ---- which pages are listed

-- by what a page holds, the type of the lists that it is on
abbrev pub kind_at : Content → Kind
kind_at Memory = Anon
kind_at (OfFile file page) = File

-- the page is held, is of this group, and of this type
abbrev pub is_held_of : ℕ → Kind → Page → Bool
is_held_of g kind page = is_held page && ((page.group == g) && of_kind kind (is_anon page.content) (not (is_anon page.content)))

-- each page that is held is in the row of its group and type, and no other page is there; and no page is marked, or has a hit that counts, but one that is held
pub record ListsHeld (pages : Pages) (held : HeldLists) : Type 0 where
  pub rows : (g : ℕ) (kind : Kind) (p : ℕ) → has_page p (row_of kind (gens_at held.groups g)).pages ≡ there_and (is_held_of g kind) (page_at pages p)
  pub marked : (p : ℕ) → is_marked held.marks p ≡ true → is_held_in pages p ≡ true
  pub counted : (p : ℕ) → is_held_in pages p ≡ false → hits_at held.hits p ≡ 0

-- each group's lists are sound: two to four generations of a type, by rising number, and no page twice
abbrev pub AreGenerations : HeldLists → Type 0
AreGenerations held = (g : ℕ) → IsGens (gens_at held.groups g)

-- ---- how the lists go on

-- held from now on
abbrev pub is_fresh : Pages → Pages → ℕ → Bool
is_fresh before after p = is_held_in after p && not (is_held_in before p)

-- the lists without the pages that are held no more. The others keep their places
abbrev pub kept_row : Pages → Row → Row
kept_row after row = record { min_seq = row.min_seq; pages = filter (λ l. is_held_in after l.page) row.pages }

abbrev pub kept_gens : Pages → Gens → Gens
kept_gens after gens = record { max_seq = gens.max_seq; anon = kept_row after gens.anon; file = kept_row after gens.file }

-- a generation that pages enter. By type memory enters the youngest, and a page of a file the second oldest
pub data Generation : Type 0 where
  Youngest : Generation
  SecondYoungest : Generation
  ByType : Generation

-- the second oldest generation, where it is none of the two youngest, and else the oldest (kernel: lru_gen_add_folio, lru_gen_is_active)
abbrev pub second_oldest : ℕ → ℕ → ℕ
second_oldest max_seq min_seq = if nat_lt (min_seq + 2) max_seq then min_seq + 1 else min_seq

abbrev pub seq_in : Generation → Kind → Gens → ℕ
seq_in Youngest kind gens = gens.max_seq
seq_in SecondYoungest kind gens = gens.max_seq - 1
seq_in ByType Anon gens = gens.max_seq
seq_in ByType File gens = second_oldest gens.max_seq gens.file.min_seq

-- where a page enters that was read in. (Excludes a page of a file among memory that came from swap.)
abbrev pub entry_in : Placement → Generation
entry_in Own = SecondYoungest
entry_in Linux = ByType

-- where a page enters whose transfer ends in its frame. (Excludes a page that was read in among those that were made, and one that failed to leave among those read in.)
abbrev pub entry_after : Placement → Direction → Generation
entry_after placement In = entry_in placement
entry_after placement Out = Youngest

-- where the page enters that an event brings to be held: one that is made or copied the youngest generation. A read-in that fails brings none
abbrev pub generation_for : Placement → Event → Generation
generation_for placement (event.Arrived ticket bytes) = entry_after placement In
generation_for placement (event.FetchFailed ticket) = entry_after placement In
generation_for placement what = Youngest

-- a page enters a generation of its group and type, behind those that are there
abbrev pub with_page : Generation → ℕ → Option Page → List Gens → List Gens
with_page generation p None groups = groups
with_page generation p (Some page) groups =
    with_gens groups page.group (added p (kind_at page.content) (seq_in generation (kind_at page.content) (gens_at groups page.group)) (gens_at groups page.group))

abbrev pub with_fresh : Generation → Pages → Option ℕ → List Gens → List Gens
with_fresh generation after None groups = groups
with_fresh generation after (Some p) groups = with_page generation p (page_at after p) groups

-- with its read-in a page has one hit, as Linux places pages. (Excludes a read-in that counts twice, with the access that it was for.)
abbrev pub hits_at_entry : Generation → ℕ
hits_at_entry ByType = 1
hits_at_entry generation = 0

-- a page that was held, or not, and is, or not, has so many hits if it had these
abbrev pub hits_kept : Generation → Bool → Bool → ℕ → ℕ
hits_kept generation was false hits = 0
hits_kept generation true true hits = hits
hits_kept generation false true hits = hits_at_entry generation

-- the pages change: what is held no more leaves its list, and all others stay where they stood; what is held from now on, one page at most, enters this generation; and no page
-- keeps its mark or its hits but those that stay. (Excludes a page that comes marked, a mark that its page leaves behind, and a count that goes on in the next page of the frame.)
pub record GoesOn (generation : Generation) (before : Pages) (held : HeldLists) (after : Pages) (held' : HeldLists) : Type 0 where
  pub fresh : Option ℕ
  pub which : (p : ℕ) → is_number fresh p ≡ is_fresh before after p
  pub groups : held'.groups ≡ with_fresh generation after fresh (map (kept_gens after) held.groups)
  pub size : length held'.marks ≡ length held.marks
  pub marks : (p : ℕ) → is_marked held'.marks p ≡ (is_held_in before p && is_held_in after p && is_marked held.marks p)
  pub counts : length held'.hits ≡ length held.hits
  pub hits : (p : ℕ) → hits_at held'.hits p ≡ hits_kept generation (is_held_in before p) (is_held_in after p) (hits_at held.hits p)

-- the page that a place shows: of a task's memory, or of a file
abbrev pub shown_at : State → ℕ → Place → Option ℕ
shown_at s t (place.Virtual v offset) = mapped_at s.page_tables t v
shown_at s t (place.File file q offset) = file_page s.pages file q

-- ---- marks that come by frame

-- the bit of a frame is set among the bits of this word. (Excludes the bits of one word read as another's.)
abbrev pub has_bit : ℕ → ℕ → ℕ → Bool
has_bit word bits frame = (frame / 64 == word) && (bit_at bits (frame % 64) == 1)

-- a page is held in a frame whose bit is set
abbrev pub is_in_bits_at : ℕ → ℕ → Residence → Bool
is_in_bits_at word bits (Held frame) = has_bit word bits frame
is_in_bits_at word bits residence = false

abbrev pub is_in_bits : ℕ → ℕ → Page → Bool
is_in_bits word bits page = is_in_bits_at word bits page.residence

-- how many hits mark a page: as Linux places pages, five of a page of a file; else the first does. (kernel: sort_folio, BIT(LRU_REFS_WIDTH). Excludes a file that four reads keep, and
-- memory that wants five.)
abbrev pub hits_to_mark : Placement → Kind → ℕ
hits_to_mark Linux File = 5
hits_to_mark placement kind = 1

-- after so many hits, this one marks a page of this type
abbrev pub is_last_hit : Placement → Kind → ℕ → Bool
is_last_hit placement kind hits = nat_le (hits_to_mark placement kind) (hits + 1)

-- the hit counts where the page isn't marked, and the one that marks it ends the count. (Excludes a page that is marked again by its next hit, once it has lost its mark.)
abbrev pub hits_after : Placement → Kind → Bool → ℕ → ℕ
hits_after placement kind true hits = hits
hits_after placement kind false hits = if is_last_hit placement kind hits then 0 else hits + 1

-- what is there at a page's number passes the test, and after so many hits this one marks it
abbrev pub is_marking : Placement → (Page → Bool) → ℕ → Option Page → Bool
is_marking placement test hits None = false
is_marking placement test hits (Some page) = test page && is_last_hit placement (kind_at page.content) hits

abbrev pub hits_with : Placement → (Page → Bool) → Bool → ℕ → Option Page → ℕ
hits_with placement test marked hits None = hits
hits_with placement test marked hits (Some page) = if test page then hits_after placement (kind_at page.content) marked hits else hits

-- the pages that pass the test are hit, and nothing else changes. (Excludes a mark that is lost.)
pub record HitsThose (placement : Placement) (test : Page → Bool) (pages : Pages) (held held' : HeldLists) : Type 0 where
  pub groups : held'.groups ≡ held.groups
  pub size : length held'.marks ≡ length held.marks
  pub marks : (p : ℕ) → is_marked held'.marks p ≡ (is_marked held.marks p || is_marking placement test (hits_at held.hits p) (page_at pages p))
  pub counts : length held'.hits ≡ length held.hits
  pub hits : (p : ℕ) → hits_at held'.hits p ≡ hits_with placement test (is_marked held.marks p) (hits_at held.hits p) (page_at pages p)

-- the pages held in the frames of these bits are hit. (Excludes a page in transfer that is marked, and a mark for the page that had the frame before.)
abbrev pub MergesMarks : Placement → Pages → ℕ → ℕ → HeldLists → HeldLists → Type 0
MergesMarks placement pages word bits held held' = HitsThose placement (is_in_bits word bits) pages held held'

-- a group more, with no page
abbrev pub with_group : HeldLists → HeldLists
with_group held = record { groups = held.groups ++ new_gens ∷ []; marks = held.marks; hits = held.hits }

-- ---- how the order goes on

-- of the group that is served the page that is evicted next is held no more, and the target's cursor names the group. (Excludes one cursor for all targets, and the page of a group taken out of its turn.)
pub record TakesNext (old : State) (order : Order) (goal : Goal) (target : ℕ) (new : State) (order' : Order) : Type 0 where
  pub g : ℕ
  pub next : served old order goal target ≡ Some g
  pub p : ℕ
  pub looked : HeldLists
  pub picked : PicksOf (is_swap_free old) order.held g (Some p) looked
  pub was : is_held_in old.pages p ≡ true
  pub taken : is_held_in new.pages p ≡ false
  pub leaves : GoesOn Youngest old.pages looked new.pages order'.held
  pub moves : order'.cursors ≡ slice_set order.cursors target (cursor_served old order goal target g)

-- a group more, with a cursor of its own
abbrev pub AddsLists : Order → Order → Type 0
AddsLists order order' = order' ≡ record { held = with_group order.held; cursors = order.cursors ++ no_cursor ∷ [] }

-- the pages of a group that goes are on its parent's lists, marked and hit as they were; which group was served last for it as a target is forgotten, and no other cursor moves: one that names
-- the group is as if none was served. (Excludes pages that lose their marks on the way.)
abbrev pub RemovesLists : Option ℕ → ℕ → Order → Order → Type 0
RemovesLists None g order order' = ⊥
RemovesLists (Some parent) g order order' = order' ≡ record { held = record { groups = handed_over g parent order.held.groups; marks = order.held.marks; hits = order.held.hits }; cursors = slice_set order.cursors g no_cursor }

-- no list is aged, no page is marked, and no cursor moves. (Excludes lists that age though no page is taken, and an access that marks what it used.)
abbrev pub Keeps : State → Order → Event → Reply → State → Order → Type 0
Keeps old order what answer new order' = GoesOn (generation_for old.opening.placement what) old.pages order.held new.pages order'.held × (order'.cursors ≡ order.cursors)

-- only a page that is taken ages lists and moves a cursor, and only marks that are merged mark pages
abbrev pub Orders : State → Order → Event → Reply → State → Order → Type 0
Orders old order (event.Relieve cause) (reply.Out ticket) new order' = TakesNext old order (goal_of cause) (target_of cause) new order'
Orders old order (event.Relieve cause) reply.Dropped new order' = TakesNext old order (goal_of cause) (target_of cause) new order'
Orders old order (event.ReclaimOne g) (reply.Out ticket) new order' = TakesNext old order Amount g.0 new order'
Orders old order (event.ReclaimOne g) reply.Dropped new order' = TakesNext old order Amount g.0 new order'
Orders old order (event.Rmdir g) answer new order' = RemovesLists (node_at old.tree g.0).parent g.0 order order'
Orders old order (event.Mkdir path) answer new order' = AddsLists order order'
Orders old order (event.MergeMarks word bits) answer new order' = MergesMarks old.opening.placement old.pages word bits order.held order'.held × (order'.cursors ≡ order.cursors)
Orders old order what answer new order' = Keeps old order what answer new order'

-- What an event that is not refused may answer, and the state after it. By cases on the event, then on the state, then on the reply.
-- Free are only: which of the pages that may be taken now is taken, and which free frame, swap block, page number and ticket number is used; and the byte that a read gives,
-- which the history says (IsRight). With those given, nothing else that a look-up in a table can see is free.
use Rattle.std.specs.Prelude.{◌≡◌, ℕ, ◌<◌, ◌==◌, ◌&&◌, ◌||◌, not, Bool, true, false, MatchBool, if◌then◌else◌, List, [], ◌∷◌, ◌++◌, slice_set, Option, Some, None, option_map}
use Rattle.machine.specs.declared.record.Key.TheVariants as key
use Rattle.machine.specs.declared.record.Life.{Life}
use Rattle.machine.specs.declared.record.Life.TheVariants.{Live, Exited, Killed}
use Rattle.machine.specs.declared.record.Task.{Task}
use Rattle.machine.specs.declared.config.Placement.{Placement}
use Rattle.machine.specs.declared.config.Placement.TheVariants.{Linux}
use Rattle.machine.specs.declared.event.Op.{Op}
use Rattle.machine.specs.declared.event.Op.TheVariants.{Read, Write}
use Rattle.machine.specs.declared.event.Cause.{Cause}
use Rattle.machine.specs.declared.event.Setting.{Setting}
use Rattle.machine.specs.declared.event.Setting.TheVariants as setting
use Rattle.machine.specs.declared.event.Query.{Query}
use Rattle.machine.specs.declared.event.Query.TheVariants as query
use Rattle.machine.specs.declared.event.Event.{Event}
use Rattle.machine.specs.declared.event.Event.TheVariants as event
use Rattle.machine.specs.declared.reply.Shown.{Shown}
use Rattle.machine.specs.declared.reply.Shown.TheVariants as shown
use Rattle.machine.specs.declared.reply.Reply.{Reply}
use Rattle.machine.specs.declared.reply.Reply.TheVariants as reply
use Rattle.machine.specs.Slots.{Changes}
use Rattle.machine.specs.Names.{parent_path}
use Rattle.machine.specs.Tree.{Node, node_at, find_group, without_group}
use Rattle.machine.specs.Pages.{Content, Memory, OfFile, Residence, Held, Coming, Going, Away, Page, is_anon, in_transfer_at, page_at, home_block, is_frame_taken, is_swap_taken, is_ticket_taken}
use Rattle.machine.specs.declared.record.Limits.{Limits}
use Rattle.machine.specs.declared.record.OomGroup.TheVariants.{Single}
use Rattle.machine.specs.declared.record.EventCounts.{EventCounts}
use Rattle.machine.specs.Counts.{no_limits, limits_at, guard_of, with_guard, no_counts, with_event, with_events, local, total, counts_by}
use Rattle.machine.specs.Tasks.{PageTables, mapped_at, task_at, task_of, SetsTask, group_of_task, mappers, Shows, Copies, ShowsNothing}
use Rattle.machine.specs.State.{State, page_numbers, usage, over_in, is_frame_free, effective_in, stat_of}
use Rattle.machine.specs.Access.{Meeting, Unmapped, Hits, Transferring, NeedsPage, NeedsCopy, NeedsSwapIn, NeedsRead, Dangling, meets, charged_from_swap}
use Rattle.machine.specs.Reclaim.{is_next, counted_at_take, has_takeable, has_transfer, stands, target_of}
use Rattle.machine.specs.Victim.{flag_at, is_candidate, IsVictim, kill_group_of, killed_with, counts_of_group_kill}

-- the reply, and nothing changes
abbrev pub Only : State → Reply → Reply → State → Type 0
Only old expected answer new = (answer ≡ expected) × (new ≡ old)

-- ---- charges

-- a charge to a group: refused at the lowest group without room, where `max` is counted; else wanting a frame, which counts nothing; else granted.
-- (Excludes a NoFrame that hides an Over, and an Over that counts elsewhere.)
abbrev pub ChargeStep : State → Option ℕ → Bool → Type 0 → Reply → State → Type 0
ChargeStep old (Some a) free Granted answer new = (answer ≡ reply.Over (record { 0 = a })) × (new ≡ record old { counted = with_event old.counted a key.Max })
ChargeStep old None free Granted answer new = MatchBool free Granted (Only old reply.NoFrame answer new)

abbrev pub TriesCharge : State → ℕ → Type 0 → Reply → State → Type 0
TriesCharge old g Granted answer new = ChargeStep old (over_in old g) (is_frame_free old) Granted answer new

-- a frame that no page has
pub record IsFreeFrame (s : State) (frame : ℕ) : Type 0 where
  pub in_range : frame < s.opening.frames
  pub unused : is_frame_taken s.pages frame ≡ false

-- a swap block that no page has
pub record IsFreeBlock (s : State) (block : ℕ) : Type 0 where
  pub in_range : block < s.opening.swap
  pub unused : is_swap_taken s.pages block ≡ false

abbrev pub written : Op → ℕ
written Read = 0
written (Write b) = b

-- a new page of memory in a frame, charged to a group
abbrev pub new_page : ℕ → ℕ → Page
new_page g frame = record { content = Memory; group = g; dirty = false; residence = Held frame }

-- a virtual page of a task shows a new page, charged to the task's group. That its bytes are zeros, or those of the page that it showed, but for the byte written, is the
-- history's to say. There are as many page numbers as frames and swap blocks, of which each page has one
pub record MakesPage (old : State) (t v g : ℕ) (op : Op) (answer : Reply) (new : State) : Type 0 where
  pub page : ℕ
  pub frame : ℕ
  pub in_range : page < page_numbers old.opening
  pub slot_free : page_at old.pages page ≡ None
  pub frame_free : IsFreeFrame old frame
  pub placed : Changes old.pages new.pages page (Some (new_page g frame))
  pub shown : Shows old.page_tables new.page_tables t v (Some page)
  pub answers : answer ≡ reply.Done (written op) None
  pub state : new ≡ record old { pages = new.pages; page_tables = new.page_tables }

-- a transfer begins: the page comes from the block into a free frame
pub record StartsFetch (old : State) (p g : ℕ) (content : Content) (block : ℕ) (answer : Reply) (new : State) : Type 0 where
  pub frame : ℕ
  pub ticket : ℕ
  pub frame_free : IsFreeFrame old frame
  pub ticket_free : is_ticket_taken old.pages ticket ≡ false
  pub placed : Changes old.pages new.pages p (Some (record { content = content; group = g; dirty = false; residence = Coming frame block ticket }))
  pub answers : answer ≡ reply.Fetch (record { 0 = ticket })
  pub state : new ≡ record old { pages = new.pages }

-- a page of a file is read in from its home block, under a number that no page has, and charged to the group
pub record ReadsFile (old : State) (file q g : ℕ) (answer : Reply) (new : State) : Type 0 where
  pub page : ℕ
  pub in_range : page < page_numbers old.opening
  pub slot_free : page_at old.pages page ≡ None
  pub fetch : StartsFetch old page g (OfFile file q) (home_block old.opening.swap old.opening.files file q) answer new

-- ---- access

-- a write to a file's page makes it dirty; a page of memory stays as it is
abbrev pub touched : Page → Op → Page
touched page Read = page
touched page (Write b) = record page { dirty = not (is_anon page.content) || page.dirty }

-- a hit gives the frame; a write gives its byte, and what a read gives is the history's to say
abbrev pub HitStep : State → ℕ → Page → ℕ → Op → Reply → State → Type 0
HitStep old p page frame Read (reply.Done byte hit) new = (hit ≡ Some (record { 0 = frame })) × (new ≡ old)
HitStep old p page frame (Write b) (reply.Done byte hit) new =
    (byte ≡ b) × (hit ≡ Some (record { 0 = frame })) × Changes old.pages new.pages p (Some (touched page (Write b))) × (new ≡ record old { pages = new.pages })
HitStep old p page frame op answer new = ⊥

abbrev pub UnmappedStep : State → Reply → State → Type 0
UnmappedStep old (reply.Done byte hit) new = (hit ≡ None) × (new ≡ old)
UnmappedStep old answer new = ⊥

-- a page comes back from its swap block, charged to the group
abbrev pub FetchesSwapped : State → ℕ → Page → ℕ → ℕ → Reply → State → Type 0
FetchesSwapped old p page block g answer new = TriesCharge old g (StartsFetch old p g page.content block answer new) answer new

-- (Excludes an answer to an access through a mapping of a page that is not there, and a file's page that is charged to whoever touches it last.)
abbrev pub MeetStep : State → ℕ → ℕ → Op → Meeting → Reply → State → Type 0
MeetStep old t g op Unmapped answer new = UnmappedStep old answer new
MeetStep old t g op (Hits p page frame) answer new = HitStep old p page frame op answer new
MeetStep old t g op Transferring answer new = Only old reply.Busy answer new
MeetStep old t g op (NeedsPage v) answer new = TriesCharge old g (MakesPage old t v g op answer new) answer new
MeetStep old t g op (NeedsCopy v) answer new = TriesCharge old g (MakesPage old t v g op answer new) answer new
MeetStep old t g op (NeedsSwapIn p page block) answer new = FetchesSwapped old p page block (charged_from_swap old.opening.placement page.group g) answer new
MeetStep old t g op (NeedsRead file q) answer new = TriesCharge old g (ReadsFile old file q g answer new) answer new
MeetStep old t g op Dangling answer new = ⊥

-- an event of a task: a killed one is told so
abbrev pub LifeStep : State → Life → Type 0 → Reply → State → Type 0
LifeStep old Live Live_step answer new = Live_step
LifeStep old Killed Live_step answer new = Only old reply.Killed answer new
LifeStep old Exited Live_step answer new = ⊥

abbrev pub TaskStep : State → Option Task → (Task → Type 0) → Reply → State → Type 0
TaskStep old None Live_step answer new = ⊥
TaskStep old (Some task) Live_step answer new = LifeStep old task.life (Live_step task) answer new

-- ---- reclaim

-- write-out begins: the page goes from its frame to the block, charged still. `counted` is what stands counted then
pub record StartsLeave (old : State) (p : ℕ) (page : Page) (frame block : ℕ) (counted : List EventCounts) (answer : Reply) (new : State) : Type 0 where
  pub ticket : ℕ
  pub ticket_free : is_ticket_taken old.pages ticket ≡ false
  pub placed : Changes old.pages new.pages p (Some (record page { residence = Going frame block ticket }))
  pub answers : answer ≡ reply.Out (record { 0 = ticket })
  pub state : new ≡ record old { pages = new.pages; counted = counted }

-- the same to a swap block that was free
pub record StartsSwap (old : State) (p : ℕ) (page : Page) (frame : ℕ) (counted : List EventCounts) (answer : Reply) (new : State) : Type 0 where
  pub block : ℕ
  pub block_free : IsFreeBlock old block
  pub leave : StartsLeave old p page frame block counted answer new

-- a clean file page is gone at once
pub record Drops (old : State) (p : ℕ) (counted : List EventCounts) (answer : Reply) (new : State) : Type 0 where
  pub answers : answer ≡ reply.Dropped
  pub gone : Changes old.pages new.pages p None
  pub state : new ≡ record old { pages = new.pages; counted = counted }

abbrev pub LeavesBy : State → ℕ → Page → Content → ℕ → List EventCounts → Reply → State → Type 0
LeavesBy old p page Memory frame counted answer new = StartsSwap old p page frame counted answer new
LeavesBy old p page (OfFile file q) frame counted answer new =
    MatchBool page.dirty (StartsLeave old p page frame (home_block old.opening.swap old.opening.files file q) counted answer new) (Drops old p counted answer new)

abbrev pub LeavesFrom : State → ℕ → Page → Residence → List EventCounts → Reply → State → Type 0
LeavesFrom old p page (Held frame) counted answer new = LeavesBy old p page page.content frame counted answer new
LeavesFrom old p page residence counted answer new = ⊥

-- a page is taken, an open one where there is one, else one that is takeable: a clean file page is dropped, any other written out. Where it is none that is open, `low` is counted at its group.
-- (Excludes a page that its group's low protects while another is open, and a count of `low` for a pass, and not for a page.)
pub record Takes (old : State) (target : ℕ) (answer : Reply) (new : State) : Type 0 where
  pub p : ℕ
  pub page : Page
  pub there : page_at old.pages p ≡ Some page
  pub next : is_next old target page ≡ true
  pub leaves : LeavesFrom old p page page.residence (counted_at_take old target page.group) answer new

-- a page is taken; or one under the target is in transfer and may come free; or nothing is to be found. (Excludes a relief that always waits.)
abbrev pub ReclaimStep : State → ℕ → Type 0 → Reply → State → Type 0
ReclaimStep old target Idle answer new =
    MatchBool (has_takeable old target) (Takes old target answer new) (MatchBool (has_transfer old target) (Only old reply.Wait answer new) Idle)

-- a page is taken for whoever asks for one, and nobody is killed for it. (Excludes a reclaim that finds nothing before every group was asked.)
abbrev pub ReclaimOneStep : State → ℕ → Reply → State → Type 0
ReclaimOneStep old target answer new = ReclaimStep old target (Only old reply.Nothing answer new) answer new

-- ---- tasks

-- a page with these page tables: an anonymous one that nothing maps is gone, unless it is in transfer, whose end decides
abbrev pub still : PageTables → ℕ → Option Page → Option Page
still tables p None = None
still tables p (Some page) = if is_anon page.content && ((mappers tables p == 0) && not (in_transfer_at page.residence)) then None else Some page

-- the tasks of which the test holds end with this life, each in its group: they show nothing any more, and the pages that nothing maps go. Every other task stays as it was, and shows
-- what it did. `counted` is what stands counted then. (Excludes a page that goes though a task outside still shows it.)
pub record EndsTasks (old : State) (is_gone : ℕ → Bool) (life : Life) (counted : List EventCounts) (new : State) : Type 0 where
  pub none : (u v : ℕ) → is_gone u ≡ true → mapped_at new.page_tables u v ≡ None
  pub others : (u v : ℕ) → is_gone u ≡ false → mapped_at new.page_tables u v ≡ mapped_at old.page_tables u v
  pub pages : (p : ℕ) → page_at new.pages p ≡ still new.page_tables p (page_at old.pages p)
  pub ends : (u : ℕ) → is_gone u ≡ true → task_at new.tasks u ≡ Some (task_of (group_of_task old.tasks u) life)
  pub stays : (u : ℕ) → is_gone u ≡ false → task_at new.tasks u ≡ task_at old.tasks u
  pub state : new ≡ record old { pages = new.pages; tasks = new.tasks; page_tables = new.page_tables; counted = counted }

-- one task ends
abbrev pub EndsTask : State → ℕ → Life → List EventCounts → State → Type 0
EndsTask old t life counted new = EndsTasks old (λ u. u == t) life counted new

-- a task ends by itself, and nothing is counted for it
abbrev pub Exits : State → ℕ → Reply → State → Type 0
Exits old t answer new = (answer ≡ reply.Ok) × EndsTask old t Exited old.counted new

-- a new task begins in the group of a live one, and shows what that one shows: pages in transfer and on their blocks too. No page changes and none is charged.
-- (Excludes a child that begins in the root, and one that shares held pages alone.)
abbrev pub Forks : State → ℕ → ℕ → Task → Reply → State → Type 0
Forks old t child task answer new =
    (answer ≡ reply.Ok) × SetsTask old.tasks child task.group.0 Live new.tasks × Copies old.page_tables new.page_tables t child
    × (new ≡ record old { tasks = new.tasks; page_tables = new.page_tables })

-- a virtual page shows nothing any more, and the page that nothing maps then goes. (Excludes a free that drops what others still show.)
pub record Frees (old : State) (t v : ℕ) (answer : Reply) (new : State) : Type 0 where
  pub answers : answer ≡ reply.Ok
  pub shown : Shows old.page_tables new.page_tables t v None
  pub pages : (p : ℕ) → page_at new.pages p ≡ still new.page_tables p (page_at old.pages p)
  pub state : new ≡ record old { pages = new.pages; page_tables = new.page_tables }

-- a task is in another group, and its pages stay charged where they are. (Excludes a move that takes charges along.)
abbrev pub Attaches : State → ℕ → ℕ → State → Type 0
Attaches old t g new = SetsTask old.tasks t g Live new.tasks × (new ≡ record old { tasks = new.tasks })

-- nothing can be reclaimed under the limit: its worst task is killed; with it, where a group from its own up to the limit has the flag, all tasks of the highest such group, at once; or there is
-- nobody. (Excludes a kill at the first refused charge: Takes and Wait come before. And a group with the flag whose tasks are killed one by one, some and not all, or with some outside it.)
abbrev pub KillStep : State → ℕ → Reply → State → Type 0
KillStep old limit (reply.KilledTask t) new =
    IsVictim old.tree old.tasks old.page_tables limit (Some t.0)
    × (kill_group_of old.tree old.flags old.tasks limit t.0 ≡ None)
    × EndsTask old t.0 Killed (with_event (with_event old.counted limit key.Oom) (group_of_task old.tasks t.0) key.OomKill) new
KillStep old limit (reply.KilledAll victim h tasks) new =
    IsVictim old.tree old.tasks old.page_tables limit (Some victim.0)
    × (kill_group_of old.tree old.flags old.tasks limit victim.0 ≡ Some h.0)
    × (tasks ≡ killed_with old.tree old.tasks h.0)
    × EndsTasks old (is_candidate old.tree old.tasks h.0) Killed (with_events old.counted (counts_of_group_kill old.opening.placement old.tree old.tasks limit victim.0 h.0)) new
KillStep old limit reply.NoVictim new =
    IsVictim old.tree old.tasks old.page_tables limit None × (new ≡ record old { counted = with_event old.counted limit key.Oom })
KillStep old limit answer new = ⊥

abbrev pub RelieveStep : State → Cause → Reply → State → Type 0
RelieveStep old cause answer new =
    MatchBool (stands old cause) (ReclaimStep old (target_of cause) (KillStep old (target_of cause) answer new) answer new) (Only old reply.Room answer new)

-- ---- ends of transfers

-- an anonymous page that nothing maps is gone; any other stands there
abbrev pub or_gone : PageTables → ℕ → Page → Option Page
or_gone tables p page = if is_anon page.content && (mappers tables p == 0) then None else Some page

-- the page stands in its frame, and is what it was
abbrev pub in_frame : PageTables → ℕ → Page → ℕ → ℕ → Option Page
in_frame tables p page frame block = or_gone tables p (record page { residence = Held frame })

-- the page stands on its block alone. A file's page has no record then
abbrev pub on_block_of : Content → PageTables → ℕ → Page → ℕ → Option Page
on_block_of Memory tables p page block = or_gone tables p (record page { residence = Away block })
on_block_of (OfFile file q) tables p page block = None

abbrev pub on_block : PageTables → ℕ → Page → ℕ → ℕ → Option Page
on_block tables p page frame block = on_block_of page.content tables p page block

-- the transfer of one page ends, and this is what the page comes to. (Excludes a page that is on its block after a failed write-out.)
pub record EndsTransfer (old : State) (from : ℕ → ℕ → Residence) (to : PageTables → ℕ → Page → ℕ → ℕ → Option Page) (answer : Reply) (new : State) : Type 0 where
  pub p : ℕ
  pub page : Page
  pub frame : ℕ
  pub block : ℕ
  pub there : page_at old.pages p ≡ Some page
  pub moves : page.residence ≡ from frame block
  pub placed : Changes old.pages new.pages p (to old.page_tables p page frame block)
  pub answers : answer ≡ reply.Ok
  pub state : new ≡ record old { pages = new.pages }

-- ---- groups

abbrev pub new_node : List Node → List ℕ → Node
new_node tree path = record { parent = find_group tree (parent_path path); path = path; live = true }

-- the group that a page of a removed group becomes a page of: the parent. By Linux's placement a page that is on its block alone becomes the root's, and one still in transfer the parent's
-- (kernel: mem_cgroup_id_get_online)
abbrev pub heir : Placement → ℕ → Residence → ℕ
heir Linux parent (Away block) = 0
heir placement parent residence = parent

-- a page of the one group is of the other, or by Linux's placement of the root
abbrev pub regrouped : Placement → ℕ → ℕ → Page → Page
regrouped placement from to page =
    record { content = page.content; group = if page.group == from then heir placement to page.residence else page.group; dirty = page.dirty; residence = page.residence }

-- a group goes, and all its pages, in transfer and on their blocks too, are its parent's, but by Linux's placement those on their blocks alone are the root's. (Excludes a removal that gives
-- pages back to the pool, or leaves those behind that have no frame.)
pub record Removes (old : State) (g : ℕ) (new : State) : Type 0 where
  pub parent : ℕ
  pub below : (node_at old.tree g).parent ≡ Some parent
  pub pages : (p : ℕ) → page_at new.pages p ≡ option_map (regrouped old.opening.placement g parent) (page_at old.pages p)
  pub state : new ≡ record old { tree = without_group old.tree g; pages = new.pages }

-- other limits for a group
abbrev pub with_limits : State → ℕ → Limits → State
with_limits s g limits = record s { limits = slice_set s.limits g limits }

-- another value for one setting of a group
abbrev pub with_setting : State → ℕ → Setting → State
with_setting s g (setting.Max amount) = with_limits s g (record (limits_at s.limits g) { max = amount })
with_setting s g (setting.Guard guard amount) = with_limits s g (with_guard (limits_at s.limits g) guard amount)
with_setting s g (setting.OomGroup flag) = record s { flags = slice_set s.flags g flag }

-- ---- what is shown

abbrev pub shown_of : State → Query → Shown
shown_of s (query.Current g) = shown.Pages (usage s g.0)
shown_of s (query.Max g) = shown.Amount (limits_at s.limits g.0).max
shown_of s (query.Guard guard g) = shown.Amount (guard_of guard (limits_at s.limits g.0))
shown_of s (query.OomGroup g) = shown.Flag (flag_at s.flags g.0)
shown_of s (query.Events g) = shown.Events (counts_by (total s.tree s.counted g.0))
shown_of s (query.EventsLocal g) = shown.Events (counts_by (local s.counted g.0))
shown_of s (query.Stat g) = shown.Stat (stat_of s g.0)
shown_of s (query.Protection guard target g) = shown.Amount (effective_in s guard target.0 g.0)

-- ---- the step

abbrev pub Step : State → Event → Reply → State → Type 0
Step old (event.Access t place op) answer new =
    TaskStep old (task_at old.tasks t.0) (λ task. MeetStep old t.0 task.group.0 op (meets old t.0 place op) answer new) answer new
Step old (event.Arrived ticket bytes) answer new = EndsTransfer old (λ frame block. Coming frame block ticket.0) in_frame answer new
Step old (event.FetchFailed ticket) answer new = EndsTransfer old (λ frame block. Coming frame block ticket.0) on_block answer new
Step old (event.Left ticket) answer new = EndsTransfer old (λ frame block. Going frame block ticket.0) on_block answer new
Step old (event.LeaveFailed ticket) answer new = EndsTransfer old (λ frame block. Going frame block ticket.0) in_frame answer new
Step old (event.Relieve cause) answer new = RelieveStep old cause answer new
Step old (event.ReclaimOne g) answer new = ReclaimOneStep old g.0 answer new
Step old (event.Spawn t g) reply.Ok new =
    SetsTask old.tasks t.0 g.0 Live new.tasks × ShowsNothing old.page_tables new.page_tables t.0 × (new ≡ record old { tasks = new.tasks; page_tables = new.page_tables })
Step old (event.Fork t child) answer new = TaskStep old (task_at old.tasks t.0) (λ task. Forks old t.0 child.0 task answer new) answer new
Step old (event.Exit t) answer new = TaskStep old (task_at old.tasks t.0) (λ task. Exits old t.0 answer new) answer new
Step old (event.Free t v) answer new = TaskStep old (task_at old.tasks t.0) (λ task. Frees old t.0 v answer new) answer new
Step old (event.Attach t g) reply.Ok new = Attaches old t.0 g.0 new
Step old (event.Mkdir path) reply.Ok new = new ≡ record old { tree = old.tree ++ new_node old.tree path ∷ []; limits = old.limits ++ no_limits ∷ []; flags = old.flags ++ Single ∷ []; counted = old.counted ++ no_counts ∷ [] }
Step old (event.Rmdir g) reply.Ok new = Removes old g.0 new
Step old (event.Set g what) reply.Ok new = new ≡ with_setting old g.0 what
Step old (event.Show what) (reply.Shown numbers) new = (numbers ≡ shown_of old what) × (new ≡ old)
Step old (event.MergeMarks word bits) reply.Ok new = new ≡ old
-- no other reply is given
Step old event answer new = ⊥

-- What a look at a book shows, which is no event.
use Rattle.std.specs.Prelude.{◌≡◌, ℕ, ◌<◌, ◌==◌, ◌&&◌, not, Bool, true, false, List, length, count_by, Option, Some, None, option_map}
use Rattle.std.specs.List.{range_with_len}
use Rattle.machine.specs.declared.record.EventCounts.{EventCounts}
use Rattle.machine.specs.declared.record.MemoryStat.{MemoryStat}
use Rattle.machine.specs.Tree.{Node, find_group}
use Rattle.machine.specs.Tasks.{Tasks, PageTables, mapped_at, size_of}
use Rattle.machine.specs.Slots.{there_and, count_there}
use Rattle.machine.specs.Pages.{Pages, page_at, ticket_at, is_number}
use Rattle.machine.specs.Victim.{is_candidate, is_live_under}
use Rattle.machine.specs.Counts.{limits_at, counts_by, local, total}
use Rattle.machine.specs.State.{State, usage, stat_of}
use Rattle.machine.specs.Generations.{gens_at}
use Rattle.machine.specs.Lists.{Order, kind_at}
use Rattle.book.specs.declared.looks.GroupLook.{GroupLook}
use Rattle.book.specs.declared.looks.Mapping.{Mapping}
use Rattle.book.specs.declared.looks.PageLook.{PageLook}
use Rattle.book.specs.declared.looks.Victim.{Victim}

-- a group: what is charged to it and below it, its settings, and what was counted at itself
abbrev pub group_look : State → ℕ → GroupLook
group_look s g = record { number = g; usage = usage s g; max = (limits_at s.limits g).max; min = (limits_at s.limits g).min; low = (limits_at s.limits g).low; local = counts_by (local s.counted g) }

-- the group that has this path now, if one has
abbrev pub look_at : State → List ℕ → Option GroupLook
look_at s path = option_map (group_look s) (find_group s.tree path)

-- what its pages are
abbrev pub stat_at : State → List ℕ → Option MemoryStat
stat_at s path = option_map (stat_of s) (find_group s.tree path)

-- its counts, with those of all groups below it. (Excludes the counts of the group alone.)
abbrev pub events_at : State → List ℕ → Option EventCounts
events_at s path = option_map (λ g. counts_by (total s.tree s.counted g)) (find_group s.tree path)

-- the number of its youngest generation, which rises by one with each aging
abbrev pub max_seq_at : State → Order → List ℕ → Option ℕ
max_seq_at s order path = option_map (λ g. (gens_at order.held.groups g).max_seq) (find_group s.tree path)

-- how many tasks live in a group at or under the limit
abbrev pub candidates : List Node → Tasks → ℕ → ℕ
candidates tree tasks limit = count_there (is_live_under tree limit) tasks

-- another candidate that maps as many pages as the victim. (Excludes the victim itself, a task of another size, one outside the limit, and one that has ended.)
abbrev pub is_as_large : List Node → Tasks → PageTables → ℕ → ℕ → ℕ → Bool
is_as_large tree tasks tables limit victim t = is_candidate tree tasks limit t && (size_of tables t == size_of tables victim) && not (t == victim)

-- how many task numbers are those of such a candidate
abbrev pub count_as_large : List Node → Tasks → PageTables → ℕ → ℕ → ℕ
count_as_large tree tasks tables limit victim = count_by (is_as_large tree tasks tables limit victim) (range_with_len 0 (length tasks))

-- the first number above another that passes a test
pub record IsFirstAbove (test : ℕ → Bool) (after t : ℕ) : Type 0 where
  pub above : after < t
  pub passes : test t ≡ true
  pub first : (u : ℕ) → after < u → u < t → test u ≡ false

-- the next such candidate above a number, and None only if there is none. (Excludes a look that always answers None, and the second in place of the first.)
abbrev pub IsNextAsLarge : List Node → Tasks → PageTables → ℕ → ℕ → ℕ → Option ℕ → Type 0
IsNextAsLarge tree tasks tables limit victim after (Some t) = IsFirstAbove (is_as_large tree tasks tables limit victim) after t
IsNextAsLarge tree tasks tables limit victim after None = (t : ℕ) → after < t → is_as_large tree tasks tables limit victim t ≡ false

-- who dies, and the group that dies with it, by number
abbrev pub dying_of : Victim → ℕ × Option ℕ
dying_of victim = (victim.task.0, option_map (λ g. g.0) victim.group)

-- ---- a page in transfer

-- the page of this number is in transfer under the ticket
abbrev pub moves_under : Pages → ℕ → ℕ → Bool
moves_under pages ticket p = there_and (λ page. is_number (ticket_at page.residence) ticket) (page_at pages p)

-- a virtual page of a task shows the page
abbrev pub shows : PageTables → ℕ → ℕ → ℕ → Bool
shows tables p t v = is_number (mapped_at tables t v) p

-- this virtual page of the task shows the page, and none of a smaller number does
pub record IsFirstOf (tables : PageTables) (p t v : ℕ) : Type 0 where
  pub shown : shows tables p t v ≡ true
  pub first : (w : ℕ) → w < v → shows tables p t w ≡ false

-- the first virtual page of the task that shows the page, and None only if none does
abbrev pub IsFirstIn : PageTables → ℕ → ℕ → Option ℕ → Type 0
IsFirstIn tables p t (Some v) = IsFirstOf tables p t v
IsFirstIn tables p t None = (v : ℕ) → shows tables p t v ≡ false

-- the same, and no task of a smaller number shows it
pub record IsFirstShown (tables : PageTables) (p : ℕ) (mapping : Mapping) : Type 0 where
  pub in_task : IsFirstOf tables p mapping.task.0 mapping.page
  pub first : (t v : ℕ) → t < mapping.task.0 → shows tables p t v ≡ false

-- the first virtual page of the first task that shows the page, and None only if no task does
abbrev pub IsFirstMapping : PageTables → ℕ → Option Mapping → Type 0
IsFirstMapping tables p (Some mapping) = IsFirstShown tables p mapping
IsFirstMapping tables p None = (t v : ℕ) → shows tables p t v ≡ false

-- the page that is in transfer under the ticket: whose it is, and who shows it. (Excludes another page, and another group.)
pub record IsInTransferAs (pages : Pages) (tables : PageTables) (ticket : ℕ) (look : PageLook) : Type 0 where
  pub moves : moves_under pages ticket look.page.0 ≡ true
  pub group : option_map (λ page. page.group) (page_at pages look.page.0) ≡ Some look.group.0
  pub kind : option_map (λ page. kind_at page.content) (page_at pages look.page.0) ≡ Some look.kind
  pub mapping : IsFirstMapping tables look.page.0 look.mapping

-- None only if no page is in transfer under the ticket
abbrev pub IsPageLook : Pages → PageTables → ℕ → Option PageLook → Type 0
IsPageLook pages tables ticket (Some look) = IsInTransferAs pages tables ticket look
IsPageLook pages tables ticket None = (p : ℕ) → moves_under pages ticket p ≡ false

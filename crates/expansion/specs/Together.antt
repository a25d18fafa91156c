-- Lists that are worked together, and how much of each was taken.
use Rattle.std.specs.Prelude.{◌≡◌, ℕ, zero, suc, ◌+◌, ◌-◌, ◌^◌, ◌<◌, Bool, List, [], ◌∷◌, ◌++◌, map, fold, min, nat_lt, slice_get, slice_set, Option, Some, None, option_and_then, if◌then◌else◌}
use Rattle.scenario_lines.specs.declared.burst.Deed.{Deed}
use Rattle.scenario_lines.specs.Acts.{entry_count}
use Rattle.scenario_lines.specs.Tasks.{StandingNow}
use Rattle.expansion.specs.declared.merge.Cursor.{Cursor}
use Rattle.expansion.specs.declared.together.Turn.{Turn}
use Rattle.expansion.specs.Merge.{has_next, member_at, next_among}
use Rattle.expansion.specs.Standings.{after_first}

-- what a line stands for: the line's number, its rounds, and its words
pub record PlacedNow : Type 0 where
  pub line : ℕ
  pub rounds : List ℕ
  pub deed : Deed
  pub words : List ℕ

-- a member: lists one after the other, and how many entries were taken
pub record MemberNow : Type 0 where
  pub lists : List PlacedNow
  pub taken : ℕ

-- the members in their order; the tasks' standings before, if they were kept
pub record TogetherNow : Type 0 where
  pub members : List MemberNow
  pub before : Option (List StandingNow)

-- ---- entries of lists, one list after the other

abbrev pub entries : PlacedNow → ℕ
entries p = entry_count p.deed

-- how many entries there are
abbrev pub total : List PlacedNow → ℕ
total [] = 0
total (p ∷ ps) = entries p + total ps

-- how many there are in the first lists, so many
abbrev pub total_before : ℕ → List PlacedNow → ℕ
total_before zero ps = 0
total_before (suc at) [] = 0
total_before (suc at) (p ∷ ps) = entries p + total_before at ps

-- each list has an entry
abbrev pub NoneEmpty : List PlacedNow → Type 0
NoneEmpty [] = Unit {0}
NoneEmpty (p ∷ ps) = (0 < entries p) × NoneEmpty ps

-- a list is at a place, and has an entry of this place; or that is behind the last one
abbrev pub IsIn : List PlacedNow → ℕ → ℕ → Type 0
IsIn [] at place = (at ≡ 0) × (place ≡ 0)
IsIn (p ∷ ps) zero place = place < entries p
IsIn (p ∷ ps) (suc at) place = IsIn ps at place

-- the list that has the entry of a number, and its place there
abbrev pub entry_in : List PlacedNow → ℕ → Option (PlacedNow × ℕ)
entry_in [] number = None
entry_in (p ∷ ps) number = if nat_lt number (entries p) then Some (p, number) else entry_in ps (number - entries p)

-- ---- members

-- how many entries a member has, and how many were taken; a number has 64 bits
abbrev pub cursor_of : MemberNow → Cursor
cursor_of m = record { count = min (total m.lists) (2 ^ 64 - 1); taken = m.taken }

abbrev pub cursors_of : List MemberNow → List Cursor
cursors_of ms = map cursor_of ms

-- a member without a list
abbrev pub new_member : MemberNow
new_member = record { lists = []; taken = 0 }

-- a list after the others
abbrev pub with_list : PlacedNow → MemberNow → MemberNow
with_list p m = record m { lists = m.lists ++ p ∷ [] }

-- a list at the end of the last member
abbrev pub added : PlacedNow → List MemberNow → List MemberNow
added p [] = []
added p (m ∷ []) = with_list p m ∷ []
added p (m ∷ n ∷ ms) = m ∷ added p (n ∷ ms)

-- the same, if it has an entry
abbrev pub added_some : PlacedNow → List MemberNow → List MemberNow
added_some p ms = if nat_lt 0 (entries p) then added p ms else ms

-- the last member has so many entries more
abbrev pub counted : ℕ → List Cursor → List Cursor
counted many [] = []
counted many (c ∷ []) = record c { count = min (c.count + many) (2 ^ 64 - 1) } ∷ []
counted many (c ∷ d ∷ cs) = c ∷ counted many (d ∷ cs)

-- an entry of the member of a number was taken
abbrev pub one_taken : List Cursor → ℕ → List Cursor
one_taken cs member = slice_set cs member (record (member_at cs member) { taken = (member_at cs member).taken + 1 })

-- one more entry was taken
abbrev pub taken_once : MemberNow → MemberNow
taken_once m = record m { taken = m.taken + 1 }

abbrev pub member_or : Option MemberNow → MemberNow
member_or None = new_member
member_or (Some m) = m

-- the member of a number has an entry left
abbrev pub has_left : List MemberNow → ℕ → Bool
has_left ms member = has_next (cursor_of (member_or (slice_get ms member)))

-- an entry of the member of a number was taken
abbrev pub taken_of : List MemberNow → ℕ → List MemberNow
taken_of ms member = slice_set ms member (taken_once (member_or (slice_get ms member)))

-- the same, if it has one left
abbrev pub taken_if_left : List MemberNow → ℕ → List MemberNow
taken_if_left ms member = if has_left ms member then taken_of ms member else ms

-- the next entry of a member
abbrev pub next_entry : MemberNow → Option (PlacedNow × ℕ)
next_entry m = entry_in m.lists m.taken

-- the list of a turn
abbrev pub list_of : List MemberNow → Turn → Option PlacedNow
list_of ms turn = option_and_then (λ m. slice_get m.lists turn.at) (slice_get ms turn.member)

abbrev pub with_place : ℕ → PlacedNow → PlacedNow × ℕ
with_place place p = (p, place)

-- the member that comes next
abbrev pub next_of : List MemberNow → Option ℕ
next_of ms = next_among (cursors_of ms)

-- how many entries were not taken
abbrev pub left_of : List MemberNow → ℕ
left_of [] = 0
left_of (m ∷ ms) = (total m.lists - m.taken) + left_of ms

-- ---- what the entries that were taken leave behind

-- the standings after so many entries of lists
abbrev pub after_lists : List PlacedNow → ℕ → List StandingNow → List StandingNow
after_lists [] many st = st
after_lists (p ∷ ps) many st = after_lists ps (many - entries p) (after_first p.deed many st)

abbrev pub after_member : List StandingNow → MemberNow → List StandingNow
after_member st m = after_lists m.lists m.taken st

-- after the entries of all members that were taken, one member after the other
abbrev pub after_members : List MemberNow → List StandingNow → List StandingNow
after_members ms st = fold after_member st ms

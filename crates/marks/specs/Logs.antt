-- What contracts see of marks: the log of a seat, and how the logs of all seats stand to the marks. A frame's mark is a bit: bit `frame % 64` of word `frame / 64`.
use Rattle.std.specs.Prelude.{◌≡◌, ℕ, zero, suc, ◌+◌, ◌-◌, ◌/◌, ◌%◌, ◌<◌, ◌==◌, if◌then◌else◌, List, [], ◌∷◌, ◌++◌, slice_index}
use Rattle.std.specs.List.{sum_by}
use Rattle.std.specs.Int.{bit_at}
use Rattle.atomic_table.specs.Seated.{TableId}
use Rattle.marks.specs.declared.log.Found.{Found}
use Rattle.marks.specs.declared.log.Found.TheVariants.{Clear, Marked}
use Rattle.marks.specs.declared.log.Setting.{Setting}
use Rattle.marks.specs.declared.log.Harvest.{Harvest}
use Rattle.marks.specs.declared.log.Log.{Log}

-- marks: which ones they are, and of how many frames
pub record MarksOf : Type 0 where
  pub table : TableId
  pub frames : ℕ

-- a seat: of which marks it is, and its log
pub record SeatOf : Type 0 where
  pub table : TableId
  pub log : Log

-- a seat's log
abbrev pub log_of : SeatOf → Log
log_of seat = seat.log

-- ---- what a log counts

-- what a set is told where the frame's bit was this
abbrev pub found_of : ℕ → Found
found_of zero = Clear
found_of (suc n) = Marked

-- 1 where the frame was clear, and else 0
abbrev pub as_clear : Found → ℕ
as_clear Clear = 1
as_clear Marked = 0

-- 1 where it was marked, and else 0
abbrev pub as_marked : Found → ℕ
as_marked Clear = 0
as_marked Marked = 1

-- 1 for a set of the frame that found it clear, and else 0
abbrev pub clear_found : ℕ → Setting → ℕ
clear_found frame entry = if entry.frame == frame then as_clear entry.found else 0

-- 1 for a set of the frame that found it marked, and else 0
abbrev pub mark_found : ℕ → Setting → ℕ
mark_found frame entry = if entry.frame == frame then as_marked entry.found else 0

-- 1 for a harvest that took the frame's mark, and else 0
abbrev pub mark_taken : ℕ → Harvest → ℕ
mark_taken frame entry = if entry.word == frame / 64 then bit_at entry.bits (frame % 64) else 0

-- how many sets of a log found the frame clear, so that they were the ones to mark it
abbrev pub cleared : ℕ → Log → ℕ
cleared frame log = sum_by (clear_found frame) log.sets

-- how many sets of a log found the frame marked already
abbrev pub found : ℕ → Log → ℕ
found frame log = sum_by (mark_found frame) log.sets

-- how many harvests of a log took the frame's mark
abbrev pub taken : ℕ → Log → ℕ
taken frame log = sum_by (mark_taken frame) log.harvests

-- how many marks of the frame were set in a log and not taken in it. In the log of a seat with all parts this is the mark; in another it is no more than a count, and 0 where more were taken than set
abbrev pub pending : ℕ → Log → ℕ
pending frame log = cleared frame log - taken frame log

-- each mark that was set in a log was taken in it
abbrev pub IsHarvested : Log → Type 0
IsHarvested log = (frame : ℕ) → cleared frame log ≡ taken frame log

-- ---- marks and logs

-- the frame's mark, 1 or 0
abbrev pub mark : List ℕ → ℕ → ℕ
mark words frame = bit_at (slice_index words (frame / 64)) (frame % 64)

-- Of one frame, over these logs. The sets that found it clear are as many as the harvests that took its mark, and one more where it is marked: so no mark that was made is lost, and none is taken twice.
-- And a set found it marked only where some set found it clear, earlier or later: so nobody is told of a mark that was never set. (Does not exclude a harvest that takes nothing, nor a set that is told of a mark which was taken before.)
pub record IsBalanced (words : List ℕ) (logs : List Log) (frame : ℕ) : Type 0 where
  pub balance : sum_by (cleared frame) logs ≡ sum_by (taken frame) logs + mark words frame
  pub set_before : 0 < sum_by (found frame) logs → 0 < sum_by (cleared frame) logs

-- of every frame
abbrev pub AreBalanced : List ℕ → List Log → Type 0
AreBalanced words logs = (frame : ℕ) → IsBalanced words logs frame

-- ---- how a log goes on

-- a set of this frame, which found this
abbrev pub setting : ℕ → Found → Setting
setting frame found = record { frame = frame; found = found }

-- a harvest of this word, which took these bits
abbrev pub harvest_of : ℕ → ℕ → Harvest
harvest_of word bits = record { word = word; bits = bits }

-- no set and no harvest, and so many parts
abbrev pub fresh : ℕ → Log
fresh parts = record { parts = parts; sets = []; harvests = [] }

-- a set more, and what it was told
abbrev pub after_set : ℕ → Found → Log → Log
after_set frame found log = record { parts = log.parts; sets = log.sets ++ setting frame found ∷ []; harvests = log.harvests }

-- a harvest more, and what it took
abbrev pub after_harvest : ℕ → ℕ → Log → Log
after_harvest word bits log = record { parts = log.parts; sets = log.sets; harvests = log.harvests ++ harvest_of word bits ∷ [] }

-- a part less
abbrev pub one_less : Log → Log
one_less log = record { parts = log.parts - 1; sets = log.sets; harvests = log.harvests }

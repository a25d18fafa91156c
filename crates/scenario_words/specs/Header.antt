-- The header of a scenario: how large its machine is.
use Rattle.std.specs.Prelude.{ℕ, ◌+◌, ◌-◌, ◌*◌, ◌^◌, Bool, true, false, ◌&&◌, ◌||◌, not, ◌==◌, List, [], ◌∷◌, ◌++◌, length, codes, find, min, position, sum_by, Option, Some, None, Result, Ok, Err, is_some, nat_lt, nat_le, slice_get, if◌then◌else◌}
use Rattle.std.specs.List.{list_any}
use Rattle.std.specs.Str.{bytes_eq}
use denote.Ref.{Bor}
use Rattle.machine.specs.declared.config.Placement.{Placement}
use Rattle.machine.specs.declared.config.Placement.TheVariants as placement
use Rattle.machine.specs.declared.config.Watermarks.{Watermarks}
use Rattle.scenarios.specs.declared.sizes.Size.{Size}
use Rattle.scenarios.specs.declared.sizes.Size.TheVariants as size
use Rattle.scenario_words.specs.declared.amount.Purpose.TheVariants as purpose
use Rattle.scenario_words.specs.declared.fault.Cause.TheVariants as cause
use Rattle.scenario_words.specs.declared.fault.Fault.{Fault}
use Rattle.scenario_words.specs.declared.header.DeviceCall.{DeviceCall}
use Rattle.scenario_words.specs.declared.header.DeviceCall.TheVariants as call
use Rattle.scenario_words.specs.declared.header.Failing.{Failing}
use Rattle.scenario_words.specs.declared.header.FileSize.{FileSize}
use Rattle.scenario_words.specs.declared.header.Header.{Header}
use Rattle.machine.specs.Amounts.{is_page_size}
use Rattle.scenario_words.specs.Amounts.{size_in, pages_of, pages_within, number_within}
use Rattle.scenario_words.specs.Faults.{◌>>=◌}
use Rattle.scenario_words.specs.Names.{mentioned}
use Rattle.scenario_words.specs.Paths.{is_group_name}
use Rattle.scenario_words.specs.Words.{FilledWord, word_fault, is_word, word_at, ends_at, is_at}

-- the bytes of a page; frames and swap blocks; the daemon's marks, if it has some; files by their true names; the calls of the device that fail; whether protection is recursive; whether pages are
-- placed as Linux places them
pub record Machine : Type 0 where
  pub page : ℕ
  pub frames : ℕ
  pub swap : ℕ
  pub watermarks : Option Watermarks
  pub files : List FileSize
  pub failing : List Failing
  pub recursive : Bool
  pub placement : Placement

abbrev pub machine_of : Header → Machine
machine_of h = record {
  page = h.page.bytes;
  frames = h.frames;
  swap = h.swap;
  watermarks = h.watermarks;
  files = h.files.items;
  failing = h.failing.items;
  recursive = h.recursive;
  placement = h.placement;
}

-- without a header
abbrev pub unsaid : Machine
unsaid = record { page = 4096; frames = 65536; swap = 0; watermarks = None; files = []; failing = []; recursive = true; placement = placement.Linux }

-- ---- files

abbrev pub is_named : List ℕ → FileSize → Bool
is_named name f = bytes_eq f.name name

-- the number of the file of a name: its place
abbrev pub file_named : List FileSize → List ℕ → Option ℕ
file_named files name = position (is_named name) files

abbrev pub pages_by : Option FileSize → ℕ
pages_by None = 0
pages_by (Some f) = f.pages

-- how many pages the file of a number has
abbrev pub pages_of_file : List FileSize → ℕ → ℕ
pages_of_file files file = pages_by (slice_get files file)

-- the number of a file in the script: its place, as there are at most 64
abbrev pub file_number : ℕ → ℕ
file_number place = min place (2 ^ 32 - 1)

-- swap blocks and pages of files
abbrev pub blocks_of : Machine → ℕ
blocks_of m = m.swap + sum_by (λ f. f.pages) m.files

-- as many blocks as the device may still have
abbrev pub blocks_left : Machine → ℕ
blocks_left m = 131072 - blocks_of m

-- ---- lines

-- the bytes of a size that a page may have: a page here is a script's
abbrev pub page_bytes : Size → ℕ
page_bytes (size.Bytes whole millionths) = if millionths == 0 then whole else 0
page_bytes (size.Pages pages) = pages * 4096

abbrev pub if_page : FilledWord → ℕ → Result ℕ Fault
if_page w bytes = if is_page_size bytes then Ok bytes else Err (word_fault w cause.SizeBounds)

-- `page SIZE`
abbrev pub page_line : List FilledWord → Result ℕ Fault
page_line ws = do
  w ← word_at ws 1
  size ← size_in w
  if_page w (page_bytes size)

-- `memory SIZE` and `swap SIZE`, with these bounds in pages
abbrev pub pages_line : ℕ → ℕ → ℕ → List FilledWord → Result ℕ Fault
pages_line page least most ws = do
  w ← word_at ws 1
  pages_within purpose.Bound page least most w

-- in order, and not above the memory
abbrev pub marks_within : FilledWord → FilledWord → ℕ → ℕ → ℕ → Result Watermarks Fault
marks_within first second frames low high =
    if nat_lt high low then Err (word_fault first cause.Watermarks)
    else if nat_lt frames high then Err (word_fault second cause.Watermarks)
    else Ok (record { low = low; high = high })

-- `watermarks SIZE SIZE`
abbrev pub marks_line : ℕ → ℕ → List FilledWord → Result Watermarks Fault
marks_line page frames ws = do
  first ← word_at ws 1
  second ← word_at ws 2
  low ← pages_of purpose.Bound page first
  high ← pages_of purpose.Bound page second
  marks_within first second frames low high

-- a name that no file has yet
abbrev pub new_file : List FileSize → FilledWord → Result (List ℕ) Fault
new_file files w =
    if not (is_group_name w.text) then Err (word_fault w cause.Name)
    else if is_some (file_named files w.text) then Err (word_fault w cause.FileThere)
    else Ok w.text

-- not more than 64 files
abbrev pub if_not_full : List FileSize → FilledWord → FileSize → Result FileSize Fault
if_not_full files first file = if nat_le 64 (length files) then Err (word_fault first cause.TooManyFiles) else Ok file

-- a name and the pages of a file
abbrev pub file_shown : Bor (List ℕ) × ℕ → FileSize
file_shown p = record { name = p.0.now; pages = p.1 }

-- `file NAME SIZE`
abbrev pub file_line : Machine → List FilledWord → Result FileSize Fault
file_line m ws = do
  w ← word_at ws 1
  name ← new_file m.files w
  size ← word_at ws 2
  pages ← pages_within purpose.Used m.page 1 (blocks_left m) size
  first ← word_at ws 0
  if_not_full m.files first (record { name = name; pages = pages })

abbrev pub call_in : FilledWord → Result DeviceCall Fault
call_in w =
    if is_word w (codes "read") then Ok call.Read
    else if is_word w (codes "write") then Ok call.Write
    else Err (word_fault w cause.NotExpected)

-- `fault read K` and `fault write K`
abbrev pub failing_line : List FilledWord → Result Failing Fault
failing_line ws = do
  w ← word_at ws 1
  which ← call_in w
  number ← word_at ws 2
  n ← number_within 1 4294967295 number
  Ok (record { call = which; number = n })

abbrev pub protection_in : FilledWord → Result Bool Fault
protection_in w =
    if is_word w (codes "recursive") then Ok true
    else if is_word w (codes "plain") then Ok false
    else Err (word_fault w cause.NotExpected)

-- `protection recursive` and `protection plain`
abbrev pub protection_line : List FilledWord → Result Bool Fault
protection_line ws = do
  w ← word_at ws 1
  protection_in w

abbrev pub placement_in : FilledWord → Result Placement Fault
placement_in w =
    if is_word w (codes "linux") then Ok placement.Linux
    else if is_word w (codes "plain") then Ok placement.Own
    else Err (word_fault w cause.NotExpected)

-- `placement linux` and `placement plain`
abbrev pub placement_line : List FilledWord → Result Placement Fault
placement_line ws = do
  w ← word_at ws 1
  placement_in w

-- ---- what a line changes

-- a machine, and the names that a script can't have
abbrev pub State : Type 0
State = Machine × List (List ℕ)

abbrev pub with_page : Machine → ℕ → Machine
with_page m page = record m { page = page }

abbrev pub with_frames : Machine → ℕ → Machine
with_frames m frames = record m { frames = frames }

abbrev pub with_swap : Machine → ℕ → Machine
with_swap m swap = record m { swap = swap }

abbrev pub with_file : State → FileSize → State
with_file s file = (record s.0 { files = s.0.files ++ file ∷ [] }, mentioned s.1 file.name)

-- the line ends before this place
abbrev pub ended : {A : Type 0} → List FilledWord → ℕ → A → Result A Fault
ended ws place x = do
  _ ← ends_at ws place
  Ok x

abbrev pub page_said : Machine → List FilledWord → Result Machine Fault
page_said m ws = do
  page ← page_line ws
  ended ws 2 (with_page m page)

abbrev pub memory_said : Machine → List FilledWord → Result Machine Fault
memory_said m ws = do
  frames ← pages_line m.page 1 65536 ws
  ended ws 2 (with_frames m frames)

abbrev pub swap_said : Machine → List FilledWord → Result Machine Fault
swap_said m ws = do
  swap ← pages_line m.page 0 65536 ws
  ended ws 2 (with_swap m swap)

abbrev pub marks_said : Machine → List FilledWord → Result Machine Fault
marks_said m ws = do
  marks ← marks_line m.page m.frames ws
  ended ws 3 (record m { watermarks = Some marks })

abbrev pub file_said : State → List FilledWord → Result State Fault
file_said s ws = do
  file ← file_line s.0 ws
  ended ws 3 (with_file s file)

abbrev pub failing_said : Machine → List FilledWord → Result Machine Fault
failing_said m ws = do
  failing ← failing_line ws
  ended ws 3 (record m { failing = m.failing ++ failing ∷ [] })

abbrev pub protection_said : Machine → List FilledWord → Result Machine Fault
protection_said m ws = do
  recursive ← protection_line ws
  ended ws 2 (record m { recursive = recursive })

abbrev pub placement_said : Machine → List FilledWord → Result Machine Fault
placement_said m ws = do
  rule ← placement_line ws
  ended ws 2 (record m { placement = rule })

-- the names stay
abbrev pub beside : List (List ℕ) → Result Machine Fault → Result State Fault
beside names (Ok m) = Ok (m, names)
beside names (Err f) = Err f

abbrev pub said_by : State → List FilledWord → List ℕ → Result State Fault
said_by s ws text =
    if bytes_eq text (codes "page") then beside s.1 (page_said s.0 ws)
    else if bytes_eq text (codes "memory") then beside s.1 (memory_said s.0 ws)
    else if bytes_eq text (codes "swap") then beside s.1 (swap_said s.0 ws)
    else if bytes_eq text (codes "watermarks") then beside s.1 (marks_said s.0 ws)
    else if bytes_eq text (codes "file") then file_said s ws
    else if bytes_eq text (codes "fault") then beside s.1 (failing_said s.0 ws)
    else if bytes_eq text (codes "protection") then beside s.1 (protection_said s.0 ws)
    else beside s.1 (placement_said s.0 ws)

-- ---- the whole header

abbrev pub begins : List ℕ → List FilledWord → Bool
begins text l = is_at l 0 text

-- there may be several lines of files and of failing calls, and one of each other kind
abbrev pub may_repeat : List ℕ → Bool
may_repeat text = bytes_eq text (codes "file") || bytes_eq text (codes "fault")

abbrev pub if_new : List (List FilledWord) → FilledWord → Result (Unit {0}) Fault
if_new before w = if not (may_repeat w.text) && list_any (begins w.text) before then Err (word_fault w cause.Again) else Ok tt

-- a line after others
abbrev pub next_said : List (List FilledWord) → State → List FilledWord → Result State Fault
next_said before s l = do
  w ← word_at l 0
  _ ← if_new before w
  said_by s l w.text

-- lines after others
abbrev pub lines_said : List (List FilledWord) → State → List (List FilledWord) → Result State Fault
lines_said before s [] = Ok s
lines_said before s (l ∷ ls) = do
  next ← next_said before s l
  lines_said (before ++ l ∷ []) next ls

-- the first line of a kind
abbrev pub first_of : List (List FilledWord) → List ℕ → Option (List FilledWord)
first_of ls text = find (begins text) ls

-- the page that a line says, or the one that is known, if there is no line
abbrev pub page_or : ℕ → Option (List FilledWord) → Result ℕ Fault
page_or page None = Ok page
page_or page (Some l) = page_line l

abbrev pub or_known : ℕ → Result ℕ Fault → ℕ
or_known known (Ok n) = n
or_known known (Err f) = known

-- the pages that a line says, or those that are known, if there is no line or it is faulty
abbrev pub pages_or : ℕ → ℕ → ℕ → ℕ → Option (List FilledWord) → ℕ
pages_or known page least most None = known
pages_or known page least most (Some l) = or_known known (pages_line page least most l)

abbrev pub sizes_first : List (List FilledWord) → Machine → Machine
sizes_first ls m =
    let frames = pages_or m.frames m.page 1 65536 (first_of ls (codes "memory")) in
    let swap = pages_or m.swap m.page 0 65536 (first_of ls (codes "swap")) in
    record m { frames = frames; swap = swap }

-- the page, the memory and the swap count for all lines; a faulty page is the first fault, and a faulty memory or swap is one at its line
abbrev pub early : Machine → List (List FilledWord) → Result Machine Fault
early m ls = do
  page ← page_or m.page (first_of ls (codes "page"))
  Ok (sizes_first ls (with_page m page))

abbrev pub all_said : State → List (List FilledWord) → Result State Fault
all_said s ls = do
  m ← early s.0 ls
  lines_said [] (m, s.1) ls

-- what these lines say, or the first fault
unfoldable pub header_said : State → List (List FilledWord) → Result State Fault
header_said s ls = all_said s ls

-- Sizes, numbers and parts that words are. A size that is no whole page is rounded.
use Rattle.std.specs.Prelude.{◌≡◌, ℕ, ◌*◌, ◌^◌, Bool, ◌&&◌, Option, Some, None, Result, Ok, Err, nat_lt, nat_le, if◌then◌else◌}
use Rattle.machine.specs.Numbers.{number_below}
use Rattle.scenarios.specs.declared.parts.Part.{Part}
use Rattle.scenarios.specs.declared.sizes.Size.{Size}
use Rattle.scenarios.specs.declared.sizes.SizeFault.{SizeFault}
use Rattle.scenarios.specs.Parts.{part_of}
use Rattle.scenarios.specs.Sizes.{size_of, pages_down, pages_up, in_millionths}
use Rattle.scenario_words.specs.declared.amount.Purpose.{Purpose}
use Rattle.scenario_words.specs.declared.amount.Purpose.TheVariants as purpose
use Rattle.scenario_words.specs.declared.fault.Cause.{Cause}
use Rattle.scenario_words.specs.declared.fault.Cause.TheVariants as cause
use Rattle.scenario_words.specs.declared.fault.ExpandError.{ExpandError}
use Rattle.scenario_words.specs.declared.fault.ExpandError.TheVariants as error
use Rattle.scenario_words.specs.declared.fault.Fault.{Fault}
use Rattle.scenario_words.specs.Faults.{◌>>=◌}
use Rattle.scenario_words.specs.Words.{FilledWord, word_fault}

-- memory did not run out
abbrev pub TakesNoMemory : {T : Type 0} → Result T ExpandError → Type 0
TakesNoMemory (Ok x) = Unit {0}
TakesNoMemory (Err error.Memory) = ⊥
TakesNoMemory (Err (error.Faulty f)) = Unit {0}

-- memory that is used is rounded up, and a bound is rounded down
abbrev pub rounded : Purpose → Size → ℕ → ℕ
rounded purpose.Used size page = pages_up size page
rounded purpose.Bound size page = pages_down size page

-- the first page of a part and the one after its last one: every page that has a byte of it
abbrev pub part_pages : Part → ℕ → ℕ × ℕ
part_pages part page = (pages_down part.from page, pages_up part.to page)

-- the bytes of so many pages of a script, which have 4,096 each
abbrev pub script_bytes : ℕ → ℕ
script_bytes pages = pages * 4096

-- ---- sizes

abbrev pub or_no_size : FilledWord → Result Size SizeFault → Result Size Fault
or_no_size w (Ok size) = Ok size
or_no_size w (Err e) = Err (word_fault w cause.Size)

-- the size that a word without quotes is
unfoldable pub size_in : FilledWord → Result Size Fault
size_in w = if w.quoted then Err (word_fault w cause.Size) else or_no_size w (size_of w.text)

-- its pages, if a page has so many bytes
unfoldable pub pages_of : Purpose → ℕ → FilledWord → Result ℕ Fault
pages_of purpose page w = do
  size ← size_in w
  Ok (rounded purpose size page)

-- a number of a word, if it is within these bounds
abbrev pub if_within : FilledWord → Cause → ℕ → ℕ → ℕ → Result ℕ Fault
if_within w c least most number = if nat_le least number && nat_le number most then Ok number else Err (word_fault w c)

-- the pages of a size, if their number is within these bounds
unfoldable pub pages_within : Purpose → ℕ → ℕ → ℕ → FilledWord → Result ℕ Fault
pages_within purpose page least most w = do
  number ← pages_of purpose page w
  if_within w cause.SizeBounds least most number

-- ---- numbers

abbrev pub number_by : FilledWord → ℕ → ℕ → Option ℕ → Result ℕ Fault
number_by w least most None = Err (word_fault w cause.Number)
number_by w least most (Some number) = if_within w cause.Number least most number

-- the number that a word without quotes is, if it is within these bounds
unfoldable pub number_within : ℕ → ℕ → FilledWord → Result ℕ Fault
number_within least most w = if w.quoted then Err (word_fault w cause.Number) else number_by w least most (number_below (2 ^ 64) w.text)

-- ---- parts

-- the part ends within so many pages
abbrev pub ends_within : FilledWord → ℕ → ℕ × ℕ → Result (ℕ × ℕ) Fault
ends_within w most pages = if nat_le pages.0 pages.1 && nat_le pages.1 most then Ok pages else Err (word_fault w cause.PastEnd)

-- it begins below its end
abbrev pub some_pages : FilledWord → ℕ → ℕ → Part → Result (ℕ × ℕ) Fault
some_pages w page most part =
    if nat_lt (in_millionths part.from page) (in_millionths part.to page) then ends_within w most (part_pages part page) else Err (word_fault w cause.EmptyPart)

abbrev pub part_by : FilledWord → ℕ → ℕ → Option (Result Part SizeFault) → Result (ℕ × ℕ) Fault
part_by w page most None = Err (word_fault w cause.Part)
part_by w page most (Some (Err e)) = Err (word_fault w cause.Size)
part_by w page most (Some (Ok part)) = some_pages w page most part

-- the first page of the part that a word without quotes is, and the one after its last one, of so many pages
unfoldable pub part_within : ℕ → ℕ → FilledWord → Result (ℕ × ℕ) Fault
part_within page most w = if w.quoted then Err (word_fault w cause.Part) else part_by w page most (part_of w.text)

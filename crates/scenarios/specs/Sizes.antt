-- Sizes, as they are written, and the pages that they take.
use Rattle.std.specs.Prelude.{ℕ, ◌+◌, ◌-◌, ◌*◌, ◌/◌, ◌%◌, ◌^◌, ◌<◌, ◌≤◌, Bool, true, ◌&&◌, ◌||◌, ◌==◌, List, length, take, codes, Option, Some, None, Result, Ok, Err, nat_lt, nat_le, slice_index, is_ok, unwrap_or, if◌then◌else◌}
use Rattle.std.specs.Int.{div_ceil}
use Rattle.std.specs.List.{position_or_len, before_first, after_first}
use Rattle.std.specs.Str.{bytes_eq}
use Rattle.machine.specs.Numbers.{is_numeral, number_below}
use Rattle.scenarios.specs.declared.sizes.TheConstants.{MOST_BYTES, MOST_PLACES}
use Rattle.scenarios.specs.declared.sizes.Size.{Size}
use Rattle.scenarios.specs.declared.sizes.Size.TheVariants as size
use Rattle.scenarios.specs.declared.sizes.Limit.{Limit}
use Rattle.scenarios.specs.declared.sizes.Limit.TheVariants as limit
use Rattle.scenarios.specs.declared.sizes.SizeFault.{SizeFault}
use Rattle.scenarios.specs.declared.sizes.SizeFault.TheVariants as fault

-- the last byte of a word, and those before it
abbrev pub last_byte : List ℕ → ℕ
last_byte word = slice_index word (length word - 1)

abbrev pub without_last : List ℕ → List ℕ
without_last word = take (length word - 1) word

-- how many bytes the letter K, M, G or T stands for
abbrev pub unit_bytes : ℕ → Option ℕ
unit_bytes letter =
    if letter == 75 then Some (2 ^ 10)
    else if letter == 77 then Some (2 ^ 20)
    else if letter == 71 then Some (2 ^ 30)
    else if letter == 84 then Some (2 ^ 40)
    else None

-- the number of a size in bytes, as it is written, and the bytes of its unit
abbrev pub by_unit : Option ℕ → List ℕ → List ℕ × ℕ
by_unit None word = (word, 1)
by_unit (Some bytes) word = (without_last word, bytes)

abbrev pub split_unit : List ℕ → List ℕ × ℕ
split_unit word = by_unit (unit_bytes (last_byte word)) word

abbrev pub is_point : ℕ → Bool
is_point c = c == 46

abbrev pub has_point : List ℕ → Bool
has_point number = nat_lt (position_or_len is_point number) (length number)

-- the digits before the point, and those after it
abbrev pub whole_of : List ℕ → List ℕ
whole_of number = if has_point number then before_first is_point number else number

abbrev pub places_of : List ℕ → List ℕ
places_of number = if has_point number then after_first is_point number else codes "0"

-- digits, or digits, a point and one to six digits
abbrev pub is_decimal : List ℕ → Bool
is_decimal number = is_numeral (whole_of number) && is_numeral (places_of number) && nat_le (length (places_of number)) MOST_PLACES

-- the digits after the point, in millionths
abbrev pub millionths_of : List ℕ → ℕ
millionths_of places = unwrap_or (number_below (2 ^ 32) places) 0 * 10 ^ (MOST_PLACES - length places)

-- the size of so many millionths of a byte, if it is within the limit
abbrev pub bytes_of : ℕ → Result Size SizeFault
bytes_of millionths = if nat_le (millionths / 10 ^ 6) MOST_BYTES then Ok (size.Bytes (millionths / 10 ^ 6) (millionths % 10 ^ 6)) else Err fault.TooLarge

-- so many units, by the number before the point and the digits after it
abbrev pub scaled : Option ℕ → List ℕ → ℕ → Result Size SizeFault
scaled None places unit = Err fault.TooLarge
scaled (Some whole) places unit = bytes_of ((whole * 10 ^ 6 + millionths_of places) * unit)

abbrev pub bytes_written : List ℕ → ℕ → Result Size SizeFault
bytes_written number unit = if is_decimal number then scaled (number_below (2 ^ 64) (whole_of number)) (places_of number) unit else Err fault.NotSize

abbrev pub pages_written : List ℕ → Result Size SizeFault
pages_written number = if is_numeral number then counted (number_below (2 ^ 32) number) else Err fault.NotSize
  where
    counted : Option ℕ → Result Size SizeFault
    counted None = Err fault.TooLarge
    counted (Some pages) = Ok (size.Pages pages)

-- the size of a word, by its form
abbrev pub size_by_form : List ℕ → Result Size SizeFault
size_by_form word = if last_byte word == 112 then pages_written (without_last word) else bytes_written (split_unit word).0 (split_unit word).1

-- ---- words that are nearly a size

-- without the `i` of a unit like `Mi`, and without the `B` of one like `MiB` or `MB`
abbrev pub without_i : List ℕ → List ℕ
without_i word = if last_byte word == 105 then without_last word else word

abbrev pub short_unit : List ℕ → List ℕ
short_unit word = if last_byte word == 66 then without_i (without_last word) else without_i word

-- what is wrong with a word that is none by its form
abbrev pub hint_of : List ℕ → SizeFault
hint_of word =
    if bytes_eq word (codes "-1") || bytes_eq word (codes "infinity") || bytes_eq word (codes "unlimited") then fault.Unlimited
    else if last_byte word == 37 then fault.Percent
    else if is_ok (size_by_form (short_unit word)) then fault.LongUnit
    else fault.NotSize

abbrev pub hinted : List ℕ → Result Size SizeFault → Result Size SizeFault
hinted word (Ok s) = Ok s
hinted word (Err fault.NotSize) = Err (hint_of word)
hinted word (Err fault.TooLarge) = Err fault.TooLarge
hinted word (Err fault.LongUnit) = Err fault.LongUnit
hinted word (Err fault.Unlimited) = Err fault.Unlimited
hinted word (Err fault.Percent) = Err fault.Percent

-- the size that a word writes
abbrev pub size_of : List ℕ → Result Size SizeFault
size_of word = hinted word (size_by_form word)

-- the limit that a word writes
abbrev pub limit_of : List ℕ → Result Limit SizeFault
limit_of word = if bytes_eq word (codes "max") then Ok limit.Max else limited (size_of word)
  where
    limited : Result Size SizeFault → Result Limit SizeFault
    limited (Ok s) = Ok (limit.Size s)
    limited (Err e) = Err e

-- the most pages of so many bytes that a size has whole
abbrev pub pages_down : Size → ℕ → ℕ
pages_down (size.Pages pages) page = pages
pages_down (size.Bytes whole millionths) page = whole / page

-- the least pages of so many bytes that have the size
abbrev pub pages_up : Size → ℕ → ℕ
pages_up (size.Pages pages) page = pages
pages_up (size.Bytes whole millionths) page = if millionths == 0 then div_ceil whole page else whole / page + 1

-- the size is a number of pages of so many bytes
abbrev pub is_whole : Size → ℕ → Bool
is_whole (size.Pages pages) page = true
is_whole (size.Bytes whole millionths) page = millionths == 0 && (whole % page) == 0

-- ---- what pages have

-- the size in millionths of a byte, for pages of so many bytes
abbrev pub in_millionths : Size → ℕ → ℕ
in_millionths (size.Pages pages) page = pages * page * 10 ^ 6
in_millionths (size.Bytes whole millionths) page = whole * 10 ^ 6 + millionths

-- less than a byte is in millionths
abbrev pub IsProper : Size → Type 0
IsProper (size.Pages pages) = Unit {0}
IsProper (size.Bytes whole millionths) = millionths < 10 ^ 6

-- so many pages are within the size, and no more of them are
pub record IsFloor (s : Size) (page pages : ℕ) : Type 0 where
  pub within : pages * page * 10 ^ 6 ≤ in_millionths s page
  pub most : (more : ℕ) → more * page * 10 ^ 6 ≤ in_millionths s page → more ≤ pages

-- so many pages have the size, and no fewer have it
pub record IsCeiling (s : Size) (page pages : ℕ) : Type 0 where
  pub enough : in_millionths s page ≤ pages * page * 10 ^ 6
  pub least : (fewer : ℕ) → in_millionths s page ≤ fewer * page * 10 ^ 6 → pages ≤ fewer

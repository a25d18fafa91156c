-- How amounts of memory are printed.
use Rattle.std.specs.Prelude.{ℕ, ◌+◌, ◌*◌, ◌/◌, ◌%◌, ◌^◌, ◌==◌, ◌&&◌, ◌||◌, not, nat_lt, Bool, if◌then◌else◌, List, [], ◌∷◌, ◌++◌, length, codes, decimal}
use Rattle.std.specs.List.{before_first, after_first, position_or_len}
use Rattle.std.specs.Option.{option_map_or}
use Rattle.std.specs.Str.{bytes_eq}
use Rattle.machine.specs.declared.command.Answer.{Answer}
use Rattle.machine.specs.declared.command.Answer.TheVariants as answer
use Rattle.machine.specs.declared.command.Reply.{Reply}
use Rattle.machine.specs.Numbers.{number_below}
use Rattle.printer.specs.declared.amounts.Amounts.{Amounts}
use Rattle.printer.specs.declared.amounts.Amounts.TheVariants.{Bytes, Human, Pages}

-- ---- a number of bytes

-- of the two whole numbers around a fraction of this rest, the nearer one; the even one if both are as near
abbrev pub nearest : ℕ → ℕ → ℕ → ℕ
nearest unit whole rest = if nat_lt unit (rest * 2) then whole + 1 else if rest * 2 == unit then whole + whole % 2 else whole

-- so many bytes in tenths of a unit
abbrev pub tenths_of : ℕ → ℕ → ℕ
tenths_of unit bytes = nearest unit (bytes * 10 / unit) (bytes * 10 % unit)

-- so many bytes in a unit: a whole number, or one with a decimal, and the unit's letter
abbrev pub unit_text : ℕ → List ℕ → ℕ → List ℕ
unit_text unit letter bytes =
    if bytes % unit == 0 then decimal (bytes / unit) ++ letter
    else decimal (tenths_of unit bytes / 10) ++ (codes "." ++ (decimal (tenths_of unit bytes % 10) ++ letter))

-- in the first of the units K, M, G and T in which it is below 1024. (Excludes 1024.0M in place of 1.0G, and a decimal that is cut off.)
abbrev pub human_text : ℕ → List ℕ
human_text bytes =
    if nat_lt (tenths_of 1024 bytes) 10240 then unit_text 1024 (codes "K") bytes
    else if nat_lt (tenths_of 1048576 bytes) 10240 then unit_text 1048576 (codes "M") bytes
    else if nat_lt (tenths_of 1073741824 bytes) 10240 then unit_text 1073741824 (codes "G") bytes
    else unit_text 1099511627776 (codes "T") bytes

abbrev pub pages_text : ℕ → ℕ → List ℕ
pages_text page_size bytes = decimal (bytes / page_size)

-- it is an amount that has pages of this size. (Excludes the flag 1.)
abbrev pub has_pages : ℕ → ℕ → Bool
has_pages page_size bytes = not (bytes == 0) && bytes % page_size == 0

-- a number of a control file, with pages of this size
abbrev pub number_text : ℕ → Amounts → ℕ → List ℕ
number_text page_size Bytes number = decimal number
number_text page_size Human number = if has_pages page_size number then human_text number else decimal number
number_text page_size Pages number = if has_pages page_size number then pages_text page_size number else decimal number

-- ---- a text

-- a number is printed so, and another word as it is
abbrev pub word_in : ℕ → Amounts → List ℕ → List ℕ
word_in page_size amounts word = option_map_or (number_text page_size amounts) (number_below (2 ^ 64) word) word

abbrev pub is_space : ℕ → Bool
is_space b = b == 32

-- the row of a type of memory: its name, a space and so many bytes. (The rows of `memory.events` are none: they count events.)
abbrev pub has_type : List ℕ → Bool
has_type row = nat_lt (position_or_len is_space row) (length row) && (bytes_eq (before_first is_space row) (codes "anon") || bytes_eq (before_first is_space row) (codes "file"))

abbrev pub row_in : ℕ → Amounts → List ℕ → List ℕ
row_in page_size amounts row = if has_type row then before_first is_space row ++ 32 ∷ word_in page_size amounts (after_first is_space row) else word_in page_size amounts row

abbrev pub is_end : ℕ → Bool
is_end b = b == 10

-- the rows of a text, each printed so; the first of them begins with these bytes
abbrev pub rows_in : ℕ → Amounts → List ℕ → List ℕ → List ℕ
rows_in page_size amounts row [] = row_in page_size amounts row
rows_in page_size amounts row (b ∷ bs) = if is_end b then row_in page_size amounts row ++ 10 ∷ rows_in page_size amounts [] bs else rows_in page_size amounts (row ++ b ∷ []) bs

-- ---- an answer

-- an answer with the amounts in its text printed so
abbrev pub answer_in : ℕ → Amounts → Answer → Answer
answer_in page_size amounts (answer.Text text) = answer.Text (rows_in page_size amounts [] text)
answer_in page_size amounts answer.Done = answer.Done
answer_in page_size amounts (answer.Kill task) = answer.Kill task
answer_in page_size amounts (answer.KillAll victim tasks) = answer.KillAll victim tasks
answer_in page_size amounts (answer.Byte byte) = answer.Byte byte
answer_in page_size amounts (answer.Word said) = answer.Word said

abbrev pub reply_in : ℕ → Amounts → Reply → Reply
reply_in page_size Bytes reply = reply
reply_in page_size Human reply = record { actor = reply.actor; answer = answer_in page_size Human reply.answer }
reply_in page_size Pages reply = record { actor = reply.actor; answer = answer_in page_size Pages reply.answer }

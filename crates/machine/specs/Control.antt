-- Control files: their names, who has them, amounts and texts (admin-guide/cgroup-v2, "Memory Interface Files", "Conventions").
use Rattle.std.specs.Prelude.{ℕ, ◌*◌, ◌/◌, ◌-◌, ◌^◌, ◌==◌, ◌&&◌, ◌||◌, nat_lt, nat_eq, not, Bool, true, if◌then◌else◌, List, [], ◌∷◌, ◌++◌, length, take, drop, slice_index, codes, decimal, Option, Some, None}
use Rattle.std.specs.List.{list_all, starts_with}
use Rattle.std.specs.Option.{option_map}
use Rattle.std.specs.Str.{bytes_eq}
use Rattle.std.specs.Str.Parse.{digits_value}
use Rattle.machine.specs.declared.amount.Amount.{Amount}
use Rattle.machine.specs.declared.amount.Amount.TheVariants.{Max, Pages}
use Rattle.machine.specs.declared.config.Placement.{Placement}
use Rattle.machine.specs.declared.config.Placement.TheVariants.{Own, Linux}
use Rattle.machine.specs.declared.control.ControlFile.{ControlFile}
use Rattle.machine.specs.declared.control.ControlFile.TheVariants as file
use Rattle.machine.specs.declared.record.Guard.TheVariants as guard
use Rattle.machine.specs.declared.record.OomGroup.{OomGroup}
use Rattle.machine.specs.declared.record.OomGroup.TheVariants.{Single, Whole}
use Rattle.machine.specs.declared.record.EventCounts.{EventCounts}
use Rattle.machine.specs.declared.record.MemoryStat.{MemoryStat}
use Rattle.machine.specs.declared.reply.Shown.{Shown}
use Rattle.machine.specs.declared.reply.Shown.TheVariants as shown
use Rattle.machine.specs.Numbers.{is_numeral}
use Rattle.machine.specs.Amounts.{is_page_size}

-- ---- amounts

-- what a letter at the end multiplies by, and 1 of another character
abbrev pub unit_of : ℕ → ℕ
unit_of c =
    if c == 75 || c == 107 then 1024
    else if c == 77 || c == 109 then 1048576
    else if c == 71 || c == 103 then 1073741824
    else if c == 84 || c == 116 then 1099511627776
    else 1

abbrev pub last_unit : List ℕ → ℕ
last_unit text = unit_of (slice_index text (length text - 1))

-- the text without the letter at its end
abbrev pub digits_part : List ℕ → List ℕ
digits_part text = if last_unit text == 1 then text else take (length text - 1) text

-- decimal digits without a zero in front of others. (Excludes a machine that reads 010 as ten or as eight.)
abbrev pub is_plain : List ℕ → Bool
is_plain digits = is_numeral digits && (length digits == 1 || nat_lt 48 (slice_index digits 0))

-- the bytes that a text asks for
abbrev pub product : List ℕ → ℕ
product text = digits_value 10 (digits_part text) * last_unit text

-- a number of bytes with at most one of the suffixes K, M, G, T, below 2^64
abbrev pub plain_amount : List ℕ → Option ℕ
plain_amount text = if is_plain (digits_part text) && nat_lt (product text) (2 ^ 64) then Some (product text) else None

-- `max`, or a plain amount, rounded down to whole pages of this size. (Excludes pages that always have 4,096 bytes.)
abbrev pub amount_of : ℕ → List ℕ → Option Amount
amount_of page_size text = if bytes_eq text (codes "max") then Some Max else option_map (λ bytes. Pages (bytes / page_size)) (plain_amount text)

abbrev pub if_page_size : Option ℕ → Option ℕ
if_page_size None = None
if_page_size (Some bytes) = if is_page_size bytes then Some bytes else None

-- a plain amount that a page may stand for. (Excludes `max`, and an amount that is rounded.)
abbrev pub page_size_of : List ℕ → Option ℕ
page_size_of text = if_page_size (plain_amount text)

-- ---- flags

-- `0` or `1`, and no other text
abbrev pub flag_of : List ℕ → Option OomGroup
flag_of text =
    if bytes_eq text (codes "0") then Some Single
    else if bytes_eq text (codes "1") then Some Whole
    else None

-- zeros, and behind them `0` or `1`: these digits mean zero or one in each base. (Excludes 010, which is eight.)
abbrev pub flag_in_digits : List ℕ → Option OomGroup
flag_in_digits digits = if list_all (λ c. c == 48) (take (length digits - 1) digits) then flag_of (drop (length digits - 1) digits) else None

-- the text without the mark of base 16 in front
abbrev pub without_base : List ℕ → List ℕ
without_base text = if starts_with nat_eq text (codes "0x") || starts_with nat_eq text (codes "0X") then drop 2 text else text

-- zero has a minus sign, and one has not
abbrev pub negated : Option OomGroup → Option OomGroup
negated (Some Single) = Some Single
negated flag = None

-- a number that is zero or one, as the kernel reads it: behind one sign at most, in base 16 or not, with zeros in front (kstrtoint). (Excludes a second sign, -1, and a letter behind the digits.)
abbrev pub flag_spelled : List ℕ → Option OomGroup
flag_spelled text =
    if starts_with nat_eq text (codes "-") then negated (flag_in_digits (without_base (drop 1 text)))
    else if starts_with nat_eq text (codes "+") then flag_in_digits (without_base (drop 1 text))
    else flag_in_digits (without_base text)

-- the flag that a text writes: by our own placement `0` or `1`, and by Linux's any spelling of these. (Excludes a spelling that our own placement takes.)
abbrev pub flag_written : Placement → List ℕ → Option OomGroup
flag_written Own text = flag_of text
flag_written Linux text = flag_spelled text

-- ---- texts

abbrev pub line : List ℕ → List ℕ
line text = text ++ 10 ∷ []

-- so many pages of this size, in bytes
abbrev pub bytes_text : ℕ → ℕ → List ℕ
bytes_text page_size pages = decimal (pages * page_size)

abbrev pub amount_text : ℕ → Amount → List ℕ
amount_text page_size Max = codes "max"
amount_text page_size (Pages n) = bytes_text page_size n

abbrev pub flag_text : OomGroup → List ℕ
flag_text Single = codes "0"
flag_text Whole = codes "1"

-- a line of a key: its name, a space, and how often it was counted
abbrev pub key_line : List ℕ → ℕ → List ℕ
key_line name n = line (name ++ 32 ∷ decimal n)

-- the six keys in order
abbrev pub events_text : EventCounts → List ℕ
events_text counts =
    key_line (codes "low") counts.low
    ++ (key_line (codes "high") counts.high
    ++ (key_line (codes "max") counts.max
    ++ (key_line (codes "oom") counts.oom
    ++ (key_line (codes "oom_kill") counts.oom_kill
    ++ key_line (codes "oom_group_kill") counts.oom_group_kill))))

-- the two types in order, in bytes
abbrev pub stat_text : ℕ → MemoryStat → List ℕ
stat_text page_size stat = key_line (codes "anon") (stat.anon * page_size) ++ key_line (codes "file") (stat.file * page_size)

-- what a control file says with pages of this size: bytes, or `max`, or a flag, or a line for each key or type
abbrev pub text_of : ℕ → Shown → List ℕ
text_of page_size (shown.Pages n) = line (bytes_text page_size n)
text_of page_size (shown.Amount amount) = line (amount_text page_size amount)
text_of page_size (shown.Flag flag) = line (flag_text flag)
text_of page_size (shown.Events counts) = events_text counts
text_of page_size (shown.Stat stat) = stat_text page_size stat

-- ---- files

-- the file of a name
abbrev pub file_named : List ℕ → Option ControlFile
file_named name =
    if bytes_eq name (codes "memory.current") then Some file.Current
    else if bytes_eq name (codes "memory.max") then Some file.Max
    else if bytes_eq name (codes "memory.min") then Some (file.Guard guard.Min)
    else if bytes_eq name (codes "memory.low") then Some (file.Guard guard.Low)
    else if bytes_eq name (codes "memory.oom.group") then Some file.OomGroup
    else if bytes_eq name (codes "memory.events") then Some file.Events
    else if bytes_eq name (codes "memory.events.local") then Some file.EventsLocal
    else if bytes_eq name (codes "memory.stat") then Some file.Stat
    else if bytes_eq name (codes "memory.reclaim") then Some file.Reclaim
    else None

-- the root has `memory.reclaim` alone
abbrev pub has_file : ℕ → ControlFile → Bool
has_file g file.Current = not (g == 0)
has_file g file.Max = not (g == 0)
has_file g (file.Guard guard) = not (g == 0)
has_file g file.OomGroup = not (g == 0)
has_file g file.Events = not (g == 0)
has_file g file.EventsLocal = not (g == 0)
has_file g file.Stat = not (g == 0)
has_file g file.Reclaim = true

-- The table of what was watched, as comma-separated values.
use Rattle.std.specs.Prelude.{ℕ, ◌-◌, ◌==◌, ◌||◌, not, Bool, true, if◌then◌else◌, List, [], ◌∷◌, ◌++◌, codes, decimal, slice_index_or, Option, Some, None}
use Rattle.std.specs.List.{list_any, flat_map}
use Rattle.machine.specs.declared.amount.Amount.{Amount}
use Rattle.machine.specs.declared.amount.Amount.TheVariants.{Max, Pages}
use Rattle.machine.specs.declared.record.MemoryStat.{MemoryStat}
use Rattle.machine.specs.declared.record.EventCounts.{EventCounts}
use Rattle.machine.specs.Control.{bytes_text}
use Rattle.book.specs.declared.looks.GroupLook.{GroupLook}
use Rattle.charts.specs.declared.watching.Machine.{Machine}
use Rattle.charts.specs.declared.watching.Shown.{Shown}
use Rattle.charts.specs.Watched.{Seen}

-- its first line
abbrev pub head : List ℕ
head = codes "line,group,current,anon,file,max,min,low,refused,oom,oom_kill,used,free,swap,phase\n"

-- a cell, with its comma
abbrev pub cell : List ℕ → List ℕ
cell text = text ++ 44 ∷ []

-- a setting in bytes, or max. A page has this size, here and below
abbrev pub amount_text : ℕ → Amount → List ℕ
amount_text page_size Max = codes "max"
amount_text page_size (Pages pages) = bytes_text page_size pages

-- what is charged, in bytes
abbrev pub charges_text : ℕ → ℕ → MemoryStat → List ℕ
charges_text page_size usage stat = cell (bytes_text page_size usage) ++ (cell (bytes_text page_size stat.anon) ++ cell (bytes_text page_size stat.file))

-- its max, its min and its low
abbrev pub settings_text : ℕ → GroupLook → List ℕ
settings_text page_size look = cell (amount_text page_size look.max) ++ (cell (amount_text page_size look.min) ++ cell (amount_text page_size look.low))

-- what was counted
abbrev pub counts_text : EventCounts → List ℕ
counts_text counts = cell (decimal counts.max) ++ (cell (decimal counts.oom) ++ cell (decimal counts.oom_kill))

-- the frames of the machine in use and free, and its swap in use, in bytes. (Excludes the free ones in the place of those in use.)
abbrev pub machine_text : ℕ → Machine → List ℕ
machine_text page_size machine = cell (bytes_text page_size machine.used) ++ (cell (bytes_text page_size machine.free) ++ cell (bytes_text page_size machine.swap))

-- a comma, a quote or a carriage return
abbrev pub is_special : ℕ → Bool
is_special b = b == 44 || (b == 34 || b == 13)

-- a quote stands twice between quotes
abbrev pub doubled : ℕ → List ℕ
doubled b = if b == 34 then 34 ∷ 34 ∷ [] else b ∷ []

-- the last cell of a line: a text, between quotes where it needs them
abbrev pub text_cell : List ℕ → List ℕ
text_cell text = if list_any is_special text then 34 ∷ (flat_map doubled text ++ 34 ∷ []) else text

-- the last cell, and the end of the line
abbrev pub end_text : List ℕ → List ℕ
end_text phase = text_cell phase ++ 10 ∷ []

-- the line's number, and the group
abbrev pub cells_text : ℕ → ℕ → List ℕ → GroupLook → MemoryStat → List ℕ
cells_text page_size number path look stat = cell (decimal number) ++ (cell path ++ (charges_text page_size look.usage stat ++ (settings_text page_size look ++ counts_text look.local)))

-- the line of a group: the machine and the phase stand at its end
abbrev pub line_text : ℕ → ℕ → List ℕ → Machine → List ℕ → GroupLook → MemoryStat → List ℕ
line_text page_size number phase machine path look stat = cells_text page_size number path look stat ++ (machine_text page_size machine ++ end_text phase)

abbrev pub stat_or_none : Option MemoryStat → MemoryStat
stat_or_none None = record { anon = 0; file = 0 }
stat_or_none (Some stat) = stat

-- and nothing where no group has the path
abbrev pub look_text : ℕ → ℕ → List ℕ → Machine → List ℕ → Option MemoryStat → Option GroupLook → List ℕ
look_text page_size number phase machine path stat None = []
look_text page_size number phase machine path stat (Some look) = line_text page_size number phase machine path look (stat_or_none stat)

-- the lines of all paths behind one step
abbrev pub groups_text : ℕ → ℕ → List ℕ → Machine → List (List ℕ) → List Shown → List ℕ
groups_text page_size number phase machine [] shown = []
groups_text page_size number phase machine (path ∷ paths) [] = []
groups_text page_size number phase machine (path ∷ paths) (one ∷ shown) = look_text page_size number phase machine path one.stat one.look ++ groups_text page_size number phase machine paths shown

-- no other step of this line of the script follows
abbrev pub is_last : ℕ → List ℕ → Bool
is_last number [] = true
is_last number (next ∷ numbers) = not (next == number)

-- the phase of the line of this number, where each line has one, the first that of number 1
abbrev pub phase_of : List (List ℕ) → ℕ → List ℕ
phase_of phases number = slice_index_or phases (number - 1) []

-- the lines behind all steps: for each line of the script those of its last step. (Excludes a table that leaves a line out, has one twice, or has the numbers
-- or the phase of another step.)
abbrev pub steps_text : ℕ → List ℕ → List (List ℕ) → List (List ℕ) → List Seen → List ℕ
steps_text page_size [] phases paths rows = []
steps_text page_size (number ∷ numbers) phases paths [] = []
steps_text page_size (number ∷ numbers) phases paths (row ∷ rows) =
    (if is_last number numbers then groups_text page_size number (phase_of phases number) row.machine paths row.groups else []) ++ steps_text page_size numbers phases paths rows

abbrev pub table_text : ℕ → List ℕ → List (List ℕ) → List (List ℕ) → List Seen → List ℕ
table_text page_size numbers phases paths rows = head ++ steps_text page_size numbers phases paths rows

-- The state of the plain machine: what the opening fixed, and its tables. Nothing in it is linked or kept twice, and nothing is counted in it but events.
use Rattle.std.specs.Prelude.{ℕ, ◌+◌, ◌-◌, ◌&&◌, nat_lt, nat_le, not, Bool, true, List, [], ◌∷◌, length, map, sum, Option}
use Rattle.std.specs.List.{list_all, list_any}
use Rattle.std.specs.Str.{bytes_eq}
use Rattle.machine.specs.declared.amount.Amount.{Amount}
use Rattle.machine.specs.declared.config.Config.{Config}
use Rattle.machine.specs.declared.config.File.{File}
use Rattle.machine.specs.declared.config.Placement.{Placement}
use Rattle.machine.specs.declared.config.Watermarks.{Watermarks}
use Rattle.machine.specs.Names.{is_name}
use Rattle.machine.specs.Tree.{Node, root}
use Rattle.machine.specs.Pages.{Pages, charged, charged_anon, charged_file, used_frames, used_swap}
use Rattle.machine.specs.Tasks.{Tasks, PageTables}
use Rattle.machine.specs.declared.record.Guard.{Guard}
use Rattle.machine.specs.declared.record.Guard.TheVariants as guard
use Rattle.machine.specs.declared.record.Limits.{Limits}
use Rattle.machine.specs.declared.record.OomGroup.{OomGroup}
use Rattle.machine.specs.declared.record.OomGroup.TheVariants.{Single}
use Rattle.machine.specs.declared.record.MemoryStat.{MemoryStat}
use Rattle.machine.specs.declared.record.EventCounts.{EventCounts}
use Rattle.machine.specs.Counts.{no_limits, no_counts, over}
use Rattle.machine.specs.Protection.{effective, setting_of}

-- what the opening fixes: frames, swap blocks, the sizes of the files in pages, the daemon's marks, the trace's limit, whether protection is recursive, where pages enter that are
-- read in, and how many bytes a page stands for in amounts and texts (its content has `page_size` of `Access` bytes)
pub record Opening : Type 0 where
  pub frames : ℕ
  pub swap : ℕ
  pub files : List ℕ
  pub watermarks : Watermarks
  pub trace_limit : ℕ
  pub recursive : Bool
  pub placement : Placement
  pub page_size : ℕ

-- how many page numbers there are: as many as pages at most, of which each has a frame or a swap block
abbrev pub page_numbers : Opening → ℕ
page_numbers opening = opening.frames + opening.swap

-- how many pages each file has
abbrev pub sizes_of : List File → List ℕ
sizes_of files = map (λ file. file.pages) files

-- the opening that a configuration asks for
abbrev pub opening_of : Config → Opening
opening_of config = record { frames = config.frames; swap = config.swap; files = sizes_of config.files; watermarks = config.watermarks; trace_limit = config.trace; recursive = config.recursive; placement = config.placement; page_size = config.page_size.bytes }

-- the low mark is at most the high one, and that at most the frames
abbrev pub are_watermarks : Watermarks → ℕ → Bool
are_watermarks watermarks frames = nat_le watermarks.low watermarks.high && nat_le watermarks.high frames

-- how many blocks the device has to have: the swap blocks, which come first, and behind them one for each page of a file
abbrev pub blocks_of : Config → ℕ
blocks_of config = config.swap + sum (sizes_of config.files)

-- a file has a name as a group has, and a page at least
abbrev pub is_file : File → Bool
is_file file = is_name file.name && nat_le 1 file.pages

-- no two files have one name
abbrev pub are_apart : List File → Bool
are_apart [] = true
are_apart (file ∷ files) = not (list_any (λ (other : File). bytes_eq other.name file.name) files) && are_apart files

-- at most 64 files
abbrev pub are_files : List File → Bool
are_files files = nat_le (length files) 64 && (list_all is_file files && are_apart files)

-- 1 to 65,536 frames, at most 65,536 swap blocks, marks in order, and a trace of 1 to 1,048,576 entries
abbrev pub is_sized : Config → Bool
is_sized config =
    (nat_le 1 config.frames && nat_le config.frames 65536)
    && (nat_le config.swap 65536 && (are_watermarks config.watermarks config.frames && (nat_le 1 config.trace && nat_le config.trace 1048576)))

-- within the limits: these numbers, the files, and at most 131,072 blocks for both
abbrev pub is_config : Config → Bool
is_config config = is_sized config && (are_files config.files && nat_le (blocks_of config) 131072)

-- the groups, their limits and flags, the pages, the tasks and their page tables, and how often each event was counted at each group itself
pub record State : Type 0 where
  pub opening : Opening
  pub tree : List Node
  pub limits : List Limits
  pub flags : List OomGroup
  pub pages : Pages
  pub tasks : Tasks
  pub page_tables : PageTables
  pub counted : List EventCounts

-- the root alone
abbrev pub first_state : Opening → State
first_state opening = record { opening = opening; tree = root ∷ []; limits = no_limits ∷ []; flags = Single ∷ []; pages = []; tasks = []; page_tables = []; counted = no_counts ∷ [] }

-- how many pages with a frame are at or under a group
abbrev pub usage : State → ℕ → ℕ
usage s a = charged s.tree s.pages a

-- of these, how many are memory of tasks and how many of files
abbrev pub stat_of : State → ℕ → MemoryStat
stat_of s a = record { anon = charged_anon s.tree s.pages a; file = charged_file s.tree s.pages a }

-- the lowest group from g up with no room for one page more
abbrev pub over_in : State → ℕ → Option ℕ
over_in s g = over s.tree s.limits (usage s) g

-- how many frames no page has
abbrev pub free_frames : State → ℕ
free_frames s = s.opening.frames - used_frames s.pages

abbrev pub is_frame_free : State → Bool
is_frame_free s = nat_lt (used_frames s.pages) s.opening.frames

abbrev pub is_swap_free : State → Bool
is_swap_free s = nat_lt (used_swap s.pages) s.opening.swap

-- the effective min, or low, of a group for a reclaim of the target
abbrev pub effective_in : State → Guard → ℕ → ℕ → Amount
effective_in s guard target g = effective s.opening.recursive s.tree (setting_of guard s.limits) (usage s) target g

abbrev pub effective_min : State → ℕ → ℕ → Amount
effective_min s target g = effective_in s guard.Min target g

abbrev pub effective_low : State → ℕ → ℕ → Amount
effective_low s target g = effective_in s guard.Low target g

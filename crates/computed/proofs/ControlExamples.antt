-- Examples: amounts, and what control files say.
use Rattle.std.proofs.Common.{◌≡◌, true, false, Some, None, refl}
use Rattle.std.specs.Prelude.{◌∷◌, [], ◌++◌, codes}
use Rattle.std.specs.Fmt.{digits}
use Rattle.machine.specs.declared.amount.Amount.TheVariants.{Max, Pages}
use Rattle.machine.specs.declared.control.ControlFile.TheVariants as file
use Rattle.machine.specs.declared.record.Guard.TheVariants as guard
use Rattle.machine.specs.declared.reply.Shown.TheVariants as shown
use Rattle.machine.specs.Amounts.{exceeds}
use Rattle.machine.specs.Control.{amount_of, file_named, has_file, text_of}

-- ---- amounts

-- bytes are rounded down to whole pages
pages-down : amount_of 4096 (codes "8191") ≡ Some (Pages 1)
pages-down = refl

-- a suffix multiplies by 1,024, small or large: 2 GB are 524,288 pages
suffix : amount_of 4096 (codes "2G") ≡ Some (Pages 524288)
suffix = refl

-- large or small
suffix-small : amount_of 4096 (codes "12k") ≡ Some (Pages 3)
suffix-small = refl

-- and there is one at most
suffix-two : amount_of 4096 (codes "1KK") ≡ None
suffix-two = refl

-- `max` is written in small letters
max-large : amount_of 4096 (codes "MAX") ≡ None
max-large = refl

-- and then it is more than every number
max-small : amount_of 4096 (codes "max") ≡ Some Max
max-small = refl

-- less than a page is none: a low of so much protects nothing
pages-none : amount_of 4096 (codes "4095") ≡ Some (Pages 0)
pages-none = refl

-- no zero stands in front
zero_in_front : amount_of 4096 (codes "010") ≡ None
zero_in_front = refl

-- 2^64 bytes are too many
too_large : amount_of 4096 (codes "16777216T") ≡ None
too_large = refl

-- no count is more than `max`
exceeds-max : exceeds 1000000 Max ≡ false
exceeds-max = refl

-- and none is more than itself
exceeds-equal : exceeds 4 (Pages 4) ≡ false
exceeds-equal = refl

-- ---- files

-- what a file says ends with a line's end, and is in bytes
says-pages : text_of 4096 (shown.Pages 3) ≡ codes "12288" ++ 10 ∷ []
unfolding digits
says-pages = refl

-- a low of 10,000 bytes is one of 2 pages
low-down : amount_of 4096 (codes "10000") ≡ Some (Pages 2)
low-down = refl

-- and `memory.low` says how many bytes these are
says-low : text_of 4096 (shown.Amount (Pages 2)) ≡ codes "8192" ++ 10 ∷ []
unfolding digits
says-low = refl

-- or `max`
says-low_max : text_of 4096 (shown.Amount Max) ≡ codes "max" ++ 10 ∷ []
says-low_max = refl

-- a line for each key, in this order
says-events : text_of 4096 (shown.Events (record { low = 0; high = 0; max = 12; oom = 2; oom_kill = 1; oom_group_kill = 0 }))
    ≡ codes "low 0" ++ 10 ∷ codes "high 0" ++ 10 ∷ codes "max 12" ++ 10 ∷ codes "oom 2" ++ 10 ∷ codes "oom_kill 1" ++ 10 ∷ codes "oom_group_kill 0" ++ 10 ∷ []
unfolding digits
says-events = refl

-- `low` is the first
says-events_low : text_of 4096 (shown.Events (record { low = 3; high = 0; max = 0; oom = 0; oom_kill = 0; oom_group_kill = 0 }))
    ≡ codes "low 3" ++ 10 ∷ codes "high 0" ++ 10 ∷ codes "max 0" ++ 10 ∷ codes "oom 0" ++ 10 ∷ codes "oom_kill 0" ++ 10 ∷ codes "oom_group_kill 0" ++ 10 ∷ []
unfolding digits
says-events_low = refl

-- memory of tasks, then of files, each in bytes
says-stat : text_of 4096 (shown.Stat (record { anon = 3; file = 2 })) ≡ codes "anon 12288" ++ 10 ∷ codes "file 8192" ++ 10 ∷ []
unfolding digits
says-stat = refl

-- it is the file of this name
named-stat : file_named (codes "memory.stat") ≡ Some file.Stat
named-stat = refl

-- of every group but the root
file-stat : has_file 0 file.Stat ≡ false
file-stat = refl

-- each of the two that protect has its own name
named-low : file_named (codes "memory.low") ≡ Some (file.Guard guard.Low)
named-low = refl

named-min : file_named (codes "memory.min") ≡ Some (file.Guard guard.Min)
named-min = refl

-- in small letters alone
named-large : file_named (codes "memory.LOW") ≡ None
named-large = refl

-- the root has no `memory.low`
file-low_root : has_file 0 (file.Guard guard.Low) ≡ false
file-low_root = refl

-- every other group has
file-low : has_file 1 (file.Guard guard.Low) ≡ true
file-low = refl

-- the root has `memory.reclaim`
file-reclaim : has_file 0 file.Reclaim ≡ true
file-reclaim = refl

-- and no other file
file-current : has_file 0 file.Current ≡ false
file-current = refl

-- a file that there is not
file-unknown : file_named (codes "memory.high") ≡ None
file-unknown = refl

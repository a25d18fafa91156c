use Rattle.std.proofs.Common.{◌≡◌, ◌+◌, ◌≤◌, take}
use Rattle.std.specs.Prelude.{sum}
use Rattle.machine.specs.State.{sizes_of}
use Rattle.files.proofs.config.blocks_behind.Given as goal

-- the blocks of the files so far
abbrev pub invariant-loop-file : goal.invariant-loop-file
invariant-loop-file l = record { so_far : l.all ≡ l.used + sum (take l.file-index (sizes_of l.files)); within : l.all ≤ 131072 }

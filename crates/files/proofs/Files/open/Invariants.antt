use Rattle.std.proofs.Common.{◌≡◌, take}
use Rattle.machine.specs.State.{sizes_of}
use Rattle.files.specs.Files.{AreExtents, lengths}
use Rattle.files.proofs.Files.open.Given as goal

-- the extents of the files so far
abbrev pub invariant-loop-file : goal.invariant-loop-file
invariant-loop-file l = record { sizes : lengths l.extents.items ≡ take l.file-index (sizes_of l.file-items); extents : AreExtents l.first l.extents.items l.end }

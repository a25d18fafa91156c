use Rattle.std.proofs.Common.{◌≡◌, map, take}
use Rattle.scenario_machines.specs.Machines.{file_for}
use Rattle.scenario_machines.proofs.machines.files_of.Given as goal

-- the files before this one
abbrev pub invariant-loop-file : goal.invariant-loop-file
invariant-loop-file l = l.files ≡ map (file_for l.names) (take l.file-index l.file-items)

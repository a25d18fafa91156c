use Rattle.std.proofs.Common.{◌≡◌, ◌++◌, take, flat_map}
use Rattle.std.specs.String.{string_bytes}
use Rattle.scenario_machines.specs.RawLines.{file_line}
use Rattle.scenario_machines.proofs.machines.add_files.Given as goal

-- the files before this one
abbrev pub invariant-loop-file : goal.invariant-loop-file
invariant-loop-file l = string_bytes l.text ≡ string_bytes l.fn.text ++ flat_map (file_line l.names) (take l.file-index l.file-items)

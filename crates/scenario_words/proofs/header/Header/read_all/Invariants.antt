use Rattle.std.proofs.Common.{◌≡◌, take, drop}
use Rattle.scenario_words.specs.Header.{machine_of, lines_said, all_said}
use Rattle.scenario_words.proofs.header.Header.read_all.Given as goal

-- what the lines from this one on say after those before is what all say
abbrev pub invariant-loop-place : goal.invariant-loop-place
invariant-loop-place l = lines_said (take l.place l.lines) (machine_of l.self, l.names) (drop l.place l.lines) ≡ all_said (machine_of l.fn.self, l.fn.names) l.lines

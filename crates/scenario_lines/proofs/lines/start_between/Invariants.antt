use Rattle.std.proofs.Common.{◌≡◌, ◌+◌, ◌-◌}
use Rattle.scenario_lines.specs.LineLists.{starts_from}
use Rattle.scenario_lines.proofs.LineLemmas.{onto_all}
use Rattle.scenario_lines.proofs.lines.start_between.Given as goal

-- the starts so far, with those from this number on, are all
abbrev pub invariant-loop-number : goal.invariant-loop-number
invariant-loop-number l =
    onto_all l.bursts.items (starts_from l.scene l.word l.name l.path l.number (l.last + 1 - l.number)) ≡ starts_from l.fn.scene l.word l.name l.path l.first (l.last + 1 - l.first)

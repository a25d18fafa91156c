use Rattle.std.proofs.Common.{◌≡◌, drop, fold}
use Rattle.scenario_lines.specs.HeaderLines.{begun_noted}
use Rattle.scenario_lines.proofs.scene.Scene.note_begun.Given as goal

-- nothing else has changed; the sizes so far, with those of the lines from this one on, are all
abbrev pub invariant-loop-line : goal.invariant-loop-line
invariant-loop-line l = record {
  others : l.self ≡ record l.fn.self { rounded = l.self.rounded };
  page : l.self.machine.page ≡ l.fn.self.machine.page;
  noted : fold (begun_noted l.fn.self.machine.page l.first) l.self.rounded (drop l.line-index l.lines) ≡ fold (begun_noted l.fn.self.machine.page l.first) l.fn.self.rounded l.lines;
}

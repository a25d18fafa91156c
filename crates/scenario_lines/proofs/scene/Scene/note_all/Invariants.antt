use Rattle.std.proofs.Common.{◌≡◌, drop, fold}
use Rattle.scenario_lines.specs.Rounding.{sizes_noted}
use Rattle.scenario_lines.proofs.scene.Scene.note_all.Given as goal

-- nothing else has changed; the sizes so far, with those of the lines from this one on, are all
abbrev pub invariant-loop-line : goal.invariant-loop-line
invariant-loop-line l = record {
  others : l.self ≡ record l.fn.self { rounded = l.self.rounded };
  page : l.self.machine.page ≡ l.fn.self.machine.page;
  noted : fold (sizes_noted l.fn.self.machine.page) l.self.rounded (drop l.line-index l.lines) ≡ fold (sizes_noted l.fn.self.machine.page) l.fn.self.rounded l.lines;
}

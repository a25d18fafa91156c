use Rattle.std.proofs.Common.{◌≡◌, ◌+◌, ◌-◌, ◌*◌, ◌/◌, length}
use Rattle.scenario_lines.specs.Rounding.{values_noted}
use Rattle.scenario_lines.proofs.rounded.add_values.Given as goal

-- the values so far, with those from this key on, are all
abbrev pub invariant-loop-key : goal.invariant-loop-key
invariant-loop-key l = record {
  keys : l.keys ≡ (length l.words - 1) / 2;
  all : values_noted l.page.bytes l.rounded.items l.words (2 + 2 * l.key) (l.keys - l.key) ≡ values_noted l.page.bytes l.fn.rounded.items l.words 2 ((length l.words - 1) / 2);
}

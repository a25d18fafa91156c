use Rattle.std.proofs.Common.{◌≡◌, ◌+◌, ◌-◌, ◌*◌, [], ◌∷◌}
use Rattle.scenario_lines.specs.LineLists.{onto_lists, sets_from, key_count}
use Rattle.scenario_lines.proofs.lines.sets.Given as goal

-- the lists so far, with those from this key on, are all
abbrev pub invariant-loop-key : goal.invariant-loop-key
invariant-loop-key l = record {
  keys : l.keys ≡ key_count l.words;
  all : onto_lists l.bursts.items (sets_from l.scene l.words l.path (2 + 2 * l.key) (l.keys - l.key)) ≡ onto_lists (l.fn.first ∷ []) (sets_from l.scene l.words l.path 2 (key_count l.words));
}

use Rattle.std.proofs.Common.{◌≡◌, drop, fold}
use Rattle.scenario_words.specs.Names.{mentioned}
use Rattle.scenario_lines.proofs.scene.mention_all.Given as goal

-- the names from this one on, mentioned after those before it
abbrev pub invariant-loop-name : goal.invariant-loop-name
invariant-loop-name l = fold mentioned l.names (drop l.name-index l.path) ≡ fold mentioned l.fn.names l.path

use Rattle.std.proofs.Common.{◌≡◌, drop}
use Rattle.scenario_words.specs.Paths.{begins_with}
use Rattle.scenario_words.proofs.paths.begins_with.Given as goal

-- the rest begins with the rest of the others, if the names begin with the others
abbrev pub invariant-loop-other : goal.invariant-loop-other
invariant-loop-other l = begins_with l.rest (drop l.other-index l.others) ≡ begins_with l.fn.names l.others

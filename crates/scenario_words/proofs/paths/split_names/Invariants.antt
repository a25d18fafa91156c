use Rattle.std.proofs.Common.{◌≡◌, map}
use Rattle.scenario_words.proofs.paths.split_names.Given as goal

abbrev pub invariant-loop-name : goal.invariant-loop-name
invariant-loop-name l = l.names.items ≡ map (λ x. x.now) l.yielded

use Rattle.std.proofs.Common.{◌≡◌, ◌<◌, length, arith}
use Rattle.scenario_words.specs.Paths.{begins_with}
use Rattle.scenario_words.proofs.PathLemmas.{below}
use Rattle.scenario_words.proofs.paths.Path.is_below.Goals as goal

pub returns-then-len-clause-longer : goal.returns-then-len-clause-longer
returns-then-len-clause-longer c =
    let test : c.begins_with.result ≡ begins_with c.args.self.now c.args.other.now = cc in
    let long : length c.args.other.now < length c.args.self.now = grind arith in
    below c.args.self.now c.args.other.now c.begins_with.result test long

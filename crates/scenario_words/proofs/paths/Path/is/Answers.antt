use Rattle.std.proofs.Common.{◌≡◌, length, arith}
use Rattle.scenario_words.specs.Paths.{begins_with}
use Rattle.scenario_words.proofs.PathLemmas.{same}
use Rattle.scenario_words.proofs.paths.Path.is.Goals as goal

pub returns-then-len-clause-same : goal.returns-then-len-clause-same
returns-then-len-clause-same c =
    let test : c.begins_with.result ≡ begins_with c.args.self.now c.args.other.now = cc in
    let long : length c.args.self.now ≡ length c.args.other.now = grind arith in
    same c.args.self.now c.args.other.now c.begins_with.result test long

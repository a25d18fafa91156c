use Rattle.std.proofs.Common.{rules}
use Rattle.expansion.proofs.StillLemmas.{quiet_open, is_quiet_there}
use Rattle.expansion.proofs.expansion.Expansion.cut.Goals as goal

pub returns-in-Some : goal.returns-in-Some
returns-in-Some c = record { same = λ said. let none = quiet_open c.args.self.now (is_quiet_there c.args.self.now said) in search rules }

use Rattle.std.proofs.Common.{arith}
use Rattle.driver.proofs.seats.Seats.len.Goals as goal

-- no list is so long
pub returns-clause-few : goal.returns-clause-few
returns-clause-few c = let ok = c.self.inside.list.ok.0 in let len = c.len.ensures in omega (arith, ok, len)

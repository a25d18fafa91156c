use Rattle.std.proofs.Common.{◌+◌, ◌^◌, arith}
use Rattle.page_state.proofs.joined.State.count_victim.Goals as goal

pub returns-in-Some-clause-most : goal.returns-in-Some-clause-most
returns-in-Some-clause-most c = λ k. let le = c.count.ensures.most (2 ^ 63 + 1) c.requires.few k in omega (arith, le)

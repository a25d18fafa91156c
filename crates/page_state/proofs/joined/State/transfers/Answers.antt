use Rattle.std.proofs.Common.{arith}
use Rattle.page_state.proofs.PartsLemmas.{used-split}
use Rattle.page_state.proofs.joined.State.transfers.Goals as goal

pub overflow_cast-result : goal.overflow_cast-result
overflow_cast-result c =
    let is = c.self.invariant.agree in
    let split = used-split c.self.inside.parts.pages.pages in
    let listed = is.moving.len in
    let all = is.kept.frames.all in
    let few = is.few in
    omega (arith, split, listed, all, few)

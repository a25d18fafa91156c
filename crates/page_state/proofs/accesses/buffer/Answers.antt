use Rattle.std.proofs.Common.{ℕ, List, ap, ◌∙◌, slice_index}
use Rattle.frames.proofs.FrameLemmas.{get_or-zeros}
use Rattle.page_state.proofs.accesses.buffer.Goals as goal

pub returns : goal.returns
returns c = record { zeros = λ o. ap (λ (xs : List ℕ). slice_index xs o) c.in_ok-buffer.ensures.ok ∙ get_or-zeros 4096 o 0 }

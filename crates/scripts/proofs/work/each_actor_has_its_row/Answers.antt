use Rattle.scripts.proofs.WorkLemmas.{work_is_whole}
use Rattle.scripts.proofs.work.each_actor_has_its_row.Goals as goal

pub returns : goal.returns
returns c = λ ps. work_is_whole ps

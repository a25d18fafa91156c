use Rattle.std.proofs.Common.{◌++◌, ◌∷◌}
use Rattle.machine.specs.FirstBytes.{first_of}
use Rattle.laws.proofs.LawLemmas.{reads_give_last_writes}
use Rattle.laws.proofs.audited_reads_gave_last_writes.Goals as goal

pub returns : goal.returns
returns c = λ later earlier entry passes. reads_give_last_writes (first_of (later ++ entry ∷ earlier)) later earlier entry passes.1

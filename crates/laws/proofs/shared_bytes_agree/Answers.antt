use Rattle.legal.proofs.SharedLemmas.{shared_bytes_agree}
use Rattle.laws.proofs.shared_bytes_agree.Goals as goal

pub returns : goal.returns
returns c opening first history s legal t v u w p o at at' = shared_bytes_agree opening first history s legal t v u w p o at at'

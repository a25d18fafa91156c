use Rattle.legal.proofs.SoundLemmas.{file_pages_are_one}
use Rattle.laws.proofs.file_pages_are_one.Goals as goal

pub returns : goal.returns
returns c opening history s legal p p' file q page other there there' holds holds' = file_pages_are_one opening history s legal file q p p' page other there there' holds holds'

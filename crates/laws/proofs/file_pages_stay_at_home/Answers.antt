use Rattle.legal.proofs.SoundLemmas.{legal-fit}
use Rattle.laws.proofs.file_pages_stay_at_home.Goals as goal

pub returns : goal.returns
returns c opening history s legal p page there = (legal-fit opening history s legal p page there).filed

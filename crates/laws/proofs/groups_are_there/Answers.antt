use Rattle.legal.proofs.SoundLemmas.{legal-fit, legal-sound}
use Rattle.laws.proofs.groups_are_there.Goals as goal

pub returns : goal.returns
returns c opening history s legal = (λ p page there. (legal-fit opening history s legal p page there).live, (legal-sound opening history s legal).1.homes)

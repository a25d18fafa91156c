use Rattle.std.proofs.Common.{◌∙◌}
use Rattle.lru_gen.proofs.SeenLemmas.{listed_seen}
use Rattle.lru_gen.proofs.gens.Gens.is_listed.Goals as goal

pub returns : goal.returns
returns c = c.is_listed.ensures ∙ listed_seen c.self.view_is c.self.invariant _

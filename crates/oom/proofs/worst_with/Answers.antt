use Rattle.std.proofs.Common.{◌∙◌, sym}
use Rattle.oom.proofs.WorstLemmas.{worst-larger}
use Rattle.oom.proofs.worst_with.Goals as goal

pub returns-in_default : goal.returns-in_default
returns-in_default c =
    let hit = sym c.is_candidate.ensures ∙ c.if-not-is_candidate.false in
    worst-larger _ _ _ _ _ _ _ _ c.requires c.in-Some.is hit c.size-size.ensures c.if-size-other.false

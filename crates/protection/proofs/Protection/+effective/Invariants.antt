use Rattle.protection.proofs.Protection.+effective.Given as goal

abbrev pub decreases-effective : goal.decreases-effective
decreases-effective l = l.group.0

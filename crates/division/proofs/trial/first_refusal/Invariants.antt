use Rattle.std.proofs.Common.{◌≡◌, None, take}
use Rattle.std.specs.List.{find}
use Rattle.division.specs.Reasons.{refuses}
use Rattle.division.proofs.trial.first_refusal.Given as goal

abbrev pub invariant-loop-reply : goal.invariant-loop-reply
invariant-loop-reply l = find refuses (take l.reply-index l.said) ≡ None

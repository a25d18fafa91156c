use Rattle.std.proofs.Common.{[], ◌∷◌, ◌++◌, ap, ◌∙◌}
use Rattle.machine.specs.declared.command.Reply.{Reply as Told_by}
use Rattle.live.proofs.RowLemmas.{did_none, did_judged}
use Rattle.live.proofs.ShareLemmas.{carries-both}
use Rattle.live.proofs.live.Live.one.Goals as goal

pub returns-in-Err-clause-did : goal.returns-in-Err-clause-did
returns-in-Err-clause-did g c =
    did_none _ _ _ _ _ _ _ c.in-Err.ensures.err.0 (c.push_reserved.ensures.items ∙ ap (λ (x : Told_by). c.args.answers.now.items ++ x ∷ []) c.out_of_memory.ensures)

pub returns-in-Ok-clause-did : goal.returns-in-Ok-clause-did
returns-in-Ok-clause-did g c = did_judged _ _ _ _ _ _ _ _ _ c.in-Ok.ensures.looked c.judged.ensures.runs

pub returns-in-Ok-clause-share : goal.returns-in-Ok-clause-share
returns-in-Ok-clause-share g c =
    carries-both _ _ _ _ _ _ c.in-Ok.ensures.share c.judged.ensures.share

use Rattle.std.proofs.Common.{◌∙◌, lit<}
use Rattle.std.proofs.lemmas.Iterator.Consumers.{YieldsList-end}
use Rattle.std.proofs.lemmas.Iterator.Splits.{YieldsList-from_str_split}
use Rattle.scenario_words.proofs.paths.split_names.Goals as goal

pub returns : goal.returns
returns c =
    c.loop-name.invariant
    ∙ (YieldsList-end (YieldsList-from_str_split 47 c.args.text.now (lit< tt) (cc) (cc) (cc)) c.loop-name.yielded _ c.loop-name.yielded_by _ _ c.in-None.is c.next.ensures.steps).0

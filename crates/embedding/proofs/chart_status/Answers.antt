use Rattle.std.proofs.Common.{codes}
use Rattle.embedding.specs.Asked.{chart_options_of}
use Rattle.call_buffers.proofs.StatusLemmas.{bad_unsound}
use Rattle.embedding.proofs.chart_status.Goals as goal

pub returns-in-Err-clause-bad : goal.returns-in-Err-clause-bad
returns-in-Err-clause-bad c = bad_unsound (chart_options_of c.args.asked) (codes "script") _ _ c.in-Err.ensures.why _ c.tell.ensures.either

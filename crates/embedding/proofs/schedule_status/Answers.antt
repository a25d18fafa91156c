use Rattle.std.proofs.Common.{codes}
use Rattle.embedding.specs.Asked.{options_of}
use Rattle.call_buffers.proofs.StatusLemmas.{bad_unsound}
use Rattle.embedding.proofs.schedule_status.Goals as goal

pub returns-in-Err-clause-bad : goal.returns-in-Err-clause-bad
returns-in-Err-clause-bad c = bad_unsound (options_of c.args.asked) (codes "script") _ _ c.in-Err.ensures.why _ c.tell.ensures.either

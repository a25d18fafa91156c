use Rattle.std.proofs.Common.{codes}
use Rattle.printer.specs.Asked.{plain_as}
use Rattle.call_buffers.proofs.StatusLemmas.{bad_unsound}
use Rattle.embedding.proofs.check_status.Goals as goal

pub returns-in-Err-clause-bad : goal.returns-in-Err-clause-bad
returns-in-Err-clause-bad c = bad_unsound (plain_as c.args.placement) (codes "script") _ _ c.in-Err.ensures.why _ c.tell_named.ensures.either

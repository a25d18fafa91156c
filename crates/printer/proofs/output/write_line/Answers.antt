use Rattle.std.proofs.Common.{[], ◌∷◌}
use Rattle.printer.proofs.ByteLemmas.{starts-front}
use Rattle.printer.specs.SinkLaws.{starts-behind}
use Rattle.printer.proofs.output.write_line.Goals as goal

pub returns-in_err-write_bytes-clause-start : goal.returns-in_err-write_bytes-clause-start
returns-in_err-write_bytes-clause-start g c = starts-front _ _ c.args.bytes.now (10 ∷ []) c.write_bytes.ensures.start

pub returns-clause-start : goal.returns-clause-start
returns-clause-start g c = starts-behind _ _ _ c.args.bytes.now (10 ∷ []) c.in_ok-write_bytes.ensures.whole c.write_bytes-2.ensures.start

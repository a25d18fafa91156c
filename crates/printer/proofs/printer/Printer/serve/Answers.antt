use Rattle.printer.specs.SinkLaws.{starts-whole, starts-kept}
use Rattle.printer.proofs.ResultLemmas.{on_any_err}
use Rattle.printer.proofs.printer.Printer.serve.Goals as goal

-- it was written, and the writer keeps it
pub returns-in_err-heed-in-Some-clause-start : goal.returns-in_err-heed-in-Some-clause-start
returns-in_err-heed-in-Some-clause-start g c =
    on_any_err c.from_residual.result (λ plain. starts-kept _ _ _ _ (starts-whole _ _ _ (c.in-Ok.ensures.whole plain)) c.heed.ensures.kept)

pub returns-in_err-tell_kill-in-None-clause-start : goal.returns-in_err-tell_kill-in-None-clause-start
returns-in_err-tell_kill-in-None-clause-start g c =
    on_any_err c.from_residual-in_err-tell_kill-in-None.result (λ plain. starts-kept _ _ _ _ (starts-whole _ _ _ (c.in-Ok.ensures.whole plain)) c.tell_kill.ensures.kept)

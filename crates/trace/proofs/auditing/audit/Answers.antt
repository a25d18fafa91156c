use Rattle.std.proofs.Common.{refl}
use Rattle.trace.proofs.AuditLemmas.{passes-not}
use Rattle.std.proofs.lemmas.Bool.{false≢true}
use Rattle.trace.proofs.auditing.audit.Goals as goal

pub returns-in-Some-clause-exactly : goal.returns-in-Some-clause-exactly
returns-in-Some-clause-exactly c =
    (λ no. absurd (false≢true no), λ passes. absurd (passes-not _ _ c.in-Some.ensures.some passes))

pub returns-in-None-clause-exactly : goal.returns-in-None-clause-exactly
returns-in-None-clause-exactly c = (λ yes. c.in-None.ensures.none, λ passed. refl)

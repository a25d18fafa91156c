use Rattle.std.proofs.Common.{◌∙◌, sym}
use Rattle.live.proofs.RestLemmas.{sum-kept}
use Rattle.thread_runs.proofs.EndLemmas.{concluded, none_missing}
use Rattle.thread_runs.proofs.threads.conclude.Goals as goal

pub returns-clause-whole : goal.returns-clause-whole
returns-clause-whole g c =
    let report = c.in-Ok.report in
    let said = c.in-Ok.ensures in
    concluded report.trace.entries c.args.passes.items report.audit (record { matches = rw said.always at said.matches; all = said.entries ∙ sym (sum-kept c.args.passes.items said.whole); at_rest = said.at_rest said.always }) said.audited.0 said.first
    _ _ c.page_size-page_size.ensures c.args.missing _ c.in-Ok.looks.items c.verdict_of.result c.say.result _ _ _ said.legal said.numbered said.looked said.each (rw c.deref.ensures.value at c.in_ok-show-in-Ok.ensures.whole) c.verdict_of.ensures c.say.ensures.whole

pub unreachable-requires : goal.unreachable-requires
unreachable-requires g c = none_missing _ c.args.passes.items c.in-Err._cause c.requires c.in-Err.ensures.missing c.in-Err.ensures.given

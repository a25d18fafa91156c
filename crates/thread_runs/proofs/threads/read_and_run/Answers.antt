use Rattle.std.proofs.Common.{ℕ, List, subst, sym, ◌∙◌}
use Rattle.std.specs.Str.Lines.{lines}
use Rattle.scripts.specs.declared.mode.Mode.TheVariants.{Run}
use Rattle.scripts.specs.Script.{IsFirstFault}
use Rattle.thread_runs.proofs.ResultLemmas.{some_more, keeps-same}
use Rattle.thread_runs.proofs.threads.read_and_run.Goals as goal

pub returns-in-Ok-clause-faulty : goal.returns-in-Ok-clause-faulty
returns-in-Ok-clause-faulty g c =
    some_more (g.I.Read.remaining c.args.script.now) c.in-Ok.ensures.bytes
    (λ all given n cause first.
    let here = c.run_script_on_threads.ensures.faulty n cause (subst (λ (bs : List ℕ). IsFirstFault Run (lines bs) n cause) (sym (c.deref.ensures.value ∙ given)) first) in
    (here.0, keeps-same _ _ here.1))

use Rattle.std.proofs.Common.{◌≡◌, ◌∙◌, List, ℕ, map, ap, Bor}
use Rattle.machine.specs.declared.command.Step.{Step}
use Rattle.printer.specs.Paths.{paths_in}
use Rattle.shown_groups.specs.declared.shown.Missing.TheVariants.{Skipped}
use Rattle.thread_runs.proofs.EndLemmas.{shows_paths}
use Rattle.thread_runs.proofs.threads.show_all.Goals as goal

pub returns-clause-whole : goal.returns-clause-whole
returns-clause-whole g c =
    shows_paths c.args.script.config c.args.script.setup.items _ Skipped _ _ c.run_new.result _ _
    (ap (λ (ps : List (Bor (List ℕ))). map (λ (p : Bor (List ℕ)). p.now) ps) c.deref.ensures.value ∙ (c.in-Ok-paths_of.ensures ∙ ap (λ (steps : List Step). paths_in steps) c.in-Ok.ensures.steps)) c.run_new.ensures.whole

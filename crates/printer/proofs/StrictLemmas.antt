-- Strict runs, which end at the first answer that refuses something.
use Rattle.std.proofs.Common.{◌≡◌, ℕ, true, false, List, ◌++◌, Option, None, sym, ap, ◌∙◌, subst}
use Rattle.std.proofs.lemmas.Bool.{false≢true}
use Rattle.std.specs.Io.KnownBytes.{Appends, Keeps}
use Rattle.std.proofs.KnownBytes.{Appends-kept}
use Rattle.machine.specs.declared.config.Config.{Config}
use Rattle.machine.specs.declared.command.Step.{Step}
use Rattle.machine.specs.declared.command.Reply.{Reply}
use Rattle.block_store.specs.Device.{Disk}
use Rattle.driver.specs.Sinks.{Starts}
use Rattle.printer.specs.declared.options.Options.{Options}
use Rattle.printer.specs.declared.options.Printing.{Printing}
use Rattle.printer.specs.declared.stopped.Stopped.{Stopped}
use Rattle.printer.specs.Asked.{marks_lines}
use Rattle.printer.specs.Prints.{texts, shown_by, EndsRun}
use Rattle.printer.specs.Sinks.{asked_of, OutTakes, GoesOn, EndsAt, is_ended}
use Rattle.printer.specs.SinkLaws.{out_takes-more}

-- what goes on has not ended
pub on-not_ended : (stopped : Option Stopped) → stopped ≡ None → is_ended stopped ≡ true → ⊥
on-not_ended stopped on ended = false≢true (sym (ap is_ended on) ∙ ended)

-- a run went on behind these answers, and ended at the one behind them
pub ends_run : (config : Config) (before : Disk) (steps : List Step) (o : Options) (p : Printing) → p ≡ asked_of o config → (a b c d : Option (List ℕ)) (answers begun : List Reply) (after : Disk)
    → Starts config before steps (answers ++ begun) after → OutTakes (asked_of o config) a b answers → GoesOn (asked_of o config) answers → EndsAt p b c begun → Keeps c d → marks_lines o ≡ false
    → EndsRun config before steps o a d
ends_run config before steps o p same a b c d answers begun after starts takes goes ends kept plain =
    let strict : o.strict ≡ true = ap (λ (q : Printing). q.options.strict) (sym same) ∙ ends.strict in
    let printed = Appends-kept a c d (texts (shown_by config.page_size.bytes o (answers ++ begun))) (out_takes-more (asked_of o config) p same a b c answers begun takes ends.took plain) kept in
    record {
      answers = answers;
      last = ends.last;
      after = after;
      starts = subst (λ (more : List Reply). Starts config before steps (answers ++ more) after) ends.is starts;
      earlier = goes strict;
      refused = ends.refused;
      prints = subst (λ (more : List Reply). Appends a d (texts (shown_by config.page_size.bytes o (answers ++ more)))) ends.is printed;
    }

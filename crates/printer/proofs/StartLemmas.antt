-- A run of which nothing was printed yet.
use Rattle.std.proofs.Common.{◌≡◌, ℕ, true, false, List, [], Option}
use Rattle.machine.specs.declared.config.Config.{Config}
use Rattle.machine.specs.declared.command.Step.{Step}
use Rattle.block_store.specs.Device.{Disk}
use Rattle.driver.specs.Schedule.{fits}
use Rattle.driver.proofs.SinkLemmas.{opening_starts}
use Rattle.printer.specs.declared.options.Options.{Options}
use Rattle.printer.specs.Asked.{marks_lines}
use Rattle.printer.specs.Prints.{PrintsStart, Cut}
use Rattle.printer.specs.Sinks.{asked_of}
use Rattle.printer.specs.SinkLaws.{out_begins-nil}

pub nothing_prints : (config : Config) (before : Disk) (steps : List Step) (options : Options) (old : Option (List ℕ)) → fits config before ≡ true → marks_lines options ≡ false → PrintsStart config before steps options old old
nothing_prints config before steps options old fit plain = Cut [] before (opening_starts config before steps fit) (out_begins-nil (asked_of options config) old plain)

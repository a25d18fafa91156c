-- What options ask for.
use Rattle.std.specs.Prelude.{◌||◌, Bool, false}
use Rattle.machine.specs.declared.config.Placement.{Placement}
use Rattle.machine.specs.declared.config.Placement.TheVariants.{Own}
use Rattle.printer.specs.declared.amounts.Amounts.TheVariants.{Bytes}
use Rattle.printer.specs.declared.options.Options.{Options}

-- something stands before the lines of answers: the number of a line of the script, or that and its words
abbrev pub marks_lines : Options → Bool
marks_lines options = options.lines || options.labels

-- something is written to `err` while a script is read and run, or behind its answers
abbrev pub speaks : Options → Bool
speaks options = options.explain || (options.progress || (options.progress_lines || (options.summary || options.refusals)))

-- while it is run
abbrev pub speaks_on : Options → Bool
speaks_on options = options.explain || (options.progress || options.progress_lines)

-- the lines of faults begin with the name of the script's file
abbrev pub places_faults : Options → Bool
places_faults options = options.explain || options.strict

-- nothing is asked for beside the answers
abbrev pub plain : Options
plain = record { amounts = Bytes; audit = false; explain = false; labels = false; lines = false; placement = Own; progress = false; progress_lines = false; quiet = false; refusals = false; strict = false; summary = false; turns = 1000 }

-- the same, with this placement
abbrev pub plain_as : Placement → Options
plain_as placement = record plain { placement = placement }

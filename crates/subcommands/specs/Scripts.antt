-- What a run of a script prints.
use Rattle.std.specs.Prelude.{◌⊎◌, ℕ, List, Option}
use Rattle.std.specs.Io.KnownBytes.{Keeps}
use Rattle.std.specs.Str.Lines.{lines}
use Rattle.machine.specs.declared.config.Config.{Config}
use Rattle.machine.specs.State.{blocks_of}
use Rattle.block_store.specs.Device.{Disk, new_disk}
use Rattle.scripts.specs.declared.meaning.Item.{Item}
use Rattle.scripts.specs.declared.forms.DeviceCall.TheVariants.{Read, Write}
use Rattle.scripts.specs.declared.mode.Mode.TheVariants.{Schedule}
use Rattle.scripts.specs.Header.{config_of}
use Rattle.scripts.specs.Script.{items_of, faults_of, steps_of, IsFaultless}
use Rattle.printer.specs.declared.options.Options.{Options}
use Rattle.printer.specs.Asked.{plain}
use Rattle.printer.specs.Prints.{PrintsRun, PrintsStart, EndsRun}

-- the device that a script is run over: blocks of zeros, as many as its header asks for, of whose calls exactly those fail that it lists.
-- (Excludes listed faults that are ignored, or come for the other kind of call.)
abbrev pub disk_of : List Item → Disk
disk_of is = new_disk (blocks_of (config_of is)) (faults_of Read is) (faults_of Write is)

-- what the header asks for, with as many turns of a line as the options say, and their placement. (Excludes a placement that is ignored.)
abbrev pub configured : Options → List Item → Config
configured options is = record (config_of is) { turns = options.turns; placement = options.placement }

-- what a check heeds of what is asked for: the placement, how many turns a line takes, whether a line that is refused ends the run, and whether it is
-- said why. (Excludes a check of other answers than those of a schedule with these options.)
abbrev pub as_checked : Options → Options
as_checked options = record plain { explain = options.explain; placement = options.placement; strict = options.strict; turns = options.turns }

-- no line of the script is faulty, and a writer got what all of it prints, and what the options ask for behind that
pub record PrintsScript (options : Options) (script : List ℕ) (old new : Option (List ℕ)) : Type 0 where
  pub faultless : IsFaultless Schedule (lines script)
  pub run : PrintsRun (configured options (items_of (lines script))) (disk_of (items_of (lines script))) (steps_of (items_of (lines script))) options old new

-- no line of the script is faulty, and a writer got the beginning of that
pub record BeginsScript (options : Options) (script : List ℕ) (old new : Option (List ℕ)) : Type 0 where
  pub faultless : IsFaultless Schedule (lines script)
  pub run : PrintsStart (configured options (items_of (lines script))) (disk_of (items_of (lines script))) (steps_of (items_of (lines script))) options old new

-- a writer got nothing, or the beginning of what a script without a faulty line prints. (Excludes output of a script with a faulty line, and an audit's
-- line before the last answer.)
abbrev pub PrintsPart : Options → List ℕ → Option (List ℕ) → Option (List ℕ) → Type 0
PrintsPart options script old new = Keeps old new ⊎ BeginsScript options script old new

-- it was run strictly, and ended at its first line that is refused
abbrev pub EndsScript : Options → List ℕ → Option (List ℕ) → Option (List ℕ) → Type 0
EndsScript options script old new =
    EndsRun (configured options (items_of (lines script))) (disk_of (items_of (lines script))) (steps_of (items_of (lines script))) options old new

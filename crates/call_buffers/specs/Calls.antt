-- What a call says of a script.
use Rattle.std.specs.Prelude.{◌≡◌, ◌⊎◌, ℕ, ◌<◌, ◌≤◌, Bool, if◌then◌else◌, List, length, take, Some}
use Rattle.std.specs.Io.KnownBytes.{Appends}
use Rattle.std.specs.Str.Lines.{lines}
use Rattle.machine.specs.declared.config.Placement.{Placement}
use Rattle.machine.specs.declared.config.Placement.TheVariants.{Own, Linux}
use Rattle.machine.specs.declared.limit.TheConstants.{SCRIPT_BYTES}
use Rattle.scripts.specs.declared.fault.Cause.{Cause}
use Rattle.scripts.specs.declared.fault.ScriptFault.{ScriptFault}
use Rattle.scripts.specs.declared.fault.ScriptFault.TheVariants as at
use Rattle.scripts.specs.declared.mode.Mode.TheVariants.{Schedule}
use Rattle.scripts.specs.Script.{IsFirstFault}
use Rattle.printer.specs.declared.options.Options.{Options}
use Rattle.script_faults.specs.declared.fault.Fault.{Fault}
use Rattle.script_faults.specs.declared.fault.Fault.TheVariants as fault
use Rattle.script_faults.specs.Told.{Explains, AllTold, StartsReport}
use Rattle.call_buffers.specs.declared.status.TheConstants.{BAD_SCRIPT, NO_MEMORY, REFUSED}

-- ---- what is asked

-- pages that are read in are placed as Linux does, or by memcgrun's own rule
abbrev pub placement_of : Bool → Placement
placement_of as_linux = if as_linux then Linux else Own

-- ---- why a script was not run to its end

-- the script can't be run: it has more bytes than a script may have, or a line of it is faulty
abbrev pub IsUnsound : List ℕ → Type 0
IsUnsound script = (SCRIPT_BYTES < length script) ⊎ ((n : ℕ) × (cause : Cause) × IsFirstFault Schedule (lines script) n cause)

-- this is why: it is too long, or it is not, and its first faulty line, or what ended its run, is the reason.
-- (Excludes a script that is called unreadable, since no reader fails here.)
abbrev pub WhyNot : Options → List ℕ → List ℕ → Fault → Type 0
WhyNot options file script why = (SCRIPT_BYTES < length script) × (why ≡ fault.TooLong) ⊎ (length script ≤ SCRIPT_BYTES) × Explains options file script why

-- ---- the status

-- a faulty line is the script's fault; too little memory to read it is not
abbrev pub status_of_line : ScriptFault → ℕ
status_of_line (at.At number cause) = BAD_SCRIPT
status_of_line at.Memory = NO_MEMORY

-- the status of a fault. (Excludes that too little memory counts as the script's fault, and the other way round.)
abbrev pub status_by : Fault → ℕ
status_by (fault.Unreadable error) = NO_MEMORY
status_by fault.TooLong = BAD_SCRIPT
status_by (fault.TooManyActors actors) = NO_MEMORY
status_by (fault.Script why) = status_of_line why
status_by (fault.Placed why told) = status_of_line why
status_by (fault.Memory wanted) = NO_MEMORY
status_by (fault.Unwritable error) = NO_MEMORY
status_by (fault.Refused told) = REFUSED

-- ---- the lines that say why

-- after what was said before, the text has all lines about a fault. That fault is the reason, and has this status. (Excludes a text that is cut off, and a status without a text.)
pub record Tells (options : Options) (file script said text : List ℕ) (status : ℕ) : Type 0 where
  pub why : Fault
  pub reason : WhyNot options file script why
  pub has : status ≡ status_by why
  pub tells : AllTold (Appends (Some said) (Some text)) why

-- after what was said before, the text has the beginning of the lines about a fault that is the reason
pub record TellsPart (options : Options) (file script said text : List ℕ) : Type 0 where
  pub why : Fault
  pub reason : WhyNot options file script why
  pub tells : StartsReport why (Some said) (Some text)

-- a text is the beginning of this one
abbrev pub IsStart : List ℕ → List ℕ → Type 0
IsStart name text = (count : ℕ) × (text ≡ take count name)

-- the text has the beginning of a name and of the lines about a fault that is the reason. (Excludes a text of its own for too little memory.)
abbrev pub TellsPartNamed : Options → List ℕ → List ℕ → List ℕ → List ℕ → Type 0
TellsPartNamed options file script name text = IsStart name text ⊎ TellsPart options file script name text

-- What is told of a fault, and when it is the reason why a script was not run to its end.
use Rattle.std.specs.Prelude.{◌≡◌, ◌⊎◌, ℕ, ◌<◌, true, List, [], ◌∷◌, ◌++◌, Option, Some, None, IfSome, length, codes, decimal, string_bytes}
use Rattle.std.specs.IoError.{error_kind}
use Rattle.std.specs.declared.io.ErrorKind.TheVariants.{BrokenPipe}
use Rattle.std.specs.Io.KnownBytes.{Appends}
use Rattle.std.specs.Str.Lines.{lines}
use Rattle.machine.specs.Control.{line}
use Rattle.scripts.specs.declared.mode.Mode.{Mode}
use Rattle.scripts.specs.declared.mode.Mode.TheVariants.{Schedule}
use Rattle.scripts.specs.declared.fault.ScriptFault.{ScriptFault}
use Rattle.scripts.specs.declared.fault.ScriptFault.TheVariants as at
use Rattle.scripts.specs.FaultTexts.{cause_text, fault_text}
use Rattle.scripts.specs.Script.{IsFaultless, NamesFirstFault}
use Rattle.machine.specs.declared.limit.TheConstants.{SCRIPT_BYTES}
use Rattle.script_faults.specs.declared.fault.TheConstants.{MOST_ACTORS}
use Rattle.script_faults.specs.declared.fault.Fault.{Fault}
use Rattle.script_faults.specs.declared.fault.Fault.TheVariants as fault
use Rattle.printer.specs.declared.options.Options.{Options}
use Rattle.printer.specs.Asked.{places_faults, plain}
use Rattle.printer.specs.Prints.{AppendsStart}

-- ---- which fault it is

-- the script was not read: its reader failed, or memory was wanting; or it is too long. (Excludes one that is called too long and is not.)
abbrev pub IsUnread : List ℕ → Fault → Type 0
IsUnread script (fault.Unreadable error) = Unit {0}
IsUnread script fault.TooLong = SCRIPT_BYTES < length script
IsUnread script (fault.TooManyActors actors) = ⊥
IsUnread script (fault.Script why) = ⊥
IsUnread script (fault.Placed why told) = ⊥
IsUnread script (fault.Memory wanted) = ⊥
IsUnread script (fault.Unwritable error) = ⊥
IsUnread script (fault.Refused told) = ⊥

-- the line of a fault that names the file of the script. (Of want of memory there is none.)
abbrev pub placed_text : List ℕ → ScriptFault → List ℕ
placed_text file (at.At number cause) = file ++ (codes ":" ++ (decimal number ++ (codes ": " ++ cause_text cause)))
placed_text file at.Memory = codes "out of memory"

-- a text is this one, or this one and behind it what begins another line
pub record BeginsSo (front text : List ℕ) : Type 0 where
  pub more : List ℕ
  pub is : text ≡ front ++ more
  pub behind : (more ≡ []) ⊎ ((later : List ℕ) × (more ≡ 10 ∷ later))

-- a text is that line, without its end, and maybe others behind it
abbrev pub Places : List ℕ → ScriptFault → List ℕ → Type 0
Places file why text = BeginsSo (placed_text file why) text

-- it was read, and this is why it was not run to its end: its first faulty line with its first cause, or want of memory for what it says; or, of one
-- that has no faulty line, want of memory for the run, an answer that could not be written, or, of one that was run strictly, a line that was refused.
-- A faulty line is told with the file's name where that is asked for.
-- (Excludes another line's number, another cause, a fault of a script that has none, and one that was read and is called unreadable.)
abbrev pub ExplainsIn : Mode → Options → List ℕ → List ℕ → Fault → Type 0
ExplainsIn mode options file script (fault.Unreadable error) = ⊥
ExplainsIn mode options file script fault.TooLong = ⊥
ExplainsIn mode options file script (fault.TooManyActors actors) = ⊥
ExplainsIn mode options file script (fault.Script why) = NamesFirstFault mode why (lines script)
ExplainsIn mode options file script (fault.Placed why told) = (places_faults options ≡ true) × NamesFirstFault mode why (lines script) × Places file why (string_bytes told)
ExplainsIn mode options file script (fault.Memory wanted) = IsFaultless mode (lines script)
ExplainsIn mode options file script (fault.Unwritable error) = IsFaultless mode (lines script)
ExplainsIn mode options file script (fault.Refused told) = (options.strict ≡ true) × IsFaultless mode (lines script)

-- the same of a schedule
abbrev pub Explains : Options → List ℕ → List ℕ → Fault → Type 0
Explains options file script why = ExplainsIn Schedule options file script why

-- it is of the script itself, and not of its run
abbrev pub IsOfScript : Fault → Type 0
IsOfScript (fault.Unreadable error) = Unit {0}
IsOfScript fault.TooLong = Unit {0}
IsOfScript (fault.TooManyActors actors) = Unit {0}
IsOfScript (fault.Script why) = Unit {0}
IsOfScript (fault.Placed why told) = Unit {0}
IsOfScript (fault.Memory wanted) = ⊥
IsOfScript (fault.Unwritable error) = ⊥
IsOfScript (fault.Refused told) = ⊥

-- a line was refused, and the run was strict
abbrev pub IsRefused : Fault → Type 0
IsRefused (fault.Unreadable error) = ⊥
IsRefused fault.TooLong = ⊥
IsRefused (fault.TooManyActors actors) = ⊥
IsRefused (fault.Script why) = ⊥
IsRefused (fault.Placed why told) = ⊥
IsRefused (fault.Memory wanted) = ⊥
IsRefused (fault.Unwritable error) = ⊥
IsRefused (fault.Refused told) = Unit {0}

-- ---- its lines

-- what its line begins with, whatever else it says
abbrev pub front_of : Fault → List ℕ
front_of (fault.Unreadable error) = codes "the script can't be read: "
front_of fault.TooLong = codes ""
front_of (fault.TooManyActors actors) = codes "the run can't be made: "
front_of (fault.Script why) = codes ""
front_of (fault.Placed why told) = codes ""
front_of (fault.Memory wanted) = codes "the run can't be made: "
front_of (fault.Unwritable error) = codes "the answers can't be written: "
front_of (fault.Refused told) = codes ""

-- what it says behind that, where that is known beforehand: no text of the system's is, and not how much memory was wanted
abbrev pub rest_of : Fault → Option (List ℕ)
rest_of (fault.Unreadable error) = None
rest_of fault.TooLong = Some (codes "the script has more than 64 MiB")
rest_of (fault.TooManyActors actors) = Some (codes "the script has " ++ (decimal actors ++ (codes " actors, and at most " ++ (decimal MOST_ACTORS ++ codes " can run at once"))))
rest_of (fault.Script why) = Some (fault_text why)
rest_of (fault.Placed why told) = Some (string_bytes told)
rest_of (fault.Memory wanted) = None
rest_of (fault.Unwritable error) = None
rest_of (fault.Refused told) = Some (string_bytes told)

-- this holds of a line that begins so, and goes on as is known, if that is known
pub record Behind (P : List ℕ → Type 0) (front : List ℕ) (known : Option (List ℕ)) : Type 0 where
  pub rest : List ℕ
  pub is : IfSome known (λ bs. rest ≡ bs)
  pub holds : P (line (front ++ rest))

-- this holds of all that is told of a fault, which is a line, or more than one where its text has several. (Excludes a faulty line that is told as want of memory.)
abbrev pub AllTold : (List ℕ → Type 0) → Fault → Type 0
AllTold P why = Behind P (front_of why) (rest_of why)

-- nobody wants to hear of it: the pipe that takes the answers was closed
abbrev pub IsSilent : Fault → Type 0
IsSilent (fault.Unreadable error) = ⊥
IsSilent fault.TooLong = ⊥
IsSilent (fault.TooManyActors actors) = ⊥
IsSilent (fault.Script why) = ⊥
IsSilent (fault.Placed why told) = ⊥
IsSilent (fault.Memory wanted) = ⊥
IsSilent (fault.Unwritable error) = error_kind error ≡ BrokenPipe
IsSilent (fault.Refused told) = ⊥

-- a writer got all that is told of the fault; or nobody wants to hear of it, and it holds what it held. (Excludes a fault that nothing is told of.)
abbrev pub Reports : Fault → Option (List ℕ) → Option (List ℕ) → Type 0
Reports why old new = IsSilent why × (new ≡ old) ⊎ AllTold (Appends old new) why

-- it got the beginning of that, or nothing
abbrev pub StartsReport : Fault → Option (List ℕ) → Option (List ℕ) → Type 0
StartsReport why old new = AllTold (AppendsStart old new) why

-- ---- where no more is known than a status

-- a writer got the beginning of what is told of a fault that is why the script was not run to its end
pub record TellsWhy (script : List ℕ) (old new : Option (List ℕ)) : Type 0 where
  pub why : Fault
  pub reason : IsUnread script why ⊎ Explains plain [] script why
  pub tells : StartsReport why old new

-- ---- no public clause cites what follows

-- the run wanted memory, or an answer could not be written
abbrev pub IsRunFault : Fault → Type 0
IsRunFault (fault.Unreadable error) = ⊥
IsRunFault fault.TooLong = ⊥
IsRunFault (fault.TooManyActors actors) = ⊥
IsRunFault (fault.Script why) = ⊥
IsRunFault (fault.Placed why told) = ⊥
IsRunFault (fault.Memory wanted) = Unit {0}
IsRunFault (fault.Unwritable error) = Unit {0}
IsRunFault (fault.Refused told) = ⊥

-- the same of a schedule, or, where it is strict, a line was refused
abbrev pub IsScheduleFault : Options → Fault → Type 0
IsScheduleFault options (fault.Unreadable error) = ⊥
IsScheduleFault options fault.TooLong = ⊥
IsScheduleFault options (fault.TooManyActors actors) = ⊥
IsScheduleFault options (fault.Script why) = ⊥
IsScheduleFault options (fault.Placed why told) = ⊥
IsScheduleFault options (fault.Memory wanted) = Unit {0}
IsScheduleFault options (fault.Unwritable error) = Unit {0}
IsScheduleFault options (fault.Refused told) = options.strict ≡ true

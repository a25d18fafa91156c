-- The line that says of a script why it could not be read.
use Rattle.std.specs.Prelude.{ℕ, List, ◌++◌, codes, decimal}
use Rattle.scripts.specs.declared.fault.Cause.{Cause}
use Rattle.scripts.specs.declared.fault.Cause.TheVariants.{NotText, UnknownWord, MissingArgument, ExtraArgument, BadNumber, BadPageSize, BadName, HeaderAfterCommands, HeaderTwice, TooManyFiles, TooManyBlocks, OnlyInSchedule}
use Rattle.scripts.specs.declared.fault.ScriptFault.{ScriptFault}
use Rattle.scripts.specs.declared.fault.ScriptFault.TheVariants.{At, Memory}

-- how the line says a cause. (Excludes a cause by another's text.)
abbrev pub cause_text : Cause → List ℕ
cause_text NotText = codes "not text"
cause_text UnknownWord = codes "unknown word"
cause_text MissingArgument = codes "missing argument"
cause_text ExtraArgument = codes "extra argument"
cause_text BadNumber = codes "bad number"
cause_text BadPageSize = codes "bad page size"
cause_text BadName = codes "bad name"
cause_text HeaderAfterCommands = codes "header after commands"
cause_text HeaderTwice = codes "header twice"
cause_text TooManyFiles = codes "too many files"
cause_text TooManyBlocks = codes "too many blocks"
cause_text OnlyInSchedule = codes "only in schedule"

-- the line, without its end
abbrev pub fault_text : ScriptFault → List ℕ
fault_text (At line cause) = codes "line " ++ (decimal line ++ (codes ": " ++ cause_text cause))
fault_text Memory = codes "out of memory"

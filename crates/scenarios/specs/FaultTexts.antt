-- What is said of a fault.
use Rattle.std.specs.Prelude.{ℕ, List, ◌++◌, codes, decimal}
use Rattle.scenarios.specs.declared.fault.Cause.{Cause}
use Rattle.scenarios.specs.declared.fault.Cause.TheVariants.{NotText, OpenQuote, EndAlone, BehindEnd, NoEnd}
use Rattle.scenarios.specs.declared.fault.Fault.{Fault}

-- what is wrong, and what to do
abbrev pub cause_text : Cause → List ℕ
cause_text NotText = codes "the line is not UTF-8; save the file as UTF-8"
cause_text OpenQuote = codes "a quote is not closed; write the second quote on this line"
cause_text EndAlone = codes "no block is open here; remove this \"end\""
cause_text BehindEnd = codes "nothing may follow \"end\"; remove this word"
cause_text NoEnd = codes "the block has no end; write \"end\" below its last line"

-- the line, without its end: FILE:LINE:COLUMN: TEXT
abbrev pub fault_text : List ℕ → Fault → List ℕ
fault_text file fault = file ++ (codes ":" ++ (decimal fault.line ++ (codes ":" ++ (decimal fault.column ++ (codes ": " ++ cause_text fault.cause)))))

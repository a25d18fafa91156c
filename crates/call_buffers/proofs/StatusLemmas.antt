-- What the status of a fault says of the script.
use Rattle.std.proofs.Common.{◌≡◌, ◌⊎◌, inl, inr, ℕ, List, sym, ◌∙◌, arith}
use Rattle.scripts.specs.declared.fault.ScriptFault.TheVariants as at
use Rattle.printer.specs.declared.options.Options.{Options}
use Rattle.script_faults.specs.declared.fault.Fault.{Fault}
use Rattle.script_faults.specs.declared.fault.Fault.TheVariants as fault
use Rattle.call_buffers.specs.Calls.{status_by, IsUnsound, WhyNot}

-- a bad script's fault is why it can't be run
unsound_by : (options : Options) (file script : List ℕ) (why : Fault) → WhyNot options file script why → status_by why ≡ 1 → IsUnsound script
unsound_by options file script why (inl long) bad = inl long.0
unsound_by options file script (fault.Script (at.At number cause)) (inr explains) bad = inr (number, cause, explains.1)
unsound_by options file script (fault.Placed (at.At number cause) told) (inr explains) bad = inr (number, cause, explains.1.1)
unsound_by options file script fault.TooLong (inr explains) bad = absurd explains.1
unsound_by options file script (fault.Unreadable error) (inr explains) bad = absurd explains.1
unsound_by options file script (fault.Script at.Memory) (inr explains) bad = absurd (omega (arith, bad))
unsound_by options file script (fault.Placed at.Memory told) (inr explains) bad = absurd (omega (arith, bad))
unsound_by options file script (fault.TooManyActors actors) (inr explains) bad = absurd (omega (arith, bad))
unsound_by options file script (fault.Memory wanted) (inr explains) bad = absurd (omega (arith, bad))
unsound_by options file script (fault.Unwritable error) (inr explains) bad = absurd (omega (arith, bad))
unsound_by options file script (fault.Refused told) (inr explains) bad = absurd (omega (arith, bad))

-- so of a status that is the fault's, or says that memory lacked
pub bad_unsound : (options : Options) (file script : List ℕ) (why : Fault) → WhyNot options file script why → (status : ℕ) → (status ≡ status_by why) ⊎ (status ≡ 2) → status ≡ 1 → IsUnsound script
bad_unsound options file script why reason status (inl is) bad = unsound_by options file script why reason (sym is ∙ bad)
bad_unsound options file script why reason status (inr lacks) bad = absurd (omega (arith, lacks, bad))

-- What is said of a script that can't be explored.
use Rattle.std.proofs.Common.{◌≡◌, ◌⊎◌, inl, inr, ◌≤◌, ◌-◌, ℕ, List, [], length, Some, None, codes, sym, subst, ◌∙◌, arith}
use Rattle.std.specs.Str.Lines.{lines}
use Rattle.machine.specs.declared.limit.TheConstants.{SCRIPT_BYTES}
use Rattle.scripts.specs.declared.mode.Mode.TheVariants.{Schedule}
use Rattle.scripts.specs.Script.{IsFaultless}
use Rattle.printer.specs.declared.options.Options.{Options}
use Rattle.script_faults.specs.declared.fault.Fault.TheVariants as scripts_fault
use Rattle.division.specs.declared.fault.Fault.{Fault}
use Rattle.division.specs.declared.fault.Fault.TheVariants as fault
use Rattle.explore.specs.declared.asked.Asked.{Asked}
use Rattle.explore.specs.declared.report.Verdict.{Verdict}
use Rattle.explore.specs.Explores.{Explores, Explains}
use Rattle.call_buffers.specs.Calls.{IsUnsound, Tells}
use Rattle.call_buffers.specs.declared.status.TheConstants.{OK, BAD_SCRIPT, NO_MEMORY, DIFFERS, BAD_OPTIONS}
use Rattle.embedded_exploration.specs.Exploring.{IsPart, status_for, IsReasoned, IsToldOf}

-- a script without a faulty line that is not too long can be run
is_sound : (script : List ℕ) → length script ≤ SCRIPT_BYTES → IsFaultless Schedule (lines script) → IsUnsound script → ⊥
is_sound script short well (inl long) = omega (arith, short, long)
is_sound script short well (inr (n, cause, first)) =
    let none = well (n - 1) (omega (arith, first.within.0, first.within.1)) in
    let wrong : None ≡ Some cause = sym none ∙ first.faulty in cc

pub told_by : (options : Options) (asked : Asked) (script text : List ℕ) (status : ℕ) (why : Fault) → length script ≤ SCRIPT_BYTES → Explains asked script why → IsToldOf why text status → status ≡ 1 → IsUnsound script → Tells options (codes "script") script (codes "script: ") text status
told_by options asked script text status (fault.Script why) short explains (inl told) bad unsound = record { why = scripts_fault.Script why; reason = inr (short, explains); has = told.0; tells = told.1 }
told_by options asked script text status (fault.Script why) short explains (inr lacks) bad unsound = absurd (omega (arith, lacks, bad))
told_by options asked script text status (fault.TakesApart number) short explains told bad unsound = absurd (is_sound script short explains.0 unsound)
told_by options asked script text status fault.NoWork short explains told bad unsound = absurd (is_sound script short explains.0 unsound)
told_by options asked script text status (fault.TooManyActors actors) short explains told bad unsound = absurd (is_sound script short explains.0 unsound)
told_by options asked script text status (fault.SetupFails number said) short explains told bad unsound = absurd (is_sound script short explains.0 unsound)
told_by options asked script text status (fault.NoOutcome number outcomes) short explains told bad unsound = absurd (is_sound script short explains.0 unsound)
told_by options asked script text status fault.Memory short explains told bad unsound = absurd (is_sound script short explains unsound)
told_by options asked script text status fault.Changed short explains told bad unsound = absurd (is_sound script short explains unsound)
told_by options asked script text status (fault.Unwritable error) short explains told bad unsound = absurd (is_sound script short explains unsound)

-- what was said elsewhere under equal names
pub told_as : (options : Options) (asked : Asked) (script text text' : List ℕ) (status status' : ℕ) (why : Fault) → text' ≡ text → status' ≡ status → length script ≤ SCRIPT_BYTES → Explains asked script why → IsToldOf why text status → status' ≡ 1 → IsUnsound script → Tells options (codes "script") script (codes "script: ") text' status'
told_as options asked script text text' status status' why same equal short explains told bad unsound =
    let T : List ℕ → Type 0 = λ (t : List ℕ). Tells options (codes "script") script (codes "script: ") t status' in
    let S : ℕ → Type 0 = λ (n : ℕ). Tells options (codes "script") script (codes "script: ") text n in
    subst T (sym same) (subst S (sym equal) (told_by options asked script text status why short explains told (sym equal ∙ bad) unsound))

-- the status of a verdict is no bad script's
pub never_bad : (n : ℕ) → (n ≡ OK) ⊎ (n ≡ NO_MEMORY) ⊎ (n ≡ DIFFERS) → n ≡ BAD_SCRIPT → ⊥
never_bad n (inl e) bad = omega (arith, e, bad)
never_bad n (inr (inl e)) bad = omega (arith, e, bad)
never_bad n (inr (inr e)) bad = omega (arith, e, bad)

-- nor that of options
pub never_options : (n : ℕ) → (n ≡ OK) ⊎ (n ≡ NO_MEMORY) ⊎ (n ≡ DIFFERS) → n ≡ BAD_OPTIONS → ⊥
never_options n (inl e) bad = omega (arith, e, bad)
never_options n (inr (inl e)) bad = omega (arith, e, bad)
never_options n (inr (inr e)) bad = omega (arith, e, bad)

pub never_reasoned : (asked : Asked) (script : List ℕ) (n n' : ℕ) → n' ≡ n → (n ≡ OK) ⊎ (n ≡ NO_MEMORY) ⊎ (n ≡ DIFFERS) → (n' ≡ BAD_SCRIPT) ⊎ (n' ≡ BAD_OPTIONS) → IsReasoned asked script n'
never_reasoned asked script n n' same known (inl bad) = absurd (never_bad n known (sym same ∙ bad))
never_reasoned asked script n n' same known (inr bad) = absurd (never_options n known (sym same ∙ bad))

-- not all orders were run
pub in_part : (asked given : Asked) (script : List ℕ) (verdict : Verdict) (n n' : ℕ) (old new : List ℕ) → given ≡ asked → n' ≡ n → (n ≡ DIFFERS → IsPart verdict) → old ≡ [] → Explores given script verdict (Some old) (Some new)
    → n' ≡ DIFFERS → (verdict : Verdict) × IsPart verdict × Explores asked script verdict (Some []) (Some new)
in_part asked given script verdict n n' old new is_asked same part empty explores differs =
    let P : Asked → Type 0 = λ (a : Asked). Explores a script verdict (Some []) (Some new) in
    let Q : List ℕ → Type 0 = λ (l : List ℕ). Explores given script verdict (Some l) (Some new) in
    (verdict, part (sym same ∙ differs), subst P is_asked (subst Q empty explores))

-- the status of a fault does not say so
pub never_in_part : (n n' : ℕ) → n' ≡ n → (n ≡ BAD_SCRIPT) ⊎ (n ≡ NO_MEMORY) ⊎ (n ≡ BAD_OPTIONS) → n' ≡ DIFFERS → ⊥
never_in_part n n' same (inl e) differs = omega (arith, same, e, differs)
never_in_part n n' same (inr (inl e)) differs = omega (arith, same, e, differs)
never_in_part n n' same (inr (inr e)) differs = omega (arith, same, e, differs)

-- the status of a fault is that of a true reason, unless memory ran out
pub reasoned : (asked given : Asked) (script : List ℕ) (n n' : ℕ) (why : Fault) → given ≡ asked → n' ≡ n → (n ≡ status_for why) ⊎ (n ≡ NO_MEMORY) → Explains given script why → (n' ≡ BAD_SCRIPT) ⊎ (n' ≡ BAD_OPTIONS) → IsReasoned asked script n'
reasoned asked given script n n' why is_asked same (inl is) explains bad =
    let P : Asked → Type 0 = λ (a : Asked). Explains a script why in inr (why, same ∙ is, subst P is_asked explains)
reasoned asked given script n n' why is_asked same (inr lacks) explains (inl bad) = absurd (omega (arith, same, lacks, bad))
reasoned asked given script n n' why is_asked same (inr lacks) explains (inr bad) = absurd (omega (arith, same, lacks, bad))

-- What was found of a script's orders, or why they were not explored.
use Rattle.std.proofs.Common.{◌≡◌, ℕ, List, length, map, Option, None, Vec, ap, ◌∙◌, subst}
use Rattle.std.specs.Prelude.{string_bytes}
use Rattle.std.specs.List.{before_first}
use Rattle.std.specs.Io.KnownBytes.{Appends}
use Rattle.std.specs.Str.Lines.{lines}
use Rattle.std.specs.declared.alloc.Global.{Global}
use Rattle.machine.specs.declared.config.Config.{Config}
use Rattle.machine.specs.State.{blocks_of}
use Rattle.block_store.specs.Device.{new_disk}
use Rattle.driver.specs.Schedule.{World, first_world}
use Rattle.scripts.specs.declared.forms.DeviceCall.TheVariants.{Read, Write}
use Rattle.scripts.specs.declared.meaning.Item.{Item}
use Rattle.scripts.specs.declared.mode.Mode.TheVariants.{Schedule}
use Rattle.scripts.specs.Header.{config_of}
use Rattle.scripts.specs.Script.{items_of, faults_of, steps_in, lines_in, IsFaultless}
use Rattle.scripts.specs.Work.{before_go}
use Rattle.schedules.specs.Schedule.{ScheduleOf}
use Rattle.walks.specs.declared.Walk.{Walk}
use Rattle.explorer.specs.declared.parts.Parts.{Parts}
use Rattle.explorer.specs.Outcome.{disk_of}
use Rattle.explorer.specs.Tally.{Findings}
use Rattle.explore.specs.declared.asked.Asked.{Asked}
use Rattle.division.specs.declared.fault.Fault.{Fault}
use Rattle.division.specs.declared.fault.Fault.TheVariants as fault
use Rattle.explore.specs.declared.report.Verdict.{Verdict}
use Rattle.division.specs.declared.said.Said.{Said}
use Rattle.division.specs.Division.{IsDivided, ArePartsOf}
use Rattle.division.specs.Said.{said_of_item, IsRead}
use Rattle.division.specs.Sorting.{goes}
use Rattle.division.specs.Reasons.{config_for, world_for, SetsUp}
use Rattle.explore.specs.Explores.{verdict_of, list_for, IsFound, Explores, Explains}
use Rattle.division.specs.Trial.{IsAccepted, RefusesLine, IsTrialFault}
use Rattle.division.specs.Faults.{IsUndivided, IsOfRun, IsUnshown}
use Rattle.explore.proofs.ApartLemmas.{loses_nothing}
use Rattle.division.proofs.DivisionLemmas.{before}
use Rattle.division.proofs.GoLemmas.{goes_of}
use Rattle.division.proofs.TrialLemmas.{accepts-all, refuses-at}

-- none of its lines is faulty, so they were read as this schedule
is_read : (script : List ℕ) (schedule : ScheduleOf) → IsFaultless Schedule (lines script) → schedule.steps ≡ steps_in Schedule (items_of (lines script)) → schedule.numbers ≡ lines_in Schedule (items_of (lines script)) → IsRead (items_of (lines script)) (lines script) schedule
is_read script schedule faultless s n = record { steps = s; numbers = n; goes = goes_of (lines script) faultless }

-- the parts that were read of a script are those that its lines say
pub are_parts : (asked : Asked) (script : List ℕ) (config : Config) (reads writes : Vec ℕ Global) (schedule : ScheduleOf) (parts : Parts)
    → IsFaultless Schedule (lines script) → config ≡ config_of (items_of (lines script)) → reads.items ≡ faults_of Read (items_of (lines script)) → writes.items ≡ faults_of Write (items_of (lines script))
    → schedule.steps ≡ steps_in Schedule (items_of (lines script)) → schedule.numbers ≡ lines_in Schedule (items_of (lines script))
    → parts.config ≡ record config { placement = asked.placement } → parts.read_faults ≡ reads → parts.write_faults ≡ writes → ((is : List Item) → IsRead is (lines script) schedule → IsDivided is parts)
    → ArePartsOf asked.placement (items_of (lines script)) parts
are_parts asked script config reads writes schedule parts faultless c r w s n pc pr pw divided = record {
  config = pc ∙ ap (λ (x : Config). record x { placement = asked.placement }) c;
  read_faults = ap (λ (v : Vec ℕ Global). v.items) pr ∙ r;
  write_faults = ap (λ (v : Vec ℕ Global). v.items) pw ∙ w;
  divided = divided (items_of (lines script)) (is_read script schedule faultless s n);
}

pub explored : (asked : Asked) (script : List ℕ) (parts : Parts) (walk : Walk) (found : Findings) (text : List ℕ) (verdict : Verdict) (old new : Option (List ℕ))
    → IsFaultless Schedule (lines script) → ArePartsOf asked.placement (items_of (lines script)) parts → SetsUp asked.placement (items_of (lines script))
    → IsFound asked parts walk found → (asked.show ≡ None → text ≡ list_for asked parts walk found) → Appends old new text → verdict ≡ verdict_of asked walk (length found.rows) → Explores asked script verdict old new
explored asked script parts walk found text verdict old new faultless parts_are set_up is_found lists appends said =
    let P : List ℕ → Type 0 = λ (bs : List ℕ). Appends old new bs in
    record {
      faultless = faultless;
      parts = parts;
      parts_are = parts_are;
      set_up = set_up;
      walk = walk;
      found = found;
      is_found = is_found;
      complete = loses_nothing asked.choice (items_of (lines script)) parts parts_are.divided;
      verdict_is = said;
      lists = λ e. subst P (lists e) appends;
    }

-- ---- why it was not explored

pub unparted : (asked : Asked) (script : List ℕ) (schedule : ScheduleOf) (why : Fault)
    → IsFaultless Schedule (lines script) → schedule.steps ≡ steps_in Schedule (items_of (lines script)) → schedule.numbers ≡ lines_in Schedule (items_of (lines script))
    → ((is : List Item) → IsRead is (lines script) schedule → IsUndivided is why) → Explains asked script why
unparted asked script schedule why h s n u = by why (u (items_of (lines script)) (is_read script schedule h s n))
  where
    by : (why : Fault) → IsUndivided (items_of (lines script)) why → Explains asked script why
    by (fault.TakesApart number) r = (h, r)
    by fault.NoWork r = (h, r)
    by (fault.TooManyActors actors) r = (h, r)
    by fault.Memory r = h
    by (fault.Script why) r = absurd r
    by (fault.SetupFails number said) r = absurd r
    by (fault.NoOutcome number outcomes) r = absurd r
    by fault.Changed r = absurd r
    by (fault.Unwritable error) r = absurd r

-- the machine before the setup
opened : (asked : Asked) (is : List Item) (parts : Parts) → ArePartsOf asked.placement is parts → first_world parts.config (disk_of parts) ≡ world_for asked.placement is
opened asked is parts h =
    ap (λ (c : Config). first_world c (new_disk (blocks_of c) parts.read_faults.items parts.write_faults.items)) h.config
    ∙ ap (λ (r : List ℕ). first_world (config_for asked.placement is) (new_disk (blocks_of (config_for asked.placement is)) r parts.write_faults.items)) h.read_faults
    ∙ ap (λ (w : List ℕ). first_world (config_for asked.placement is) (new_disk (blocks_of (config_for asked.placement is)) (faults_of Read is) w)) h.write_faults

-- the setup is that of the script's lines
setup_of : (is : List Item) (ls : List Said) → ls ≡ map said_of_item is → before_first goes ls ≡ map said_of_item (before_go is)
setup_of is ls e = ap (before_first goes) e ∙ before is

pub sets-up : (asked : Asked) (script : List ℕ) (schedule : ScheduleOf) (parts : Parts) (ls : List Said)
    → IsFaultless Schedule (lines script) → schedule.steps ≡ steps_in Schedule (items_of (lines script)) → schedule.numbers ≡ lines_in Schedule (items_of (lines script))
    → ArePartsOf asked.placement (items_of (lines script)) parts → ((is : List Item) → IsRead is (lines script) schedule → ls ≡ map said_of_item is)
    → IsAccepted (first_world parts.config (disk_of parts)) (before_first goes ls) → SetsUp asked.placement (items_of (lines script))
sets-up asked script schedule parts ls h s n parts_are said a =
    let is : List Item = items_of (lines script) in
    let P : World → Type 0 = λ (w : World). IsAccepted w (before_first goes ls) in
    accepts-all asked.placement is (before_first goes ls) (setup_of is ls (said is (is_read script schedule h s n))) (subst P (opened asked is parts parts_are) a)

pub unset : (asked : Asked) (script : List ℕ) (schedule : ScheduleOf) (parts : Parts) (ls : List Said) (why : Fault)
    → IsFaultless Schedule (lines script) → schedule.steps ≡ steps_in Schedule (items_of (lines script)) → schedule.numbers ≡ lines_in Schedule (items_of (lines script))
    → ArePartsOf asked.placement (items_of (lines script)) parts → ((is : List Item) → IsRead is (lines script) schedule → ls ≡ map said_of_item is)
    → IsTrialFault (first_world parts.config (disk_of parts)) (before_first goes ls) why → Explains asked script why
unset asked script schedule parts ls why h s n parts_are said = by why
  where
    is : List Item
    is = items_of (lines script)

    setup : before_first goes ls ≡ map said_of_item (before_go is)
    setup = setup_of is ls (said is (is_read script schedule h s n))

    by : (why : Fault) → IsTrialFault (first_world parts.config (disk_of parts)) (before_first goes ls) why → Explains asked script why
    by (fault.SetupFails number text) r =
        let P : World → Type 0 = λ (w : World). RefusesLine w (before_first goes ls) number (string_bytes text) in
        (h, refuses-at asked.placement is (before_first goes ls) number (string_bytes text) setup (subst P (opened asked is parts parts_are) r))
    by fault.Memory r = h
    by (fault.Script why) r = absurd r
    by (fault.TakesApart number) r = absurd r
    by fault.NoWork r = absurd r
    by (fault.TooManyActors actors) r = absurd r
    by (fault.NoOutcome number outcomes) r = absurd r
    by fault.Changed r = absurd r
    by (fault.Unwritable error) r = absurd r

pub unrun : (asked : Asked) (script : List ℕ) (why : Fault) → IsFaultless Schedule (lines script) → IsOfRun why → Explains asked script why
unrun asked script fault.Memory h r = h
unrun asked script fault.Changed h r = h
unrun asked script (fault.Script why) h r = absurd r
unrun asked script (fault.TakesApart number) h r = absurd r
unrun asked script fault.NoWork h r = absurd r
unrun asked script (fault.TooManyActors actors) h r = absurd r
unrun asked script (fault.SetupFails number said) h r = absurd r
unrun asked script (fault.NoOutcome number outcomes) h r = absurd r
unrun asked script (fault.Unwritable error) h r = absurd r

pub unshown : (asked : Asked) (script : List ℕ) (parts : Parts) (walk : Walk) (found : Findings) (why : Fault)
    → IsFaultless Schedule (lines script) → ArePartsOf asked.placement (items_of (lines script)) parts → IsFound asked parts walk found → IsUnshown asked.show (length found.rows) why → Explains asked script why
unshown asked script parts walk found (fault.NoOutcome number outcomes) h parts_are is_found (shows, counts, lacks) =
    (h, record { parts = parts; parts_are = parts_are; walk = walk; found = found; is_found = is_found; shows = shows; counts = counts; lacks = lacks })
unshown asked script parts walk found fault.Memory h parts_are is_found r = h
unshown asked script parts walk found (fault.Script why) h parts_are is_found r = absurd r
unshown asked script parts walk found (fault.TakesApart number) h parts_are is_found r = absurd r
unshown asked script parts walk found fault.NoWork h parts_are is_found r = absurd r
unshown asked script parts walk found (fault.TooManyActors actors) h parts_are is_found r = absurd r
unshown asked script parts walk found (fault.SetupFails number said) h parts_are is_found r = absurd r
unshown asked script parts walk found fault.Changed h parts_are is_found r = absurd r
unshown asked script parts walk found (fault.Unwritable error) h parts_are is_found r = absurd r

-- What a run does with the items of a scenario, one after the other. `took` and `saw` say what the observer has of the machine's answers; `goes_on`, that it judged no note; and `judged`, that it judged one.
use Rattle.std.specs.Prelude.{◌≡◌, ◌⊎◌, ℕ, zero, suc, true, false, List, [], ◌∷◌, ◌++◌, Option, Some, None, MatchBool}
use Rattle.machine.specs.declared.command.Actor.{Actor}
use Rattle.machine.specs.declared.command.Actor.TheVariants.{Control}
use Rattle.machine.specs.declared.command.Command.{Command}
use Rattle.machine.specs.declared.command.Step.{Step}
use Rattle.machine.specs.declared.command.Step.TheVariants.{Begin, Advance, Finish}
use Rattle.machine.specs.declared.command.Reply.{Reply as Told_by}
use Rattle.machine.specs.Call.{Past}
use Rattle.driver.specs.Schedule.{World, activity_of}
use Rattle.driver.specs.Seats.{is_under_way}
use Rattle.driver.specs.Desks.{RunsTo}
use Rattle.schedules.specs.declared.schedule.Entry.{Entry}
use Rattle.schedules.specs.declared.schedule.Entry.TheVariants as entry
use Rattle.scenario_lines.specs.Scene.{SceneNow}
use Rattle.expansion.specs.declared.expansion.Item.{Item}
use Rattle.expansion.specs.declared.expansion.Item.TheVariants as item
use Rattle.expansion.specs.Walk.{Out, Ran, onto, done}
use Rattle.scenario_runs.specs.declared.observer.Course.{Course}
use Rattle.scenario_runs.specs.declared.observer.Course.TheVariants.{GoesOn, Ends}

-- what an observer has of answers, and of the books that it was shown
abbrev pub Takes : Type 0 → Type 1
Takes O = O → O → List Told_by → Type 0

abbrev pub Sees : Type 0 → Type 1
Sees O = O → O → List Past → Type 0

abbrev pub Goes : Type 0 → Type 1
Goes O = O → O → Type 0

abbrev pub Judges : Type 0 → Type 1
Judges O = O → O → SceneNow → List ℕ → Past → Type 0

-- ---- steps

-- a step of the machine's schedule, whose answers the observer took
abbrev pub TakesStep : {O : Type 0} → Takes O → Sees O → Goes O → O → World → Step → O → World → Type 0
TakesStep {O} took saw goes_on old w s new v = (a : O) × (b : O) × goes_on old a × RunsTo took saw a b w (s ∷ []) v × goes_on b new

-- so many turns of an actor, each of a command that is under way. (Excludes a turn after the answer.)
abbrev pub TakesTurns : {O : Type 0} → Takes O → Sees O → Goes O → ℕ → O → World → Actor → O → World → Type 0
TakesTurns took saw goes_on zero old w who new v = (new ≡ old) × (v ≡ w)
TakesTurns {O} took saw goes_on (suc turns) old w who new v =
    (a : O) × (mid : World) × (is_under_way (activity_of who w.seats) ≡ true) × TakesStep took saw goes_on old w (Advance who) a mid × TakesTurns took saw goes_on turns a mid who new v

-- turns until the command is answered. (Excludes a command that is left under way.)
abbrev pub Finishes : {O : Type 0} → Takes O → Sees O → Goes O → O → World → Actor → O → World → Type 0
Finishes took saw goes_on old w who new v = (turns : ℕ) × TakesTurns took saw goes_on turns old w who new v × (is_under_way (activity_of who v.seats) ≡ false)

-- a command from its beginning to its answer
abbrev pub IsWhole : {O : Type 0} → Takes O → Sees O → Goes O → O → World → Actor → Command → O → World → Type 0
IsWhole {O} took saw goes_on old w who what new v = (a : O) × (mid : World) × TakesStep took saw goes_on old w (Begin who what) a mid × Finishes took saw goes_on a mid who new v

-- ---- lines of the script

-- a step of a line; a command that is under way is finished in as many turns as it needs
abbrev pub CarriesStep : {O : Type 0} → Takes O → Sees O → Goes O → O → World → Step → O → World → Type 0
CarriesStep took saw goes_on old w (Begin who what) new v = TakesStep took saw goes_on old w (Begin who what) new v
CarriesStep took saw goes_on old w (Advance who) new v = TakesStep took saw goes_on old w (Advance who) new v
CarriesStep took saw goes_on old w (Finish who) new v =
    MatchBool (is_under_way (activity_of who w.seats)) (Finishes took saw goes_on old w who new v) (TakesStep took saw goes_on old w (Finish who) new v)

abbrev pub CarriesEntry : {O : Type 0} → Takes O → Sees O → Goes O → O → World → Entry → O → World → Type 0
CarriesEntry took saw goes_on old w (entry.Whole who what) new v = IsWhole took saw goes_on old w who what new v
CarriesEntry took saw goes_on old w (entry.Step s) new v = CarriesStep took saw goes_on old w s new v

abbrev pub CarriesAll : {O : Type 0} → Takes O → Sees O → Goes O → O → World → List Entry → O → World → Type 0
CarriesAll took saw goes_on old w [] new v = (new ≡ old) × (v ≡ w)
CarriesAll {O} took saw goes_on old w (e ∷ es) new v = (a : O) × (mid : World) × CarriesEntry took saw goes_on old w e a mid × CarriesAll took saw goes_on a mid es new v

-- some entries, one after the other
abbrev pub CarriesEntries : {O : Type 0} → Takes O → Sees O → Goes O → O → World → O → World → Type 0
CarriesEntries took saw goes_on old w new v = (es : List Entry) × CarriesAll took saw goes_on old w es new v

-- ---- items

-- a note is judged by the book as it stands; at most, a file of a group was read for it first. (Excludes a note that is left out, and one that is judged after the next entry.)
abbrev pub CarriesNote : {O : Type 0} → Takes O → Sees O → Goes O → Judges O → O → World → List ℕ → O → World → Type 0
CarriesNote {O} took saw goes_on judged old w words new v =
    (s : SceneNow) × ((judged old new s words w.past × (v ≡ w)) ⊎ ((what : Command) × (a : O) × IsWhole took saw goes_on old w Control what a v × judged a new s words v.past))

abbrev pub CarriesItem : {O : Type 0} → Takes O → Sees O → Goes O → Judges O → O → World → Item → O → World → Type 0
CarriesItem {O} took saw goes_on judged old w (item.Entry who what) new v =
    (a : O) × (b : O) × goes_on old a × IsWhole took saw goes_on a w who what b v × goes_on b new
CarriesItem {O} took saw goes_on judged old w (item.Raw line) new v = (a : O) × (b : O) × goes_on old a × CarriesEntries took saw goes_on a w b v × goes_on b new
CarriesItem took saw goes_on judged old w (item.Note words) new v = CarriesNote took saw goes_on judged old w words new v
CarriesItem took saw goes_on judged old w item.Opened new v = goes_on old new × (v ≡ w)
CarriesItem took saw goes_on judged old w (item.Unreached line) new v = goes_on old new × (v ≡ w)

-- items, one after the other
abbrev pub CarriesItems : {O : Type 0} → Takes O → Sees O → Goes O → Judges O → O → World → List Out → O → World → Type 0
CarriesItems took saw goes_on judged old w [] new v = (new ≡ old) × (v ≡ w)
CarriesItems {O} took saw goes_on judged old w (out ∷ outs) new v =
    (a : O) × (mid : World) × CarriesItem took saw goes_on judged old w out.item a mid × CarriesItems took saw goes_on judged a mid outs new v

-- all items were carried out; or those up to an entry after which the observer ended the run. (Excludes an item that is left out, done twice, or done before its turn, and a run that ends for no reason.)
abbrev pub Carried : {O : Type 0} → Takes O → Sees O → Goes O → Judges O → (O → Type 0) → O → World → List Out → Course → O → World → Type 0
Carried took saw goes_on judged ended old w outs GoesOn new v = CarriesItems took saw goes_on judged old w outs new v
Carried took saw goes_on judged ended old w outs Ends new v =
    (before : List Out) × (after : List Out) × (outs ≡ before ++ after) × CarriesItems took saw goes_on judged old w before new v × ended new

-- ---- one item after the other

-- the next item of what is to come, or the end
abbrev pub IsNextItem : Ran → Option Item → Ran → Type 0
IsNextItem now (Some i) later = (o : Out) × (o.item ≡ i) × (now ≡ onto (o ∷ []) later)
IsNextItem now None later = (s : SceneNow) × (now ≡ done s)

-- What is found of a script's orders, and printed.
use Rattle.std.specs.Prelude.{◌≡◌, ◌⊎◌, ℕ, ◌<◌, Bool, List, Option, None, Some, length, string_bytes}
use Rattle.std.specs.Io.KnownBytes.{Appends}
use Rattle.std.specs.Str.Lines.{lines}
use Rattle.scripts.specs.declared.meaning.Item.{Item}
use Rattle.scripts.specs.declared.mode.Mode.TheVariants.{Schedule}
use Rattle.scripts.specs.Script.{items_of, IsFaultless, NamesFirstFault}
use Rattle.walks.specs.declared.Walk.{Walk}
use Rattle.walks.specs.declared.Walk.TheVariants.{All, Stopped, TooDeep, Sample}
use Rattle.explorer.specs.declared.parts.Parts.{Parts}
use Rattle.explorer.specs.declared.choice.Choice.{Choice}
use Rattle.explorer.specs.Outcome.{choice_in}
use Rattle.explorer.specs.Tally.{Findings}
use Rattle.explorer.specs.Explored.{Explored, Sampled}
use Rattle.exchange.specs.Outcomes.{LosesNothing}
use Rattle.explore.specs.declared.asked.Asked.{Asked}
use Rattle.explore.specs.declared.asked.Sample.{Sample as Sampling}
use Rattle.division.specs.declared.fault.Fault.{Fault}
use Rattle.division.specs.declared.fault.Fault.TheVariants as fault
use Rattle.explore.specs.declared.report.Verdict.{Verdict}
use Rattle.explore.specs.declared.report.Verdict.TheVariants as verdict
use Rattle.division.specs.Division.{ArePartsOf}
use Rattle.explore.specs.Listing.{kept_in, list_text, orders_in}
use Rattle.division.specs.Reasons.{TakesApartAt, HasNoWork, HasCrowd, SetsUp, RefusesAt}

-- how it ended, by how the walk through the orders ended, and by how many outcomes there are. (Excludes that all is said where it stopped.)
abbrev pub verdict_of : Asked → Walk → ℕ → Verdict
verdict_of asked (All count) outcomes = verdict.All outcomes
verdict_of asked Stopped outcomes = verdict.MoreOrders asked.orders
verdict_of asked TooDeep outcomes = verdict.MoreTurns asked.turns
verdict_of asked (Sample count) outcomes = verdict.Sample outcomes

-- the list of what was found
abbrev pub list_for : Asked → Parts → Walk → Findings → List ℕ
list_for asked parts walk found = list_text (choice_in parts asked.choice) asked.waits walk (orders_in walk asked.orders (kept_in found.rows) found.left_out) found

abbrev pub IsFoundBy : Option Sampling → Choice → Parts → Bool → ℕ → ℕ → Walk → Findings → Type 0
IsFoundBy None choice parts waits turns orders walk found = Explored choice parts waits turns orders walk found
IsFoundBy (Some sample) choice parts waits turns orders walk found = Sampled choice parts waits turns sample.orders walk found

-- this was found of all orders of the work that the choice leaves, or of a sample of them if one was asked for. (Excludes a sample in place of all orders.)
abbrev pub IsFound : Asked → Parts → Walk → Findings → Type 0
IsFound asked parts walk found = IsFoundBy asked.sample (choice_in parts asked.choice) parts asked.waits asked.turns asked.orders walk found

-- no line of the script is faulty, no line of its setup is refused, this was found of the orders of its work, of which the choice leaves one for each outcome, and the list of it was written, if no outcome is to be
-- shown
pub record Explores (asked : Asked) (script : List ℕ) (verdict : Verdict) (old new : Option (List ℕ)) : Type 0 where
  pub faultless : IsFaultless Schedule (lines script)
  pub parts : Parts
  pub parts_are : ArePartsOf asked.placement (items_of (lines script)) parts
  pub set_up : SetsUp asked.placement (items_of (lines script))
  pub walk : Walk
  pub found : Findings
  pub is_found : IsFound asked parts walk found
  pub complete : LosesNothing (choice_in parts asked.choice) parts
  pub verdict_is : verdict ≡ verdict_of asked walk (length found.rows)
  pub lists : asked.show ≡ None → Appends old new (list_for asked parts walk found)

-- the outcome with this number was asked for, and fewer were found. (Excludes the number of an outcome that was found, and another number of outcomes.)
pub record LacksOutcome (asked : Asked) (is : List Item) (number outcomes : ℕ) : Type 0 where
  pub parts : Parts
  pub parts_are : ArePartsOf asked.placement is parts
  pub walk : Walk
  pub found : Findings
  pub is_found : IsFound asked parts walk found
  pub shows : asked.show ≡ Some number
  pub counts : outcomes ≡ length found.rows
  pub lacks : (number ≡ 0) ⊎ (outcomes < number)

-- this is why the script was not explored: its first faulty line with its first cause, or out of memory for what it says. If no line is faulty, it is a line of the work that
-- takes a command apart, no actor or too many, a refused line of the setup, or an outcome that does not exist. Memory can always run out, and a write can fail. (Excludes a reason
-- that does not hold of the script, another line's number, and another number of actors or outcomes.)
abbrev pub Explains : Asked → List ℕ → Fault → Type 0
Explains asked script (fault.Script why) = NamesFirstFault Schedule why (lines script)
Explains asked script (fault.TakesApart number) = IsFaultless Schedule (lines script) × TakesApartAt (items_of (lines script)) number
Explains asked script fault.NoWork = IsFaultless Schedule (lines script) × HasNoWork (items_of (lines script))
Explains asked script (fault.TooManyActors actors) = IsFaultless Schedule (lines script) × HasCrowd (items_of (lines script)) actors
Explains asked script (fault.SetupFails number said) = IsFaultless Schedule (lines script) × RefusesAt asked.placement (items_of (lines script)) number (string_bytes said)
Explains asked script (fault.NoOutcome number outcomes) = IsFaultless Schedule (lines script) × LacksOutcome asked (items_of (lines script)) number outcomes
Explains asked script fault.Memory = IsFaultless Schedule (lines script)
Explains asked script fault.Changed = IsFaultless Schedule (lines script)
Explains asked script (fault.Unwritable error) = IsFaultless Schedule (lines script)

-- What a run with all well says of the plain machine.
use Rattle.std.proofs.Common.{◌≡◌, ◌⊎◌, inl, inr, ◌∙◌, ℕ, zero, suc, Bool, true, false, MatchBool, List, [], ◌∷◌, refl, sym, ap, subst}
use Rattle.machine.specs.declared.command.Actor.{Actor}
use Rattle.machine.specs.declared.command.Actor.TheVariants.{Control}
use Rattle.machine.specs.declared.command.Command.{Command}
use Rattle.machine.specs.declared.command.Reply.{Reply as Told_by}
use Rattle.machine.specs.declared.command.Step.{Step}
use Rattle.machine.specs.declared.command.Step.TheVariants as step
use Rattle.machine.specs.Call.{Past}
use Rattle.driver.specs.Schedule.{World, RunsThrough, Stepped, activity_of}
use Rattle.driver.specs.Seats.{is_under_way}
use Rattle.schedules.specs.declared.schedule.Entry.{Entry}
use Rattle.schedules.specs.declared.schedule.Entry.TheVariants as entry
use Rattle.scenario_lines.specs.Scene.{SceneNow}
use Rattle.expansion.specs.declared.expansion.Item.{Item}
use Rattle.expansion.specs.declared.expansion.Item.TheVariants as item
use Rattle.expansion.specs.Walk.{Out}
use Rattle.scenario_runs.specs.Carried.{Carried, Takes, Sees, Goes, Judges, TakesStep, TakesTurns, Finishes, IsWhole, CarriesStep, CarriesEntry, CarriesAll, CarriesNote, CarriesItem, CarriesItems}
use Rattle.scenario_runs.specs.declared.observer.Course.{Course}
use Rattle.scenario_runs.specs.declared.observer.Course.TheVariants.{GoesOn, Ends}
use Rattle.simulation.specs.declared.simulation.Count.{Count}
use Rattle.simulation.specs.Met.{Keeps, CountsNote, IsJudged, Advances, Completes, ReadsAtMost, MeetsNote, StepsBy, MeetsItem, MeetsItems}

-- ---- the plain machine

step_of : (w : World) (s : Step) (answers : List Told_by) (pasts : List Past) (v : World) → RunsThrough w (s ∷ []) answers pasts v → (said : List Told_by) × Stepped w s said v
step_of w s answers pasts v ran = (ran.0, subst (λ (x : World). Stepped w s ran.0 x) (sym ran.5.2) ran.4)

-- some steps, and then others
steps_then : (m n : ℕ) (w x v : World) → StepsBy m w x → StepsBy n x v → (steps : ℕ) × StepsBy steps w v
steps_then zero n w x v first second = (n, subst (λ (y : World). StepsBy n y v) first second)
steps_then (suc m) n w x v first second = let more = steps_then m n first.0 x v first.4 second in (suc more.0, (first.0, first.1, first.2, first.3, more.1))

advances_steps : (turns : ℕ) (w : World) (who : Actor) (v : World) → Advances turns w who v → StepsBy turns w v
advances_steps zero w who v is = is
advances_steps (suc turns) w who v is = (is.0, step.Advance who, is.1, is.3, advances_steps turns is.0 who v is.4)

never : true ≡ false → ⊥
never e = cc

-- ---- counts

keeps_same : (a b : Count) → b ≡ a → Keeps a b
keeps_same a b is = subst (λ (c : Count). Keeps a c) (sym is) (refl, λ well. well)

keeps_then : (a b c : Count) → Keeps a b → Keeps b c → Keeps a c
keeps_then a b c first second = (second.0 ∙ first.0, λ well. first.1 (second.1 well))

module _ {O : Type 0} (count : O → Count) where
  abbrev pub Took : Takes O
  Took = λ a b answers. count b ≡ count a

  abbrev pub Saw : Sees O
  Saw = λ a b pasts. count b ≡ count a

  abbrev pub On : Goes O
  On = λ a b. Keeps (count a) (count b)

  abbrev pub Judged : Judges O
  Judged = λ a b s text past. CountsNote (count a) (count b) s text past.state

  step_keeps : (old new : O) (w : World) (s : Step) (v : World) → TakesStep Took Saw On old w s new v → Keeps (count old) (count new)
  step_keeps old new w s v taken =
      keeps_then (count old) (count taken.0) (count new) taken.2 (keeps_then (count taken.0) (count taken.1) (count new) (keeps_same (count taken.0) (count taken.1) taken.3.2) taken.4)

  step_met : (old new : O) (w : World) (s : Step) (v : World) → TakesStep Took Saw On old w s new v → (said : List Told_by) × Stepped w s said v
  step_met old new w s v taken = step_of w s taken.3.0 taken.3.1 v taken.3.4

  turns_keep : (turns : ℕ) (old new : O) (w : World) (who : Actor) (v : World) → TakesTurns Took Saw On turns old w who new v → Keeps (count old) (count new)
  turns_keep zero old new w who v taken = keeps_same (count old) (count new) (ap count taken.0)
  turns_keep (suc turns) old new w who v taken =
      keeps_then (count old) (count taken.0) (count new) (step_keeps old taken.0 w (step.Advance who) taken.1 taken.3) (turns_keep turns taken.0 new taken.1 who v taken.4)

  turns_met : (turns : ℕ) (old new : O) (w : World) (who : Actor) (v : World) → TakesTurns Took Saw On turns old w who new v → Advances turns w who v
  turns_met zero old new w who v taken = taken.1
  turns_met (suc turns) old new w who v taken =
      let one = step_met old taken.0 w (step.Advance who) taken.1 taken.3 in
      (taken.1, one.0, taken.2, one.1, turns_met turns taken.0 new taken.1 who v taken.4)

  whole_keeps : (old new : O) (w : World) (who : Actor) (what : Command) (v : World) → IsWhole Took Saw On old w who what new v → Keeps (count old) (count new)
  whole_keeps old new w who what v is =
      keeps_then (count old) (count is.0) (count new) (step_keeps old is.0 w (step.Begin who what) is.1 is.2) (turns_keep is.3.0 is.0 new is.1 who v is.3.1)

  whole_met : (old new : O) (w : World) (who : Actor) (what : Command) (v : World) → IsWhole Took Saw On old w who what new v → Completes w who what v
  whole_met old new w who what v is =
      let one = step_met old is.0 w (step.Begin who what) is.1 is.2 in
      (is.1, one.0, is.3.0, one.1, turns_met is.3.0 is.0 new is.1 who v is.3.1, is.3.2)

  -- ---- lines of the script

  abbrev pub Some_steps : O → World → O → World → Type 0
  Some_steps old w new v = Keeps (count old) (count new) × ((steps : ℕ) × StepsBy steps w v)

  step_some : (old new : O) (w : World) (s : Step) (v : World) → TakesStep Took Saw On old w s new v → Some_steps old w new v
  step_some old new w s v taken = let one = step_met old new w s v taken in (step_keeps old new w s v taken, (1, (v, s, one.0, one.1, refl)))

  finish_some : (old new : O) (w : World) (who : Actor) (v : World) → Finishes Took Saw On old w who new v → Some_steps old w new v
  finish_some old new w who v is = (turns_keep is.0 old new w who v is.1, (is.0, advances_steps is.0 w who v (turns_met is.0 old new w who v is.1)))

  some_then : (old mid new : O) (w x v : World) → Some_steps old w mid x → Some_steps mid x new v → Some_steps old w new v
  some_then old mid new w x v first second =
      (keeps_then (count old) (count mid) (count new) first.0 second.0, steps_then first.1.0 second.1.0 w x v first.1.1 second.1.1)

  finish_by : (under : Bool) (old new : O) (w : World) (who : Actor) (v : World) → MatchBool under (Finishes Took Saw On old w who new v) (TakesStep Took Saw On old w (step.Finish who) new v) → Some_steps old w new v
  finish_by true old new w who v is = finish_some old new w who v is
  finish_by false old new w who v is = step_some old new w (step.Finish who) v is

  step_carried : (s : Step) (old new : O) (w v : World) → CarriesStep Took Saw On old w s new v → Some_steps old w new v
  step_carried (step.Begin who what) old new w v is = step_some old new w (step.Begin who what) v is
  step_carried (step.Advance who) old new w v is = step_some old new w (step.Advance who) v is
  step_carried (step.Finish who) old new w v is = finish_by (is_under_way (activity_of who w.seats)) old new w who v is

  entry_carried : (e : Entry) (old new : O) (w v : World) → CarriesEntry Took Saw On old w e new v → Some_steps old w new v
  entry_carried (entry.Whole who what) old new w v is =
      some_then old is.0 new w is.1 v (step_some old is.0 w (step.Begin who what) is.1 is.2) (finish_some is.0 new is.1 who v is.3)
  entry_carried (entry.Step s) old new w v is = step_carried s old new w v is

  none_carried : (old new : O) (w v : World) → new ≡ old → v ≡ w → Some_steps old w new v
  none_carried old new w v same is = (keeps_same (count old) (count new) (ap count same), (0, is))

  all_carried : (es : List Entry) (old new : O) (w v : World) → CarriesAll Took Saw On old w es new v → Some_steps old w new v
  all_carried [] old new w v is = none_carried old new w v is.0 is.1
  all_carried (e ∷ es) old new w v is = some_then old is.0 new w is.1 v (entry_carried e old is.0 w is.1 is.2) (all_carried es is.0 new is.1 v is.3)

  -- ---- items

  note_read : (page : ℕ) (s : SceneNow) (a new : O) (text : List ℕ) (w v : World) → (count a).page.bytes ≡ page → ReadsAtMost w v → CountsNote (count a) (count new) s text v.past.state → (count new).well ≡ true → MeetsNote page w text v
  note_read page s a new text w v is reads counts well =
      (s, counts.0, counts.1, reads, λ of_charge. subst (λ (p : ℕ). IsJudged p s counts.0 v.past.state true) is (counts.4 well of_charge))

  note_keeps : (old new : O) (w : World) (text : List ℕ) (v : World) → CarriesNote Took Saw On Judged old w text new v → Keeps (count old) (count new)
  note_keeps old new w text v is = note_keeps_by is.1
    where
      note_keeps_by : (CountsNote (count old) (count new) is.0 text w.past.state × (v ≡ w)) ⊎ ((what : Command) × (a : O) × IsWhole Took Saw On old w Control what a v × CountsNote (count a) (count new) is.0 text v.past.state) → Keeps (count old) (count new)
      note_keeps_by (inl here) = here.0.2
      note_keeps_by (inr read) = keeps_then (count old) (count read.1) (count new) (whole_keeps old read.1 w Control read.0 v read.2) read.3.2

  note_met : (old new : O) (w : World) (text : List ℕ) (v : World) → CarriesNote Took Saw On Judged old w text new v → (count new).well ≡ true → MeetsNote (count old).page.bytes w text v
  note_met old new w text v is well = note_met_by is.1
    where
      note_met_by : (CountsNote (count old) (count new) is.0 text w.past.state × (v ≡ w)) ⊎ ((what : Command) × (a : O) × IsWhole Took Saw On old w Control what a v × CountsNote (count a) (count new) is.0 text v.past.state) → MeetsNote (count old).page.bytes w text v
      note_met_by (inl here) = note_read (count old).page.bytes is.0 old new text w v refl (inl here.1) (subst (λ (x : World). CountsNote (count old) (count new) is.0 text x.past.state) (sym here.1) here.0) well
      note_met_by (inr read) =
          note_read (count old).page.bytes is.0 read.1 new text w v (ap (λ p. p.bytes) (whole_keeps old read.1 w Control read.0 v read.2).0) (inr (read.0, whole_met old read.1 w Control read.0 v read.2)) read.3 well

  item_keeps : (i : Item) (old new : O) (w v : World) → CarriesItem Took Saw On Judged old w i new v → Keeps (count old) (count new)
  item_keeps (item.Entry who what) old new w v is =
      keeps_then (count old) (count is.0) (count new) is.2 (keeps_then (count is.0) (count is.1) (count new) (whole_keeps is.0 is.1 w who what v is.3) is.4)
  item_keeps (item.Raw line) old new w v is =
      keeps_then (count old) (count is.0) (count new) is.2 (keeps_then (count is.0) (count is.1) (count new) (all_carried is.3.0 is.0 is.1 w v is.3.1).0 is.4)
  item_keeps (item.Note text) old new w v is = note_keeps old new w text v is
  item_keeps item.Opened old new w v is = is.0
  item_keeps (item.Unreached line) old new w v is = is.0

  item_met : (i : Item) (old new : O) (w v : World) → CarriesItem Took Saw On Judged old w i new v → (count new).well ≡ true → MeetsItem (count old).page.bytes w i v
  item_met (item.Entry who what) old new w v is well = whole_met is.0 is.1 w who what v is.3
  item_met (item.Raw line) old new w v is well = (all_carried is.3.0 is.0 is.1 w v is.3.1).1
  item_met (item.Note text) old new w v is well = note_met old new w text v is well
  item_met item.Opened old new w v is well = is.1
  item_met (item.Unreached line) old new w v is well = is.1

  items_keep : (outs : List Out) (old new : O) (w v : World) → CarriesItems Took Saw On Judged old w outs new v → Keeps (count old) (count new)
  items_keep [] old new w v is = keeps_same (count old) (count new) (ap count is.0)
  items_keep (o ∷ outs) old new w v is =
      keeps_then (count old) (count is.0) (count new) (item_keeps o.item old is.0 w is.1 is.2) (items_keep outs is.0 new is.1 v is.3)

  -- a run with all well at its end met each item
  pub items_met : (outs : List Out) (old new : O) (w v : World) → CarriesItems Took Saw On Judged old w outs new v → (count new).well ≡ true → MeetsItems (count old).page.bytes w outs v
  items_met [] old new w v is well = is.1
  items_met (o ∷ outs) old new w v is well =
      let kept = item_keeps o.item old is.0 w is.1 is.2 in
      let later = items_keep outs is.0 new is.1 v is.3 in (
        is.1,
        item_met o.item old is.0 w is.1 is.2 (later.1 well),
        subst (λ (p : ℕ). MeetsItems p is.1 outs v) (ap (λ p. p.bytes) kept.0) (items_met outs is.0 new is.1 v is.3 well),
      )

  -- a run that the observer ended is not well
  pub run_met : (course : Course) (outs : List Out) (old new : O) (w v : World) → Carried Took Saw On Judged (λ a. (count a).well ≡ false) old w outs course new v → (count new).well ≡ true
      → (end : World) × MeetsItems (count old).page.bytes w outs end
  run_met GoesOn outs old new w v carried well = (v, items_met outs old new w v carried well)
  run_met Ends outs old new w v carried well = absurd (never (sym well ∙ carried.4))

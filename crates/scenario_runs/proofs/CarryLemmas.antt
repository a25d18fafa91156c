-- One step, entry or item more.
use Rattle.std.proofs.Common.{◌≡◌, ◌∙◌, ℕ, zero, suc, Bool, true, List, [], ◌∷◌, ◌++◌, refl, sym, ap, subst, append_assoc, append-nil}
use Rattle.machine.specs.declared.command.Actor.{Actor}
use Rattle.machine.specs.declared.command.Step.{Step}
use Rattle.machine.specs.declared.command.Step.TheVariants.{Advance}
use Rattle.driver.specs.Schedule.{World, activity_of}
use Rattle.driver.specs.Seats.{is_under_way}
use Rattle.driver.specs.Desks.{RunsTo}
use Rattle.schedules.specs.declared.schedule.Entry.{Entry}
use Rattle.scenario_lines.specs.Scene.{SceneNow}
use Rattle.expansion.specs.ToCome.{is_said_by, is_said}
use Rattle.expansion.specs.Walk.{Out, Ran, Ending, Ended, Failed, Unsaid, ends, onto, done}
use Rattle.scenario_runs.specs.Carried.{Takes, Sees, Goes, Judges, TakesStep, TakesTurns, CarriesEntry, CarriesAll, CarriesItem, CarriesItems}

pub is_then : {a b c : Bool} → a ≡ b → a ≡ c → b ≡ c
is_then first second = sym first ∙ second

module _ {O : Type 0} (took : Takes O) (saw : Sees O) (goes_on : Goes O) (unchanged : (s : O) → goes_on s s) (longer : (a b c : O) → goes_on a b → goes_on b c → goes_on a c) where
  pub step_taken : (old mid new : O) (w : World) (s : Step) (v : World) → RunsTo took saw old mid w (s ∷ []) v → goes_on mid new → TakesStep took saw goes_on old w s new v
  step_taken old mid new w s v runs goes = (old, mid, unchanged old, runs, goes)

  pub step_behind : (old a new : O) (w : World) (s : Step) (v : World) → goes_on old a → TakesStep took saw goes_on a w s new v → TakesStep took saw goes_on old w s new v
  step_behind old a new w s v first taken = (taken.0, taken.1, longer old a taken.0 first taken.2, taken.3, taken.4)

  -- no turn, and one more
  pub no_turn : (s : O) (w : World) (who : Actor) → TakesTurns took saw goes_on zero s w who s w
  no_turn s w who = (refl, refl)

  pub turn_more : (turns : ℕ) (old cur new : O) (w v u : World) (who : Actor) → TakesTurns took saw goes_on turns old w who cur v → is_under_way (activity_of who v.seats) ≡ true
      → TakesStep took saw goes_on cur v (Advance who) new u → TakesTurns took saw goes_on (suc turns) old w who new u
  turn_more zero old cur new w v u who so_far under next =
      let Under : World → Type 0 = λ x. is_under_way (activity_of who x.seats) ≡ true in
      let From : World → Type 0 = λ x. TakesStep took saw goes_on cur x (Advance who) new u in
      let Of : O → Type 0 = λ o. TakesStep took saw goes_on o w (Advance who) new u in
      (new, u, subst Under so_far.1 under, subst Of so_far.0 (subst From so_far.1 next), no_turn new u who)
  turn_more (suc turns) old cur new w v u who so_far under next = (so_far.0, so_far.1, so_far.2, so_far.3, turn_more turns so_far.0 cur new so_far.1 v u who so_far.4 under next)

  -- no entry, and one more
  pub no_entry : (s : O) (w : World) → CarriesAll took saw goes_on s w [] s w
  no_entry s w = (refl, refl)

  pub entry_more : (es : List Entry) (e : Entry) (old cur new : O) (w v u : World) → CarriesAll took saw goes_on old w es cur v → CarriesEntry took saw goes_on cur v e new u → CarriesAll took saw goes_on old w (es ++ e ∷ []) new u
  entry_more [] e old cur new w v u so_far next =
      let From : World → Type 0 = λ x. CarriesEntry took saw goes_on cur x e new u in
      let Of : O → Type 0 = λ o. CarriesEntry took saw goes_on o w e new u in
      (new, u, subst Of so_far.0 (subst From so_far.1 next), no_entry new u)
  entry_more (f ∷ es) e old cur new w v u so_far next = (so_far.0, so_far.1, so_far.2, entry_more es e so_far.0 cur new so_far.1 v u so_far.3 next)

  -- no item, and one more
  pub no_item : (judged : Judges O) (s : O) (w : World) → CarriesItems took saw goes_on judged s w [] s w
  no_item judged s w = (refl, refl)

  pub item_more : (judged : Judges O) (outs : List Out) (out : Out) (old cur new : O) (w v u : World) → CarriesItems took saw goes_on judged old w outs cur v
      → CarriesItem took saw goes_on judged cur v out.item new u → CarriesItems took saw goes_on judged old w (outs ++ out ∷ []) new u
  item_more judged [] out old cur new w v u so_far next =
      let From : World → Type 0 = λ x. CarriesItem took saw goes_on judged cur x out.item new u in
      let Of : O → Type 0 = λ o. CarriesItem took saw goes_on judged o w out.item new u in
      (new, u, subst Of so_far.0 (subst From so_far.1 next), no_item judged new u)
  item_more judged (o ∷ outs) out old cur new w v u so_far next = (so_far.0, so_far.1, so_far.2, item_more judged outs out so_far.0 cur new so_far.1 v u so_far.3 next)

-- ---- what is to come

said_by : (outs : List Out) (e : Ending) → ends e ≡ true → is_said_by outs e ≡ true
said_by [] (Ended s) is = refl
said_by [] (Failed f) is = refl
said_by [] Unsaid is = is
said_by (o ∷ outs) e is = refl

-- the end is said, so each item before it is
pub said_of : (r : Ran) → ends r.ending ≡ true → is_said r ≡ true
said_of r is = said_by r.outs r.ending is

-- the end stays the same
pub end_stays : (whole now : Ran) (outs : List Out) → whole ≡ onto outs now → ends whole.ending ≡ true → ends now.ending ≡ true
end_stays whole now outs split is = sym (ap (λ (r : Ran). ends r.ending) split) ∙ is

-- an item more comes
pub item_comes : (whole now later left : Ran) (outs : List Out) (o : Out) → whole ≡ onto outs now → now ≡ onto (o ∷ []) later → left ≡ later → whole ≡ onto (outs ++ o ∷ []) left
item_comes whole now later left outs o split comes same =
    split
    ∙ ap (onto outs) (comes ∙ ap (onto (o ∷ [])) (sym same))
    ∙ ap (λ (xs : List Out). record { outs = xs; ending = left.ending }) (sym (append_assoc outs (o ∷ []) left.outs))

-- nothing more comes
pub nothing_comes : (whole now : Ran) (outs : List Out) (s : SceneNow) → whole ≡ onto outs now → now ≡ done s → whole.outs ≡ outs
nothing_comes whole now outs s split is = ap (λ (r : Ran). r.outs) split ∙ ap (λ (r : Ran). outs ++ r.outs) is ∙ append-nil outs

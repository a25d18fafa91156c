-- Runs that are carried out a step at a time, for callers.
use Rattle.std.specs.Prelude.{reverse}
use Rattle.std.proofs.Common.{◌≡◌, true, List, [], ◌++◌, refl, sym, subst}
use Rattle.machine.specs.declared.config.Config.{Config}
use Rattle.machine.specs.declared.command.Reply.{Reply}
use Rattle.machine.specs.declared.command.Step.{Step}
use Rattle.machine.specs.declared.entry.Entry.{Entry}
use Rattle.machine.specs.Call.{Past}
use Rattle.block_store.specs.Device.{Disk}
use Rattle.driver.specs.Schedule.{World, first_world, fits, Runs, RunsThrough}
use Rattle.driver.specs.Desks.{RunsTo}
use Rattle.driver.specs.Sinks.{Gives}
use Rattle.driver.specs.Traced.{GivesUp, GivesTrace, Closes}
use Rattle.driver.proofs.SinkLemmas.{runs_of, RunsThrough-then}

module _ {S : Type 0} (took : S → S → List Reply → Type 0) (saw : S → S → List Past → Type 0) where
  -- before the first step
  pub runs_to_none : ((s : S) → took s s []) → ((s : S) → saw s s []) → (s : S) (w : World) → RunsTo took saw s s w [] w
  runs_to_none nothing unseen s w = ([], [], nothing s, unseen s, (refl, refl, refl))

  -- some steps, and others after them
  pub runs_to_more : ((a b c : S) (xs ys : List Reply) → took a b xs → took b c ys → took a c (xs ++ ys)) → ((a b c : S) (ps qs : List Past) → saw a b ps → saw b c qs → saw a c (ps ++ qs))
      → (a b c : S) (old : World) (steps : List Step) (mid : World) (later : List Step) (new : World) → RunsTo took saw a b old steps mid → RunsTo took saw b c mid later new → RunsTo took saw a c old (steps ++ later) new
  runs_to_more more further a b c old steps mid later new ran went = (
    ran.0 ++ went.0,
    ran.1 ++ went.1,
    more a b c ran.0 went.0 ran.2 went.2,
    further a b c ran.1 went.1 ran.3 went.3,
    RunsThrough-then old steps ran.0 ran.1 mid later went.0 went.1 new ran.4 went.4,
  )

  -- a run that is closed gives what one gives that has all its steps at once
  pub closed_gives : (config : Config) (before : Disk) (steps : List Step) (s t : S) (end : World) (after : Disk) (entries : List Entry) → fits config before ≡ true
      → RunsTo took saw s t (first_world config before) steps end → ((answers : List Reply) → Runs (first_world config before) steps answers end → Closes config before steps answers end entries)
      → GivesUp end.past.history (reverse entries) → after ≡ end.disk → GivesTrace took saw config before steps s t after entries
  closed_gives config before steps s t end after entries fit ran closing traced device =
      let closed : Closes config before steps ran.0 end entries = closing ran.0 (runs_of (first_world config before) steps ran.0 ran.1 end ran.4) in
      let Shown : World → Type 0 = λ w. RunsThrough (first_world config before) steps ran.0 ran.1 w in
      let Traced : World → Type 0 = λ w. GivesUp w.past.history (reverse entries) in
      let Of : Disk → Type 0 = λ disk. GivesTrace took saw config before steps s t disk entries in
      let gives : Gives took saw config before steps s t end.disk =
      record {
        answers = ran.0;
        takes = ran.2;
        schedules = closed.schedules;
        failures = closed.failures;
        pasts = ran.1;
        sees = ran.3;
        shown = subst Shown (sym closed.ends) ran.4;
      } in
      subst Of (sym device) (record { gives = gives; traced = subst Traced (sym closed.ends) traced; passes = closed.passes })

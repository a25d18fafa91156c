-- What a worker's steps add to its pass and to its answers, from before to after: words for the worker's own functions. No public clause cites these.
use Rattle.std.specs.Prelude.{◌≡◌, ℕ, List, ◌++◌, length, Option}
use Rattle.machine.specs.declared.command.Actor.{Actor}
use Rattle.machine.specs.declared.command.Command.{Command}
use Rattle.machine.specs.declared.command.Answer.{Answer}
use Rattle.machine.specs.declared.command.Answer.TheVariants as answer
use Rattle.machine.specs.declared.command.Reply.{Reply as Told_by}
use Rattle.machine.specs.State.{Opening}
use Rattle.book_events.specs.declared.event.Event.{Event}
use Rattle.turns.specs.declared.turn.Pending.{Pending}
use Rattle.turns.specs.declared.turn.Stage.{Stage}
use Rattle.turns.specs.declared.turn.Transition.{Transition}
use Rattle.turns.specs.declared.turn.Transition.TheVariants.{Ends}
use Rattle.turns.specs.Turns.{Judged, paths_of, judged_with, answer_by}
use Rattle.live.specs.declared.history.Exchange.{Exchange}
use Rattle.live.specs.Works.{Calls, TurnMade, Link, Leads, Closes, Answered, JudgedRuns, Does, finds_of}

pub record CallMade (opening : Opening) (remembers : Pending) (what : Event) (old new : List Exchange) (transition : Transition) : Type 0 where
  pub added : List Exchange
  pub keeps : new ≡ old ++ added
  pub made : Calls opening remembers what added transition

-- all but the memory for the text
pub record CallWants (opening : Opening) (remembers : Pending) (what : Event) (old new : List Exchange) : Type 0 where
  pub text : List ℕ
  pub made : CallMade opening remembers what old new (Ends (answer.Text text))

pub record Made (opening : Opening) (stage : Stage) (old new : List Exchange) (transition : Transition) : Type 0 where
  pub added : List Exchange
  pub keeps : new ≡ old ++ added
  pub made : TurnMade opening stage added transition

pub record Wants (opening : Opening) (stage : Stage) (old new : List Exchange) : Type 0 where
  pub text : List ℕ
  pub made : Made opening stage old new (Ends (answer.Text text))

pub record Linked (opening : Opening) (who : Actor) (stage : Stage) (old new : List Exchange) (told telling : List Told_by) (next : Stage) : Type 0 where
  pub added : List Exchange
  pub said : List Told_by
  pub keeps : new ≡ old ++ added
  pub tells : telling ≡ told ++ said
  pub link : Link opening who stage added said next

pub record Closed (opening : Opening) (who : Actor) (stage : Stage) (old new : List Exchange) (told telling : List Told_by) : Type 0 where
  pub added : List Exchange
  pub what : Answer
  pub keeps : new ≡ old ++ added
  pub tells : telling ≡ told ++ answer_by who what
  pub closes : Closes opening stage added what

pub record Under (opening : Opening) (who : Actor) (start : Stage) (old new : List Exchange) (told telling : List Told_by) (stage : Stage) : Type 0 where
  pub row : List Stage
  pub added : List Exchange
  pub said : List Told_by
  pub keeps : new ≡ old ++ added
  pub tells : telling ≡ told ++ said
  pub leads : Leads opening who start row added said stage

pub record Ran (opening : Opening) (who : Actor) (start : Stage) (old new : List Exchange) (told telling : List Told_by) : Type 0 where
  pub added : List Exchange
  pub said : List Told_by
  pub keeps : new ≡ old ++ added
  pub tells : telling ≡ told ++ said
  pub runs : Answered opening who start added said

-- paths were looked up, and this became of the command
pub record Looked (opening : Opening) (who : Actor) (what : Command) (old new : List Exchange) (judged : Judged) : Type 0 where
  pub found : List (Option ℕ)
  pub each : length found ≡ length (paths_of who what)
  pub keeps : new ≡ old ++ finds_of (paths_of who what) found
  pub is : judged ≡ judged_with opening who what found

pub record Judging (opening : Opening) (who : Actor) (judged : Judged) (old new : List Exchange) (told telling : List Told_by) : Type 0 where
  pub added : List Exchange
  pub said : List Told_by
  pub keeps : new ≡ old ++ added
  pub tells : telling ≡ told ++ said
  pub runs : JudgedRuns opening who judged added said

pub record Did (opening : Opening) (who : Actor) (what : Command) (old new : List Exchange) (told telling : List Told_by) : Type 0 where
  pub added : List Exchange
  pub said : List Told_by
  pub keeps : new ≡ old ++ added
  pub tells : telling ≡ told ++ said
  pub does : Does opening who what added said

-- the command was run once, and whatever it answered is dropped
pub record Done (opening : Opening) (who : Actor) (what : Command) (old new : List Exchange) : Type 0 where
  pub added : List Exchange
  pub said : List Told_by
  pub keeps : new ≡ old ++ added
  pub does : Does opening who what added said

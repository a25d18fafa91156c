-- One run of the machine for all workers, and what each of them was told in it.
use Rattle.std.specs.Prelude.{◌≡◌, ℕ, ◌+◌, ◌<◌, true, List, [], ◌∷◌, ◌++◌, length, reverse, take, slice_index_or, All}
use Rattle.std.specs.List.{sum_by}
use Rattle.machine.specs.declared.event.Event.TheVariants as event
use Rattle.machine.specs.declared.reply.Reply.TheVariants as reply
use Rattle.machine.specs.declared.entry.Entry.{Entry}
use Rattle.machine.specs.Tree.{find_group}
use Rattle.machine.specs.State.{Opening}
use Rattle.machine.specs.History.{entries_by}
use Rattle.machine.specs.Call.{Past, Caller, first_past, leaves_entry, Called}
use Rattle.live.specs.declared.history.Exchange.{Exchange}
use Rattle.live.specs.declared.history.Exchange.TheVariants.{Call, Find}
use Rattle.live.specs.declared.history.Told.{Told}
use Rattle.live.specs.Exchanges.{finding, entries_in}
use Rattle.live.specs.Passes.{PassOf}
use Rattle.live.specs.Told.{told, told_to}
use Rattle.live.specs.Matching.{AreApart}

-- ---- one run

-- one thing that happens: a worker is told something; marks are merged, which is told to nobody; or a pass is given out
pub data Act : Type 0 where
  Tells : ℕ → Exchange → Act
  Merges : ℕ → ℕ → Act
  GivesOut : Act

-- What is told is what the machine gives at one past, and leads to the next: an answer is that of the call of just this event, which a refusal leaves as it was; and a path is found
-- as the groups are. (Excludes a refusal for a cause that does not stand, one where the machine would answer, and a group that is found for another's path.)
abbrev pub Gives : Past → ℕ → Exchange → Past → Type 0
Gives old worker (Call what said) new = (leaves_entry what ≡ true) × Called old (record { worker = worker }) what said new
Gives old worker (Find path found) new = (Find path found ≡ finding path (find_group old.state.tree path)) × (new ≡ old)

-- marks are merged, by whoever asks
abbrev pub Merged : Past → ℕ → ℕ → Past → Type 0
Merged old word bits new = (caller : Caller) × Called old caller (event.MergeMarks word bits) reply.Ok new

-- what happened, the newest first, leads from the opening to this past, one thing at a time
abbrev pub Leads : Opening → List Act → Past → Type 0
Leads opening [] past = past ≡ first_past opening
Leads opening (Tells worker what ∷ acts) past = (before : Past) × Leads opening acts before × Gives before worker what past
Leads opening (Merges word bits ∷ acts) past = (before : Past) × Leads opening acts before × Merged before word bits past
Leads opening (GivesOut ∷ acts) past = (before : Past) × Leads opening acts before × (past ≡ record before { passes = before.passes + 1 })

-- of what happened, what was told to whom
abbrev pub told_in : List Act → List Told
told_in [] = []
told_in (Tells worker what ∷ acts) = told worker what ∷ told_in acts
told_in (act ∷ acts) = told_in acts

-- There is one run of the machine, from its opening to the end of this trace, and each pass has just what its worker was told in it, in order: entries, refusals and paths. As many passes
-- were given out in it, no two of them are of one worker, and nothing was told to anybody else. (Excludes an answer that the book did not give, or gave to another worker, or at another time; and a
-- pass that lost one.)
pub record IsOneRun (opening : Opening) (entries : List Entry) (passes : List PassOf) : Type 0 where
  pub acts : List Act
  pub past : Past
  pub leads : Leads opening acts past
  pub trace : past.history ≡ reverse entries
  pub given : past.passes ≡ length passes
  pub each : All (λ (pass : PassOf). pass.exchanges ≡ told_to pass.caller.worker (told_in acts)) passes
  pub apart : AreApart passes
  pub all : sum_by (λ (pass : PassOf). length pass.exchanges) passes ≡ length (told_in acts)

-- ---- what that says of one exchange of a pass

-- The machine gave it to this worker at a beginning of this history, to which a run led from the opening, and the history goes on with what that left; and that beginning has as many entries of
-- the worker as its pass has answers before it that were not refused, so none behind it. (Excludes an answer that fits no moment of the history, and one of a moment before, or after, the worker's own last entry.)
pub record WasGiven (opening : Opening) (history : List Entry) (worker : ℕ) (earlier : List Exchange) (what : Exchange) : Type 0 where
  pub acts : List Act
  pub before : Past
  pub after : Past
  pub later : List Entry
  pub leads : Leads opening acts before
  pub gives : Gives before worker what after
  pub begins : history ≡ later ++ before.history
  pub further : List Entry
  pub goes : history ≡ further ++ after.history
  pub own : length (entries_by worker before.history) ≡ entries_in earlier

-- each of these was
abbrev pub WereGiven : Opening → List Entry → ℕ → List Exchange → Type 0
WereGiven opening history worker exchanges = (k : ℕ) (other : Exchange) → k < length exchanges → WasGiven opening history worker (take k exchanges) (slice_index_or exchanges k other)

-- how many passes were given out
pub record RollOf : Type 0 where
  pub given : ℕ

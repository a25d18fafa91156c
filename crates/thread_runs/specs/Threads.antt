-- What a run of a script on threads prints.
use Rattle.std.specs.Prelude.{◌≡◌, ◌≢◌, ℕ, List, [], ◌∷◌, ◌++◌, length, Option, Contains, map, reverse, codes, decimal, All}
use Rattle.std.specs.List.{sum_by}
use Rattle.std.specs.Io.KnownBytes.{Appends}
use Rattle.std.specs.Str.Lines.{lines}
use Rattle.machine.specs.declared.config.Config.{Config}
use Rattle.machine.specs.declared.config.Placement.{Placement}
use Rattle.machine.specs.declared.command.Actor.{Actor}
use Rattle.machine.specs.declared.command.Actor.TheVariants as actor
use Rattle.machine.specs.declared.command.Command.{Command}
use Rattle.machine.specs.declared.command.Command.TheVariants as command
use Rattle.machine.specs.declared.command.Reply.{Reply}
use Rattle.machine.specs.declared.entry.Entry.{Entry}
use Rattle.machine.specs.Control.{line}
use Rattle.machine.specs.State.{Opening, State, opening_of}
use Rattle.machine.specs.History.{Numbered}
use Rattle.machine.specs.FirstBytes.{first_of}
use Rattle.machine.specs.Audit.{Passes, IsFirstWrong}
use Rattle.machine.specs.Transfers.{transfers_begun, transfers_ended}
use Rattle.live.specs.declared.history.Exchange.{Exchange}
use Rattle.live.specs.Exchanges.{entries_in}
use Rattle.live.specs.Passes.{PassOf}
use Rattle.live.specs.Works.{Worked, Repeated}
use Rattle.live.specs.Matching.{Matches}
use Rattle.live.specs.Reports.{IsLegal}
use Rattle.live.specs.OneRun.{IsOneRun, WereGiven}
use Rattle.scripts.specs.declared.mode.Mode.TheVariants.{Run}
use Rattle.scripts.specs.Header.{config_of}
use Rattle.scripts.specs.Script.{items_of, IsFaultless}
use Rattle.scripts.specs.Work.{setup_of, worked, work_of}
use Rattle.thread_runs.specs.declared.threads.Verdict.{Verdict}
use Rattle.thread_runs.specs.declared.threads.Verdict.TheVariants.{Fine, Wrong}
use Rattle.printer.specs.Prints.{texts}
use Rattle.shown_groups.specs.Shown.{no_text}

-- by actor, what it asked the machine and was told, one exchange after another, with all bytes
abbrev pub Board : Type 0
Board = Actor → List Exchange

abbrev pub no_pass : Board
no_pass who = []

-- an actor is asked for these commands, its exchanges go on with what that adds, and no other's does. (Excludes an actor that is answered for
-- another.)
pub record Piece (opening : Opening) (who : Actor) (commands : List Command) (before : Board) (said : List Reply) (after : Board) : Type 0 where
  pub did : Worked opening who commands (before who) (after who) said
  pub others : (other : Actor) → other ≢ who → after other ≡ before other

-- pieces, one behind the other; of the order in which different actors did what they did nothing is said
abbrev pub Pieces : Opening → List (Actor × List Command) → Board → List Reply → Board → Type 0
Pieces opening [] before said after = (said ≡ []) × ((who : Actor) → after who ≡ before who)
Pieces opening (piece ∷ pieces) before said after =
    (mid : Board) × (here : List Reply) × (later : List Reply)
    × Piece opening piece.0 piece.1 before here mid × Pieces opening pieces mid later after × (said ≡ here ++ later)

-- each command as a piece of its own
abbrev pub pieces_of : List (Actor × Command) → List (Actor × List Command)
pieces_of setup = map (λ p. (p.0, p.1 ∷ [])) setup

-- a run: what stands before `go` was done and answered, then what stands behind it; and the trace of all that
pub record RunOnThreads (config : Config) (setup work : List (Actor × List Command)) : Type 0 where
  pub set_up : List Reply
  pub board : Board
  pub sets_up : Pieces (opening_of config) setup no_pass set_up board
  pub answers : List Reply
  pub last : Board
  pub works : Pieces (opening_of config) work board answers last
  -- the daemon's exchanges
  pub daemon : List Exchange
  pub balances : Repeated (opening_of config) actor.Daemon command.Daemon [] daemon
  -- all passes: one for each of these actors, among them all that were asked for something, and the daemon's
  pub passes : List PassOf
  pub actors : List Actor
  pub exchanges : map (λ (pass : PassOf). pass.exchanges) passes ≡ map last actors ++ daemon ∷ []
  pub all : (who : Actor) → last who ≢ [] → Contains actors who
  -- the entries, the oldest first
  pub entries : List Entry
  pub legal : IsLegal (opening_of config) (reverse entries)
  pub numbered : Numbered (reverse entries)
  -- one run of the machine told each worker all that it was told, in order, and left these entries
  pub one_run : IsOneRun (opening_of config) entries passes
  -- so each exchange, of a refusal or a path too, is what the machine gave at a beginning of these entries
  pub each : All (λ (pass : PassOf). WereGiven (opening_of config) (reverse entries) pass.caller.worker pass.exchanges) passes

-- The trace has just the workers' own exchanges, event for event and byte for byte, all of it is theirs, and no transfer is in flight. (Excludes the trace of another run, and an arrival with other bytes than its worker brought.)
pub record Agree (entries : List Entry) (passes : List PassOf) : Type 0 where
  pub matches : Matches entries passes
  pub all : length entries ≡ sum_by (λ (pass : PassOf). entries_in pass.exchanges) passes
  pub at_rest : transfers_begun (reverse entries) ≡ transfers_ended (reverse entries)

-- what a verdict says of the trace and of the passes. They agree, and an audit finds nothing wrong in the trace; or its first wrong entry is this one
abbrev pub Concludes : Verdict → List Entry → List PassOf → Type 0
Concludes Fine entries passes = Agree entries passes × Passes (first_of (reverse entries)) (reverse entries)
Concludes (Wrong entry) entries passes = Agree entries passes × IsFirstWrong entries entry

-- the line that says it
abbrev pub verdict_line : Verdict → List ℕ
verdict_line Fine = line (codes "audit ok")
verdict_line (Wrong entry) = line (codes "audit failed at entry " ++ decimal entry)

-- the exit status that tells it
abbrev pub status_by : Verdict → ℕ
status_by Fine = 0
status_by (Wrong entry) = 1

-- A writer got what a run prints: its answers, those before `go` first; what is shown of the state that its one run of the machine led to; and the line of this verdict. It got nothing else. (Excludes what an earlier state shows.)
pub record PrintsShowing (config : Config) (setup : List (Actor × Command)) (work : List (Actor × List Command)) (shown : State → List ℕ) (verdict : Verdict) (old new : Option (List ℕ)) : Type 0 where
  pub run : RunOnThreads config (pieces_of setup) work
  pub concludes : Concludes verdict run.entries run.passes
  pub prints : Appends old new (texts run.set_up ++ texts run.answers ++ (shown run.one_run.past.state ++ verdict_line verdict))

-- the same of a run that shows nothing
abbrev pub PrintsThreads : Config → List (Actor × Command) → List (Actor × List Command) → Verdict → Option (List ℕ) → Option (List ℕ) → Type 0
PrintsThreads config setup work verdict old new = PrintsShowing config setup work no_text verdict old new

-- no line of the script is faulty on threads, and a writer got what a run of it prints, with what is shown
pub record PrintsScriptShowing (placement : Placement) (script : List ℕ) (shown : State → List ℕ) (verdict : Verdict) (old new : Option (List ℕ)) : Type 0 where
  pub faultless : IsFaultless Run (lines script)
  pub run : PrintsShowing (record (config_of (items_of (lines script))) { placement = placement }) (setup_of (items_of (lines script))) (work_of (worked (items_of (lines script)))) shown verdict old new

-- the same of a run that shows nothing
abbrev pub PrintsScriptOnThreads : Placement → List ℕ → Verdict → Option (List ℕ) → Option (List ℕ) → Type 0
PrintsScriptOnThreads placement script verdict old new = PrintsScriptShowing placement script no_text verdict old new

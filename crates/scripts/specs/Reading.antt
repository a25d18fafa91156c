-- What has been read of a script, line by line. No public clause cites it.
use Rattle.std.specs.Prelude.{◌≡◌, ℕ, Bool, true, false, ◌&&◌, ◌||◌, List, [], ◌∷◌, ◌++◌, length, replicate, Option, Some, None}
use Rattle.std.specs.List.{list_any}
use Rattle.machine.specs.declared.command.Actor.{Actor}
use Rattle.machine.specs.declared.command.Command.{Command}
use Rattle.machine.specs.declared.command.Step.{Step}
use Rattle.scripts.specs.declared.meaning.Item.{Item}
use Rattle.scripts.specs.declared.forms.Word.TheVariants as word
use Rattle.scripts.specs.declared.forms.DeviceCall.{DeviceCall}
use Rattle.scripts.specs.declared.forms.DeviceCall.TheVariants as call
use Rattle.scripts.specs.declared.mode.Mode.{Mode}
use Rattle.scripts.specs.declared.mode.Mode.TheVariants as mode
use Rattle.scripts.specs.declared.script.Reading.{Reading}
use Rattle.scripts.specs.declared.script.Script.{Script}
use Rattle.scripts.specs.declared.header.Part.{Part}
use Rattle.scripts.specs.declared.header.Part.TheVariants as part
use Rattle.std.specs.Str.{is_utf8}
use Rattle.scripts.specs.Words.{words_of}
use Rattle.scripts.specs.Context.{Around, around}
use Rattle.scripts.specs.Header.{config_after, word_of, is_header_line, is_frames}
use Rattle.scripts.specs.Script.{fails, faults_of, steps_of_item, steps_in, lines_in, is_command, header_word, around_of}
use Rattle.scripts.specs.Work.{is_go, does, setup_in, work_in, shown_rows}
use Rattle.scripts.specs.Rows.{with_command}

-- what the lines read so far leave to be known: for the faults of the next line, and for the script
pub record Known : Type 0 where
  pub mode : Mode
  pub around : Around
  pub gone : Bool
  pub read_faults : List ℕ
  pub write_faults : List ℕ
  pub steps : List Step
  pub lines : List ℕ
  pub setup : List (Actor × Command)
  pub work : List (Actor × List Command)

abbrev pub known_by : Reading → Known
known_by r = record {
  mode = r.context.mode;
  around = around r.context;
  gone = r.gone;
  read_faults = r.read_faults.items;
  write_faults = r.write_faults.items;
  steps = r.schedule.steps;
  lines = r.schedule.numbers;
  setup = r.setup.items;
  work = r.work;
}

-- what lines that say this leave known, where the script is read for this and the header asks for so many frames
abbrev pub known : Mode → ℕ → List Item → Known
known mode frames is = record {
  mode = mode;
  around = around_of frames is;
  gone = list_any is_go is;
  read_faults = faults_of call.Read is;
  write_faults = faults_of call.Write is;
  steps = steps_in mode is;
  lines = lines_in mode is;
  setup = setup_in mode is;
  work = work_in mode is;
}

abbrev pub at_start : Mode → ℕ → Known
at_start mode frames = known mode frames []

abbrev pub option_list : {A : Type 0} → Option A → List A
option_list None = []
option_list (Some x) = x ∷ []

-- these in a schedule, and none in a run
abbrev pub in_schedule : {A : Type 0} → Mode → List A → List A
in_schedule mode.Schedule xs = xs
in_schedule mode.Run xs = []

-- these in a run up to the first `go`, and none else
abbrev pub in_setup : {A : Type 0} → Mode → Bool → List A → List A
in_setup mode.Run false xs = xs
in_setup mode.Run true xs = []
in_setup mode.Schedule gone xs = []

-- the rows with this command in a run behind the first `go`, and as they are else
abbrev pub in_work : Mode → Bool → List (Actor × List Command) → Option (Actor × Command) → List (Actor × List Command)
in_work mode.Run true rows (Some p) = with_command rows p
in_work mode.Run true rows None = rows
in_work mode.Run false rows o = rows
in_work mode.Schedule gone rows o = rows

-- one more call of the device that is to fail
abbrev pub with_fault : Known → DeviceCall → ℕ → Known
with_fault k call.Read n = record k { around = record k.around { given = k.around.given ++ word.Fault ∷ [] }; read_faults = k.read_faults ++ n ∷ [] }
with_fault k call.Write n = record k { around = record k.around { given = k.around.given ++ word.Fault ∷ [] }; write_faults = k.write_faults ++ n ∷ [] }

-- more steps, which the line of this number asks for
abbrev pub with_steps : Known → ℕ → List Step → Known
with_steps k n ss = record k { around = record k.around { commands = true }; steps = k.steps ++ in_schedule k.mode ss; lines = k.lines ++ in_schedule k.mode (replicate (length ss) n) }

-- one more item, of the line of this number
abbrev pub after : Known → ℕ → Item → Known
after k n i = record {
  mode = k.mode;
  around = record { frames = k.around.frames; commands = k.around.commands || is_command i; given = k.around.given ++ option_list (header_word i); config = config_after k.around.config i };
  gone = k.gone || is_go i;
  read_faults = k.read_faults ++ option_list (fails call.Read i);
  write_faults = k.write_faults ++ option_list (fails call.Write i);
  steps = k.steps ++ in_schedule k.mode (steps_of_item i);
  lines = k.lines ++ in_schedule k.mode (replicate (length (steps_of_item i)) n);
  setup = k.setup ++ in_setup k.mode k.gone (option_list (does i));
  work = in_work k.mode k.gone k.work (does i);
}

-- a script says what is known
pub record IsSaid (s : Script) (k : Known) : Type 0 where
  pub config : s.config ≡ k.around.config
  pub read_faults : s.read_faults.items ≡ k.read_faults
  pub write_faults : s.write_faults.items ≡ k.write_faults
  pub steps : s.schedule.steps ≡ k.steps
  pub lines : s.schedule.numbers ≡ k.lines
  pub setup : s.setup.items ≡ k.setup
  pub work : shown_rows s.work.items ≡ k.work

-- what a line is to the header
abbrev pub IsPart : Part → List ℕ → Type 0
IsPart part.Frames l = (is_utf8 l ≡ true) × (is_header_line (words_of l) ≡ true) × (is_frames (word_of (words_of l)) ≡ true)
IsPart part.Other l = (is_utf8 l ≡ true) × (is_header_line (words_of l) ≡ true) × (is_frames (word_of (words_of l)) ≡ false)
IsPart part.Behind l = (is_utf8 l && is_header_line (words_of l)) ≡ false

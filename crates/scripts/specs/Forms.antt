-- The words that lines begin with, and what follows each.
use Rattle.std.specs.Prelude.{ℕ, Bool, true, false, ◌==◌, ◌&&◌, List, [], ◌∷◌, codes, Option, Some, None, find, if◌then◌else◌}
use Rattle.std.specs.Str.{bytes_eq}
use Rattle.machine.specs.declared.command.Actor.{Actor}
use Rattle.machine.specs.declared.command.Actor.TheVariants as actor
use Rattle.scripts.specs.declared.forms.Word.{Word}
use Rattle.scripts.specs.declared.forms.Word.TheVariants as word
use Rattle.scripts.specs.declared.forms.Speaker.{Speaker}
use Rattle.scripts.specs.declared.forms.Speaker.TheVariants as speaker
use Rattle.scripts.specs.declared.forms.Form.{Form}
use Rattle.scripts.specs.declared.forms.Kind.{Kind}
use Rattle.scripts.specs.declared.forms.Kind.TheVariants as kind
use Rattle.scripts.specs.declared.forms.DeviceCall.{DeviceCall}
use Rattle.scripts.specs.declared.forms.DeviceCall.TheVariants as call
use Rattle.scripts.specs.declared.forms.Manner.{Manner}
use Rattle.scripts.specs.declared.forms.Manner.TheVariants as manner
use Rattle.scripts.specs.declared.mode.Mode.{Mode}
use Rattle.scripts.specs.declared.mode.Mode.TheVariants as mode

-- a row of the table of words: who says the word, what follows it, whether it is of the header, comes at most once, may be begun, and is for a schedule alone
pub record Row : Type 0 where
  pub name : List ℕ
  pub speaker : Speaker
  pub arguments : List Kind
  pub header : Bool
  pub once : Bool
  pub begun : Bool
  pub scheduled : Bool

-- the row that a form of the code is
abbrev pub row : Form → Row
row f = record { name = f.name.now; speaker = f.speaker; arguments = f.arguments.now; header = f.header; once = f.once; begun = f.begun; scheduled = f.scheduled }

abbrev pub header : List ℕ → List Kind → Row
header name arguments = record { name = name; speaker = speaker.Shell; arguments = arguments; header = true; once = true; begun = false; scheduled = false }

-- of the header, any number of times
abbrev pub header_many : List ℕ → List Kind → Row
header_many name arguments = record { name = name; speaker = speaker.Shell; arguments = arguments; header = true; once = false; begun = false; scheduled = false }

abbrev pub shell : List ℕ → List Kind → Row
shell name arguments = record { name = name; speaker = speaker.Shell; arguments = arguments; header = false; once = false; begun = true; scheduled = false }

abbrev pub task : List ℕ → List Kind → Row
task name arguments = record { name = name; speaker = speaker.Task; arguments = arguments; header = false; once = false; begun = true; scheduled = false }

-- of the daemon's line
abbrev pub daemon : List ℕ → List Kind → Row
daemon name arguments = record { name = name; speaker = speaker.Shell; arguments = arguments; header = false; once = false; begun = true; scheduled = true }

-- of a line that does a part of what others do whole
abbrev pub part : List ℕ → List Kind → Row
part name arguments = record { name = name; speaker = speaker.Shell; arguments = arguments; header = false; once = false; begun = false; scheduled = true }

-- of a line that parts those before it from those behind
abbrev pub border : List ℕ → List Kind → Row
border name arguments = record { name = name; speaker = speaker.Shell; arguments = arguments; header = false; once = false; begun = false; scheduled = false }

abbrev pub number : Kind
number = kind.Number 0 4294967295

abbrev pub byte : Kind
byte = kind.Number 0 255

-- the table
abbrev pub form_of : Word → Row
form_of word.Frames = header (codes "frames") (kind.Number 1 65536 ∷ [])
form_of word.Swap = header (codes "swap") (kind.Number 0 65536 ∷ [])
form_of word.File = header_many (codes "file") (kind.Name ∷ kind.Number 1 4294967295 ∷ [])
form_of word.Watermarks = header (codes "watermarks") (number ∷ number ∷ [])
form_of word.Trace = header (codes "trace") (kind.Number 1 1048576 ∷ [])
form_of word.Fault = header_many (codes "fault") (kind.Call ∷ kind.Number 1 4294967295 ∷ [])
form_of word.RecursiveProtection = header_many (codes "recursiveprot") []
form_of word.PageSize = header (codes "page") (kind.PageSize ∷ [])
form_of word.Group = shell (codes "group") (kind.Path ∷ [])
form_of word.Rmdir = shell (codes "rmdir") (kind.Path ∷ [])
form_of word.Task = shell (codes "task") (number ∷ kind.Path ∷ [])
form_of word.Attach = shell (codes "attach") (number ∷ kind.Path ∷ [])
form_of word.Set = shell (codes "set") (kind.Path ∷ kind.Any ∷ kind.Any ∷ [])
form_of word.Cat = shell (codes "cat") (kind.Path ∷ kind.Any ∷ [])
form_of word.Protection = shell (codes "prot") (kind.Path ∷ kind.Path ∷ [])
form_of word.LowProtection = shell (codes "lowprot") (kind.Path ∷ kind.Path ∷ [])
form_of word.Write = task (codes "write") (number ∷ number ∷ byte ∷ [])
form_of word.Read = task (codes "read") (number ∷ number ∷ [])
form_of word.FileWrite = task (codes "fwrite") (kind.Name ∷ number ∷ number ∷ byte ∷ [])
form_of word.FileRead = task (codes "fread") (kind.Name ∷ number ∷ number ∷ [])
form_of word.Fork = task (codes "fork") (number ∷ [])
form_of word.Free = task (codes "free") (number ∷ [])
form_of word.Exit = task (codes "exit") []
form_of word.Daemon = daemon (codes "daemon") []
form_of word.Begin = part (codes "begin") (kind.Line ∷ [])
form_of word.Step = part (codes "step") (kind.Actor ∷ [])
form_of word.Finish = part (codes "finish") (kind.Actor ∷ [])
form_of word.Go = border (codes "go") []

abbrev pub words : List Word
words =
    word.Frames ∷ word.Swap ∷ word.File ∷ word.Watermarks ∷ word.Trace ∷ word.Fault ∷ word.RecursiveProtection ∷ word.PageSize ∷ word.Group ∷ word.Rmdir ∷ word.Task ∷ word.Attach ∷ word.Set ∷ word.Cat ∷ word.Protection ∷ word.LowProtection ∷ word.Write
    ∷ word.Read ∷ word.FileWrite ∷ word.FileRead ∷ word.Fork ∷ word.Free ∷ word.Exit ∷ word.Daemon ∷ word.Begin ∷ word.Step ∷ word.Finish ∷ word.Go ∷ []

abbrev pub same_speaker : Speaker → Speaker → Bool
same_speaker speaker.Shell speaker.Shell = true
same_speaker speaker.Task speaker.Task = true
same_speaker _ _ = false

abbrev pub is_named : Speaker → List ℕ → Row → Bool
is_named who text r = same_speaker r.speaker who && bytes_eq text r.name

-- the word of this name that the speaker has
abbrev pub word_named : Speaker → List ℕ → Option Word
word_named who text = find (λ w. is_named who text (form_of w)) words

-- what follows the word is a line of its own
abbrev pub is_line : List Kind → Bool
is_line (kind.Line ∷ []) = true
is_line _ = false

abbrev pub takes_line : Option Word → Bool
takes_line None = false
takes_line (Some w) = is_line (form_of w).arguments

-- whether a line with the word may stand so: by itself each line may
abbrev pub may_stand : Manner → Word → Bool
may_stand manner.Whole w = true
may_stand manner.Begun w = (form_of w).begun

-- whether a line with the word is for a schedule alone, where it stands so: all that is begun is
abbrev pub is_scheduled : Manner → Word → Bool
is_scheduled manner.Whole w = (form_of w).scheduled
is_scheduled manner.Begun w = true

-- the script is read to be run on threads
abbrev pub is_run : Mode → Bool
is_run mode.Schedule = false
is_run mode.Run = true

-- the actor of this name: a task has a number in its place
abbrev pub actor_named : List ℕ → Option Actor
actor_named text =
    if bytes_eq text (codes "shell") then Some actor.Shell
    else if bytes_eq text (codes "control") then Some actor.Control
    else if bytes_eq text (codes "daemon") then Some actor.Daemon
    else None

-- the call of the device that has this name
abbrev pub call_named : List ℕ → Option DeviceCall
call_named text =
    if bytes_eq text (codes "read") then Some call.Read
    else if bytes_eq text (codes "write") then Some call.Write
    else None

-- a number for each word, by which words are told apart
abbrev pub place : Word → ℕ
place word.Frames = 0
place word.Swap = 1
place word.File = 2
place word.Watermarks = 3
place word.Trace = 4
place word.Fault = 5
place word.RecursiveProtection = 6
place word.PageSize = 7
place word.Group = 8
place word.Rmdir = 9
place word.Task = 10
place word.Attach = 11
place word.Set = 12
place word.Cat = 13
place word.Protection = 14
place word.LowProtection = 15
place word.Write = 16
place word.Read = 17
place word.FileWrite = 18
place word.FileRead = 19
place word.Fork = 20
place word.Free = 21
place word.Exit = 22
place word.Daemon = 23
place word.Begin = 24
place word.Step = 25
place word.Finish = 26
place word.Go = 27

abbrev pub same_word : Word → Word → Bool
same_word v w = place v == place w

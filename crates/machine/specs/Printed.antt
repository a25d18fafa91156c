-- The lines that answers print.
use Rattle.std.specs.Prelude.{ℕ, List, [], ◌∷◌, ◌++◌, codes, decimal}
use Rattle.machine.specs.declared.command.Actor.{Actor}
use Rattle.machine.specs.declared.command.Actor.TheVariants.{Task, Shell, Control, Daemon}
use Rattle.machine.specs.declared.command.Answer.{Answer}
use Rattle.machine.specs.declared.command.Answer.TheVariants as answer
use Rattle.machine.specs.declared.command.Reply.{Reply}
use Rattle.machine.specs.declared.command.Word.{Word}
use Rattle.machine.specs.declared.command.Word.TheVariants as word
use Rattle.machine.specs.declared.refusal.Refusal.{Refusal}
use Rattle.machine.specs.declared.refusal.Refusal.TheVariants as refusal
use Rattle.machine.specs.Control.{line}

-- the name of a refusal
abbrev pub refusal_text : Refusal → List ℕ
refusal_text refusal.Exists = codes "EEXIST"
refusal_text refusal.NoEntry = codes "ENOENT"
refusal_text refusal.Busy = codes "EBUSY"
refusal_text refusal.NoSpace = codes "ENOSPC"
refusal_text refusal.NoTask = codes "ESRCH"
refusal_text refusal.NumberUsed = codes "NumberUsed"
refusal_text refusal.TraceFull = codes "TraceFull"
refusal_text refusal.NoMemory = codes "NoMemory"
refusal_text refusal.Stranger = codes "Stranger"
refusal_text refusal.BadPlace = codes "BadPlace"
refusal_text refusal.Invalid = codes "EINVAL"

abbrev pub word_text : Word → List ℕ
word_text word.Killed = codes "killed"
word_text word.Idle = codes "idle"
word_text word.Busy = codes "busy"
word_text word.Io = codes "EIO"
word_text word.OutOfMemory = codes "ENOMEM"
word_text word.Again = codes "EAGAIN"
word_text word.TurnLimit = codes "turn limit"
word_text word.Underway = codes "Underway"
word_text (word.Refused why) = refusal_text why

-- what stands before a word of the actor's
abbrev pub actor_text : Actor → List ℕ
actor_text (Task n) = decimal n
actor_text Shell = codes "error"
actor_text Control = codes "error"
actor_text Daemon = codes "daemon"

-- a byte that the actor read. (Only tasks read.)
abbrev pub byte_text : Actor → ℕ → List ℕ
byte_text (Task n) byte = line (decimal n ++ 32 ∷ decimal byte)
byte_text Shell byte = line (decimal byte)
byte_text Control byte = line (decimal byte)
byte_text Daemon byte = line (decimal byte)

-- a kill of a group: its victim, and how many died with it, the victim counted
abbrev pub group_kill_text : ℕ → ℕ → List ℕ
group_kill_text victim tasks = codes "killed group " ++ (decimal victim ++ 32 ∷ line (decimal tasks))

-- what an answer to the actor prints: a line, but nothing where a command is done, and a control file's text as it is
abbrev pub answer_text : Actor → Answer → List ℕ
answer_text who answer.Done = []
answer_text who (answer.Text text) = text
answer_text who (answer.Kill task) = line (codes "killed " ++ decimal task.0)
answer_text who (answer.KillAll victim tasks) = group_kill_text victim.0 tasks
answer_text who (answer.Byte byte) = byte_text who byte
answer_text who (answer.Word said) = line (actor_text who ++ 32 ∷ word_text said)

abbrev pub printed : Reply → List ℕ
printed reply = answer_text reply.actor reply.answer

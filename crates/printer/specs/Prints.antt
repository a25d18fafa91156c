-- What a run prints.
use Rattle.std.specs.Prelude.{◌≡◌, ℕ, if◌then◌else◌, not, Bool, true, false, List, [], ◌∷◌, ◌++◌, Option, take, codes, filter, map}
use Rattle.std.specs.List.{list_any}
use Rattle.std.specs.Io.KnownBytes.{Appends}
use Rattle.machine.specs.declared.config.Config.{Config}
use Rattle.machine.specs.declared.command.Step.{Step}
use Rattle.machine.specs.declared.command.Answer.{Answer}
use Rattle.machine.specs.declared.command.Answer.TheVariants as answer
use Rattle.machine.specs.declared.command.Word.{Word as Said}
use Rattle.machine.specs.declared.command.Word.TheVariants as word
use Rattle.machine.specs.declared.command.Reply.{Reply}
use Rattle.machine.specs.Control.{line}
use Rattle.machine.specs.Printed.{printed}
use Rattle.block_store.specs.Device.{Disk}
use Rattle.driver.specs.Schedule.{Schedules}
use Rattle.driver.specs.Sinks.{Starts}
use Rattle.printer.specs.declared.options.Options.{Options}
use Rattle.printer.specs.Amounts.{reply_in}
use Rattle.printer.specs.declared.stopped.Stopped.{Stopped}
use Rattle.printer.specs.declared.stopped.Stopped.TheVariants.{Unwritten, Refused}

-- what these answers print, one behind the other. (Excludes an answer that is left out, or printed twice.)
abbrev pub texts : List Reply → List ℕ
texts [] = []
texts (reply ∷ replies) = printed reply ++ texts replies

-- the task of a command was killed
abbrev pub is_killed : Said → Bool
is_killed word.Killed = true
is_killed other = false

-- a task read a byte, or its command ended with its death
abbrev pub is_minor : Answer → Bool
is_minor (answer.Byte byte) = true
is_minor (answer.Word said) = is_killed said
is_minor other = false

-- of the answers, those that are printed: all, or all but the bytes that tasks read and the commands of killed tasks. (Excludes other answers that are kept back.)
abbrev pub kept_by : Bool → List Reply → List Reply
kept_by quiet answers = if quiet then filter (λ (reply : Reply). not (is_minor reply.answer)) answers else answers

-- these, with the amounts of memory in them as the options ask for, with pages of this size
abbrev pub shown_by : ℕ → Options → List Reply → List Reply
shown_by page_size options answers = map (reply_in page_size options.amounts) (kept_by options.quiet answers)

-- the word says that a line did not do what it asks for. (That a task was killed is an event of the machine.)
abbrev pub is_refusing : Said → Bool
is_refusing word.Killed = false
is_refusing other = true

abbrev pub refuses : Answer → Bool
refuses (answer.Word said) = is_refusing said
refuses other = false

-- one of these answers refuses something
abbrev pub any_refuses : List Reply → Bool
any_refuses answers = list_any (λ (reply : Reply). refuses reply.answer) answers

-- known bytes grow by the beginning of bs: by all of it, by a part, or by nothing
pub record AppendsStart (old new : Option (List ℕ)) (bs : List ℕ) : Type 0 where
  pub count : ℕ
  pub appends : Appends old new (take count bs)

-- what stands behind the answers: the line of an audit, where one is asked for. Over a device that keeps its promise it finds nothing wrong
abbrev pub behind_answers : Options → List ℕ
behind_answers options = if options.audit then line (codes "audit ok") else []

-- a writer got what the answers of the plain machine to these steps print, all that are to be shown, and behind that what else is asked for, and nothing else.
-- Where the run is strict, none of them refuses anything. (Excludes a run that wanted memory and ends well, and a strict one that goes on behind a refusal.)
pub record PrintsRun (config : Config) (before : Disk) (steps : List Step) (options : Options) (old new : Option (List ℕ)) : Type 0 where
  pub answers : List Reply
  pub after : Disk
  pub schedules : Schedules config before steps answers after
  pub strict : options.strict ≡ true → any_refuses answers ≡ false
  pub prints : Appends old new (texts (shown_by config.page_size.bytes options answers) ++ behind_answers options)

-- a writer got the beginning of that
pub data PrintsStart (config : Config) (before : Disk) (steps : List Step) (options : Options) (old new : Option (List ℕ)) : Type 0 where
  -- of what the answers print to the first of these steps, and to what was carried out of the step behind them
  Cut : (answers : List Reply) (after : Disk) → Starts config before steps answers after → AppendsStart old new (texts (shown_by config.page_size.bytes options answers)) → PrintsStart config before steps options old new
  -- or all was answered, and it is of what the answers print with what else is asked for behind
  Short : (answers : List Reply) (after : Disk) → Schedules config before steps answers after → AppendsStart old new (texts (shown_by config.page_size.bytes options answers) ++ behind_answers options) → PrintsStart config before steps options old new

-- a strict run ended at the first answer that refuses something, and a writer got what the answers print up to that, and that one too. (Excludes a run
-- that ends without a refusal, that goes on behind one, or that keeps the last answer.)
pub record EndsRun (config : Config) (before : Disk) (steps : List Step) (options : Options) (old new : Option (List ℕ)) : Type 0 where
  pub answers : List Reply
  pub last : Reply
  pub after : Disk
  pub starts : Starts config before steps (answers ++ last ∷ []) after
  pub earlier : any_refuses answers ≡ false
  pub refused : refuses last.answer ≡ true
  pub prints : Appends old new (texts (shown_by config.page_size.bytes options (answers ++ last ∷ [])))

-- why no more answers are taken: the last of them refuses something
abbrev pub is_end : Stopped → Bool
is_end (Unwritten error) = false
is_end (Refused told) = true

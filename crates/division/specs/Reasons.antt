-- Why a script that has no faulty line is not explored, by what its lines say. Lines are counted from 1.
use Rattle.std.specs.Prelude.{◌≡◌, ℕ, ◌+◌, ◌-◌, ◌<◌, ◌≤◌, Bool, true, false, List, [], length, take, Some, slice_get}
use Rattle.std.specs.List.{find, list_any, position}
use Rattle.std.specs.Str.{trim_end}
use Rattle.machine.specs.declared.config.Config.{Config}
use Rattle.machine.specs.declared.command.Answer.{Answer}
use Rattle.machine.specs.declared.command.Answer.TheVariants as answer
use Rattle.machine.specs.declared.command.Word.TheVariants as word
use Rattle.machine.specs.declared.command.Reply.{Reply as Told_by}
use Rattle.machine.specs.Printed.{printed}
use Rattle.machine.specs.State.{blocks_of}
use Rattle.block_store.specs.Device.{Disk, new_disk}
use Rattle.driver.specs.Schedule.{World, first_world, Runs}
use Rattle.scripts.specs.declared.forms.DeviceCall.TheVariants.{Read, Write}
use Rattle.scripts.specs.declared.meaning.Item.{Item}
use Rattle.scripts.specs.Header.{config_of}
use Rattle.scripts.specs.Script.{faults_of, steps_of, steps_of_item}
use Rattle.scripts.specs.Work.{before_go}
use Rattle.division.specs.declared.TheConstants.{MOST_ACTORS}
use Rattle.machine.specs.declared.config.Placement.{Placement}
use Rattle.division.specs.Division.{work_in, takes_apart, actors_in}

-- ---- the work

-- the line with this number is the first of the work that takes a command apart. The work begins after the line `go`. (Excludes another line's number, and a line of the setup
-- or of the looks.)
pub record TakesApartAt (is : List Item) (number : ℕ) : Type 0 where
  pub place : ℕ
  pub first : position takes_apart (work_in is) ≡ Some place
  pub number_is : number ≡ length (before_go is) + 2 + place

-- the work has no actor: no line of it is a command, and the setup leaves no command under way. (Excludes a script with one actor.)
pub record HasNoWork (is : List Item) : Type 0 where
  pub whole : list_any takes_apart (work_in is) ≡ false
  pub none : actors_in is ≡ []

-- the work has this number of actors, which is too many. (Excludes another number of actors.)
pub record HasCrowd (is : List Item) (actors : ℕ) : Type 0 where
  pub whole : list_any takes_apart (work_in is) ≡ false
  pub counts : actors ≡ length (actors_in is)
  pub more : MOST_ACTORS < actors

-- ---- the setup

-- the answer is a word other than `killed`
abbrev pub is_refusal : Answer → Bool
is_refusal (answer.Word word.Killed) = false
is_refusal (answer.Word said) = true
is_refusal (answer.Byte byte) = false
is_refusal (answer.Text text) = false
is_refusal answer.Done = false
is_refusal (answer.Kill task) = false
is_refusal (answer.KillAll victim tasks) = false

-- the line with this answer fails. (Excludes a task that is killed.)
abbrev pub refuses : Told_by → Bool
refuses told = is_refusal told.answer

-- what the answer prints, without the end of its line
abbrev pub refusal_text : Told_by → List ℕ
refusal_text told = trim_end (printed told)

-- the machine's configuration, with this placement
abbrev pub config_for : Placement → List Item → Config
config_for placement is = record (config_of is) { placement = placement }

-- the device before the setup
abbrev pub disk_for : Placement → List Item → Disk
disk_for placement is = new_disk (blocks_of (config_for placement is)) (faults_of Read is) (faults_of Write is)

-- the machine before the setup
abbrev pub world_for : Placement → List Item → World
world_for placement is = first_world (config_for placement is) (disk_for placement is)

-- the machine is opened and carries out the setup, and no answer is a refusal. (Excludes a setup with a refused line.)
pub record SetsUp (placement : Placement) (is : List Item) : Type 0 where
  pub answers : List Told_by
  pub after : World
  pub runs : Runs (world_for placement is) (steps_of (before_go is)) answers after
  pub accepted : list_any refuses answers ≡ false

-- the line with this number is one of the setup. The machine is opened and carries out the lines before it, and no answer is a refusal. Then it carries out this line, whose
-- first refusal prints this. (Excludes a line that is not refused, a line after the first refused one, and the text of another answer.)
pub record RefusesAt (placement : Placement) (is : List Item) (number : ℕ) (said : List ℕ) : Type 0 where
  pub item : Item
  pub before : World
  pub after : World
  pub earlier : List Told_by
  pub here : List Told_by
  pub told : Told_by
  pub within : (0 < number) × (number ≤ length (before_go is))
  pub line : slice_get is (number - 1) ≡ Some item
  pub sets_up : Runs (world_for placement is) (steps_of (take (number - 1) is)) earlier before
  pub accepted : list_any refuses earlier ≡ false
  pub carries : Runs before (steps_of_item item) here after
  pub refused : find refuses here ≡ Some told
  pub said_is : said ≡ refusal_text told

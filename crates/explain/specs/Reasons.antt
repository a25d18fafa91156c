-- What is told of a command that was refused, and that it is so wherever the command itself shows it.
use Rattle.std.specs.Prelude.{◌≡◌, ◌⊎◌, ℕ, ◌<◌, ◌&&◌, nat_le, Bool, false, List, Option, Some, None, IfSome, codes}
use Rattle.machine.specs.declared.event.Place.{Place}
use Rattle.machine.specs.declared.event.Place.TheVariants.{Virtual, File}
use Rattle.machine.specs.declared.command.Actor.{Actor}
use Rattle.machine.specs.declared.command.Actor.TheVariants as actor
use Rattle.machine.specs.declared.command.Command.{Command}
use Rattle.machine.specs.declared.command.Command.TheVariants as command
use Rattle.machine.specs.Control.{amount_of, flag_of, file_named, has_file}
use Rattle.explain.specs.declared.reason.Reason.{Reason}
use Rattle.explain.specs.declared.reason.Reason.TheVariants as reason

-- ---- what a command names

-- the path of the group that it is about; of the daemon the root's
abbrev pub path_in : Command → Option (List ℕ)
path_in (command.Group path) = Some path
path_in (command.Rmdir path) = Some path
path_in (command.Task number path) = Some path
path_in (command.Attach number path) = Some path
path_in (command.Set path file text) = Some path
path_in (command.Cat path file) = Some path
path_in (command.Protection guard target path) = Some path
path_in command.Daemon = Some (codes "/")
path_in other = None

abbrev pub file_in : Command → Option (List ℕ)
file_in (command.Set path file text) = Some file
file_in (command.Cat path file) = Some file
file_in other = None

abbrev pub text_in : Command → Option (List ℕ)
text_in (command.Set path file text) = Some text
text_in other = None

-- the number of a task that it is to start, or to move
abbrev pub number_in : Command → Option ℕ
number_in (command.Task number path) = Some number
number_in (command.Attach number path) = Some number
number_in (command.Fork child) = Some child
number_in other = None

abbrev pub virtual_page : Place → Option ℕ
virtual_page (Virtual page offset) = Some page
virtual_page (File file page offset) = None

abbrev pub offset_at : Place → ℕ
offset_at (Virtual page offset) = offset
offset_at (File file page offset) = offset

abbrev pub page_in : Command → Option ℕ
page_in (command.Access place op) = virtual_page place
page_in (command.Free page) = Some page
page_in other = None

abbrev pub offset_in : Command → Option ℕ
offset_in (command.Access place op) = Some (offset_at place)
offset_in other = None

-- ---- what is told

abbrev pub is_task_number : ℕ → Bool
is_task_number number = nat_le 1 number && nat_le number 65535

-- what is told names what the command names; and a page, an offset or a number is past its limit, a text is no amount (whatever a page stands for, so 4K will do), and a control file none that
-- is modelled, or that the root has, where that is told. (Excludes a limit that is told of a number within it, and another group's path.)
abbrev pub IsSo : Actor → Command → Reason → Type 0
IsSo who what (reason.RoomOnItsWay path) = path_in what ≡ Some path.now
IsSo who what (reason.NothingLeft path) = path_in what ≡ Some path.now
IsSo who what (reason.GroupThere path) = path_in what ≡ Some path.now
IsSo who what (reason.NoGroup path) = path_in what ≡ Some path.now
IsSo who what (reason.NoGroupNow path) = path_in what ≡ Some path.now
IsSo who what (reason.HasGroups path) = path_in what ≡ Some path.now
IsSo who what (reason.InUse path) = path_in what ≡ Some path.now
IsSo who what (reason.NoPath path) = path_in what ≡ Some path.now
IsSo who what (reason.NotModelled file) = (file_in what ≡ Some file.now) × (file_named file.now ≡ None)
IsSo who what (reason.NoControlFile file) = (file_in what ≡ Some file.now) × (file_named file.now ≡ None)
IsSo who what (reason.NearFile file near) = (file_in what ≡ Some file.now) × (file_named file.now ≡ None)
IsSo who what (reason.RootLacks file) = (file_in what ≡ Some file.now) × IfSome (file_named file.now) (λ named. has_file 0 named ≡ false)
IsSo who what (reason.NotWritten file) = file_in what ≡ Some file.now
IsSo who what (reason.NotRead file) = file_in what ≡ Some file.now
IsSo who what (reason.NoFlag text) = (text_in what ≡ Some text.now) × (flag_of text.now ≡ None)
IsSo who what (reason.NoAmount text) = (text_in what ≡ Some text.now) × (amount_of 4096 text.now ≡ None)
IsSo who what (reason.AmountTooLarge text) = (text_in what ≡ Some text.now) × (amount_of 4096 text.now ≡ None)
IsSo who what (reason.NoTaskNumber number) = ((number_in what ≡ Some number) ⊎ (who ≡ actor.Task number)) × (is_task_number number ≡ false)
IsSo who what (reason.NumberUsed number) = number_in what ≡ Some number
IsSo who what (reason.NoTask number) = who ≡ actor.Task number
IsSo who what (reason.NoLiveTask number) = number_in what ≡ Some number
IsSo who what (reason.PagePast page) = (page_in what ≡ Some page) × (1023 < page)
IsSo who what (reason.OffsetPast offset) = (offset_in what ≡ Some offset) × (4095 < offset)
IsSo who what other = Unit {0}

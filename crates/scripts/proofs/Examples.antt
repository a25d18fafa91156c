-- Examples: the faults of lines, what faultless lines say, and the frames that a header asks for.
use Rattle.std.proofs.Common.{◌≡◌, ℕ, zero, suc, ◌<◌, ltb-true, Bool, true, false, List, [], ◌∷◌, Option, Some, None, refl, ap, ◌∙◌, arith}
use Rattle.std.specs.Prelude.{codes, nat_lt, slice_index}
use Rattle.std.specs.List.{list_all}
use Rattle.std.specs.Str.{is_utf8}
use Rattle.std.specs.Str.Lines.{lines}
use Rattle.std.proofs.lemmas.Str.{is_utf8-from_IsUtf8, IsUtf8-from_ascii}
use Rattle.std.proofs.lemmas.Bool.{and_parts}
use Rattle.machine.specs.declared.command.Actor.TheVariants as actor
use Rattle.machine.specs.declared.command.Command.TheVariants as command
use Rattle.machine.specs.declared.command.Step.TheVariants as step
use Rattle.machine.specs.declared.event.Op.TheVariants as op
use Rattle.machine.specs.declared.event.Place.TheVariants.{Virtual, File as InFile}
use Rattle.machine.specs.declared.config.File.{File}
use Rattle.scripts.specs.declared.fault.Cause.{Cause}
use Rattle.scripts.specs.declared.fault.Cause.TheVariants.{UnknownWord, MissingArgument, ExtraArgument, BadNumber, BadName, HeaderAfterCommands, HeaderTwice, TooManyFiles, TooManyBlocks, OnlyInSchedule}
use Rattle.scripts.specs.declared.mode.Mode.{Mode}
use Rattle.scripts.specs.declared.mode.Mode.TheVariants as mode
use Rattle.scripts.specs.declared.forms.Word.{Word}
use Rattle.scripts.specs.declared.forms.Word.TheVariants as word
use Rattle.scripts.specs.Words.{words_of}
use Rattle.scripts.specs.Faults.{first_of, line_faults}
use Rattle.scripts.specs.declared.meaning.Item.{Item}
use Rattle.scripts.specs.Script.{items_of, steps_of_item, is_command}
use Rattle.scripts.specs.Work.{setup_of, worked, work_of}
use Rattle.scripts.specs.Meaning.{meaning}
use Rattle.scripts.specs.Header.{default_config, is_header_line, frames_asked, header_frames}
use Rattle.scripts.proofs.HeaderLemmas.{frames_line-other, frames_line-frames, frames_line-behind}

-- ---- faults of a line of text

-- with 64 frames asked for, behind commands or not, and behind these words of the header, whatever the script is read for
abbrev behind : Mode → Bool → List Word → List ℕ → Option Cause
behind mode commands given line = first_of (line_faults mode (record { frames = 64; commands = commands; given = given; config = default_config }) (words_of line))

abbrev cause : List ℕ → Option Cause
cause line = behind mode.Schedule false [] line

-- of a script that is read to be run on threads
abbrev cause_in_run : List ℕ → Option Cause
cause_in_run line = behind mode.Run false [] line

-- an empty line is faultless
empty : cause (codes "") ≡ None
empty = refl

-- and so is a comment
comment : cause (codes "  #foo") ≡ None
comment = refl

-- ---- which cause is named of several

-- an unknown word comes before a number too large
word_first : cause (codes "99999999999 foo") ≡ Some UnknownWord
word_first = refl

-- so does a missing argument
missing_first : cause (codes "99999999999") ≡ Some MissingArgument
missing_first = refl

-- and one too many
extra_first : cause (codes "99999999999 exit 1") ≡ Some ExtraArgument
extra_first = refl

-- a number comes before a name
number_before_name : cause (codes "task x a") ≡ Some BadNumber
number_before_name = refl

-- ---- words

-- a task's words have a number in front
shell_cannot : cause (codes "write 0 0 1") ≡ Some UnknownWord
shell_cannot = refl

-- ---- numbers

-- a task's number may have zeros in front
zeros_in_front : cause (codes "007 read 0 0") ≡ None
zeros_in_front = refl

-- whether a task has this number is not the script's to say
task_70000 : cause (codes "task 70000 /a") ≡ None
task_70000 = refl

-- but a number is below 2^32
task_too_large : cause (codes "task 4294967296 /a") ≡ Some BadNumber
task_too_large = refl

-- a byte is at most 255
byte_too_large : cause (codes "1 write 0 0 256") ≡ Some BadNumber
byte_too_large = refl

-- a machine has a frame
no_frames : cause (codes "frames 0") ≡ Some BadNumber
no_frames = refl

-- and 65,536 swap blocks at most
swap_most : cause (codes "swap 65536") ≡ None
swap_most = refl

-- the calls of the device are counted from 1
fault_zero : cause (codes "fault read 0") ≡ Some BadNumber
fault_zero = refl

-- the marks are at most the frames
marks : cause (codes "watermarks 3 64") ≡ None
marks = refl

-- and no more
marks_too_large : cause (codes "watermarks 3 65") ≡ Some BadNumber
marks_too_large = refl

-- ---- names

-- a path begins with a slash
relative : cause (codes "group a") ≡ Some BadName
relative = refl

-- what is set, and to what, is not the script's to judge
set_anything : cause (codes "set / x y") ≡ None
set_anything = refl

-- but that there is something is
set_missing : cause (codes "set / x") ≡ Some MissingArgument
set_missing = refl

-- ---- lines that fork a task, free a page and attach a task

-- behind `fork` stands the child's number
fork : cause (codes "1 fork 2") ≡ None
fork = refl

fork_missing : cause (codes "1 fork") ≡ Some MissingArgument
fork_missing = refl

fork_extra : cause (codes "1 fork 2 3") ≡ Some ExtraArgument
fork_extra = refl

-- whether a task may have the child's number is not the script's to say
fork_70000 : cause (codes "1 fork 70000") ≡ None
fork_70000 = refl

-- but that it is a number is
fork_letter : cause (codes "1 fork x") ≡ Some BadNumber
fork_letter = refl

fork_too_large : cause (codes "1 fork 4294967296") ≡ Some BadNumber
fork_too_large = refl

-- the parent's stands in front
fork_parent : cause (codes "4294967296 fork 2") ≡ Some BadNumber
fork_parent = refl

-- and is not left out
fork_alone : cause (codes "fork 2") ≡ Some UnknownWord
fork_alone = refl

-- behind `free` stands the number of a virtual page
free : cause (codes "1 free 0") ≡ None
free = refl

free_missing : cause (codes "1 free") ≡ Some MissingArgument
free_missing = refl

-- a page is freed whole: no offset follows
free_extra : cause (codes "1 free 0 0") ≡ Some ExtraArgument
free_extra = refl

-- whether a task has the page is not the script's to say
free_1024 : cause (codes "1 free 1024") ≡ None
free_1024 = refl

free_sign : cause (codes "1 free -1") ≡ Some BadNumber
free_sign = refl

free_too_large : cause (codes "1 free 4294967296") ≡ Some BadNumber
free_too_large = refl

free_alone : cause (codes "free 0") ≡ Some UnknownWord
free_alone = refl

-- behind `attach` stand a task's number and a path, as behind `task`
attach : cause (codes "attach 007 /a") ≡ None
attach = refl

attach_missing : cause (codes "attach 7") ≡ Some MissingArgument
attach_missing = refl

attach_extra : cause (codes "attach 7 /a /b") ≡ Some ExtraArgument
attach_extra = refl

attach_70000 : cause (codes "attach 70000 /a") ≡ None
attach_70000 = refl

attach_letter : cause (codes "attach x /a") ≡ Some BadNumber
attach_letter = refl

attach_too_large : cause (codes "attach 4294967296 /a") ≡ Some BadNumber
attach_too_large = refl

attach_relative : cause (codes "attach 7 a") ≡ Some BadName
attach_relative = refl

-- the word is the shell's, and no task's
attach_by_task : cause (codes "7 attach 7 /a") ≡ Some UnknownWord
attach_by_task = refl

-- ---- lines that remove a group

-- behind `rmdir` stands one path, as behind `group`
rmdir : cause (codes "rmdir /a") ≡ None
rmdir = refl

rmdir_missing : cause (codes "rmdir") ≡ Some MissingArgument
rmdir_missing = refl

-- groups are removed one by one
rmdir_extra : cause (codes "rmdir /a /b") ≡ Some ExtraArgument
rmdir_extra = refl

-- whether the root can be removed is not the script's to say
rmdir_root : cause (codes "rmdir /") ≡ None
rmdir_root = refl

rmdir_relative : cause (codes "rmdir a") ≡ Some BadName
rmdir_relative = refl

-- the word is the shell's, and no task's
rmdir_by_task : cause (codes "1 rmdir /a") ≡ Some UnknownWord
rmdir_by_task = refl

-- ---- lines of files, and accesses to them

-- behind these files of the header
abbrev among : List File → List ℕ → Option Cause
among files line = first_of (line_faults mode.Schedule (record { frames = 64; commands = false; given = []; config = record default_config { files = files } }) (words_of line))

-- behind `file` stand a name, and how many pages the file has
file : cause (codes "file a 1") ≡ None
file = refl

file_missing : cause (codes "file a") ≡ Some MissingArgument
file_missing = refl

file_extra : cause (codes "file a 1 2") ≡ Some ExtraArgument
file_extra = refl

-- a file has a page
file_empty : cause (codes "file a 0") ≡ Some BadNumber
file_empty = refl

-- its name is that of a group, and no path
file_path : cause (codes "file /a 1") ≡ Some BadName
file_path = refl

-- a number comes before a name
file_number_before_name : cause (codes "file /a 0") ≡ Some BadNumber
file_number_before_name = refl

-- there are so many blocks, and no more
file_most : cause (codes "file a 131072") ≡ None
file_most = refl

file_too_large : cause (codes "file a 131073") ≡ Some TooManyBlocks
file_too_large = refl

abbrev old : File
old = record { name = codes "a"; pages = 65536 }

-- those of the files before are counted
file_behind : among (old ∷ []) (codes "file b 65536") ≡ None
file_behind = refl

file_full : among (old ∷ []) (codes "file b 65537") ≡ Some TooManyBlocks
file_full = refl

-- also where the line asks for swap
swap_behind : among (old ∷ record { name = codes "b"; pages = 1 } ∷ []) (codes "swap 65536") ≡ Some TooManyBlocks
swap_behind = refl

-- no two have one name, which comes before the blocks
file_twice : among (old ∷ []) (codes "file a 65537") ≡ Some HeaderTwice
file_twice = refl

-- 64 files of this name, which no header gives
abbrev many : ℕ → List File
many zero = []
many (suc n) = old ∷ many n

-- the 65th is one too many, which comes before the blocks
file_65 : among (many 64) (codes "file b 1") ≡ Some TooManyFiles
file_65 = refl

-- but behind the name
file_65_twice : among (many 64) (codes "file a 1") ≡ Some HeaderTwice
file_65_twice = refl

-- a task reads and writes a file by its name
fwrite : cause (codes "1 fwrite a 0 0 255") ≡ None
fwrite = refl

fread : cause (codes "1 fread a 0 0") ≡ None
fread = refl

fread_extra : cause (codes "1 fread a 0 0 0") ≡ Some ExtraArgument
fread_extra = refl

fread_path : cause (codes "1 fread /a 0 0") ≡ Some BadName
fread_path = refl

fread_alone : cause (codes "fread a 0 0") ≡ Some UnknownWord
fread_alone = refl

begin_fread : cause (codes "begin 1 fread a 0 0") ≡ None
begin_fread = refl

-- ---- lines that are begun

-- no line of the header is begun
begin_header : cause (codes "begin frames 4") ≡ Some UnknownWord
begin_header = refl

-- nor is a part
begin_part : cause (codes "begin step 1") ≡ Some UnknownWord
begin_part = refl

-- nor is a comment
begin_comment : cause (codes "begin #") ≡ Some UnknownWord
begin_comment = refl

-- what a task or the shell says may be
begin_fork : cause (codes "begin 1 fork 2") ≡ None
begin_fork = refl

begin_free : cause (codes "begin 1 free 0") ≡ None
begin_free = refl

begin_attach : cause (codes "begin attach 7 /a") ≡ None
begin_attach = refl

begin_rmdir : cause (codes "begin rmdir /a") ≡ None
begin_rmdir = refl

-- an actor is a task's number or a name
step_daemon : cause (codes "step daemon") ≡ None
step_daemon = refl

-- ---- lines that are for a schedule alone, and the one that a run is parted by

-- a schedule may have them all
go_in_schedule : cause (codes "go") ≡ None
go_in_schedule = refl

-- a run has no lines that take others apart
begin_in_run : cause_in_run (codes "begin 1 exit") ≡ Some OnlyInSchedule
begin_in_run = refl

step_in_run : cause_in_run (codes "step 1") ≡ Some OnlyInSchedule
step_in_run = refl

finish_in_run : cause_in_run (codes "finish shell") ≡ Some OnlyInSchedule
finish_in_run = refl

-- nor the daemon's
daemon_in_run : cause_in_run (codes "daemon") ≡ Some OnlyInSchedule
daemon_in_run = refl

begin_daemon_in_run : cause_in_run (codes "begin daemon") ≡ Some OnlyInSchedule
begin_daemon_in_run = refl

-- what a task or the shell does whole it may have
exit_in_run : cause_in_run (codes "1 exit") ≡ None
exit_in_run = refl

group_in_run : cause_in_run (codes "group /a") ≡ None
group_in_run = refl

go_in_run : cause_in_run (codes "go") ≡ None
go_in_run = refl

-- every other cause comes first
begin_go_in_run : cause_in_run (codes "begin go") ≡ Some UnknownWord
begin_go_in_run = refl

step_missing_in_run : cause_in_run (codes "step") ≡ Some MissingArgument
step_missing_in_run = refl

daemon_extra_in_run : cause_in_run (codes "daemon 1") ≡ Some ExtraArgument
daemon_extra_in_run = refl

step_too_large_in_run : cause_in_run (codes "step 70000000000") ≡ Some BadNumber
step_too_large_in_run = refl

begin_relative_in_run : cause_in_run (codes "begin group a") ≡ Some BadName
begin_relative_in_run = refl

-- it is not begun
begin_go : cause (codes "begin go") ≡ Some UnknownWord
begin_go = refl

-- and no task's
go_by_task : cause (codes "1 go") ≡ Some UnknownWord
go_by_task = refl

-- nothing follows it
go_extra : cause (codes "go 1") ≡ Some ExtraArgument
go_extra = refl

-- the header ends before it
is_header_line-go : is_header_line (words_of (codes "go")) ≡ false
is_header_line-go = refl

-- ---- the header

-- the header comes before all commands
late : behind mode.Schedule true [] (codes "frames 4") ≡ Some HeaderAfterCommands
late = refl

-- and each of its lines once
twice : behind mode.Schedule false (word.Swap ∷ word.Frames ∷ []) (codes "frames 4") ≡ Some HeaderTwice
twice = refl

-- the place comes before the number of times
late_and_twice : behind mode.Schedule true (word.Frames ∷ []) (codes "frames 4") ≡ Some HeaderAfterCommands
late_and_twice = refl

-- but for `fault`, of which there may be many
fault_twice : behind mode.Schedule false (word.Fault ∷ []) (codes "fault read 1") ≡ None
fault_twice = refl

-- and `recursiveprot`, which says the same again
recursive_twice : behind mode.Schedule false (word.RecursiveProtection ∷ []) (codes "recursiveprot") ≡ None
recursive_twice = refl

recursive_late : behind mode.Schedule true [] (codes "recursiveprot") ≡ Some HeaderAfterCommands
recursive_late = refl

-- nothing follows it
recursive_extra : cause (codes "recursiveprot 1") ≡ Some ExtraArgument
recursive_extra = refl

-- it is not begun
begin_recursive : cause (codes "begin recursiveprot") ≡ Some UnknownWord
begin_recursive = refl

-- a wrong number comes before either
number_before_late : behind mode.Schedule true (word.Frames ∷ []) (codes "frames 0") ≡ Some BadNumber
number_before_late = refl

-- a comment does not end the header
is_header_line-comment : is_header_line (words_of (codes " # x")) ≡ true
is_header_line-comment = refl

-- nor does a faulty line of it
is_header_line-faulty : is_header_line (words_of (codes "fault foo")) ≡ true
is_header_line-faulty = refl

-- but a task's line does, whatever its word
is_header_line-task : is_header_line (words_of (codes "7 frames")) ≡ false
is_header_line-task = refl

-- ---- what lines say

-- the shell does the whole of a line
says_group : steps_of_item (meaning [] (words_of (codes "group /a"))) ≡ step.Begin actor.Shell (command.Group (codes "/a")) ∷ step.Finish actor.Shell ∷ []
says_group = refl

-- and what is begun is begun by control, and not finished
says_begin : steps_of_item (meaning [] (words_of (codes "begin group /a"))) ≡ step.Begin actor.Control (command.Group (codes "/a")) ∷ []
says_begin = refl

-- the daemon begins what is the daemon's
says_daemon : steps_of_item (meaning [] (words_of (codes "begin daemon"))) ≡ step.Begin actor.Daemon command.Daemon ∷ []
says_daemon = refl

-- a number is a task's
says_step : steps_of_item (meaning [] (words_of (codes "step 007"))) ≡ step.Advance (actor.Task 7) ∷ []
says_step = refl

-- virtual page, offset and byte, in this order
says_write : steps_of_item (meaning [] (words_of (codes "7 write 1 2 3")))
    ≡ step.Begin (actor.Task 7) (command.Access (Virtual 1 2) (op.Write 3)) ∷ step.Finish (actor.Task 7) ∷ []
says_write = refl

-- the file's number, page, offset and byte
says_fwrite : steps_of_item (meaning (record { name = codes "b"; pages = 1 } ∷ old ∷ []) (words_of (codes "7 fwrite a 1 2 3")))
    ≡ step.Begin (actor.Task 7) (command.Access (InFile 1 1 2) (op.Write 3)) ∷ step.Finish (actor.Task 7) ∷ []
says_fwrite = refl

-- a name that no file has
says_fread : steps_of_item (meaning (old ∷ []) (words_of (codes "7 fread b 1 2"))) ≡ step.Begin (actor.Task 7) (command.Access (InFile 64 1 2) op.Read) ∷ step.Finish (actor.Task 7) ∷ []
says_fread = refl

-- the parent forks, and the other number is the child's
says_fork : steps_of_item (meaning [] (words_of (codes "7 fork 008"))) ≡ step.Begin (actor.Task 7) (command.Fork 8) ∷ step.Finish (actor.Task 7) ∷ []
says_fork = refl

says_begin_fork : steps_of_item (meaning [] (words_of (codes "begin 7 fork 8"))) ≡ step.Begin (actor.Task 7) (command.Fork 8) ∷ []
says_begin_fork = refl

-- a virtual page
says_free : steps_of_item (meaning [] (words_of (codes "7 free 8"))) ≡ step.Begin (actor.Task 7) (command.Free 8) ∷ step.Finish (actor.Task 7) ∷ []
says_free = refl

says_begin_free : steps_of_item (meaning [] (words_of (codes "begin 7 free 8"))) ≡ step.Begin (actor.Task 7) (command.Free 8) ∷ []
says_begin_free = refl

-- the shell attaches the task, which does nothing for it
says_attach : steps_of_item (meaning [] (words_of (codes "attach 7 /a"))) ≡ step.Begin actor.Shell (command.Attach 7 (codes "/a")) ∷ step.Finish actor.Shell ∷ []
says_attach = refl

says_begin_attach : steps_of_item (meaning [] (words_of (codes "begin attach 7 /a"))) ≡ step.Begin actor.Control (command.Attach 7 (codes "/a")) ∷ []
says_begin_attach = refl

-- the shell removes the group
says_rmdir : steps_of_item (meaning [] (words_of (codes "rmdir /a"))) ≡ step.Begin actor.Shell (command.Rmdir (codes "/a")) ∷ step.Finish actor.Shell ∷ []
says_rmdir = refl

says_begin_rmdir : steps_of_item (meaning [] (words_of (codes "begin rmdir /a"))) ≡ step.Begin actor.Control (command.Rmdir (codes "/a")) ∷ []
says_begin_rmdir = refl

-- nothing is done at a `go`
says_go : steps_of_item (meaning [] (words_of (codes "go"))) ≡ []
says_go = refl

-- but the header is over
ends_header : is_command (meaning [] (words_of (codes "go"))) ≡ true
ends_header = refl

-- ---- what a run on threads is asked for

-- one line before the first `go`, and of four behind it two of one task
parted : List Item
parted = items_of (codes "group /a" ∷ codes "go" ∷ codes "2 free 0" ∷ codes "cat /a memory.max" ∷ codes "go" ∷ codes "1 exit" ∷ codes "2 exit" ∷ [])

setup-parted : setup_of parted ≡ (actor.Shell, command.Group (codes "/a")) ∷ []
unfolding parted
setup-parted = refl

-- the shell's row is the first, and each task has all that it is asked for
work-parted : work_of (worked parted)
    ≡ (actor.Shell, command.Cat (codes "/a") (codes "memory.max") ∷ []) ∷ (actor.Task 1, command.Exit ∷ []) ∷ (actor.Task 2, command.Free 0 ∷ command.Exit ∷ []) ∷ []
unfolding parted
work-parted = refl

-- without a `go` all is setup
whole : List Item
whole = items_of (codes "group /a" ∷ codes "1 exit" ∷ [])

setup-whole : setup_of whole ≡ (actor.Shell, command.Group (codes "/a")) ∷ (actor.Task 1, command.Exit) ∷ []
unfolding whole
setup-whole = refl

work-whole : work_of (worked whole) ≡ []
unfolding whole
work-whole = refl

-- ---- lines

-- a line ends with its newline, and one carriage return before that is no part of it; behind no newline it is
lines-return : lines (97 ∷ 13 ∷ 13 ∷ 10 ∷ 98 ∷ 13 ∷ []) ≡ (97 ∷ 13 ∷ []) ∷ (98 ∷ 13 ∷ []) ∷ []
lines-return = refl

-- each newline ends a line, an empty one too
lines-two : lines (10 ∷ 10 ∷ []) ≡ [] ∷ [] ∷ []
lines-two = refl

-- ---- the frames of a header

-- bytes below 128 are text
text : (bs : List ℕ) → list_all (λ b. nat_lt b 128) bs ≡ true → is_utf8 bs ≡ true
text bs all = is_utf8-from_IsUtf8 bs (IsUtf8-from_ascii bs (ascii bs all))
  where
    ascii : (bs : List ℕ) → list_all (λ b. nat_lt b 128) bs ≡ true → (i : ℕ) → slice_index bs i < 128
    ascii [] all i = omega arith
    ascii (b ∷ bs) all zero = ltb-true b 128 (and_parts (nat_lt b 128) (list_all (λ b. nat_lt b 128) bs) all).0
    ascii (b ∷ bs) all (suc i) = ascii bs (and_parts (nat_lt b 128) (list_all (λ b. nat_lt b 128) bs) all).1 i

-- the line that says so asks for 4 frames
asks : frames_asked (Some (codes "frames 4")) ≡ 4
asks = rw (text (codes "frames 4") refl) refl

-- and so do the lines of which it is the first
asks-first : header_frames (codes "frames 4" ∷ codes "frames 5" ∷ []) ≡ 4
asks-first = ap frames_asked (frames_line-frames (codes "frames 4") (codes "frames 5" ∷ []) (text (codes "frames 4") refl, refl, refl)) ∙ asks

-- behind other lines of the header too
asks-behind_swap : header_frames (codes "swap 2" ∷ codes "frames 4" ∷ []) ≡ 4
asks-behind_swap =
    ap frames_asked (frames_line-other (codes "swap 2") (codes "frames 4" ∷ []) (text (codes "swap 2") refl, refl, refl))
    ∙ ap frames_asked (frames_line-frames (codes "frames 4") [] (text (codes "frames 4") refl, refl, refl)) ∙ asks

-- behind a command it says nothing: 64 is the default
asks-behind_command : header_frames (codes "daemon" ∷ codes "frames 4" ∷ []) ≡ 64
asks-behind_command = ap frames_asked (frames_line-behind (codes "daemon") (codes "frames 4" ∷ []) (rw (text (codes "daemon") refl) refl))

-- a faulty first line asks for the default
asks-faulty : frames_asked (Some (codes "frames 0")) ≡ 64
asks-faulty = rw (text (codes "frames 0") refl) refl

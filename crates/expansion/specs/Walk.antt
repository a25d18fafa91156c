-- What a scenario stands for: its items in their order, up to its end, to its first fault, or to its first list with `until`.
use Rattle.std.specs.Prelude.{ℕ, zero, suc, ◌+◌, ◌-◌, Bool, true, false, List, [], ◌∷◌, ◌++◌, length, take, drop, slice_get, Option, Some, None, Result, Ok, Err, if◌then◌else◌}
use Rattle.machine.specs.declared.command.Actor.TheVariants as actor
use Rattle.scenarios.specs.declared.lines.LineKind.{LineKind}
use Rattle.scenarios.specs.declared.lines.LineKind.TheVariants as line
use Rattle.scenarios.specs.Holes.{NamedText}
use Rattle.scenarios.specs.Lines.{TextLine, opens_block}
use Rattle.scenario_words.specs.declared.fault.Cause.TheVariants as cause
use Rattle.scenario_words.specs.declared.fault.Fault.{Fault}
use Rattle.scenario_words.specs.Faults.{◌>>=◌}
use Rattle.scenario_words.specs.Words.{FilledWord, filled_words, word_fault, word_at, ends_at}
use Rattle.scenario_lines.specs.declared.burst.Burst.{Burst}
use Rattle.scenario_lines.specs.declared.burst.Condition.{Condition}
use Rattle.scenario_lines.specs.declared.burst.Deed.{Deed}
use Rattle.scenario_lines.specs.declared.burst.Deed.TheVariants as deed
use Rattle.scenario_lines.specs.Access.{command_at}
use Rattle.scenario_lines.specs.Acts.{entry_count}
use Rattle.scenario_lines.specs.HeaderLines.{header_read}
use Rattle.scenario_lines.specs.Joined.{joined}
use Rattle.scenario_lines.specs.LineLists.{line_lists, together_form, may_be_refused}
use Rattle.scenario_lines.specs.Pages.{page_count, page_at}
use Rattle.scenario_lines.specs.Rounding.{sizes_noted}
use Rattle.scenario_lines.specs.Scene.{SceneNow, at_first, oldest}
use Rattle.scenario_lines.specs.Tasks.{StandingNow}
use Rattle.expansion.specs.declared.expansion.Item.{Item}
use Rattle.expansion.specs.declared.expansion.Item.TheVariants as item
use Rattle.expansion.specs.Frames.{HeadNow, repeat_head, named_round}
use Rattle.expansion.specs.Standings.{after_first, after_rest, standing}
use Rattle.expansion.specs.Together.{PlacedNow, MemberNow, new_member, added_some, next_entry, member_or, taken_of, left_of, next_of}

-- ---- what comes

-- the line of an item: its number, its rounds, the outermost first, and its words
pub record Told : Type 0 where
  pub line : ℕ
  pub rounds : List ℕ
  pub words : List ℕ

pub record Out : Type 0 where
  pub told : Told
  pub item : Item

-- nothing comes behind the items: what is known then; or a fault; or a list with `until` begins, of which nothing is said here
pub data Ending : Type 0 where
  Ended : SceneNow → Ending
  Failed : Fault → Ending
  Unsaid : Ending

-- what a scenario stands for comes to its end: no fault ends it, and no list with `until` begins, of which nothing is said
abbrev pub ends : Ending → Bool
ends (Ended s) = true
ends (Failed f) = false
ends Unsaid = false

pub record Ran : Type 0 where
  pub outs : List Out
  pub ending : Ending

abbrev pub done : SceneNow → Ran
done s = record { outs = []; ending = Ended s }

abbrev pub failed : Fault → Ran
failed f = record { outs = []; ending = Failed f }

abbrev pub unsaid : Ran
unsaid = record { outs = []; ending = Unsaid }

-- items before others
abbrev pub onto : List Out → Ran → Ran
onto outs r = record { outs = outs ++ r.outs; ending = r.ending }

abbrev pub followed_by : List Out → Ending → (SceneNow → Ran) → Ran
followed_by outs (Ended s) more = onto outs (more s)
followed_by outs (Failed f) more = record { outs = outs; ending = Failed f }
followed_by outs Unsaid more = record { outs = outs; ending = Unsaid }

-- what comes, and then what follows from what is known after it
abbrev pub followed : Ran → (SceneNow → Ran) → Ran
followed r more = followed_by r.outs r.ending more

-- a value or a fault, and then what follows from the value
abbrev pub tried : {A : Type 0} → Result A Fault → (A → Ran) → Ran
tried (Ok x) more = more x
tried (Err f) more = failed f

-- ---- one list

-- how many items there are: the entries, or one note
abbrev pub item_count : Deed → ℕ
item_count (deed.Access a) = page_count a.pages
item_count (deed.Command who what) = 1
item_count (deed.Raw words) = 1
item_count (deed.Note words) = 1

-- the item of a place
abbrev pub item_at : Deed → ℕ → Item
item_at (deed.Access a) place = item.Entry (actor.Task a.task) (command_at a.act (page_at a.pages place))
item_at (deed.Command who what) place = item.Entry who what
item_at (deed.Raw words) place = item.Raw words
item_at (deed.Note words) place = item.Note words

abbrev pub out_of : Told → Item → Out
out_of told i = record { told = told; item = i }

-- `many` items of a list, from a place on
abbrev pub items_from : Told → Deed → ℕ → ℕ → List Out
items_from told d place zero = []
items_from told d place (suc many) = out_of told (item_at d place) ∷ items_from told d (place + 1) many

-- the tasks with other standings
abbrev pub stands : SceneNow → List StandingNow → SceneNow
stands s st = record s { tasks = standing s.tasks st }

-- after the length of a list was not given nothing comes
abbrev pub unless_loose : SceneNow → List Out → List Out
unless_loose s outs = if s.loose then [] else outs

-- a list from a place on, each entry of which changes the tasks' standings
abbrev pub list_from : Told → Deed → ℕ → SceneNow → Ran
list_from told d place s = record {
  outs = unless_loose s (items_from told d place (item_count d - place));
  ending = Ended (stands s (after_rest d place s.tasks.standings));
}

abbrev pub if_whole : Option Condition → Ran → Ran
if_whole None r = r
if_whole (Some c) r = unsaid

abbrev pub list_whole : Told → Burst → SceneNow → Ran
list_whole told b s = if_whole b.until (list_from told b.deed 0 s)

-- lists one after the other
abbrev pub lists_whole : Told → List Burst → SceneNow → Ran
lists_whole told [] s = done s
lists_whole told (b ∷ bs) s = followed (list_whole told b s) (λ t. lists_whole told bs t)

-- ---- lists that are worked together

abbrev pub told_by : PlacedNow → Told
told_by p = record { line = p.line; rounds = p.rounds; words = p.words }

abbrev pub turn_out : Option (PlacedNow × ℕ) → List Out
turn_out None = []
turn_out (Some e) = out_of (told_by e.0) (item_at e.0.deed e.1) ∷ []

abbrev pub turns_from : Option ℕ → List MemberNow → (ℕ → List Out) → List Out
turns_from None ms more = []
turns_from (Some m) ms more = turn_out (next_entry (member_or (slice_get ms m))) ++ more m

-- `many` turns: each takes the entry that comes next
abbrev pub turns_by : ℕ → List MemberNow → List Out
turns_by zero ms = []
turns_by (suc many) ms = turns_from (next_of ms) ms (λ m. turns_by many (taken_of ms m))

-- all that are left
abbrev pub turns : List MemberNow → List Out
turns ms = turns_by (left_of ms) ms

-- ---- the tree

-- lines and blocks, each with what follows it
pub data Blocks : Type 0 where
  Nothing : Blocks
  Line : TextLine → Blocks → Blocks
  Block : TextLine → Blocks → Blocks → Blocks

-- the tree of lines: a line that opens a block knows how many are in it
abbrev pub blocks_by : ℕ → List TextLine → Blocks
blocks_by zero ls = Nothing
blocks_by (suc many) [] = Nothing
blocks_by (suc many) (l ∷ ls) =
    if opens_block l.kind then Block l (blocks_by many (take l.inside ls)) (blocks_by many (drop l.inside ls)) else Line l (blocks_by many (drop l.inside ls))

abbrev pub blocks_of : List TextLine → Blocks
blocks_of ls = blocks_by (length ls) ls

-- ---- inside of `together`

-- the members so far, and what is known
abbrev pub Gathered : Type 0
Gathered = List MemberNow × SceneNow

-- a list is a member of its own, unless it is in a `repeat`
abbrev pub member_for : Bool → List MemberNow → List MemberNow
member_for in_repeat ms = if in_repeat then ms else ms ++ new_member ∷ []

abbrev pub placed_by : Told → Deed → PlacedNow
placed_by told d = record { line = told.line; rounds = told.rounds; deed = d; words = told.words }

-- the marks are those after the members one after the other
abbrev pub behind : Burst → SceneNow → SceneNow
behind b s = stands s (after_first b.deed (entry_count b.deed) s.tasks.standings)

abbrev pub lists_gathered : Told → Bool → List Burst → Gathered → Gathered
lists_gathered told in_repeat [] g = g
lists_gathered told in_repeat (b ∷ bs) g = lists_gathered told in_repeat bs (added_some (placed_by told b.deed) (member_for in_repeat g.0), behind b g.1)

abbrev pub told_of_line : TextLine → List ℕ → List FilledWord → Told
told_of_line l rounds ws = record { line = l.number; rounds = rounds; words = joined ws 0 true }

-- the sizes of a line were noted
abbrev pub noted : List FilledWord → SceneNow → SceneNow
noted ws s = record s { rounded = sizes_noted s.machine.page s.rounded ws }

abbrev pub noted_all : List FilledWord → Gathered → Gathered
noted_all ws g = (g.0, noted ws g.1)

-- the values that were there before are left
abbrev pub kept : ℕ → SceneNow → SceneNow
kept scope s = record s { values = oldest s.values scope }

-- `many` rounds, from one on
abbrev pub rounds_gathered : (ℕ → Gathered → Result Gathered Fault) → ℕ → ℕ → Gathered → Result Gathered Fault
rounds_gathered body round zero g = Ok g
rounds_gathered body round (suc many) g = body round g >>= (λ h. rounds_gathered body (round + 1) many h)

abbrev pub round_gathered : HeadNow → ℕ → (ℕ → Gathered → Result Gathered Fault) → ℕ → Gathered → Result Gathered Fault
round_gathered head scope inner round g = do
  h ← inner round (g.0, named_round head.name head.values round g.1)
  Ok (h.0, kept scope h.1)

abbrev pub repeat_gathered : List FilledWord → Bool → (ℕ → Gathered → Result Gathered Fault) → Gathered → Result Gathered Fault
repeat_gathered ws in_repeat inner g = do
  head ← repeat_head ws true
  rounds_gathered (round_gathered head (length g.1.values) inner) 1 head.rounds (member_for in_repeat g.0, g.1)

abbrev pub together_inside : List FilledWord → Result (Unit {0}) Fault
together_inside ws = do
  w ← word_at ws 0
  Err (word_fault w cause.Together)

abbrev pub no_together : List FilledWord → Gathered → Result Gathered Fault
no_together ws g = do
  _ ← together_inside ws
  Ok g

abbrev pub block_gathered : LineKind → List FilledWord → Bool → (ℕ → Gathered → Result Gathered Fault) → Gathered → Result Gathered Fault
block_gathered line.Together ws in_repeat inner g = no_together ws g
block_gathered line.Repeat ws in_repeat inner g = repeat_gathered ws in_repeat inner g
block_gathered line.Header ws in_repeat inner g = Ok g
block_gathered line.Let ws in_repeat inner g = Ok g
block_gathered line.End ws in_repeat inner g = Ok g
block_gathered line.Other ws in_repeat inner g = Ok g

-- the members that lines and blocks are; whether they are in a `repeat`, their rounds, and whether a line that could be refused is right above
abbrev pub gathered : Blocks → Bool → List ℕ → Bool → Gathered → Result Gathered Fault
gathered Nothing in_repeat rounds above g = Ok g
gathered (Line l more) in_repeat rounds above g = do
  ws ← filled_words l.number l.words g.1.values
  _ ← together_form ws
  p ← line_lists g.1 ws above
  gathered more in_repeat rounds (may_be_refused ws) (noted_all ws (lists_gathered (told_of_line l rounds ws) in_repeat p.0 (g.0, p.1)))
gathered (Block l inner more) in_repeat rounds above g = do
  ws ← filled_words l.number l.words g.1.values
  h ← block_gathered l.kind ws in_repeat (λ round h. gathered inner true (rounds ++ round ∷ []) false h) g
  gathered more in_repeat rounds true h

-- ---- lines and blocks

-- `many` rounds, from one on
abbrev pub rounds_walked : (ℕ → SceneNow → Ran) → ℕ → ℕ → SceneNow → Ran
rounds_walked body round zero s = done s
rounds_walked body round (suc many) s = followed (body round s) (λ t. rounds_walked body (round + 1) many t)

-- a round: its values are dropped after it
abbrev pub round_walked : HeadNow → ℕ → (ℕ → SceneNow → Ran) → ℕ → SceneNow → Ran
round_walked head scope inner round s = followed (inner round (named_round head.name head.values round s)) (λ t. done (kept scope t))

abbrev pub if_no_until : Option ℕ → Ran → Ran
if_no_until None r = r
if_no_until (Some place) r = unsaid

abbrev pub repeat_walked : List FilledWord → (ℕ → SceneNow → Ran) → SceneNow → Ran
repeat_walked ws inner s =
    tried (repeat_head ws s.in_until) (λ head. if_no_until head.until (rounds_walked (round_walked head (length s.values) inner) 1 head.rounds s))

-- the entries of the members by their places
abbrev pub merged : Gathered → Ran
merged g = record { outs = unless_loose g.1 (turns g.0); ending = Ended g.1 }

abbrev pub together_walked : List FilledWord → (Gathered → Result Gathered Fault) → SceneNow → Ran
together_walked ws inner s = tried (ends_at ws 1) (λ _. tried (inner ([], s)) merged)

abbrev pub block_walked : LineKind → List FilledWord → (ℕ → SceneNow → Ran) → (Gathered → Result Gathered Fault) → SceneNow → Ran
block_walked line.Together ws again at_once s = together_walked ws at_once s
block_walked line.Repeat ws again at_once s = repeat_walked ws again s
block_walked line.Header ws again at_once s = done s
block_walked line.Let ws again at_once s = done s
block_walked line.End ws again at_once s = done s
block_walked line.Other ws again at_once s = done s

abbrev pub line_walked : TextLine → List ℕ → List FilledWord → Bool → SceneNow → Ran
line_walked l rounds ws above s = tried (line_lists s ws above) (λ p. lists_whole (told_of_line l rounds ws) p.0 (noted ws p.1))

-- what lines and blocks stand for; their rounds, and whether a line that could be refused is right above
abbrev pub walked : Blocks → List ℕ → Bool → SceneNow → Ran
walked Nothing rounds above s = done s
walked (Line l more) rounds above s =
    tried (filled_words l.number l.words s.values) (λ ws. followed (line_walked l rounds ws above s) (λ t. walked more rounds (may_be_refused ws) t))
walked (Block l inner more) rounds above s =
    tried (filled_words l.number l.words s.values) (λ ws. followed
    (block_walked l.kind ws (λ round t. walked inner (rounds ++ round ∷ []) false t) (λ g. gathered inner false rounds false g) s)
    (λ t. walked more rounds true t))

-- what a scenario stands for, with these words instead of those of its `let` lines: the header is read first
abbrev pub expanded : List TextLine → List NamedText → Ran
expanded ls settings = tried (header_read (at_first settings) ls) (λ p. walked (blocks_of (drop p.0 ls)) [] false p.1)

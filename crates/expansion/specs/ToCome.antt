-- What is still to come of an expansion. Public clauses compare it, and none looks inside.
use Rattle.std.specs.Prelude.{◌≡◌, ℕ, ◌+◌, ◌-◌, ◌^◌, ◌==◌, Bool, true, false, ◌&&◌, ◌||◌, not, List, [], ◌∷◌, ◌++◌, length, min, reverse, take, nat_lt, slice_range, slice_get, Option, Some, None, option_map, is_some, Vec, is_none, Result, Ok, Err, if◌then◌else◌}
use Rattle.scenarios.specs.Lines.{TextLine}
use Rattle.scenario_words.specs.declared.fault.Fault.{Fault}
use Rattle.scenario_words.specs.declared.fault.ExpandError.{ExpandError}
use Rattle.scenario_words.specs.declared.fault.ExpandError.TheVariants as error
use Rattle.scenario_words.specs.Faults.{◌>>=◌}
use Rattle.scenario_words.specs.Words.{FilledWord, ends_at}
use Rattle.scenario_lines.specs.declared.burst.Burst.{Burst}
use Rattle.scenario_lines.specs.declared.burst.Deed.{Deed}
use Rattle.scenario_lines.specs.LineLists.{line_lists, together_form}
use Rattle.std.specs.Global.{Global}
use Rattle.scenario_lines.specs.Joined.{joined}
use Rattle.scenario_lines.specs.Scene.{SceneNow}
use Rattle.expansion.specs.declared.expansion.Expansion.{Expansion}
use Rattle.expansion.specs.declared.expansion.Item.{Item}
use Rattle.expansion.specs.declared.expansion.Stepped.{Stepped}
use Rattle.expansion.specs.declared.expansion.Stepped.TheVariants as stepped
use Rattle.expansion.specs.declared.frames.Block.{Block}
use Rattle.expansion.specs.declared.frames.Block.TheVariants as block
use Rattle.expansion.specs.declared.together.Turn.{Turn}
use Rattle.expansion.specs.Frames.{HeadNow, FrameNow, repeated, once, named_round, more_rounds, in_next_round}
use Rattle.expansion.specs.Standings.{after_entry, after_rest}
use Rattle.expansion.specs.Together.{PlacedNow, MemberNow, TogetherNow, list_of, next_of, next_entry, member_or, taken_if_left, added_some}
use Rattle.expansion.specs.Walk.{Told, Out, Ran, Blocks, Gathered, Ending, Ended, Failed, Unsaid, done, failed, unsaid, onto, followed, tried, out_of, list_from, if_whole, lists_whole, merged, blocks_of, kept, rounds_gathered, round_gathered, gathered, if_no_until, rounds_walked, round_walked, walked, item_count, item_at, stands, member_for, lists_gathered, noted, noted_all, together_inside}

-- what is known at the last item
abbrev pub known : Expansion → SceneNow
known x = x.scene

-- ---- blocks at work

-- the lines from one place to before another, with their blocks
abbrev pub between : List TextLine → ℕ → ℕ → Blocks
between ls first after = blocks_of (slice_range ls first after)

-- the line of a place, before the end of a block
abbrev pub line_in : List TextLine → ℕ → ℕ → Option TextLine
line_in ls at end = if nat_lt at end then slice_get ls at else None

-- the place after a line and its block
abbrev pub behind_of : ℕ → ℕ → TextLine → ℕ
behind_of at end l = min (at + 1 + l.inside) end

-- the rounds around a block
abbrev pub rounds_around : FrameNow → List ℕ → List ℕ
rounds_around f rounds = if nat_lt 0 f.round then take (length rounds - 1) rounds else rounds

-- what is known after a round: its values are dropped
abbrev pub after_round : FrameNow → SceneNow → SceneNow
after_round f s = if nat_lt 0 f.round then kept f.scope s else s

abbrev pub head_in : FrameNow → HeadNow
head_in f = record { rounds = f.rounds; name = f.name; values = f.values; until = f.until }

-- the rounds that are left of a `repeat`
abbrev pub rounds_left : List TextLine → FrameNow → List ℕ → SceneNow → Ran
rounds_left ls f rounds s =
    rounds_walked (round_walked (head_in f) f.scope (λ round t. walked (between ls f.begin f.end) (rounds_around f rounds ++ round ∷ []) false t)) (f.round + 1) (f.rounds - f.round) (after_round f s)

-- the same inside of `together`
abbrev pub rounds_left_gathered : List TextLine → FrameNow → List ℕ → Gathered → Result Gathered Fault
rounds_left_gathered ls f rounds g =
    rounds_gathered (round_gathered (head_in f) f.scope (λ round h. gathered (between ls f.begin f.end) true (rounds_around f rounds ++ round ∷ []) false h)) (f.round + 1) (f.rounds - f.round) (g.0, after_round f g.1)

-- after the lines of a block
abbrev pub after_block : Block → List TextLine → FrameNow → List ℕ → (List ℕ → SceneNow → Ran) → SceneNow → Ran
after_block block.All ls f rounds more s = more rounds s
after_block block.Together ls f rounds more s = more rounds s
after_block block.Repeat ls f rounds more s = if_no_until f.until (followed (rounds_left ls f rounds s) (λ t. more (rounds_around f rounds) t))

-- after the lines of a block inside of `together`, or of `together` itself
abbrev pub after_gathered : Block → List TextLine → FrameNow → List ℕ → (List ℕ → Option (List MemberNow) → SceneNow → Ran) → Gathered → Ran
after_gathered block.All ls f rounds more g = more rounds (Some g.0) g.1
after_gathered block.Together ls f rounds more g = followed (merged g) (λ s. more rounds None s)
after_gathered block.Repeat ls f rounds more g = if_no_until f.until (tried (rounds_left_gathered ls f rounds g) (λ h. more (rounds_around f rounds) (Some h.0) h.1))

abbrev pub is_repeat : Block → Bool
is_repeat block.All = false
is_repeat block.Together = false
is_repeat block.Repeat = true

-- what the blocks at work stand for from here on, the innermost first; their rounds, and the members that are gathered
unfoldable pub to_end : List TextLine → List FrameNow → List ℕ → Option (List MemberNow) → SceneNow → Ran
to_end ls [] rounds members s = done s
to_end ls (f ∷ fs) rounds None s = followed (walked (between ls f.at f.end) rounds f.above s) (λ t. after_block f.block ls f rounds (λ r u. to_end ls fs r None u) t)
to_end ls (f ∷ fs) rounds (Some ms) s =
    tried (gathered (between ls f.at f.end) (is_repeat f.block) rounds f.above (ms, s)) (λ g. after_gathered f.block ls f rounds (λ r o u. to_end ls fs r o u) g)

-- ---- an expansion

abbrev pub words_or : List ℕ → Option PlacedNow → List ℕ
words_or words None = words
words_or words (Some p) = p.words

abbrev pub words_shown : Option TogetherNow → Option Turn → List ℕ → List ℕ
words_shown None turn words = words
words_shown (Some t) None words = words
words_shown (Some t) (Some turn) words = words_or words (list_of t.members turn)

-- the line, the rounds and the words of the last item
abbrev pub told_last : Expansion → Told
told_last x = record { line = x.told_line; rounds = x.told_rounds.items; words = words_shown x.together x.told_turn (joined x.words.items 0 true) }

-- those of the line at work
abbrev pub told_now : Expansion → Told
told_now x = record { line = x.line; rounds = x.rounds.items; words = joined x.words.items 0 true }

-- something waits to be told
abbrev pub waits : Expansion → Bool
waits x = not (length x.notes.items == 0) || x.opened || is_some x.unreached

-- no list with `until` is at work, and nothing waits
abbrev pub is_quiet : Expansion → Bool
is_quiet x = is_none x.open && not (waits x)

abbrev pub turns_left : Option TogetherNow → SceneNow → Ran
turns_left None s = done s
turns_left (Some t) s = merged (t.members, s)

abbrev pub items_left : Told → Option Burst → ℕ → SceneNow → Ran
items_left told None taken s = done s
items_left told (Some b) taken s = if_whole b.until (list_from told b.deed taken s)

abbrev pub members_of : Option TogetherNow → Option (List MemberNow)
members_of None = None
members_of (Some t) = Some t.members

abbrev pub lines_left : Expansion → SceneNow → Ran
lines_left x s = to_end x.lines.now (reverse x.frames.items) x.rounds.items (members_of x.gathered) s

-- what comes: the turns that are left, the items of the list at work, the lists of its line, and then the lines
unfoldable pub ahead : Expansion → Ran
ahead x =
    followed (turns_left x.together x.scene) (λ s. followed (items_left (told_now x) x.current x.taken s) (λ t. followed (lists_whole (told_now x) x.queue.items t) (λ u. lines_left x u)))

-- what is still to come, as far as it is said here
unfoldable pub still : Expansion → Ran
still x = if is_quiet x then ahead x else unsaid

-- ---- what a call does

abbrev pub is_said_by : List Out → Ending → Bool
is_said_by (o ∷ os) e = true
is_said_by [] (Ended s) = true
is_said_by [] (Failed f) = true
is_said_by [] Unsaid = false

-- it is said what comes next
abbrev pub is_said : Ran → Bool
is_said r = is_said_by r.outs r.ending

-- a step of the work: an item, nothing, the end, or the fault; unless memory ran out
abbrev pub Steps : Ran → Result Stepped ExpandError → Told → Ran → Type 0
Steps now (Ok (stepped.Item i)) told later = now ≡ onto (out_of told i ∷ []) later
Steps now (Ok stepped.Nothing) told later = later ≡ now
Steps now (Ok stepped.Ended) told later = (s : SceneNow) × (now ≡ done s)
Steps now (Err error.Memory) told later = Unit {0}
Steps now (Err (error.Faulty f)) told later = now ≡ failed f

-- an item, the end, or the fault, as it was to come; unless memory ran out
abbrev pub Comes : Ran → Result (Option Item) ExpandError → Told → Ran → Type 0
Comes now (Ok (Some i)) told later = now ≡ onto (out_of told i ∷ []) later
Comes now (Ok None) told later = (s : SceneNow) × (now ≡ done s)
Comes now (Err error.Memory) told later = Unit {0}
Comes now (Err (error.Faulty f)) told later = now ≡ failed f

-- an expansion begins, of which this is to come, or it is the fault; unless memory ran out
abbrev pub Begins : Ran → Result Expansion ExpandError → Type 0
Begins expected (Ok x) = still x ≡ expected
Begins expected (Err error.Memory) = Unit {0}
Begins expected (Err (error.Faulty f)) = expected ≡ failed f

-- the same of what has no item
abbrev pub Works : Ran → Result (Unit {0}) ExpandError → Ran → Type 0
Works now (Ok x) later = later ≡ now
Works now (Err error.Memory) later = Unit {0}
Works now (Err (error.Faulty f)) later = now ≡ failed f

-- nothing is left of the last line
pub record IsIdle (x : Expansion) : Type 0 where
  pub together : x.together ≡ None
  pub current : x.current ≡ None
  pub queue : x.queue.items ≡ []

-- ---- the list at work

abbrev pub item_before : Deed → ℕ → Option Item
item_before d place = if nat_lt place (item_count d) then Some (item_at d place) else None

abbrev pub line_item : Option Burst → ℕ → Option Item
line_item None place = None
line_item (Some b) place = item_before b.deed place

-- the place after one; a number has 32 bits
abbrev pub place_after : ℕ → ℕ
place_after place = min (place + 1) (2 ^ 32 - 1)

-- one item of the list comes, the rounds of which were told
abbrev pub one_told : Burst → Vec ℕ Global → Expansion → Expansion
one_told b rounds x = record x {
  taken = place_after x.taken;
  scene = stands x.scene (after_entry b.deed x.taken x.scene.tasks.standings);
  told_turn = None;
  told_line = x.line;
  told_rounds = rounds;
}

-- none of the list comes
abbrev pub none_told : Burst → Expansion → Expansion
none_told b x = record x {
  taken = item_count b.deed;
  scene = stands x.scene (after_rest b.deed (place_after x.taken) (after_entry b.deed x.taken x.scene.tasks.standings));
}

-- ---- lists that are worked together

-- no turn is left, or this one comes next, with this item
abbrev pub IsTurnOf : List MemberNow → Option (Turn × Item) → Type 0
IsTurnOf ms None = next_of ms ≡ None
IsTurnOf ms (Some e) =
    (next_of ms ≡ Some e.0.member) × ((p : PlacedNow) × (list_of ms e.0 ≡ Some p) × (next_entry (member_or (slice_get ms e.0.member)) ≡ Some (p, e.0.place)) × (e.1 ≡ item_at p.deed e.0.place))

-- an entry of a member was taken
abbrev pub one_turn : TogetherNow → ℕ → Option TogetherNow
one_turn t member = Some (record t { members = taken_if_left t.members member })

-- ---- blocks

-- the innermost block is a `repeat`
abbrev pub repeats_last : Option FrameNow → Bool
repeats_last None = false
repeats_last (Some f) = is_repeat f.block

abbrev pub repeats : List FrameNow → Bool
repeats fs = repeats_last (slice_get fs (length fs - 1))

-- what a block stands for that was the innermost one
abbrev pub from_frame : FrameNow → Expansion → Ran
from_frame f x = to_end x.lines.now (f ∷ reverse x.frames.items) x.rounds.items (members_of x.gathered) x.scene

-- the members that are gathered, with what is known
abbrev pub gathering : Expansion → Option Gathered
gathering x = option_map (λ t. (t.members, x.scene)) x.gathered

-- what is known, the rounds and the blocks after the lines of a `repeat`
abbrev pub round_ended : FrameNow → SceneNow → List ℕ → List FrameNow → SceneNow × List ℕ × List FrameNow
round_ended f s rounds fs =
    if more_rounds f then (named_round f.name f.values (f.round + 1) (after_round f s), rounds_around f rounds ++ (f.round + 1) ∷ [], fs ++ in_next_round f ∷ [])
    else (after_round f s, rounds_around f rounds, fs)

abbrev pub opened_in : Bool → Option TogetherNow → Option TogetherNow
opened_in in_repeat None = None
opened_in in_repeat (Some t) = Some (record t { members = member_for in_repeat t.members })

-- the blocks with a `repeat` more
abbrev pub with_repeat : Expansion → List FilledWord → ℕ → ℕ → Result (List FrameNow) Fault
with_repeat x ws begin end = do
  f ← repeated x.scene ws begin end (is_some x.gathered || x.scene.in_until)
  Ok (x.frames.items ++ f ∷ [])

-- with a `together` more
abbrev pub with_together : Expansion → List FilledWord → ℕ → ℕ → Result (List FrameNow) Fault
with_together x ws begin end = do
  _ ← (if is_some x.gathered then together_inside ws else ends_at ws 1)
  Ok (x.frames.items ++ once block.Together begin end (length x.scene.values) ∷ [])

-- ---- a line

abbrev pub told_of : ℕ → List ℕ → List FilledWord → Told
told_of line rounds ws = record { line = line; rounds = rounds; words = joined ws 0 true }

abbrev pub one_gathered : Told → Bool → Burst → Gathered → Gathered
one_gathered told in_repeat b g = lists_gathered told in_repeat (b ∷ []) g

-- a list is one more member, or is added to the last one
abbrev pub added_in : Bool → PlacedNow → Option TogetherNow → Option TogetherNow
added_in in_repeat p None = None
added_in in_repeat p (Some t) = Some (record t { members = added_some p (member_for in_repeat t.members) })

-- the members that a line is
abbrev pub lists_in : Told → Bool → List FilledWord → Bool → Gathered → Result (Option Gathered) Fault
lists_in told in_repeat ws above g = do
  _ ← together_form ws
  p ← line_lists g.1 ws above
  Ok (Some (lists_gathered told in_repeat p.0 (g.0, p.1)))

abbrev pub line_gathered : Told → Bool → List FilledWord → Bool → Gathered → Result (Option Gathered) Fault
line_gathered told in_repeat ws above g = do
  h ← lists_in told in_repeat ws above g
  Ok (option_map (noted_all ws) h)

-- the lists of a line, and what is known after it
abbrev pub line_queued : SceneNow → List FilledWord → Bool → Result (List Burst × SceneNow) Fault
line_queued s ws above = do
  p ← line_lists s ws above
  Ok (p.0, noted ws p.1)

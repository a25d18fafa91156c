-- No item that a scenario stands for is the beginning of a list with `until`: nothing is said from there on.
use Rattle.std.proofs.Common.{◌≡◌, ℕ, zero, suc, ◌+◌, ◌-◌, Bool, true, false, List, [], ◌∷◌, ◌++◌, length, drop, slice_get, Option, Some, None, Result, Ok, Err, refl}
use Rattle.std.specs.Prelude.{if◌then◌else◌}
use Rattle.scenarios.specs.declared.lines.LineKind.{LineKind}
use Rattle.scenarios.specs.declared.lines.LineKind.TheVariants as line
use Rattle.scenarios.specs.Holes.{NamedText}
use Rattle.scenarios.specs.Lines.{TextLine}
use Rattle.scenario_words.specs.declared.fault.Fault.{Fault}
use Rattle.scenario_words.specs.Words.{FilledWord, filled_words, ends_at}
use Rattle.scenario_lines.specs.declared.burst.Burst.{Burst}
use Rattle.scenario_lines.specs.declared.burst.Condition.{Condition}
use Rattle.scenario_lines.specs.declared.burst.Deed.{Deed}
use Rattle.scenario_lines.specs.declared.burst.Deed.TheVariants as deed
use Rattle.scenario_lines.specs.HeaderLines.{header_read}
use Rattle.scenario_lines.specs.LineLists.{line_lists, may_be_refused}
use Rattle.scenario_lines.specs.Scene.{SceneNow, at_first}
use Rattle.expansion.specs.declared.expansion.Item.{Item}
use Rattle.expansion.specs.declared.expansion.Item.TheVariants as item
use Rattle.expansion.specs.Frames.{HeadNow, repeat_head, named_round}
use Rattle.expansion.specs.Together.{PlacedNow, MemberNow, next_entry, member_or, taken_of, left_of, next_of}
use Rattle.expansion.specs.Walk.{Told, Out, Ending, Ended, Failed, Unsaid, Ran, done, followed_by, followed, tried, item_count, item_at, items_from, list_from, if_whole, list_whole, lists_whole, turn_out, turns_from, turns_by, Blocks, Nothing, Line, Block, blocks_of, Gathered, told_of_line, noted, kept, gathered, rounds_walked, round_walked, if_no_until, repeat_walked, merged, together_walked, block_walked, line_walked, walked, expanded}

abbrev pub is_plain : Item → Bool
is_plain (item.Entry who what) = true
is_plain (item.Raw words) = true
is_plain (item.Note words) = true
is_plain item.Opened = false
is_plain (item.Unreached number) = true

abbrev pub ArePlain : List Out → Type 0
ArePlain [] = Unit {0}
ArePlain (o ∷ os) = (is_plain o.item ≡ true) × ArePlain os

plain_append : (a b : List Out) → ArePlain a → ArePlain b → ArePlain (a ++ b)
plain_append [] b p q = q
plain_append (o ∷ os) b p q = (p.0, plain_append os b p.1 q)

pub plain_at : (a b : List Out) (o : Out) → ArePlain (a ++ o ∷ b) → is_plain o.item ≡ true
plain_at [] b o p = p.0
plain_at (x ∷ xs) b o p = plain_at xs b o p.1

-- ---- one after the other

plain_then_by : (outs : List Out) (e : Ending) (more : SceneNow → Ran) → ArePlain outs → ((s : SceneNow) → ArePlain (more s).outs) → ArePlain (followed_by outs e more).outs
plain_then_by outs (Ended s) more p q = plain_append outs (more s).outs p (q s)
plain_then_by outs (Failed f) more p q = p
plain_then_by outs Unsaid more p q = p

plain_then : (r : Ran) (more : SceneNow → Ran) → ArePlain r.outs → ((s : SceneNow) → ArePlain (more s).outs) → ArePlain (followed r more).outs
plain_then r more p q = plain_then_by r.outs r.ending more p q

plain_tried : {A : Type 0} (x : Result A Fault) (more : A → Ran) → ((a : A) → ArePlain (more a).outs) → ArePlain (tried x more).outs
plain_tried (Ok a) more p = p a
plain_tried (Err f) more p = tt

plain_unless : (b : Bool) (outs : List Out) → ArePlain outs → ArePlain (if b then [] else outs)
plain_unless true outs p = tt
plain_unless false outs p = p

-- ---- lists

item_plain : (d : Deed) (place : ℕ) → is_plain (item_at d place) ≡ true
item_plain (deed.Access a) place = refl
item_plain (deed.Command who what) place = refl
item_plain (deed.Raw words) place = refl
item_plain (deed.Note words) place = refl

items_plain : (told : Told) (d : Deed) (place many : ℕ) → ArePlain (items_from told d place many)
items_plain told d place zero = tt
items_plain told d place (suc many) = (item_plain d place, items_plain told d (place + 1) many)

list_plain : (told : Told) (d : Deed) (place : ℕ) (s : SceneNow) → ArePlain (list_from told d place s).outs
list_plain told d place s = plain_unless s.loose (items_from told d place (item_count d - place)) (items_plain told d place (item_count d - place))

whole_plain : (u : Option Condition) (r : Ran) → ArePlain r.outs → ArePlain (if_whole u r).outs
whole_plain None r p = p
whole_plain (Some c) r p = tt

lists_plain : (told : Told) (bs : List Burst) (s : SceneNow) → ArePlain (lists_whole told bs s).outs
lists_plain told [] s = tt
lists_plain told (b ∷ bs) s =
    plain_then (list_whole told b s) (λ t. lists_whole told bs t) (whole_plain b.until (list_from told b.deed 0 s) (list_plain told b.deed 0 s)) (λ t. lists_plain told bs t)

-- ---- lists that are worked together

turn_plain : (e : Option (PlacedNow × ℕ)) → ArePlain (turn_out e)
turn_plain None = tt
turn_plain (Some e) = (item_plain e.0.deed e.1, tt)

next_plain : (m : Option ℕ) (ms : List MemberNow) (more : ℕ → List Out) → ((k : ℕ) → ArePlain (more k)) → ArePlain (turns_from m ms more)
next_plain None ms more p = tt
next_plain (Some m) ms more p = plain_append (turn_out (next_entry (member_or (slice_get ms m)))) (more m) (turn_plain (next_entry (member_or (slice_get ms m)))) (p m)

turns_plain : (many : ℕ) (ms : List MemberNow) → ArePlain (turns_by many ms)
turns_plain zero ms = tt
turns_plain (suc many) ms = next_plain (next_of ms) ms (λ m. turns_by many (taken_of ms m)) (λ m. turns_plain many (taken_of ms m))

merged_plain : (g : Gathered) → ArePlain (merged g).outs
merged_plain g = plain_unless g.1.loose (turns_by (left_of g.0) g.0) (turns_plain (left_of g.0) g.0)

-- ---- blocks

rounds_plain : (body : ℕ → SceneNow → Ran) → ((round : ℕ) (s : SceneNow) → ArePlain (body round s).outs) → (round many : ℕ) (s : SceneNow) → ArePlain (rounds_walked body round many s).outs
rounds_plain body p round zero s = tt
rounds_plain body p round (suc many) s = plain_then (body round s) (λ t. rounds_walked body (round + 1) many t) (p round s) (λ t. rounds_plain body p (round + 1) many t)

round_plain : (head : HeadNow) (scope : ℕ) (inner : ℕ → SceneNow → Ran) → ((round : ℕ) (s : SceneNow) → ArePlain (inner round s).outs) → (round : ℕ) (s : SceneNow) → ArePlain (round_walked head scope inner round s).outs
round_plain head scope inner p round s =
    plain_then (inner round (named_round head.name head.values round s)) (λ t. done (kept scope t)) (p round (named_round head.name head.values round s)) (λ t. tt)

until_plain : (u : Option ℕ) (r : Ran) → ArePlain r.outs → ArePlain (if_no_until u r).outs
until_plain None r p = p
until_plain (Some place) r p = tt

repeat_plain : (ws : List FilledWord) (inner : ℕ → SceneNow → Ran) (s : SceneNow) → ((round : ℕ) (t : SceneNow) → ArePlain (inner round t).outs) → ArePlain (repeat_walked ws inner s).outs
repeat_plain ws inner s p =
    plain_tried (repeat_head ws s.in_until) (λ head. if_no_until head.until (rounds_walked (round_walked head (length s.values) inner) 1 head.rounds s))
    (λ head. until_plain head.until (rounds_walked (round_walked head (length s.values) inner) 1 head.rounds s)
    (rounds_plain (round_walked head (length s.values) inner) (round_plain head (length s.values) inner p) 1 head.rounds s))

together_plain : (ws : List FilledWord) (inner : Gathered → Result Gathered Fault) (s : SceneNow) → ArePlain (together_walked ws inner s).outs
together_plain ws inner s = plain_tried (ends_at ws 1) (λ _. tried (inner ([], s)) merged) (λ _. plain_tried (inner ([], s)) merged merged_plain)

block_plain : (k : LineKind) (ws : List FilledWord) (again : ℕ → SceneNow → Ran) (at_once : Gathered → Result Gathered Fault) (s : SceneNow) → ((round : ℕ) (t : SceneNow) → ArePlain (again round t).outs)
    → ArePlain (block_walked k ws again at_once s).outs
block_plain line.Together ws again at_once s p = together_plain ws at_once s
block_plain line.Repeat ws again at_once s p = repeat_plain ws again s p
block_plain line.Header ws again at_once s p = tt
block_plain line.Let ws again at_once s p = tt
block_plain line.End ws again at_once s p = tt
block_plain line.Other ws again at_once s p = tt

line_plain : (l : TextLine) (rounds : List ℕ) (ws : List FilledWord) (above : Bool) (s : SceneNow) → ArePlain (line_walked l rounds ws above s).outs
line_plain l rounds ws above s =
    plain_tried (line_lists s ws above) (λ p. lists_whole (told_of_line l rounds ws) p.0 (noted ws p.1)) (λ p. lists_plain (told_of_line l rounds ws) p.0 (noted ws p.1))

walked_plain : (b : Blocks) (rounds : List ℕ) (above : Bool) (s : SceneNow) → ArePlain (walked b rounds above s).outs
walked_plain Nothing rounds above s = tt
walked_plain (Line l more) rounds above s =
    plain_tried (filled_words l.number l.words s.values) (λ ws. followed (line_walked l rounds ws above s) (λ t. walked more rounds (may_be_refused ws) t))
    (λ ws. plain_then (line_walked l rounds ws above s) (λ t. walked more rounds (may_be_refused ws) t) (line_plain l rounds ws above s) (λ t. walked_plain more rounds (may_be_refused ws) t))
walked_plain (Block l inner more) rounds above s =
    plain_tried (filled_words l.number l.words s.values)
    (λ ws. followed (block_walked l.kind ws (λ round t. walked inner (rounds ++ round ∷ []) false t) (λ g. gathered inner false rounds false g) s) (λ t. walked more rounds true t))
    (λ ws. plain_then (block_walked l.kind ws (λ round t. walked inner (rounds ++ round ∷ []) false t) (λ g. gathered inner false rounds false g) s) (λ t. walked more rounds true t)
    (block_plain l.kind ws (λ round t. walked inner (rounds ++ round ∷ []) false t) (λ g. gathered inner false rounds false g) s (λ round t. walked_plain inner (rounds ++ round ∷ []) false t))
    (λ t. walked_plain more rounds true t))

pub expanded_plain : (ls : List TextLine) (settings : List NamedText) → ArePlain (expanded ls settings).outs
expanded_plain ls settings =
    plain_tried (header_read (at_first settings) ls) (λ p. walked (blocks_of (drop p.0 ls)) [] false p.1) (λ p. walked_plain (blocks_of (drop p.0 ls)) [] false p.1)

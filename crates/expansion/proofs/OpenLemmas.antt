-- What the blocks at work stand for where a line is next.
use Rattle.std.proofs.Common.{◌≡◌, ℕ, ◌+◌, ◌-◌, Bool, true, false, nat_lt, List, [], ◌∷◌, ◌++◌, length, slice_get, Option, Some, None, Result, Ok, Err, refl, sym, ap, ◌∙◌, arith}
use Rattle.std.specs.Prelude.{if◌then◌else◌}
use borrow.Author.Tests.{le-ltb}
use Rattle.scenarios.specs.declared.lines.LineKind.{LineKind}
use Rattle.scenarios.specs.declared.lines.LineKind.TheVariants as line
use Rattle.scenarios.specs.Lines.{TextLine, opens_block}
use Rattle.scenario_words.specs.declared.fault.Fault.{Fault}
use Rattle.scenario_words.specs.Faults.{◌>>=◌}
use Rattle.scenario_words.specs.Words.{FilledWord, filled_words, ends_at}
use Rattle.scenario_lines.specs.declared.burst.Burst.{Burst}
use Rattle.scenario_lines.specs.LineLists.{line_lists, together_form, may_be_refused}
use Rattle.scenario_lines.specs.Scene.{SceneNow}
use Rattle.expansion.specs.declared.frames.Block.{Block as BlockKind}
use Rattle.expansion.specs.declared.frames.Block.TheVariants as block
use Rattle.expansion.specs.Frames.{HeadNow, FrameNow, repeat_head, unbegun, once}
use Rattle.expansion.specs.Together.{MemberNow}
use Rattle.expansion.specs.Walk.{Ran, failed, unsaid, followed, tried, if_no_until, Blocks, Line, Block, Gathered, merged, lists_whole, told_of_line, noted, noted_all, lists_gathered, member_for, gathered, walked, rounds_walked, round_walked, rounds_gathered, round_gathered, block_walked, block_gathered, line_walked, together_inside}
use Rattle.expansion.specs.ToCome.{between, line_in, behind_of, after_block, after_gathered, is_repeat, to_end}
use Rattle.expansion.proofs.WalkLemmas.{then_then, tried_then, tried_more, between_led}
use Rattle.expansion.proofs.AheadLemmas.{then_same, tried_same, repeat_lines, repeat_lines_gathered}

-- a block at its next line
abbrev pub moved : FrameNow → TextLine → Bool → FrameNow
moved f l above = record f { at = behind_of f.at f.end l; above = above }

-- the lines in the block of the line that is next
abbrev inside_of : List TextLine → FrameNow → TextLine → Blocks
inside_of ls f l = between ls (f.at + 1) (behind_of f.at f.end l)

abbrev behind_it : List TextLine → FrameNow → TextLine → Blocks
behind_it ls f l = between ls (behind_of f.at f.end l) f.end

-- what follows the lines of a block does not hang on its next line
after_moved : (b : BlockKind) (ls : List TextLine) (f : FrameNow) (l : TextLine) (above : Bool) (rounds : List ℕ) (more : List ℕ → SceneNow → Ran) (s : SceneNow)
    → after_block b ls f rounds more s ≡ after_block b ls (moved f l above) rounds more s
after_moved block.All ls f l above rounds more s = refl
after_moved block.Together ls f l above rounds more s = refl
after_moved block.Repeat ls f l above rounds more s = refl

after_gathered_moved : (b : BlockKind) (ls : List TextLine) (f : FrameNow) (l : TextLine) (above : Bool) (rounds : List ℕ) (more : List ℕ → Option (List MemberNow) → SceneNow → Ran) (g : Gathered)
    → after_gathered b ls f rounds more g ≡ after_gathered b ls (moved f l above) rounds more g
after_gathered_moved block.All ls f l above rounds more g = refl
after_gathered_moved block.Together ls f l above rounds more g = refl
after_gathered_moved block.Repeat ls f l above rounds more g = refl

-- the lines after the one that is next
moved_on : (ls : List TextLine) (f : FrameNow) (fs : List FrameNow) (l : TextLine) (above : Bool) (rounds : List ℕ) (s : SceneNow)
    → followed (walked (behind_it ls f l) rounds above s) (λ t. after_block f.block ls f rounds (λ r u. to_end ls fs r None u) t) ≡ to_end ls (moved f l above ∷ fs) rounds None s
unfolding to_end
moved_on ls f fs l above rounds s = then_same (walked (behind_it ls f l) rounds above s) _ _ (λ t. after_moved f.block ls f l above rounds (λ r u. to_end ls fs r None u) t)

moved_on_gathered : (ls : List TextLine) (f : FrameNow) (fs : List FrameNow) (l : TextLine) (above : Bool) (rounds : List ℕ) (g : Gathered)
    → tried (gathered (behind_it ls f l) (is_repeat f.block) rounds above g) (λ h. after_gathered f.block ls f rounds (λ r o u. to_end ls fs r o u) h) ≡ to_end ls (moved f l above ∷ fs) rounds (Some g.0) g.1
unfolding to_end
moved_on_gathered ls f fs l above rounds g =
    tried_same (gathered (behind_it ls f l) (is_repeat f.block) rounds above g) _ _ (λ h. after_gathered_moved f.block ls f l above rounds (λ r o u. to_end ls fs r o u) h)

-- ---- a line with what it opens

abbrev led_if : Bool → TextLine → Blocks → Blocks → Blocks
led_if opens l inner more = if opens then Block l inner more else Line l more

led_here : (ls : List TextLine) (f : FrameNow) (l : TextLine) (b : Bool) → line_in ls f.at f.end ≡ Some l → opens_block l.kind ≡ b → between ls f.at f.end ≡ led_if b l (inside_of ls f l) (behind_it ls f l)
led_here ls f l b e opens = between_led ls f.at f.end l e ∙ ap (λ (c : Bool). led_if c l (inside_of ls f l) (behind_it ls f l)) opens

from_blocks : (ls : List TextLine) (f : FrameNow) (fs : List FrameNow) (rounds : List ℕ) (s : SceneNow) (b : Blocks) → between ls f.at f.end ≡ b
    → to_end ls (f ∷ fs) rounds None s ≡ followed (walked b rounds f.above s) (λ t. after_block f.block ls f rounds (λ r u. to_end ls fs r None u) t)
unfolding to_end
from_blocks ls f fs rounds s b e = ap (λ (c : Blocks). followed (walked c rounds f.above s) (λ t. after_block f.block ls f rounds (λ r u. to_end ls fs r None u) t)) e

from_blocks_gathered : (ls : List TextLine) (f : FrameNow) (fs : List FrameNow) (rounds : List ℕ) (ms : List MemberNow) (s : SceneNow) (b : Blocks) → between ls f.at f.end ≡ b
    → to_end ls (f ∷ fs) rounds (Some ms) s ≡ tried (gathered b (is_repeat f.block) rounds f.above (ms, s)) (λ g. after_gathered f.block ls f rounds (λ r o u. to_end ls fs r o u) g)
unfolding to_end
from_blocks_gathered ls f fs rounds ms s b e =
    ap (λ (c : Blocks). tried (gathered c (is_repeat f.block) rounds f.above (ms, s)) (λ g. after_gathered f.block ls f rounds (λ r o u. to_end ls fs r o u) g)) e

abbrev inner_walked : List TextLine → FrameNow → TextLine → List ℕ → ℕ → SceneNow → Ran
inner_walked ls f l rounds round t = walked (inside_of ls f l) (rounds ++ round ∷ []) false t

abbrev inner_at_once : List TextLine → FrameNow → TextLine → List ℕ → Gathered → Result Gathered Fault
inner_at_once ls f l rounds g = gathered (inside_of ls f l) false rounds false g

abbrev inner_gathered : List TextLine → FrameNow → TextLine → List ℕ → ℕ → Gathered → Result Gathered Fault
inner_gathered ls f l rounds round h = gathered (inside_of ls f l) true (rounds ++ round ∷ []) false h

-- a line that opens a block
block_ahead : (ls : List TextLine) (f : FrameNow) (fs : List FrameNow) (l : TextLine) (ws : List FilledWord) (rounds : List ℕ) (s : SceneNow) → line_in ls f.at f.end ≡ Some l → opens_block l.kind ≡ true → filled_words l.number l.words s.values ≡ Ok ws
    → to_end ls (f ∷ fs) rounds None s ≡ followed (block_walked l.kind ws (inner_walked ls f l rounds) (inner_at_once ls f l rounds) s) (λ t. to_end ls (moved f l true ∷ fs) rounds None t)
block_ahead ls f fs l ws rounds s e opens filled =
    let here = block_walked l.kind ws (inner_walked ls f l rounds) (inner_at_once ls f l rounds) s in
    from_blocks ls f fs rounds s (Block l (inside_of ls f l) (behind_it ls f l)) (led_here ls f l true e opens)
    ∙ ap (λ (r : Result (List FilledWord) Fault). followed (tried r (λ vs. followed (block_walked l.kind vs (inner_walked ls f l rounds) (inner_at_once ls f l rounds) s) (λ t. walked (behind_it ls f l) rounds true t)))
    (λ t. after_block f.block ls f rounds (λ r u. to_end ls fs r None u) t)) filled
    ∙ then_then here (λ t. walked (behind_it ls f l) rounds true t) (λ t. after_block f.block ls f rounds (λ r u. to_end ls fs r None u) t)
    ∙ then_same here _ _ (λ t. moved_on ls f fs l true rounds t)

block_ahead_gathered : (ls : List TextLine) (f : FrameNow) (fs : List FrameNow) (l : TextLine) (ws : List FilledWord) (rounds : List ℕ) (ms : List MemberNow) (s : SceneNow) → line_in ls f.at f.end ≡ Some l → opens_block l.kind ≡ true
    → filled_words l.number l.words s.values ≡ Ok ws
    → to_end ls (f ∷ fs) rounds (Some ms) s ≡ tried (block_gathered l.kind ws (is_repeat f.block) (inner_gathered ls f l rounds) (ms, s)) (λ h. to_end ls (moved f l true ∷ fs) rounds (Some h.0) h.1)
block_ahead_gathered ls f fs l ws rounds ms s e opens filled =
    let here = block_gathered l.kind ws (is_repeat f.block) (inner_gathered ls f l rounds) (ms, s) in
    from_blocks_gathered ls f fs rounds ms s (Block l (inside_of ls f l) (behind_it ls f l)) (led_here ls f l true e opens)
    ∙ ap (λ (r : Result (List FilledWord) Fault). tried (r >>= (λ vs. block_gathered l.kind vs (is_repeat f.block) (inner_gathered ls f l rounds) (ms, s) >>= (λ h. gathered (behind_it ls f l) (is_repeat f.block) rounds true h)))
    (λ g. after_gathered f.block ls f rounds (λ r o u. to_end ls fs r o u) g)) filled
    ∙ tried_more here (λ h. gathered (behind_it ls f l) (is_repeat f.block) rounds true h) (λ g. after_gathered f.block ls f rounds (λ r o u. to_end ls fs r o u) g)
    ∙ tried_same here _ _ (λ h. moved_on_gathered ls f fs l true rounds h)

-- a line that opens none
line_ahead : (ls : List TextLine) (f : FrameNow) (fs : List FrameNow) (l : TextLine) (ws : List FilledWord) (rounds : List ℕ) (s : SceneNow) → line_in ls f.at f.end ≡ Some l → opens_block l.kind ≡ false → filled_words l.number l.words s.values ≡ Ok ws
    → to_end ls (f ∷ fs) rounds None s ≡ followed (line_walked l rounds ws f.above s) (λ t. to_end ls (moved f l (may_be_refused ws) ∷ fs) rounds None t)
line_ahead ls f fs l ws rounds s e opens filled =
    let here = line_walked l rounds ws f.above s in
    from_blocks ls f fs rounds s (Line l (behind_it ls f l)) (led_here ls f l false e opens)
    ∙ ap (λ (r : Result (List FilledWord) Fault). followed (tried r (λ vs. followed (line_walked l rounds vs f.above s) (λ t. walked (behind_it ls f l) rounds (may_be_refused vs) t)))
    (λ t. after_block f.block ls f rounds (λ r u. to_end ls fs r None u) t)) filled
    ∙ then_then here (λ t. walked (behind_it ls f l) rounds (may_be_refused ws) t) (λ t. after_block f.block ls f rounds (λ r u. to_end ls fs r None u) t)
    ∙ then_same here _ _ (λ t. moved_on ls f fs l (may_be_refused ws) rounds t)

-- the members that a line is, as a value or a fault
abbrev pub line_members : TextLine → List ℕ → List FilledWord → Bool → Bool → Gathered → Result Gathered Fault
line_members l rounds ws in_repeat above g = do
  _ ← together_form ws
  p ← line_lists g.1 ws above
  Ok (noted_all ws (lists_gathered (told_of_line l rounds ws) in_repeat p.0 (g.0, p.1)))

two_more : (x : Result (Unit {0}) Fault) (y : Result (List Burst × SceneNow) Fault) (k : List Burst × SceneNow → Gathered) (more : Gathered → Result Gathered Fault) (f : Gathered → Ran)
    → tried (x >>= (λ _. y >>= (λ p. more (k p)))) f ≡ tried (x >>= (λ _. y >>= (λ p. Ok (k p)))) (λ h. tried (more h) f)
two_more (Ok a) (Ok p) k more f = refl
two_more (Ok a) (Err e) k more f = refl
two_more (Err e) y k more f = refl

line_ahead_gathered : (ls : List TextLine) (f : FrameNow) (fs : List FrameNow) (l : TextLine) (ws : List FilledWord) (rounds : List ℕ) (ms : List MemberNow) (s : SceneNow) → line_in ls f.at f.end ≡ Some l → opens_block l.kind ≡ false
    → filled_words l.number l.words s.values ≡ Ok ws
    → to_end ls (f ∷ fs) rounds (Some ms) s ≡ tried (line_members l rounds ws (is_repeat f.block) f.above (ms, s)) (λ h. to_end ls (moved f l (may_be_refused ws) ∷ fs) rounds (Some h.0) h.1)
line_ahead_gathered ls f fs l ws rounds ms s e opens filled =
    from_blocks_gathered ls f fs rounds ms s (Line l (behind_it ls f l)) (led_here ls f l false e opens)
    ∙ ap (λ (r : Result (List FilledWord) Fault). tried (r >>= (λ vs. together_form vs >>= (λ _. line_lists s vs f.above >>= (λ p. gathered (behind_it ls f l) (is_repeat f.block) rounds (may_be_refused vs) (noted_all vs (lists_gathered (told_of_line l rounds vs) (is_repeat f.block) p.0 (ms, p.1)))))))
    (λ g. after_gathered f.block ls f rounds (λ r o u. to_end ls fs r o u) g)) filled
    ∙ two_more (together_form ws) (line_lists s ws f.above) (λ p. noted_all ws (lists_gathered (told_of_line l rounds ws) (is_repeat f.block) p.0 (ms, p.1))) (λ h. gathered (behind_it ls f l) (is_repeat f.block) rounds (may_be_refused ws) h)
    (λ g. after_gathered f.block ls f rounds (λ r o u. to_end ls fs r o u) g)
    ∙ tried_same (line_members l rounds ws (is_repeat f.block) f.above (ms, s)) _ _ (λ h. moved_on_gathered ls f fs l (may_be_refused ws) rounds h)

-- its words are the fault
words_ahead : (ls : List TextLine) (f : FrameNow) (fs : List FrameNow) (l : TextLine) (x : Fault) (rounds : List ℕ) (s : SceneNow) (b : Bool) → line_in ls f.at f.end ≡ Some l → opens_block l.kind ≡ b → filled_words l.number l.words s.values ≡ Err x
    → to_end ls (f ∷ fs) rounds None s ≡ failed x
words_ahead ls f fs l x rounds s true e opens filled =
    from_blocks ls f fs rounds s (Block l (inside_of ls f l) (behind_it ls f l)) (led_here ls f l true e opens)
    ∙ ap (λ (r : Result (List FilledWord) Fault). followed (tried r (λ vs. followed (block_walked l.kind vs (inner_walked ls f l rounds) (inner_at_once ls f l rounds) s) (λ t. walked (behind_it ls f l) rounds true t)))
    (λ t. after_block f.block ls f rounds (λ r u. to_end ls fs r None u) t)) filled
words_ahead ls f fs l x rounds s false e opens filled =
    from_blocks ls f fs rounds s (Line l (behind_it ls f l)) (led_here ls f l false e opens)
    ∙ ap (λ (r : Result (List FilledWord) Fault). followed (tried r (λ vs. followed (line_walked l rounds vs f.above s) (λ t. walked (behind_it ls f l) rounds (may_be_refused vs) t)))
    (λ t. after_block f.block ls f rounds (λ r u. to_end ls fs r None u) t)) filled

words_ahead_gathered : (ls : List TextLine) (f : FrameNow) (fs : List FrameNow) (l : TextLine) (x : Fault) (rounds : List ℕ) (ms : List MemberNow) (s : SceneNow) (b : Bool) → line_in ls f.at f.end ≡ Some l → opens_block l.kind ≡ b
    → filled_words l.number l.words s.values ≡ Err x → to_end ls (f ∷ fs) rounds (Some ms) s ≡ failed x
words_ahead_gathered ls f fs l x rounds ms s true e opens filled =
    from_blocks_gathered ls f fs rounds ms s (Block l (inside_of ls f l) (behind_it ls f l)) (led_here ls f l true e opens)
    ∙ ap (λ (r : Result (List FilledWord) Fault). tried (r >>= (λ vs. block_gathered l.kind vs (is_repeat f.block) (inner_gathered ls f l rounds) (ms, s) >>= (λ h. gathered (behind_it ls f l) (is_repeat f.block) rounds true h)))
    (λ g. after_gathered f.block ls f rounds (λ r o u. to_end ls fs r o u) g)) filled
words_ahead_gathered ls f fs l x rounds ms s false e opens filled =
    from_blocks_gathered ls f fs rounds ms s (Line l (behind_it ls f l)) (led_here ls f l false e opens)
    ∙ ap (λ (r : Result (List FilledWord) Fault). tried (r >>= (λ vs. together_form vs >>= (λ _. line_lists s vs f.above >>= (λ p. gathered (behind_it ls f l) (is_repeat f.block) rounds (may_be_refused vs) (noted_all vs (lists_gathered (told_of_line l rounds vs) (is_repeat f.block) p.0 (ms, p.1)))))))
    (λ g. after_gathered f.block ls f rounds (λ r o u. to_end ls fs r o u) g)) filled

pub words_fail : (ls : List TextLine) (f : FrameNow) (fs : List FrameNow) (l : TextLine) (x : Fault) (rounds : List ℕ) (o : Option (List MemberNow)) (s : SceneNow) → line_in ls f.at f.end ≡ Some l → filled_words l.number l.words s.values ≡ Err x
    → to_end ls (f ∷ fs) rounds o s ≡ failed x
words_fail ls f fs l x rounds None s e filled = words_ahead ls f fs l x rounds s (opens_block l.kind) e refl filled
words_fail ls f fs l x rounds (Some ms) s e filled = words_ahead_gathered ls f fs l x rounds ms s (opens_block l.kind) e refl filled

-- ---- a block that begins

no_line : (ls : List TextLine) (end : ℕ) → line_in ls end end ≡ None
no_line ls end = let e : nat_lt end end ≡ false = le-ltb _ _ (omega arith) in ap (λ (b : Bool). if b then slice_get ls end else None) e

abbrev pub unbegun_in : FrameNow → TextLine → HeadNow → List FilledWord → SceneNow → FrameNow
unbegun_in f l head ws s = unbegun head ws (f.at + 1) (behind_of f.at f.end l) (length s.values)

-- the rounds of a `repeat` that begins
begun : (ls : List TextLine) (f : FrameNow) (fs : List FrameNow) (l : TextLine) (head : HeadNow) (ws : List FilledWord) (rounds : List ℕ) (s : SceneNow) → head.until ≡ None
    → to_end ls (unbegun_in f l head ws s ∷ fs) rounds None s ≡ followed (rounds_walked (round_walked head (length s.values) (inner_walked ls f l rounds)) 1 head.rounds s) (λ t. to_end ls fs rounds None t)
begun ls f fs l head ws rounds s endless =
    let many : head.rounds - 0 ≡ head.rounds = omega arith in
    repeat_lines ls (unbegun_in f l head ws s) fs rounds s (no_line ls (behind_of f.at f.end l)) refl endless
    ∙ ap (λ (k : ℕ). followed (rounds_walked (round_walked head (length s.values) (inner_walked ls f l rounds)) 1 k s) (λ t. to_end ls fs rounds None t)) many

begun_gathered : (ls : List TextLine) (f : FrameNow) (fs : List FrameNow) (l : TextLine) (head : HeadNow) (ws : List FilledWord) (rounds : List ℕ) (ms : List MemberNow) (s : SceneNow) → head.until ≡ None
    → to_end ls (unbegun_in f l head ws s ∷ fs) rounds (Some ms) s ≡ tried (rounds_gathered (round_gathered head (length s.values) (inner_gathered ls f l rounds)) 1 head.rounds (ms, s)) (λ h. to_end ls fs rounds (Some h.0) h.1)
begun_gathered ls f fs l head ws rounds ms s endless =
    let many : head.rounds - 0 ≡ head.rounds = omega arith in
    repeat_lines_gathered ls (unbegun_in f l head ws s) fs rounds ms s (no_line ls (behind_of f.at f.end l)) refl endless
    ∙ ap (λ (k : ℕ). tried (rounds_gathered (round_gathered head (length s.values) (inner_gathered ls f l rounds)) 1 k (ms, s)) (λ h. to_end ls fs rounds (Some h.0) h.1)) many

opens_repeat : (l : TextLine) → l.kind ≡ line.Repeat → opens_block l.kind ≡ true
opens_repeat l is = ap opens_block is

opens_together : (l : TextLine) → l.kind ≡ line.Together → opens_block l.kind ≡ true
opens_together l is = ap opens_block is

-- a line `repeat`, by what its head is
repeat_ahead : (ls : List TextLine) (f : FrameNow) (fs : List FrameNow) (l : TextLine) (ws : List FilledWord) (rounds : List ℕ) (s : SceneNow) (r : Result HeadNow Fault) → line_in ls f.at f.end ≡ Some l → l.kind ≡ line.Repeat
    → filled_words l.number l.words s.values ≡ Ok ws → repeat_head ws s.in_until ≡ r
    → to_end ls (f ∷ fs) rounds None s ≡ followed (tried r (λ head. if_no_until head.until (rounds_walked (round_walked head (length s.values) (inner_walked ls f l rounds)) 1 head.rounds s))) (λ t. to_end ls (moved f l true ∷ fs) rounds None t)
repeat_ahead ls f fs l ws rounds s r e is filled head =
    block_ahead ls f fs l ws rounds s e (opens_repeat l is) filled
    ∙ ap (λ (k : LineKind). followed (block_walked k ws (inner_walked ls f l rounds) (inner_at_once ls f l rounds) s) (λ t. to_end ls (moved f l true ∷ fs) rounds None t)) is
    ∙ ap (λ (x : Result HeadNow Fault). followed (tried x (λ head. if_no_until head.until (rounds_walked (round_walked head (length s.values) (inner_walked ls f l rounds)) 1 head.rounds s))) (λ t. to_end ls (moved f l true ∷ fs) rounds None t)) head

pub repeat_opens : (ls : List TextLine) (f : FrameNow) (fs : List FrameNow) (l : TextLine) (ws : List FilledWord) (rounds : List ℕ) (s : SceneNow) (head : HeadNow) → line_in ls f.at f.end ≡ Some l → l.kind ≡ line.Repeat
    → filled_words l.number l.words s.values ≡ Ok ws → repeat_head ws s.in_until ≡ Ok head → head.until ≡ None
    → to_end ls (f ∷ fs) rounds None s ≡ to_end ls (unbegun_in f l head ws s ∷ moved f l true ∷ fs) rounds None s
repeat_opens ls f fs l ws rounds s head e is filled h endless =
    repeat_ahead ls f fs l ws rounds s (Ok head) e is filled h
    ∙ ap (λ (u : Option ℕ). followed (if_no_until u (rounds_walked (round_walked head (length s.values) (inner_walked ls f l rounds)) 1 head.rounds s)) (λ t. to_end ls (moved f l true ∷ fs) rounds None t)) endless
    ∙ sym (begun ls f (moved f l true ∷ fs) l head ws rounds s endless)

pub repeat_unsaid : (ls : List TextLine) (f : FrameNow) (fs : List FrameNow) (l : TextLine) (ws : List FilledWord) (rounds : List ℕ) (s : SceneNow) (head : HeadNow) (k : ℕ) → line_in ls f.at f.end ≡ Some l → l.kind ≡ line.Repeat
    → filled_words l.number l.words s.values ≡ Ok ws → repeat_head ws s.in_until ≡ Ok head → head.until ≡ Some k → to_end ls (f ∷ fs) rounds None s ≡ unsaid
repeat_unsaid ls f fs l ws rounds s head k e is filled h some =
    repeat_ahead ls f fs l ws rounds s (Ok head) e is filled h
    ∙ ap (λ (u : Option ℕ). followed (if_no_until u (rounds_walked (round_walked head (length s.values) (inner_walked ls f l rounds)) 1 head.rounds s)) (λ t. to_end ls (moved f l true ∷ fs) rounds None t)) some

pub repeat_fails : (ls : List TextLine) (f : FrameNow) (fs : List FrameNow) (l : TextLine) (ws : List FilledWord) (rounds : List ℕ) (s : SceneNow) (x : Fault) → line_in ls f.at f.end ≡ Some l → l.kind ≡ line.Repeat
    → filled_words l.number l.words s.values ≡ Ok ws → repeat_head ws s.in_until ≡ Err x → to_end ls (f ∷ fs) rounds None s ≡ failed x
repeat_fails ls f fs l ws rounds s x e is filled h = repeat_ahead ls f fs l ws rounds s (Err x) e is filled h

-- the same inside of `together`
repeat_ahead_gathered : (ls : List TextLine) (f : FrameNow) (fs : List FrameNow) (l : TextLine) (ws : List FilledWord) (rounds : List ℕ) (ms : List MemberNow) (s : SceneNow) (r : Result HeadNow Fault) → line_in ls f.at f.end ≡ Some l
    → l.kind ≡ line.Repeat → filled_words l.number l.words s.values ≡ Ok ws → repeat_head ws true ≡ r
    → to_end ls (f ∷ fs) rounds (Some ms) s ≡ tried (r >>= (λ head. rounds_gathered (round_gathered head (length s.values) (inner_gathered ls f l rounds)) 1 head.rounds (member_for (is_repeat f.block) ms, s))) (λ h. to_end ls (moved f l true ∷ fs) rounds (Some h.0) h.1)
repeat_ahead_gathered ls f fs l ws rounds ms s r e is filled head =
    block_ahead_gathered ls f fs l ws rounds ms s e (opens_repeat l is) filled
    ∙ ap (λ (k : LineKind). tried (block_gathered k ws (is_repeat f.block) (inner_gathered ls f l rounds) (ms, s)) (λ h. to_end ls (moved f l true ∷ fs) rounds (Some h.0) h.1)) is
    ∙ ap (λ (x : Result HeadNow Fault). tried (x >>= (λ head. rounds_gathered (round_gathered head (length s.values) (inner_gathered ls f l rounds)) 1 head.rounds (member_for (is_repeat f.block) ms, s))) (λ h. to_end ls (moved f l true ∷ fs) rounds (Some h.0) h.1)) head

pub repeat_opens_gathered : (ls : List TextLine) (f : FrameNow) (fs : List FrameNow) (l : TextLine) (ws : List FilledWord) (rounds : List ℕ) (ms : List MemberNow) (s : SceneNow) (head : HeadNow) → line_in ls f.at f.end ≡ Some l
    → l.kind ≡ line.Repeat → filled_words l.number l.words s.values ≡ Ok ws → repeat_head ws true ≡ Ok head → head.until ≡ None
    → to_end ls (f ∷ fs) rounds (Some ms) s ≡ to_end ls (unbegun_in f l head ws s ∷ moved f l true ∷ fs) rounds (Some (member_for (is_repeat f.block) ms)) s
repeat_opens_gathered ls f fs l ws rounds ms s head e is filled h endless =
    repeat_ahead_gathered ls f fs l ws rounds ms s (Ok head) e is filled h ∙ sym (begun_gathered ls f (moved f l true ∷ fs) l head ws rounds (member_for (is_repeat f.block) ms) s endless)

pub repeat_fails_gathered : (ls : List TextLine) (f : FrameNow) (fs : List FrameNow) (l : TextLine) (ws : List FilledWord) (rounds : List ℕ) (ms : List MemberNow) (s : SceneNow) (x : Fault) → line_in ls f.at f.end ≡ Some l
    → l.kind ≡ line.Repeat → filled_words l.number l.words s.values ≡ Ok ws → repeat_head ws true ≡ Err x → to_end ls (f ∷ fs) rounds (Some ms) s ≡ failed x
repeat_fails_gathered ls f fs l ws rounds ms s x e is filled h = repeat_ahead_gathered ls f fs l ws rounds ms s (Err x) e is filled h

-- a line `together`
abbrev pub once_in : FrameNow → TextLine → SceneNow → FrameNow
once_in f l s = once block.Together (f.at + 1) (behind_of f.at f.end l) (length s.values)

together_begun : (ls : List TextLine) (f : FrameNow) (fs : List FrameNow) (l : TextLine) (rounds : List ℕ) (s : SceneNow)
    → to_end ls (once_in f l s ∷ fs) rounds (Some []) s ≡ tried (inner_at_once ls f l rounds ([], s)) (λ g. followed (merged g) (λ t. to_end ls fs rounds None t))
unfolding to_end
together_begun ls f fs l rounds s = refl

together_ahead : (ls : List TextLine) (f : FrameNow) (fs : List FrameNow) (l : TextLine) (ws : List FilledWord) (rounds : List ℕ) (s : SceneNow) (r : Result (Unit {0}) Fault) → line_in ls f.at f.end ≡ Some l → l.kind ≡ line.Together
    → filled_words l.number l.words s.values ≡ Ok ws → ends_at ws 1 ≡ r
    → to_end ls (f ∷ fs) rounds None s ≡ followed (tried r (λ _. tried (inner_at_once ls f l rounds ([], s)) merged)) (λ t. to_end ls (moved f l true ∷ fs) rounds None t)
together_ahead ls f fs l ws rounds s r e is filled ends =
    block_ahead ls f fs l ws rounds s e (opens_together l is) filled
    ∙ ap (λ (k : LineKind). followed (block_walked k ws (inner_walked ls f l rounds) (inner_at_once ls f l rounds) s) (λ t. to_end ls (moved f l true ∷ fs) rounds None t)) is
    ∙ ap (λ (x : Result (Unit {0}) Fault). followed (tried x (λ _. tried (inner_at_once ls f l rounds ([], s)) merged)) (λ t. to_end ls (moved f l true ∷ fs) rounds None t)) ends

pub together_opens : (ls : List TextLine) (f : FrameNow) (fs : List FrameNow) (l : TextLine) (ws : List FilledWord) (rounds : List ℕ) (s : SceneNow) (u : Unit {0}) → line_in ls f.at f.end ≡ Some l → l.kind ≡ line.Together
    → filled_words l.number l.words s.values ≡ Ok ws → ends_at ws 1 ≡ Ok u
    → to_end ls (f ∷ fs) rounds None s ≡ to_end ls (once_in f l s ∷ moved f l true ∷ fs) rounds (Some []) s
together_opens ls f fs l ws rounds s u e is filled ends =
    together_ahead ls f fs l ws rounds s (Ok u) e is filled ends
    ∙ tried_then (inner_at_once ls f l rounds ([], s)) merged (λ t. to_end ls (moved f l true ∷ fs) rounds None t)
    ∙ sym (together_begun ls f (moved f l true ∷ fs) l rounds s)

pub together_fails : (ls : List TextLine) (f : FrameNow) (fs : List FrameNow) (l : TextLine) (ws : List FilledWord) (rounds : List ℕ) (s : SceneNow) (x : Fault) → line_in ls f.at f.end ≡ Some l → l.kind ≡ line.Together
    → filled_words l.number l.words s.values ≡ Ok ws → ends_at ws 1 ≡ Err x → to_end ls (f ∷ fs) rounds None s ≡ failed x
together_fails ls f fs l ws rounds s x e is filled ends = together_ahead ls f fs l ws rounds s (Err x) e is filled ends

pub together_fails_gathered : (ls : List TextLine) (f : FrameNow) (fs : List FrameNow) (l : TextLine) (ws : List FilledWord) (rounds : List ℕ) (ms : List MemberNow) (s : SceneNow) (x : Fault) → line_in ls f.at f.end ≡ Some l
    → l.kind ≡ line.Together → filled_words l.number l.words s.values ≡ Ok ws → together_inside ws ≡ Err x → to_end ls (f ∷ fs) rounds (Some ms) s ≡ failed x
together_fails_gathered ls f fs l ws rounds ms s x e is filled inside =
    block_ahead_gathered ls f fs l ws rounds ms s e (opens_together l is) filled
    ∙ ap (λ (k : LineKind). tried (block_gathered k ws (is_repeat f.block) (inner_gathered ls f l rounds) (ms, s)) (λ h. to_end ls (moved f l true ∷ fs) rounds (Some h.0) h.1)) is
    ∙ ap (λ (y : Result (Unit {0}) Fault). tried {A = Gathered} (y >>= (λ _. Ok (ms, s))) (λ h. to_end ls (moved f l true ∷ fs) rounds (Some h.0) h.1)) inside

-- ---- a line that opens no block

pub line_queues : (ls : List TextLine) (f : FrameNow) (fs : List FrameNow) (l : TextLine) (ws : List FilledWord) (rounds : List ℕ) (s : SceneNow) (r : Result (List Burst × SceneNow) Fault) → line_in ls f.at f.end ≡ Some l → opens_block l.kind ≡ false
    → filled_words l.number l.words s.values ≡ Ok ws → line_lists s ws f.above ≡ r
    → to_end ls (f ∷ fs) rounds None s ≡ followed (tried r (λ p. lists_whole (told_of_line l rounds ws) p.0 (noted ws p.1))) (λ t. to_end ls (moved f l (may_be_refused ws) ∷ fs) rounds None t)
line_queues ls f fs l ws rounds s r e opens filled is =
    line_ahead ls f fs l ws rounds s e opens filled
    ∙ ap (λ (x : Result (List Burst × SceneNow) Fault). followed (tried x (λ p. lists_whole (told_of_line l rounds ws) p.0 (noted ws p.1))) (λ t. to_end ls (moved f l (may_be_refused ws) ∷ fs) rounds None t)) is

pub line_gathers : (ls : List TextLine) (f : FrameNow) (fs : List FrameNow) (l : TextLine) (ws : List FilledWord) (rounds : List ℕ) (ms : List MemberNow) (s : SceneNow) (r : Result Gathered Fault) → line_in ls f.at f.end ≡ Some l
    → opens_block l.kind ≡ false → filled_words l.number l.words s.values ≡ Ok ws → line_members l rounds ws (is_repeat f.block) f.above (ms, s) ≡ r
    → to_end ls (f ∷ fs) rounds (Some ms) s ≡ tried r (λ h. to_end ls (moved f l (may_be_refused ws) ∷ fs) rounds (Some h.0) h.1)
line_gathers ls f fs l ws rounds ms s r e opens filled is =
    line_ahead_gathered ls f fs l ws rounds ms s e opens filled
    ∙ ap (λ (x : Result Gathered Fault). tried x (λ h. to_end ls (moved f l (may_be_refused ws) ∷ fs) rounds (Some h.0) h.1)) is

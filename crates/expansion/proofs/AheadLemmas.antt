-- What the blocks at work stand for: after a line, after a round, and where a block begins.
use Rattle.std.proofs.Common.{◌≡◌, ℕ, suc, ◌+◌, ◌-◌, ◌<◌, ◌≤◌, Bool, true, false, nat_lt, List, [], ◌∷◌, ◌++◌, length, take, reverse, Option, Some, None, Result, Ok, Err, refl, sym, ap, ◌∙◌, arith}
use Rattle.std.specs.Prelude.{if◌then◌else◌}
use Rattle.std.proofs.Math.Seq.{take-append_seam}
use Rattle.std.proofs.lemmas.List.{length-append, reverse-append}
use Rattle.std.proofs.lemmas.Bool.{lt-ltb}
use Rattle.std.proofs.lemmas.Bool.Decides.{nat_tests}
use Rattle.scenarios.specs.Lines.{TextLine}
use Rattle.scenario_words.specs.declared.fault.Fault.{Fault}
use Rattle.scenario_words.specs.Faults.{◌>>=◌}
use Rattle.scenario_lines.specs.Scene.{SceneNow}
use Rattle.expansion.specs.declared.frames.Block.{Block as BlockKind}
use Rattle.expansion.specs.declared.frames.Block.TheVariants as block
use Rattle.expansion.specs.Frames.{FrameNow, named_round, more_rounds, in_next_round}
use Rattle.expansion.specs.Together.{MemberNow, TogetherNow}
use Rattle.expansion.specs.Walk.{Out, Ending, Ended, Failed, Unsaid, Ran, done, unsaid, onto, followed_by, followed, tried, if_no_until, Blocks, Gathered, kept, gathered, walked, rounds_walked, round_walked, rounds_gathered, round_gathered}
use Rattle.expansion.specs.ToCome.{between, line_in, rounds_around, after_round, head_in, rounds_left, rounds_left_gathered, after_block, after_gathered, is_repeat, to_end, round_ended, members_of, turns_left}
use Rattle.expansion.proofs.WalkLemmas.{then_then, between_past}

-- ---- the same, where the parts are

then_same_by : (outs : List Out) (e : Ending) (f g : SceneNow → Ran) → ((s : SceneNow) → f s ≡ g s) → followed_by outs e f ≡ followed_by outs e g
then_same_by outs (Ended s) f g h = ap (λ (r : Ran). onto outs r) (h s)
then_same_by outs (Failed x) f g h = refl
then_same_by outs Unsaid f g h = refl

pub then_same : (r : Ran) (f g : SceneNow → Ran) → ((s : SceneNow) → f s ≡ g s) → followed r f ≡ followed r g
then_same r f g h = then_same_by r.outs r.ending f g h

pub tried_same : {A : Type 0} (x : Result A Fault) (f g : A → Ran) → ((a : A) → f a ≡ g a) → tried x f ≡ tried x g
tried_same (Ok a) f g h = h a
tried_same (Err e) f g h = refl

-- two gatherings, one after the other
two_tried : (x : Result Gathered Fault) (k : Gathered → Gathered) (more : Gathered → Result Gathered Fault) (f : Gathered → Ran) → tried ((x >>= (λ h. Ok (k h))) >>= more) f ≡ tried x (λ h. tried (more (k h)) f)
two_tried (Ok h) k more f = refl
two_tried (Err e) k more f = refl

-- ---- after the lines of a block

pub after_lines : (ls : List TextLine) (f : FrameNow) (fs : List FrameNow) (rounds : List ℕ) (s : SceneNow) → line_in ls f.at f.end ≡ None
    → to_end ls (f ∷ fs) rounds None s ≡ after_block f.block ls f rounds (λ r u. to_end ls fs r None u) s
unfolding to_end
after_lines ls f fs rounds s e =
    ap (λ (b : Blocks). followed (walked b rounds f.above s) (λ t. after_block f.block ls f rounds (λ r u. to_end ls fs r None u) t)) (between_past ls f.at f.end e)

pub after_members_lines : (ls : List TextLine) (f : FrameNow) (fs : List FrameNow) (rounds : List ℕ) (ms : List MemberNow) (s : SceneNow) → line_in ls f.at f.end ≡ None
    → to_end ls (f ∷ fs) rounds (Some ms) s ≡ after_gathered f.block ls f rounds (λ r o u. to_end ls fs r o u) (ms, s)
unfolding to_end
after_members_lines ls f fs rounds ms s e =
    ap (λ (b : Blocks). tried (gathered b (is_repeat f.block) rounds f.above (ms, s)) (λ g. after_gathered f.block ls f rounds (λ r o u. to_end ls fs r o u) g)) (between_past ls f.at f.end e)

-- ---- rounds

round_behind : (rounds : List ℕ) (round : ℕ) → take (length (rounds ++ round ∷ []) - 1) (rounds ++ round ∷ []) ≡ rounds
round_behind rounds round =
    let many : length (rounds ++ round ∷ []) - 1 ≡ length rounds = simp length-append (omega arith) in
    rw many (take-append_seam rounds (round ∷ []))

is_round : (n : ℕ) → nat_lt 0 (n + 1) ≡ true
is_round n = lt-ltb 0 (n + 1) (omega arith)

more_left : (f : FrameNow) → more_rounds f ≡ true → f.rounds - f.round ≡ suc (f.rounds - (f.round + 1))
more_left f e = let below : f.round < f.rounds = grind (arith, nat_tests) in omega arith

none_left : (f : FrameNow) → more_rounds f ≡ false → f.rounds - f.round ≡ 0
none_left f e = let above : f.rounds ≤ f.round = grind (arith, nat_tests) in omega arith

-- the rounds that are left around other rounds than those of the frame's own
abbrev left_by : List TextLine → FrameNow → List ℕ → ℕ → ℕ → SceneNow → Ran
left_by ls f around round many s = rounds_walked (round_walked (head_in f) f.scope (λ r t. walked (between ls f.begin f.end) (around ++ r ∷ []) false t)) round many s

abbrev left_gathered_by : List TextLine → FrameNow → List ℕ → ℕ → ℕ → Gathered → Result Gathered Fault
left_gathered_by ls f around round many g = rounds_gathered (round_gathered (head_in f) f.scope (λ r h. gathered (between ls f.begin f.end) true (around ++ r ∷ []) false h)) round many g

one_round : (ls : List TextLine) (f : FrameNow) (around : List ℕ) (round many : ℕ) (s : SceneNow) (more : SceneNow → Ran)
    → followed (left_by ls f around round (suc many) s) more ≡ followed (walked (between ls f.begin f.end) (around ++ round ∷ []) false (named_round f.name f.values round s)) (λ t. followed (left_by ls f around (round + 1) many (kept f.scope t)) more)
one_round ls f around round many s more =
    let inner = walked (between ls f.begin f.end) (around ++ round ∷ []) false (named_round f.name f.values round s) in
    then_then (followed inner (λ t. done (kept f.scope t))) (λ t. left_by ls f around (round + 1) many t) more
    ∙ then_then inner (λ t. done (kept f.scope t)) (λ t. followed (left_by ls f around (round + 1) many t) more)

-- a round, and then those that are left
pub next_round : (ls : List TextLine) (f : FrameNow) (rounds : List ℕ) (s : SceneNow) (more : List ℕ → SceneNow → Ran) → more_rounds f ≡ true
    → followed (rounds_left ls f rounds s) (λ t. more (rounds_around f rounds) t)
    ≡ followed (walked (between ls f.begin f.end) (rounds_around f rounds ++ (f.round + 1) ∷ []) false (named_round f.name f.values (f.round + 1) (after_round f s)))
    (λ t. followed (rounds_left ls (in_next_round f) (rounds_around f rounds ++ (f.round + 1) ∷ []) t) (λ u. more (rounds_around (in_next_round f) (rounds_around f rounds ++ (f.round + 1) ∷ [])) u))
next_round ls f rounds s more e =
    let around = rounds_around f rounds in
    let here = around ++ (f.round + 1) ∷ [] in
    let inner = walked (between ls f.begin f.end) here false (named_round f.name f.values (f.round + 1) (after_round f s)) in
    let left = f.rounds - (f.round + 1) in
    ap (λ (k : ℕ). followed (left_by ls f around (f.round + 1) k (after_round f s)) (more around)) (more_left f e)
    ∙ one_round ls f around (f.round + 1) left (after_round f s) (more around)
    ∙ ap (λ (xs : List ℕ). followed inner (λ t. followed (left_by ls f xs (f.round + 1 + 1) left (kept f.scope t)) (more xs))) (sym (round_behind around (f.round + 1)))
    ∙ ap (λ (b : Bool). followed inner (λ t. followed (left_by ls f (if b then take (length here - 1) here else here) (f.round + 1 + 1) left (if b then kept f.scope t else t)) (more (if b then take (length here - 1) here else here)))) (sym (is_round f.round))

pub last_round : (ls : List TextLine) (f : FrameNow) (rounds : List ℕ) (s : SceneNow) (more : List ℕ → SceneNow → Ran) → more_rounds f ≡ false
    → followed (rounds_left ls f rounds s) (λ t. more (rounds_around f rounds) t) ≡ more (rounds_around f rounds) (after_round f s)
last_round ls f rounds s more e = ap (λ (k : ℕ). followed (left_by ls f (rounds_around f rounds) (f.round + 1) k (after_round f s)) (more (rounds_around f rounds))) (none_left f e)

one_round_gathered : (ls : List TextLine) (f : FrameNow) (around : List ℕ) (round many : ℕ) (g : Gathered) (more : Gathered → Ran)
    → tried (left_gathered_by ls f around round (suc many) g) more ≡ tried (gathered (between ls f.begin f.end) true (around ++ round ∷ []) false (g.0, named_round f.name f.values round g.1)) (λ h. tried (left_gathered_by ls f around (round + 1) many (h.0, kept f.scope h.1)) more)
one_round_gathered ls f around round many g more =
    two_tried (gathered (between ls f.begin f.end) true (around ++ round ∷ []) false (g.0, named_round f.name f.values round g.1)) (λ h. (h.0, kept f.scope h.1)) (λ h. left_gathered_by ls f around (round + 1) many h) more

pub next_round_gathered : (ls : List TextLine) (f : FrameNow) (rounds : List ℕ) (g : Gathered) (more : List ℕ → Option (List MemberNow) → SceneNow → Ran) → more_rounds f ≡ true
    → tried (rounds_left_gathered ls f rounds g) (λ h. more (rounds_around f rounds) (Some h.0) h.1)
    ≡ tried (gathered (between ls f.begin f.end) true (rounds_around f rounds ++ (f.round + 1) ∷ []) false (g.0, named_round f.name f.values (f.round + 1) (after_round f g.1)))
    (λ k. tried (rounds_left_gathered ls (in_next_round f) (rounds_around f rounds ++ (f.round + 1) ∷ []) k) (λ h. more (rounds_around (in_next_round f) (rounds_around f rounds ++ (f.round + 1) ∷ [])) (Some h.0) h.1))
next_round_gathered ls f rounds g more e =
    let around = rounds_around f rounds in
    let here = around ++ (f.round + 1) ∷ [] in
    let inner = gathered (between ls f.begin f.end) true here false (g.0, named_round f.name f.values (f.round + 1) (after_round f g.1)) in
    let left = f.rounds - (f.round + 1) in
    ap (λ (k : ℕ). tried (left_gathered_by ls f around (f.round + 1) k (g.0, after_round f g.1)) (λ h. more around (Some h.0) h.1)) (more_left f e)
    ∙ one_round_gathered ls f around (f.round + 1) left (g.0, after_round f g.1) (λ h. more around (Some h.0) h.1)
    ∙ ap (λ (xs : List ℕ). tried inner (λ t. tried (left_gathered_by ls f xs (f.round + 1 + 1) left (t.0, kept f.scope t.1)) (λ h. more xs (Some h.0) h.1))) (sym (round_behind around (f.round + 1)))
    ∙ ap (λ (b : Bool). tried inner (λ t. tried (left_gathered_by ls f (if b then take (length here - 1) here else here) (f.round + 1 + 1) left (t.0, (if b then kept f.scope t.1 else t.1))) (λ h. more (if b then take (length here - 1) here else here) (Some h.0) h.1))) (sym (is_round f.round))

pub last_round_gathered : (ls : List TextLine) (f : FrameNow) (rounds : List ℕ) (g : Gathered) (more : List ℕ → Option (List MemberNow) → SceneNow → Ran) → more_rounds f ≡ false
    → tried (rounds_left_gathered ls f rounds g) (λ h. more (rounds_around f rounds) (Some h.0) h.1) ≡ more (rounds_around f rounds) (Some g.0) (after_round f g.1)
last_round_gathered ls f rounds g more e = ap (λ (k : ℕ). tried (left_gathered_by ls f (rounds_around f rounds) (f.round + 1) k (g.0, after_round f g.1)) (λ h. more (rounds_around f rounds) (Some h.0) h.1)) (none_left f e)

-- ---- a `repeat` at the end of its lines

next_frame : (fs : List FrameNow) (f : FrameNow) → reverse (fs ++ f ∷ []) ≡ f ∷ reverse fs
next_frame fs f = reverse-append fs (f ∷ [])

pub repeat_lines : (ls : List TextLine) (f : FrameNow) (fs : List FrameNow) (rounds : List ℕ) (s : SceneNow) → line_in ls f.at f.end ≡ None → f.block ≡ block.Repeat → f.until ≡ None
    → to_end ls (f ∷ fs) rounds None s ≡ followed (rounds_left ls f rounds s) (λ t. to_end ls fs (rounds_around f rounds) None t)
repeat_lines ls f fs rounds s none is endless =
    after_lines ls f fs rounds s none
    ∙ ap (λ (b : BlockKind). after_block b ls f rounds (λ r u. to_end ls fs r None u) s) is
    ∙ ap (λ (u : Option ℕ). if_no_until u (followed (rounds_left ls f rounds s) (λ t. to_end ls fs (rounds_around f rounds) None t))) endless

pub repeat_lines_gathered : (ls : List TextLine) (f : FrameNow) (fs : List FrameNow) (rounds : List ℕ) (ms : List MemberNow) (s : SceneNow) → line_in ls f.at f.end ≡ None → f.block ≡ block.Repeat → f.until ≡ None
    → to_end ls (f ∷ fs) rounds (Some ms) s ≡ tried (rounds_left_gathered ls f rounds (ms, s)) (λ h. to_end ls fs (rounds_around f rounds) (Some h.0) h.1)
repeat_lines_gathered ls f fs rounds ms s none is endless =
    after_members_lines ls f fs rounds ms s none
    ∙ ap (λ (b : BlockKind). after_gathered b ls f rounds (λ r o u. to_end ls fs r o u) (ms, s)) is
    ∙ ap (λ (u : Option ℕ). if_no_until u (tried (rounds_left_gathered ls f rounds (ms, s)) (λ h. to_end ls fs (rounds_around f rounds) (Some h.0) h.1))) endless

-- what a `repeat` in its next round stands for
in_round : (ls : List TextLine) (f : FrameNow) (fs : List FrameNow) (rounds : List ℕ) (s : SceneNow) → f.block ≡ block.Repeat → f.until ≡ None
    → to_end ls (in_next_round f ∷ fs) rounds None s
    ≡ followed (walked (between ls f.begin f.end) rounds false s) (λ t. followed (rounds_left ls (in_next_round f) rounds t) (λ u. to_end ls fs (rounds_around (in_next_round f) rounds) None u))
unfolding to_end
in_round ls f fs rounds s is endless =
    ap (λ (b : BlockKind). followed (walked (between ls f.begin f.end) rounds false s) (λ t. after_block b ls (in_next_round f) rounds (λ r u. to_end ls fs r None u) t)) is
    ∙ ap (λ (x : Option ℕ). followed (walked (between ls f.begin f.end) rounds false s) (λ t. if_no_until x (followed (rounds_left ls (in_next_round f) rounds t) (λ u. to_end ls fs (rounds_around (in_next_round f) rounds) None u)))) endless

in_round_gathered : (ls : List TextLine) (f : FrameNow) (fs : List FrameNow) (rounds : List ℕ) (ms : List MemberNow) (s : SceneNow) → f.block ≡ block.Repeat → f.until ≡ None
    → to_end ls (in_next_round f ∷ fs) rounds (Some ms) s
    ≡ tried (gathered (between ls f.begin f.end) true rounds false (ms, s)) (λ g. tried (rounds_left_gathered ls (in_next_round f) rounds g) (λ h. to_end ls fs (rounds_around (in_next_round f) rounds) (Some h.0) h.1))
unfolding to_end
in_round_gathered ls f fs rounds ms s is endless =
    ap (λ (b : BlockKind). tried (gathered (between ls f.begin f.end) (is_repeat b) rounds false (ms, s)) (λ g. after_gathered b ls (in_next_round f) rounds (λ r o u. to_end ls fs r o u) g)) is
    ∙ ap (λ (x : Option ℕ). tried (gathered (between ls f.begin f.end) true rounds false (ms, s)) (λ g. if_no_until x (tried (rounds_left_gathered ls (in_next_round f) rounds g) (λ h. to_end ls fs (rounds_around (in_next_round f) rounds) (Some h.0) h.1)))) endless

abbrev pub from_round : List TextLine → Option (List MemberNow) → SceneNow × List ℕ × List FrameNow → Ran
from_round ls o e = to_end ls (reverse e.2) e.1 o e.0

repeat_ends : (ls : List TextLine) (f : FrameNow) (fs : List FrameNow) (rounds : List ℕ) (s : SceneNow) → line_in ls f.at f.end ≡ None → f.block ≡ block.Repeat → f.until ≡ None
    → to_end ls (f ∷ reverse fs) rounds None s ≡ from_round ls None (round_ended f s rounds fs)
repeat_ends ls f fs rounds s none is endless = repeat_lines ls f (reverse fs) rounds s none is endless ∙ by (more_rounds f) refl
  where
    by : (b : Bool) → more_rounds f ≡ b → followed (rounds_left ls f rounds s) (λ t. to_end ls (reverse fs) (rounds_around f rounds) None t) ≡ from_round ls None (round_ended f s rounds fs)
    by true e = rw (e, next_frame fs (in_next_round f))
        (next_round ls f rounds s (λ r t. to_end ls (reverse fs) r None t) e
        ∙ sym (in_round ls f (reverse fs) (rounds_around f rounds ++ (f.round + 1) ∷ []) (named_round f.name f.values (f.round + 1) (after_round f s)) is endless))
    by false e = rw e (last_round ls f rounds s (λ r t. to_end ls (reverse fs) r None t) e)

repeat_ends_gathered : (ls : List TextLine) (f : FrameNow) (fs : List FrameNow) (rounds : List ℕ) (ms : List MemberNow) (s : SceneNow) → line_in ls f.at f.end ≡ None → f.block ≡ block.Repeat → f.until ≡ None
    → to_end ls (f ∷ reverse fs) rounds (Some ms) s ≡ from_round ls (Some ms) (round_ended f s rounds fs)
repeat_ends_gathered ls f fs rounds ms s none is endless = repeat_lines_gathered ls f (reverse fs) rounds ms s none is endless ∙ by (more_rounds f) refl
  where
    by : (b : Bool) → more_rounds f ≡ b → tried (rounds_left_gathered ls f rounds (ms, s)) (λ h. to_end ls (reverse fs) (rounds_around f rounds) (Some h.0) h.1) ≡ from_round ls (Some ms) (round_ended f s rounds fs)
    by true e = rw (e, next_frame fs (in_next_round f))
        (next_round_gathered ls f rounds (ms, s) (λ r o t. to_end ls (reverse fs) r o t) e
        ∙ sym (in_round_gathered ls f (reverse fs) (rounds_around f rounds ++ (f.round + 1) ∷ []) ms (named_round f.name f.values (f.round + 1) (after_round f s)) is endless))
    by false e = rw e (last_round_gathered ls f rounds (ms, s) (λ r o t. to_end ls (reverse fs) r o t) e)

-- the lines of a `repeat` are at their end
pub round_ends : (ls : List TextLine) (f : FrameNow) (fs : List FrameNow) (rounds : List ℕ) (o : Option (List MemberNow)) (s : SceneNow) → line_in ls f.at f.end ≡ None → f.block ≡ block.Repeat → f.until ≡ None
    → to_end ls (f ∷ reverse fs) rounds o s ≡ from_round ls o (round_ended f s rounds fs)
round_ends ls f fs rounds None s none is endless = repeat_ends ls f fs rounds s none is endless
round_ends ls f fs rounds (Some ms) s none is endless = repeat_ends_gathered ls f fs rounds ms s none is endless

-- with `until` nothing is said of them
pub round_unsaid : (ls : List TextLine) (f : FrameNow) (fs : List FrameNow) (rounds : List ℕ) (o : Option (List MemberNow)) (s : SceneNow) (k : ℕ) → line_in ls f.at f.end ≡ None → f.block ≡ block.Repeat → f.until ≡ Some k
    → to_end ls (f ∷ fs) rounds o s ≡ unsaid
round_unsaid ls f fs rounds None s k none is some =
    after_lines ls f fs rounds s none
    ∙ ap (λ (b : BlockKind). after_block b ls f rounds (λ r u. to_end ls fs r None u) s) is
    ∙ ap (λ (u : Option ℕ). if_no_until u (followed (rounds_left ls f rounds s) (λ t. to_end ls fs (rounds_around f rounds) None t))) some
round_unsaid ls f fs rounds (Some ms) s k none is some =
    after_members_lines ls f fs rounds ms s none
    ∙ ap (λ (b : BlockKind). after_gathered b ls f rounds (λ r o u. to_end ls fs r o u) (ms, s)) is
    ∙ ap (λ (u : Option ℕ). if_no_until u (tried (rounds_left_gathered ls f rounds (ms, s)) (λ h. to_end ls fs (rounds_around f rounds) (Some h.0) h.1))) some

-- the lines of the scenario are at their end
pub all_ends : (ls : List TextLine) (f : FrameNow) (fs : List FrameNow) (rounds : List ℕ) (o : Option (List MemberNow)) (s : SceneNow) → line_in ls f.at f.end ≡ None → f.block ≡ block.All
    → to_end ls (f ∷ fs) rounds o s ≡ to_end ls fs rounds o s
all_ends ls f fs rounds None s none is = after_lines ls f fs rounds s none ∙ ap (λ (b : BlockKind). after_block b ls f rounds (λ r u. to_end ls fs r None u) s) is
all_ends ls f fs rounds (Some ms) s none is = after_members_lines ls f fs rounds ms s none ∙ ap (λ (b : BlockKind). after_gathered b ls f rounds (λ r o u. to_end ls fs r o u) (ms, s)) is

-- those of a `together`: what was gathered is worked
pub together_ends : (ls : List TextLine) (f : FrameNow) (fs : List FrameNow) (rounds : List ℕ) (o : Option TogetherNow) (s : SceneNow) → line_in ls f.at f.end ≡ None → f.block ≡ block.Together
    → to_end ls (f ∷ fs) rounds (members_of o) s ≡ followed (turns_left o s) (λ t. to_end ls fs rounds None t)
together_ends ls f fs rounds None s none is = after_lines ls f fs rounds s none ∙ ap (λ (b : BlockKind). after_block b ls f rounds (λ r u. to_end ls fs r None u) s) is
together_ends ls f fs rounds (Some t) s none is = after_members_lines ls f fs rounds t.members s none ∙ ap (λ (b : BlockKind). after_gathered b ls f rounds (λ r o u. to_end ls fs r o u) (t.members, s)) is

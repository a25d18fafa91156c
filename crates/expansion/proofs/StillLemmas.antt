-- What is still to come of an expansion, after its work on lines and blocks.
use Rattle.std.proofs.Common.{◌≡◌, ℕ, ◌+◌, ◌-◌, ◌<◌, ◌≤◌, Bool, true, false, nat_lt, List, [], ◌∷◌, ◌++◌, length, min, reverse, slice_get, Option, Some, None, Vec, Result, Ok, Err, refl, sym, ap, subst, ◌∙◌, arith}
use Rattle.std.specs.Prelude.{if◌then◌else◌, ◌||◌, ◌&&◌, not, OnOk}
use Rattle.std.specs.Option.{is_some, is_none}
use Rattle.std.specs.Global.{Global}
use Rattle.std.proofs.lemmas.List.{length-append, reverse-append}
use Rattle.std.proofs.lemmas.Bool.Decides.{nat_tests}
use Rattle.scenarios.specs.declared.lines.LineKind.TheVariants as line
use Rattle.scenarios.specs.Lines.{TextLine}
use Rattle.scenario_words.specs.declared.fault.Cause.TheVariants as cause
use Rattle.scenario_words.specs.declared.fault.Fault.{Fault}
use Rattle.scenario_words.specs.declared.fault.ExpandError.{ExpandError}
use Rattle.scenario_words.specs.declared.fault.ExpandError.TheVariants as error
use Rattle.scenario_words.specs.Faults.{◌>>=◌, Gives, GivesAlways, as_is}
use Rattle.scenario_words.specs.Words.{FilledWord, filled_words, word_fault, word_at, ends_at}
use Rattle.scenario_lines.specs.declared.burst.Burst.{Burst}
use Rattle.scenario_lines.specs.LineLists.{may_be_refused}
use Rattle.scenario_lines.specs.Scene.{SceneNow}
use Rattle.expansion.specs.declared.expansion.Expansion.{Expansion}
use Rattle.expansion.specs.declared.frames.Block.TheVariants as block
use Rattle.expansion.specs.Frames.{HeadNow, FrameNow, head_of, until_form, repeat_head, repeated, unbegun, once}
use Rattle.expansion.specs.Together.{MemberNow, TogetherNow}
use Rattle.expansion.specs.Walk.{Ran, done, failed, unsaid, followed, lists_whole, together_inside}
use Rattle.expansion.specs.ToCome.{line_in, behind_of, is_repeat, to_end, told_now, waits, is_quiet, turns_left, items_left, members_of, lines_left, ahead, still, is_said, Works, IsIdle, from_frame, round_ended, repeats_last, repeats, opened_in, with_repeat, with_together}
use Rattle.expansion.proofs.AheadLemmas.{round_ends, round_unsaid, all_ends, together_ends}
use Rattle.expansion.proofs.OpenLemmas.{moved, unbegun_in, once_in, words_fail, repeat_opens, repeat_unsaid, repeat_fails, repeat_opens_gathered, repeat_fails_gathered, together_opens, together_fails, together_fails_gathered}

pub never : false ≡ true → ⊥
never e = cc

-- ---- values and faults

-- a value is no fault
pub fault_is_none : {A : Type 0} (x : Fault) (a : A) → Err x ≡ Ok a → ⊥
fault_is_none x a e = cc

pub value_is_none : {A : Type 0} (x : Fault) (a : A) → Ok a ≡ Err x → ⊥
value_is_none x a e = cc

abbrev pub bad : (A : Type 0) → Fault → Result A Fault
bad A x = Err x

abbrev pub good : (A : Type 0) → A → Result A Fault
good A a = Ok a

pub same_fault : (A : Type 0) (x y : Fault) → bad A x ≡ bad A y → x ≡ y
same_fault A x y e = cc

pub same_value : {A : Type 0} (a b : A) → good A a ≡ good A b → a ≡ b
same_value a b e = cc

-- ---- what is said

pub unsaid_never : (r : Ran) → r ≡ unsaid → is_said r ≡ true → ⊥
unsaid_never r e said = never (sym (ap is_said e) ∙ said)

still_by : (x : Expansion) (b : Bool) → is_quiet x ≡ b → still x ≡ (if b then ahead x else unsaid)
unfolding still
still_by x b e = ap (λ (c : Bool). if c then ahead x else unsaid) e

-- where it is said what comes, nothing waits
pub is_quiet_there : (x : Expansion) → is_said (still x) ≡ true → is_quiet x ≡ true
is_quiet_there x said = by (is_quiet x) refl
  where
    by : (b : Bool) → is_quiet x ≡ b → is_quiet x ≡ true
    by true e = e
    by false e = absurd (unsaid_never (still x) (still_by x false e) said)

none_there : {T : Type 0} (o : Option T) → is_none o ≡ true → o ≡ None
none_there None e = refl
none_there (Some t) e = absurd (never e)

pub is_there : {T : Type 0} (o : Option T) → is_some o ≡ true → (t : T) × (o ≡ Some t)
is_there None e = absurd (never e)
is_there (Some t) e = (t, refl)

pub is_not_there : {T : Type 0} (o : Option T) → is_some o ≡ false → o ≡ None
is_not_there None e = refl
is_not_there (Some t) e = absurd (never (sym e))

both : (a b : Bool) → (a && b) ≡ true → (a ≡ true) × (b ≡ true)
both true true e = (refl, refl)
both true false e = absurd (never e)
both false b e = absurd (never e)

pub quiet_open : (x : Expansion) → is_quiet x ≡ true → x.open ≡ None
quiet_open x q = none_there x.open (both (is_none x.open) (not (waits x)) q).0

pub waits_never : (x : Expansion) → is_said (still x) ≡ true → waits x ≡ true → ⊥
waits_never x said w = never (sym (ap not w) ∙ (both (is_none x.open) (not (waits x)) (is_quiet_there x said)).1)

pub still_ahead : (x : Expansion) → is_quiet x ≡ true → still x ≡ ahead x
still_ahead x e = still_by x true e

-- nothing is left of the last line: only lines are
pub idle_ahead : (x : Expansion) → IsIdle x → ahead x ≡ lines_left x x.scene
unfolding ahead
idle_ahead x i =
    ap (λ (o : Option TogetherNow). followed (turns_left o x.scene) (λ s. followed (items_left (told_now x) x.current x.taken s) (λ t. followed (lists_whole (told_now x) x.queue.items t) (λ u. lines_left x u)))) i.together
    ∙ ap (λ (o : Option Burst). followed (items_left (told_now x) o x.taken x.scene) (λ t. followed (lists_whole (told_now x) x.queue.items t) (λ u. lines_left x u))) i.current
    ∙ ap (λ (bs : List Burst). followed (lists_whole (told_now x) bs x.scene) (λ u. lines_left x u)) i.queue

pub idle_still : (x : Expansion) → IsIdle x → is_quiet x ≡ true → still x ≡ lines_left x x.scene
idle_still x i q = still_ahead x q ∙ idle_ahead x i

-- what waits, and the list with `until`, are the same
abbrev pub SameQuiet : Expansion → Expansion → Type 0
SameQuiet x n = is_quiet n ≡ is_quiet x

-- the line that is next is before the end
pub line_within : (ls : List TextLine) (at end : ℕ) (l : TextLine) → line_in ls at end ≡ Some l → at < end
line_within ls at end l e = by (nat_lt at end) refl
  where
    no_line : None ≡ Some l → ⊥
    no_line p = cc

    by : (b : Bool) → nat_lt at end ≡ b → at < end
    by true q = grind (arith, nat_tests)
    by false q = absurd (no_line (rw q at e))

-- the place in the block of the line that is next, and the one behind it; numbers have 64 bits
pub first_inside : (ls : List TextLine) (f : FrameNow) (l : TextLine) (at end begin : ℕ) → line_in ls f.at f.end ≡ Some l → at ≡ f.at → end ≡ f.end → begin ≡ min (at + 1) 18446744073709551615 → (at < end → at + 1 ≤ 18446744073709551615) → begin ≡ f.at + 1
first_inside ls f l at end begin e a b is fits =
    let below : f.at < f.end = line_within ls f.at f.end l e in
    let here : at < end = omega arith in
    let k = fits here in
    omega arith

pub place_behind : (ls : List TextLine) (f : FrameNow) (l : TextLine) (at end inside behind : ℕ) → line_in ls f.at f.end ≡ Some l → at ≡ f.at → end ≡ f.end → inside ≡ l.inside → (at < end → behind ≡ min (at + 1 + inside) end) → behind ≡ behind_of f.at f.end l
place_behind ls f l at end inside behind e a b c is =
    let below : f.at < f.end = line_within ls f.at f.end l e in
    let here : at < end = omega arith in
    let k = is here in
    omega arith

-- the block at its next line is pushed again
pub pushes : (fs ns : List FrameNow) (f m : FrameNow) (l : TextLine) (place : ℕ) (above b : Bool) → ns ≡ fs ++ m ∷ [] → m ≡ record f { at = place; above = above } → place ≡ behind_of f.at f.end l → above ≡ b → ns ≡ fs ++ moved f l b ∷ []
pushes fs ns f m l place above b pushed same here is =
    pushed
    ∙ ap (λ (g : FrameNow). fs ++ g ∷ []) same
    ∙ ap (λ (k : ℕ). fs ++ record f { at = k; above = above } ∷ []) here
    ∙ ap (λ (a : Bool). fs ++ record f { at = behind_of f.at f.end l; above = a } ∷ []) is

pub above_block : (k a r : Bool) → a ≡ (k || r) → k ≡ true → a ≡ true
above_block k a r e opens = e ∙ ap (λ (b : Bool). b || r) opens

pub above_line : (k a : Bool) (vs ws : List FilledWord) → a ≡ (k || may_be_refused vs) → k ≡ false → vs ≡ ws → a ≡ may_be_refused ws
above_line k a vs ws e opens same = e ∙ ap (λ (b : Bool). b || may_be_refused vs) opens ∙ ap may_be_refused same

pub popped_idle : (x : Expansion) (fr : Vec FrameNow Global) → IsIdle x → IsIdle (record x { frames = fr })
popped_idle x fr i = record { together = i.together; current = i.current; queue = i.queue }

-- ---- a block is popped

pub pops : (x p : Expansion) (f : FrameNow) → IsIdle x → is_quiet x ≡ true → x.frames.items ≡ p.frames.items ++ f ∷ [] → p ≡ record x { frames = p.frames } → still x ≡ from_frame f p
pops x p f i q e same =
    let turned : reverse x.frames.items ≡ f ∷ reverse p.frames.items = ap reverse e ∙ reverse-append p.frames.items (f ∷ []) in
    idle_still x i q
    ∙ ap (λ (fs : List FrameNow). to_end x.lines.now fs x.rounds.items (members_of x.gathered) x.scene) turned
    ∙ ap (λ (y : Expansion). to_end y.lines.now (f ∷ reverse p.frames.items) y.rounds.items (members_of y.gathered) y.scene) (sym same)

-- no block is left
unfolds_none : (ls : List TextLine) (rounds : List ℕ) (o : Option (List MemberNow)) (s : SceneNow) → to_end ls [] rounds o s ≡ done s
unfolding to_end
unfolds_none ls rounds o s = refl

pub no_block : (x : Expansion) → IsIdle x → is_quiet x ≡ true → x.frames.items ≡ [] → still x ≡ done x.scene
no_block x i q e =
    idle_still x i q
    ∙ ap (λ (fs : List FrameNow). to_end x.lines.now (reverse fs) x.rounds.items (members_of x.gathered) x.scene) e
    ∙ unfolds_none x.lines.now x.rounds.items (members_of x.gathered) x.scene

-- ---- the end of a block

pub all_ended : (x : Expansion) (f : FrameNow) → IsIdle x → is_quiet x ≡ true → line_in x.lines.now f.at f.end ≡ None → f.block ≡ block.All → still x ≡ from_frame f x
all_ended x f i q e is = idle_still x i q ∙ sym (all_ends x.lines.now f (reverse x.frames.items) x.rounds.items (members_of x.gathered) x.scene e is)

-- what was gathered is worked
turns_ahead : (x : Expansion) → x.current ≡ None → x.queue.items ≡ [] → ahead x ≡ followed (turns_left x.together x.scene) (λ s. lines_left x s)
unfolding ahead
turns_ahead x c w =
    ap (λ (o : Option Burst). followed (turns_left x.together x.scene) (λ s. followed (items_left (told_now x) o x.taken s) (λ t. followed (lists_whole (told_now x) x.queue.items t) (λ u. lines_left x u)))) c
    ∙ ap (λ (bs : List Burst). followed (turns_left x.together x.scene) (λ s. followed (lists_whole (told_now x) bs s) (λ u. lines_left x u))) w

pub together_ended : (x : Expansion) (f : FrameNow) → IsIdle x → is_quiet x ≡ true → line_in x.lines.now f.at f.end ≡ None → f.block ≡ block.Together
    → still (record x { together = x.gathered; gathered = None }) ≡ from_frame f x
together_ended x f i q e is =
    let n : Expansion = record x { together = x.gathered; gathered = None } in
    still_ahead n q ∙ turns_ahead n i.current i.queue ∙ sym (together_ends x.lines.now f (reverse x.frames.items) x.rounds.items x.gathered x.scene e is)

-- the next round of a `repeat`, or its end
pub repeat_ended : (x n : Expansion) (f : FrameNow) → IsIdle x → is_quiet x ≡ true → line_in x.lines.now f.at f.end ≡ None → f.block ≡ block.Repeat → f.until ≡ None
    → n.scene ≡ (round_ended f x.scene x.rounds.items x.frames.items).0 → n.rounds.items ≡ (round_ended f x.scene x.rounds.items x.frames.items).1 → n.frames.items ≡ (round_ended f x.scene x.rounds.items x.frames.items).2
    → n ≡ record x { scene = n.scene; rounds = n.rounds; frames = n.frames } → still n ≡ from_frame f x
repeat_ended x n f i q e is endless a b c same =
    let idle : IsIdle n = record { together = ap (λ (y : Expansion). y.together) same ∙ i.together; current = ap (λ (y : Expansion). y.current) same ∙ i.current; queue = ap (λ (y : Expansion). y.queue.items) same ∙ i.queue } in
    idle_still n idle (ap is_quiet same ∙ q)
    ∙ ap (λ (y : Expansion). to_end y.lines.now (reverse n.frames.items) n.rounds.items (members_of y.gathered) n.scene) same
    ∙ ap (λ (s : SceneNow). to_end x.lines.now (reverse n.frames.items) n.rounds.items (members_of x.gathered) s) a
    ∙ ap (λ (rs : List ℕ). to_end x.lines.now (reverse n.frames.items) rs (members_of x.gathered) (round_ended f x.scene x.rounds.items x.frames.items).0) b
    ∙ ap (λ (fs : List FrameNow). to_end x.lines.now (reverse fs) (round_ended f x.scene x.rounds.items x.frames.items).1 (members_of x.gathered) (round_ended f x.scene x.rounds.items x.frames.items).0) c
    ∙ sym (round_ends x.lines.now f x.frames.items x.rounds.items (members_of x.gathered) x.scene e is endless)

pub until_ended : (x : Expansion) (f : FrameNow) (k : ℕ) → line_in x.lines.now f.at f.end ≡ None → f.block ≡ block.Repeat → f.until ≡ Some k → is_said (from_frame f x) ≡ true → ⊥
until_ended x f k e is some said = unsaid_never (from_frame f x) (round_unsaid x.lines.now f (reverse x.frames.items) x.rounds.items (members_of x.gathered) x.scene k e is some) said

pub repeat_end_works : (x n : Expansion) (f : FrameNow) (result : Result (Unit {0}) ExpandError) → IsIdle x → is_quiet x ≡ true → line_in x.lines.now f.at f.end ≡ None → f.block ≡ block.Repeat → is_said (from_frame f x) ≡ true
    → (f.until ≡ None → GivesAlways as_is result tt)
    → (f.until ≡ None → OnOk result (n.scene ≡ (round_ended f x.scene x.rounds.items x.frames.items).0))
    → (f.until ≡ None → OnOk result (n.rounds.items ≡ (round_ended f x.scene x.rounds.items x.frames.items).1))
    → (f.until ≡ None → OnOk result (n.frames.items ≡ (round_ended f x.scene x.rounds.items x.frames.items).2))
    → (f.until ≡ None → OnOk result (n ≡ record x { scene = n.scene; rounds = n.rounds; frames = n.frames }))
    → Works (from_frame f x) result (still n)
repeat_end_works x n f result i q e is said ends a b c same = by f.until refl
  where
    by_result : (r : Result (Unit {0}) ExpandError) → f.until ≡ None → GivesAlways as_is r tt → OnOk r (n.scene ≡ (round_ended f x.scene x.rounds.items x.frames.items).0) → OnOk r (n.rounds.items ≡ (round_ended f x.scene x.rounds.items x.frames.items).1)
        → OnOk r (n.frames.items ≡ (round_ended f x.scene x.rounds.items x.frames.items).2) → OnOk r (n ≡ record x { scene = n.scene; rounds = n.rounds; frames = n.frames }) → Works (from_frame f x) r (still n)
    by_result (Ok u) endless g a0 b0 c0 s0 = repeat_ended x n f i q e is endless a0 b0 c0 s0
    by_result (Err error.Memory) endless g a0 b0 c0 s0 = tt
    by_result (Err (error.Faulty y)) endless g a0 b0 c0 s0 = absurd (value_is_none y tt g)

    by : (o : Option ℕ) → f.until ≡ o → Works (from_frame f x) result (still n)
    by (Some k) some = absurd (until_ended x f k e is some said)
    by None endless = by_result result endless (ends endless) (a endless) (b endless) (c endless) (same endless)

-- ---- a line opens a block

-- inside of `together` there is no `until`
no_until_inside : (ws : List FilledWord) (head : HeadNow) → repeat_head ws true ≡ Ok head → head.until ≡ None
no_until_inside ws head e = by (head_of ws) e
  where
    at_word : (r : Result FilledWord Fault) (h : HeadNow) → ((r >>= (λ w. bad (Unit {0}) (word_fault w cause.Until))) >>= (λ _. Ok h)) ≡ Ok head → head.until ≡ None
    at_word (Ok w) h p = absurd (fault_is_none _ head p)
    at_word (Err x) h p = absurd (fault_is_none _ head p)

    by_until : (h : HeadNow) (u : Option ℕ) → h.until ≡ u → (until_form ws true u >>= (λ _. Ok h)) ≡ Ok head → head.until ≡ None
    by_until h None q p = ap (λ (k : HeadNow). k.until) (sym (same_value h head p)) ∙ q
    by_until h (Some k) q p = at_word (word_at ws k) h p

    by : (r : Result HeadNow Fault) → (r >>= (λ h. until_form ws true h.until >>= (λ _. Ok h))) ≡ Ok head → head.until ≡ None
    by (Ok h) p = by_until h h.until refl p
    by (Err x) p = absurd (fault_is_none x head p)

inside_never : (ws : List FilledWord) (u : Unit {0}) → together_inside ws ≡ Ok u → ⊥
inside_never ws u e = by (word_at ws 0) e
  where
    by : (r : Result FilledWord Fault) → (r >>= (λ w. bad (Unit {0}) (word_fault w cause.Together))) ≡ Ok u → ⊥
    by (Ok w) p = fault_is_none _ u p
    by (Err x) p = fault_is_none x u p

-- a `repeat` begins, inside of `together` or not
opens_in : (ls : List TextLine) (f : FrameNow) (fs : List FrameNow) (l : TextLine) (ws : List FilledWord) (rounds : List ℕ) (o : Option TogetherNow) (s : SceneNow) (head : HeadNow) → line_in ls f.at f.end ≡ Some l → l.kind ≡ line.Repeat
    → filled_words l.number l.words s.values ≡ Ok ws → repeat_head ws (is_some o || s.in_until) ≡ Ok head → head.until ≡ None
    → to_end ls (f ∷ fs) rounds (members_of o) s ≡ to_end ls (unbegun_in f l head ws s ∷ moved f l true ∷ fs) rounds (members_of (opened_in (is_repeat f.block) o)) s
opens_in ls f fs l ws rounds None s head e is filled h endless = repeat_opens ls f fs l ws rounds s head e is filled h endless
opens_in ls f fs l ws rounds (Some t) s head e is filled h endless = repeat_opens_gathered ls f fs l ws rounds t.members s head e is filled h endless

fails_in : (ls : List TextLine) (f : FrameNow) (fs : List FrameNow) (l : TextLine) (ws : List FilledWord) (rounds : List ℕ) (o : Option TogetherNow) (s : SceneNow) (x : Fault) → line_in ls f.at f.end ≡ Some l → l.kind ≡ line.Repeat
    → filled_words l.number l.words s.values ≡ Ok ws → repeat_head ws (is_some o || s.in_until) ≡ Err x → to_end ls (f ∷ fs) rounds (members_of o) s ≡ failed x
fails_in ls f fs l ws rounds None s x e is filled h = repeat_fails ls f fs l ws rounds s x e is filled h
fails_in ls f fs l ws rounds (Some t) s x e is filled h = repeat_fails_gathered ls f fs l ws rounds t.members s x e is filled h

unsaid_in : (ls : List TextLine) (f : FrameNow) (fs : List FrameNow) (l : TextLine) (ws : List FilledWord) (rounds : List ℕ) (o : Option TogetherNow) (s : SceneNow) (head : HeadNow) (k : ℕ) → line_in ls f.at f.end ≡ Some l → l.kind ≡ line.Repeat
    → filled_words l.number l.words s.values ≡ Ok ws → repeat_head ws (is_some o || s.in_until) ≡ Ok head → head.until ≡ Some k → is_said (to_end ls (f ∷ fs) rounds (members_of o) s) ≡ true → ⊥
unsaid_in ls f fs l ws rounds None s head k e is filled h some said = unsaid_never _ (repeat_unsaid ls f fs l ws rounds s head k e is filled h some) said
unsaid_in ls f fs l ws rounds (Some t) s head k e is filled h some said = let n = no_until_inside ws head h in none_some k (sym n ∙ some)
  where
    none_some : (j : ℕ) → None ≡ Some j → ⊥
    none_some j p = cc

-- the innermost block is the one that was pushed last
pub last_pushed : (fs : List FrameNow) (f : FrameNow) → repeats (fs ++ f ∷ []) ≡ is_repeat f.block
last_pushed fs f =
    let many : length (fs ++ f ∷ []) - 1 ≡ length fs = simp length-append (omega arith) in
    ap (λ (k : ℕ). repeats_last (slice_get (fs ++ f ∷ []) k)) many ∙ ap repeats_last (at_last fs)
  where
    at_last : (xs : List FrameNow) → slice_get (xs ++ f ∷ []) (length xs) ≡ Some f
    at_last [] = refl
    at_last (x ∷ xs) = at_last xs

-- the blocks, the innermost first, after two were pushed
two_pushed : (fs : List FrameNow) (f g : FrameNow) → reverse ((fs ++ f ∷ []) ++ g ∷ []) ≡ g ∷ f ∷ reverse fs
two_pushed fs f g = reverse-append (fs ++ f ∷ []) (g ∷ []) ∙ ap (λ (xs : List FrameNow). g ∷ xs) (reverse-append fs (f ∷ []))

-- the line at work is another one, and its block is at the next line
abbrev pub at_line : Expansion → Vec FrameNow Global → ℕ → Expansion
at_line x fr number = record x { frames = fr; line = number }

abbrev with_head : Result HeadNow Fault → List FrameNow → List FilledWord → ℕ → ℕ → ℕ → Result (List FrameNow) Fault
with_head r fs ws begin end many = do
  f ← (do
    head ← r
    Ok (unbegun head ws begin end many))
  Ok (fs ++ f ∷ [])

pub repeat_works : (x n : Expansion) (fr : Vec FrameNow Global) (number : ℕ) (f : FrameNow) (l : TextLine) (ws : List FilledWord) (begin end : ℕ) (result : Result (Unit {0}) ExpandError) → IsIdle x → is_quiet x ≡ true → line_in x.lines.now f.at f.end ≡ Some l
    → l.kind ≡ line.Repeat → filled_words l.number l.words x.scene.values ≡ Ok ws → begin ≡ f.at + 1 → end ≡ behind_of f.at f.end l → fr.items ≡ x.frames.items ++ moved f l true ∷ []
    → Gives (λ _. n.frames.items) result (with_repeat (at_line x fr number) ws begin end)
    → ((g : FrameNow) → repeated x.scene ws begin end (is_some x.gathered || x.scene.in_until) ≡ Ok g → g.until ≡ None → OnOk result (n ≡ record (at_line x fr number) { frames = n.frames; gathered = opened_in (repeats fr.items) x.gathered }))
    → is_said (from_frame f x) ≡ true → Works (from_frame f x) result (still n)
repeat_works x n fr number f l ws begin end result i q e is filled bs es pushed given others said = by result (repeat_head ws (is_some x.gathered || x.scene.in_until)) refl given others
  where
    by : (r : Result (Unit {0}) ExpandError) (h : Result HeadNow Fault) → repeat_head ws (is_some x.gathered || x.scene.in_until) ≡ h
        → Gives (λ _. n.frames.items) r (with_head h fr.items ws begin end (length x.scene.values))
        → ((g : FrameNow) → (h >>= (λ head. Ok (unbegun head ws begin end (length x.scene.values)))) ≡ Ok g → g.until ≡ None → OnOk r (n ≡ record (at_line x fr number) { frames = n.frames; gathered = opened_in (repeats fr.items) x.gathered }))
        → Works (from_frame f x) r (still n)
    by (Ok u) (Ok head) hs g os = by_until head.until refl
      where
        by_until : (o : Option ℕ) → head.until ≡ o → still n ≡ from_frame f x
        by_until (Some k) some = absurd (unsaid_in x.lines.now f (reverse x.frames.items) l ws x.rounds.items x.gathered x.scene head k e is filled hs some said)
        by_until None endless =
            let same : n ≡ record (at_line x fr number) { frames = n.frames; gathered = opened_in (repeats fr.items) x.gathered } = os (unbegun head ws begin end (length x.scene.values)) refl endless in
            let idle : IsIdle n = record { together = ap (λ (y : Expansion). y.together) same ∙ i.together; current = ap (λ (y : Expansion). y.current) same ∙ i.current; queue = ap (λ (y : Expansion). y.queue.items) same ∙ i.queue } in
            let frames : n.frames.items ≡ (x.frames.items ++ moved f l true ∷ []) ++ unbegun_in f l head ws x.scene ∷ [] =
            sym (same_value _ _ g) ∙ ap (λ (xs : List FrameNow). xs ++ unbegun head ws begin end (length x.scene.values) ∷ []) pushed
            ∙ ap (λ (k : ℕ). (x.frames.items ++ moved f l true ∷ []) ++ unbegun head ws k end (length x.scene.values) ∷ []) bs
            ∙ ap (λ (k : ℕ). (x.frames.items ++ moved f l true ∷ []) ++ unbegun head ws (f.at + 1) k (length x.scene.values) ∷ []) es in
            let last : repeats fr.items ≡ is_repeat f.block = ap repeats pushed ∙ last_pushed x.frames.items (moved f l true) in
            idle_still n idle (ap is_quiet same ∙ q)
            ∙ ap (λ (y : Expansion). to_end y.lines.now (reverse n.frames.items) y.rounds.items (members_of y.gathered) y.scene) same
            ∙ ap (λ (fs : List FrameNow). to_end x.lines.now fs x.rounds.items (members_of (opened_in (repeats fr.items) x.gathered)) x.scene) (ap reverse frames ∙ two_pushed x.frames.items (moved f l true) (unbegun_in f l head ws x.scene))
            ∙ ap (λ (b : Bool). to_end x.lines.now (unbegun_in f l head ws x.scene ∷ moved f l true ∷ reverse x.frames.items) x.rounds.items (members_of (opened_in b x.gathered)) x.scene) last
            ∙ sym (opens_in x.lines.now f (reverse x.frames.items) l ws x.rounds.items x.gathered x.scene head e is filled hs endless)
    by (Ok u) (Err y) hs g os = absurd (fault_is_none _ _ g)
    by (Err error.Memory) h hs g os = tt
    by (Err (error.Faulty y)) (Ok head) hs g os = absurd (value_is_none _ _ g)
    by (Err (error.Faulty y)) (Err z) hs g os = fails_in x.lines.now f (reverse x.frames.items) l ws x.rounds.items x.gathered x.scene z e is filled hs ∙ ap failed (same_fault (List FrameNow) z y g)

-- ---- `together` begins

together_opens_in : (ls : List TextLine) (f : FrameNow) (fs : List FrameNow) (l : TextLine) (ws : List FilledWord) (rounds : List ℕ) (o : Option TogetherNow) (s : SceneNow) (u : Unit {0}) → line_in ls f.at f.end ≡ Some l → l.kind ≡ line.Together
    → filled_words l.number l.words s.values ≡ Ok ws → (if is_some o then together_inside ws else ends_at ws 1) ≡ Ok u
    → to_end ls (f ∷ fs) rounds (members_of o) s ≡ to_end ls (once_in f l s ∷ moved f l true ∷ fs) rounds (Some []) s
together_opens_in ls f fs l ws rounds None s u e is filled ends = together_opens ls f fs l ws rounds s u e is filled ends
together_opens_in ls f fs l ws rounds (Some t) s u e is filled ends = absurd (inside_never ws u ends)

together_fails_in : (ls : List TextLine) (f : FrameNow) (fs : List FrameNow) (l : TextLine) (ws : List FilledWord) (rounds : List ℕ) (o : Option TogetherNow) (s : SceneNow) (x : Fault) → line_in ls f.at f.end ≡ Some l → l.kind ≡ line.Together
    → filled_words l.number l.words s.values ≡ Ok ws → (if is_some o then together_inside ws else ends_at ws 1) ≡ Err x → to_end ls (f ∷ fs) rounds (members_of o) s ≡ failed x
together_fails_in ls f fs l ws rounds None s x e is filled ends = together_fails ls f fs l ws rounds s x e is filled ends
together_fails_in ls f fs l ws rounds (Some t) s x e is filled ends = together_fails_gathered ls f fs l ws rounds t.members s x e is filled ends

abbrev with_once : Result (Unit {0}) Fault → List FrameNow → ℕ → ℕ → ℕ → Result (List FrameNow) Fault
with_once r fs begin end many = do
  _ ← r
  Ok (fs ++ once block.Together begin end many ∷ [])

pub together_works : (x n : Expansion) (fr : Vec FrameNow Global) (number : ℕ) (f : FrameNow) (l : TextLine) (ws vs : List FilledWord) (begin end : ℕ) (result : Result (Unit {0}) ExpandError) → IsIdle x → is_quiet x ≡ true → line_in x.lines.now f.at f.end ≡ Some l
    → l.kind ≡ line.Together → filled_words l.number l.words x.scene.values ≡ Ok ws → begin ≡ f.at + 1 → end ≡ behind_of f.at f.end l → fr.items ≡ x.frames.items ++ moved f l true ∷ [] → vs ≡ ws
    → Gives (λ _. n.frames.items) result (with_together (at_line x fr number) vs begin end)
    → OnOk result (n ≡ record (at_line x fr number) { frames = n.frames; gathered = Some (record { members = []; before = None }) })
    → Works (from_frame f x) result (still n)
together_works x n fr number f l ws vs begin end result i q e is filled bs es pushed same_words given others =
    by result (if is_some x.gathered then together_inside ws else ends_at ws 1) refl (subst (λ (us : List FilledWord). Gives (λ _. n.frames.items) result (with_together (at_line x fr number) us begin end)) same_words given) others
  where
    by : (r : Result (Unit {0}) ExpandError) (h : Result (Unit {0}) Fault) → (if is_some x.gathered then together_inside ws else ends_at ws 1) ≡ h
        → Gives (λ _. n.frames.items) r (with_once h fr.items begin end (length x.scene.values))
        → OnOk r (n ≡ record (at_line x fr number) { frames = n.frames; gathered = Some (record { members = []; before = None }) })
        → Works (from_frame f x) r (still n)
    by (Ok u) (Ok v) hs g same =
        let idle : IsIdle n = record { together = ap (λ (y : Expansion). y.together) same ∙ i.together; current = ap (λ (y : Expansion). y.current) same ∙ i.current; queue = ap (λ (y : Expansion). y.queue.items) same ∙ i.queue } in
        let frames : n.frames.items ≡ (x.frames.items ++ moved f l true ∷ []) ++ once_in f l x.scene ∷ [] =
        sym (same_value _ _ g) ∙ ap (λ (xs : List FrameNow). xs ++ once block.Together begin end (length x.scene.values) ∷ []) pushed
        ∙ ap (λ (k : ℕ). (x.frames.items ++ moved f l true ∷ []) ++ once block.Together k end (length x.scene.values) ∷ []) bs
        ∙ ap (λ (k : ℕ). (x.frames.items ++ moved f l true ∷ []) ++ once block.Together (f.at + 1) k (length x.scene.values) ∷ []) es in
        idle_still n idle (ap is_quiet same ∙ q)
        ∙ ap (λ (y : Expansion). to_end y.lines.now (reverse n.frames.items) y.rounds.items (members_of y.gathered) y.scene) same
        ∙ ap (λ (fs : List FrameNow). to_end x.lines.now fs x.rounds.items (Some []) x.scene) (ap reverse frames ∙ two_pushed x.frames.items (moved f l true) (once_in f l x.scene))
        ∙ sym (together_opens_in x.lines.now f (reverse x.frames.items) l ws x.rounds.items x.gathered x.scene v e is filled hs)
    by (Ok u) (Err y) hs g same = absurd (fault_is_none _ _ g)
    by (Err error.Memory) h hs g same = tt
    by (Err (error.Faulty y)) (Ok v) hs g same = absurd (value_is_none _ _ g)
    by (Err (error.Faulty y)) (Err z) hs g same = together_fails_in x.lines.now f (reverse x.frames.items) l ws x.rounds.items x.gathered x.scene z e is filled hs ∙ ap failed (same_fault (List FrameNow) z y g)

-- the words of the line that is next are the fault
pub words_work : (x n : Expansion) (f : FrameNow) (l : TextLine) (T : Type 0) (shown : T → List FilledWord) (e : ExpandError) → line_in x.lines.now f.at f.end ≡ Some l → Gives {T = T} shown (Err e) (filled_words l.number l.words x.scene.values)
    → Works (from_frame f x) (Err e) (still n)
words_work x n f l T shown error.Memory e g = tt
words_work x n f l T shown (error.Faulty y) e g = words_fail x.lines.now f (reverse x.frames.items) l y x.rounds.items (members_of x.gathered) x.scene e g

-- What is still to come of an expansion, after a line that opens no block.
use Rattle.std.proofs.Common.{◌≡◌, ◌⊎◌, inl, inr, ℕ, Bool, true, false, List, [], ◌∷◌, ◌++◌, reverse, Option, Some, None, Vec, Result, Ok, Err, refl, sym, ap, subst, ◌∙◌}
use Rattle.std.specs.Prelude.{OnOk}
use Rattle.std.specs.Option.{option_map}
use Rattle.std.specs.Global.{Global}
use Rattle.std.proofs.lemmas.List.{reverse-append}
use Rattle.scenarios.specs.declared.lines.LineKind.{LineKind}
use Rattle.scenarios.specs.declared.lines.LineKind.TheVariants as line
use Rattle.scenarios.specs.Lines.{TextLine, opens_block}
use Rattle.scenario_words.specs.declared.fault.Fault.{Fault}
use Rattle.scenario_words.specs.declared.fault.ExpandError.{ExpandError}
use Rattle.scenario_words.specs.declared.fault.ExpandError.TheVariants as error
use Rattle.scenario_words.specs.Faults.{◌>>=◌, Gives}
use Rattle.scenario_words.specs.Words.{FilledWord, filled_words}
use Rattle.scenario_lines.specs.declared.burst.Burst.{Burst}
use Rattle.scenario_lines.specs.LineLists.{line_lists, together_form, may_be_refused}
use Rattle.scenario_lines.specs.Scene.{SceneNow}
use Rattle.expansion.specs.declared.expansion.Expansion.{Expansion}
use Rattle.expansion.specs.Frames.{FrameNow}
use Rattle.expansion.specs.Together.{MemberNow, TogetherNow}
use Rattle.expansion.specs.Walk.{failed, followed, Gathered, lists_whole, told_of_line, noted, noted_all, lists_gathered}
use Rattle.expansion.specs.ToCome.{line_in, is_repeat, to_end, told_now, is_quiet, turns_left, items_left, members_of, lines_left, ahead, still, Works, IsIdle, from_frame, gathering, repeats, told_of, line_gathered, line_queued}
use Rattle.expansion.proofs.OpenLemmas.{moved, line_members, line_queues, line_gathers}
use Rattle.expansion.proofs.StillLemmas.{still_ahead, idle_still, last_pushed, at_line, fault_is_none, value_is_none, same_fault, same_value}

-- ---- its lists are to come

queue_ahead : (x : Expansion) → x.together ≡ None → x.current ≡ None → ahead x ≡ followed (lists_whole (told_now x) x.queue.items x.scene) (λ u. lines_left x u)
unfolding ahead
queue_ahead x t c =
    ap (λ (o : Option TogetherNow). followed (turns_left o x.scene) (λ s. followed (items_left (told_now x) x.current x.taken s) (λ t. followed (lists_whole (told_now x) x.queue.items t) (λ u. lines_left x u)))) t
    ∙ ap (λ (o : Option Burst). followed (items_left (told_now x) o x.taken x.scene) (λ t. followed (lists_whole (told_now x) x.queue.items t) (λ u. lines_left x u))) c

abbrev queued : Result (List Burst × SceneNow) Fault → List FilledWord → Result (List Burst × SceneNow) Fault
queued r ws = do
  p ← r
  Ok (p.0, noted ws p.1)

pub queue_works : (x n : Expansion) (fr : Vec FrameNow Global) (f : FrameNow) (l : TextLine) (w : Vec FilledWord Global) (result : Result (Unit {0}) ExpandError) → IsIdle x → is_quiet x ≡ true → line_in x.lines.now f.at f.end ≡ Some l
    → opens_block l.kind ≡ false → filled_words l.number l.words x.scene.values ≡ Ok w.items → fr.items ≡ x.frames.items ++ moved f l (may_be_refused w.items) ∷ [] → x.gathered ≡ None
    → Gives (λ _. (n.queue.items, n.scene)) result (line_queued x.scene w.items f.above)
    → OnOk result (n ≡ record (at_line x fr l.number) { queue = n.queue; scene = n.scene; words = w })
    → Works (from_frame f x) result (still n)
queue_works x n fr f l w result i q e opens filled pushed none given others = by result (line_lists x.scene w.items f.above) refl given others
  where
    by : (r : Result (Unit {0}) ExpandError) (h : Result (List Burst × SceneNow) Fault) → line_lists x.scene w.items f.above ≡ h → Gives (λ _. (n.queue.items, n.scene)) r (queued h w.items)
        → OnOk r (n ≡ record (at_line x fr l.number) { queue = n.queue; scene = n.scene; words = w }) → Works (from_frame f x) r (still n)
    by (Ok u) (Ok p) hs g same =
        let told = told_of_line l x.rounds.items w.items in
        let pair : (n.queue.items, n.scene) ≡ (p.0, noted w.items p.1) = sym (same_value _ _ g) in
        let together : n.together ≡ None = ap (λ (y : Expansion). y.together) same ∙ i.together in
        let current : n.current ≡ None = ap (λ (y : Expansion). y.current) same ∙ i.current in
        let turned : reverse fr.items ≡ moved f l (may_be_refused w.items) ∷ reverse x.frames.items = ap reverse pushed ∙ reverse-append x.frames.items (moved f l (may_be_refused w.items) ∷ []) in
        still_ahead n (ap is_quiet same ∙ q)
        ∙ queue_ahead n together current
        ∙ ap (λ (y : Expansion). followed (lists_whole (told_now y) n.queue.items n.scene) (λ u. lines_left y u)) same
        ∙ ap (λ (t : List Burst × SceneNow). followed (lists_whole told t.0 t.1) (λ u. to_end x.lines.now (reverse fr.items) x.rounds.items (members_of x.gathered) u)) pair
        ∙ ap (λ (fs : List FrameNow). followed (lists_whole told p.0 (noted w.items p.1)) (λ u. to_end x.lines.now fs x.rounds.items (members_of x.gathered) u)) turned
        ∙ ap (λ (o : Option TogetherNow). followed (lists_whole told p.0 (noted w.items p.1)) (λ u. to_end x.lines.now (moved f l (may_be_refused w.items) ∷ reverse x.frames.items) x.rounds.items (members_of o) u)) none
        ∙ sym (line_queues x.lines.now f (reverse x.frames.items) l w.items x.rounds.items x.scene (Ok p) e opens filled hs)
        ∙ ap (λ (o : Option TogetherNow). to_end x.lines.now (f ∷ reverse x.frames.items) x.rounds.items (members_of o) x.scene) (sym none)
    by (Ok u) (Err y) hs g same = absurd (fault_is_none _ _ g)
    by (Err error.Memory) h hs g same = tt
    by (Err (error.Faulty y)) (Ok p) hs g same = absurd (value_is_none _ _ g)
    by (Err (error.Faulty y)) (Err z) hs g same =
        ap (λ (o : Option TogetherNow). to_end x.lines.now (f ∷ reverse x.frames.items) x.rounds.items (members_of o) x.scene) none
        ∙ line_queues x.lines.now f (reverse x.frames.items) l w.items x.rounds.items x.scene (Err z) e opens filled hs
        ∙ ap failed (same_fault (List Burst × SceneNow) z y g)

-- ---- its lists are members

gathered_as : (l : TextLine) (rounds : List ℕ) (ws : List FilledWord) (b above : Bool) (g : Gathered)
    → line_gathered (told_of l.number rounds ws) b ws above g ≡ (line_members l rounds ws b above g >>= (λ h. Ok (Some h)))
gathered_as l rounds ws b above g = by (together_form ws) (line_lists g.1 ws above)
  where
    by : (r : Result (Unit {0}) Fault) (k : Result (List Burst × SceneNow) Fault)
        → ((r >>= (λ _. k >>= (λ p. Ok (Some (lists_gathered (told_of_line l rounds ws) b p.0 (g.0, p.1)))))) >>= (λ h. Ok (option_map (noted_all ws) h)))
        ≡ ((r >>= (λ _. k >>= (λ p. Ok (noted_all ws (lists_gathered (told_of_line l rounds ws) b p.0 (g.0, p.1)))))) >>= (λ h. Ok (Some h)))
    by (Ok u) (Ok p) = refl
    by (Ok u) (Err x) = refl
    by (Err x) k = refl

abbrev with_scene : SceneNow → Option TogetherNow → Option Gathered
with_scene s o = option_map (λ t. (t.members, s)) o

some_pair : (a b : Gathered) → Some a ≡ Some b → a ≡ b
some_pair a b e = cc

none_pair : (b : Gathered) → None ≡ Some b → ⊥
none_pair b e = cc

gathered_members : (s : SceneNow) (o : Option TogetherNow) (h : Gathered) → with_scene s o ≡ Some h → members_of o ≡ Some h.0
gathered_members s None h e = absurd (none_pair h e)
gathered_members s (Some t) h e = ap (λ (g : Gathered). Some g.0) (some_pair _ h e)

gathered_scene : (s : SceneNow) (o : Option TogetherNow) (h : Gathered) → with_scene s o ≡ Some h → s ≡ h.1
gathered_scene s None h e = absurd (none_pair h e)
gathered_scene s (Some t) h e = ap (λ (g : Gathered). g.1) (some_pair _ h e)

abbrev some_of : Result Gathered Fault → Result (Option Gathered) Fault
some_of r = r >>= (λ h. Ok (Some h))

pub gather_works : (x n : Expansion) (t : TogetherNow) (fr : Vec FrameNow Global) (f : FrameNow) (l : TextLine) (w : Vec FilledWord Global) (result : Result (Unit {0}) ExpandError) → IsIdle x → is_quiet x ≡ true → line_in x.lines.now f.at f.end ≡ Some l
    → opens_block l.kind ≡ false → filled_words l.number l.words x.scene.values ≡ Ok w.items → fr.items ≡ x.frames.items ++ moved f l (may_be_refused w.items) ∷ [] → x.gathered ≡ Some t
    → Gives (λ _. gathering n) result (line_gathered (told_of l.number x.rounds.items w.items) (repeats fr.items) w.items f.above (t.members, x.scene))
    → OnOk result (n ≡ record (at_line x fr l.number) { gathered = n.gathered; scene = n.scene; words = w })
    → Works (from_frame f x) result (still n)
gather_works x n t fr f l w result i q e opens filled pushed some given others =
    by result (line_members l x.rounds.items w.items (is_repeat f.block) f.above (t.members, x.scene)) refl
    (rw (last, gathered_as l x.rounds.items w.items (is_repeat f.block) f.above (t.members, x.scene)) at given) others
  where
    last : repeats fr.items ≡ is_repeat f.block
    last = ap repeats pushed ∙ last_pushed x.frames.items (moved f l (may_be_refused w.items))

    by : (r : Result (Unit {0}) ExpandError) (h : Result Gathered Fault) → line_members l x.rounds.items w.items (is_repeat f.block) f.above (t.members, x.scene) ≡ h → Gives (λ _. gathering n) r (some_of h)
        → OnOk r (n ≡ record (at_line x fr l.number) { gathered = n.gathered; scene = n.scene; words = w }) → Works (from_frame f x) r (still n)
    by (Ok u) (Ok h) hs g same =
        let all : with_scene n.scene n.gathered ≡ Some h = sym (same_value _ _ g) in
        let idle : IsIdle n = record { together = ap (λ (y : Expansion). y.together) same ∙ i.together; current = ap (λ (y : Expansion). y.current) same ∙ i.current; queue = ap (λ (y : Expansion). y.queue.items) same ∙ i.queue } in
        let turned : reverse fr.items ≡ moved f l (may_be_refused w.items) ∷ reverse x.frames.items = ap reverse pushed ∙ reverse-append x.frames.items (moved f l (may_be_refused w.items) ∷ []) in
        idle_still n idle (ap is_quiet same ∙ q)
        ∙ ap (λ (y : Expansion). to_end y.lines.now (reverse y.frames.items) y.rounds.items (members_of n.gathered) n.scene) same
        ∙ ap (λ (o : Option (List MemberNow)). to_end x.lines.now (reverse fr.items) x.rounds.items o n.scene) (gathered_members n.scene n.gathered h all)
        ∙ ap (λ (s : SceneNow). to_end x.lines.now (reverse fr.items) x.rounds.items (Some h.0) s) (gathered_scene n.scene n.gathered h all)
        ∙ ap (λ (fs : List FrameNow). to_end x.lines.now fs x.rounds.items (Some h.0) h.1) turned
        ∙ sym (line_gathers x.lines.now f (reverse x.frames.items) l w.items x.rounds.items t.members x.scene (Ok h) e opens filled hs)
        ∙ ap (λ (o : Option TogetherNow). to_end x.lines.now (f ∷ reverse x.frames.items) x.rounds.items (members_of o) x.scene) (sym some)
    by (Ok u) (Err y) hs g same = absurd (fault_is_none _ _ g)
    by (Err error.Memory) h hs g same = tt
    by (Err (error.Faulty y)) (Ok p) hs g same = absurd (value_is_none _ _ g)
    by (Err (error.Faulty y)) (Err z) hs g same =
        ap (λ (o : Option TogetherNow). to_end x.lines.now (f ∷ reverse x.frames.items) x.rounds.items (members_of o) x.scene) some
        ∙ line_gathers x.lines.now f (reverse x.frames.items) l w.items x.rounds.items t.members x.scene (Err z) e opens filled hs
        ∙ ap failed (same_fault (Option Gathered) z y g)

-- ---- both

pub opens_none : (r k : LineKind) → r ≡ k → (r ≡ line.Header) ⊎ ((r ≡ line.Let) ⊎ ((r ≡ line.End) ⊎ (r ≡ line.Other))) → opens_block k ≡ false
opens_none r k same (inl a) = ap opens_block (sym same ∙ a)
opens_none r k same (inr (inl a)) = ap opens_block (sym same ∙ a)
opens_none r k same (inr (inr (inl a))) = ap opens_block (sym same ∙ a)
opens_none r k same (inr (inr (inr a))) = ap opens_block (sym same ∙ a)

pub line_works : (x n : Expansion) (fr : Vec FrameNow Global) (number : ℕ) (f : FrameNow) (l : TextLine) (w : Vec FilledWord Global) (above : Bool) (result : Result (Unit {0}) ExpandError) → IsIdle x → is_quiet x ≡ true → line_in x.lines.now f.at f.end ≡ Some l
    → opens_block l.kind ≡ false → filled_words l.number l.words x.scene.values ≡ Ok w.items → fr.items ≡ x.frames.items ++ moved f l (may_be_refused w.items) ∷ [] → number ≡ l.number → above ≡ f.above
    → (x.gathered ≡ None → Gives (λ _. (n.queue.items, n.scene)) result (line_queued x.scene w.items above))
    → (x.gathered ≡ None → OnOk result (n ≡ record (at_line x fr number) { queue = n.queue; scene = n.scene; words = w }))
    → ((g : Gathered) → gathering (at_line x fr number) ≡ Some g → Gives (λ _. gathering n) result (line_gathered (told_of number x.rounds.items w.items) (repeats fr.items) w.items above g))
    → ((g : Gathered) → gathering (at_line x fr number) ≡ Some g → OnOk result (n ≡ record (at_line x fr number) { gathered = n.gathered; scene = n.scene; words = w }))
    → Works (from_frame f x) result (still n)
line_works x n fr number f l w above result i q e opens filled pushed same_number same_above lists queued members others = by x.gathered refl
  where
    by : (o : Option TogetherNow) → x.gathered ≡ o → Works (from_frame f x) result (still n)
    by None none =
        queue_works x n fr f l w result i q e opens filled pushed none (subst (λ (b : Bool). Gives (λ _. (n.queue.items, n.scene)) result (line_queued x.scene w.items b)) same_above (lists none))
        (subst (λ (k : ℕ). OnOk result (n ≡ record (at_line x fr k) { queue = n.queue; scene = n.scene; words = w })) same_number (queued none))
    by (Some t) some =
        let g : Gathered = (t.members, x.scene) in
        let there : gathering (at_line x fr number) ≡ Some g = ap (λ (o : Option TogetherNow). with_scene x.scene o) some in
        gather_works x n t fr f l w result i q e opens filled pushed some
        (subst (λ (b : Bool). Gives (λ _. gathering n) result (line_gathered (told_of l.number x.rounds.items w.items) (repeats fr.items) w.items b g)) same_above
        (subst (λ (k : ℕ). Gives (λ _. gathering n) result (line_gathered (told_of k x.rounds.items w.items) (repeats fr.items) w.items above g)) same_number (members g there)))
        (subst (λ (k : ℕ). OnOk result (n ≡ record (at_line x fr k) { gathered = n.gathered; scene = n.scene; words = w })) same_number (others g there))

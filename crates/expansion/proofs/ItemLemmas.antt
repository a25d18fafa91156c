-- What is still to come of an expansion, after an item or a turn.
use Rattle.std.proofs.Common.{◌≡◌, ◌≢◌, ℕ, zero, suc, ◌+◌, ◌-◌, ◌^◌, ◌<◌, ◌≤◌, Bool, true, false, nat_lt, List, [], ◌∷◌, ◌++◌, length, reverse, drop, slice_get, Option, Some, None, Vec, Result, Ok, Err, refl, sym, ap, subst, ◌∙◌, arith}
use Rattle.std.specs.Prelude.{if◌then◌else◌, ◌==◌, not, slice_range}
use Rattle.std.specs.Option.{option_and_then}
use Rattle.std.specs.Global.{Global}
use Rattle.std.proofs.lemmas.List.{take_all, nil_from_length}
use Rattle.std.proofs.lemmas.Bool.Decides.{nat_tests}
use Rattle.std.proofs.lemmas.List.{length-drop}
use Rattle.scenarios.specs.Holes.{NamedText}
use Rattle.scenarios.specs.Lines.{TextLine}
use Rattle.scenario_words.specs.declared.fault.Fault.{Fault}
use Rattle.scenario_words.specs.declared.fault.ExpandError.{ExpandError}
use Rattle.scenario_words.specs.declared.fault.ExpandError.TheVariants as error
use Rattle.scenario_words.specs.Faults.{Gives}
use Rattle.scenario_lines.specs.declared.burst.Burst.{Burst}
use Rattle.scenario_lines.specs.declared.burst.Condition.{Condition}
use Rattle.scenario_lines.specs.declared.burst.Deed.{Deed}
use Rattle.scenario_lines.specs.declared.burst.Deed.TheVariants as deed
use Rattle.scenario_lines.specs.Acts.{entry_count}
use Rattle.scenario_lines.specs.HeaderLines.{header_read}
use Rattle.scenario_lines.specs.Joined.{joined}
use Rattle.scenario_lines.specs.Scene.{SceneNow, at_first}
use Rattle.scenario_lines.specs.Tasks.{StandingNow}
use Rattle.expansion.specs.declared.expansion.Expansion.{Expansion}
use Rattle.expansion.specs.declared.expansion.Item.{Item}
use Rattle.expansion.specs.declared.frames.Block.TheVariants as block
use Rattle.expansion.specs.declared.together.Turn.{Turn}
use Rattle.expansion.specs.Frames.{FrameNow, once}
use Rattle.expansion.specs.Merge.{IsNext}
use Rattle.expansion.specs.Standings.{after_entry, after_rest, after_entries}
use Rattle.expansion.specs.Together.{PlacedNow, MemberNow, TogetherNow, cursors_of, member_or, next_entry, list_of, next_of, taken_of, left_of, has_left}
use Rattle.expansion.specs.Walk.{Told, Out, Ran, Ended, done, failed, onto, followed, tried, out_of, item_count, item_at, items_from, unless_loose, list_from, if_whole, lists_whole, told_by, turn_out, turns_from, turns_by, turns, merged, stands, walked, blocks_of, expanded}
use Rattle.expansion.specs.ToCome.{between, to_end, told_now, told_last, words_shown, words_or, is_quiet, turns_left, items_left, members_of, lines_left, ahead, still, is_said, Steps, Comes, Works, IsIdle, item_before, line_item, place_after, one_told, none_told, one_turn}
use Rattle.expansion.proofs.MergeLemmas.{next_is}
use Rattle.expansion.proofs.StandingLemmas.{one_then_rest}
use Rattle.expansion.proofs.StepLemmas.{first_left}
use Rattle.expansion.proofs.TogetherLemmas.{less_left, is_left}
use Rattle.expansion.proofs.WalkLemmas.{then_onto, then_then, then_end}
use Rattle.expansion.proofs.StillLemmas.{value_is_none, unsaid_never, is_quiet_there, still_ahead, idle_still}

-- ---- what comes, without the parts that are empty

-- what follows the list at work
abbrev rest_of : Expansion → SceneNow → Ran
rest_of x s = followed (lists_whole (told_now x) x.queue.items s) (λ u. lines_left x u)

abbrev line_rest : Expansion → SceneNow → Ran
line_rest x s = followed (items_left (told_now x) x.current x.taken s) (λ t. rest_of x t)

from_turns : (x : Expansion) → ahead x ≡ followed (turns_left x.together x.scene) (λ s. line_rest x s)
unfolding ahead
from_turns x = refl

from_items : (x : Expansion) (b : Burst) → x.together ≡ None → x.current ≡ Some b → ahead x ≡ followed (if_whole b.until (list_from (told_now x) b.deed x.taken x.scene)) (λ t. rest_of x t)
from_items x b t c =
    from_turns x
    ∙ ap (λ (o : Option TogetherNow). followed (turns_left o x.scene) (λ s. line_rest x s)) t
    ∙ ap (λ (o : Option Burst). followed (items_left (told_now x) o x.taken x.scene) (λ u. rest_of x u)) c

from_lists : (x : Expansion) → x.together ≡ None → x.current ≡ None → ahead x ≡ rest_of x x.scene
from_lists x t c =
    from_turns x
    ∙ ap (λ (o : Option TogetherNow). followed (turns_left o x.scene) (λ s. line_rest x s)) t
    ∙ ap (λ (o : Option Burst). followed (items_left (told_now x) o x.taken x.scene) (λ u. rest_of x u)) c

-- ---- the list at work

-- with `until` nothing is said of it
pub no_until : (x : Expansion) (b : Burst) → x.together ≡ None → x.current ≡ Some b → is_said (still x) ≡ true → b.until ≡ None
no_until x b t c said = by b.until refl
  where
    by : (o : Option Condition) → b.until ≡ o → b.until ≡ None
    by None e = e
    by (Some u) e =
        absurd (unsaid_never (still x) (still_ahead x (is_quiet_there x said) ∙ from_items x b t c ∙ ap (λ (v : Option Condition). followed (if_whole v (list_from (told_now x) b.deed x.taken x.scene)) (λ s. rest_of x s)) e) said)

fewer_entries : (d : Deed) (place : ℕ) → item_count d ≤ place → entry_count d - place ≡ 0
fewer_entries (deed.Access a) place past = omega arith
fewer_entries (deed.Command who what) place past = omega arith
fewer_entries (deed.Raw words) place past = omega arith
fewer_entries (deed.Note words) place past = omega arith

abbrev no_outs : List Out
no_outs = []

nothing_loose : (b : Bool) → (if b then [] else []) ≡ no_outs
nothing_loose true = refl
nothing_loose false = refl

abbrev with_ending : List Out → SceneNow → Ran
with_ending outs s = record { outs = outs; ending = Ended s }

list_over : (told : Told) (d : Deed) (place : ℕ) (s : SceneNow) → item_count d ≤ place → list_from told d place s ≡ done s
list_over told d place s past =
    let none : item_count d - place ≡ 0 = omega arith in
    ap (λ (k : ℕ). with_ending (unless_loose s (items_from told d place k)) (stands s (after_rest d place s.tasks.standings))) none
    ∙ ap (λ (outs : List Out). with_ending outs (stands s (after_rest d place s.tasks.standings))) (nothing_loose s.loose)
    ∙ ap (λ (k : ℕ). with_ending [] (stands s (after_entries d place k s.tasks.standings))) (fewer_entries d place past)

none_before : (d : Deed) (place : ℕ) → item_before d place ≡ None → item_count d ≤ place
none_before d place e = by (nat_lt place (item_count d)) refl
  where
    never_none : (i : Item) → Some i ≡ None → ⊥
    never_none i p = cc

    by : (b : Bool) → nat_lt place (item_count d) ≡ b → item_count d ≤ place
    by true q = absurd (never_none (item_at d place) (rw q at e))
    by false q = grind (arith, nat_tests)

some_before : (d : Deed) (place : ℕ) (i : Item) → item_before d place ≡ Some i → (place < item_count d) × (i ≡ item_at d place)
some_before d place i e = by (nat_lt place (item_count d)) refl
  where
    never_some : None ≡ Some i → ⊥
    never_some p = cc

    same_item : (j : Item) → Some j ≡ Some i → i ≡ j
    same_item j p = cc

    by : (b : Bool) → nat_lt place (item_count d) ≡ b → (place < item_count d) × (i ≡ item_at d place)
    by true q = (grind (arith, nat_tests), same_item (item_at d place) (rw q at e))
    by false q = absurd (never_some (rw q at e))

-- the item is that of its place
pub item_here : (x : Expansion) (b : Burst) (i : Item) → x.current ≡ Some b → line_item x.current x.taken ≡ Some i → i ≡ item_at b.deed x.taken
item_here x b i c some = (some_before b.deed x.taken i (ap (λ (o : Option Burst). line_item o x.taken) (sym c) ∙ some)).1

-- no item of it is left
pub item_ends : (x n : Expansion) (b : Burst) → is_said (still x) ≡ true → x.together ≡ None → x.current ≡ Some b → line_item x.current x.taken ≡ None → n ≡ record x { current = None } → still n ≡ still x
item_ends x n b said t c none same =
    let q = is_quiet_there x said in
    let over : item_before b.deed x.taken ≡ None = ap (λ (o : Option Burst). line_item o x.taken) (sym c) ∙ none in
    still_ahead n (ap is_quiet same ∙ q)
    ∙ ap ahead same
    ∙ from_lists (record x { current = None }) t refl
    ∙ ap (λ (r : Ran). followed r (λ s. rest_of x s)) (sym (list_over (told_now x) b.deed x.taken x.scene (none_before b.deed x.taken over)))
    ∙ ap (λ (u : Option Condition). followed (if_whole u (list_from (told_now x) b.deed x.taken x.scene)) (λ s. rest_of x s)) (sym (no_until x b t c said))
    ∙ sym (from_items x b t c)
    ∙ sym (still_ahead x q)

-- the entries after one of them
rest_after : (d : Deed) (place : ℕ) (st : List StandingNow) → place < item_count d → after_rest d (place + 1) (after_entry d place st) ≡ after_rest d place st
rest_after (deed.Access a) place st below =
    let many : entry_count (deed.Access a) - place ≡ suc (entry_count (deed.Access a) - (place + 1)) = omega arith in
    sym (one_then_rest (deed.Access a) place (entry_count (deed.Access a) - (place + 1)) st) ∙ ap (λ (k : ℕ). after_entries (deed.Access a) place k st) (sym many)
rest_after (deed.Command who what) place st below =
    let many : 1 - place ≡ suc (1 - (place + 1)) = omega arith in
    sym (one_then_rest (deed.Command who what) place (1 - (place + 1)) st) ∙ ap (λ (k : ℕ). after_entries (deed.Command who what) place k st) (sym many)
rest_after (deed.Raw words) place st below =
    let many : 1 - place ≡ suc (1 - (place + 1)) = omega arith in
    sym (one_then_rest (deed.Raw words) place (1 - (place + 1)) st) ∙ ap (λ (k : ℕ). after_entries (deed.Raw words) place k st) (sym many)
rest_after (deed.Note words) place st below =
    let one : 0 - place ≡ 0 = omega arith in
    let two : 0 - (place + 1) ≡ 0 = omega arith in
    ap (λ (k : ℕ). after_entries (deed.Note words) (place + 1) k st) two ∙ ap (λ (k : ℕ). after_entries (deed.Note words) place k st) (sym one)

abbrev entry_left : SceneNow → Deed → ℕ → SceneNow
entry_left s d place = stands s (after_entry d place s.tasks.standings)

list_more : (told : Told) (d : Deed) (place : ℕ) (s : SceneNow) → place < item_count d → s.loose ≡ false
    → list_from told d place s ≡ onto (out_of told (item_at d place) ∷ []) (list_from told d (place + 1) (entry_left s d place))
list_more told d place s below tight =
    let many : item_count d - place ≡ suc (item_count d - (place + 1)) = omega arith in
    ap (λ (k : ℕ). with_ending (unless_loose s (items_from told d place k)) (stands s (after_rest d place s.tasks.standings))) many
    ∙ ap (λ (b : Bool). with_ending (if b then [] else items_from told d place (suc (item_count d - (place + 1)))) (stands s (after_rest d place s.tasks.standings))) tight
    ∙ ap (λ (b : Bool). with_ending (out_of told (item_at d place) ∷ [] ++ (if b then [] else items_from told d (place + 1) (item_count d - (place + 1)))) (stands s (after_rest d place s.tasks.standings))) (sym tight)
    ∙ ap (λ (st : List StandingNow). with_ending (out_of told (item_at d place) ∷ [] ++ unless_loose s (items_from told d (place + 1) (item_count d - (place + 1)))) (stands s st)) (sym (rest_after d place s.tasks.standings below))

-- one item of it comes
pub item_comes : (x n : Expansion) (b : Burst) (i : Item) → is_said (still x) ≡ true → x.together ≡ None → x.current ≡ Some b → line_item x.current x.taken ≡ Some i → x.taken + 1 ≤ 2 ^ 32 - 1 → not x.scene.loose ≡ true
    → n ≡ one_told b n.told_rounds x → n.told_rounds.items ≡ x.rounds.items → still x ≡ onto (out_of (told_last n) i ∷ []) (still n)
item_comes x n b i said t c some within tight same rounds =
    let q = is_quiet_there x said in
    let d = b.deed in
    let told = told_now x in
    let there : item_before d x.taken ≡ Some i = ap (λ (o : Option Burst). line_item o x.taken) (sym c) ∙ some in
    let here = some_before d x.taken i there in
    let next : place_after x.taken ≡ x.taken + 1 = omega arith in
    let y : Expansion = one_told b n.told_rounds x in
    let last : told_last n ≡ told =
    ap told_last same
    ∙ ap (λ (o : Option TogetherNow). record { line = x.line; rounds = n.told_rounds.items; words = words_shown o None (joined x.words.items 0 true) }) t
    ∙ ap (λ (rs : List ℕ). record { line = x.line; rounds = rs; words = joined x.words.items 0 true }) rounds in
    let after : still n ≡ followed (if_whole b.until (list_from told d (x.taken + 1) (entry_left x.scene d x.taken))) (λ s. rest_of x s) =
    still_ahead n (ap is_quiet same ∙ q) ∙ ap ahead same ∙ from_items y b t c
    ∙ ap (λ (k : ℕ). followed (if_whole b.until (list_from told d k (entry_left x.scene d x.taken))) (λ s. rest_of x s)) next in
    let whole = no_until x b t c said in
    still_ahead x q
    ∙ from_items x b t c
    ∙ ap (λ (u : Option Condition). followed (if_whole u (list_from told d x.taken x.scene)) (λ s. rest_of x s)) whole
    ∙ ap (λ (r : Ran). followed r (λ s. rest_of x s)) (list_more told d x.taken x.scene here.0 (not_true x.scene.loose tight))
    ∙ then_onto (out_of told (item_at d x.taken) ∷ []) (list_from told d (x.taken + 1) (entry_left x.scene d x.taken)) (λ s. rest_of x s)
    ∙ ap (λ (u : Option Condition). onto (out_of told (item_at d x.taken) ∷ []) (followed (if_whole u (list_from told d (x.taken + 1) (entry_left x.scene d x.taken))) (λ s. rest_of x s))) (sym whole)
    ∙ ap (λ (r : Ran). onto (out_of told (item_at d x.taken) ∷ []) r) (sym after)
    ∙ ap (λ (j : Item). onto (out_of told j ∷ []) (still n)) (sym here.1)
    ∙ ap (λ (u : Told). onto (out_of u i ∷ []) (still n)) (sym last)
  where
    not_true : (b : Bool) → not b ≡ true → b ≡ false
    not_true true e = absurd (let p : false ≡ true = e in cc)
    not_true false e = refl

-- the list is left out from here on
pub item_left : (x n : Expansion) (b : Burst) (i : Item) → is_said (still x) ≡ true → x.together ≡ None → x.current ≡ Some b → line_item x.current x.taken ≡ Some i → x.taken + 1 ≤ 2 ^ 32 - 1 → not x.scene.loose ≡ false → n ≡ none_told b x → still n ≡ still x
item_left x n b i said t c some within loose same =
    let q = is_quiet_there x said in
    let d = b.deed in
    let told = told_now x in
    let there : item_before d x.taken ≡ Some i = ap (λ (o : Option Burst). line_item o x.taken) (sym c) ∙ some in
    let here = some_before d x.taken i there in
    let next : place_after x.taken ≡ x.taken + 1 = omega arith in
    let st = x.scene.tasks.standings in
    let whole = no_until x b t c said in
    let last : SceneNow = stands x.scene (after_rest d (place_after x.taken) (after_entry d x.taken st)) in
    still_ahead n (ap is_quiet same ∙ q)
    ∙ ap ahead same
    ∙ from_items (none_told b x) b t c
    ∙ ap (λ (u : Option Condition). followed (if_whole u (list_from told d (item_count d) last)) (λ s. rest_of x s)) whole
    ∙ ap (λ (r : Ran). followed r (λ s. rest_of x s)) (list_over told d (item_count d) last (omega arith))
    ∙ ap (λ (k : ℕ). followed (done (stands x.scene (after_rest d k (after_entry d x.taken st)))) (λ s. rest_of x s)) next
    ∙ ap (λ (ss : List StandingNow). followed (done (stands x.scene ss)) (λ s. rest_of x s)) (rest_after d x.taken st here.0)
    ∙ ap (λ (l : Bool). followed (with_ending (if l then [] else items_from told d x.taken (item_count d - x.taken)) (stands x.scene (after_rest d x.taken st))) (λ s. rest_of x s)) (sym (not_false x.scene.loose loose))
    ∙ ap (λ (u : Option Condition). followed (if_whole u (list_from told d x.taken x.scene)) (λ s. rest_of x s)) (sym whole)
    ∙ sym (from_items x b t c)
    ∙ sym (still_ahead x q)
  where
    not_false : (b : Bool) → not b ≡ false → b ≡ true
    not_false true e = refl
    not_false false e = absurd (let p : true ≡ false = e in cc)

-- ---- the next list

-- with `until` nothing is said of it
pub next_whole : (x : Expansion) (b : Burst) (bs : List Burst) → is_said (still x) ≡ true → x.together ≡ None → x.current ≡ None → x.queue.items ≡ b ∷ bs → b.until ≡ None
next_whole x b bs said t c w = by b.until refl
  where
    by : (o : Option Condition) → b.until ≡ o → b.until ≡ None
    by None e = e
    by (Some u) e =
        absurd (unsaid_never (still x) (still_ahead x (is_quiet_there x said) ∙ from_lists x t c
        ∙ ap (λ (qs : List Burst). followed (lists_whole (told_now x) qs x.scene) (λ s. lines_left x s)) w
        ∙ ap (λ (v : Option Condition). followed (followed (if_whole v (list_from (told_now x) b.deed 0 x.scene)) (λ s. lists_whole (told_now x) bs s)) (λ s. lines_left x s)) e) said)

pub list_begins : (x n : Expansion) (b : Burst) (bs : List Burst) → is_said (still x) ≡ true → x.together ≡ None → x.current ≡ None → x.queue.items ≡ b ∷ bs
    → (b.until ≡ None → (n.queue.items ≡ bs) × (n ≡ record x { queue = n.queue; current = Some b; taken = 0 })) → still n ≡ still x
list_begins x n b bs said t c w begins =
    let q = is_quiet_there x said in
    let told = told_now x in
    let h = begins (next_whole x b bs said t c w) in
    let same : n ≡ record x { queue = n.queue; current = Some b; taken = 0 } = h.1 in
    still_ahead n (ap is_quiet same ∙ q)
    ∙ ap ahead same
    ∙ from_items (record x { queue = n.queue; current = Some b; taken = 0 }) b t refl
    ∙ ap (λ (qs : List Burst). followed (if_whole b.until (list_from told b.deed 0 x.scene)) (λ s. followed (lists_whole told qs s) (λ u. lines_left x u))) h.0
    ∙ sym (then_then (if_whole b.until (list_from told b.deed 0 x.scene)) (λ s. lists_whole told bs s) (λ u. lines_left x u))
    ∙ ap (λ (qs : List Burst). followed (lists_whole told qs x.scene) (λ u. lines_left x u)) (sym w)
    ∙ sym (from_lists x t c)
    ∙ sym (still_ahead x q)

pub no_list : (bs : List Burst) (n : ℕ) → n ≡ length bs → (n == 0) ≡ true → bs ≡ []
no_list bs n same e = nil_from_length bs (let k : n ≡ 0 = grind (arith, nat_tests) in omega arith)

pub first_list : (bs : List Burst) (n : ℕ) → n ≡ length bs → (n == 0) ≡ false → (b : Burst) × (more : List Burst) × (bs ≡ b ∷ more)
first_list [] n same e = absurd (let k : n ≢ 0 = grind (arith, nat_tests) in omega arith)
first_list (b ∷ bs) n same e = (b, bs, refl)

-- ---- turns

no_turns_by : (many : ℕ) (ms : List MemberNow) → next_of ms ≡ None → turns_by many ms ≡ []
no_turns_by zero ms e = refl
no_turns_by (suc many) ms e = ap (λ (o : Option ℕ). turns_from o ms (λ m. turns_by many (taken_of ms m))) e

no_turns : (ms : List MemberNow) (s : SceneNow) → next_of ms ≡ None → merged (ms, s) ≡ done s
no_turns ms s e = ap (λ (outs : List Out). with_ending (unless_loose s outs) s) (no_turns_by (left_of ms) ms e) ∙ ap (λ (outs : List Out). with_ending outs s) (nothing_loose s.loose)

from_some : (x : Expansion) (t : TogetherNow) → x.together ≡ Some t → ahead x ≡ followed (merged (t.members, x.scene)) (λ s. line_rest x s)
from_some x t e = from_turns x ∙ ap (λ (o : Option TogetherNow). followed (turns_left o x.scene) (λ s. line_rest x s)) e

pub turns_end : (x n : Expansion) (t : TogetherNow) → is_said (still x) ≡ true → x.together ≡ Some t → next_of t.members ≡ None → n ≡ record x { together = None } → still n ≡ still x
turns_end x n t said e none same =
    let q = is_quiet_there x said in
    still_ahead n (ap is_quiet same ∙ q)
    ∙ ap ahead same
    ∙ from_turns (record x { together = None })
    ∙ ap (λ (r : Ran). followed r (λ s. line_rest x s)) (sym (no_turns t.members x.scene none))
    ∙ sym (from_some x t e)
    ∙ sym (still_ahead x q)

left_there : (ms : List MemberNow) (m : ℕ) → next_of ms ≡ Some m → has_left ms m ≡ true
left_there ms m e = first_left ms m (subst (λ (o : Option ℕ). IsNext (cursors_of ms) o) e (next_is (cursors_of ms)))

one_of_turns : (ms : List MemberNow) (m place : ℕ) (p : PlacedNow) → next_of ms ≡ Some m → next_entry (member_or (slice_get ms m)) ≡ Some (p, place)
    → turns ms ≡ out_of (told_by p) (item_at p.deed place) ∷ turns (taken_of ms m)
one_of_turns ms m place p e entry =
    ap (λ (k : ℕ). turns_by k ms) (less_left ms m (left_there ms m e))
    ∙ ap (λ (o : Option ℕ). turns_from o ms (λ j. turns_by (left_of (taken_of ms m)) (taken_of ms j))) e
    ∙ ap (λ (o : Option (PlacedNow × ℕ)). turn_out o ++ turns (taken_of ms m)) entry

lists_stay : (ms : List MemberNow) (m j k : ℕ) → option_and_then (λ (x : MemberNow). slice_get x.lists k) (slice_get (taken_of ms m) j) ≡ option_and_then (λ (x : MemberNow). slice_get x.lists k) (slice_get ms j)
lists_stay [] m j k = refl
lists_stay (x ∷ xs) zero zero k = refl
lists_stay (x ∷ xs) zero (suc j) k = refl
lists_stay (x ∷ xs) (suc m) zero k = refl
lists_stay (x ∷ xs) (suc m) (suc j) k = lists_stay xs m j k

-- what a turn leaves, whatever it tells
abbrev turned : Expansion → TogetherNow → ℕ → Option Turn → ℕ → Vec ℕ Global → Expansion
turned x t m turn line rounds = record x { together = one_turn t m; told_turn = turn; told_line = line; told_rounds = rounds }

after_turn : (x n : Expansion) (t : TogetherNow) (m : ℕ) → is_quiet x ≡ true → next_of t.members ≡ Some m → n ≡ turned x t m n.told_turn n.told_line n.told_rounds
    → still n ≡ followed (merged (taken_of t.members m, x.scene)) (λ s. line_rest x s)
after_turn x n t m q e same =
    still_ahead n (ap is_quiet same ∙ q)
    ∙ ap ahead same
    ∙ from_turns (turned x t m n.told_turn n.told_line n.told_rounds)
    ∙ ap (λ (ms : List MemberNow). followed (merged (ms, x.scene)) (λ s. line_rest x s)) (sym (is_left t.members m (left_there t.members m e)))

pub turn_comes : (x n : Expansion) (t : TogetherNow) (p : PlacedNow) (turn : Turn) (i : Item) → is_said (still x) ≡ true → x.together ≡ Some t → next_of t.members ≡ Some turn.member → list_of t.members turn ≡ Some p
    → next_entry (member_or (slice_get t.members turn.member)) ≡ Some (p, turn.place) → i ≡ item_at p.deed turn.place → not x.scene.loose ≡ true
    → n ≡ turned x t turn.member n.told_turn n.told_line n.told_rounds → n.told_turn ≡ Some turn → n.told_line ≡ p.line → n.told_rounds.items ≡ p.rounds
    → still x ≡ onto (out_of (told_last n) i ∷ []) (still n)
turn_comes x n t p turn i said e next list entry item tight same a b c =
    let q = is_quiet_there x said in
    let ms = t.members in
    let m = turn.member in
    let words = joined x.words.items 0 true in
    let last : told_last n ≡ told_by p =
    ap told_last same
    ∙ ap (λ (o : Option Turn). record { line = n.told_line; rounds = n.told_rounds.items; words = words_shown (one_turn t m) o words }) a
    ∙ ap (λ (k : ℕ). record { line = k; rounds = n.told_rounds.items; words = words_shown (one_turn t m) (Some turn) words }) b
    ∙ ap (λ (rs : List ℕ). record { line = p.line; rounds = rs; words = words_shown (one_turn t m) (Some turn) words }) c
    ∙ ap (λ (xs : List MemberNow). record { line = p.line; rounds = p.rounds; words = words_or words (list_of xs turn) }) (sym (is_left ms m (left_there ms m next)))
    ∙ ap (λ (o : Option PlacedNow). record { line = p.line; rounds = p.rounds; words = words_or words o }) (lists_stay ms m turn.member turn.at ∙ list) in
    let o = out_of (told_by p) (item_at p.deed turn.place) in
    still_ahead x q
    ∙ from_some x t e
    ∙ ap (λ (l : Bool). followed (with_ending (if l then [] else turns ms) x.scene) (λ s. line_rest x s)) (tight_is x.scene.loose tight)
    ∙ ap (λ (outs : List Out). followed (with_ending outs x.scene) (λ s. line_rest x s)) (one_of_turns ms m turn.place p next entry)
    ∙ ap (λ (l : Bool). followed (with_ending (o ∷ [] ++ (if l then [] else turns (taken_of ms m))) x.scene) (λ s. line_rest x s)) (sym (tight_is x.scene.loose tight))
    ∙ then_onto (o ∷ []) (merged (taken_of ms m, x.scene)) (λ s. line_rest x s)
    ∙ ap (λ (r : Ran). onto (o ∷ []) r) (sym (after_turn x n t m q next same))
    ∙ ap (λ (j : Item). onto (out_of (told_by p) j ∷ []) (still n)) (sym item)
    ∙ ap (λ (u : Told). onto (out_of u i ∷ []) (still n)) (sym last)
  where
    tight_is : (b : Bool) → not b ≡ true → b ≡ false
    tight_is true f = absurd (let g : false ≡ true = f in cc)
    tight_is false f = refl

pub turn_left : (x n : Expansion) (t : TogetherNow) (m : ℕ) → is_said (still x) ≡ true → x.together ≡ Some t → next_of t.members ≡ Some m → not x.scene.loose ≡ false → n ≡ turned x t m n.told_turn n.told_line n.told_rounds → still n ≡ still x
turn_left x n t m said e next loose same =
    let q = is_quiet_there x said in
    after_turn x n t m q next same
    ∙ ap (λ (l : Bool). followed (with_ending (if l then [] else turns (taken_of t.members m)) x.scene) (λ s. line_rest x s)) (loose_is x.scene.loose loose)
    ∙ ap (λ (l : Bool). followed (with_ending (if l then [] else turns t.members) x.scene) (λ s. line_rest x s)) (sym (loose_is x.scene.loose loose))
    ∙ sym (from_some x t e)
    ∙ sym (still_ahead x q)
  where
    loose_is : (b : Bool) → not b ≡ false → b ≡ true
    loose_is true f = refl
    loose_is false f = absurd (let g : true ≡ false = f in cc)

-- ---- the beginning

all_lines : (ls : List TextLine) (begin : ℕ) → slice_range ls begin (length ls) ≡ drop begin ls
all_lines ls begin = take_all (length ls - begin) (drop begin ls) (simp length-drop (omega arith))

whole_walk : (ls : List TextLine) (begin scope : ℕ) (s : SceneNow) → to_end ls (once block.All begin (length ls) scope ∷ []) [] None s ≡ walked (blocks_of (drop begin ls)) [] false s
unfolding to_end
whole_walk ls begin scope s = then_end (walked (between ls begin (length ls)) [] false s) ∙ ap (λ (xs : List TextLine). walked (blocks_of xs) [] false s) (all_lines ls begin)

pub begins : (x : Expansion) (ls : List TextLine) (settings : List NamedText) (begin scope : ℕ) → is_quiet x ≡ true → IsIdle x → x.gathered ≡ None → x.lines.now ≡ ls → x.rounds.items ≡ [] → x.frames.items ≡ once block.All begin (length ls) scope ∷ []
    → header_read (at_first settings) ls ≡ Ok (begin, x.scene) → still x ≡ expanded ls settings
begins x ls settings begin scope q i g lines rounds frames header =
    idle_still x i q
    ∙ ap (λ (o : Option TogetherNow). to_end x.lines.now (reverse x.frames.items) x.rounds.items (members_of o) x.scene) g
    ∙ ap (λ (xs : List TextLine). to_end xs (reverse x.frames.items) x.rounds.items None x.scene) lines
    ∙ ap (λ (rs : List ℕ). to_end ls (reverse x.frames.items) rs None x.scene) rounds
    ∙ ap (λ (fs : List FrameNow). to_end ls (reverse fs) [] None x.scene) frames
    ∙ whole_walk ls begin scope x.scene
    ∙ ap (λ (r : Result (ℕ × SceneNow) Fault). tried r (λ p. walked (blocks_of (drop p.0 ls)) [] false p.1)) (sym header)

pub fails : (ls : List TextLine) (settings : List NamedText) (f : Fault) → header_read (at_first settings) ls ≡ Err f → expanded ls settings ≡ failed f
fails ls settings f header = ap (λ (r : Result (ℕ × SceneNow) Fault). tried r (λ p. walked (blocks_of (drop p.0 ls)) [] false p.1)) header

-- ---- several steps

-- the work on lines failed
pub work_fails : (now was later after : Ran) (told : Told) (e : ExpandError) → now ≡ was → Works was (Err e) later → Steps now (Err e) told after
work_fails now was later after told error.Memory same fails = tt
work_fails now was later after told (error.Faulty f) same fails = same ∙ fails

-- a step failed
pub step_fails : (start now later : Ran) (told : Told) (e : ExpandError) → now ≡ start → Steps now (Err e) told later → Comes start (Err e) told later
step_fails start now later told error.Memory same fails = tt
step_fails start now later told (error.Faulty f) same fails = sym same ∙ fails

-- a call failed that only fails for memory
pub only_memory : (T U : Type 0) (shown : T → U) (u : U) (now later : Ran) (told : Told) (e : ExpandError) → Gives {T = T} shown (Err e) (Ok u) → Steps now (Err e) told later
only_memory T U shown u now later told error.Memory g = tt
only_memory T U shown u now later told (error.Faulty f) g = absurd (value_is_none f u g)

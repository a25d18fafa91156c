-- A trial of the setup, line by line.
use Rattle.std.proofs.Common.{◌≡◌, ℕ, zero, suc, ◌+◌, ◌-◌, ◌<◌, ◌≤◌, Bool, true, false, cond, List, [], ◌∷◌, ◌++◌, length, take, get_or, map, Option, Some, None, refl, sym, ap, ◌∙◌, subst, append-nil, append_assoc, arith}
use Rattle.std.specs.Prelude.{◌||◌, slice_get, Result, Ok, Err, OnOk, if◌then◌else◌}
use Rattle.std.specs.Option.{option_map, option_or}
use Rattle.std.specs.List.{find, flat_map, list_any}
use Rattle.std.proofs.lemmas.List.{take-map}
use Rattle.std.proofs.lemmas.List.Folds.{list_any-append, find-append}
use Rattle.std.proofs.lemmas.Option.{slice_get_within, slice_get_read}
use Rattle.machine.proofs.Values.{some_inj}
use Rattle.machine.specs.declared.command.Step.{Step}
use Rattle.machine.specs.declared.command.Reply.{Reply as Told_by}
use Rattle.driver.specs.Schedule.{World, Runs}
use Rattle.driver.proofs.SinkLemmas.{Runs-then}
use Rattle.scripts.specs.declared.meaning.Item.{Item}
use Rattle.scripts.specs.Script.{steps_of, steps_of_item}
use Rattle.scripts.specs.Work.{is_go, before_go}
use Rattle.explorer.specs.Carried.{Carries}
use Rattle.machine.specs.declared.config.Placement.{Placement}
use Rattle.division.specs.declared.said.Said.{Said}
use Rattle.division.specs.Said.{said_of_item}
use Rattle.division.specs.Sorting.{steps_asked}
use Rattle.division.specs.Reasons.{refuses, refusal_text, world_for, SetsUp, RefusesAt}
use Rattle.division.specs.Trial.{Accepts, IsAccepted, RefusesLine}
use Rattle.division.proofs.DivisionLemmas.{steps, steps-said}
use Rattle.division.proofs.RowLemmas.{Mapped, mapped, take_next}

-- ---- what was found among the answers

record FoundBy (o : Option Told_by) (said : List ℕ) : Type 0 where
  told : Told_by
  is : o ≡ Some told
  said_is : said ≡ refusal_text told

found_by : (o : Option Told_by) (said : List ℕ) → Some said ≡ option_map refusal_text o → FoundBy o said
found_by None said e = absurd cc
found_by (Some told) said e = record { told = told; is = refl; said_is = cc }

none_by : (o : Option Told_by) → None ≡ option_map refusal_text o → o ≡ None
none_by None e = refl
none_by (Some told) e = absurd cc

quiet_if : (b : Bool) (told : Told_by) (more : List Told_by) → cond b (Some told) (find refuses more) ≡ None → (find refuses more ≡ None → list_any refuses more ≡ false) → (b || list_any refuses more) ≡ false
quiet_if true told more e ih = absurd cc
quiet_if false told more e ih = ih e

quiet : (answers : List Told_by) → find refuses answers ≡ None → list_any refuses answers ≡ false
quiet [] e = refl
quiet (told ∷ more) e = quiet_if (refuses told) told more e (quiet more)

if_none : (b : Bool) (told : Told_by) (rest : Option Told_by) → cond b (Some told) rest ≡ None → (b ≡ false) × (rest ≡ None)
if_none true told rest e = absurd cc
if_none false told rest e = (refl, e)

pub there : {X : Type 0} (xs : List X) (k : ℕ) (x : X) → k < length xs → x ≡ get_or xs k x → slice_get xs k ≡ Some x
there xs k x lt e = slice_get_read xs (length xs) k x refl lt e

-- none of the first answers is a refusal, but the next one is
pub found_at : (answers : List Told_by) (k : ℕ) (told : Told_by) → slice_get answers k ≡ Some told → find refuses (take k answers) ≡ None → refuses told ≡ true → find refuses answers ≡ Some told
found_at [] k told e n r = absurd cc
found_at (first ∷ more) zero told e n r = ap (λ (b : Bool). cond b (Some first) (find refuses more)) (ap refuses (some_inj e) ∙ r) ∙ e
found_at (first ∷ more) (suc k) told e n r =
    let h = if_none (refuses first) first (find refuses (take k more)) n in
    ap (λ (b : Bool). cond b (Some first) (find refuses more)) h.0 ∙ found_at more k told e h.1 r

-- nor is the next one
pub find_next : (answers : List Told_by) (k : ℕ) (told : Told_by) → k < length answers → told ≡ get_or answers k told → find refuses (take k answers) ≡ None → refuses told ≡ false → find refuses (take (k + 1) answers) ≡ None
find_next answers k told lt e n r =
    ap (find refuses) (take_next answers k told lt e) ∙ find-append refuses (take k answers) (told ∷ []) ∙ ap (λ (o : Option Told_by). option_or o (find refuses (told ∷ []))) n
    ∙ ap (λ (b : Bool). cond b (Some told) None) r

-- ---- line by line

asked_more : (lines : List Said) (line : Said) → flat_map steps_asked (lines ++ line ∷ []) ≡ flat_map steps_asked lines ++ steps_asked line
asked_more [] line = append-nil (steps_asked line)
asked_more (first ∷ lines) line = ap (λ (s : List Step). steps_asked first ++ s) (asked_more lines line) ∙ sym (append_assoc (steps_asked first) (flat_map steps_asked lines) (steps_asked line))

pub accepts-none : (world : World) → Accepts world [] world
accepts-none world = record { answers = []; runs = (refl, refl); accepted = refl }

pub accepts-more : (old mid new : World) (lines all : List Said) (line : Said) (before after : List Told_by) → all ≡ lines ++ line ∷ [] → Accepts old lines mid → before ≡ [] → Carries mid (steps_asked line) before after new
    → None ≡ option_map refusal_text (find refuses after) → Accepts old all new
accepts-more old mid new lines all line before after e h empty carries none =
    let C : List Told_by → Type 0 = λ (l : List Told_by). Carries mid (steps_asked line) l after new in
    let P : List Said → Type 0 = λ (l : List Said). Accepts old l new in
    let g : Carries mid (steps_asked line) [] after new = subst C empty carries in
    let R : List Step → Type 0 = λ (s : List Step). Runs old s (h.answers ++ g.answers) new in
    let here : list_any refuses g.answers ≡ false = ap (list_any refuses) (sym g.adds) ∙ quiet after (none_by (find refuses after) none) in
    subst P (sym e) (record {
      answers = h.answers ++ g.answers;
      runs = subst R (sym (asked_more lines line)) (Runs-then old (flat_map steps_asked lines) h.answers mid (steps_asked line) g.answers new h.runs g.runs);
      accepted = list_any-append refuses h.answers g.answers ∙ ap (λ (b : Bool). b || list_any refuses g.answers) h.accepted ∙ here;
    })

pub refuses-line : (old mid new : World) (lines : List Said) (place : ℕ) (line : Said) (before after : List Told_by) (number : ℕ) (said : List ℕ) → number ≡ place + 1 → slice_get lines place ≡ Some line → Accepts old (take place lines) mid
    → before ≡ [] → Carries mid (steps_asked line) before after new → Some said ≡ option_map refusal_text (find refuses after) → RefusesLine old lines number said
refuses-line old mid new lines place line before after number said n there h empty carries some =
    let C : List Told_by → Type 0 = λ (l : List Told_by). Carries mid (steps_asked line) l after new in
    let g : Carries mid (steps_asked line) [] after new = subst C empty carries in
    let P : ℕ → Type 0 = λ (k : ℕ). Accepts old (take k lines) mid in
    let at : place ≡ number - 1 = omega (arith, n) in
    let f : FoundBy (find refuses after) said = found_by (find refuses after) said some in
    record {
      line = line;
      before = mid;
      after = new;
      here = g.answers;
      told = f.told;
      counted = omega (arith, n);
      is_there = ap (slice_get lines) (sym at) ∙ there;
      accepts = subst P at h;
      carries = g.runs;
      refused = ap (find refuses) (sym g.adds) ∙ f.is;
      said_is = f.said_is;
    }

pub is-accepted : {T E : Type 0} (r : Result T E) (old other new : World) (lines all : List Said) → old ≡ other → lines ≡ all → OnOk r (Accepts old lines new) → OnOk r (IsAccepted other all)
is-accepted (Ok x) old other new lines all e f h =
    let W : World → Type 0 = λ (w : World). Accepts w all new in
    let L : List Said → Type 0 = λ (l : List Said). Accepts old l new in
    (new, subst W e (subst L f h))
is-accepted (Err error) old other new lines all e f h = tt

-- ---- the lines before the first `go` are the first of the script

take_if : (i : Item) (is : List Item) (k : ℕ) (b : Bool) → suc k ≤ length (if b then [] else i ∷ before_go is) → (k ≤ length (before_go is) → take k (before_go is) ≡ take k is) → take (suc k) (if b then [] else i ∷ before_go is) ≡ take (suc k) (i ∷ is)
take_if i is k true le ih = absurd (omega (arith, le))
take_if i is k false le ih = ap (λ (l : List Item). i ∷ l) (ih (omega (arith, le)))

take_before : (is : List Item) (k : ℕ) → k ≤ length (before_go is) → take k (before_go is) ≡ take k is
take_before [] k le = refl
take_before (i ∷ is) zero le = refl
take_before (i ∷ is) (suc k) le = take_if i is k (is_go i) le (take_before is k)

get_if : (i : Item) (is : List Item) (k : ℕ) (x : Item) (b : Bool) → slice_get (if b then [] else i ∷ before_go is) k ≡ Some x → ((j : ℕ) → slice_get (before_go is) j ≡ Some x → slice_get is j ≡ Some x) → slice_get (i ∷ is) k ≡ Some x
get_if i is k x true e ih = absurd cc
get_if i is zero x false e ih = e
get_if i is (suc k) x false e ih = ih k e

get_before : (is : List Item) (k : ℕ) (x : Item) → slice_get (before_go is) k ≡ Some x → slice_get is k ≡ Some x
get_before [] k x e = e
get_before (i ∷ is) k x e = get_if i is k x (is_go i) e (λ j f. get_before is j x f)

-- ---- by what the lines say

pub accepts-all : (placement : Placement) (is : List Item) (lines : List Said) → lines ≡ map said_of_item (before_go is) → IsAccepted (world_for placement is) lines → SetsUp placement is
accepts-all placement is lines e (new, h) =
    let R : List Step → Type 0 = λ (s : List Step). Runs (world_for placement is) s h.answers new in
    record { answers = h.answers; after = new; runs = subst R (ap (λ (l : List Said). flat_map steps_asked l) e ∙ steps (before_go is)) h.runs; accepted = h.accepted }

pub refuses-at : (placement : Placement) (is : List Item) (lines : List Said) (number : ℕ) (said : List ℕ) → lines ≡ map said_of_item (before_go is) → RefusesLine (world_for placement is) lines number said → RefusesAt placement is number said
refuses-at placement is lines number said e h =
    let m : Mapped said_of_item (before_go is) (number - 1) h.line = mapped said_of_item (before_go is) (number - 1) h.line (ap (λ (l : List Said). slice_get l (number - 1)) (sym e) ∙ h.is_there) in
    let lt : number - 1 < length (before_go is) = slice_get_within (before_go is) (number - 1) m.x m.there in
    let counted : 0 < number = h.counted in
    let here : steps_asked h.line ≡ steps_of_item m.x = ap steps_asked (sym m.is) ∙ steps-said m.x in
    let before : flat_map steps_asked (take (number - 1) lines) ≡ steps_of (take (number - 1) is) =
    ap (λ (l : List Said). flat_map steps_asked (take (number - 1) l)) e ∙ ap (flat_map steps_asked) (take-map said_of_item (number - 1) (before_go is)) ∙ steps (take (number - 1) (before_go is))
    ∙ ap steps_of (take_before is (number - 1) (omega (arith, lt))) in
    let B : List Step → Type 0 = λ (s : List Step). Runs (world_for placement is) s h.accepts.answers h.before in
    let H : List Step → Type 0 = λ (s : List Step). Runs h.before s h.here h.after in
    record {
      item = m.x;
      before = h.before;
      after = h.after;
      earlier = h.accepts.answers;
      here = h.here;
      told = h.told;
      within = (counted, omega (arith, lt, counted));
      line = get_before is (number - 1) m.x m.there;
      sets_up = subst B before h.accepts.runs;
      accepted = h.accepts.accepted;
      carries = subst H here h.carries;
      refused = h.refused;
      said_is = h.said_is;
    }

-- What steps add to the list of answers.
use Rattle.std.proofs.Common.{◌≡◌, ℕ, suc, ◌+◌, List, [], ◌∷◌, ◌++◌, Option, Some, None, refl, sym, ap, ◌∙◌, subst, append_assoc, append-nil, ◌<◌, length, get_or, take, arith}
use Rattle.std.proofs.Math.Seq.{take-suc}
use Rattle.std.proofs.lemmas.Grind.{get_or_default_zero}
use Rattle.std.proofs.lemmas.Option.{slice_get_read}
use Rattle.std.specs.Prelude.{slice_get, slice_index, slice_set, Result, Ok, Err, OnOk}
use Rattle.machine.specs.declared.command.Step.{Step}
use Rattle.machine.specs.declared.command.Step.TheVariants.{Advance}
use Rattle.machine.specs.declared.command.Reply.{Reply as Told_by}
use Rattle.driver.specs.Schedule.{World}
use Rattle.driver.proofs.SinkLemmas.{Runs-then}
use Rattle.explorer.specs.declared.parts.Row.{Row}
use Rattle.explorer.specs.Work.{BeginsAt, next_of}
use Rattle.explorer.specs.Carried.{Carries, GoesAll, Goes, Turns, at}

pub carries-none : (world : World) (said : List Told_by) → Carries world [] said said world
carries-none world said = record { answers = []; runs = (refl, refl); adds = sym (append-nil said) }

further : (before during after x y : List Told_by) → during ≡ before ++ x → after ≡ during ++ y → after ≡ before ++ (x ++ y)
further before during after x y e f = f ∙ (ap (λ (l : List Told_by). l ++ y) e ∙ append_assoc before x y)

pub carries-more : (old mid new : World) (steps : List Step) (step : Step) (all : List Step) (before during after : List Told_by) → all ≡ steps ++ step ∷ [] → Carries old steps before during mid → Carries mid (step ∷ []) during after new → Carries old all before after new
carries-more old mid new steps step all before during after e h g =
    let P : List Step → Type 0 = λ (s : List Step). Carries old s before after new in
    subst P (sym e) (record {
      answers = h.answers ++ g.answers;
      runs = Runs-then old steps h.answers mid (step ∷ []) g.answers new h.runs g.runs;
      adds = further before during after h.answers g.answers h.adds g.adds;
    })

pub goes_all-none : (rows : List Row) (world : World) (begun : List ℕ) (said : List Told_by) → GoesAll rows 0 world begun said world begun said
goes_all-none rows world begun said = record { steps = []; answers = []; all = (refl, refl, refl); adds = sym (append-nil said) }

pub goes_all-more : (rows : List Row) (count : ℕ) (old mid new : World) (begun begun' begun'' : List ℕ) (before during after : List Told_by)
    → GoesAll rows count old begun before mid begun' during → Goes rows count mid begun' during new begun'' after → (all : ℕ) → all ≡ suc count → GoesAll rows all old begun before new begun'' after
goes_all-more rows count old mid new begun begun' begun'' before during after h g all e =
    let P : ℕ → Type 0 = λ (n : ℕ). GoesAll rows n old begun before new begun'' after in
    subst P (sym e) (record {
      steps = h.steps ++ g.steps;
      answers = h.answers ++ g.answers;
      all = (h.steps, g.steps, h.answers, g.answers, at mid begun', h.all, g.goes_on, refl, refl);
      adds = further before during after h.answers g.answers h.adds g.adds;
    })

pub goes-none : (rows : List Row) (place : ℕ) (world : World) (begun : List ℕ) (said : List Told_by) (row : Row) → slice_get rows place ≡ Some row → next_of row (slice_index begun place) world.seats ≡ None → Goes rows place world begun said world begun said
goes-none rows place world begun said row there e =
    let P : Option Step → Type 0 = λ (o : Option Step). BeginsAt o (at world begun) place [] [] (at world begun) in
    record {
      steps = [];
      answers = [];
      goes_on = record { row = row; is_there = there; begins = subst P (sym e) (refl, refl, refl) };
      adds = sym (append-nil said);
    }

pub goes-begin : (rows : List Row) (place : ℕ) (old new : World) (begun begun' : List ℕ) (before after : List Told_by) (row : Row) (step : Step) → slice_get rows place ≡ Some row → next_of row (slice_index begun place) old.seats ≡ Some step
    → Carries old (step ∷ []) before after new → begun' ≡ slice_set begun place (slice_index begun place + 1) → Goes rows place old begun before new begun' after
goes-begin rows place old new begun begun' before after row step there e h f =
    let P : Option Step → Type 0 = λ (o : Option Step). BeginsAt o (at old begun) place (step ∷ []) h.answers (at new begun') in
    record {
      steps = step ∷ [];
      answers = h.answers;
      goes_on = record { row = row; is_there = there; begins = subst P (sym e) (refl, h.runs, f) };
      adds = h.adds;
    }

pub turn-of : (rows : List Row) (place : ℕ) (old mid new : World) (begun begun' : List ℕ) (before during after : List Told_by) (row : Row) → slice_get rows place ≡ Some row
    → Carries old (Advance row.actor ∷ []) before during mid → Goes rows place mid begun during new begun' after → Turns rows place old begun before new begun' after
turn-of rows place old mid new begun begun' before during after row there h g = record {
  steps = Advance row.actor ∷ g.steps;
  answers = h.answers ++ g.answers;
  takes = record { row = row; is_there = there; mid = mid; said = h.answers; later = g.answers; begins = g.steps; advances = h.runs; goes_on = g.goes_on; steps_are = refl; answers_are = refl };
  adds = further before during after h.answers g.answers h.adds g.adds;
}

-- what holds of a call that went through, and what follows from it
pub on_ok : {T E P Q : Type 0} (r : Result T E) → (P → Q) → OnOk r P → OnOk r Q
on_ok (Ok x) f p = f p
on_ok (Err e) f p = tt

-- ---- what a look at a list gives

pub there-is : {X : Type 0} (xs : List X) (k : ℕ) (x : X) → k < length xs → x ≡ get_or xs k x → slice_get xs k ≡ Some x
there-is xs k x lt e = slice_get_read xs (length xs) k x refl lt e

pub take-next : {X : Type 0} (xs : List X) (k : ℕ) (x : X) → k < length xs → x ≡ get_or xs k x → take (k + 1) xs ≡ take k xs ++ x ∷ []
take-next {X} xs k x lt e =
    let one : k + 1 ≡ suc k = omega arith in
    ap (λ (n : ℕ). take n xs) one ∙ (take-suc xs k x lt ∙ ap (λ (y : X). take k xs ++ y ∷ []) (sym e))

pub number-there : (xs : List ℕ) (k x : ℕ) → k < length xs → x ≡ get_or xs k x → x ≡ slice_index xs k
number-there xs k x lt e = e ∙ get_or_default_zero xs k x lt

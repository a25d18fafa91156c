-- A task's name that is read to its end.
use Rattle.std.proofs.Common.{◌≡◌, ℕ, Bool, true, false, eqb, List, [], ◌∷◌, Option, Some, None, Err, refl, sym, ap, ◌∙◌}
use Rattle.std.proofs.lemmas.Bool.{eqb-true}
use Rattle.scenario_words.specs.declared.fault.Cause.TheVariants as cause
use Rattle.scenario_words.specs.declared.fault.ExpandError.{ExpandError}
use Rattle.scenario_words.specs.declared.fault.ExpandError.TheVariants as error
use Rattle.scenario_words.specs.BracketReading.{Reading, read_on, Adds, Reads}
use Rattle.scenario_words.specs.Faults.{Gives}
use Rattle.scenario_words.specs.TaskNames.{names_text, names_by, name_parts, number_behind_point, task_names_in}
use Rattle.scenario_words.specs.Words.{FilledWord, word_fault}

-- the rest after a character that was added
pub goes_on : (old new : Reading) (c : ℕ) (before after : List ℕ) (whole : Option (List ℕ × Option (List ℕ))) (fits : Bool) → before ≡ c ∷ after → Adds old c new fits → fits ≡ true
    → read_on old before ≡ whole → read_on new after ≡ whole
goes_on old new c before after whole true cut added e held = sym (added after) ∙ sym (ap (read_on old) cut) ∙ held
goes_on old new c before after whole false cut added e held = absurd cc

-- no word has a character that is not allowed
pub stops : (old new : Reading) (c : ℕ) (before after : List ℕ) (whole : Option (List ℕ × Option (List ℕ))) (fits : Bool) → before ≡ c ∷ after → Adds old c new fits → fits ≡ false
    → read_on old before ≡ whole → whole ≡ None
stops old new c before after whole true cut added e held = absurd cc
stops old new c before after whole false cut added e held = sym held ∙ ap (read_on old) cut ∙ added after

pub ends : (r : Reading) (left : List ℕ) (whole : Option (List ℕ × Option (List ℕ))) → left ≡ [] → read_on r left ≡ whole → read_on r [] ≡ whole
ends r left whole e held = sym (ap (read_on r) e) ∙ held

-- a word whose brackets are faulty names no tasks
pub unread : (w : FilledWord) (e : ExpandError) → Reads w (Err e) → Gives names_text (Err e) (task_names_in w)
unfolding task_names_in
unread w error.Memory h = tt
unread w (error.Faulty f) h = ap (names_by w) h.1 ∙ ap Err (sym h.0)

by_point : (b : ℕ) (bs : List ℕ) (t : Bool) → eqb b 46 ≡ t → ((rest : List ℕ) → b ∷ bs ≡ 46 ∷ rest → ⊥) → None ≡ number_behind_point (b ∷ bs)
by_point b bs true e h = absurd (h bs (ap (λ (x : ℕ). x ∷ bs) (eqb-true b 46 e)))
by_point b bs false e h = rw e refl

pub no_point : (text : List ℕ) → ((rest : List ℕ) → text ≡ 46 ∷ rest → ⊥) → None ≡ number_behind_point text
no_point [] h = refl
no_point (b ∷ bs) h = by_point b bs (eqb b 46) refl h

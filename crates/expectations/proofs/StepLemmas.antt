-- What a line more leaves to be met.
use Rattle.std.proofs.Common.{◌≡◌, ◌↔◌, ℕ, ◌+◌, ◌<◌, true, false, List, [], ◌∷◌, ◌++◌, drop, Option, None, Some, MatchOption, Bor, append_assoc, inl, inr, refl, sym, ap, subst, ◌∙◌}
use Rattle.std.proofs.lemmas.Bool.{ltb-true, lt-ltb, and_parts, and_from}
use Rattle.std.proofs.lemmas.List.{append_cancel_left}
use Rattle.machine.specs.Control.{line}
use Rattle.expectations.specs.declared.difference.Difference.{Difference}
use Rattle.expectations.specs.Expected.{is_expected, is_skipped, expected_in, expectations_from, fit, Expectation, IsFirstOf, IsNext, MeetsNext}
use Rattle.expectations.specs.Steps.{IsMet, Passes, Stops}

-- ---- what is expected, and where

text : (l : List ℕ) (ls : List (List ℕ)) → is_expected l ≡ true → expected_in (l ∷ ls) ≡ line (drop 3 l) ++ expected_in ls
text l ls h = rw h refl

no_text : (l : List ℕ) (ls : List (List ℕ)) → is_expected l ≡ false → expected_in (l ∷ ls) ≡ expected_in ls
no_text l ls h = rw h refl

-- what a line expects that expects a text
abbrev pub expects : (number after : ℕ) (l : List ℕ) → Expectation
expects number after l = record { text = drop 3 l; after = after; before = number }

place : (number after last : ℕ) (l : List ℕ) (ls : List (List ℕ)) → is_expected l ≡ true →
    expectations_from number after last (l ∷ ls) ≡ expects number after l ∷ expectations_from (number + 1) after number ls
place number after last l ls h = rw h refl

no_place : (number after last : ℕ) (l : List ℕ) (ls : List (List ℕ)) → is_expected l ≡ false → is_skipped l ≡ true →
    expectations_from number after last (l ∷ ls) ≡ expectations_from (number + 1) after last ls
no_place number after last l ls h s = rw (h, s) refl

next_places : (number after last : ℕ) (l : List ℕ) (ls : List (List ℕ)) → is_expected l ≡ false → is_skipped l ≡ false →
    expectations_from number after last (l ∷ ls) ≡ expectations_from (number + 1) last last ls
next_places number after last l ls h s = rw (h, s) refl

-- ---- a line that expects a text

tail_inj : (m n : ℕ) (ms ns : List ℕ) → m ∷ ms ≡ n ∷ ns → ms ≡ ns
tail_inj m n ms ns h = cc

-- a text and its line feed are a line
pub line_behind : (output text middle : List ℕ) (r : Option (Bor (List ℕ))) → output ≡ text ++ middle →
    MatchOption r ((rest : List ℕ) → middle ≡ (10 ∷ []) ++ rest → ⊥) (λ x. middle ≡ (10 ∷ []) ++ x.now) →
    MatchOption r ((rest : List ℕ) → output ≡ line text ++ rest → ⊥) (λ x. output ≡ line text ++ x.now)
line_behind output text middle None e none = λ rest is. none rest (append_cancel_left text middle ((10 ∷ []) ++ rest) (sym e ∙ is ∙ append_assoc text (10 ∷ []) rest))
line_behind output text middle (Some x) e is = e ∙ ap (λ bs. text ++ bs) is ∙ sym (append_assoc text (10 ∷ []) x.now)

-- the first number has the first place, and the others have theirs
record First (e : Expectation) (es : List Expectation) (ns : List ℕ) : Type 0 where
  number : ℕ
  others : List ℕ
  is : ns ≡ number ∷ others
  behind : e.after < number
  before : number < e.before
  fit : fit es others ≡ true

first : (e : Expectation) (es : List Expectation) (ns : List ℕ) → fit (e ∷ es) ns ≡ true → First e es ns
first e es [] h = absurd cc
first e es (n ∷ ns) h =
    let both = and_parts _ _ h in
    let order = and_parts _ _ both.0 in
    record { number = n; others = ns; is = refl; behind = ltb-true _ _ order.0; before = ltb-true _ _ order.1; fit = both.1 }

one_more : (e : Expectation) (n : ℕ) (es : List Expectation) (ns : List ℕ) → e.after < n → n < e.before → fit es ns ≡ true → fit (e ∷ es) (n ∷ ns) ≡ true
one_more e n es ns behind before h = and_from _ _ (and_from _ _ (lt-ltb _ _ behind) (lt-ltb _ _ before)) h

-- the text is answered next: what is left has to be met behind it
met : (number after last : ℕ) (l : List ℕ) (ls : List (List ℕ)) (output numbers output' numbers' : List ℕ) → is_expected l ≡ true →
    MeetsNext (expects number after l) output numbers output' numbers' →
    IsMet number after last (l ∷ ls) output numbers ↔ IsMet (number + 1) after number ls output' numbers'
met number after last l ls output numbers output' numbers' h next =
    let es : List Expectation = expectations_from (number + 1) after number ls in
    let e : Expectation = expects number after l in (
      (λ m.
          let same_bytes : line (drop 3 l) ++ output' ≡ line (drop 3 l) ++ expected_in ls = sym next.bytes ∙ m.bytes ∙ text l ls h in
          let f = first e es numbers (ap (λ es. fit es numbers) (sym (place number after last l ls h)) ∙ m.places) in
          let same : f.others ≡ numbers' = tail_inj _ _ _ _ (sym f.is ∙ next.next) in
          record { bytes = append_cancel_left (line (drop 3 l)) output' (expected_in ls) same_bytes; places = ap (λ ns. fit es ns) (sym same) ∙ f.fit }),
      (λ m. record {
        bytes = next.bytes ∙ ap (λ bs. line (drop 3 l) ++ bs) m.bytes ∙ sym (text l ls h);
        places = ap (λ es. fit es numbers) (place number after last l ls h) ∙ ap (λ ns. fit (e ∷ es) ns) next.next ∙ one_more e next.number es numbers' next.behind next.before m.places;
      }),
    )

pub passes : (number after last : ℕ) (l output numbers output' numbers' : List ℕ) → is_expected l ≡ true →
    MeetsNext (expects number after l) output numbers output' numbers' → Passes number after last l output numbers after number output' numbers'
passes number after last l output numbers output' numbers' h next = record {
  met = λ ls. met number after last l ls output numbers output' numbers' h next;
  told = λ ls told later. subst (λ es. IsFirstOf es output numbers told) (sym (place number after last l ls h)) (inl (output', numbers', next, later));
}

-- it is not: then the line is not met, whatever follows
pub stops : (number after last : ℕ) (l output numbers : List ℕ) (told : Difference) → is_expected l ≡ true →
    ((output' numbers' : List ℕ) → MeetsNext (expects number after l) output numbers output' numbers' → ⊥) →
    IsNext (expects number after l) output numbers told → Stops number after last l output numbers told
stops number after last l output numbers told h none next = record {
  unmet = λ ls m.
      let f = first (expects number after l) (expectations_from (number + 1) after number ls) numbers (ap (λ es. fit es numbers) (sym (place number after last l ls h)) ∙ m.places) in
      none (expected_in ls) f.others (record { bytes = m.bytes ∙ text l ls h; number = f.number; next = f.is; behind = f.behind; before = f.before });
  first = λ ls. subst (λ es. IsFirstOf es output numbers told) (sym (place number after last l ls h)) (inr next);
}

-- ---- another line

same_places : (number after last after' last' : ℕ) (l output numbers : List ℕ) → is_expected l ≡ false →
    ((ls : List (List ℕ)) → expectations_from number after last (l ∷ ls) ≡ expectations_from (number + 1) after' last' ls) →
    Passes number after last l output numbers after' last' output numbers
same_places number after last after' last' l output numbers h places = record {
  met = λ ls. (
    (λ m. record { bytes = m.bytes ∙ no_text l ls h; places = ap (λ es. fit es numbers) (sym (places ls)) ∙ m.places }),
    (λ m. record { bytes = m.bytes ∙ sym (no_text l ls h); places = ap (λ es. fit es numbers) (places ls) ∙ m.places }),
  );
  told = λ ls told later. subst (λ es. IsFirstOf es output numbers told) (sym (places ls)) later;
}

pub skipped : (number after last : ℕ) (l output numbers : List ℕ) → is_expected l ≡ false → is_skipped l ≡ true →
    Passes number after last l output numbers after last output numbers
skipped number after last l output numbers h s = same_places number after last after last l output numbers h (λ ls. no_place number after last l ls h s)

pub asked : (number after last : ℕ) (l output numbers : List ℕ) → is_expected l ≡ false → is_skipped l ≡ false →
    Passes number after last l output numbers last last output numbers
asked number after last l output numbers h s = same_places number after last last last l output numbers h (λ ls. next_places number after last l ls h s)

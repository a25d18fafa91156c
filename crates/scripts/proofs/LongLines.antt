-- A line of more words than are kept is a comment or has a fault, and the words that are kept tell which.
use Rattle.std.proofs.Common.{◌≡◌, ℕ, ◌≤◌, Bool, true, false, cond, List, [], ◌∷◌, ◌++◌, length, take, drop, Option, Some, None, Result, Ok, Err, refl, sym, ap, subst, ◌∙◌, arith, inl, inr, lit≤, take_all}
use Rattle.std.specs.Prelude.{nat_lt, ◌||◌, not}
use Rattle.std.specs.List.{zip, list_all}
use Rattle.std.proofs.lemmas.Bool.{cases_lt}
use Rattle.std.proofs.lemmas.Bool.Decides.{nat_tests}
use Rattle.std.proofs.lemmas.List.{length-append, length-take-le, take-append-drop}
use Rattle.machine.specs.declared.config.File.{File}
use Rattle.machine.specs.Numbers.{is_numeral}
use Rattle.scripts.specs.declared.fault.Cause.{Cause}
use Rattle.scripts.specs.declared.fault.Cause.TheVariants.{UnknownWord, ExtraArgument}
use Rattle.scripts.specs.declared.fault.LineError.{LineError}
use Rattle.scripts.specs.declared.fault.LineError.TheVariants as error
use Rattle.scripts.specs.declared.forms.Kind.{Kind}
use Rattle.scripts.specs.declared.forms.Manner.{Manner}
use Rattle.scripts.specs.declared.forms.Manner.TheVariants as manner
use Rattle.scripts.specs.declared.forms.Speaker.TheVariants as speaker
use Rattle.scripts.specs.declared.forms.Word.{Word}
use Rattle.scripts.specs.declared.forms.Word.TheVariants as word
use Rattle.scripts.specs.declared.meaning.Item.{Item}
use Rattle.scripts.specs.declared.mode.Mode.{Mode}
use Rattle.scripts.specs.Context.{Around}
use Rattle.scripts.specs.Forms.{form_of, word_named, takes_line, may_stand}
use Rattle.scripts.specs.Words.{is_comment}
use Rattle.scripts.specs.Faults.{word_fits, all_fit, first_of, word_faults, named_faults, task_faults, bare_faults, line_faults}
use Rattle.scripts.specs.Meaning.{meaning}
use Rattle.scripts.specs.Header.{word_of, is_skipped}
use Rattle.scripts.specs.Lines.{Reads}

abbrev Words : Type 0
Words = List (List ℕ)

few : (w : Word) → length (form_of w).arguments ≤ 4
few word.Frames = lit≤ tt
few _ = lit≤ tt

zip_enough : (kinds : List Kind) (args more : Words) → length kinds ≤ length args → zip kinds (args ++ more) ≡ zip kinds args
zip_enough [] args more h = refl
zip_enough (k ∷ kinds) [] more h = absurd (omega arith)
zip_enough (k ∷ kinds) (a ∷ args) more h = ap (λ (ps : List (Kind × List ℕ)). (k, a) ∷ ps) (zip_enough kinds args more (omega arith))

-- the same fault with and without what is not kept
abbrev IsTold : Option Cause → Option Cause → Type 0
IsTold kept whole = (whole ≡ kept) × (kept ≡ None → ⊥)

abbrev too_many : Bool → Option Cause
too_many unknown = cond unknown (Some UnknownWord) (Some ExtraArgument)

module _ (mode : Mode) (around : Around) where
  word_told : (how : Manner) (task : Option (List ℕ)) (w : Word) (args : Words) → 5 ≤ length args
      → first_of (word_faults mode around how task w args) ≡ too_many (not (may_stand how w) || not (all_fit word_fits (form_of w).arguments args))
  word_told how task w args h =
      let four = few w in
      let enough : nat_lt (length args) (length (form_of w).arguments) ≡ false = grind (arith, nat_tests) in
      let more : nat_lt (length (form_of w).arguments) (length args) ≡ true = grind (arith, nat_tests) in
      rw (enough, more) refl

  some_cause : (b : Bool) → too_many b ≡ None → ⊥
  some_cause true h = absurd cc
  some_cause false h = absurd cc

  named_told : (how : Manner) (task : Option (List ℕ)) (o : Option Word) (args more : Words) → 5 ≤ length args
      → IsTold (first_of (named_faults mode around how task o args)) (first_of (named_faults mode around how task o (args ++ more)))
  named_told how task None args more h = (refl, λ e. absurd cc)
  named_told how task (Some w) args more h =
      let four = few w in
      let kept = word_told how task w args h in
      let longer : 5 ≤ length (args ++ more) = omega (arith, length-append {A = List ℕ}) in
      let same : all_fit word_fits (form_of w).arguments (args ++ more) ≡ all_fit word_fits (form_of w).arguments args =
      ap (λ (ps : List (Kind × List ℕ)). list_all (λ p. word_fits p.0 p.1) ps) (zip_enough (form_of w).arguments args more (omega arith)) in (
        word_told how task w (args ++ more) longer ∙ ap (λ b. too_many (not (may_stand how w) || not b)) same ∙ sym kept,
        λ e. some_cause (not (may_stand how w) || not (all_fit word_fits (form_of w).arguments args)) (sym kept ∙ e),
      )

  task_told : (how : Manner) (task : List ℕ) (ws more : Words) → 6 ≤ length ws
      → IsTold (first_of (task_faults mode around how task ws)) (first_of (task_faults mode around how task (ws ++ more)))
  task_told how task [] more h = absurd (omega arith)
  task_told how task (w ∷ args) more h = named_told how (Some task) (word_named speaker.Task w) args more (omega arith)

  bare_told : (how : Manner) (ws more : Words) → 7 ≤ length ws
      → IsTold (first_of (bare_faults mode around how ws)) (first_of (bare_faults mode around how (ws ++ more)))
  bare_told how [] more h = absurd (omega arith)
  bare_told how (first ∷ ws) more h = by_numeral (is_numeral first) refl
    where
      by_numeral : (b : Bool) → is_numeral first ≡ b → IsTold (first_of (bare_faults mode around how (first ∷ ws))) (first_of (bare_faults mode around how ((first ∷ ws) ++ more)))
      by_numeral true e = rw e (task_told how first ws more (omega arith))
      by_numeral false e = rw e (named_told how None (word_named speaker.Shell first) ws more (omega arith))

  -- ---- what is read of the words that are kept

  by_told : (r : Result Item LineError) (kept whole : Option Cause) (m n : Item) → IsTold kept whole → Reads r kept m → Reads r whole n
  by_told (Ok item) kept whole m n told h = absurd (told.1 h.0)
  by_told (Err error.Memory) kept whole m n told h = tt
  by_told (Err (error.Fault cause)) kept whole m n told h = told.0 ∙ h

  module _ (files : List File) (r : Result Item LineError) where
    -- what the words say of the line, for these and some more
    abbrev IsRead : Words → Type 0
    IsRead ws = Reads r (first_of (line_faults mode around ws)) (meaning files ws)

    read_more : (ws more : Words) → 8 ≤ length ws → IsRead ws → IsRead (ws ++ more)
    read_more [] more h is = absurd (omega arith)
    read_more (first ∷ ws) more h is = by_comment (is_comment first) refl is
      where
        by_begin : (b : Bool) → takes_line (word_named speaker.Shell first) ≡ b → is_comment first ≡ false → IsRead (first ∷ ws) → IsRead ((first ∷ ws) ++ more)
        by_begin true e c is = rw (c, e) (by_told r _ _ _ _ (bare_told manner.Begun ws more (omega arith)) (rw (c, e) at is))
        by_begin false e c is = rw (c, e) (by_told r _ _ _ _ (bare_told manner.Whole (first ∷ ws) more (omega arith)) (rw (c, e) at is))

        by_comment : (b : Bool) → is_comment first ≡ b → IsRead (first ∷ ws) → IsRead ((first ∷ ws) ++ more)
        by_comment true e is = rw e (rw e at is)
        by_comment false e is = by_begin (takes_line (word_named speaker.Shell first)) refl e is

    -- the first eight words tell of the line
    pub read_kept : (ws : Words) → IsRead (take 8 ws) → IsRead ws
    read_kept ws is =
        elim (cases_lt 8 (length ws)) [
          | inl lt ↦ subst IsRead (take-append-drop 8 ws) (read_more (take 8 ws) (drop 8 ws) (let e = length-take-le 8 ws (omega arith) in omega arith) is)
          | inr le ↦ subst IsRead (take_all 8 ws le) is
        ]

-- ---- of the header

pub word_kept : (ws : Words) → word_of (take 8 ws) ≡ word_of ws
word_kept [] = refl
word_kept (first ∷ more) = refl

pub skipped_kept : (ws : Words) → is_skipped (take 8 ws) ≡ is_skipped ws
skipped_kept [] = refl
skipped_kept (first ∷ more) = refl

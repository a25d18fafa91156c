-- Texts that come first.
use Rattle.std.proofs.Common.{◌≡◌, ℕ, ◌+◌, ◌<◌, Bool, true, false, not, ◌&&◌, ◌||◌, if◌then◌else◌, List, [], ◌∷◌, ◌++◌, filter, map, length, take, get_or, refl, sym, ap, ◌∙◌, append-nil}
use Rattle.std.specs.List.{list_any, filter_map}
use Rattle.std.specs.Str.{bytes_eq}
use Rattle.std.proofs.lemmas.Cmp.{nat_list_eq_equiv}
use Rattle.std.proofs.lemmas.List.Elements.{filter-append, filter_map-append}
use Rattle.std.proofs.lemmas.Map.Views.{any-filter_same}
use Rattle.std.proofs.lemmas.Grind.{flat_map-append}
use Rattle.std.proofs.lemmas.List.{take_more}
use denote.Ref.{Bor}
use Rattle.machine.specs.declared.command.Step.{Step}
use Rattle.schedules.specs.declared.schedule.Line.{Line}
use Rattle.schedules.specs.Schedule.{steps_of_entry, steps_of_line, steps_of}
use Rattle.printer.specs.Paths.{path_begun, firsts}

-- it differs from the first
abbrev other_than : List ℕ → List ℕ → Bool
other_than first text = not (bytes_eq text first)

-- whether a text is among the firsts
abbrev pub is_known : List ℕ → List (List ℕ) → Bool
is_known text texts = list_any (bytes_eq text) (firsts texts)

found_first : (b a : Bool) → (b || (not b && a)) ≡ (b || a)
found_first true a = refl
found_first false a = refl

known-cons : (text first : List ℕ) (texts : List (List ℕ)) → is_known text (first ∷ texts) ≡ (bytes_eq text first || is_known text texts)
known-cons text first texts =
    ap (λ (b : Bool). bytes_eq text first || b)
    (any-filter_same (bytes_eq text) (other_than first) (not (bytes_eq text first)) (λ other same. ap not (sym (nat_list_eq_equiv.congr text other first same))) (firsts texts))
    ∙ found_first (bytes_eq text first) (is_known text texts)

-- a text behind others is one of the firsts, unless it was among them
pub firsts-more : (texts : List (List ℕ)) (text : List ℕ) → firsts (texts ++ text ∷ []) ≡ (if is_known text texts then firsts texts else firsts texts ++ text ∷ [])
firsts-more [] text = refl
firsts-more (first ∷ texts) text = by_test (bytes_eq text first) (is_known text texts) refl refl (firsts-more texts text)
  where
    known : List (List ℕ)
    known = firsts (first ∷ texts)

    filtered : filter (other_than first) (firsts texts ++ text ∷ []) ≡ filter (other_than first) (firsts texts) ++ filter (other_than first) (text ∷ [])
    filtered = filter-append (other_than first) (firsts texts) (text ∷ [])

    by_test : (b a : Bool) → bytes_eq text first ≡ b → is_known text texts ≡ a → firsts (texts ++ text ∷ []) ≡ (if is_known text texts then firsts texts else firsts texts ++ text ∷ [])
        → firsts (first ∷ (texts ++ text ∷ [])) ≡ (if is_known text (first ∷ texts) then known else known ++ text ∷ [])
    by_test b a e f ih =
        ap (λ (others : List (List ℕ)). first ∷ filter (other_than first) others) (ih ∙ ap (λ (b : Bool). if b then firsts texts else firsts texts ++ text ∷ []) f)
        ∙ by_cases b a e
        ∙ ap (λ (b : Bool). if b then known else known ++ text ∷ []) (sym (known-cons text first texts ∙ ap (λ (b : Bool). b || is_known text texts) e ∙ ap (λ (a : Bool). b || a) f))
      where
        by_cases : (b a : Bool) → bytes_eq text first ≡ b → first ∷ filter (other_than first) (if a then firsts texts else firsts texts ++ text ∷ []) ≡ (if b || a then known else known ++ text ∷ [])
        by_cases true true e = refl
        by_cases false true e = refl
        by_cases true false e = ap (λ (others : List (List ℕ)). first ∷ others) (filtered ∙ rw e (append-nil _))
        by_cases false false e = ap (λ (others : List (List ℕ)). first ∷ others) (filtered ∙ rw e refl)

-- ---- of lines

abbrev pub begun_in : List Line → List (List ℕ)
begun_in lines = filter_map path_begun (steps_of lines)

-- one line more
pub begun-more : (lines : List Line) (i : ℕ) (line : Line) → i < length lines → line ≡ get_or lines i line → begun_in (take (i + 1) lines) ≡ begun_in (take i lines) ++ filter_map path_begun (steps_of_entry line.entry)
begun-more lines i line within is =
    ap begun_in (take_more lines i line within ∙ ap (λ (last : Line). take i lines ++ last ∷ []) (sym is))
    ∙ ap (λ (steps : List Step). filter_map path_begun steps) (flat_map-append steps_of_line (take i lines) (line ∷ []))
    ∙ filter_map-append path_begun (steps_of (take i lines)) (steps_of (line ∷ []))
    ∙ ap (λ (steps : List Step). begun_in (take i lines) ++ filter_map path_begun steps) (append-nil (steps_of_entry line.entry))

abbrev now : Bor (List ℕ) → List ℕ
now text = text.now

abbrev is_in : Bor (List ℕ) → List (Bor (List ℕ)) → Bool
is_in text texts = list_any (λ (other : Bor (List ℕ)). bytes_eq text.now other.now) texts

any-now : (text : Bor (List ℕ)) (texts : List (Bor (List ℕ))) → list_any (bytes_eq text.now) (map now texts) ≡ is_in text texts
any-now text [] = refl
any-now text (other ∷ texts) = ap (λ (b : Bool). bytes_eq text.now other.now || b) (any-now text texts)

map-more : (text : Bor (List ℕ)) (texts : List (Bor (List ℕ))) → map now (texts ++ text ∷ []) ≡ map now texts ++ text.now ∷ []
map-more text [] = refl
map-more text (other ∷ texts) = ap (λ (all : List (List ℕ)). other.now ∷ all) (map-more text texts)

module _ (before after : List (List ℕ)) (texts : List (Bor (List ℕ))) (text : Bor (List ℕ)) (are : map now texts ≡ firsts before) (more : after ≡ before ++ text.now ∷ []) where
  known-same : is_known text.now before ≡ is_in text texts
  known-same = ap (λ (all : List (List ℕ)). list_any (bytes_eq text.now) all) (sym are) ∙ any-now text texts

  grown : (b : Bool) → is_in text texts ≡ b → (if b then firsts before else firsts before ++ text.now ∷ []) ≡ firsts after
  grown b e = ap (λ (b : Bool). if b then firsts before else firsts before ++ text.now ∷ []) (sym (known-same ∙ e)) ∙ sym (firsts-more before text.now) ∙ ap firsts (sym more)

  -- a text that was not known comes first here
  new-text : is_in text texts ≡ false → map now (texts ++ text ∷ []) ≡ firsts after
  new-text e = map-more text texts ∙ ap (λ (all : List (List ℕ)). all ++ text.now ∷ []) are ∙ grown false e

  -- one that was known is there already
  known-text : is_in text texts ≡ true → map now texts ≡ firsts after
  known-text e = are ∙ grown true e

  -- the same of a set with these texts, which says whether the text is new to it
  module _ (keys keys' : List (Bor (List ℕ))) (is_new : Bool) (same : keys ≡ texts) (says : is_new ≡ not (is_in text keys)) (grows : keys' ≡ (if is_in text keys then keys else keys ++ text ∷ [])) where
    found : (b : Bool) → is_new ≡ not b → is_in text texts ≡ b
    found b e = sym (ap (is_in text) same) ∙ opposite (is_in text keys) b (sym says ∙ e)
      where
        opposite : (x y : Bool) → not x ≡ not y → x ≡ y
        opposite true true e = refl
        opposite false false e = refl
        opposite true false e = sym e
        opposite false true e = sym e

    pub with-new : is_new ≡ true → (texts' : List (Bor (List ℕ))) → texts' ≡ texts ++ text ∷ [] → (keys' ≡ texts') × (map now texts' ≡ firsts after)
    with-new e texts' is =
        let none = found false e in (
          grows ∙ ap (λ (b : Bool). if b then keys else keys ++ text ∷ []) (ap (is_in text) same ∙ none) ∙ ap (λ (all : List (Bor (List ℕ))). all ++ text ∷ []) same ∙ sym is,
          ap (λ (all : List (Bor (List ℕ))). map now all) is ∙ new-text none,
        )

    pub with-known : is_new ≡ false → (keys' ≡ texts) × (map now texts ≡ firsts after)
    with-known e =
        let one = found true e in (grows ∙ ap (λ (b : Bool). if b then keys else keys ++ text ∷ []) (ap (is_in text) same ∙ one) ∙ same, known-text one)

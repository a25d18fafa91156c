-- Lines that are kept one by one are the lines of their tree.
use Rattle.std.proofs.Common.{◌≡◌, ℕ, ◌+◌, ◌-◌, ◌<◌, ◌≤◌, List, [], ◌∷◌, ◌++◌, length, map, take, set, get_or, Option, None, Result, Ok, Err, append_assoc, append-nil, refl, sym, ap, subst, ◌∙◌, arith}
use Rattle.std.specs.Prelude.{reverse}
use Rattle.std.specs.Str.Lines.{lines}
use Rattle.std.proofs.lemmas.List.{length-append, length-set, map-append, reverse-append}
use Rattle.std.proofs.Math.Seq.{set-append_seam, get_or-append_seam, take-append_seam}
use Rattle.scenarios.specs.declared.fault.Fault.{Fault}
use Rattle.scenarios.specs.declared.fault.ReadError.{ReadError}
use Rattle.scenarios.specs.declared.lines.LineKind.{LineKind}
use Rattle.scenarios.specs.declared.lines.LineKind.TheVariants as line
use Rattle.scenarios.specs.declared.scenario.Opened.{Opened}
use Rattle.scenarios.specs.Words.{TextWord}
use Rattle.scenarios.specs.Lines.{kind_of, WordLine, TextLine, Tree, text_line, first_tree, other_trees, grown, trees_of, flat}
use Rattle.scenarios.specs.Lines.{Nothing, Line, Block}
use Rattle.scenarios.specs.Scenario.{Before, Reads, end_fault, place_fault, with_block, behind, line_words, onto_lines, unless_fault, with_words, with_line, lines_from}
use Rattle.scenarios.specs.Building.{places_of, AreOpen, no_line, closed, first_closed, lines_behind, built, all_built}

abbrev Lines : Type 0
Lines = List TextLine

-- ---- what is built

-- a tree in front of others begins with lines that are kept
regroup : (kept new : Lines) (places : List ℕ) (t : Tree) (ts : List Tree) → flat t ≡ new ++ flat (first_tree ts) → built kept places (t ∷ other_trees ts) ≡ built (kept ++ new) places ts
regroup kept new [] t ts e = ap (λ (ls : Lines). kept ++ ls) e ∙ sym (append_assoc kept new (flat (first_tree ts)))
regroup kept new (p ∷ ps) t ts e = ap (λ (ls : Lines). built (closed ls p) ps (other_trees ts)) (ap (λ (ls : Lines). kept ++ ls) e ∙ sym (append_assoc kept new (flat (first_tree ts))))

-- a block that is closed
closed_block : (kept inner : Lines) (l : WordLine) → closed ((kept ++ text_line l 0 ∷ []) ++ inner) (length kept) ≡ kept ++ text_line l (length inner) ∷ inner
closed_block kept inner l =
    let all = kept ++ text_line l 0 ∷ inner in
    let same : (kept ++ text_line l 0 ∷ []) ++ inner ≡ all = append_assoc kept (text_line l 0 ∷ []) inner in
    let here : get_or all (length kept) no_line ≡ text_line l 0 = get_or-append_seam kept (text_line l 0) inner no_line in
    let many : length all - (length kept + 1) ≡ length inner = omega (arith, length-append kept (text_line l 0 ∷ inner)) in
    ap (λ (ls : Lines). closed ls (length kept)) same
    ∙ ap (λ (x : TextLine). set all (length kept) (record x { inside = length all - (length kept + 1) })) here
    ∙ ap (λ (n : ℕ). set all (length kept) (text_line l n)) many
    ∙ set-append_seam kept (text_line l 0) inner (text_line l (length inner))

block_built : (kept : Lines) (places : List ℕ) (l : WordLine) (ts : List Tree)
    → built (kept ++ text_line l 0 ∷ []) (length kept ∷ places) ts ≡ built kept places (Block l (first_tree ts) (first_tree (other_trees ts)) ∷ other_trees (other_trees ts))
block_built kept places l ts =
    let inner = flat (first_tree ts) in
    ap (λ (ls : Lines). built ls places (other_trees ts)) (closed_block kept inner l)
    ∙ sym (regroup kept (text_line l (length inner) ∷ inner) places (Block l (first_tree ts) (first_tree (other_trees ts))) (other_trees ts) refl)

line_built : (kept : Lines) (places : List ℕ) (l : WordLine) (ts : List Tree) → built (kept ++ text_line l 0 ∷ []) places ts ≡ built kept places (Line l (first_tree ts) ∷ other_trees ts)
line_built kept places l ts = sym (regroup kept (text_line l 0 ∷ []) places (Line l (first_tree ts)) ts refl)

end_built : (kept : Lines) (place : ℕ) (places : List ℕ) (ts : List Tree) → built (closed kept place) places ts ≡ built kept (place ∷ places) (Nothing ∷ ts)
end_built kept place places ts = ap (λ (ls : Lines). built (closed ls place) places ts) (sym (append-nil kept))

-- ---- the open blocks

places_push : (opened : List Opened) (o : Opened) → places_of (opened ++ o ∷ []) ≡ o.place ∷ places_of opened
places_push opened o = ap reverse (map-append (λ (b : Opened). b.place) opened (o ∷ [])) ∙ reverse-append (map (λ b. b.place) opened) (o.place ∷ [])

-- blocks with an innermost one
record IsPushed (opened : List Opened) : Type 0 where
  front : List Opened
  last : Opened
  is : opened ≡ front ++ last ∷ []

pushed_on : (o : Opened) (os : List Opened) → IsPushed os → IsPushed (o ∷ os)
pushed_on o os p = record { front = o ∷ p.front; last = p.last; is = ap (λ (bs : List Opened). o ∷ bs) p.is }

pushed : (o : Opened) (os : List Opened) → IsPushed (o ∷ os)
pushed o [] = record { front = []; last = o; is = refl }
pushed o (b ∷ bs) = pushed_on o (b ∷ bs) (pushed b bs)

without_last : (front : List Opened) (o : Opened) → take (length (front ++ o ∷ []) - 1) (front ++ o ∷ []) ≡ front
without_last front o =
    let many : length (front ++ o ∷ []) - 1 ≡ length front = omega (arith, length-append front (o ∷ [])) in
    ap (λ (n : ℕ). take n (front ++ o ∷ [])) many ∙ take-append_seam front (o ∷ [])

weaker : (places : List ℕ) (many more : ℕ) → many ≤ more → AreOpen places many → AreOpen places more
weaker [] many more le o = tt
weaker (p ∷ ps) many more le o = (omega (arith, o.0), o.1)

-- ---- an `end`

-- what comes of an `end`: the places that are left, with the lines
record IsEnded (kept : Lines) (opened : List Opened) : Type 0 where
  built_so : (ts : List Tree) → built (first_closed kept (places_of opened)) (places_of (take (length opened - 1) opened)) ts ≡ built kept (places_of opened) (Nothing ∷ ts)
  open_so : AreOpen (places_of opened) (length kept) → AreOpen (places_of (take (length opened - 1) opened)) (length (first_closed kept (places_of opened)))

ended_pushed : (kept : Lines) (front : List Opened) (o : Opened) → IsEnded kept (front ++ o ∷ [])
ended_pushed kept front o =
    let left = without_last front o in
    let places = places_push front o in
    record {
      built_so = λ ts. rw (left, places) (end_built kept o.place (places_of front) ts);
      open_so = λ h. (
          let h' : AreOpen (o.place ∷ places_of front) (length kept) = subst (λ (ps : List ℕ). AreOpen ps (length kept)) places h in
          let long : length (closed kept o.place) ≡ length kept = length-set kept o.place _ in
          rw (left, places) (weaker (places_of front) o.place (length (closed kept o.place)) (omega (arith, long, h'.0)) h'.1)
          );
    }

ended_so : (kept : Lines) (opened : List Opened) → IsPushed opened → IsEnded kept opened
ended_so kept opened p = subst (IsEnded kept) (sym p.is) (ended_pushed kept p.front p.last)

-- ---- one line

abbrev word_line : ℕ → List TextWord → WordLine
word_line number ws = record { number = number; words = ws }

-- a line that is kept is the first of the trees that were still to come
record IsKept (k : LineKind) (number : ℕ) (before : Before) (ws : List TextWord) (kept : Lines) : Type 0 where
  built_so : (ts : List Tree) → built (lines_behind k (word_line number ws) kept (places_of before.opened)) (places_of (behind number before k ws).opened) ts ≡ built kept (places_of before.opened) (grown k (word_line number ws) ts)
  open_so : AreOpen (places_of before.opened) (length kept) → AreOpen (places_of (behind number before k ws).opened) (length (lines_behind k (word_line number ws) kept (places_of before.opened)))

plain_open : (kept : Lines) (l : TextLine) (places : List ℕ) → AreOpen places (length kept) → AreOpen places (length (kept ++ l ∷ []))
plain_open kept l places h = weaker places (length kept) (length (kept ++ l ∷ [])) (omega (arith, length-append kept (l ∷ []))) h

opened_places : (number : ℕ) (before : Before) (ws : List TextWord) (kept : Lines) → before.kept ≡ length kept → places_of (with_block number before ws).opened ≡ length kept ∷ places_of before.opened
opened_places number before ws kept e = places_push before.opened _ ∙ ap (λ (n : ℕ). n ∷ places_of before.opened) e

block_open : (kept : Lines) (l : TextLine) (places : List ℕ) → AreOpen places (length kept) → AreOpen (length kept ∷ places) (length (kept ++ l ∷ []))
block_open kept l places h = (omega (arith, length-append kept (l ∷ [])), h)

ended_here : (number : ℕ) (ws : List TextWord) (opened : List Opened) → end_fault number opened ws ≡ None → IsPushed opened
ended_here number ws [] e = absurd cc
ended_here number ws (o ∷ os) e = pushed o os

kept_so : (k : LineKind) (number : ℕ) (before : Before) (ws : List TextWord) (kept : Lines) → place_fault number before k ws ≡ None → before.kept ≡ length kept → IsKept k number before ws kept
kept_so line.Header number before ws kept fits e =
    record { built_so = λ ts. line_built kept (places_of before.opened) (word_line number ws) ts; open_so = plain_open kept (text_line (word_line number ws) 0) (places_of before.opened) }
kept_so line.Let number before ws kept fits e =
    record { built_so = λ ts. line_built kept (places_of before.opened) (word_line number ws) ts; open_so = plain_open kept (text_line (word_line number ws) 0) (places_of before.opened) }
kept_so line.Other number before ws kept fits e =
    record { built_so = λ ts. line_built kept (places_of before.opened) (word_line number ws) ts; open_so = plain_open kept (text_line (word_line number ws) 0) (places_of before.opened) }
kept_so line.Repeat number before ws kept fits e =
    let l = text_line (word_line number ws) 0 in
    let places = opened_places number before ws kept e in
    record {
      built_so = λ ts. ap (λ (ps : List ℕ). built (kept ++ l ∷ []) ps ts) places ∙ block_built kept (places_of before.opened) (word_line number ws) ts;
      open_so = λ h. subst (λ (ps : List ℕ). AreOpen ps (length (kept ++ l ∷ []))) (sym places) (block_open kept l (places_of before.opened) h);
    }
kept_so line.Together number before ws kept fits e =
    let l = text_line (word_line number ws) 0 in
    let places = opened_places number before ws kept e in
    record {
      built_so = λ ts. ap (λ (ps : List ℕ). built (kept ++ l ∷ []) ps ts) places ∙ block_built kept (places_of before.opened) (word_line number ws) ts;
      open_so = λ h. subst (λ (ps : List ℕ). AreOpen ps (length (kept ++ l ∷ []))) (sym places) (block_open kept l (places_of before.opened) h);
    }
kept_so line.End number before ws kept fits e =
    let ended = ended_so kept before.opened (ended_here number ws before.opened fits) in
    record { built_so = ended.built_so; open_so = ended.open_so }

-- ---- the lines that are still to come

some_words : (number : ℕ) (before : Before) (ws : List TextWord) (more : Before → Result (List WordLine) Fault) → 0 < length ws → place_fault number before (kind_of ws) ws ≡ None
    → with_words number before ws more ≡ onto_lines (word_line number ws ∷ []) (more (behind number before (kind_of ws) ws))
some_words number before [] more some fits = absurd (omega (arith, some))
some_words number before (w ∷ ws) more some fits = ap (λ (o : Option Fault). unless_fault o (onto_lines (word_line number (w ∷ ws) ∷ []) (more (behind number before (kind_of (w ∷ ws)) (w ∷ ws))))) fits

all_kept : (number : ℕ) (before : Before) (ws : List TextWord) (kept : Lines) (r : Result (List WordLine) Fault) → IsKept (kind_of ws) number before ws kept
    → all_built (lines_behind (kind_of ws) (word_line number ws) kept (places_of before.opened)) (places_of (behind number before (kind_of ws) ws).opened) r ≡ all_built kept (places_of before.opened) (onto_lines (word_line number ws ∷ []) r)
all_kept number before ws kept (Ok ls) so = ap Ok (so.built_so (trees_of ls))
all_kept number before ws kept (Err f) so = refl

-- a line is kept that has words and no fault
pub line_goes_on : (number : ℕ) (before before' : Before) (kept kept' : Lines) (bytes : List ℕ) (ws : List TextWord) (more : List (List ℕ))
    → line_words number bytes ≡ Ok ws → 0 < length ws → place_fault number before (kind_of ws) ws ≡ None → before.kept ≡ length kept
    → before' ≡ behind number before (kind_of ws) ws → kept' ≡ lines_behind (kind_of ws) (word_line number ws) kept (places_of before.opened)
    → all_built kept' (places_of before'.opened) (lines_from (number + 1) before' more) ≡ all_built kept (places_of before.opened) (lines_from number before (bytes ∷ more))
line_goes_on number before before' kept kept' bytes ws more read some fits e after lines =
    let so = kept_so (kind_of ws) number before ws kept fits e in
    let on = behind number before (kind_of ws) ws in
    let here : lines_from number before (bytes ∷ more) ≡ onto_lines (word_line number ws ∷ []) (lines_from (number + 1) on more) =
    ap (λ (r : Result (List TextWord) Fault). with_line number before r (λ b. lines_from (number + 1) b more)) read ∙ some_words number before ws (λ b. lines_from (number + 1) b more) some fits in
    ap (λ (b : Before). all_built kept' (places_of b.opened) (lines_from (number + 1) b more)) after
    ∙ ap (λ (ls : Lines). all_built ls (places_of on.opened) (lines_from (number + 1) on more)) lines
    ∙ all_kept number before ws kept (lines_from (number + 1) on more) so
    ∙ ap (all_built kept (places_of before.opened)) (sym here)

pub line_keeps_open : (number : ℕ) (before before' : Before) (kept kept' : Lines) (ws : List TextWord) → place_fault number before (kind_of ws) ws ≡ None → before.kept ≡ length kept
    → before' ≡ behind number before (kind_of ws) ws → kept' ≡ lines_behind (kind_of ws) (word_line number ws) kept (places_of before.opened)
    → AreOpen (places_of before.opened) (length kept) → AreOpen (places_of before'.opened) (length kept')
line_keeps_open number before before' kept kept' ws fits e after lines open_before =
    let so = kept_so (kind_of ws) number before ws kept fits e in
    let there = so.open_so open_before in
    subst (λ (b : Before). AreOpen (places_of b.opened) (length kept')) (sym after)
    (subst (λ (ls : Lines). AreOpen (places_of (behind number before (kind_of ws) ws).opened) (length ls)) (sym lines) there)

-- ---- the end

pub nothing_left : (rest : List ℕ) → length rest ≡ 0 → lines rest ≡ []
nothing_left [] e = refl
nothing_left (b ∷ bs) e = absurd (omega (arith, e))

pub reads_same : {T : Type 0} {U : Type 0} (shown : T → U) (r : Result T ReadError) (a b : Result U Fault) → a ≡ b → Reads shown r a → Reads shown r b
reads_same {U = U} shown r a b e h = subst (λ (x : Result U Fault). Reads shown r x) e h

-- The tree of a faultless text's lines has them all, and its blocks are theirs.
use Rattle.std.proofs.Common.{◌≡◌, ℕ, ◌+◌, ◌-◌, ◌<◌, true, false, List, [], ◌∷◌, ◌++◌, length, take, Option, Some, None, Result, Ok, Err, append_assoc, refl, sym, ap, subst, ◌∙◌, arith}
use Rattle.std.specs.Str.Lines.{lines}
use Rattle.std.proofs.lemmas.List.{length-append}
use Rattle.std.proofs.Math.ListN.{length-take}
use Rattle.scenarios.specs.declared.fault.Fault.{Fault}
use Rattle.scenarios.specs.declared.lines.LineKind.{LineKind}
use Rattle.scenarios.specs.declared.lines.LineKind.TheVariants as line
use Rattle.scenarios.specs.declared.scenario.Opened.{Opened}
use Rattle.scenarios.specs.Words.{TextWord}
use Rattle.scenarios.specs.Lines.{kind_of, WordLine, Tree, Nothing, Line, Block, first_tree, other_trees, grown, trees_of, tree_of, opens_block, ends_block, written, mark_of, marked, IsFormed}
use Rattle.scenarios.specs.Scenario.{Before, at_start, end_fault, place_fault, behind, line_words, onto_lines, unless_fault, with_words, with_line, unended, lines_from, lines_of}

-- trees, each but the last with an `end` behind it
abbrev joined : List Tree → List (Option WordLine)
joined [] = []
joined (t ∷ []) = written t
joined (t ∷ u ∷ us) = written t ++ None ∷ joined (u ∷ us)

abbrev AllFormed : List Tree → Type 0
AllFormed [] = Unit {0}
AllFormed (t ∷ ts) = IsFormed t × AllFormed ts

-- so many trees are these lines
record AreTrees (many : ℕ) (ts : List Tree) (ls : List (Option WordLine)) : Type 0 where
  count : length ts ≡ many
  same : joined ts ≡ ls
  formed : AllFormed ts

-- ---- one line more

line_joined : (l : WordLine) (t : Tree) (us : List Tree) → joined (Line l t ∷ us) ≡ Some l ∷ joined (t ∷ us)
line_joined l t [] = refl
line_joined l t (u ∷ us) = refl

block_joined : (l : WordLine) (t u : Tree) (us : List Tree) → joined (Block l t u ∷ us) ≡ Some l ∷ joined (t ∷ u ∷ us)
block_joined l t u [] = refl
block_joined l t u (v ∷ us) = ap (λ (ls : List (Option WordLine)). Some l ∷ ls) (append_assoc (written t) (None ∷ written u) (None ∷ joined (v ∷ us)))

plain_line : (l : WordLine) (many : ℕ) (ts : List Tree) (ls : List (Option WordLine)) → opens_block (kind_of l.words) ≡ false → ends_block (kind_of l.words) ≡ false → 0 < many → AreTrees many ts ls
    → AreTrees many (Line l (first_tree ts) ∷ other_trees ts) (Some l ∷ ls)
plain_line l many [] ls opens ends some are = absurd (omega (arith, some, are.count))
plain_line l many (t ∷ us) ls opens ends some are =
    record { count = are.count; same = line_joined l t us ∙ ap (λ (ms : List (Option WordLine)). Some l ∷ ms) are.same; formed = ((opens, ends, are.formed.0), are.formed.1) }

block_line : (l : WordLine) (many : ℕ) (ts : List Tree) (ls : List (Option WordLine)) → opens_block (kind_of l.words) ≡ true → 0 < many → AreTrees (many + 1) ts ls
    → AreTrees many (Block l (first_tree ts) (first_tree (other_trees ts)) ∷ other_trees (other_trees ts)) (Some l ∷ ls)
block_line l many [] ls opens some are = absurd (omega (arith, some, are.count))
block_line l many (t ∷ []) ls opens some are = absurd (omega (arith, some, are.count))
block_line l many (t ∷ u ∷ us) ls opens some are =
    let two : length (t ∷ u ∷ us) ≡ many + 1 = are.count in
    record {
      count = omega (arith, two);
      same = block_joined l t u us ∙ ap (λ (ms : List (Option WordLine)). Some l ∷ ms) are.same;
      formed = ((opens, are.formed.0, are.formed.1.0), are.formed.1.1);
    }

end_line : (many : ℕ) (ts : List Tree) (ls : List (Option WordLine)) → 0 < many → AreTrees many ts ls → AreTrees (many + 1) (Nothing ∷ ts) (None ∷ ls)
end_line many [] ls some are = absurd (omega (arith, some, are.count))
end_line many (t ∷ us) ls some are =
    let before : length (t ∷ us) ≡ many = are.count in
    record { count = omega (arith, before); same = ap (λ (ms : List (Option WordLine)). None ∷ ms) are.same; formed = (tt, are.formed) }

one_more_open : (opened : List Opened) (o : Opened) (ts : List Tree) (ls : List (Option WordLine)) → AreTrees (length (opened ++ o ∷ []) + 1) ts ls → AreTrees (length opened + 1 + 1) ts ls
one_more_open opened o ts ls are = (let many : length (opened ++ o ∷ []) + 1 ≡ length opened + 1 + 1 = omega (arith, length-append opened (o ∷ [])) in subst (λ (n : ℕ). AreTrees n ts ls) many are)

one_ended : (number : ℕ) (ws : List TextWord) (opened : List Opened) (ts : List Tree) (ls : List (Option WordLine)) → end_fault number opened ws ≡ None → AreTrees (length (take (length opened - 1) opened) + 1) ts ls
    → AreTrees (length opened + 1) (Nothing ∷ ts) (None ∷ ls)
one_ended number ws [] ts ls fits are = absurd cc
one_ended number ws (o ∷ os) ts ls fits are =
    let many : length (take (length (o ∷ os) - 1) (o ∷ os)) + 1 ≡ length (o ∷ os) = omega (arith, length-take (length (o ∷ os) - 1) (o ∷ os)) in
    end_line (length (o ∷ os)) ts ls (omega arith) (subst (λ (n : ℕ). AreTrees n ts ls) many are)

-- one line of this kind, where no place is faulty
one_line : (k : LineKind) (number : ℕ) (before : Before) (ws : List TextWord) (ts : List Tree) (ls : List (Option WordLine)) → kind_of ws ≡ k → place_fault number before k ws ≡ None
    → AreTrees (length (behind number before k ws).opened + 1) ts ls
    → AreTrees (length before.opened + 1) (grown k (record { number = number; words = ws }) ts) (mark_of k (record { number = number; words = ws }) ∷ ls)
one_line line.Header number before ws ts ls e fits are = plain_line (record { number = number; words = ws }) _ ts ls (ap opens_block e) (ap ends_block e) (omega arith) are
one_line line.Let number before ws ts ls e fits are = plain_line (record { number = number; words = ws }) _ ts ls (ap opens_block e) (ap ends_block e) (omega arith) are
one_line line.Other number before ws ts ls e fits are = plain_line (record { number = number; words = ws }) _ ts ls (ap opens_block e) (ap ends_block e) (omega arith) are
one_line line.Repeat number before ws ts ls e fits are =
    block_line (record { number = number; words = ws }) (length before.opened + 1) ts ls (ap opens_block e) (omega arith) (one_more_open before.opened _ ts ls are)
one_line line.Together number before ws ts ls e fits are =
    block_line (record { number = number; words = ws }) (length before.opened + 1) ts ls (ap opens_block e) (omega arith) (one_more_open before.opened _ ts ls are)
one_line line.End number before ws ts ls e fits are = one_ended number ws before.opened ts ls fits are

-- ---- all lines

abbrev Said : Type 0
Said = Result (List WordLine) Fault

abbrev ok_lines : List WordLine → Said
ok_lines ls = Ok ls

ok_same : {a b : List WordLine} → ok_lines a ≡ ok_lines b → a ≡ b
ok_same e = cc

-- what is faultless with lines behind some others
record IsOnto (new : List WordLine) (r : Said) (ls : List WordLine) : Type 0 where
  more : List WordLine
  read : r ≡ Ok more
  all : ls ≡ new ++ more

onto_so : (new : List WordLine) (r : Said) (ls : List WordLine) → onto_lines new r ≡ Ok ls → IsOnto new r ls
onto_so new (Ok more) ls e = record { more = more; read = refl; all = sym (ok_same e) }
onto_so new (Err f) ls e = absurd cc

-- nothing is wrong
record IsFaultless (o : Option Fault) (r : Said) (ls : List WordLine) : Type 0 where
  none : o ≡ None
  read : r ≡ Ok ls

faultless_so : (o : Option Fault) (r : Said) (ls : List WordLine) → unless_fault o r ≡ Ok ls → IsFaultless o r ls
faultless_so None r ls e = record { none = refl; read = e }
faultless_so (Some f) r ls e = absurd cc

-- lines that are read are the trees that are still to come
abbrev Trees : Before → List WordLine → Type 0
Trees before ls = AreTrees (length before.opened + 1) (trees_of ls) (marked ls)

words_trees : (number : ℕ) (before : Before) (ws : List TextWord) (later : Before → Said) (ls : List WordLine) → ((b : Before) (more : List WordLine) → later b ≡ Ok more → Trees b more)
    → with_words number before ws later ≡ Ok ls → Trees before ls
words_trees number before [] later ls so e = so before ls e
words_trees number before (w ∷ ws) later ls so e =
    let l : WordLine = record { number = number; words = w ∷ ws } in
    let k = kind_of (w ∷ ws) in
    let on = behind number before k (w ∷ ws) in
    let fine = faultless_so (place_fault number before k (w ∷ ws)) (onto_lines (l ∷ []) (later on)) ls e in
    let onto = onto_so (l ∷ []) (later on) ls fine.read in
    let here = one_line k number before (w ∷ ws) (trees_of onto.more) (marked onto.more) refl fine.none (so on onto.more onto.read) in
    subst (Trees before) (sym onto.all) here

line_trees : (number : ℕ) (before : Before) (r : Result (List TextWord) Fault) (later : Before → Said) (ls : List WordLine) → ((b : Before) (more : List WordLine) → later b ≡ Ok more → Trees b more)
    → with_line number before r later ≡ Ok ls → Trees before ls
line_trees number before (Ok ws) later ls so e = words_trees number before ws later ls so e
line_trees number before (Err f) later ls so e = absurd cc

end_trees : (before : Before) (opened : List Opened) (ls : List WordLine) → before.opened ≡ opened → unended opened ≡ Ok ls → Trees before ls
end_trees before [] ls e h =
    let none : ls ≡ [] = sym (ok_same h) in
    let count : 1 ≡ length before.opened + 1 = omega (arith, ap length e) in
    subst (Trees before) (sym none) (record { count = count; same = refl; formed = (tt, tt) })
end_trees before (o ∷ os) ls e h = absurd cc

read_trees : (bytes : List (List ℕ)) (number : ℕ) (before : Before) (ls : List WordLine) → lines_from number before bytes ≡ Ok ls → Trees before ls
read_trees [] number before ls e = end_trees before before.opened ls refl e
read_trees (b ∷ bs) number before ls e = line_trees number before (line_words number b) (λ later. lines_from (number + 1) later bs) ls (λ later more h. read_trees bs (number + 1) later more h) e

-- ---- the one tree

one_tree : (ts : List Tree) (ls : List (Option WordLine)) → AreTrees 1 ts ls → (written (first_tree ts) ≡ ls) × IsFormed (first_tree ts)
one_tree [] ls are = absurd (omega (arith, are.count))
one_tree (t ∷ []) ls are = (are.same, are.formed.0)
one_tree (t ∷ u ∷ us) ls are = (let two : length (t ∷ u ∷ us) ≡ 1 = are.count in absurd (omega (arith, two)))

pub tree_has_the_lines : (text : List ℕ) (ls : List WordLine) → lines_of text ≡ Ok ls → written (tree_of ls) ≡ marked ls
tree_has_the_lines text ls e = (one_tree (trees_of ls) (marked ls) (read_trees (lines text) 1 at_start ls e)).0

pub tree_is_formed : (text : List ℕ) (ls : List WordLine) → lines_of text ≡ Ok ls → IsFormed (tree_of ls)
tree_is_formed text ls e = (one_tree (trees_of ls) (marked ls) (read_trees (lines text) 1 at_start ls e)).1

-- The lines of a scenario, and the tree that their blocks make.
use Rattle.std.specs.Prelude.{◌≡◌, ℕ, Bool, true, false, ◌||◌, List, [], ◌∷◌, ◌++◌, length, codes, map, Option, Some, None, if◌then◌else◌}
use Rattle.std.specs.Str.{bytes_eq}
use Rattle.scenarios.specs.declared.lines.LineKind.{LineKind}
use Rattle.scenarios.specs.declared.lines.LineKind.TheVariants as line
use Rattle.scenarios.specs.declared.pieces.Kind.{Kind}
use Rattle.scenarios.specs.declared.pieces.Kind.TheVariants as kind
use Rattle.scenarios.specs.Pieces.{TextPiece}
use Rattle.scenarios.specs.Words.{TextWord}

-- ---- the kind of a line

-- the text of a piece that is no hole
abbrev pub plain_text : Kind → List ℕ → Option (List ℕ)
plain_text kind.Text text = Some text
plain_text kind.Hole name = None

abbrev pub only_text : Option (List TextPiece) → Option (List ℕ)
only_text None = None
only_text (Some []) = None
only_text (Some (p ∷ [])) = plain_text p.kind p.text
only_text (Some (p ∷ q ∷ ps)) = None

-- the text of a word without quotes and holes, which alone may be a word of the language
abbrev pub literal : TextWord → Option (List ℕ)
literal w = if w.quoted then None else only_text w.pieces

-- a word that only lines of the header begin with
abbrev pub is_header_word : List ℕ → Bool
is_header_word text =
    bytes_eq text (codes "memory") || bytes_eq text (codes "swap") || bytes_eq text (codes "page") || bytes_eq text (codes "watermarks")
    || bytes_eq text (codes "file") || bytes_eq text (codes "fault") || bytes_eq text (codes "protection") || bytes_eq text (codes "placement")

abbrev pub kind_of_text : List ℕ → LineKind
kind_of_text text =
    if bytes_eq text (codes "let") then line.Let
    else if bytes_eq text (codes "repeat") then line.Repeat
    else if bytes_eq text (codes "together") then line.Together
    else if bytes_eq text (codes "end") then line.End
    else if is_header_word text then line.Header
    else line.Other

abbrev pub kind_by : Option (List ℕ) → LineKind
kind_by None = line.Other
kind_by (Some text) = kind_of_text text

-- the kind of a line, by its first word
abbrev pub kind_of : List TextWord → LineKind
kind_of [] = line.Other
kind_of (w ∷ ws) = kind_by (literal w)

-- ---- the tree

-- a line with words, by its number in the text, from 1
pub record WordLine : Type 0 where
  pub number : ℕ
  pub words : List TextWord

-- nothing; a line and what follows; or a block, by the line that opens it, with what is in it and what follows its end
pub data Tree : Type 0 where
  Nothing : Tree
  Line : WordLine → Tree → Tree
  Block : WordLine → Tree → Tree → Tree

abbrev pub first_tree : List Tree → Tree
first_tree [] = Nothing
first_tree (t ∷ ts) = t

abbrev pub other_trees : List Tree → List Tree
other_trees [] = []
other_trees (t ∷ ts) = ts

-- a line before others: before an `end` is a block's inside, of which nothing is known yet; the line that opens a block takes it
abbrev pub grown : LineKind → WordLine → List Tree → List Tree
grown line.End l ts = Nothing ∷ ts
grown line.Repeat l ts = Block l (first_tree ts) (first_tree (other_trees ts)) ∷ other_trees (other_trees ts)
grown line.Together l ts = Block l (first_tree ts) (first_tree (other_trees ts)) ∷ other_trees (other_trees ts)
grown line.Header l ts = Line l (first_tree ts) ∷ other_trees ts
grown line.Let l ts = Line l (first_tree ts) ∷ other_trees ts
grown line.Other l ts = Line l (first_tree ts) ∷ other_trees ts

-- what lines are: up to the first `end` that ends no block of theirs, from there to the next such one, and so on
abbrev pub trees_of : List WordLine → List Tree
trees_of [] = Nothing ∷ []
trees_of (l ∷ ls) = grown (kind_of l.words) l (trees_of ls)

-- what lines are of which each block is ended
abbrev pub tree_of : List WordLine → Tree
tree_of ls = first_tree (trees_of ls)

-- ---- the tree as a list

-- a line in the list: its kind, and how many of the next lines are in the block that it opens
pub record TextLine : Type 0 where
  pub number : ℕ
  pub kind : LineKind
  pub words : List TextWord
  pub inside : ℕ

abbrev pub text_line : WordLine → ℕ → TextLine
text_line l inside = record { number = l.number; kind = kind_of l.words; words = l.words; inside = inside }

-- the lines of a tree in their order, without those that end blocks
abbrev pub flat : Tree → List TextLine
flat Nothing = []
flat (Line l more) = text_line l 0 ∷ flat more
flat (Block l inner more) = text_line l (length (flat inner)) ∷ (flat inner ++ flat more)

-- ---- the lines of a tree, as a text has them

abbrev pub opens_block : LineKind → Bool
opens_block line.Repeat = true
opens_block line.Together = true
opens_block line.Header = false
opens_block line.Let = false
opens_block line.End = false
opens_block line.Other = false

abbrev pub ends_block : LineKind → Bool
ends_block line.End = true
ends_block line.Header = false
ends_block line.Let = false
ends_block line.Repeat = false
ends_block line.Together = false
ends_block line.Other = false

-- the lines of a tree in their order, with nothing in place of each block's `end`
abbrev pub written : Tree → List (Option WordLine)
written Nothing = []
written (Line l more) = Some l ∷ written more
written (Block l inner more) = Some l ∷ (written inner ++ None ∷ written more)

-- the lines of a text in their order, with nothing in place of each `end`
abbrev pub mark_of : LineKind → WordLine → Option WordLine
mark_of k l = if ends_block k then None else Some l

abbrev pub marked : List WordLine → List (Option WordLine)
marked ls = map (λ l. mark_of (kind_of l.words) l) ls

-- each block of a tree has a line that opens one, and no other line opens or ends one
abbrev pub IsFormed : Tree → Type 0
IsFormed Nothing = Unit {0}
IsFormed (Line l more) = (opens_block (kind_of l.words) ≡ false) × (ends_block (kind_of l.words) ≡ false) × IsFormed more
IsFormed (Block l inner more) = (opens_block (kind_of l.words) ≡ true) × IsFormed inner × IsFormed more

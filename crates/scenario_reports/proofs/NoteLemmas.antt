-- The words of a line that is printed with a space between each two.
use Rattle.std.proofs.Common.{◌≡◌, ◌∙◌, ℕ, List, [], ◌∷◌, ◌++◌, true, refl, sym, ap, append_assoc, append-nil}
use Rattle.std.specs.Prelude.{flat_map}
use Rattle.scenario_words.specs.Words.{FilledWord}
use Rattle.scenario_lines.specs.Joined.{spaced, after_spaces}

-- words, each with a space after it
abbrev pub ended : List FilledWord → List ℕ
ended [] = []
ended (w ∷ ws) = w.source ++ 32 ∷ ended ws

pub ended_more : (ws : List FilledWord) (w : FilledWord) → ended (ws ++ w ∷ []) ≡ ended ws ++ (w.source ++ 32 ∷ [])
ended_more [] w = refl
ended_more (v ∷ ws) w = ap (λ (bs : List ℕ). v.source ++ 32 ∷ bs) (ended_more ws w) ∙ sym (append_assoc v.source (32 ∷ ended ws) (w.source ++ 32 ∷ []))

after_more : (ws : List FilledWord) (w : FilledWord) → after_spaces true (ws ++ w ∷ []) ≡ 32 ∷ (ended ws ++ w.source)
after_more [] w = ap (λ (bs : List ℕ). 32 ∷ bs) (append-nil w.source)
after_more (v ∷ ws) w = ap (λ (bs : List ℕ). 32 ∷ (v.source ++ bs)) (after_more ws w) ∙ ap (λ (bs : List ℕ). 32 ∷ bs) (sym (append_assoc v.source (32 ∷ ended ws) w.source))

-- the words before a last one, and the last one
pub spaced_more : (ws : List FilledWord) (w : FilledWord) → spaced true (ws ++ w ∷ []) ≡ ended ws ++ w.source
spaced_more [] w = append-nil w.source
spaced_more (v ∷ ws) w = ap (λ (bs : List ℕ). v.source ++ bs) (after_more ws w) ∙ sym (append_assoc v.source (32 ∷ ended ws) w.source)

-- a character more is read of a word
pub character_more : (before source new enc rest left line : List ℕ) → new ≡ source ++ enc → rest ≡ enc ++ left → before ++ (source ++ rest) ≡ line → before ++ (new ++ left) ≡ line
character_more before source new enc rest left line is cut so_far =
    ap (λ (bs : List ℕ). before ++ bs) (ap (λ (bs : List ℕ). bs ++ left) is ∙ append_assoc source enc left ∙ ap (λ (bs : List ℕ). source ++ bs) (sym cut)) ∙ so_far

-- a word ends, and a new one begins
pub word_more : (ws us : List FilledWord) (w : FilledWord) (source new rest left line : List ℕ) → us ≡ ws ++ w ∷ [] → w.source ≡ source → new ≡ [] → rest ≡ 32 ∷ left → ended ws ++ (source ++ rest) ≡ line → ended us ++ (new ++ left) ≡ line
word_more ws us w source new rest left line pushed is empty cut so_far =
    ap (λ (vs : List FilledWord). ended vs ++ (new ++ left)) pushed
    ∙ ap (λ (bs : List ℕ). ended (ws ++ w ∷ []) ++ (bs ++ left)) empty
    ∙ ap (λ (bs : List ℕ). bs ++ left) (ended_more ws w)
    ∙ append_assoc (ended ws) (w.source ++ 32 ∷ []) left
    ∙ ap (λ (bs : List ℕ). ended ws ++ bs) (append_assoc w.source (32 ∷ []) left)
    ∙ ap (λ (bs : List ℕ). ended ws ++ (bs ++ 32 ∷ left)) is
    ∙ ap (λ (bs : List ℕ). ended ws ++ (source ++ bs)) (sym cut)
    ∙ so_far

-- the line is at its end
pub last_word : (ws us : List FilledWord) (w : FilledWord) (source rest line : List ℕ) → us ≡ ws ++ w ∷ [] → w.source ≡ source → rest ≡ [] → ended ws ++ (source ++ rest) ≡ line → spaced true us ≡ line
last_word ws us w source rest line pushed is empty so_far =
    ap (spaced true) pushed
    ∙ spaced_more ws w
    ∙ ap (λ (bs : List ℕ). ended ws ++ bs) (is ∙ sym (append-nil source) ∙ ap (λ (bs : List ℕ). source ++ bs) (sym empty))
    ∙ so_far

-- A word of digits is none that takes a line.
use Rattle.std.proofs.Common.{◌≡◌, ℕ, Bool, true, false, true≢false, List, [], ◌∷◌, codes, find, refl, sym, ap, ◌∙◌}
use Rattle.std.proofs.lemmas.Slice.Eq.{bytes_eq-Decides}
use Rattle.machine.specs.Numbers.{is_numeral}
use Rattle.scripts.specs.declared.forms.Word.{Word}
use Rattle.scripts.specs.declared.forms.Word.TheVariants as word
use Rattle.scripts.specs.declared.forms.Speaker.TheVariants as speaker
use Rattle.scripts.specs.Forms.{form_of, is_named, word_named, words, is_line, takes_line}

-- whether the text is this word of the shell's
abbrev says : List ℕ → Word → Bool
says text w = is_named speaker.Shell text (form_of w)

takes_none : (text : List ℕ) → is_numeral text ≡ true → (w : Word) → says text w ≡ true → is_line (form_of w).arguments ≡ false
takes_none text digits word.Begin named =
    let same : text ≡ codes "begin" = (bytes_eq-Decides text (codes "begin")).0 named in
    absurd (true≢false (sym digits ∙ ap is_numeral same))
takes_none text digits _ named = refl

-- what comes behind a word takes no line, and so neither does what comes from the word on
from_word : (text : List ℕ) → is_numeral text ≡ true → (w : Word) (ws : List Word) → takes_line (find (says text) ws) ≡ false
    → (t : Bool) → says text w ≡ t → takes_line (find (says text) (w ∷ ws)) ≡ false
from_word text digits w ws behind true named = rw (named) (takes_none text digits w named)
from_word text digits w ws behind false named = rw (named) behind

pub no_line : (text : List ℕ) → is_numeral text ≡ true → takes_line (word_named speaker.Shell text) ≡ false
no_line text digits = among words
  where
    among : (ws : List Word) → takes_line (find (says text) ws) ≡ false
    among [] = refl
    among (w ∷ ws) = from_word text digits w ws (among ws) (says text w) refl

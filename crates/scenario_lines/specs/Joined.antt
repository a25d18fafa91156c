-- The words of a line, as a text.
use Rattle.std.specs.Prelude.{ℕ, Bool, List, [], ◌∷◌, ◌++◌, drop, flat_map, if◌then◌else◌}
use Rattle.scenario_words.specs.Words.{FilledWord}

-- a word with its quotes, or without
abbrev pub shown_word : Bool → FilledWord → List ℕ
shown_word quotes w = if quotes then w.source else w.text

-- each word after a space
abbrev pub after_spaces : Bool → List FilledWord → List ℕ
after_spaces quotes ws = flat_map (λ w. 32 ∷ shown_word quotes w) ws

-- words with a space between each two
abbrev pub spaced : Bool → List FilledWord → List ℕ
spaced quotes [] = []
spaced quotes (w ∷ ws) = shown_word quotes w ++ after_spaces quotes ws

-- the words from this place on
abbrev pub joined : List FilledWord → ℕ → Bool → List ℕ
joined ws from quotes = spaced quotes (drop from ws)

-- Settings: texts `NAME=WORD`. Each puts its word in place of the word of the `let` lines of its name.
use Rattle.std.specs.Prelude.{ℕ, ◌+◌, ◌==◌, Bool, true, false, ◌&&◌, not, List, take, drop, reverse, position, filter_map, slice_get, Option, Some, None}
use Rattle.std.specs.List.{list_any, before_first}
use Rattle.std.specs.Str.{bytes_eq}
use Rattle.scenarios.specs.declared.lines.LineKind.{LineKind}
use Rattle.scenarios.specs.declared.lines.LineKind.TheVariants as line
use Rattle.scenarios.specs.Holes.{NamedText}
use Rattle.scenarios.specs.Lines.{TextLine}
use Rattle.scenarios.specs.Words.{TextWord}

-- ---- what settings say

-- the byte is `=`
abbrev pub is_equals : ℕ → Bool
is_equals b = b == 61

-- the name before the `=` of this place, and the word after it
abbrev pub setting_at : List ℕ → Option ℕ → Option NamedText
setting_at text None = None
setting_at text (Some place) = Some (record { name = take place text; text = drop (place + 1) text })

-- the name before the first `=`, and the word after it; a text without one is no setting
abbrev pub setting_of : List ℕ → Option NamedText
setting_of text = setting_at text (position is_equals text)

-- the names and words of texts, the last text first: of several with one name the last one counts
abbrev pub settings_of : List (List ℕ) → List NamedText
settings_of texts = filter_map setting_of (reverse texts)

-- ---- the names that a scenario has

abbrev pub is_let : LineKind → Bool
is_let line.Let = true
is_let line.Header = false
is_let line.Repeat = false
is_let line.Together = false
is_let line.End = false
is_let line.Other = false

-- the word is written as this name
abbrev pub is_written : List ℕ → Option TextWord → Bool
is_written name None = false
is_written name (Some w) = bytes_eq w.source name

-- the line is `let` with this name
abbrev pub names : List ℕ → TextLine → Bool
names name l = is_let l.kind && is_written name (slice_get l.words 1)

-- a `let` has this name
abbrev pub is_named : List TextLine → List ℕ → Bool
is_named ls name = list_any (names name) ls

-- no `let` has the name of one of the texts: what precedes its first `=`, or all of it
abbrev pub has_unnamed : List TextLine → List (List ℕ) → Bool
has_unnamed ls texts = list_any (λ t. not (is_named ls (before_first is_equals t))) texts

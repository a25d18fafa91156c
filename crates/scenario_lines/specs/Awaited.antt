-- The refusals that lines expect.
use Rattle.std.specs.Prelude.{ℕ, ◌&&◌, List, codes, Option, Some, None, Result, Ok, slice_get, if◌then◌else◌}
use Rattle.scenarios.specs.Lines.{TextLine, opens_block}
use Rattle.scenario_words.specs.declared.fault.Fault.{Fault}
use Rattle.scenario_words.specs.Faults.{◌>>=◌}
use Rattle.scenario_words.specs.Words.{FilledWord, filled_words, is_at}
use Rattle.scenario_lines.specs.declared.awaited.Awaited.{Awaited}
use Rattle.scenario_lines.specs.Scene.{SceneNow, oldest}

abbrev pub awaited_word : ℕ → Option FilledWord → Option Awaited
awaited_word number None = None
awaited_word number (Some w) = Some (record { line = number; word = w.text })

-- the word of an `expect refused WORD`
abbrev pub awaited_of : ℕ → List FilledWord → Option Awaited
awaited_of number ws = if is_at ws 0 (codes "expect") && is_at ws 1 (codes "refused") then awaited_word number (slice_get ws 2) else None

abbrev pub awaited_by : SceneNow → TextLine → ℕ → Result (Option Awaited) Fault
awaited_by s l many = do
  ws ← filled_words l.number l.words (oldest s.values many)
  Ok (awaited_of l.number ws)

-- what a line expects, with its holes filled by the oldest values, `many` of them; a line that opens a block expects nothing
abbrev pub awaited : SceneNow → TextLine → ℕ → Result (Option Awaited) Fault
awaited s l many = if opens_block l.kind then Ok None else awaited_by s l many

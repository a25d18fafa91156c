-- What a printer does with the answers of a run. No public clause cites this.
use Rattle.std.specs.Prelude.{◌≡◌, ℕ, true, false, Bool, List, [], ◌∷◌, Option, None, Some}
use Rattle.std.specs.Io.KnownBytes.{Appends}
use Rattle.machine.specs.declared.command.Reply.{Reply}
use Rattle.machine.specs.declared.config.Config.{Config}
use Rattle.printer.specs.declared.options.Options.{Options}
use Rattle.printer.specs.declared.options.Printing.{Printing}
use Rattle.printer.specs.declared.stopped.Stopped.{Stopped}
use Rattle.printer.specs.Asked.{marks_lines, speaks_on}
use Rattle.printer.specs.Prints.{texts, shown_by, refuses, any_refuses, is_end, AppendsStart}

-- what these options ask for, with pages as the configuration has them
abbrev pub asked_of : Options → Config → Printing
asked_of options config = record { options = options; page_size = config.page_size }

abbrev pub shown_in : Printing → List Reply → List Reply
shown_in asked answers = shown_by asked.page_size.bytes asked.options answers

-- where nothing is to stand before lines, `out` got what is shown of these answers, or the beginning of that
abbrev pub OutTakes : Printing → Option (List ℕ) → Option (List ℕ) → List Reply → Type 0
OutTakes asked old new answers = marks_lines asked.options ≡ false → Appends old new (texts (shown_in asked answers))

abbrev pub OutBegins : Printing → Option (List ℕ) → Option (List ℕ) → List Reply → Type 0
OutBegins asked old new answers = marks_lines asked.options ≡ false → AppendsStart old new (texts (shown_in asked answers))

-- where nothing is said while a run goes on, `err` holds what it held
abbrev pub IsQuiet : Printing → Option ℕ → Option ℕ → Option (List ℕ) → Option (List ℕ) → Type 0
IsQuiet asked shown shown' old new = speaks_on asked.options ≡ false → shown ≡ None → (shown' ≡ None) × (new ≡ old)

-- a strict run goes on behind these answers
abbrev pub GoesOn : Printing → List Reply → Type 0
GoesOn asked answers = asked.options.strict ≡ true → any_refuses answers ≡ false

abbrev pub is_ended : Option Stopped → Bool
is_ended None = false
is_ended (Some stopped) = is_end stopped

-- a strict run ends at an answer that refuses something, of which `out` got all
pub record EndsAt (asked : Printing) (old new : Option (List ℕ)) (begun : List Reply) : Type 0 where
  pub strict : asked.options.strict ≡ true
  pub last : Reply
  pub is : begun ≡ last ∷ []
  pub refused : refuses last.answer ≡ true
  pub took : OutTakes asked old new begun

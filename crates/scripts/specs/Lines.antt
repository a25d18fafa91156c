-- What reading a line gives.
use Rattle.std.specs.Prelude.{◌≡◌, ℕ, Bool, true, ◌&&◌, ◌||◌, List, [], ◌∷◌, nat_lt, Option, Some, None, Result, Ok, Err}
use Rattle.std.specs.List.{list_any}
use Rattle.std.specs.Option.{option_map}
use Rattle.machine.specs.declared.limit.TheConstants.{MOST_BLOCKS}
use Rattle.machine.specs.declared.config.File.{File}
use Rattle.scripts.specs.declared.check.Fits.{Fits}
use Rattle.scripts.specs.declared.fault.Cause.{Cause}
use Rattle.scripts.specs.declared.fault.Cause.TheVariants.{MissingArgument, HeaderAfterCommands, HeaderTwice, TooManyFiles, TooManyBlocks}
use Rattle.scripts.specs.declared.fault.LineError.{LineError}
use Rattle.scripts.specs.declared.fault.LineError.TheVariants as error
use Rattle.scripts.specs.declared.forms.Kind.{Kind}
use Rattle.scripts.specs.declared.forms.Manner.{Manner}
use Rattle.scripts.specs.declared.forms.Manner.TheVariants as manner
use Rattle.scripts.specs.declared.forms.Word.{Word}
use Rattle.scripts.specs.declared.line.Head.{Head}
use Rattle.scripts.specs.declared.line.Head.TheVariants as head
use Rattle.scripts.specs.declared.meaning.Item.{Item}
use Rattle.scripts.specs.declared.meaning.Item.TheVariants as item
use Rattle.scripts.specs.declared.mode.Mode.{Mode}
use Rattle.scripts.specs.Context.{Around}
use Rattle.scripts.specs.Forms.{form_of, same_word}
use Rattle.scripts.specs.Faults.{now, names_again, files_full, blocks_with, word_fits, number_fits, name_fits, first_of, named_faults}
use Rattle.scripts.specs.Meaning.{named_means, only_begun}

-- What a function returned is what a line with this fault, or with none and this meaning, is to give, unless memory ran out.
abbrev pub Reads : Result Item LineError → Option Cause → Item → Type 0
Reads (Ok item) fault meaning = (fault ≡ None) × (item ≡ meaning)
Reads (Err error.Memory) fault meaning = Unit {0}
Reads (Err (error.Fault cause)) fault meaning = fault ≡ Some cause

-- The same of a function that takes up what the line says.
abbrev pub Adds : Result (Unit {0}) LineError → Option Cause → Type 0 → Type 0
Adds (Ok x) fault added = (fault ≡ None) × added
Adds (Err error.Memory) fault added = Unit {0}
Adds (Err (error.Fault cause)) fault added = fault ≡ Some cause

-- What a line says, as it stands.
abbrev pub as_it_stands : Manner → Item → Item
as_it_stands manner.Whole i = i
as_it_stands manner.Begun i = only_begun i

-- The head of a line tells which faults there are to look for, and what the line means.
abbrev pub IsHead : Head → (Mode → Around → List (Bool × Cause)) → (List File → Item) → Type 0
IsHead head.Nothing faults means = ((mode : Mode) (around : Around) → first_of (faults mode around) ≡ None) × ((files : List File) → means files ≡ item.Nothing)
IsHead head.Missing faults means = (mode : Mode) (around : Around) → first_of (faults mode around) ≡ Some MissingArgument
IsHead (head.Word how task word arguments) faults means =
    ((mode : Mode) (around : Around) → faults mode around ≡ named_faults mode around how (option_map now task) word arguments.now)
    × ((files : List File) → means files ≡ as_it_stands how (named_means files (option_map now task) word arguments.now))

-- Of no argument.
abbrev pub no_misfit : Fits
no_misfit = record { words = true; numbers = true; names = true }

-- One argument more, with its place.
abbrev pub with_argument : Fits → Kind × List ℕ → Fits
with_argument fits p = record { words = fits.words && word_fits p.0 p.1; numbers = fits.numbers && number_fits p.0 p.1; names = fits.names && name_fits p.0 p.1 }

-- Those of a line's faults that what stands before it makes.
abbrev pub header_faults : Around → Word → List (List ℕ) → List (Bool × Cause)
header_faults around word arguments =
    ((form_of word).header && around.commands, HeaderAfterCommands)
    ∷ (((form_of word).once && list_any (same_word word) around.given) || names_again around.config word arguments, HeaderTwice)
    ∷ (files_full around.config word, TooManyFiles)
    ∷ (nat_lt MOST_BLOCKS (blocks_with around.config word arguments), TooManyBlocks)
    ∷ []

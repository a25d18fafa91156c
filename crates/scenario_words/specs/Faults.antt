-- What a call returned: its value, its fault, or that memory ran out.
use Rattle.std.specs.Prelude.{◌≡◌, Result, Ok, Err}
use Rattle.scenarios.specs.declared.fault.Cause.{Cause as TextCause}
use Rattle.scenarios.specs.declared.fault.Cause.TheVariants as text
use Rattle.scenarios.specs.declared.fault.ReadError.{ReadError}
use Rattle.scenarios.specs.declared.fault.ReadError.TheVariants as read
use Rattle.scenario_words.specs.declared.fault.Cause.{Cause}
use Rattle.scenario_words.specs.declared.fault.Cause.TheVariants as cause
use Rattle.scenario_words.specs.declared.fault.ExpandError.{ExpandError}
use Rattle.scenario_words.specs.declared.fault.ExpandError.TheVariants as error
use Rattle.scenario_words.specs.declared.fault.Fault.{Fault}

-- a call returned the expected value, as it is shown, or the expected fault, unless memory ran out; shown by `as_is`, for a reference by `λ x. x.now`, for a Vec by `λ x. x.items`
abbrev pub Gives : {T : Type 0} {U : Type 0} → (T → U) → Result T ExpandError → Result U Fault → Type 0
Gives shown (Ok x) expected = expected ≡ Ok (shown x)
Gives shown (Err error.Memory) expected = Unit {0}
Gives shown (Err (error.Faulty f)) expected = expected ≡ Err f

-- a value shown by itself
abbrev pub as_is : {T : Type 0} → T → T
as_is x = x

-- a call that may only fail for memory
abbrev pub GivesAlways : {T : Type 0} {U : Type 0} → (T → U) → Result T ExpandError → U → Type 0
GivesAlways shown result expected = Gives shown result (Ok expected)

-- a value or a fault, then what follows from the value: the first fault counts
infixl 10 ◌>>=◌
abbrev pub ◌>>=◌ : {A B : Type 0} → Result A Fault → (A → Result B Fault) → Result B Fault
Ok x >>= more = more x
Err f >>= more = Err f

-- ---- faults of the text

-- what is wrong with a text, as what is wrong at a word
abbrev pub text_cause : TextCause → Cause
text_cause text.NotText = cause.NotText
text_cause text.OpenQuote = cause.OpenQuote
text_cause text.EndAlone = cause.EndAlone
text_cause text.BehindEnd = cause.TooMany
text_cause text.NoEnd = cause.NoEnd

abbrev pub text_error : ReadError → ExpandError
text_error read.Memory = error.Memory
text_error (read.Faulty f) = error.Faulty (record { line = f.line; column = f.column; cause = text_cause f.cause })

-- The header: how large the machine is.
use Rattle.std.specs.Prelude.{ℕ, Bool, true, false, ◌&&◌, ◌||◌, List, [], ◌∷◌, ◌++◌, fold, find, Option, Some, None, is_none, if◌then◌else◌}
use Rattle.std.specs.List.{take_while}
use Rattle.std.specs.Str.{is_utf8}
use Rattle.machine.specs.declared.config.Config.{Config}
use Rattle.machine.specs.declared.config.Placement.TheVariants.{Own}
use Rattle.machine.specs.PageSizes.{of_4k}
use Rattle.scripts.specs.declared.fault.Cause.{Cause}
use Rattle.scripts.specs.declared.meaning.Item.{Item}
use Rattle.scripts.specs.declared.meaning.Item.TheVariants as item
use Rattle.scripts.specs.declared.forms.Word.{Word}
use Rattle.scripts.specs.declared.forms.Word.TheVariants as word
use Rattle.scripts.specs.declared.forms.Speaker.TheVariants as speaker
use Rattle.scripts.specs.declared.mode.Mode.TheVariants as mode
use Rattle.scripts.specs.Forms.{form_of, word_named, same_word}
use Rattle.scripts.specs.Context.{Around}
use Rattle.scripts.specs.Words.{words_of, is_comment}
use Rattle.scripts.specs.Meaning.{meaning}
use Rattle.scripts.specs.Faults.{fault}

-- ---- what its lines say

-- what holds where the header says nothing
abbrev pub default_config : Config
default_config = record { frames = 64; swap = 0; files = []; watermarks = record { low = 0; high = 0 }; trace = 65536; turns = 1000; recursive = false; placement = Own; page_size = of_4k }

abbrev pub config_after : Config → Item → Config
config_after c (item.Frames n) = record c { frames = n }
config_after c (item.Swap n) = record c { swap = n }
config_after c (item.File file) = record c { files = c.files ++ file ∷ [] }
config_after c (item.Marks m) = record c { watermarks = m }
config_after c (item.Trace n) = record c { trace = n }
config_after c item.Nothing = c
config_after c (item.Fails what n) = c
config_after c item.Recursive = record c { recursive = true }
config_after c (item.PageSize page_size) = record c { page_size = page_size }
config_after c (item.Does actor what) = c
config_after c (item.Begins actor what) = c
config_after c (item.Advances actor) = c
config_after c (item.Finishes actor) = c
config_after c item.EndsSetup = c

-- what the lines of the header say, one after the other
abbrev pub config_of : List Item → Config
config_of is = fold config_after default_config is

-- ---- how many frames its first `frames` line asks for

-- the word that a line begins with, if it is one of those that no task's number stands before
abbrev pub word_of : List (List ℕ) → Option Word
word_of [] = None
word_of (first ∷ more) = word_named speaker.Shell first

abbrev pub is_skipped : List (List ℕ) → Bool
is_skipped [] = true
is_skipped (first ∷ more) = is_comment first

abbrev pub is_of_header : Option Word → Bool
is_of_header None = false
is_of_header (Some w) = (form_of w).header

abbrev pub is_frames : Option Word → Bool
is_frames None = false
is_frames (Some w) = same_word w word.Frames

-- the header does not end before a line with these words
abbrev pub is_header_line : List (List ℕ) → Bool
is_header_line ws = is_skipped ws || is_of_header (word_of ws)

-- the lines of the header, and those that are skipped among them
abbrev pub header_lines : List (List ℕ) → List (List ℕ)
header_lines ls = take_while (λ l. is_utf8 l && is_header_line (words_of l)) ls

-- the first of them that begins with `frames`
abbrev pub frames_line : List (List ℕ) → Option (List ℕ)
frames_line ls = find (λ l. is_frames (word_of (words_of l))) (header_lines ls)

-- of that line, before which neither a command nor another `frames` stands: so nothing before it makes it faulty
abbrev pub at_frames : Around
at_frames = record { frames = default_config.frames; commands = false; given = []; config = default_config }

-- the frames of a machine of which the header says this alone
abbrev pub frames_of : Item → ℕ
frames_of i = (config_after default_config i).frames

-- the fault that the line has there, which is one whatever the script is read for
abbrev pub own_fault : List ℕ → Option Cause
own_fault l = fault mode.Schedule at_frames l

-- the frames that the line asks for; the default where there is none, or it has a fault
abbrev pub frames_asked : Option (List ℕ) → ℕ
frames_asked None = default_config.frames
frames_asked (Some l) = if is_none (own_fault l) then frames_of (meaning default_config.files (words_of l)) else default_config.frames

abbrev pub header_frames : List (List ℕ) → ℕ
header_frames ls = frames_asked (frames_line ls)

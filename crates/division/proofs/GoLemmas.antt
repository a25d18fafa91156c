-- Lines `go`.
use Rattle.std.proofs.Common.{◌≡◌, ℕ, zero, suc, ◌<◌, Bool, true, false, List, [], ◌∷◌, ◌++◌, take, map, length, Option, Some, None, refl, sym, ap, ◌∙◌, append_assoc, append-nil, arith}
use Rattle.std.specs.Prelude.{◌&&◌, not, fold, slice_index_or, if◌then◌else◌}
use Rattle.std.specs.Str.{is_utf8}
use Rattle.machine.specs.declared.config.File.{File}
use Rattle.machine.specs.declared.command.Actor.{Actor}
use Rattle.machine.specs.declared.command.Actor.TheVariants as actor
use Rattle.machine.specs.declared.command.Command.{Command}
use Rattle.machine.specs.Numbers.{is_numeral}
use Rattle.scripts.specs.declared.forms.Word.{Word}
use Rattle.scripts.specs.declared.forms.Word.TheVariants as word
use Rattle.scripts.specs.declared.forms.Speaker.TheVariants as speaker
use Rattle.scripts.specs.declared.meaning.Item.{Item}
use Rattle.scripts.specs.declared.meaning.Item.TheVariants as item
use Rattle.scripts.specs.Forms.{word_named, takes_line, same_word}
use Rattle.scripts.specs.Words.{words_of, is_comment}
use Rattle.scripts.specs.Meaning.{word_means, named_means, task_means, bare_means, only_begun, meaning}
use Rattle.scripts.specs.declared.fault.Cause.{Cause}
use Rattle.scripts.specs.declared.fault.Cause.TheVariants.{NotText}
use Rattle.scripts.specs.declared.mode.Mode.TheVariants.{Schedule}
use Rattle.scripts.specs.Faults.{first_of, line_faults}
use Rattle.scripts.specs.Header.{config_of, header_frames}
use Rattle.scripts.specs.Script.{with_line, items_of, around_of, IsFaultless}
use Rattle.scripts.specs.Work.{is_go}
use Rattle.division.specs.Said.{names_go, task_go, bare_go, words_go, is_go_line}

-- the first three words tell
pub kept : (ws : List (List ℕ)) → words_go (take 8 ws) ≡ words_go ws
kept [] = refl
kept (a ∷ []) = refl
kept (a ∷ b ∷ []) = refl
kept (a ∷ b ∷ c ∷ ws) = refl

-- ---- what such a line means

only_begun-go : (i : Item) → is_go (only_begun i) ≡ is_go i
only_begun-go (item.Does who what) = only_does who what
  where
    only_does : (who : Actor) (what : Command) → is_go (only_begun (item.Does who what)) ≡ false
    only_does actor.Shell what = refl
    only_does actor.Control what = refl
    only_does actor.Daemon what = refl
    only_does (actor.Task n) what = refl
only_begun-go item.EndsSetup = refl
only_begun-go item.Nothing = refl
only_begun-go (item.Frames n) = refl
only_begun-go (item.Swap n) = refl
only_begun-go (item.File file) = refl
only_begun-go (item.Marks m) = refl
only_begun-go (item.Trace n) = refl
only_begun-go (item.Fails what n) = refl
only_begun-go item.Recursive = refl
only_begun-go (item.PageSize p) = refl
only_begun-go (item.Begins who what) = refl
only_begun-go (item.Advances who) = refl
only_begun-go (item.Finishes who) = refl

word-go : (files : List File) (task : Option (List ℕ)) (w : Word) (a : List (List ℕ)) → is_go (word_means files task w a) ≡ same_word w word.Go
word-go files task word.Frames a = refl
word-go files task word.Go a = refl
word-go files task _ a = refl

named-go : (files : List File) (task : Option (List ℕ)) (o : Option Word) (a : List (List ℕ)) → is_go (named_means files task o a) ≡ names_go o
named-go files task None a = refl
named-go files task (Some w) a = word-go files task w a

task-go : (files : List File) (task : List ℕ) (ws : List (List ℕ)) → is_go (task_means files task ws) ≡ task_go ws
task-go files task [] = refl
task-go files task (w ∷ a) = named-go files (Some task) (word_named speaker.Task w) a

bare-go : (files : List File) (ws : List (List ℕ)) → is_go (bare_means files ws) ≡ bare_go ws
bare-go files [] = refl
bare-go files (first ∷ more) = by_numeral (is_numeral first)
  where
    by_numeral : (b : Bool) → is_go (if b then task_means files first more else named_means files None (word_named speaker.Shell first) more) ≡ (if b then task_go more else names_go (word_named speaker.Shell first))
    by_numeral true = task-go files first more
    by_numeral false = named-go files None (word_named speaker.Shell first) more

-- whatever files the header has
pub words-go : (files : List File) (ws : List (List ℕ)) → is_go (meaning files ws) ≡ words_go ws
words-go files [] = refl
words-go files (first ∷ more) = by_head (is_comment first) (takes_line (word_named speaker.Shell first))
  where
    by_head : (b c : Bool) → is_go (if b then item.Nothing else if c then only_begun (bare_means files more) else bare_means files (first ∷ more)) ≡ (if b then false else if c then bare_go more else bare_go (first ∷ more))
    by_head true c = refl
    by_head false true = only_begun-go (bare_means files more) ∙ bare-go files more
    by_head false false = bare-go files (first ∷ more)

-- ---- the lines of a script without a faulty line

abbrev AllText : List (List ℕ) → Type 0
AllText [] = Unit {0}
AllText (l ∷ ls) = (is_utf8 l ≡ true) × AllText ls

all_text : (ls : List (List ℕ)) → ((k : ℕ) → k < length ls → is_utf8 (slice_index_or ls k []) ≡ true) → AllText ls
all_text [] h = tt
all_text (l ∷ ls) h = (h zero (omega arith), all_text ls (λ k lt. h (suc k) (omega arith)))

text_if : (b : Bool) (rest : List (Bool × Cause)) → first_of ((not b, NotText) ∷ rest) ≡ None → b ≡ true
text_if true rest e = refl
text_if false rest e = absurd cc

map_one : (is : List Item) (i : Item) → map is_go (is ++ i ∷ []) ≡ map is_go is ++ is_go i ∷ []
map_one [] i = refl
map_one (j ∷ is) i = ap (λ (l : List Bool). is_go j ∷ l) (map_one is i)

goes_on : (is : List Item) (ls : List (List ℕ)) → AllText ls → map is_go (fold with_line is ls) ≡ map is_go is ++ map is_go_line ls
goes_on is [] h = sym (append-nil (map is_go is))
goes_on is (l ∷ ls) h =
    let here : is_go (meaning (config_of is).files (words_of l)) ≡ is_go_line l = words-go (config_of is).files (words_of l) ∙ sym (ap (λ (b : Bool). b && words_go (words_of l)) h.0) in
    goes_on (with_line is l) ls h.1 ∙ ap (λ (t : List Bool). t ++ map is_go_line ls) (map_one is (meaning (config_of is).files (words_of l)))
    ∙ append_assoc (map is_go is) (is_go (meaning (config_of is).files (words_of l)) ∷ []) (map is_go_line ls) ∙ ap (λ (b : Bool). map is_go is ++ (b ∷ map is_go_line ls)) here

pub goes_of : (ls : List (List ℕ)) → IsFaultless Schedule ls → map is_go_line ls ≡ map is_go (items_of ls)
goes_of ls h = sym (goes_on [] ls (all_text ls (λ k lt. text_if (is_utf8 (slice_index_or ls k [])) (line_faults Schedule (around_of (header_frames ls) (items_of (take k ls))) (words_of (slice_index_or ls k []))) (h k lt))))

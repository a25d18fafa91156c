-- What a faultless line has to be and to fit, by what it says.
use Rattle.std.proofs.Common.{◌≡◌, ℕ, Bool, true, false, ◌&&◌, ◌||◌, not, cond, length, List, [], ◌∷◌, Option, Some, None, refl, ap}
use Rattle.std.specs.Prelude.{find, unwrap_or, nat_le, nat_lt, ◌+◌, ◌^◌}
use Rattle.std.specs.Bool.{if◌then◌else◌}
use Rattle.std.specs.List.{list_any}
use Rattle.std.specs.Str.{is_utf8, bytes_eq}
use Rattle.std.proofs.lemmas.Slice.Eq.{bytes_eq-Decides}
use Rattle.std.proofs.lemmas.Bool.{and_parts}
use Rattle.machine.specs.Names.{is_name as is_a_name}
use Rattle.machine.specs.Numbers.{is_numeral, number_below}
use Rattle.machine.specs.declared.config.File.{File}
use Rattle.machine.specs.declared.limit.TheConstants.{MOST_FILES, MOST_BLOCKS}
use Rattle.machine.specs.State.{are_watermarks, blocks_of, is_file}
use Rattle.scripts.proofs.FileLemmas.{or_parts}
use Rattle.machine.specs.declared.command.Actor.TheVariants as actor
use Rattle.scripts.specs.declared.fault.Cause.{Cause}
use Rattle.scripts.specs.declared.fault.Cause.TheVariants.{NotText}
use Rattle.scripts.specs.declared.forms.Kind.TheVariants as kind
use Rattle.scripts.specs.declared.meaning.Item.{Item}
use Rattle.scripts.specs.declared.meaning.Item.TheVariants as item
use Rattle.scripts.specs.declared.forms.Word.{Word}
use Rattle.scripts.specs.declared.forms.Word.TheVariants as word
use Rattle.scripts.specs.declared.forms.Speaker.{Speaker}
use Rattle.scripts.specs.declared.forms.Speaker.TheVariants as speaker
use Rattle.scripts.specs.declared.forms.Manner.{Manner}
use Rattle.scripts.specs.declared.forms.Manner.TheVariants as manner
use Rattle.scripts.specs.declared.mode.Mode.{Mode}
use Rattle.scripts.specs.declared.mode.Mode.TheVariants as mode
use Rattle.scripts.specs.Words.{words_of, is_comment}
use Rattle.scripts.specs.Forms.{form_of, words, word_named, is_named, same_speaker, same_word, takes_line}
use Rattle.scripts.specs.Context.{Around}
use Rattle.scripts.specs.Meaning.{meaning, word_means, named_means, task_means, bare_means, only_begun, number_value, marks_of, at, has_name, file_of}
use Rattle.scripts.specs.Faults.{first_of, word_faults, named_faults, task_faults, bare_faults, line_faults, task_fits, all_fit, number_fits, name_fits, marks_fit, names_again, files_full, blocks_with, is_within, fault}
use Rattle.scripts.specs.Header.{word_of, is_of_header, is_frames, is_header_line, at_frames, own_fault}
use Rattle.scripts.specs.Script.{is_command}

-- ---- the words' names

found : {A : Type 0} (p : A → Bool) (xs : List A) (x : A) → find p xs ≡ Some x → p x ≡ true
found p [] x h = absurd cc
found p (y ∷ ys) x h =
    elim (p y) as (λ b. p y ≡ b → cond b (Some y) (find p ys) ≡ Some x → p x ≡ true) [
      | true ↦ λ e f. (let same : y ≡ x = cc in rw (← same) e)
      | false ↦ λ e f. found p ys x f
    ] refl h

named : (who : Speaker) (text : List ℕ) (w : Word) → word_named who text ≡ Some w → is_named who text (form_of w) ≡ true
named who text w h = found (λ v. is_named who text (form_of v)) words w h

is_name : (who : Speaker) (text : List ℕ) (w : Word) → word_named who text ≡ Some w → text ≡ (form_of w).name
is_name who text w h = (bytes_eq-Decides text (form_of w).name).0 ((and_parts (same_speaker (form_of w).speaker who) (bytes_eq text (form_of w).name) (named who text w h)).1)

-- no word of the header begins with '#' or is a number
pub not_skipped : (first : List ℕ) → word_named speaker.Shell first ≡ Some word.Frames → is_comment first ≡ false
not_skipped first h = ap is_comment (is_name speaker.Shell first word.Frames h)

number_ends : (first : List ℕ) (w : Word) → first ≡ (form_of w).name → is_numeral first ≡ true → is_of_header (Some w) ≡ false
number_ends first word.Frames e h = (let f : is_numeral first ≡ false = ap is_numeral e in absurd cc)
number_ends first word.Swap e h = (let f : is_numeral first ≡ false = ap is_numeral e in absurd cc)
number_ends first word.File e h = (let f : is_numeral first ≡ false = ap is_numeral e in absurd cc)
number_ends first word.Watermarks e h = (let f : is_numeral first ≡ false = ap is_numeral e in absurd cc)
number_ends first word.Trace e h = (let f : is_numeral first ≡ false = ap is_numeral e in absurd cc)
number_ends first word.Fault e h = (let f : is_numeral first ≡ false = ap is_numeral e in absurd cc)
number_ends first word.RecursiveProtection e h = (let f : is_numeral first ≡ false = ap is_numeral e in absurd cc)
number_ends first word.PageSize e h = (let f : is_numeral first ≡ false = ap is_numeral e in absurd cc)
number_ends first _ e h = refl

number_is_no_word : (first : List ℕ) (o : Option Word) → ((w : Word) → o ≡ Some w → first ≡ (form_of w).name) → is_numeral first ≡ true → is_of_header o ≡ false
number_is_no_word first None f h = refl
number_is_no_word first (Some w) f h = number_ends first w (f w refl) h

pub no_number : (first : List ℕ) → is_numeral first ≡ true → is_of_header (word_named speaker.Shell first) ≡ false
no_number first h = number_is_no_word first (word_named speaker.Shell first) (λ w e. is_name speaker.Shell first w e) h

-- ---- the tests of a line with a known word

abbrev AllFail : List (Bool × Cause) → Type 0
AllFail [] = Unit {0}
AllFail (c ∷ cs) = (c.0 ≡ false) × AllFail cs

fails : (b : Bool) (c : Cause) (cs : List (Bool × Cause)) → first_of ((b, c) ∷ cs) ≡ None → (b ≡ false) × (first_of cs ≡ None)
fails true c cs h = absurd cc
fails false c cs h = (refl, h)

all_fail : (cs : List (Bool × Cause)) → first_of cs ≡ None → AllFail cs
all_fail [] h = tt
all_fail (c ∷ cs) h = let p = fails c.0 c.1 cs h in (p.0, all_fail cs p.1)

-- what a faultless line with the word is not
record IsFine (a : Around) (how : Manner) (task : Option (List ℕ)) (w : Word) (ws : List (List ℕ)) : Type 0 where
  short : nat_lt (length ws) (length (form_of w).arguments) ≡ false
  numbers : (not (task_fits task) || not (all_fit number_fits (form_of w).arguments ws)) ≡ false
  marks : not (marks_fit a.frames w ws) ≡ false
  late : ((form_of w).header && a.commands) ≡ false
  names : not (all_fit name_fits (form_of w).arguments ws) ≡ false
  again : (((form_of w).once && list_any (same_word w) a.given) || names_again a.config w ws) ≡ false
  full : files_full a.config w ≡ false
  blocks : nat_lt MOST_BLOCKS (blocks_with a.config w ws) ≡ false

fine : (m : Mode) (a : Around) (how : Manner) (task : Option (List ℕ)) (w : Word) (ws : List (List ℕ)) → first_of (word_faults m a how task w ws) ≡ None → IsFine a how task w ws
fine m a how task w ws h =
    let t : AllFail (word_faults m a how task w ws) = all_fail (word_faults m a how task w ws) h in
    record { short = t.1.0; numbers = t.1.1.1.0; marks = t.1.1.1.1.0; names = t.1.1.1.1.1.1.0; late = t.1.1.1.1.1.1.1.0; again = t.1.1.1.1.1.1.1.1.0; full = t.1.1.1.1.1.1.1.1.1.0; blocks = t.1.1.1.1.1.1.1.1.1.1.0 }

not_false : (b : Bool) → not b ≡ false → b ≡ true
not_false true h = refl
not_false false h = absurd cc

alone : (b : Bool) → not (b && true) ≡ false → b ≡ true
alone true h = refl
alone false h = absurd cc

within : (least most : ℕ) (o : Option ℕ) → is_within least most o ≡ true → is_within least most (Some (unwrap_or o 0)) ≡ true
within least most None h = absurd cc
within least most (Some n) h = h

-- the one number of a line is within its limits
size : (least most : ℕ) (ws : List (List ℕ)) → nat_lt (length ws) 1 ≡ false → not (all_fit number_fits (kind.Number least most ∷ []) ws) ≡ false → is_within least most (Some (number_value (at ws 0))) ≡ true
size least most [] e h = absurd cc
size least most (x ∷ xs) e h = within least most (number_below (2 ^ 32) x) (alone (is_within least most (number_below (2 ^ 32) x)) h)

-- a file's name and pages are within their limits
both : (a b c : Bool) → not (a && (b && c)) ≡ false → (a ≡ true) × (b ≡ true)
both true true c h = (refl, refl)
both true false c h = absurd cc
both false b c h = absurd cc

least_of : (least most : ℕ) (o : Option ℕ) → is_within least most o ≡ true → nat_le least (unwrap_or o 0) ≡ true
least_of least most None h = absurd cc
least_of least most (Some n) h = (and_parts (nat_le least n) (nat_le n most) h).0

file_fits : (ws : List (List ℕ)) → nat_lt (length ws) 2 ≡ false → not (all_fit number_fits (kind.Name ∷ kind.Number 1 4294967295 ∷ []) ws) ≡ false
    → not (all_fit name_fits (kind.Name ∷ kind.Number 1 4294967295 ∷ []) ws) ≡ false → is_file (file_of (at ws 0) (at ws 1)) ≡ true
file_fits [] e n m = absurd cc
file_fits (x ∷ []) e n m = absurd cc
file_fits (x ∷ y ∷ more) e n m =
    let pages = least_of 1 4294967295 (number_below (2 ^ 32) y) (both true (is_within 1 4294967295 (number_below (2 ^ 32) y)) true n).1 in
    let name = (both (is_a_name x) true true m).0 in
    rw (name, pages) refl

-- ---- by what the line says

-- what a line is and fits that says this: whether the header goes on with it, whether it begins with `frames`, and which fault it has as the first such line and what it says there
abbrev pub Tells : Around → Bool → Bool → Option Cause → Item → Item → Type 0
Tells a goes frames own says (item.Frames n) =
    (goes ≡ true) × (frames ≡ true) × (own ≡ None) × (is_within 1 65536 (Some n) ≡ true) × (a.commands ≡ false) × (list_any (same_word word.Frames) a.given ≡ false) × (says ≡ item.Frames n)
Tells a goes frames own says (item.Swap n) = (goes ≡ true) × (frames ≡ false) × (is_within 0 65536 (Some n) ≡ true) × (nat_lt MOST_BLOCKS (blocks_of (record a.config { swap = n })) ≡ false)
Tells a goes frames own says (item.File file) =
    (goes ≡ true) × (frames ≡ false) × (is_file file ≡ true) × (list_any (has_name file.name) a.config.files ≡ false) × (nat_le MOST_FILES (length a.config.files) ≡ false)
    × (nat_lt MOST_BLOCKS (blocks_of a.config + file.pages) ≡ false)
Tells a goes frames own says (item.Marks m) = (goes ≡ true) × (frames ≡ false) × (are_watermarks m a.frames ≡ true)
Tells a goes frames own says (item.Trace n) = (goes ≡ true) × (frames ≡ false) × (is_within 1 1048576 (Some n) ≡ true)
Tells a goes frames own says (item.Fails what n) = (goes ≡ true) × (frames ≡ false)
Tells a goes frames own says item.Recursive = (goes ≡ true) × (frames ≡ false)
Tells a goes frames own says (item.PageSize p) = (goes ≡ true) × (frames ≡ false)
Tells a goes frames own says item.Nothing = (goes ≡ true) × (frames ≡ false)
Tells a goes frames own says (item.Does who what) = goes ≡ false
Tells a goes frames own says (item.Begins who what) = goes ≡ false
Tells a goes frames own says (item.Advances who) = goes ≡ false
Tells a goes frames own says (item.Finishes who) = goes ≡ false
Tells a goes frames own says item.EndsSetup = goes ≡ false

of_command : (a : Around) (goes frames : Bool) (own : Option Cause) (says i : Item) → is_command i ≡ true → goes ≡ false → Tells a goes frames own says i
of_command a goes frames own says (item.Does who what) h e = e
of_command a goes frames own says (item.Begins who what) h e = e
of_command a goes frames own says (item.Advances who) h e = e
of_command a goes frames own says (item.Finishes who) h e = e
of_command a goes frames own says item.EndsSetup h e = e
of_command a goes frames own says _ h e = absurd cc

-- a task's line is a command
task_word : (files : List File) (task text : List ℕ) (w : Word) (ws : List (List ℕ)) → is_named speaker.Task text (form_of w) ≡ true → is_command (word_means files (Some task) w ws) ≡ true
task_word files task text word.Frames ws h = absurd cc
task_word files task text word.File ws h = absurd cc
task_word files task text word.Swap ws h = absurd cc
task_word files task text word.Watermarks ws h = absurd cc
task_word files task text word.Trace ws h = absurd cc
task_word files task text word.Fault ws h = absurd cc
task_word files task text word.RecursiveProtection ws h = absurd cc
task_word files task text word.PageSize ws h = absurd cc
task_word files task text word.Begin ws h = absurd cc
task_word files task text _ ws h = refl

task_named : (files : List File) (m : Mode) (a : Around) (how : Manner) (task text : List ℕ) (o : Option Word) (ws : List (List ℕ)) → ((w : Word) → o ≡ Some w → is_named speaker.Task text (form_of w) ≡ true)
    → first_of (named_faults m a how (Some task) o ws) ≡ None → is_command (named_means files (Some task) o ws) ≡ true
task_named files m a how task text None ws f h = absurd cc
task_named files m a how task text (Some w) ws f h = task_word files task text w ws (f w refl)

task_command : (files : List File) (m : Mode) (a : Around) (how : Manner) (task : List ℕ) (ws : List (List ℕ)) → first_of (task_faults m a how task ws) ≡ None → is_command (task_means files task ws) ≡ true
task_command files m a how task [] h = absurd cc
task_command files m a how task (text ∷ ws) h = task_named files m a how task text (word_named speaker.Task text) ws (λ w e. named speaker.Task text w e) h

-- what may be begun is a command
begun_word : (files : List File) (m : Mode) (a : Around) (w : Word) (ws : List (List ℕ)) → first_of (word_faults m a manner.Begun None w ws) ≡ None → is_command (word_means files None w ws) ≡ true
begun_word files m a word.Frames ws h = absurd cc
begun_word files m a word.File ws h = absurd cc
begun_word files m a word.Swap ws h = absurd cc
begun_word files m a word.Watermarks ws h = absurd cc
begun_word files m a word.Trace ws h = absurd cc
begun_word files m a word.Fault ws h = absurd cc
begun_word files m a word.RecursiveProtection ws h = absurd cc
begun_word files m a word.PageSize ws h = absurd cc
begun_word files m a word.Begin ws h = absurd cc
begun_word files m a _ ws h = refl

begun_named : (files : List File) (m : Mode) (a : Around) (first : List ℕ) (ws : List (List ℕ)) (number : Bool) (o : Option Word)
    → first_of (if number then task_faults m a manner.Begun first ws else named_faults m a manner.Begun None o ws) ≡ None → is_command (if number then task_means files first ws else named_means files None o ws) ≡ true
begun_named files m a first ws true o h = task_command files m a manner.Begun first ws h
begun_named files m a first ws false None h = absurd cc
begun_named files m a first ws false (Some w) h = begun_word files m a w ws h

begun_command : (files : List File) (m : Mode) (a : Around) (ws : List (List ℕ)) → first_of (bare_faults m a manner.Begun ws) ≡ None → is_command (bare_means files ws) ≡ true
begun_command files m a [] h = absurd cc
begun_command files m a (first ∷ ws) h = begun_named files m a first ws (is_numeral first) (word_named speaker.Shell first) h

stays_command : (i : Item) → is_command i ≡ true → is_command (only_begun i) ≡ true
stays_command (item.Does actor.Shell what) h = refl
stays_command (item.Does who what) h = refl
stays_command _ h = h

-- a line that is no task's and not begun
by_word : (m : Mode) (a : Around) (w : Word) (ws : List (List ℕ)) → takes_line (Some w) ≡ false → first_of (word_faults m a manner.Whole None w ws) ≡ None
    → Tells a (is_of_header (Some w)) (is_frames (Some w)) (first_of (word_faults mode.Schedule at_frames manner.Whole None w ws)) (word_means [] None w ws) (word_means a.config.files None w ws)
by_word m a word.Frames ws t h =
    let f = fine m a manner.Whole None word.Frames ws h in
    let late : a.commands ≡ false = f.late in
    let again : list_any (same_word word.Frames) a.given ≡ false = (or_parts (list_any (same_word word.Frames) a.given) false f.again).0 in
    (refl, refl, rw (late, again) at h, size 1 65536 ws f.short f.numbers, late, again, refl)
by_word m a word.Swap ws t h = let f = fine m a manner.Whole None word.Swap ws h in (refl, refl, size 0 65536 ws f.short f.numbers, f.blocks)
by_word m a word.File ws t h = let f = fine m a manner.Whole None word.File ws h in (refl, refl, file_fits ws f.short f.numbers f.names, f.again, f.full, f.blocks)
by_word m a word.Watermarks ws t h = let f = fine m a manner.Whole None word.Watermarks ws h in (refl, refl, not_false (are_watermarks (marks_of (at ws 0) (at ws 1)) a.frames) f.marks)
by_word m a word.Trace ws t h = let f = fine m a manner.Whole None word.Trace ws h in (refl, refl, size 1 1048576 ws f.short f.numbers)
by_word m a word.Fault ws t h = (refl, refl)
by_word m a word.RecursiveProtection ws t h = (refl, refl)
by_word m a word.PageSize ws t h = (refl, refl)
by_word m a word.Begin ws t h = absurd cc
by_word m a _ ws t h = refl

-- ---- a line by its first word: whether it begins with '#', which word it is, and whether it is a number

abbrev pub faults_by : Mode → Around → List ℕ → List (List ℕ) → Bool → Option Word → Bool → List (Bool × Cause)
faults_by m a first ws comment o number =
    if comment then []
    else if takes_line o then bare_faults m a manner.Begun ws
    else if number then task_faults m a manner.Whole first ws
    else named_faults m a manner.Whole None o ws

abbrev pub meaning_by : List File → List ℕ → List (List ℕ) → Bool → Option Word → Bool → Item
meaning_by files first ws comment o number =
    if comment then item.Nothing
    else if takes_line o then only_begun (bare_means files ws)
    else if number then task_means files first ws
    else named_means files None o ws

no_frames : (o : Option Word) → (o ≡ Some word.Frames → ⊥) → is_frames o ≡ false
no_frames None f = refl
no_frames (Some word.Frames) f = absurd (f refl)
no_frames (Some _) f = refl

by_first : (m : Mode) (a : Around) (first : List ℕ) (ws : List (List ℕ)) (comment : Bool) (o : Option Word) (number : Bool)
    → (o ≡ Some word.Frames → comment ≡ false) → (number ≡ true → is_of_header o ≡ false) → first_of (faults_by m a first ws comment o number) ≡ None
    → Tells a (comment || is_of_header o) (is_frames o) (first_of (faults_by mode.Schedule at_frames first ws comment o number)) (meaning_by [] first ws comment o number) (meaning_by a.config.files first ws comment o number)
by_first m a first ws true o number f g h = (refl, no_frames o (λ e. let no : true ≡ false = f e in absurd cc))
by_first m a first ws false (Some word.Begin) number f g h =
    of_command a false false (first_of (bare_faults mode.Schedule at_frames manner.Begun ws)) (only_begun (bare_means [] ws)) (only_begun (bare_means a.config.files ws)) (stays_command (bare_means a.config.files ws) (begun_command a.config.files m a ws h)) refl
by_first m a first ws false None true f g h = of_command a false false (first_of (task_faults mode.Schedule at_frames manner.Whole first ws)) (task_means [] first ws) (task_means a.config.files first ws) (task_command a.config.files m a manner.Whole first ws h) refl
by_first m a first ws false None false f g h = absurd cc
by_first m a first ws false (Some w) true f g h =
    of_command a (is_of_header (Some w)) (is_frames (Some w)) (first_of (task_faults mode.Schedule at_frames manner.Whole first ws)) (task_means [] first ws) (task_means a.config.files first ws) (task_command a.config.files m a manner.Whole first ws h) (g refl)
by_first m a first ws false (Some w) false f g h = by_word m a w ws refl h

-- what the words of a faultless line tell
by_words : (m : Mode) (a : Around) (ws : List (List ℕ)) → first_of (line_faults m a ws) ≡ None → Tells a (is_header_line ws) (is_frames (word_of ws)) (first_of (line_faults mode.Schedule at_frames ws)) (meaning [] ws) (meaning a.config.files ws)
by_words m a [] h = (refl, refl)
by_words m a (first ∷ ws) h =
    by_first m a first ws (is_comment first) (word_named speaker.Shell first) (is_numeral first) (not_skipped first) (no_number first) h

-- what a faultless line tells
pub tells : (m : Mode) (a : Around) (l : List ℕ) → fault m a l ≡ None
    → (is_utf8 l ≡ true) × Tells a (is_header_line (words_of l)) (is_frames (word_of (words_of l))) (own_fault l) (meaning [] (words_of l)) (meaning a.config.files (words_of l))
tells m a l h =
    let p = fails (not (is_utf8 l)) NotText (line_faults m a (words_of l)) h in
    let u : is_utf8 l ≡ true = not_false (is_utf8 l) p.0 in
    (u, rw u (by_words m a (words_of l) p.1))

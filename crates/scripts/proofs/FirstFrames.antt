-- The header's first `frames` line has at its place the fault that it has alone.
use Rattle.std.proofs.Common.{◌≡◌, ℕ, ◌<◌, Bool, true, false, ◌||◌, List, [], ◌∷◌, ◌++◌, length, take, get_or, Option, Some, None, refl, sym, ap, ◌∙◌, subst, arith}
use Rattle.std.specs.List.{list_any, filter_map}
use Rattle.std.specs.Str.{is_utf8}
use Rattle.std.proofs.Math.Seq.{get_or-append_seam, take-append_seam}
use Rattle.std.proofs.lemmas.Bool.{or_from}
use Rattle.std.proofs.lemmas.List.{append_assoc, length-append}
use Rattle.std.proofs.lemmas.List.Folds.{list_any-append}
use Rattle.machine.specs.Numbers.{is_numeral}
use Rattle.machine.proofs.Values.{some_inj}
use Rattle.machine.specs.declared.config.File.{File}
use Rattle.scripts.specs.declared.meaning.Item.{Item}
use Rattle.scripts.specs.declared.forms.Word.{Word}
use Rattle.scripts.specs.declared.forms.Word.TheVariants as word
use Rattle.scripts.specs.declared.forms.Speaker.TheVariants as speaker
use Rattle.scripts.specs.declared.forms.Manner.TheVariants as manner
use Rattle.scripts.specs.declared.mode.Mode.{Mode}
use Rattle.scripts.specs.declared.mode.Mode.TheVariants as mode
use Rattle.scripts.specs.declared.header.Part.TheVariants as part
use Rattle.scripts.specs.Words.{words_of, is_comment}
use Rattle.scripts.specs.Forms.{word_named}
use Rattle.scripts.specs.Context.{Around}
use Rattle.scripts.specs.Meaning.{meaning}
use Rattle.scripts.specs.Faults.{fault, first_of, line_faults, word_faults}
use Rattle.scripts.specs.Header.{word_of, is_header_line, is_of_header, is_frames, at_frames, own_fault, config_of, frames_line, header_frames}
use Rattle.scripts.specs.Script.{items_of, is_command, header_word, around_of, fault_at}
use Rattle.scripts.specs.Reading.{IsPart, option_list}
use Rattle.scripts.proofs.HeaderLemmas.{frames_line-other, frames_line-frames, frames_line-behind}
use Rattle.scripts.proofs.TellLemmas.{faults_by, meaning_by, not_skipped, no_number}
use Rattle.scripts.proofs.LimitLemmas.{given_frames}
use Rattle.scripts.proofs.Loop.{commands_push, found_push, items_push}

-- ---- the lines before it

-- neither a command nor a `frames` line
abbrev IsQuiet : Item → Type 0
IsQuiet i = (is_command i ≡ false) × (given_frames (option_list (header_word i)) ≡ false)

quiet_by : (first : List ℕ) (ws : List (List ℕ)) (files : List File) (comment : Bool) (o : Option Word) (number : Bool)
    → (number ≡ true → is_of_header o ≡ false) → (comment || is_of_header o) ≡ true → is_frames o ≡ false → IsQuiet (meaning_by files first ws comment o number)
quiet_by first ws files true o number f g h = (refl, refl)
quiet_by first ws files false None number f g h = absurd cc
quiet_by first ws files false (Some w) true f g h = (let e : is_of_header (Some w) ≡ false = f refl in absurd cc)
quiet_by first ws files false (Some word.Frames) false f g h = absurd cc
quiet_by first ws files false (Some word.Swap) false f g h = (refl, refl)
quiet_by first ws files false (Some word.File) false f g h = (refl, refl)
quiet_by first ws files false (Some word.Watermarks) false f g h = (refl, refl)
quiet_by first ws files false (Some word.Trace) false f g h = (refl, refl)
quiet_by first ws files false (Some word.Fault) false f g h = (refl, refl)
quiet_by first ws files false (Some word.RecursiveProtection) false f g h = (refl, refl)
quiet_by first ws files false (Some word.PageSize) false f g h = (refl, refl)
quiet_by first ws files false (Some _) false f g h = absurd cc

quiet_words : (files : List File) (ws : List (List ℕ)) → is_header_line ws ≡ true → is_frames (word_of ws) ≡ false → IsQuiet (meaning files ws)
quiet_words files [] g h = (refl, refl)
quiet_words files (first ∷ ws) g h = quiet_by first ws files (is_comment first) (word_named speaker.Shell first) (is_numeral first) (no_number first) g h

-- ---- the line itself

-- nothing before a line of which this holds
record IsClear (a : Around) : Type 0 where
  commands : a.commands ≡ false
  given : given_frames a.given ≡ false

same_word_fault : (m : Mode) (a : Around) (ws : List (List ℕ)) → IsClear a → first_of (word_faults m a manner.Whole None word.Frames ws) ≡ first_of (word_faults mode.Schedule at_frames manner.Whole None word.Frames ws)
same_word_fault m a ws c = rw (c.commands, c.given) refl

same_by : (m : Mode) (a : Around) (first : List ℕ) (ws : List (List ℕ)) (comment : Bool) (o : Option Word) (number : Bool) → IsClear a
    → (o ≡ Some word.Frames → comment ≡ false) → (number ≡ true → is_of_header o ≡ false) → is_frames o ≡ true
    → first_of (faults_by m a first ws comment o number) ≡ first_of (faults_by mode.Schedule at_frames first ws comment o number)
same_by m a first ws comment None number c f g h = absurd cc
same_by m a first ws true (Some word.Frames) number c f g h = (let e : true ≡ false = f refl in absurd cc)
same_by m a first ws false (Some word.Frames) true c f g h = (let e : true ≡ false = g refl in absurd cc)
same_by m a first ws false (Some word.Frames) false c f g h = same_word_fault m a ws c
same_by m a first ws comment (Some _) number c f g h = absurd cc

same_words : (m : Mode) (a : Around) (ws : List (List ℕ)) → IsClear a → is_frames (word_of ws) ≡ true → first_of (line_faults m a ws) ≡ first_of (line_faults mode.Schedule at_frames ws)
same_words m a [] c h = absurd cc
same_words m a (first ∷ ws) c h = same_by m a first ws (is_comment first) (word_named speaker.Shell first) (is_numeral first) c (not_skipped first) (no_number first) h

same_fault : (m : Mode) (a : Around) (l : List ℕ) → IsClear a → IsPart part.Frames l → fault m a l ≡ own_fault l
same_fault m a l c p = rw p.0 (same_words m a (words_of l) c p.2)

-- ---- going over the lines

-- the line stands among these, and has there the fault that it has alone
abbrev IsFound : Mode → List (List ℕ) → List ℕ → Type 0
IsFound m ls l = (k : ℕ) × (k < length ls) × (get_or ls k [] ≡ l) × (fault_at m ls k ≡ own_fault l)

none_is : {A : Type 0} (o : Option A) (x : A) → o ≡ None → o ≡ Some x → ⊥
none_is o x e f = absurd cc

here : (m : Mode) (ls done rest : List (List ℕ)) (x : List ℕ) → ls ≡ done ++ x ∷ rest → IsClear (around_of (header_frames ls) (items_of done)) → IsPart part.Frames x → IsFound m ls x
here m ls done rest x e c p =
    let taken : take (length done) ls ≡ done = ap (take (length done)) e ∙ take-append_seam done (x ∷ rest) in
    let line : get_or ls (length done) [] ≡ x = ap (λ (xs : List (List ℕ)). get_or xs (length done) []) e ∙ get_or-append_seam done x rest [] in
    let within : length done < length ls = omega (arith, ap length e, length-append done (x ∷ rest)) in (
      length done,
      within,
      line,
      ap (λ (xs : List (List ℕ)). fault m (around_of (header_frames ls) (items_of xs)) (get_or ls (length done) [])) taken
          ∙ ap (λ (y : List ℕ). fault m (around_of (header_frames ls) (items_of done)) y) line
          ∙ same_fault m (around_of (header_frames ls) (items_of done)) x c p,
    )

-- one quiet line more
more_clear : (frames : ℕ) (done : List (List ℕ)) (x : List ℕ) → IsClear (around_of frames (items_of done)) → IsQuiet (meaning (config_of (items_of done)).files (words_of x)) → IsClear (around_of frames (items_of (done ++ x ∷ [])))
more_clear frames done x c q =
    let i = meaning (config_of (items_of done)).files (words_of x) in
    let items : items_of (done ++ x ∷ []) ≡ items_of done ++ i ∷ [] = items_push done x in
    record {
      commands = ap (list_any is_command) items ∙ commands_push (items_of done) i ∙ or_from (list_any is_command (items_of done)) (is_command i) c.commands q.0;
      given = ap (λ (is : List Item). given_frames (filter_map header_word is)) items ∙ ap given_frames (found_push header_word (items_of done) i)
          ∙ list_any-append _ (filter_map header_word (items_of done)) (option_list (header_word i))
          ∙ or_from (given_frames (filter_map header_word (items_of done))) (given_frames (option_list (header_word i))) c.given q.1;
    }

further : (m : Mode) (ls done rest : List (List ℕ)) (l : List ℕ) → ls ≡ done ++ rest → IsClear (around_of (header_frames ls) (items_of done)) → frames_line rest ≡ Some l → IsFound m ls l
further m ls done [] l e c h = absurd cc
further m ls done (x ∷ rest) l e c h =
    elim (is_utf8 x) as (λ b. is_utf8 x ≡ b → IsFound m ls l) [
      | false ↦ λ u. absurd (none_is (frames_line (x ∷ rest)) l (frames_line-behind x rest (rw u refl)) h)
      | true ↦ λ u. elim (is_header_line (words_of x)) as (λ b. is_header_line (words_of x) ≡ b → IsFound m ls l) [
        | false ↦ λ g. absurd (none_is (frames_line (x ∷ rest)) l (frames_line-behind x rest (rw (u, g) refl)) h)
        | true ↦ λ g. elim (is_frames (word_of (words_of x))) as (λ b. is_frames (word_of (words_of x)) ≡ b → IsFound m ls l) [
          | true ↦ λ f. (let same : x ≡ l = some_inj (sym (frames_line-frames x rest (u, g, f)) ∙ h) in subst (λ (y : List ℕ). IsFound m ls y) same (here m ls done rest x e c (u, g, f)))
          | false ↦ λ f. further m ls (done ++ x ∷ []) rest l (e ∙ sym (append_assoc done (x ∷ []) rest)) (more_clear (header_frames ls) done x c (quiet_words (config_of (items_of done)).files (words_of x) g f))
              (sym (frames_line-other x rest (u, g, f)) ∙ h)
        ] refl
      ] refl
    ] refl

pub has_own_fault : (m : Mode) (ls : List (List ℕ)) (l : List ℕ) → frames_line ls ≡ Some l → IsFound m ls l
has_own_fault m ls l h = further m ls [] ls l refl (record { commands = refl; given = refl }) h

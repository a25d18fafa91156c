-- What is read of a faultless script keeps the configuration within the machine's limits.
use Rattle.std.proofs.Common.{◌≡◌, ℕ, ◌+◌, Bool, true, false, ◌||◌, List, [], ◌∷◌, ◌++◌, Some, None, ◌⊎◌, inl, inr, refl, sym, ap, ◌∙◌, arith}
use Rattle.std.specs.Prelude.{nat_le}
use Rattle.std.specs.List.{list_any}
use Rattle.std.specs.Str.{is_utf8}
use Rattle.std.proofs.lemmas.Bool.{and_parts, or_right}
use Rattle.std.proofs.lemmas.Bool.Decides.{nat_tests}
use Rattle.std.proofs.lemmas.List.Folds.{list_any-append}
use Rattle.machine.specs.State.{are_watermarks, are_files, blocks_of, is_config}
use Rattle.scripts.proofs.FileLemmas.{no_more, files_push, blocks_push}
use Rattle.scripts.specs.declared.meaning.Item.{Item}
use Rattle.scripts.specs.declared.meaning.Item.TheVariants as item
use Rattle.scripts.specs.declared.forms.Word.{Word}
use Rattle.scripts.specs.declared.forms.Word.TheVariants as word
use Rattle.scripts.specs.declared.mode.Mode.{Mode}
use Rattle.scripts.specs.Words.{words_of}
use Rattle.scripts.specs.Forms.{same_word}
use Rattle.scripts.specs.Meaning.{meaning}
use Rattle.scripts.specs.Faults.{fault, is_within}
use Rattle.scripts.specs.Header.{word_of, is_header_line, is_frames, own_fault, default_config, frames_line, frames_asked, header_frames}
use Rattle.scripts.specs.Reading.{Known, at_start, after}
use Rattle.scripts.proofs.HeaderLemmas.{frames_line-other, frames_line-frames, frames_line-behind}
use Rattle.scripts.proofs.TellLemmas.{Tells, tells}

abbrev pub given_frames : List Word → Bool
given_frames given = list_any (same_word word.Frames) given

-- the header's frames were asked for, or it ended without, or what is left of it asks for them
abbrev Asked : List (List ℕ) → List (List ℕ) → ℕ → Bool → List Word → Type 0
Asked ls left frames commands given =
    ((frames ≡ header_frames ls) × (given_frames given ≡ true))
    ⊎ (((frames ≡ default_config.frames) × (header_frames ls ≡ default_config.frames) × (commands ≡ true))
    ⊎ ((frames ≡ default_config.frames) × (frames_line ls ≡ frames_line left)))

-- what the lines before those left leave known fits, in a script of these lines
pub record Fits (ls left : List (List ℕ)) (k : Known) : Type 0 where
  pub around : k.around.frames ≡ header_frames ls
  pub frames : is_within 1 65536 (Some k.around.config.frames) ≡ true
  pub swap : nat_le k.around.config.swap 65536 ≡ true
  pub marks : are_watermarks k.around.config.watermarks (header_frames ls) ≡ true
  pub trace : is_within 1 1048576 (Some k.around.config.trace) ≡ true
  pub files : are_files k.around.config.files ≡ true
  pub blocks : nat_le (blocks_of k.around.config) 131072 ≡ true
  pub asked : Asked ls left k.around.config.frames k.around.commands k.around.given

-- a line that asks for no frames, of the header
other : (ls left more : List (List ℕ)) (n : ℕ) (b c : Bool) (given new : List Word) → frames_line left ≡ frames_line more → Asked ls left n b given → Asked ls more n (b || c) (given ++ new)
other ls left more n b c given new e (inl p) = inl (p.0, list_any-append (same_word word.Frames) given new ∙ rw p.1 refl)
other ls left more n b c given new e (inr (inl p)) = inr (inl (p.0, p.1, rw p.2 refl))
other ls left more n b c given new e (inr (inr p)) = inr (inr (p.0, p.1 ∙ e))

-- one that ends it
command : (ls left more : List (List ℕ)) (n : ℕ) (b : Bool) (given new : List Word) → frames_line left ≡ None → Asked ls left n b given → Asked ls more n (b || true) (given ++ new)
command ls left more n b given new e (inl p) = inl (p.0, list_any-append (same_word word.Frames) given new ∙ rw p.1 refl)
command ls left more n b given new e (inr (inl p)) = inr (inl (p.0, p.1, or_right b true refl))
command ls left more n b given new e (inr (inr p)) = inr (inl (p.0, ap frames_asked (p.1 ∙ e), or_right b true refl))

-- the first that asks for frames
first : (ls left more : List (List ℕ)) (m n : ℕ) (b c : Bool) (given : List Word) (l : List ℕ) → b ≡ false → given_frames given ≡ false → frames_line left ≡ Some l → frames_asked (Some l) ≡ n
    → Asked ls left m b given → Asked ls more n c (given ++ word.Frames ∷ [])
first ls left more m n b c given l e f g h (inl p) = absurd cc
first ls left more m n b c given l e f g h (inr (inl p)) = absurd cc
first ls left more m n b c given l e f g h (inr (inr p)) =
    inl (sym (ap frames_asked (p.1 ∙ g) ∙ h), list_any-append (same_word word.Frames) given (word.Frames ∷ []) ∙ or_right (given_frames given) true refl)

-- ---- one line more

abbrev Line : Known → List ℕ → Item → Type 0
Line k l i = (is_utf8 l ≡ true) × Tells k.around (is_header_line (words_of l)) (is_frames (word_of (words_of l))) (own_fault l) (meaning [] (words_of l)) i

step : (ls left more : List (List ℕ)) (k : Known) (n : ℕ) (l : List ℕ) (i : Item) → left ≡ l ∷ more → Line k l i → Fits ls left k → Fits ls more (after k n i)
step ls left more k at l (item.Frames n) e (u, t) f =
    let asks : frames_asked (Some l) ≡ n = rw (t.2, t.6) refl in
    record {
      around = f.around;
      frames = t.3;
      swap = f.swap;
      marks = f.marks;
      trace = f.trace;
      files = f.files;
      blocks = f.blocks;
      asked = first ls left more k.around.config.frames n k.around.commands (k.around.commands || false) k.around.given l t.4 t.5 (ap frames_line e ∙ frames_line-frames l more (u, t.0, t.1)) asks f.asked;
    }
step ls left more k at l (item.Swap n) e (u, t) f =
    record {
      around = f.around;
      frames = f.frames;
      swap = (and_parts (nat_le 0 n) (nat_le n 65536) t.2).1;
      marks = f.marks;
      trace = f.trace;
      files = f.files;
      blocks = no_more (blocks_of (record k.around.config { swap = n })) 131072 t.3;
      asked = other ls left more k.around.config.frames k.around.commands false k.around.given (word.Swap ∷ []) (ap frames_line e ∙ frames_line-other l more (u, t.0, t.1)) f.asked;
    }
step ls left more k at l (item.File file) e (u, t) f =
    record {
      around = f.around;
      frames = f.frames;
      swap = f.swap;
      marks = f.marks;
      trace = f.trace;
      files = files_push k.around.config.files file f.files t.2 t.3 t.4;
      blocks = rw blocks_push (no_more (blocks_of k.around.config + file.pages) 131072 t.5);
      asked = other ls left more k.around.config.frames k.around.commands false k.around.given (word.File ∷ []) (ap frames_line e ∙ frames_line-other l more (u, t.0, t.1)) f.asked;
    }
step ls left more k at l (item.Marks n) e (u, t) f =
    record {
      around = f.around;
      frames = f.frames;
      swap = f.swap;
      marks = ap (are_watermarks n) (sym f.around) ∙ t.2;
      trace = f.trace;
      files = f.files;
      blocks = f.blocks;
      asked = other ls left more k.around.config.frames k.around.commands false k.around.given (word.Watermarks ∷ []) (ap frames_line e ∙ frames_line-other l more (u, t.0, t.1)) f.asked;
    }
step ls left more k at l (item.Trace n) e (u, t) f =
    record {
      around = f.around;
      frames = f.frames;
      swap = f.swap;
      marks = f.marks;
      trace = t.2;
      files = f.files;
      blocks = f.blocks;
      asked = other ls left more k.around.config.frames k.around.commands false k.around.given (word.Trace ∷ []) (ap frames_line e ∙ frames_line-other l more (u, t.0, t.1)) f.asked;
    }
step ls left more k at l (item.Fails what n) e (u, t) f =
    record {
      around = f.around;
      frames = f.frames;
      swap = f.swap;
      marks = f.marks;
      trace = f.trace;
      files = f.files;
      blocks = f.blocks;
      asked = other ls left more k.around.config.frames k.around.commands false k.around.given (word.Fault ∷ []) (ap frames_line e ∙ frames_line-other l more (u, t.0, t.1)) f.asked;
    }
step ls left more k at l item.Recursive e (u, t) f =
    record {
      around = f.around;
      frames = f.frames;
      swap = f.swap;
      marks = f.marks;
      trace = f.trace;
      files = f.files;
      blocks = f.blocks;
      asked = other ls left more k.around.config.frames k.around.commands false k.around.given (word.RecursiveProtection ∷ []) (ap frames_line e ∙ frames_line-other l more (u, t.0, t.1)) f.asked;
    }
step ls left more k at l (item.PageSize p) e (u, t) f =
    record {
      around = f.around;
      frames = f.frames;
      swap = f.swap;
      marks = f.marks;
      trace = f.trace;
      files = f.files;
      blocks = f.blocks;
      asked = other ls left more k.around.config.frames k.around.commands false k.around.given (word.PageSize ∷ []) (ap frames_line e ∙ frames_line-other l more (u, t.0, t.1)) f.asked;
    }
step ls left more k at l item.Nothing e (u, t) f =
    record {
      around = f.around;
      frames = f.frames;
      swap = f.swap;
      marks = f.marks;
      trace = f.trace;
      files = f.files;
      blocks = f.blocks;
      asked = other ls left more k.around.config.frames k.around.commands false k.around.given [] (ap frames_line e ∙ frames_line-other l more (u, t.0, t.1)) f.asked;
    }
step ls left more k at l _ e (u, t) f =
    record {
      around = f.around;
      frames = f.frames;
      swap = f.swap;
      marks = f.marks;
      trace = f.trace;
      files = f.files;
      blocks = f.blocks;
      asked = command ls left more k.around.config.frames k.around.commands k.around.given [] (ap frames_line e ∙ frames_line-behind l more (rw (u, t) refl)) f.asked;
    }

any : (n : ℕ) → nat_le 0 n ≡ true
any n = grind (arith, nat_tests)

pub fits_start : (mode : Mode) (ls : List (List ℕ)) → Fits ls ls (at_start mode (header_frames ls))
fits_start mode ls = record { around = refl; frames = refl; swap = refl; marks = any (header_frames ls); trace = refl; files = refl; blocks = refl; asked = inr (inr (refl, refl)) }

pub fits_after : (ls left more : List (List ℕ)) (k : Known) (n : ℕ) (l : List ℕ) → left ≡ l ∷ more → fault k.mode k.around l ≡ None → Fits ls left k → Fits ls more (after k n (meaning k.around.config.files (words_of l)))
fits_after ls left more k n l e fine f = step ls left more k n l (meaning k.around.config.files (words_of l)) e (tells k.mode k.around l fine) f

-- where nothing is left the frames are the header's
at_end : (ls : List (List ℕ)) (n : ℕ) (b : Bool) (given : List Word) → Asked ls [] n b given → n ≡ header_frames ls
at_end ls n b given (inl p) = p.0
at_end ls n b given (inr (inl p)) = p.0 ∙ sym p.1
at_end ls n b given (inr (inr p)) = p.0 ∙ sym (ap frames_asked p.1)

pub fits_end : (ls : List (List ℕ)) (k : Known) → Fits ls [] k → is_config k.around.config ≡ true
fits_end ls k f =
    let e : k.around.config.frames ≡ header_frames ls = at_end ls k.around.config.frames k.around.commands k.around.given f.asked in
    let marks : are_watermarks k.around.config.watermarks k.around.config.frames ≡ true = ap (are_watermarks k.around.config.watermarks) e ∙ f.marks in
    rw (f.frames, f.swap, marks, f.trace, f.files, f.blocks) refl

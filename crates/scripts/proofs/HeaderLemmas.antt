-- The frames that the header asks for, by the first of some lines.
use Rattle.std.proofs.Common.{◌≡◌, ℕ, Bool, ◌&&◌, List, ◌∷◌, Some, None, refl, ap, ◌∙◌}
use Rattle.std.specs.Str.{is_utf8}
use Rattle.std.proofs.lemmas.List.Sums.{take_while-cons}
use Rattle.scripts.specs.declared.header.Part.{Part}
use Rattle.scripts.specs.declared.header.Part.TheVariants as part
use Rattle.scripts.specs.Words.{words_of}
use Rattle.scripts.specs.Header.{is_header_line, frames_line, frames_asked, header_frames}
use Rattle.scripts.specs.Reading.{IsPart}

abbrev stays : List ℕ → Bool
stays l = is_utf8 l && is_header_line (words_of l)

pub frames_line-other : (l : List ℕ) (ls : List (List ℕ)) → IsPart part.Other l → frames_line (l ∷ ls) ≡ frames_line ls
frames_line-other l ls h = rw (take_while-cons stays l ls, h.0, h.1, h.2) refl

pub frames_line-frames : (l : List ℕ) (ls : List (List ℕ)) → IsPart part.Frames l → frames_line (l ∷ ls) ≡ Some l
frames_line-frames l ls h = rw (take_while-cons stays l ls, h.0, h.1, h.2) refl

pub frames_line-behind : (l : List ℕ) (ls : List (List ℕ)) → IsPart part.Behind l → frames_line (l ∷ ls) ≡ None
frames_line-behind l ls h = rw (take_while-cons stays l ls, h) refl

-- where all lines ask for what these do, the first of these asks for it, or those after it do
pub past_other : (all : ℕ) (lines : List (List ℕ)) (l : List ℕ) (more : List (List ℕ)) (p : Part) → all ≡ header_frames lines → lines ≡ l ∷ more → IsPart p l → p ≡ part.Other
    → all ≡ header_frames more
past_other all lines l more p e f h q = e ∙ ap header_frames f ∙ ap frames_asked (frames_line-other l more (rw q at h))

pub at_frames : (all : ℕ) (lines : List (List ℕ)) (l : List ℕ) (more : List (List ℕ)) (p : Part) → all ≡ header_frames lines → lines ≡ l ∷ more → IsPart p l → p ≡ part.Frames
    → all ≡ frames_asked (Some l)
at_frames all lines l more p e f h q = e ∙ ap header_frames f ∙ ap frames_asked (frames_line-frames l more (rw q at h))

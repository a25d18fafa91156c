-- The nearest of known words.
use Rattle.std.specs.Prelude.{◌≡◌, ℕ, ◌*◌, ◌<◌, ◌≤◌, Bool, ◌&&◌, List, [], ◌++◌, map, length, codes, Option, Some, None, nat_lt, nat_le, slice_index_or, if◌then◌else◌}
use Rattle.std.specs.Str.{chars}
use Rattle.strsim.specs.Edits.{osa_table}
use denote.Ref.{Bor}

-- how many characters are to be put in, left out or changed, or swapped with the next one
abbrev pub edits : List ℕ → List ℕ → ℕ
edits word known = (osa_table (chars word) (chars known)).last_row (length (chars known))

-- so few edits that a known word may be meant: two at most, and less than half of the word's characters
abbrev pub is_near : List ℕ → ℕ → Bool
is_near word count = nat_le count 2 && nat_lt (2 * count) (length (chars word))

-- the edits to a known word, if it is near
abbrev pub near_edits : List ℕ → List ℕ → Option ℕ
near_edits word known = if is_near word (edits word known) then Some (edits word known) else None

-- the words that references point to
abbrev pub texts : List (Bor (List ℕ)) → List (List ℕ)
texts known = map (λ k. k.now) known

-- the edits to the known word of a place, if it is near
abbrev pub edits_at : List ℕ → List (List ℕ) → ℕ → Option ℕ
edits_at word known place = near_edits word (slice_index_or known place [])

-- of the first known words the one of this place is near with so many edits; none is nearer, and none before it is as near
pub record IsNearestOf (word : List ℕ) (known : List (List ℕ)) (many place count : ℕ) : Type 0 where
  pub within : place < many
  pub near : edits_at word known place ≡ Some count
  pub least : (k n : ℕ) → k < many → edits_at word known k ≡ Some n → count ≤ n
  pub first : (k n : ℕ) → k < place → edits_at word known k ≡ Some n → count < n

-- none of them is near, or this one is the nearest
abbrev pub IsBestOf : List ℕ → List (List ℕ) → ℕ → Option (ℕ × ℕ) → Type 0
IsBestOf word known many None = (k : ℕ) → k < many → edits_at word known k ≡ None
IsBestOf word known many (Some best) = IsNearestOf word known many best.0 best.1

-- the place of the nearest known word; none, if none is near
abbrev pub IsNearest : List ℕ → List (List ℕ) → Option ℕ → Type 0
IsNearest word known None = (k : ℕ) → k < length known → edits_at word known k ≡ None
IsNearest word known (Some place) = (count : ℕ) × IsNearestOf word known (length known) place count

-- of the best so far and another place, the nearer one; of two that are as near, the first
abbrev pub nearer : Option (ℕ × ℕ) → ℕ → Option ℕ → Option (ℕ × ℕ)
nearer best place None = best
nearer None place (Some count) = Some (place, count)
nearer (Some best) place (Some count) = if nat_lt count best.1 then Some (place, count) else Some best

-- ---- what is said of a name that isn't known

abbrev pub meant_text : Option (List ℕ) → List ℕ
meant_text None = []
meant_text (Some known) = codes "; did you mean \"" ++ (known ++ codes "\"?")

-- no such word, group, task, file or name, and which may be meant
abbrev pub unknown_text : List ℕ → List ℕ → Option (List ℕ) → List ℕ
unknown_text kind name meant = codes "no such " ++ (kind ++ (codes " \"" ++ (name ++ (codes "\"" ++ meant_text meant))))

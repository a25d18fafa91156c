-- The order of the entries of lists that are worked together.
use Rattle.std.specs.Prelude.{◌≡◌, ℕ, suc, ◌+◌, ◌*◌, ◌<◌, Bool, true, false, not, ◌&&◌, List, [], ◌∷◌, length, Option, Some, None, nat_lt, slice_index_or, if◌then◌else◌}
use Rattle.expansion.specs.declared.merge.Cursor.{Cursor}

-- an entry is left
abbrev pub has_next : Cursor → Bool
has_next c = nat_lt c.taken c.count

-- the next entry's place i/n comes before another's, which is j/m: i * m is less than j * n
abbrev pub is_before : Cursor → Cursor → Bool
is_before a b = nat_lt ((a.taken + 1) * b.count) ((b.taken + 1) * a.count)

-- the member of a number; behind the last one there is nothing
abbrev pub member_at : List Cursor → ℕ → Cursor
member_at ms k = slice_index_or ms k (record { count = 0; taken = 0 })

-- of the first members, so many, this one comes next: it has an entry left, no other's next place is before its own, and that of one that stands above it is behind
pub record IsFirstOf (ms : List Cursor) (many m : ℕ) : Type 0 where
  pub within : m < many
  pub left : has_next (member_at ms m) ≡ true
  pub least : (k : ℕ) → k < many → has_next (member_at ms k) ≡ true → is_before (member_at ms k) (member_at ms m) ≡ false
  pub ties : (k : ℕ) → k < m → has_next (member_at ms k) ≡ true → is_before (member_at ms m) (member_at ms k) ≡ true

-- of the first members, so many, this one comes next, or none has an entry left
abbrev pub NextOf : List Cursor → ℕ → Option ℕ → Type 0
NextOf ms many None = (k : ℕ) → k < many → has_next (member_at ms k) ≡ false
NextOf ms many (Some m) = IsFirstOf ms many m

-- of all members
abbrev pub IsNext : List Cursor → Option ℕ → Type 0
IsNext ms next = NextOf ms (length ms) next

-- ---- the member that comes next

-- the first member comes next, unless the one that does of those below it, if there is one, is before it
abbrev pub first_or : Cursor → List Cursor → Option ℕ → Option ℕ
first_or c cs None = if has_next c then Some 0 else None
first_or c cs (Some m) = if has_next c && not (is_before (member_at cs m) c) then Some 0 else Some (suc m)

-- which one it is
abbrev pub next_among : List Cursor → Option ℕ
next_among [] = None
next_among (c ∷ cs) = first_or c cs (next_among cs)

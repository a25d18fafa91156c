-- What a buffer of the caller holds.
use Rattle.std.specs.Prelude.{◌≡◌, ℕ, List, ◌++◌, length, take, drop}

-- a buffer got these bytes from its front on, as many as it has room for, and the rest of it is as it was. (Excludes a byte behind the last, and bytes from the middle.)
abbrev pub Got : List ℕ → List ℕ → List ℕ → Type 0
Got old new bytes = new ≡ take (length old) bytes ++ drop (length bytes) old

-- and this is the number of all these bytes. (Excludes the number of those that fit.)
abbrev pub Gives : List ℕ → List ℕ → ℕ → List ℕ → Type 0
Gives old new count bytes = Got old new bytes × (count ≡ length bytes)

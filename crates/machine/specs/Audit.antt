-- What an audit says of a trace, which has the oldest entry first: whether it is honest and right, and where it first is not.
use Rattle.std.specs.Prelude.{ℕ, ◌-◌, ◌<◌, ◌≤◌, List, length, reverse, take}
use Rattle.machine.specs.declared.entry.Entry.{Entry}
use Rattle.machine.specs.History.{Spot, IsHonest, IsRight, Honest, Right}
use Rattle.machine.specs.FirstBytes.{first_of}

-- each arrival brought what was last written, and each read gave it
abbrev pub Passes : (Spot → ℕ) → List Entry → Type 0
Passes first history = Honest first history × Right first history

-- an entry is no wrong arrival and no wrong read, after these
abbrev pub IsGood : (Spot → ℕ) → List Entry → Entry → Type 0
IsGood first earlier entry = IsHonest first earlier entry.event × IsRight first earlier entry.event entry.reply

-- the first so many entries of a trace, as a history: the newest first
abbrev pub before : List Entry → ℕ → List Entry
before entries k = reverse (take k entries)

-- the entries before the one at this place, counted from 1, are honest and right, and with it they are not
pub record IsFirstWrong (entries : List Entry) (k : ℕ) : Type 0 where
  pub placed : 0 < k
  pub within : k ≤ length entries
  pub good : Passes (first_of (reverse entries)) (before entries (k - 1))
  pub wrong : Passes (first_of (reverse entries)) (before entries k) → ⊥

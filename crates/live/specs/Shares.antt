-- A pass's share, how many more transfers it began than it ended, from one turn to the next.
use Rattle.std.specs.Prelude.{◌≡◌, ℕ, ◌+◌, Bool, false, if◌then◌else◌, List, count_by}
use Rattle.machine.specs.declared.reply.Reply.TheVariants as reply
use Rattle.machine.specs.declared.refusal.Refusal.TheVariants.{Stranger}
use Rattle.book.specs.declared.kept.Kept.{Kept}
use Rattle.book.specs.declared.kept.Kept.TheVariants.{Call}
use Rattle.live.specs.Matching.{asks_end, begun, ended}

-- the end of a transfer was asked for with a ticket that the book did not know
abbrev pub is_strange : Kept → Bool
is_strange (Call asked (reply.Refused Stranger)) = asks_end asked
is_strange other = false

abbrev pub strange : List Kept → ℕ
strange kept = count_by is_strange kept

-- the share is as it was, unless an end was answered Stranger. (Excludes a ticket that is kept or thrown away.)
abbrev pub KeepsShare : List Kept → List Kept → Type 0
KeepsShare old new = strange new ≡ strange old → begun new + ended old ≡ begun old + ended new

-- ---- between turns

abbrev pub one_if : Bool → ℕ
one_if b = if b then 1 else 0

-- each transfer that was begun has ended, or its end was strange, or its ticket is in hand: `held` tells whether one is before, `holds` whether one is after
pub record Carries (old : List Kept) (held : ℕ) (new : List Kept) (holds : ℕ) : Type 0 where
  pub balance : begun new + (ended old + strange old + held) ≡ begun old + (ended new + strange new + holds)

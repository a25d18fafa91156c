-- How a transfer's end changes the lists of pages.
use Rattle.std.specs.Prelude.{◌≡◌, ℕ, ◌+◌, ◌==◌, not, length, if◌then◌else◌}
use Rattle.std.specs.List.{filter}
use Rattle.machine.specs.declared.config.Placement.{Placement}
use Rattle.machine.specs.declared.record.Direction.{Direction}
use Rattle.machine.specs.declared.record.Kind.{Kind}
use Rattle.machine.specs.Lists.{entry_after}
use Rattle.pages.specs.declared.end.End.{End}
use Rattle.pages.specs.declared.end.End.TheVariants.{InFrame, OnBlock}
use Rattle.counts.specs.Numbers.{times}
use Rattle.page_state.specs.Queue.{QueueOf}
use Rattle.held_pages.specs.Held.{HeldOf, entered}

-- a page is in the queue no more, and all others stay in their order
pub record LeavesQueue (old new : QueueOf) (p : ℕ) : Type 0 where
  pub numbers : new.numbers ≡ filter (λ n. not (n == p)) old.numbers
  pub counts : (n : ℕ) → times new.numbers n + (if p == n then times old.numbers p else 0) ≡ times old.numbers n
  pub fewer : length new.numbers + times old.numbers p ≡ length old.numbers
  pub room : new.room ≡ old.room

-- a page whose transfer in this direction ends in its frame is listed in its group
abbrev pub JoinsAtEnd : Placement → Direction → End → HeldOf → HeldOf → ℕ → Kind → ℕ → Type 0
JoinsAtEnd placement direction InFrame old new g kind p = new ≡ record old { lists = entered old.lists g kind p (entry_after placement direction) }
JoinsAtEnd placement direction OnBlock old new g kind p = new ≡ old

-- What workers were told, by a trace and by their passes; and the transfers that a pass began and ended.
use Rattle.std.specs.Prelude.{◌≡◌, ◌≢◌, ℕ, Bool, true, false, nat_lt, List, filter, map, count_by, All, AllPairs}
use Rattle.machine.specs.declared.reply.Reply.TheVariants as reply
use Rattle.machine.specs.declared.entry.Entry.{Entry}
use Rattle.machine.specs.History.{entries_by}
use Rattle.machine.specs.Transfers.{begins_transfer, ends_transfer}
use Rattle.book.specs.declared.kept.Asked.{Asked}
use Rattle.book.specs.declared.kept.Asked.TheVariants.{Whole, Arrival}
use Rattle.book.specs.declared.kept.Kept.{Kept}
use Rattle.book.specs.declared.kept.Kept.TheVariants.{Call, Find}
use Rattle.live.specs.declared.history.Exchange.{Exchange}
use Rattle.live.specs.Exchanges.{stands, exchange_of}
use Rattle.live.specs.Passes.{PassOf}

-- ---- what workers were told

-- what a worker was told, by a trace
abbrev pub told_of : ℕ → List Entry → List Exchange
told_of worker entries = map exchange_of (entries_by worker entries)

-- and by its pass: the events that were not refused, with their answers
abbrev pub answers_of : List Exchange → List Exchange
answers_of exchanges = filter stands exchanges

-- no two are of one worker
abbrev pub AreApart : List PassOf → Type 0
AreApart passes = AllPairs (λ (pass other : PassOf). pass.caller.worker ≢ other.caller.worker) passes

-- Each pass has just what its worker was told, no more and no less, with all bytes. Of a worker of whom no pass is here nothing is said. (Excludes a pass that lost a reply, one of another run, and
-- a trace that has an arrival with other bytes than the worker told.)
pub record Matches (entries : List Entry) (passes : List PassOf) : Type 0 where
  pub apart : AreApart passes
  pub same : All (λ (pass : PassOf). answers_of pass.exchanges ≡ told_of pass.caller.worker entries) passes

-- ---- transfers of a pass

-- a transfer begins with such an answer
abbrev pub begins : Kept → Bool
begins (Call asked answer) = begins_transfer answer
begins (Find path found) = false

abbrev pub asks_end : Asked → Bool
asks_end (Arrival ticket) = true
asks_end (Whole what) = ends_transfer what

-- and ends with such an event, where that was done
abbrev pub ends : Kept → Bool
ends (Call asked reply.Ok) = asks_end asked
ends kept = false

-- how many transfers were begun, and how many ended
abbrev pub begun : List Kept → ℕ
begun kept = count_by begins kept

abbrev pub ended : List Kept → ℕ
ended kept = count_by ends kept

-- more were begun than ended
abbrev pub has_share : List Kept → Bool
has_share kept = nat_lt (ended kept) (begun kept)

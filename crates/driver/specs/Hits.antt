-- What always holds of the marks of hits, and which frame a reply says was hit. No public clause cites it.
use Rattle.std.specs.Prelude.{◌≡◌, ℕ, ◌^◌, ◌<◌, Some}
use Rattle.marks.specs.Logs.{IsHarvested}
use Rattle.book_events.specs.declared.event.Reply.{Reply}
use Rattle.book_events.specs.declared.event.Reply.TheVariants as reply
use Rattle.driver.specs.declared.hits.HitMarks.TheInside.{Inside}

-- nobody else has a seat of these marks, and each mark that was set was taken
pub record IsTaken (h : Inside) : Type 0 where
  pub own : h.seat.table ≡ h.marks.table
  pub parts : h.seat.log.parts ≡ 2 ^ 32
  pub harvested : IsHarvested h.seat.log

-- a frame that was hit is one of so many
abbrev pub HitsWithin : ℕ → Reply → Type 0
HitsWithin frames (reply.Done byte (Some frame)) = frame.0 < frames
HitsWithin frames said = Unit {0}

-- How many entries a decision needs, and whether it may want memory: what the machine says of its event.
use Rattle.std.proofs.Common.{Some, ◌≡◌, ◌∙◌, ℕ, Bool, true, false, if◌then◌else◌, refl, sym, ap, ◌&&◌, arith}
use Rattle.machine.specs.declared.event.Event.{Event}
use Rattle.machine.specs.declared.event.Event.TheVariants as event
use Rattle.machine.specs.State.{State}
use Rattle.machine.specs.Access.{is_fetch}
use Rattle.machine.specs.Call.{need}
use Rattle.page_state.specs.declared.room.NoRoom.{NoRoom}
use Rattle.page_state.specs.declared.room.NoRoom.TheVariants as lacks
use Rattle.page_state.specs.States.{StateOf}
use Rattle.book.specs.declared.decision.Meeting.{Meeting}
use Rattle.book.specs.declared.decision.Meeting.TheVariants as meeting
use Rattle.book.specs.declared.decision.Decision.{Decision}
use Rattle.book.specs.declared.decision.Decision.TheVariants as decision
use Rattle.pages.specs.declared.source.Source.TheVariants as source
use Rattle.book.specs.declared.decision.PageFault.{PageFault}
use Rattle.book.specs.Decisions.{IsFault, met_by, MeetsSo, HasRoomFor, LacksRoomFor, IsDecided, IsOfKilled, AsksPage, WantsRoom, HasItsRoom, FindsNothing, entries_for}
use Rattle.book.proofs.MoveLemmas.{fetch-needs}
use Rattle.book.proofs.StepLemmas.{asks-need}

-- ---- accesses

unfetched : (b : Bool) → ◌≡◌ {A = ℕ} 1 (if b && false then 2 else 1)
unfetched b = grind arith

module _ (s : State) (fault : PageFault) (is : IsFault s fault) where
  access-entries : (met : Meeting) → MeetsSo s fault met → HasRoomFor s fault → entries_for (decision.Access fault met) ≡ need s (event.Access fault.task fault.place fault.op)
  access-entries meeting.Unmapped meets room = rw is.known (rw meets.0 refl)
  access-entries (meeting.Hits p f) meets room = rw is.known (rw meets.1 refl)
  access-entries meeting.Transferring meets room = rw is.known (rw meets refl)
  access-entries (meeting.NeedsPage v byte) meets room = rw is.known (rw meets.0 refl)
  access-entries (meeting.NeedsCopy v p byte) meets room = rw is.known (rw meets.0 refl)
  access-entries (meeting.NeedsFetch (source.Swapped p) g) meets room = sym (fetch-needs s fault _ g.0 is room meets.3 refl (ap (λ (n : ℕ). Some n) (sym meets.2)))
  access-entries (meeting.NeedsFetch (source.File at) g) meets room = sym (fetch-needs s fault _ fault.group.0 is room meets.0 refl refl)

  lacks-entries : (why : NoRoom) → LacksRoomFor s fault why → 1 ≡ need s (event.Access fault.task fault.place fault.op)
  lacks-entries (lacks.Over a) (g, needs, full) = rw is.known (rw needs (rw full.0 (unfetched (is_fetch (met_by s fault)))))
  lacks-entries lacks.NoFrame (g, needs, full) = rw is.known (rw needs (rw full.0 (rw full.1 (unfetched (is_fetch (met_by s fault))))))

-- ---- other events

of_killed : (s : State) (what : Event) → IsOfKilled s what → 1 ≡ need s what
of_killed s (event.Access t place op) k = rw k.1 refl
of_killed s (event.Fork t child) k = refl
of_killed s (event.Exit t) k = refl
of_killed s (event.Free t v) k = refl
of_killed s other k = absurd k

has_its_room : (s : State) (what : Event) → HasItsRoom s what → 1 ≡ need s what
has_its_room s (event.Relieve cause) met = rw met refl
has_its_room s other met = absurd met

relieved : (s : State) (what : Event) (limit : ℕ) → WantsRoom s what limit → AsksPage s what limit
relieved s (event.Relieve cause) limit wants = wants
relieved s other limit wants = absurd wants

nothing_found : (s : State) (what : Event) → FindsNothing s what → 1 ≡ need s what
nothing_found s (event.ReclaimOne g) idle = rw idle.untakeable refl
nothing_found s other idle = absurd idle

pub entries-needed : (s : StateOf) (what : Event) (decided : Decision) → IsDecided s what decided → entries_for decided ≡ need s.tables what
entries-needed s what decision.Killed is = of_killed s.tables what is.fits
entries-needed s what (decision.Access fault met) is = access-entries s.tables fault is.sound.0 met is.sound.1 is.sound.2 ∙ sym (ap (need s.tables) is.fits)
entries-needed s what (decision.Lacks fault why) is = lacks-entries s.tables fault is.sound.0 why is.sound.1 ∙ sym (ap (need s.tables) is.fits)
entries-needed s what decision.Room is = has_its_room s.tables what is.fits
entries-needed s what (decision.Take goal target found) is = sym (asks-need s.tables what target.0 true is.fits.0 is.sound.2)
entries-needed s what decision.Wait is = sym (asks-need s.tables what is.fits.0 false is.fits.1 is.fits.2)
entries-needed s what decision.Nothing is = nothing_found s.tables what is.fits
entries-needed s what (decision.Kill limit t) is = sym (asks-need s.tables what limit.0 false (relieved s.tables what limit.0 is.fits) is.sound.1.untakeable)
entries-needed s what (decision.KillAll limit victim h) is = sym (asks-need s.tables what limit.0 false (relieved s.tables what limit.0 is.fits) is.sound.1.untakeable)
entries-needed s what (decision.NoVictim limit) is = sym (asks-need s.tables what limit.0 false (relieved s.tables what limit.0 is.fits) is.sound.1.untakeable)
entries-needed s what (decision.Spawn t g) is = sym (ap (need s.tables) is.fits)
entries-needed s what (decision.Fork t child) is = sym (ap (need s.tables) is.fits)
entries-needed s what (decision.Free t at) is = sym (ap (need s.tables) is.fits)
entries-needed s what (decision.Attach t g) is = sym (ap (need s.tables) is.fits)
entries-needed s what (decision.Exit t) is = sym (ap (need s.tables) is.fits)
entries-needed s what (decision.Mkdir parent path) is = sym (ap (need s.tables) is.fits)
entries-needed s what (decision.Rmdir g) is = sym (ap (need s.tables) is.fits)
entries-needed s what (decision.Set g setting) is = sym (ap (need s.tables) is.fits)
entries-needed s what (decision.Show query) is = sym (ap (need s.tables) is.fits)

-- In each world that a run leads to over a device without faults, no call fails, and different actors call different blocks.
use Rattle.std.proofs.Common.{◌≡◌, ℕ, List, Some, refl, sym, ap, ◌∙◌, subst}
use Rattle.machine.specs.declared.command.Step.{Step}
use Rattle.machine.specs.declared.command.Reply.{Reply as Told_by}
use Rattle.machine.specs.declared.config.Config.{Config}
use Rattle.machine.specs.Pages.{Page, page_at, block_at, ticket_at}
use Rattle.machine.specs.State.{Opening, opening_of}
use Rattle.machine.specs.Call.{Past, Caller}
use Rattle.machine.proofs.Values.{some_inj}
use Rattle.block_store.specs.Device.{Disk}
use Rattle.turns.specs.declared.turn.Stage.TheVariants as stage
use Rattle.turns.specs.declared.turn.Want.{Want}
use Rattle.turns.specs.declared.turn.Want.TheVariants as want
use Rattle.turns.specs.declared.turn.Transition.{Transition}
use Rattle.driver.specs.declared.seat.Activity.{Activity}
use Rattle.driver.specs.declared.seat.Activity.TheVariants.{Rests, Begun, Does}
use Rattle.driver.specs.Schedule.{World, activity_of, first_world, wants_at, WantTurn, Runs}
use Rattle.legal.proofs.SoundLemmas.{pages_share_no_block}
use Rattle.driver.proofs.Keeps.{number_at, FineOutcome, runs_keep}
use Rattle.driver.proofs.Tickets.{KeepsAt, Tickets, tickets_rest, tickets_turn, tickets_first}
use Rattle.exchange.specs.Exchange.{IsFaultless, IsQuiet, RunsAreQuiet, block_called}
use Rattle.exchange.proofs.Calls.{still_read, still_write}

-- ---- no call fails

want_faultless : (caller : Caller) (past past' : Past) (disk disk' : Disk) (w : Want) (t : Transition) → IsFaultless disk → WantTurn caller past disk w t past' disk' → IsFaultless disk'
want_faultless caller past past' disk disk' (want.Call remembers what) t f h = subst IsFaultless (sym h.1) f
want_faultless caller past past' disk disk' (want.Read access ticket) t f h = still_read disk disk' ticket.block h.0.answered h.0.filled.bytes f h.0.reads
want_faultless caller past past' disk disk' (want.Write on ticket) t f h = still_write disk disk' ticket.block h.0.answered ticket.bytes f h.0.writes
want_faultless caller past past' disk disk' (want.End said) t f h = subst IsFaultless (sym h.2) f

-- ---- what each turn keeps

-- each ticket in hand is that of a page in transfer and in no other hand, and no call fails
pub record Kept (opening : Opening) (w : World) : Type 0 where
  pub tickets : Tickets opening w
  pub faultless : IsFaultless w.disk

pub kept_run : (opening : Opening) (old new : World) (steps : List Step) (answers : List Told_by) → Runs old steps answers new → Kept opening old → Kept opening new
kept_run opening old new steps answers runs h =
    (runs_keep (Kept opening)
    (λ w who what was idle k. record { tickets = tickets_rest opening w who what was idle k.tickets; faultless = k.faultless })
    (λ a b who now outcome at turn k.
    let t : Tickets opening b × FineOutcome outcome = tickets_turn opening a b who now outcome at turn k.tickets in
    (record { tickets = t.0; faultless = want_faultless a.caller a.past b.past a.disk b.disk (wants_at a.past now) turn.transition k.faultless turn.turns }, t.1))
    old new steps answers runs h).0

pub kept_first : (config : Config) (disk : Disk) → IsFaultless disk → Kept (opening_of config) (first_world config disk)
kept_first config disk f = record { tickets = tickets_first config disk; faultless = f }

-- ---- different actors call different blocks

-- a page is in transfer between this block and a frame, and this is the ticket in hand
record Moves (opening : Opening) (w : World) (what : Activity) (k : ℕ) : Type 0 where
  p : ℕ
  page : Page
  number : ℕ
  there : page_at w.past.state.pages p ≡ Some page
  block : block_at page.residence ≡ Some k
  ticket : ticket_at page.residence ≡ Some number
  hand : number_at what ≡ Some number

moves : (opening : Opening) (w : World) (what : Activity) (k : ℕ) → KeepsAt w.caller w.past what → block_called what ≡ Some k → Moves opening w what k
moves opening w Rests k h e = cc
moves opening w (Begun command) k h e = cc
moves opening w (Does (stage.Read access ticket)) k h e = record { p = h.p; page = h.page; number = ticket.number; there = h.there; block = ap block_at h.coming ∙ e; ticket = ap ticket_at h.coming; hand = refl }
moves opening w (Does (stage.Write on ticket)) k h e = record { p = h.p; page = h.page; number = ticket.number; there = h.there; block = ap block_at h.going ∙ e; ticket = ap ticket_at h.going; hand = refl }
moves opening w (Does other) k h e = cc

-- two actors that call one block have one ticket
one_ticket : (opening : Opening) (w : World) (what other : Activity) (k : ℕ) → Tickets opening w → (a : Moves opening w what k) → (b : Moves opening w other k) → a.number ≡ b.number
one_ticket opening w what other k h a b =
    let same : a.p ≡ b.p = pages_share_no_block opening w.past.history w.past.state h.legal a.p b.p k a.page b.page a.there b.there a.block b.block in
    let page : a.page ≡ b.page = some_inj (sym a.there ∙ (ap (page_at w.past.state.pages) same ∙ b.there)) in
    some_inj (sym a.ticket ∙ (ap (λ (p : Page). ticket_at p.residence) page ∙ b.ticket))

pub quiet : (opening : Opening) (w : World) → Kept opening w → IsQuiet w
quiet opening w h = record {
  faultless = h.faultless;
  apart = λ a b k e f.
      let x : Moves opening w (activity_of a w.seats) k = moves opening w (activity_of a w.seats) k (h.tickets.keeps a) e in
      let y : Moves opening w (activity_of b w.seats) k = moves opening w (activity_of b w.seats) k (h.tickets.keeps b) f in
      let n : x.number ≡ y.number = one_ticket opening w (activity_of a w.seats) (activity_of b w.seats) k h.tickets x y in
      h.tickets.apart a b y.number (x.hand ∙ ap Some n) y.hand;
}

pub runs_are_quiet : RunsAreQuiet
runs_are_quiet = λ config before steps answers end f runs. quiet (opening_of config) end (kept_run (opening_of config) (first_world config before) end steps answers runs (kept_first config before f))

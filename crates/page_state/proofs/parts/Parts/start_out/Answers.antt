use Rattle.std.proofs.Common.{◌≡◌, ◌<◌, ℕ, false, length, Option, Some, refl, sym, ap, subst, arith, ◌∙◌}
use Rattle.std.specs.Prelude.{IfSome}
use Rattle.machine.specs.Slots.{Changes}
use Rattle.machine.specs.Pages.{Held, Going, Page, is_held, is_in_transfer}
use Rattle.machine.specs.Lists.{HeldLists, Youngest, GoesOn}
use Rattle.aging.proofs.GroupLemmas.{listed-in}
use Rattle.counts.specs.Numbers.{times}
use Rattle.frames.specs.Pool.{PoolOf}
use Rattle.pages.specs.PagesOf.{Label, labelled, HasResidence}
use Rattle.pages.specs.Tickets.{TicketOf, new_ticket}
use Rattle.pages.specs.Transfers.{block_for}
use Rattle.page_state.specs.Room.{TakesSlot}
use Rattle.page_state.specs.Parts.{Stays, GoesTo}
use Rattle.held_pages.specs.Held.{HeldOf, left}
use Rattle.page_state.proofs.PartsLemmas.{kept-step, agree-step, relists-in, ticket-free, stands-listed, goes-out}
use Rattle.page_state.proofs.GrantLemmas.{stands-live, room-held, swap-left}
use Rattle.page_state.proofs.SpareLemmas.{spare-in}
use Rattle.page_state.proofs.WayLemmas.{swap-memory, Leaving, leaving}
use Rattle.page_state.proofs.parts.Parts.start_out.Goals as goal

pub slot_for-slot-requires-clause-written : goal.slot_for-slot-requires-clause-written
slot_for-slot-requires-clause-written c =
    let w = c.requires.held in
    λ dropped. w.3 (sym (c.way_out.ensures w.0 (Held w.1) w.2) ∙ dropped)

pub slot_for-slot-requires-clause-free : goal.slot_for-slot-requires-clause-free
slot_for-slot-requires-clause-free c =
    let w = c.requires.held in
    let swap = c.requires.swap in
    λ goes. swap-left c.args.self.now c.requires.agree (swap _ w.2 (swap-memory w.0.content w.0.dirty (sym (c.way_out.ensures w.0 (Held w.1) w.2) ∙ goes)))

pub take_spare-spare-requires : goal.take_spare-spare-requires
take_spare-spare-requires c =
    let w = c.requires.held in
    let swap = c.requires.swap in
    spare-in c.args.self.now c.requires.agree c.are_filed.ensures c.args.page.0 w.0 w.1 w.2 (swap _ w.2)

-- how it leaves
pub start_out-ticket-requires : goal.start_out-ticket-requires
start_out-ticket-requires c =
    let h = c.args.self.now in
    let w = c.requires.held in
    let takes = subst (λ way. TakesSlot way h.slots c.slot_for-slot.new.slots c.slot_for-slot.result) (c.way_out.ensures w.0 (Held w.1) w.2) c.slot_for-slot.ensures in
    record {
      held = (w.0, w.1, w.2, (leaving h c.requires.agree c.slot_for-slot.new.slots w.0 c.slot_for-slot.result takes).by);
      room = (room-held h c.requires.agree c.args.page.0 w.0 w.1 w.2).1;
    }

pub push-requires : goal.push-requires
push-requires c =
    let w = c.requires.held in
    record { room = (room-held c.args.self.now c.requires.agree c.args.page.0 w.0 w.1 w.2).0 }

pub isolate-requires : goal.isolate-requires
isolate-requires c =
    let h = c.args.self.now in
    let p = c.args.page.0 in
    let w = c.requires.held in
    let numbers = c.requires.agree.held_numbers in
    let within = subst (λ (slot : Option Page). IfSome slot (λ page. p < h.pages.numbers)) w.2 (c.are_numbered.ensures p) in
    record { listed = listed-in h.held.lists.groups w.0.group p (stands-listed h.pages.pages h.held.lists c.requires.agree.held p w.0 w.1 w.2); number = omega (arith, numbers, within) }

module _ (c : goal.After-push) (label : Label) (f : ℕ) (stood : HasResidence c.args.self.now.pages.pages c.args.page.0 label (Held f)) where
  leaves : Leaving c.args.self.now c.requires.agree c.slot_for-slot.new.slots label c.slot_for-slot.result
  leaves = leaving c.args.self.now c.requires.agree c.slot_for-slot.new.slots label c.slot_for-slot.result (subst (λ way. TakesSlot way c.args.self.now.slots c.slot_for-slot.new.slots c.slot_for-slot.result) (c.way_out.ensures label (Held f) stood) c.slot_for-slot.ensures)

  -- the page left the list of its group
  unlisted : c.isolate.new.self ≡ record (c.args.self.now.held) { lists = left c.args.self.now.held.lists label.group c.args.page.0 }
  unlisted = c.isolate.ensures label.group (stands-listed c.args.self.now.pages.pages c.args.self.now.held.lists c.requires.agree.held c.args.page.0 label f stood)

  goes : (to : Page) → is_held to ≡ false → Changes c.args.self.now.pages.pages c.start_out-ticket.new.self.pages c.args.page.0 (Some to) → GoesOn Youngest c.args.self.now.pages.pages c.args.self.now.held.lists c.start_out-ticket.new.self.pages c.isolate.new.self.lists
  goes to gone changes =
      let h = c.args.self.now in
      subst (λ (held : HeldLists). GoesOn Youngest h.pages.pages h.held.lists c.start_out-ticket.new.self.pages held) (sym (ap (λ (held : HeldOf). held.lists) unlisted))
      (goes-out h.pages.pages h.held.lists c.requires.agree.held c.args.page.0 Youngest c.start_out-ticket.new.self.pages (Some to) label f stood changes gone)

  stays : Stays c.args.self.now (record (c.args.self.now) { pages = c.start_out-ticket.new.self; pool = c.take_spare-spare.new.pool; slots = c.slot_for-slot.new.slots; held = c.isolate.new.self; moving = c.push.new.self })
  stays =
      let begins = (c.start_out-ticket.ensures label f stood).starts in
      record {
        groups = record { tree = refl; limits = refl; room = refl };
        frames = sym (ap (λ (q : PoolOf). q.frames) c.take_spare-spare.ensures);
        most_spares = sym (ap (λ (q : PoolOf). q.most_spares) c.take_spare-spare.ensures);
        blocks = leaves.blocks;
        numbers = begins.numbers;
        page_groups = begins.groups;
        page_frames = begins.frames;
        held_numbers = ap (λ (held : HeldOf). held.numbers) unlisted;
        moving_room = c.push.ensures.room;
        files = begins.files;
      }

pub returns-clause-agree : goal.returns-clause-agree
returns-clause-agree c =
    let h = c.args.self.now in
    let p = c.args.page.0 in
    let w = c.requires.held in
    let label = w.0 in
    let f = w.1 in
    let starts = (c.start_out-ticket.ensures label f w.2).starts in
    let pool = c.take_spare-spare.ensures in
    let from = Some (labelled label (Held f)) in
    let to = labelled label (Going f (block_for h.pages.files label.content c.slot_for-slot.result) c.start_out-ticket.result.number) in
    let spares = ap (λ (q : PoolOf). q.spares) pool in
    let frames = ap (λ (q : PoolOf). q.frames) pool in
    let tickets = starts.fewer in
    agree-step h _ p from (Some to)
    (record {
      stood = w.2;
      changes = starts.placed;
      kept = kept-step h.counters h.counters h.pool c.take_spare-spare.new.pool h.slots c.slot_for-slot.new.slots h.pages.pages c.start_out-ticket.new.self.pages p from (Some to) w.2 starts.placed (sym frames)
          (record {
            counts = λ m. (let k = ap (λ (q : PoolOf). times q.free m) pool in omega (arith, k));
            len = (let k = ap (λ (q : PoolOf). length q.free) pool in omega (arith, k));
          })
          (leaves c label f w.2).blocks ((leaves c label f w.2).trades f c.start_out-ticket.result.number)
          (record { tree = refl; usage = λ a lt. refl; live = stands-live h.counters h.pages.pages p label (Held f) w.2 c.requires.agree.kept.counted })
          c.requires.agree.kept;
      stays = stays c label f w.2;
      generation = Youngest;
      goes = goes c label f w.2 to refl starts.placed;
      apart = λ was now. absurd cc;
      moving = relists-in is_in_transfer h.moving.numbers c.push.new.self.numbers p p from (Some to) refl refl refl c.push.ensures.counts c.push.ensures.more;
      spares = omega (arith, spares);
      tickets = omega (arith, tickets);
    })
    c.requires.agree

pub returns-clause-begins : goal.returns-clause-begins
returns-clause-begins c =
    λ label f stood.
    let h = c.args.self.now in
    let p = c.args.page.0 in
    let ticket = c.start_out-ticket.result in
    let begins = c.start_out-ticket.ensures label f stood in
    let block : block_for h.pages.files label.content c.slot_for-slot.result ≡ ticket.block = sym (ap (λ (t : TicketOf). t.block) begins.starts.given) in
    record {
      block = subst (GoesTo h label.content label.dirty) block (leaves c label f stood).to;
      begins = record {
        ticket_free = ticket-free h.pages.pages h.pages.flights ticket.number c.are_in_flight.ensures begins.starts.free;
        given = subst (λ x. ticket ≡ new_ticket ticket.number x ticket.bytes) block begins.starts.given;
        placed = subst (λ x. Changes h.pages.pages c.start_out-ticket.new.self.pages p (Some (labelled label (Going f x ticket.number)))) block begins.starts.placed;
        listed = begins.starts.listed;
      };
      holds = begins.holds;
      bytes = begins.bytes;
      held = goes c label f stood _ refl begins.starts.placed;
      stays = stays c label f stood;
    }

use Rattle.std.proofs.Common.{◌≡◌, ◌<◌, true, length, Some, refl, sym, ap, subst, arith}
use Rattle.machine.specs.Tree.{is_live}
use Rattle.machine.specs.Pages.{Coming, page_at, is_in_transfer}
use Rattle.machine.specs.Lists.{Youngest}
use Rattle.machine.proofs.SlotLemmas.{one_if}
use Rattle.group_tree.proofs.LineageLemmas.{live-within}
use Rattle.page_counter.specs.Counts.{Charges}
use Rattle.files.specs.Files.{FilesOf}
use Rattle.pages.specs.PagesOf.{labelled}
use Rattle.pages.specs.Transfers.{IsReadable, StartsFrom}
use Rattle.page_state.specs.declared.parts.Parts.{Parts}
use Rattle.page_state.specs.Owned.{PartsAgree}
use Rattle.page_state.specs.Parts.{Stays}
use Rattle.page_state.specs.States.{StateOf}
use Rattle.page_state.specs.Changes.{files_of}
use Rattle.page_state.proofs.CountLemmas.{charge-usage}
use Rattle.page_state.proofs.PartsLemmas.{kept-step, agree-step, relists-in, ticket-free, goes-at}
use Rattle.page_state.proofs.GrantLemmas.{number-free, room-free, few-charged, granted-over, granted-some, granted-frame, granted-framed}
use Rattle.page_state.proofs.FetchLemmas.{IsFetched, fetched}
use Rattle.page_state.proofs.JoinLemmas.{files-opened, seen-live, seen-granted}
use Rattle.page_state.proofs.AccessLemmas.{tables-same, reads-same, joined-read}
use Rattle.page_state.proofs.joined.State.start_in.Goals as goal

pub take_room-frame-requires-clause-live : goal.take_room-frame-requires-clause-live
take_room-frame-requires-clause-live c = seen-live c.self.inside c.self.invariant _ c.self.view_is c.args.group.0 c.requires.live

pub take_room-frame-requires-clause-few : goal.take_room-frame-requires-clause-few
take_room-frame-requires-clause-few c = few-charged c.self.inside.parts c.self.invariant.agree c.are_counted.ensures.lineage

pub take_room-frame-requires-clause-under : goal.take_room-frame-requires-clause-under
take_room-frame-requires-clause-under c = granted-over c.self.inside.parts c.self.invariant.agree c.args.group.0 c.are_counted.ensures.lineage (seen-live c.self.inside c.self.invariant _ c.self.view_is c.args.group.0 c.requires.live) (seen-granted c.self.inside c.self.invariant _ c.self.view_is c.args.group.0 c.requires.room)

pub take_room-frame-requires-clause-free : goal.take_room-frame-requires-clause-free
take_room-frame-requires-clause-free c = granted-some c.self.inside.parts c.self.invariant.agree c.args.group.0 (seen-granted c.self.inside c.self.invariant _ c.self.view_is c.args.group.0 c.requires.room)

pub start_in-ticket-requires : goal.start_in-ticket-requires
start_in-ticket-requires c =
    let s = c.self.inside in
    let h = s.parts in
    let is = c.self.invariant.agree in
    let room = c.take_room-frame.ensures in
    let readable = subst (λ (s : StateOf). IsReadable s.tables.pages (files_of s.tables.opening) c.args.from) (sym c.self.view_is) c.requires.readable in
    record {
      readable = subst (λ (files : FilesOf). IsReadable h.pages.pages files c.args.from) (sym (files-opened s c.self.invariant)) readable;
      room = λ new. number-free h is c.are_filed.ensures (granted-some c.self.inside.parts c.self.invariant.agree c.args.group.0 (seen-granted c.self.inside c.self.invariant _ c.self.view_is c.args.group.0 c.requires.room));
      group = subst (λ n. c.take_room-frame.result.1 < n) (sym is.page_groups) (subst (λ g. g < length h.counters.tree) (sym room.group) (live-within h.counters.tree c.args.group.0 (seen-live c.self.inside c.self.invariant _ c.self.view_is c.args.group.0 c.requires.live)));
      unused = (granted-frame h is c.take_room-frame.new.counters c.take_room-frame.new.pool _ _ _ room).1;
      framed = granted-framed h is c.take_room-frame.new.counters c.take_room-frame.new.pool _ _ _ room;
      tickets = (room-free h is (granted-some c.self.inside.parts c.self.invariant.agree c.args.group.0 (seen-granted c.self.inside c.self.invariant _ c.self.view_is c.args.group.0 c.requires.room))).1;
    }

pub push-requires : goal.push-requires
push-requires c = record { room = (room-free c.self.inside.parts c.self.invariant.agree (granted-some c.self.inside.parts c.self.invariant.agree c.args.group.0 (seen-granted c.self.inside c.self.invariant _ c.self.view_is c.args.group.0 c.requires.room))).0 }

module _ (c : goal.After-push) where
  abbrev after : Parts
  after = record (c.self.inside.parts) { pages = c.start_in-ticket.new.self; counters = c.take_room-frame.new.counters; pool = c.take_room-frame.new.pool; moving = c.push.new.self }

  -- it begins to be read in, charged to the group
  starts : StartsFrom c.self.inside.parts.pages after.pages c.args.from c.args.group.0 c.start_in-ticket.result.0.0 c.take_room-frame.result.0.number c.start_in-ticket.result.1
  starts = subst (λ g. StartsFrom c.self.inside.parts.pages c.start_in-ticket.new.self c.args.from g c.start_in-ticket.result.0.0 c.take_room-frame.result.0.number c.start_in-ticket.result.1) c.take_room-frame.ensures.group c.start_in-ticket.ensures

  was : IsFetched (page_at c.self.inside.parts.pages.pages c.start_in-ticket.result.0.0) starts.label starts.block c.args.group.0
  was = fetched c.self.inside.parts.pages.pages c.self.inside.parts.pages.numbers c.self.inside.parts.pages.files c.args.from c.args.group.0 c.start_in-ticket.result.0.0 starts.label starts.block starts.reads

  stays : Stays c.self.inside.parts after
  stays =
      let begins = starts.starts.starts in
      record {
        groups = c.take_room-frame.ensures.charged.groups;
        frames = c.take_room-frame.ensures.frame.frames;
        most_spares = c.take_room-frame.ensures.frame.most_spares;
        blocks = refl;
        numbers = begins.numbers;
        page_groups = begins.groups;
        page_frames = begins.frames;
        held_numbers = refl;
        moving_room = c.push.ensures.room;
        files = begins.files;
      }

  agree : PartsAgree after
  agree =
      let h = c.self.inside.parts in
      let p = c.start_in-ticket.result.0.0 in
      let f = c.take_room-frame.result.0.number in
      let room = c.take_room-frame.ensures in
      let begins = starts.starts.starts in
      let from = page_at h.pages.pages p in
      let n = c.start_in-ticket.result.1.number in
      let to = Some (labelled starts.label (Coming f starts.block n)) in
      let pages = after.pages.pages in
      let spares = room.frame.spares in
      let tickets = begins.fewer in
      let moved = ap one_if was.moving in
      let left = ap one_if was.going in
      agree-step h _ p from to
      (record {
        stood = refl;
        changes = begins.placed;
        kept = kept-step h.counters c.take_room-frame.new.counters h.pool c.take_room-frame.new.pool h.slots h.slots h.pages.pages pages p from to refl begins.placed room.frame.frames
            (record { counts = λ m. (let k = room.frame.counts m in let none = ap one_if (was.frame m) in omega (arith, k, none)); len = (let k = room.frame.fewer in let none = ap one_if was.framed in omega (arith, k, none)) })
            refl (record { counts = λ m. (let same = ap one_if (was.blocks f n m) in omega (arith, same)); len = (let same = ap one_if (was.swap f n) in omega (arith, same)) })
            (record {
              tree = room.charged.groups.tree;
              usage = λ a lt. (let u = charge-usage h.counters c.take_room-frame.new.counters starts.label.group a (subst (Charges h.counters c.take_room-frame.new.counters) (sym was.group) room.charged) lt in let none = ap one_if (was.charged h.counters.tree a) in omega (arith, u, none));
              live = subst (λ g. is_live h.counters.tree g ≡ true) (sym was.group) (seen-live c.self.inside c.self.invariant _ c.self.view_is c.args.group.0 c.requires.live);
            })
            c.self.invariant.agree.kept;
        stays = stays;
        generation = Youngest;
        goes = goes-at h.pages.pages h.held.lists c.self.invariant.agree.held p Youngest pages from to refl begins.placed (sym was.held);
        apart = λ was now. absurd cc;
        moving = relists-in is_in_transfer h.moving.numbers c.push.new.self.numbers p p from to refl was.moving refl c.push.ensures.counts c.push.ensures.more;
        spares = omega (arith, spares, left);
        tickets = omega (arith, tickets, moved);
      })
      c.self.invariant.agree

pub invariant_of-self : goal.invariant_of-self
invariant_of-self c =
    joined-read c.self.inside c.self.invariant (after c) (agree c) (stays c) c.args.from c.args.group.0 c.start_in-ticket.result.0.0 (starts c).label c.take_room-frame.result.0.number (starts c).block c.start_in-ticket.result.1.number (starts c).reads (starts c).starts.starts.placed

pub returns-clause-begins : goal.returns-clause-begins
returns-clause-begins c =
    let s = c.self.inside in
    let h = s.parts in
    let p = c.start_in-ticket.result.0.0 in
    let ticket = c.start_in-ticket.result.1 in
    let frame = granted-frame h c.self.invariant.agree c.take_room-frame.new.counters c.take_room-frame.new.pool _ _ _ c.take_room-frame.ensures in
    let it = starts c in
    let begins = it.starts.starts in
    rw (← c.self.view_is)
    (record {
      page = p;
      label = it.label;
      block = it.block;
      reads = reads-same s c.self.invariant (after c) (agree c) (stays c) c.args.from c.args.group.0 p it.label it.block it.reads;
      begins = record {
        frame = c.take_room-frame.result.0.number;
        frame_free = record { in_range = subst (λ n. c.take_room-frame.result.0.number < n) c.self.invariant.frames frame.0; unused = frame.1 };
        begins = record { ticket_free = ticket-free h.pages.pages h.pages.flights ticket.number c.are_in_flight.ensures begins.free; given = begins.given; placed = begins.placed; listed = begins.listed };
        tables = tables-same s c.self.invariant (after c) (agree c) (stays c);
        bytes = it.starts.bytes;
        held = goes-at h.pages.pages h.held.lists c.self.invariant.agree.held p Youngest (after c).pages.pages (page_at h.pages.pages p) _ refl begins.placed (sym (was c).held);
        cursors = refl;
      };
    })

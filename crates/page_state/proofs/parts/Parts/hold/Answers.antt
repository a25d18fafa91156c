use Rattle.std.proofs.Common.{◌≡◌, ◌<◌, ◌∙◌, ℕ, length, None, Some, refl, sym, ap, subst, arith}
use Rattle.machine.specs.Slots.{Changes, there_and}
use Rattle.machine.specs.Pages.{page_at, is_held, is_in_transfer}
use Rattle.machine.specs.Lists.{HeldLists, Youngest, GoesOn}
use Rattle.machine.specs.Step.{new_page}
use Rattle.machine.specs.declared.record.Kind.TheVariants.{Anon}
use Rattle.pages.specs.PagesOf.{PagesOf, memory_of}
use Rattle.page_state.specs.Parts.{Stays}
use Rattle.held_pages.specs.Held.{HeldOf, entered}
use Rattle.page_state.proofs.CountLemmas.{charge-usage}
use Rattle.page_state.proofs.PartsLemmas.{kept-step, agree-step, relists-same, absent-unlisted, goes-in}
use Rattle.page_state.proofs.GrantLemmas.{group-listed, number-free, few-charged, granted-over, granted-some, granted-frame, granted-framed}
use Rattle.page_state.proofs.parts.Parts.hold.Goals as goal

pub take_room-frame-requires-clause-few : goal.take_room-frame-requires-clause-few
take_room-frame-requires-clause-few c = few-charged c.args.self.now c.requires.agree c.are_counted.ensures.lineage

pub take_room-frame-requires-clause-under : goal.take_room-frame-requires-clause-under
take_room-frame-requires-clause-under c =
    let live = c.requires.live in
    granted-over c.args.self.now c.requires.agree c.args.group.0 c.are_counted.ensures.lineage live c.requires.granted

pub take_room-frame-requires-clause-free : goal.take_room-frame-requires-clause-free
take_room-frame-requires-clause-free c = granted-some c.args.self.now c.requires.agree c.args.group.0 c.requires.granted

pub add-requires : goal.add-requires
add-requires c =
    let h = c.args.self.now in
    let live = c.requires.live in
    let numbers = c.requires.agree.held_numbers in
    let within = c.make_page-page.ensures.within in
    record {
      group = group-listed h c.requires.agree c.args.group.0 live;
      number = omega (arith, numbers, within);
      unlisted = absent-unlisted h.pages.pages h.held.lists c.requires.agree.held c.make_page-page.result.0 (ap (there_and is_held) c.make_page-page.ensures.free);
    }

pub make_page-page-requires-clause-room : goal.make_page-page-requires-clause-room
make_page-page-requires-clause-room c =
    let some = granted-some c.args.self.now c.requires.agree c.args.group.0 c.requires.granted in
    number-free c.args.self.now c.requires.agree c.are_filed.ensures some

pub make_page-page-requires-clause-unused : goal.make_page-page-requires-clause-unused
make_page-page-requires-clause-unused c = (granted-frame c.args.self.now c.requires.agree c.take_room-frame.new.counters c.take_room-frame.new.pool _ _ _ c.take_room-frame.ensures).1

pub make_page-page-requires-clause-framed : goal.make_page-page-requires-clause-framed
make_page-page-requires-clause-framed c = granted-framed c.args.self.now c.requires.agree c.take_room-frame.new.counters c.take_room-frame.new.pool _ _ _ c.take_room-frame.ensures

stays : (c : goal.After-add) → Stays c.args.self.now (record (c.args.self.now) { pages = c.make_page-page.new.pages; counters = c.take_room-frame.new.counters; pool = c.take_room-frame.new.pool; held = c.add.new.self })
stays c = record {
  groups = c.take_room-frame.ensures.charged.groups;
  frames = c.take_room-frame.ensures.frame.frames;
  most_spares = c.take_room-frame.ensures.frame.most_spares;
  blocks = refl;
  numbers = ap (λ (t : PagesOf). t.numbers) c.make_page-page.ensures.others;
  page_groups = ap (λ (t : PagesOf). t.groups) c.make_page-page.ensures.others;
  page_frames = ap (λ (t : PagesOf). t.frames) c.make_page-page.ensures.others;
  held_numbers = ap (λ (held : HeldOf). held.numbers) c.add.ensures;
  moving_room = refl;
  files = ap (λ (t : PagesOf). t.files) c.make_page-page.ensures.others;
}

goes : (c : goal.After-add) (g f : ℕ) → page_at c.args.self.now.pages.pages c.make_page-page.result.0 ≡ None → g ≡ c.args.group.0
    → Changes c.args.self.now.pages.pages c.make_page-page.new.pages.pages c.make_page-page.result.0 (Some (new_page g f)) → GoesOn Youngest c.args.self.now.pages.pages c.args.self.now.held.lists c.make_page-page.new.pages.pages c.add.new.self.lists
goes c g f free own placed =
    let h = c.args.self.now in
    let numbers = c.requires.agree.held_numbers in
    let counts = c.are_generations.ensures.counts in
    let is = c.make_page-page.ensures.within in
    let within : c.make_page-page.result.0 < length h.held.lists.hits = omega (arith, numbers, counts, is) in
    subst (λ (held : HeldLists). GoesOn Youngest h.pages.pages h.held.lists c.make_page-page.new.pages.pages held)
    (ap (λ (x : ℕ). entered h.held.lists x Anon c.make_page-page.result.0 Youngest) own ∙ sym (ap (λ (held : HeldOf). held.lists) c.add.ensures))
    (goes-in h.pages.pages h.held.lists c.requires.agree.held c.make_page-page.result.0 Youngest c.make_page-page.new.pages.pages None (memory_of g) f free refl placed within)

pub returns-clause-agree : goal.returns-clause-agree
returns-clause-agree c =
    let h = c.args.self.now in
    let live = c.requires.live in
    let p = c.make_page-page.result.0 in
    let g = c.args.group.0 in
    let f = c.take_room-frame.result.0.number in
    let room = c.take_room-frame.ensures in
    let pages = c.make_page-page.new.pages.pages in
    let free = c.make_page-page.ensures.free in
    let placed = subst (λ x. Changes h.pages.pages pages p (Some (new_page x f))) room.group c.make_page-page.ensures.placed in
    let tickets = ap (λ (t : PagesOf). t.tickets) c.make_page-page.ensures.others in
    let spares = room.frame.spares in
    agree-step h _ p None (Some (new_page g f))
    (record {
      stood = free;
      changes = placed;
      kept = kept-step h.counters c.take_room-frame.new.counters h.pool c.take_room-frame.new.pool h.slots h.slots h.pages.pages pages p None (Some (new_page g f)) free placed room.frame.frames
          (record { counts = λ n. (let k = room.frame.counts n in omega (arith, k)); len = (let k = room.frame.fewer in omega (arith, k)) })
          refl (record { counts = λ n. refl; len = refl })
          (record { tree = room.charged.groups.tree; usage = λ a lt. (let u = charge-usage h.counters c.take_room-frame.new.counters g a room.charged lt in omega (arith, u)); live = live })
          c.requires.agree.kept;
      stays = stays c;
      generation = Youngest;
      goes = goes c g f free refl placed;
      apart = λ was now. absurd cc;
      moving = relists-same is_in_transfer h.moving.numbers p None (Some (new_page g f)) refl;
      spares = omega (arith, spares);
      tickets = omega (arith, tickets);
    })
    c.requires.agree

pub returns-clause-adds : goal.returns-clause-adds
returns-clause-adds c =
    let h = c.args.self.now in
    let p = c.make_page-page.result.0 in
    let g = c.args.group.0 in
    let f = c.take_room-frame.result.0.number in
    let room = c.take_room-frame.ensures in
    let free = c.make_page-page.ensures.free in
    let placed = subst (λ x. Changes h.pages.pages c.make_page-page.new.pages.pages p (Some (new_page x f))) room.group c.make_page-page.ensures.placed in
    let frame = granted-frame h c.requires.agree c.take_room-frame.new.counters c.take_room-frame.new.pool _ _ _ room in
    record {
      frame = f;
      in_range = frame.0;
      unused = frame.1;
      adds = record { number_free = free; placed = placed; bytes = c.make_page-page.ensures.bytes; flights = ap (λ (t : PagesOf). t.flights) c.make_page-page.ensures.others };
      held = goes c g f free refl placed;
      stays = stays c;
    }

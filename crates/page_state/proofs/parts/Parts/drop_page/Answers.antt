use Rattle.std.proofs.Common.{◌≡◌, ◌<◌, false, cond, ne_eqb, refl, Option, Some, None, sym, ap, ◌∙◌, subst, arith}
use Rattle.std.specs.Prelude.{IfSome}
use Rattle.machine.specs.Slots.{there_and}
use Rattle.machine.specs.Pages.{Page, is_in_transfer}
use Rattle.machine.specs.Lists.{Youngest, GoesOn}
use Rattle.machine.proofs.SlotLemmas.{one_if}
use Rattle.pages.specs.PagesOf.{PagesOf, byte_in}
use Rattle.page_state.specs.Parts.{Stays}
use Rattle.pages.specs.Records.{page_of}
use Rattle.page_state.proofs.PartsLemmas.{agree-step, relists-same, not-going, goes-dropped}
use Rattle.page_state.proofs.parts.Parts.drop_page.Goals as goal

goes : (c : goal.After-unlist) → GoesOn Youngest c.args.self.now.pages.pages c.args.self.now.held.lists c.drop_page-owned.new.self.pages c.unlist.new.self.lists × (c.unlist.new.self.numbers ≡ c.args.self.now.held.numbers)
goes c =
    let h = c.args.self.now in
    goes-dropped h.pages.pages h.held c.requires.agree.held c.args.page.0 c.drop_page-owned.new.self.pages (Some (page_of c.drop_page-owned.result)) c.drop_page-owned.ensures.owned c.drop_page-owned.ensures.gone c.unlist.new.self c.unlist.ensures.listed c.unlist.ensures.unlisted

stays : (c : goal.After-unlist) → Stays c.args.self.now (record (c.args.self.now) { pages = c.drop_page-owned.new.self; counters = c.release.new.counters; pool = c.release.new.pool; slots = c.release.new.slots; held = c.unlist.new.self })
stays c = record {
  groups = c.release.ensures.groups;
  frames = c.release.ensures.frames;
  most_spares = c.release.ensures.most_spares;
  blocks = c.release.ensures.blocks;
  numbers = ap (λ (t : PagesOf). t.numbers) c.drop_page-owned.ensures.others;
  page_groups = ap (λ (t : PagesOf). t.groups) c.drop_page-owned.ensures.others;
  page_frames = ap (λ (t : PagesOf). t.frames) c.drop_page-owned.ensures.others;
  held_numbers = (goes c).1;
  moving_room = refl;
  files = ap (λ (t : PagesOf). t.files) c.drop_page-owned.ensures.others;
}

pub returns-clause-agree : goal.returns-clause-agree
returns-clause-agree c =
    let h = c.args.self.now in
    let p = c.args.page.0 in
    let dropped = c.drop_page-owned.ensures in
    let from = Some (page_of c.drop_page-owned.result) in
    let pages = c.drop_page-owned.new.self.pages in
    let unmoved = c.requires.settled in
    let settled : there_and is_in_transfer from ≡ false = sym (ap (there_and is_in_transfer) dropped.owned) ∙ unmoved in
    let going = not-going from settled in
    let spares = c.release.ensures.spares in
    let tickets = ap (λ (t : PagesOf). t.tickets) dropped.others in
    agree-step h _ p from None
    (record {
      stood = dropped.owned;
      changes = dropped.gone;
      kept = c.release.ensures.releases h.pages.pages pages p dropped.owned dropped.gone c.requires.agree.kept;
      stays = stays c;
      generation = Youngest;
      goes = (goes c).0;
      apart = λ was now. absurd cc;
      moving = relists-same is_in_transfer h.moving.numbers p from None settled;
      spares = omega (arith, spares, going);
      tickets = (let none = ap one_if settled in omega (arith, tickets, none));
    })
    c.requires.agree

pub returns-clause-drops : goal.returns-clause-drops
returns-clause-drops c =
    let dropped = c.drop_page-owned.ensures in
    record {
      drops = record { gone = dropped.gone; others = λ q o other. dropped.bytes q o ∙ ap (λ b. cond b 0 (byte_in c.args.self.now.pages.bytes q o)) (ne_eqb q c.args.page.0 other); flights = ap (λ (t : PagesOf). t.flights) dropped.others };
      held = (goes c).0;
      stays = stays c;
    }

pub unlist-requires : goal.unlist-requires
unlist-requires c =
    let numbers = c.requires.agree.held_numbers in
    let within = subst (λ (slot : Option Page). IfSome slot (λ page. c.args.page.0 < c.args.self.now.pages.numbers)) c.drop_page-owned.ensures.owned (c.are_numbered.ensures c.args.page.0) in
    omega (arith, numbers, within)

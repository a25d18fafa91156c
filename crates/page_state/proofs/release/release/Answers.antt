use Rattle.std.proofs.Common.{◌≡◌, true, Some, None, refl, sym, ap, ◌∙◌, arith}
use Rattle.machine.specs.Pages.{is_anon, Held, Away, is_some_number}
use Rattle.pages.specs.PagesOf.{labelled, moving}
use Rattle.pages.specs.declared.owned_page.Place.{Place}
use Rattle.pages.specs.Backed.{is_backed, is_backing_of}
use Rattle.pages.specs.Records.{content_of, label_holding, group_at, residence_at, block_of}
use Rattle.page_state.proofs.PartsLemmas.{kept-step}
use Rattle.page_state.proofs.SettleLemmas.{moving-is}
use Rattle.page_state.proofs.ReleaseLemmas.{slot-is, no-slot, leaves-frame, leaves-block, leaves-charge, released, backed-trades, away-memory, away-trades}
use Rattle.page_state.proofs.release.release.Goals as goal

pub give_room-requires : goal.give_room-requires
give_room-requires c =
    let content = c.args.owned.content in
    let f = c.in-Frame.frame.number in
    let label = label_holding content c.in-Frame.charge in
    let is = ap (λ (p : Place). labelled (label_holding content (group_at p)) (residence_at p)) c.in-Frame.is in
    let out = leaves-frame c.args.counters.now c.args.pool.now c.args.slots.now c.args.owned label (Held f) c.requires is f refl in
    record {
      out = out.0;
      in_range = out.1;
      charged = leaves-charge c.args.counters.now c.args.pool.now c.args.slots.now c.args.owned label (Held f) c.requires is c.are_counted.ensures.lineage.earlier_parents refl;
    }

pub returns-in-Frame-clause-releases : goal.returns-in-Frame-clause-releases
returns-in-Frame-clause-releases c pages rest p was gone kept =
    let content = c.args.owned.content in
    let f = c.in-Frame.frame.number in
    let label = label_holding content c.in-Frame.charge in
    let is = ap (λ (p : Place). labelled (label_holding content (group_at p)) (residence_at p)) c.in-Frame.is in
    released c.args.counters.now c.give_room.new.counters c.args.pool.now c.give_room.new.pool c.args.slots.now c.args.slots.now label (Held f) f c.in-Frame.charge refl refl c.give_room.ensures.frame c.give_room.ensures.uncharged refl
    (record { counts = λ n. (let none = no-slot (is_anon (content_of content)) in omega (arith, none)); len = (let none = no-slot (is_anon (content_of content)) in omega (arith, none)) })
    pages rest p (was ∙ ap Some is) gone kept

pub give_room-requires-in-Moving : goal.give_room-requires-in-Moving
give_room-requires-in-Moving c =
    let content = c.args.owned.content in
    let m = c.in-Moving in
    let f = m.frame.number in
    let b = block_of m.backing in
    let label = label_holding content m.charge in
    let r = moving m.direction f b m.ticket.0 in
    let own = moving-is m.direction f b m.ticket.0 in
    let is = ap (λ (p : Place). labelled (label_holding content (group_at p)) (residence_at p)) m.is in
    let out = leaves-frame c.args.counters.now c.args.pool.now c.args.slots.now c.args.owned label r c.requires is f own.0 in
    record {
      out = out.0;
      in_range = out.1;
      charged = leaves-charge c.args.counters.now c.args.pool.now c.args.slots.now c.args.owned label r c.requires is c.are_counted.ensures.lineage.earlier_parents (ap is_some_number own.0);
    }

pub give_backing-requires : goal.give_backing-requires
give_backing-requires c =
    let content = c.args.owned.content in
    let m = c.in-Moving in
    let f = m.frame.number in
    let b = block_of m.backing in
    let label = label_holding content m.charge in
    let r = moving m.direction f b m.ticket.0 in
    let own = moving-is m.direction f b m.ticket.0 in
    let is = ap (λ (p : Place). labelled (label_holding content (group_at p)) (residence_at p)) m.is in
    let fits : is_backing_of content m.backing ≡ true = sym (ap (is_backed content) m.is) ∙ c.args.owned.backed in
    record {
      out = λ x hit. (let slot = slot-is content m.backing x fits hit in (leaves-block c.args.counters.now c.args.pool.now c.args.slots.now c.args.owned label r c.requires is x slot.0 (own.1 ∙ slot.1)).0);
      in_range = λ x hit. (let slot = slot-is content m.backing x fits hit in (leaves-block c.args.counters.now c.args.pool.now c.args.slots.now c.args.owned label r c.requires is x slot.0 (own.1 ∙ slot.1)).1);
    }

pub returns-in-Moving-clause-releases : goal.returns-in-Moving-clause-releases
returns-in-Moving-clause-releases c pages rest p was gone kept =
    let content = c.args.owned.content in
    let m = c.in-Moving in
    let f = m.frame.number in
    let b = block_of m.backing in
    let label = label_holding content m.charge in
    let r = moving m.direction f b m.ticket.0 in
    let own = moving-is m.direction f b m.ticket.0 in
    let is = ap (λ (p : Place). labelled (label_holding content (group_at p)) (residence_at p)) m.is in
    let fits : is_backing_of content m.backing ≡ true = sym (ap (is_backed content) m.is) ∙ c.args.owned.backed in
    released c.args.counters.now c.give_room-in-Moving.new.counters c.args.pool.now c.give_room-in-Moving.new.pool c.args.slots.now c.give_backing.new.slots label r f m.charge own.0 refl c.give_room-in-Moving.ensures.frame c.give_room-in-Moving.ensures.uncharged c.give_backing.ensures.blocks
    (backed-trades c.args.slots.now c.give_backing.new.slots content m.backing m.charge r fits own.1 c.give_backing.ensures.counts c.give_backing.ensures.more)
    pages rest p (was ∙ ap Some is) gone kept

-- a page that is on its slot alone is memory
pub give-requires : goal.give-requires
give-requires c =
    let content = c.args.owned.content in
    let a = c.in-Away in
    let is = ap (λ (p : Place). labelled (label_holding content (group_at p)) (residence_at p)) a.is in
    let anon : is_anon (content_of content) ≡ true = away-memory content (sym (ap (is_backed content) a.is) ∙ c.args.owned.backed) in
    let out = leaves-block c.args.counters.now c.args.pool.now c.args.slots.now c.args.owned (label_holding content a.group.0) (Away a.slot) c.requires is a.slot anon refl in
    record { out = out.0; in_range = out.1 }

pub returns-in-Away-clause-releases : goal.returns-in-Away-clause-releases
returns-in-Away-clause-releases c pages rest p was gone kept =
    let content = c.args.owned.content in
    let a = c.in-Away in
    let is = ap (λ (p : Place). labelled (label_holding content (group_at p)) (residence_at p)) a.is in
    let anon : is_anon (content_of content) ≡ true = away-memory content (sym (ap (is_backed content) a.is) ∙ c.args.owned.backed) in
    let from = Some (labelled (label_holding content a.group.0) (Away a.slot)) in
    kept-step c.args.counters.now c.args.counters.now c.args.pool.now c.args.pool.now c.args.slots.now c.give.new.self pages rest p from None (was ∙ ap Some is) gone refl
    (record { counts = λ n. refl; len = refl })
    c.give.ensures.blocks
    (away-trades c.args.slots.now c.give.new.self content a.group.0 a.slot anon c.give.ensures.counts c.give.ensures.more)
    (record { tree = refl; usage = λ a lt. refl; live = tt })
    kept

use Rattle.std.proofs.Common.{◌≡◌, ◌<◌, set, length, Some, None, ap, subst, sym, refl, ◌∙◌}
use Rattle.std.specs.Prelude.{option_map}
use Rattle.std.proofs.lemmas.List.{get_or_read}
use Rattle.machine.specs.Slots.{at, Changes}
use Rattle.machine.specs.Pages.{IsFiled}
use Rattle.machine.specs.Step.{touched}
use Rattle.machine.specs.declared.event.Op.TheVariants.{Write}
use Rattle.pages.specs.declared.owned_page.OwnedPage.{OwnedPage}
use Rattle.pages.specs.Records.{page_of, bytes_of, WritesByte}
use Rattle.pages.proofs.TableLemmas.{at-map, Changes-set, Changes-map, byte_in-written}
use Rattle.pages.proofs.FlightLemmas.{AreInFlight-same}
use Rattle.pages.proofs.CacheLemmas.{AreHome-changes, touched-filed}
use Rattle.pages.proofs.TransferLemmas.{pages_of, page-stands, owned-stands, own-filed, framed-same, Fits-are, Fits-stays, held-within, held-there, touched-there}
use Rattle.pages.proofs.Pages.write.Goals as goal

-- the page's place, and what it owns before and after
record Writes (c : goal.After-self-1) : Type 0 where
  from : OwnedPage
  to : OwnedPage
  within : c.args.page.0 < length c.self.inside.owned.items
  was : at c.self.inside.owned.items c.args.page.0 ≡ Some from
  before : c.index_mut.result.now ≡ Some from
  after : c.write_at.new.slot ≡ Some to
  page : page_of to ≡ touched (page_of from) (Write c.args.byte)

writes : (c : goal.After-self-1) → Writes c
writes c =
    let held = rw (← c.self.view_is) at c.requires.held in
    let within = held-within c.self.inside.owned.items c.args.page.0 held in
    let there = held-there c.self.inside.owned.items c.args.page.0 held in
    let before = get_or_read c.self.inside.owned.items c.args.page.0 c.index_mut.result.now within c.index_mut.ensures.value None ∙ there.1 in
    let later = touched-there c.write_at.new.slot (touched (page_of there.0) (Write c.args.byte)) (c.write_at.ensures.page ∙ ap (λ slot. option_map (λ page. touched page (Write c.args.byte)) (option_map page_of slot)) before) in
    record { from = there.0; to = later.0; within = within; was = there.1; before = before; after = later.1; page = later.2 }

changes : (c : goal.After-self-1) → Changes c.self.inside.owned.items (set c.self.inside.owned.items c.args.page.0 c.write_at.new.slot) c.args.page.0 (Some (writes c).to)
changes c = subst (Changes c.self.inside.owned.items (set c.self.inside.owned.items c.args.page.0 c.write_at.new.slot) c.args.page.0) (writes c).after (Changes-set c.self.inside.owned.items c.args.page.0 c.write_at.new.slot (writes c).within)

pub invariant_of-self : goal.invariant_of-self
invariant_of-self c =
    let is = c.self.invariant.0 in
    let files = c.self.inside.files in
    let owned = c.self.inside.owned.items in
    let p = c.args.page.0 in
    let it = writes c in
    let page = Changes-map page_of _ _ p _ (changes c) in
    let filed = subst (IsFiled files.first files.sizes) (sym it.page) (touched-filed files.first files.sizes (page_of it.from) c.args.byte (own-filed files owned p it.from is.filed it.was)) in (
      Fits-are
          (Fits-stays c.self.inside.numbers _ _ _ c.self.inside.flights c.self.inside.members files c.self.inside.cache.items is p it.from it.was it.to (changes c) (ap (λ x. x.group) it.page) (ap (λ x. x.content) it.page))
          is refl refl
          (AreInFlight-same _ _ p (page_of it.from) (page_of it.to) (page-stands owned p it.from it.was) page (ap (λ x. x.residence) it.page) c.self.inside.flights.slots is.in_flight)
          (AreHome-changes files _ _ p (Some (page_of it.to)) page filed is.filed),
      framed-same c.self.inside.by_frame.items _ _ p _ (changes c) c.self.invariant.1 it.from it.was it.to refl (ap (λ x. x.residence) it.page),
    )

pub returns-clause-placed : goal.returns-clause-placed
returns-clause-placed c = λ x stands.
    let it = writes c in
    let own = owned-stands c.self.inside.owned.items c.args.page.0 it.from x it.was (rw (← c.self.view_is) at stands) in
    rw (← c.self.view_is) (subst (λ y. Changes (pages_of c.self.inside.owned.items) (pages_of (set c.self.inside.owned.items c.args.page.0 c.write_at.new.slot)) c.args.page.0 (Some y)) (it.page ∙ ap (λ y. touched y (Write c.args.byte)) own) (Changes-map page_of _ _ c.args.page.0 _ (changes c)))

pub returns-clause-bytes : goal.returns-clause-bytes
returns-clause-bytes c =
    let slot = c.write_at.new.slot in
    let it = writes c in
    let owned = c.self.inside.owned.items in
    let bytes = subst (λ before. WritesByte before (option_map bytes_of slot) c.args.offset c.args.byte) (ap (option_map bytes_of) (it.before ∙ sym it.was) ∙ sym (at-map bytes_of owned c.args.page.0)) c.write_at.ensures.bytes in
    rw (← c.self.view_is) (byte_in-written _ _ c.args.page.0 (option_map bytes_of slot) c.args.offset c.args.byte (Changes-map bytes_of _ _ c.args.page.0 slot (Changes-set owned c.args.page.0 slot it.within)) bytes)

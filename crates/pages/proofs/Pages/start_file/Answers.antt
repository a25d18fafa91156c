use Rattle.std.proofs.Common.{vec_capacity, ◌≡◌, false, set, Some, None, ap, sym, refl, subst, ◌∙◌, arith}
use Rattle.std.proofs.lemmas.List.{length-set}
use Rattle.machine.specs.Slots.{Changes}
use Rattle.machine.specs.Pages.{Coming, Page, page_at, home_block, IsFiled}
use Rattle.machine.specs.declared.id.PageId.{PageId}
use Rattle.pages.specs.declared.owned_page.OwnedPage.{OwnedPage}
use Rattle.machine.specs.declared.record.Direction.TheVariants.{In}
use Rattle.pages.specs.PagesOf.{of_file, labelled}
use Rattle.pages.specs.Tickets.{new_ticket}
use Rattle.pages.specs.Records.{page_of, place_in, AreCached}
use Rattle.pages.proofs.TableLemmas.{Changes-map, Changes-set, free-page, taken-there}
use Rattle.pages.proofs.FlightLemmas.{IsSettled-is}
use Rattle.pages.proofs.MemberLemmas.{unlisted}
use Rattle.pages.proofs.CacheLemmas.{AreCached-added}
use Rattle.pages.proofs.TransferLemmas.{pages_of, Fits, Fits-added, Takeoff, Takeoff-are, Takeoff-comes, Takeoff-starts, Takeoff-apart}
use Rattle.pages.proofs.Pages.start_file.Goals as goal

pub insert_reserved-requires : goal.insert_reserved-requires
insert_reserved-requires c =
    let room = rw (← c.self.view_is) at c.requires.room in
    let taken = taken-there page_of c.self.inside.numbers c.self.inside.owned.items c.self.invariant.0.taken in
    omega (arith, room, taken)

pub push_back-requires-clause-unlisted : goal.push_back-requires-clause-unlisted
push_back-requires-clause-unlisted c = unlisted c.self.inside.members.lists _ c.self.invariant.0.listed c.insert_reserved.result (free-page page_of c.self.inside.numbers _ c.insert_reserved.result c.self.invariant.0.taken c.insert_reserved.ensures.was_vacant)

abbrev coming : (c : goal.After-new-ticket) → OwnedPage
coming c = c.begin-coming.result.1

abbrev found : (c : goal.After-new-ticket) → PageId
found c = record { 0 = c.insert_reserved.result }

vacant : (c : goal.After-new-ticket) → page_at (pages_of c.self.inside.owned.items) c.insert_reserved.result ≡ None
vacant c = free-page page_of c.self.inside.numbers _ c.insert_reserved.result c.self.invariant.0.taken c.insert_reserved.ensures.was_vacant

swaps : (c : goal.After-new-ticket) → Changes c.self.inside.cache.items (set c.self.inside.cache.items c.home_place-index.result (Some (found c))) (place_in c.self.inside.files c.args.at.file c.args.at.page) (Some (found c))
swaps c =
    let cache = c.self.inside.cache.items in
    let index = c.home_place-index.result in
    let homes = c.self.invariant.0.homes in
    let within = c.home_place-index.ensures.within in
    subst (λ m. Changes cache (set cache index (Some (found c))) m (Some (found c))) c.home_place-index.ensures.place (Changes-set cache index (Some (found c)) (omega (arith, homes, within)))

cached : (c : goal.After-new-ticket) → AreCached c.self.inside.files (set c.self.inside.cache.items c.home_place-index.result (Some (found c))) (pages_of c.place.new.slots.items)
cached c =
    let requires = rw (← c.self.view_is) at c.requires in
    let files = c.self.inside.files in
    AreCached-added files (pages_of c.self.inside.owned.items) (pages_of c.place.new.slots.items) c.insert_reserved.result (Some (page_of (coming c))) (Changes-map page_of _ _ _ (Some (coming c)) c.place.ensures.placed) c.self.inside.cache.items c.self.invariant.0.cached
    (set c.self.inside.cache.items c.home_place-index.result (Some (found c))) c.args.at.file c.args.at.page requires.inside (Some (found c)) (swaps c) (page_of (coming c)) refl (ap (λ (page : Page). page.content) c.begin-coming.ensures.page) (vacant c) requires.none refl

beside : (c : goal.After-new-ticket) → Fits c.self.inside.numbers c.insert_reserved.new.self c.place.new.slots.items c.self.inside.members c.push_back.new.self c.self.inside.files c.self.inside.cache.items (set c.self.inside.cache.items c.home_place-index.result (Some (found c)))
beside c =
    let room = rw (← c.self.view_is) at c.requires.group in
    let group = c.group-group.ensures in
    Fits-added c.self.inside.numbers _ _ _ _ c.self.inside.flights c.self.inside.members _ c.self.inside.files c.self.inside.cache.items _ c.self.invariant.0 c.insert_reserved.result (coming c) tt c.insert_reserved.ensures.was_vacant c.place.ensures.placed c.insert_reserved.ensures.updates c.insert_reserved.ensures.capacity
    c.group-group.result.0 (omega (arith, room, group)) (ap (λ (page : Page). page.group) c.begin-coming.ensures.page ∙ sym group) (rw (← c.push_back.ensures.lists) c.push_back.ensures.others) (cached c) (length-set c.self.inside.cache.items c.home_place-index.result (Some (found c)))

takeoff : (c : goal.After-new-ticket) → Takeoff c.self.inside.numbers c.insert_reserved.new.self c.self.inside.owned.items c.place.new.slots.items (vec_capacity c.self.inside.owned) (vec_capacity c.place.new.slots) c.self.inside.flights c.begin-coming.new.flights c.self.inside.members c.push_back.new.self c.self.inside.files c.self.inside.cache.items (set c.self.inside.cache.items c.home_place-index.result (Some (found c))) c.begin-coming.result.0.0 c.insert_reserved.result In (of_file c.args.at.file c.args.at.page c.args.charge false) c.args.frame.number c.home-block.result (coming c)
takeoff c =
    let requires = rw (← c.self.view_is) at c.requires in
    record {
      are = c.self.invariant.0;
      free = c.begin-coming.ensures.free;
      listed = c.begin-coming.ensures.listed;
      len = c.begin-coming.ensures.len;
      fits = omega (arith, requires.tickets);
      capacity = c.begin-coming.ensures.capacity;
      changes = c.place.ensures.placed;
      same_places = c.place.ensures.capacity;
      settled = IsSettled-is _ _ (vacant c) (λ n. refl);
      moves = c.begin-coming.ensures.page;
      filed = subst (IsFiled c.self.inside.files.first c.self.inside.files.sizes) (sym c.begin-coming.ensures.page) (requires.inside, c.home-block.ensures);
      beside = beside c;
    }

pub invariant_of-self : goal.invariant_of-self
invariant_of-self c =
    let unused = rw (← c.self.view_is) at c.requires.unused in
    (Takeoff-are (takeoff c), Takeoff-comes (takeoff c) c.self.inside.by_frame.items c.self.invariant.1 unused c.note.new.by_frame.items (subst (λ f. Changes c.self.inside.by_frame.items c.note.new.by_frame.items f (Some (found c))) c.number.ensures c.note.ensures.noted))

pub returns-clause-free : goal.returns-clause-free
returns-clause-free c = rw (← c.self.view_is) (vacant c)

pub returns-clause-starts : goal.returns-clause-starts
returns-clause-starts c =
    let files = c.self.inside.files in
    let n = c.begin-coming.result.0.0 in
    let ticket = c.new-ticket.ensures ∙ ap (λ b. new_ticket n b c.args.buffer.value) c.home-block.ensures in
    rw (ticket, ← c.self.view_is) (
    record {
      starts = Takeoff-starts (takeoff c) (of_file c.args.at.file c.args.at.page c.args.charge false) c.args.frame.number (home_block files.first files.sizes c.args.at.file c.args.at.page) c.args.buffer.value
          (c.begin-coming.ensures.page ∙ ap (λ b. labelled (of_file c.args.at.file c.args.at.page c.args.charge false) (Coming c.args.frame.number b c.begin-coming.result.0.0)) c.home-block.ensures) _ _ c.note.ensures.len;
      bytes = Takeoff-apart (takeoff c);
    })

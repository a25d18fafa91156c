use Rattle.std.proofs.Common.{Some, ap, sym, refl, subst, arith}
use Rattle.machine.specs.Slots.{Changes}
use Rattle.pages.specs.Records.{page_of, bytes_of}
use Rattle.pages.proofs.TableLemmas.{Changes-map, byte_in-changes, free-page, taken-there}
use Rattle.pages.proofs.FlightLemmas.{AreInFlight-apart, IsSettled-is}
use Rattle.pages.proofs.MemberLemmas.{unlisted}
use Rattle.pages.proofs.CacheLemmas.{AreHome-changes, AreCached-kept}
use Rattle.machine.proofs.FileLemmas.{holds_page}
use Rattle.pages.proofs.TransferLemmas.{framed-comes, Fits-are, Fits-added}
use Rattle.pages.proofs.Pages.insert.Goals as goal

pub push_back-requires-clause-unlisted : goal.push_back-requires-clause-unlisted
push_back-requires-clause-unlisted c = unlisted c.self.inside.members.lists _ c.self.invariant.0.listed c.insert_reserved.result (free-page page_of c.self.inside.numbers _ c.insert_reserved.result c.self.invariant.0.taken c.insert_reserved.ensures.was_vacant)

pub insert_reserved-requires : goal.insert_reserved-requires
insert_reserved-requires c =
    let room = rw (← c.self.view_is) at c.requires.room in
    let taken = taken-there page_of c.self.inside.numbers c.self.inside.owned.items c.self.invariant.0.taken in
    omega (arith, room, taken)

pub invariant_of-self : goal.invariant_of-self
invariant_of-self c =
    let is = c.self.invariant.0 in
    let files = c.self.inside.files in
    let p = c.insert_reserved.result in
    let placed = c.place.ensures.placed in
    let room = rw (← c.self.view_is) at c.requires.group in
    let unused = rw (← c.self.view_is) at c.requires.unused in
    let group = c.group-group.ensures in
    let vacant = free-page page_of c.self.inside.numbers _ p is.taken c.insert_reserved.ensures.was_vacant in
    let page = Changes-map page_of _ _ p _ placed in (
      Fits-are
          (Fits-added c.self.inside.numbers _ _ _ _ c.self.inside.flights c.self.inside.members _ files c.self.inside.cache.items _ is p _ tt c.insert_reserved.ensures.was_vacant placed c.insert_reserved.ensures.updates c.insert_reserved.ensures.capacity c.group-group.result.0 (omega (arith, room, group)) (sym group)
          (rw (← c.push_back.ensures.lists) c.push_back.ensures.others)
          (AreCached-kept files _ _ p _ page c.self.inside.cache.items is.cached (λ f q. sym (ap (holds_page f q) vacant))) refl)
          is c.place.ensures.capacity refl
          (AreInFlight-apart _ _ p (Some _) page c.self.inside.flights.slots is.in_flight (IsSettled-is _ _ vacant (λ n. refl)) (λ n. refl))
          (AreHome-changes files _ _ p (Some _) page refl is.filed),
      framed-comes c.self.inside.by_frame.items _ _ p _ placed c.self.invariant.1 _ c.args.frame.number refl refl unused c.note.new.by_frame.items (subst (λ f. Changes c.self.inside.by_frame.items c.note.new.by_frame.items f (Some (record { 0 = p }))) c.number.ensures c.note.ensures.noted),
    )

pub returns-clause-placed : goal.returns-clause-placed
returns-clause-placed c = rw (← c.self.view_is) (Changes-map page_of _ _ c.insert_reserved.result _ c.place.ensures.placed)

pub returns-clause-bytes : goal.returns-clause-bytes
returns-clause-bytes c = rw (← c.self.view_is) (byte_in-changes _ _ c.insert_reserved.result _ (Changes-map bytes_of _ _ c.insert_reserved.result _ c.place.ensures.placed))

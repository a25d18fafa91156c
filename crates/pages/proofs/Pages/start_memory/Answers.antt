use Rattle.std.proofs.Common.{vec_capacity, ◌≡◌, ℕ, Some, None, ap, sym, refl, subst, ◌∙◌, arith}
use Rattle.machine.specs.Slots.{Changes}
use Rattle.machine.specs.Pages.{Coming, Away, Page, IsFiled}
use Rattle.pages.specs.declared.owned_page.OwnedPage.{OwnedPage}
use Rattle.machine.specs.declared.record.Direction.TheVariants.{In}
use Rattle.pages.specs.PagesOf.{HasResidence, memory_of, labelled}
use Rattle.pages.specs.Tickets.{new_ticket}
use Rattle.pages.specs.Records.{page_of}
use Rattle.pages.proofs.TableLemmas.{Changes-twice}
use Rattle.pages.proofs.FlightLemmas.{IsSettled-is}
use Rattle.pages.proofs.MemberLemmas.{listed}
use Rattle.pages.proofs.TransferLemmas.{owned-stands, page-stands, off_lists, Fits-moved, Takeoff, Takeoff-are, Takeoff-comes, Takeoff-starts, Takeoff-apart, part-slot}
use Rattle.pages.proofs.Pages.start_memory.Goals as goal

pub remove-requires : goal.remove-requires
remove-requires c = listed c.self.inside.members.lists _ c.self.invariant.0.listed c.args.page.0 (page_of c.take_at.result) (page-stands c.self.inside.owned.items c.args.page.0 c.take_at.result c.take_at.ensures.owned)

pub push_back-requires-clause-unlisted : goal.push_back-requires-clause-unlisted
push_back-requires-clause-unlisted c = off_lists _ _ c.self.inside.members.lists c.remove.new.self.lists c.args.page.0 c.take_at.ensures.gone c.self.invariant.0.listed c.remove.ensures.lists

was_away : (c : goal.After-new) (g block : ℕ) → HasResidence c.args.self.now.pages c.args.page.0 (memory_of g) (Away block) → page_of c.take_at.result ≡ labelled (memory_of g) (Away block)
was_away c g block stands = owned-stands c.self.inside.owned.items c.args.page.0 c.take_at.result _ c.take_at.ensures.owned (rw (← c.self.view_is) at stands)

abbrev coming : (c : goal.After-new) → OwnedPage
coming c = c.begin-coming.result.1

changes : (c : goal.After-new) → Changes c.self.inside.owned.items c.place.new.slots.items c.args.page.0 (Some (coming c))
changes c = Changes-twice _ _ _ _ None _ c.take_at.ensures.gone c.place.ensures.placed

takeoff : (c : goal.After-new) → Takeoff c.self.inside.numbers c.self.inside.numbers c.self.inside.owned.items c.place.new.slots.items (vec_capacity c.self.inside.owned) (vec_capacity c.place.new.slots) c.self.inside.flights c.begin-coming.new.flights c.self.inside.members c.push_back.new.self c.self.inside.files c.self.inside.cache.items c.self.inside.cache.items c.begin-coming.result.0.0 c.args.page.0 In (memory_of c.args.charge) c.args.frame.number c.into_away-slot.result (coming c)
takeoff c =
    let requires = rw (← c.self.view_is) at c.requires in
    let was = was_away c c.requires.away.0 c.requires.away.1 c.requires.away.2 in
    let group = c.group-group.ensures in
    record {
      are = c.self.invariant.0;
      free = c.begin-coming.ensures.free;
      listed = c.begin-coming.ensures.listed;
      len = c.begin-coming.ensures.len;
      fits = omega (arith, requires.room);
      capacity = c.begin-coming.ensures.capacity;
      changes = changes c;
      same_places = c.place.ensures.capacity ∙ c.take_at.ensures.capacity;
      settled = IsSettled-is _ _ (page-stands c.self.inside.owned.items c.args.page.0 _ c.take_at.ensures.owned ∙ ap Some was) (λ n. refl);
      moves = c.begin-coming.ensures.page;
      filed = subst (IsFiled c.self.inside.files.first c.self.inside.files.sizes) (sym c.begin-coming.ensures.page) refl;
      beside = Fits-moved c.self.inside.numbers c.self.inside.owned.items _ _ _ c.self.inside.flights c.self.inside.members c.remove.new.self c.push_back.new.self c.self.inside.files c.self.inside.cache.items c.self.invariant.0 c.args.page.0 c.take_at.result (coming c)
          c.take_at.ensures.owned c.take_at.ensures.gone c.place.ensures.placed (ap (λ (page : Page). page.content) c.begin-coming.ensures.page ∙ sym (ap (λ (page : Page). page.content) was)) (rw (← c.remove.ensures.lists) c.remove.ensures.others)
          c.group-group.result.0 (omega (arith, requires.group, group)) (ap (λ (page : Page). page.group) c.begin-coming.ensures.page ∙ sym group) (rw (← c.push_back.ensures.lists) c.push_back.ensures.others);
    }

pub invariant_of-self : goal.invariant_of-self
invariant_of-self c =
    let unused = rw (← c.self.view_is) at c.requires.unused in
    (Takeoff-are (takeoff c), Takeoff-comes (takeoff c) c.self.inside.by_frame.items c.self.invariant.1 unused c.note.new.by_frame.items (subst (λ f. Changes c.self.inside.by_frame.items c.note.new.by_frame.items f (Some c.args.page)) c.number.ensures c.note.ensures.noted))

pub returns : goal.returns
returns c = λ g block stands.
    let slot = part-slot c.take_at.result _ _ (was_away c g block stands) _ block c.into_away-slot.ensures refl in
    let ticket = c.new.ensures ∙ ap (λ b. new_ticket c.begin-coming.result.0.0 b c.args.buffer.value) (c.block-block.ensures ∙ slot) in
    rw (ticket, ← c.self.view_is) (
    record {
      starts = Takeoff-starts (takeoff c) (memory_of c.args.charge) c.args.frame.number block c.args.buffer.value (c.begin-coming.ensures.page ∙ ap (λ b. labelled (memory_of c.args.charge) (Coming c.args.frame.number b c.begin-coming.result.0.0)) slot) _ _ c.note.ensures.len;
      bytes = Takeoff-apart (takeoff c);
    })

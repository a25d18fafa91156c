use Rattle.std.proofs.Common.{vec_capacity, Some, None, ap, sym, refl, subst, ◌∙◌, arith}
use Rattle.std.specs.Prelude.{slice_index}
use Rattle.machine.specs.Slots.{Changes}
use Rattle.machine.specs.Pages.{Going, Held, Page, IsFiled}
use Rattle.machine.specs.declared.record.Direction.TheVariants.{Out}
use Rattle.pages.specs.declared.owned_page.OwnedPage.{OwnedPage}
use Rattle.pages.specs.PagesOf.{Label, labelled}
use Rattle.pages.specs.Tickets.{new_ticket}
use Rattle.pages.specs.Transfers.{block_for}
use Rattle.pages.specs.Records.{content_of, label_holding, block_of}
use Rattle.pages.proofs.TableLemmas.{Changes-twice}
use Rattle.pages.proofs.FlightLemmas.{IsSettled-is}
use Rattle.pages.proofs.TransferLemmas.{owned-stands, own-byte, taken-label, taken-leaves, taken-inside, leaves-filed, Fits-stays, Takeoff, Takeoff-are, Takeoff-framed, Takeoff-starts, Takeoff-kept, part-frame}
use Rattle.pages.proofs.Pages.start_out.Goals as goal

pub backing_for-backing-requires-clause-by : goal.backing_for-backing-requires-clause-by
backing_for-backing-requires-clause-by c =
    let w = rw (← c.self.view_is) at c.requires.held in
    let held = c.into_held-frame.ensures in
    taken-leaves c.self.inside.files c.self.inside.owned.items c.args.page.0 _ _ _ c.take_at.ensures.owned held.group held.content c.args.slot w.0 (Held w.1) w.2 w.3

pub backing_for-backing-requires-clause-inside : goal.backing_for-backing-requires-clause-inside
backing_for-backing-requires-clause-inside c =
    let held = c.into_held-frame.ensures in
    taken-inside c.self.inside.files c.self.inside.owned.items c.args.page.0 _ _ _ c.take_at.ensures.owned held.group held.content c.self.invariant.0.filed

abbrev going : (c : goal.After-new) → OwnedPage
going c = c.begin-going.result.1

changes : (c : goal.After-new) → Changes c.self.inside.owned.items c.place.new.slots.items c.args.page.0 (Some (going c))
changes c = Changes-twice _ _ _ _ None _ c.take_at.ensures.gone c.place.ensures.placed

takeoff : (c : goal.After-new) → Takeoff c.self.inside.numbers c.self.inside.numbers c.self.inside.owned.items c.place.new.slots.items (vec_capacity c.self.inside.owned) (vec_capacity c.place.new.slots) c.self.inside.flights c.begin-going.new.flights c.self.inside.members c.self.inside.members c.self.inside.files c.self.inside.cache.items c.self.inside.cache.items c.begin-going.result.0.0 c.args.page.0 Out (label_holding c.into_held-frame.result.2 c.into_held-frame.result.1) c.into_held-frame.result.0.number (block_of c.backing_for-backing.result) (going c)
takeoff c =
    let requires = rw (← c.self.view_is) at c.requires in
    let w = requires.held in
    let files = c.self.inside.files in
    let owned = c.self.inside.owned.items in
    let held = c.into_held-frame.ensures in
    let leaves = taken-leaves files owned c.args.page.0 _ _ _ c.take_at.ensures.owned held.group held.content c.args.slot w.0 (Held w.1) w.2 w.3 in
    let inside = taken-inside files owned c.args.page.0 _ _ _ c.take_at.ensures.owned held.group held.content c.self.invariant.0.filed in
    record {
      are = c.self.invariant.0;
      free = c.begin-going.ensures.free;
      listed = c.begin-going.ensures.listed;
      len = c.begin-going.ensures.len;
      fits = omega (arith, requires.room);
      capacity = c.begin-going.ensures.capacity;
      changes = changes c;
      same_places = c.place.ensures.capacity ∙ c.take_at.ensures.capacity;
      settled = IsSettled-is _ _ w.2 (λ n. refl);
      moves = c.begin-going.ensures.page;
      filed = subst (IsFiled files.first files.sizes) (sym (c.begin-going.ensures.page ∙ ap (λ b. labelled (label_holding c.into_held-frame.result.2 c.into_held-frame.result.1) (Going c.into_held-frame.result.0.number b c.begin-going.result.0.0)) c.backing_for-backing.ensures.block))
          (leaves-filed files c.into_held-frame.result.2 c.into_held-frame.result.1 c.into_held-frame.result.0.number c.begin-going.result.0.0 c.args.slot leaves inside);
      beside = Fits-stays c.self.inside.numbers _ _ _ c.self.inside.flights c.self.inside.members c.self.inside.files c.self.inside.cache.items c.self.invariant.0 c.args.page.0 c.take_at.result c.take_at.ensures.owned (going c) (changes c)
          (ap (λ (x : Page). x.group) c.begin-going.ensures.page ∙ sym held.group) (ap (λ (x : Page). x.content) c.begin-going.ensures.page ∙ ap content_of (sym held.content));
    }

pub invariant_of-self : goal.invariant_of-self
invariant_of-self c = (Takeoff-are (takeoff c), Takeoff-framed (takeoff c) c.self.inside.by_frame.items c.self.invariant.1 c.take_at.result c.take_at.ensures.owned c.into_held-frame.ensures.frame)

pub returns : goal.returns
returns c = λ label f stands.
    let owned = c.self.inside.owned.items in
    let held = c.into_held-frame.ensures in
    let there = rw (← c.self.view_is) at stands in
    let own = taken-label c.self.inside.files owned c.args.page.0 _ _ _ c.take_at.ensures.owned held.group held.content label (Held f) there in
    let frame = part-frame c.take_at.result _ _ (owned-stands owned c.args.page.0 _ _ c.take_at.ensures.owned there) _ f held.frame refl in
    let n = c.begin-going.result.0.0 in
    let files = c.self.inside.files in
    let block = c.backing_for-backing.ensures.block ∙ ap (λ (l : Label). block_for files l.content c.args.slot) own in
    let copied = c.fill.ensures ∙ c.bytes.ensures ∙ sym c.into_held-frame.ensures.bytes in
    let ticket = c.new.ensures ∙ ap (λ b. new_ticket n b c.fill.new.self) (c.block-block.ensures ∙ block) in
    rw (ticket, ← c.self.view_is) (
    record {
      starts = Takeoff-starts (takeoff c) label f (block_for files label.content c.args.slot) c.fill.new.self
          (c.begin-going.ensures.page ∙ ap (λ l. labelled l (Going c.into_held-frame.result.0.number (block_of c.backing_for-backing.result) n)) own ∙ ap (λ x. labelled label (Going x (block_of c.backing_for-backing.result) n)) frame ∙ ap (λ x. labelled label (Going f x n)) block) _ _ refl;
      holds = λ o within. ap (λ b. slice_index b o) copied ∙ sym (own-byte c.self.inside.owned.items c.args.page.0 _ c.take_at.ensures.owned o);
      bytes = Takeoff-kept (takeoff c) c.take_at.result c.take_at.ensures.owned (c.begin-going.ensures.bytes ∙ sym held.bytes);
    })

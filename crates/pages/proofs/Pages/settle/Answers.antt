use Rattle.std.proofs.Common.{vec_capacity, ◌≡◌, ◌<◌, length, Option, Some, None, refl, ap, sym, subst, ◌∙◌}
use Rattle.std.specs.Prelude.{IfSome, option_map, slice_index}
use Rattle.machine.specs.Slots.{Changes}
use Rattle.pages.specs.declared.owned_page.OwnedPage.{OwnedPage}
use Rattle.pages.specs.PagesOf.{label_of}
use Rattle.pages.specs.Records.{page_of, content_of, file_at, label_holding, block_of}
use Rattle.pages.proofs.TableLemmas.{Changes-twice}
use Rattle.pages.proofs.FlightLemmas.{under-moving}
use Rattle.pages.proofs.MemberLemmas.{listed}
use Rattle.pages.proofs.CacheLemmas.{left-inside}
use Rattle.pages.proofs.TransferLemmas.{flight-listed, moving-there, moving-owned, page-stands, own-filed, label-after, Fits, Fits-stays, Fits-left, Landing, Landing-are, Landing-framed, Landing-ends, Landing-freed}
use Rattle.pages.proofs.Pages.settle.Given as given
use Rattle.pages.proofs.Pages.settle.Goals as goal

pub unlist-requires : goal.unlist-requires
unlist-requires g c =
    let w = rw (← c.self.view_is) at c.requires in
    rw c.number.ensures (flight-listed c.self.inside.owned.items c.self.inside.flights w.0 c.args.page.0 w.1 w.2 w.3 c.args.ticket.number c.self.invariant.0.in_flight w.4)

pub take_at-requires : goal.take_at-requires
take_at-requires g c =
    let w = rw (← c.self.view_is) at c.requires in
    moving-there c.self.inside.owned.items w.0 c.args.page.0 w.1 w.2 w.3 c.args.ticket.number w.4

pub into_moving-frame-requires : goal.into_moving-frame-requires
into_moving-frame-requires g c =
    let w = rw (← c.self.view_is) at c.requires in
    moving-owned c.self.inside.owned.items w.0 c.args.page.0 w.1 w.2 w.3 c.args.ticket.number w.4 c.take_at.result c.take_at.ensures.owned

pub land-requires-clause-listed : goal.land-requires-clause-listed
land-requires-clause-listed g c = listed c.self.inside.members.lists _ c.self.invariant.0.listed c.args.page.0 _ (page-stands c.self.inside.owned.items c.args.page.0 _ c.take_at.ensures.owned)

-- the page of a file that it holds, if it holds one
at_is : (g : given.Over) (c : goal.After-into_carried g) → c.file.result ≡ file_at (page_of c.take_at.result).content
at_is g c = c.file.ensures ∙ ap (λ h. file_at (content_of h)) (sym c.into_moving-frame.ensures.content)

pub land-requires-clause-inside : goal.land-requires-clause-inside
land-requires-clause-inside g c =
    let files = c.self.inside.files in
    subst (λ slot. IfSome slot (λ a. a.page < slice_index files.sizes a.file)) (sym (c.file.ensures ∙ ap (λ h. file_at (content_of h)) (sym c.into_moving-frame.ensures.content)))
    (left-inside files (page_of c.take_at.result) (own-filed files c.self.inside.owned.items c.args.page.0 _ c.self.invariant.0.filed c.take_at.ensures.owned))

changes : (g : given.Over) (c : goal.After-into_carried g) → Changes c.self.inside.owned.items c.land.new.slots.items c.args.page.0 c.divide-owned.result.0
changes g c = Changes-twice _ _ _ _ None _ c.take_at.ensures.gone c.land.ensures.placed

own_label : (g : given.Over) (c : goal.After-into_carried g) → label_of (page_of c.take_at.result) ≡ label_holding c.into_moving-frame.result.3 c.into_moving-frame.result.1
own_label g c = ap (λ x. label_holding c.take_at.result.content x) c.into_moving-frame.ensures.group ∙ ap (λ h. label_holding h c.into_moving-frame.result.1) c.into_moving-frame.ensures.content

beside : (g : given.Over) (c : goal.After-into_carried g) (to : Option OwnedPage) → c.divide-owned.result.0 ≡ to
    → Fits c.self.inside.numbers c.land.new.numbers c.land.new.slots.items c.self.inside.members c.land.new.members c.self.inside.files c.self.inside.cache.items c.land.new.cache.items
beside g c None is =
    Fits-left c.self.inside.numbers _ _ _ c.self.inside.flights c.self.inside.members c.self.inside.files c.self.inside.cache.items c.self.invariant.0 c.args.page.0 c.take_at.result c.take_at.ensures.owned _ _ _
    (subst (Changes _ _ c.args.page.0) is (changes g c)) (c.land.ensures.numbers is) c.land.ensures.capacity (c.land.ensures.lists is)
    (λ a e. c.land.ensures.none is a (at_is g c ∙ e)) (λ e. ap (λ v. v.items) (c.land.ensures.same is (at_is g c ∙ e))) c.land.ensures.homes
beside g c (Some to) is =
    let stays = c.land.ensures.stays (rw is refl) in
    let after = sym (ap (option_map page_of) is) ∙ c.divide-owned.ensures.page in
    let label = label-after c.args.end _ _ _ (page_of to) (sym after) ∙ sym (own_label g c) in
    rw (stays.0, stays.1, stays.2) (
    Fits-stays c.self.inside.numbers _ _ _ c.self.inside.flights c.self.inside.members c.self.inside.files c.self.inside.cache.items c.self.invariant.0 c.args.page.0 c.take_at.result c.take_at.ensures.owned to
    (subst (Changes _ _ c.args.page.0) is (changes g c)) (ap (λ l. l.group) label) (ap (λ l. l.content) label))

landing : (g : given.Over) (c : goal.After-into_carried g)
    → Landing c.self.inside.numbers c.land.new.numbers c.self.inside.owned.items c.land.new.slots.items (vec_capacity c.self.inside.owned) (vec_capacity c.land.new.slots) c.self.inside.flights c.unlist.new.flights c.self.inside.members c.land.new.members c.self.inside.files c.self.inside.cache.items c.land.new.cache.items c.args.ticket.number c.args.page.0 c.take_at.result c.divide-owned.result.0 (label_holding c.into_moving-frame.result.3 c.into_moving-frame.result.1) c.into_moving-frame.result.0.number (block_of c.into_moving-frame.result.2) c.args.end
landing g c =
    let w = rw (← c.self.view_is) at c.requires in
    record {
      are = c.self.invariant.0;
      moved = under-moving _ w.0 w.1 w.2 w.3 c.args.ticket.number w.4;
      unlisted = rw (← c.number.ensures) c.unlist.ensures.unlisted;
      len = c.unlist.ensures.len;
      fits = c.unlist.ensures.room;
      capacity = c.unlist.ensures.capacity;
      was = c.take_at.ensures.owned;
      changes = changes g c;
      same_places = c.land.ensures.places ∙ c.take_at.ensures.capacity;
      own_label = own_label g c;
      own_frame = c.into_moving-frame.ensures.frame;
      own_block = c.into_moving-frame.ensures.block;
      after = c.divide-owned.ensures.page;
      kept = λ in_frame. c.divide-owned.ensures.bytes in_frame ∙ ap Some (sym c.into_moving-frame.ensures.bytes);
      beside = beside g c c.divide-owned.result.0 refl;
    }

pub invariant_of-self : goal.invariant_of-self
invariant_of-self g c = (Landing-are (landing g c), Landing-framed (landing g c) c.self.inside.by_frame.items c.self.invariant.1)

pub returns-clause-ends : goal.returns-clause-ends
returns-clause-ends g c = λ d label f b stands.
    rw (← c.self.view_is) (Landing-ends (landing g c) d label f b (rw (← c.self.view_is) at stands) (length c.self.inside.by_frame.items))

pub returns-clause-freed : goal.returns-clause-freed
returns-clause-freed g c = λ d label f b stands.
    Landing-freed (landing g c) d label f b (rw (← c.self.view_is) at stands) c.divide-owned.result.1 c.divide-owned.ensures.freed

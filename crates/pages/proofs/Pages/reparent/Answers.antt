use Rattle.std.proofs.Common.{◌≡◌, ◌<◌, None, Some, length, ap, sym, refl, ◌∙◌, subst, arith}
use Rattle.std.proofs.lemmas.List.{length-map}
use Rattle.machine.specs.Slots.{Changes}
use Rattle.machine.specs.Pages.{Page, page_at, has_frame, IsFiled}
use Rattle.machine.specs.Tree.{node_at}
use Rattle.machine.specs.Step.{heir}
use Rattle.machine.proofs.RemovedLemmas.{heir-low}
use Rattle.page_counter.specs.Counts.{IsOut, MovesUp}
use Rattle.rings.specs.Rings.{without}
use Rattle.pages.specs.Records.{page_of}
use Rattle.pages.proofs.TableLemmas.{Changes-map, Changes-twice}
use Rattle.pages.proofs.FlightLemmas.{AreInFlight-same}
use Rattle.pages.proofs.MemberLemmas.{listed}
use Rattle.pages.proofs.CacheLemmas.{AreHome-changes, regrouped-filed}
use Rattle.pages.proofs.TransferLemmas.{pages_of, page-stands, owned-stands, own-filed, changed-byte-kept, framed-same, Fits, off_lists, Fits-moved, Fits-are}
use Rattle.pages.proofs.Pages.reparent.Goals as goal

pub regrouped-moved-requires-clause-below : goal.regrouped-moved-requires-clause-below
regrouped-moved-requires-clause-below c =
    let there = c.requires.there in
    let is = owned-stands c.self.inside.owned.items c.args.page.0 c.take_at-owned.result there.0 c.take_at-owned.ensures.owned (rw (← c.self.view_is) at there.1) in
    ap (λ page. (node_at c.args.counters.now.tree page.group).parent) is ∙ there.2

pub regrouped-moved-requires-clause-out : goal.regrouped-moved-requires-clause-out
regrouped-moved-requires-clause-out c = λ has.
    let there = c.requires.there in
    let is = owned-stands c.self.inside.owned.items c.args.page.0 c.take_at-owned.result there.0 c.take_at-owned.ensures.owned (rw (← c.self.view_is) at there.1) in
    subst (IsOut c.args.counters.now) (sym (ap (λ page. page.group) is)) (there.3 (sym (ap has_frame is) ∙ has))

pub remove-requires : goal.remove-requires
remove-requires c = listed c.self.inside.members.lists _ c.self.invariant.0.listed c.args.page.0 (page_of c.take_at-owned.result) (page-stands c.self.inside.owned.items c.args.page.0 c.take_at-owned.result c.take_at-owned.ensures.owned)

pub push_back-requires-clause-list : goal.push_back-requires-clause-list
push_back-requires-clause-list c =
    let within = rw (← c.self.view_is) at c.requires.parent in
    let same = ap length c.remove.ensures.lists ∙ length-map c.self.inside.members.lists (without c.args.page.0) in
    let low = heir-low c.args.placement c.args.parent.0 (page_of c.take_at-owned.result).residence in
    let group = c.group_of-group.ensures ∙ ap (λ (page : Page). page.group) c.regrouped-moved.ensures.page in
    omega (arith, within, same, low, group)

pub push_back-requires-clause-unlisted : goal.push_back-requires-clause-unlisted
push_back-requires-clause-unlisted c = off_lists _ _ c.self.inside.members.lists c.remove.new.self.lists c.args.page.0 c.take_at-owned.ensures.gone c.self.invariant.0.listed c.remove.ensures.lists

-- what the page was
was : (c : goal.After-push_back) (x : Page) → page_at c.args.self.now.pages c.args.page.0 ≡ Some x → page_of c.take_at-owned.result ≡ x
was c x stands = owned-stands c.self.inside.owned.items c.args.page.0 c.take_at-owned.result x c.take_at-owned.ensures.owned (rw (← c.self.view_is) at stands)

changes : (c : goal.After-push_back) → Changes c.self.inside.owned.items c.place.new.slots.items c.args.page.0 (Some c.regrouped-moved.result)
changes c = Changes-twice _ _ _ _ None _ c.take_at-owned.ensures.gone c.place.ensures.placed

-- the page is of the other group, and where it was
moved : (c : goal.After-push_back) (x : Page) → page_at c.args.self.now.pages c.args.page.0 ≡ Some x
    → Changes (pages_of c.self.inside.owned.items) (pages_of c.place.new.slots.items) c.args.page.0 (Some (record x { group = heir c.args.placement c.args.parent.0 x.residence }))
moved c x stands =
    subst (λ y. Changes (pages_of c.self.inside.owned.items) (pages_of c.place.new.slots.items) c.args.page.0 (Some y)) (c.regrouped-moved.ensures.page ∙ ap (λ (y : Page). record y { group = heir c.args.placement c.args.parent.0 y.residence }) (was c x stands))
    (Changes-map page_of _ _ c.args.page.0 _ (changes c))

within : (c : goal.After-push_back) → c.group_of-group.result.0 < length c.self.inside.members.lists
within c =
    let parent = rw (← c.self.view_is) at c.requires.parent in
    let low = heir-low c.args.placement c.args.parent.0 (page_of c.take_at-owned.result).residence in
    let group = c.group_of-group.ensures ∙ ap (λ (page : Page). page.group) c.regrouped-moved.ensures.page in
    omega (arith, parent, low, group)

beside : (c : goal.After-push_back) → Fits c.self.inside.numbers c.self.inside.numbers c.place.new.slots.items c.self.inside.members c.push_back.new.self c.self.inside.files c.self.inside.cache.items c.self.inside.cache.items
beside c =
    Fits-moved c.self.inside.numbers c.self.inside.owned.items _ _ _ c.self.inside.flights c.self.inside.members c.remove.new.self c.push_back.new.self c.self.inside.files c.self.inside.cache.items c.self.invariant.0 c.args.page.0 c.take_at-owned.result c.regrouped-moved.result
    c.take_at-owned.ensures.owned c.take_at-owned.ensures.gone c.place.ensures.placed (ap (λ (x : Page). x.content) c.regrouped-moved.ensures.page) (rw (← c.remove.ensures.lists) c.remove.ensures.others) c.group_of-group.result.0 (within c) (sym c.group_of-group.ensures)
    (rw (← c.push_back.ensures.lists) c.push_back.ensures.others)

pub invariant_of-self : goal.invariant_of-self
invariant_of-self c =
    let is = c.self.invariant.0 in
    let files = c.self.inside.files in
    let from = c.take_at-owned.result in
    let page = Changes-map page_of _ _ c.args.page.0 _ (changes c) in
    let filed = regrouped-filed files.first files.sizes (page_of from) (heir c.args.placement c.args.parent.0 (page_of from).residence) (own-filed files c.self.inside.owned.items c.args.page.0 from is.filed c.take_at-owned.ensures.owned) in (
      Fits-are (beside c) is (c.place.ensures.capacity ∙ c.take_at-owned.ensures.capacity) refl
          (AreInFlight-same _ _ c.args.page.0 (page_of from) (page_of c.regrouped-moved.result) (page-stands c.self.inside.owned.items c.args.page.0 from c.take_at-owned.ensures.owned) page (ap (λ (x : Page). x.residence) c.regrouped-moved.ensures.page) c.self.inside.flights.slots is.in_flight)
          (AreHome-changes files _ _ c.args.page.0 _ page (subst (IsFiled files.first files.sizes) (sym c.regrouped-moved.ensures.page) filed) is.filed),
      framed-same c.self.inside.by_frame.items _ _ c.args.page.0 _ (changes c) c.self.invariant.1 from c.take_at-owned.ensures.owned c.regrouped-moved.result refl (ap (λ (x : Page). x.residence) c.regrouped-moved.ensures.page),
    )

pub returns-clause-moved : goal.returns-clause-moved
returns-clause-moved c = λ x stands. rw (← c.self.view_is) (moved c x stands)

pub returns-clause-charged : goal.returns-clause-charged
returns-clause-charged c = λ x stands has.
    let is = was c x stands in
    subst (MovesUp c.args.counters.now c.regrouped-moved.new.counters) (ap (λ page. page.group) is) (c.regrouped-moved.ensures.charged (ap has_frame is ∙ has))

pub returns-clause-bytes : goal.returns-clause-bytes
returns-clause-bytes c = rw (← c.self.view_is) (changed-byte-kept _ _ _ _ (changes c) c.take_at-owned.result c.take_at-owned.ensures.owned (ap Some c.regrouped-moved.ensures.bytes))

-- Bytes that an honest arrival brought, and those of a page with the same link.
use Rattle.std.proofs.Common.{◌≡◌, ℕ, ◌+◌, ◌<◌, ◌≤◌, List, reverse, length, get_or, sym, ap, subst, refl, ◌∙◌, arith, Option, Some}
use Rattle.std.proofs.lemmas.List.{take-take}
use Rattle.machine.specs.declared.id.TaskId.{TaskId}
use Rattle.machine.specs.declared.id.TicketId.{TicketId}
use Rattle.machine.specs.declared.event.Place.{Place}
use Rattle.machine.specs.declared.event.Place.TheVariants as place
use Rattle.machine.specs.declared.event.Event.{Event}
use Rattle.machine.specs.declared.event.Event.TheVariants as event
use Rattle.machine.specs.declared.entry.Entry.{Entry}
use Rattle.machine.specs.History.{Spot, Fetched, IsHonest, HoldsLast, last, at_first, at_offset, spot_of}
use Rattle.machine.specs.FirstBytes.{first_of, files_of}
use Rattle.machine.specs.Audit.{before, Passes}
use Rattle.trace.specs.declared.link.Link.{Link}
use Rattle.trace.specs.declared.link.Link.TheVariants.{After}
use Rattle.trace.specs.declared.page.Page.{Page}
use Rattle.trace.specs.declared.step.Stand.{Stand}
use Rattle.trace.specs.Found.{HasFound}
use Rattle.trace.specs.Links.{accessed, IsLink, StoodIn, IsStand}
use Rattle.trace.specs.Settled.{AreBytes}
use Rattle.trace.specs.Walks.{spot_in, page_at}
use Rattle.trace.proofs.AuditLemmas.{passes-before, passes-last}

-- what holds of the first so many holds of fewer
passes-fewer : (first : Spot → ℕ) (xs : List Entry) (k n : ℕ) → k ≤ n → Passes first (before xs n) → Passes first (before xs k)
passes-fewer first xs k n le h = subst (λ (ys : List Entry). Passes first (reverse ys)) (take-take k n xs le) (passes-before first _ k h)

-- an access's page has the bytes that the entry left to which the link leads
stood : (files : ℕ → ℕ → ℕ → ℕ) (xs : List Entry) (stand : Stand) (after : ℕ) (w : Entry) (page : Page) (o : ℕ) → IsStand xs stand → stand.link ≡ After after
    → w ≡ get_or xs after w → accessed w.event ≡ Some page
    → last (at_first files) (before xs stand.at) (spot_in stand.page o) ≡ last (at_first files) (before xs (after + 1)) (spot_in page o)
stood files xs stand after w page o h link is reaches =
    let linked = subst (λ (l : Link). IsLink xs stand.at stand.page l) link h.linked in
    let there = subst (λ (p : Option Page). StoodIn xs stand.at stand.page after p) reaches (linked.1 w is) in
    there files o

spot_at : (t : TaskId) (where_ : Place) (o : ℕ) → at_offset o (spot_of t.0 where_) ≡ spot_in (page_at t where_) o
spot_at t (place.Virtual v offset) o = refl
spot_at t (place.File file q offset) o = refl

pub known : (xs : List Entry) (end at after : ℕ) (ticket : TicketId) (bytes : List ℕ) (stand : Stand) (e w : Entry) (page : Page) → at < end → end ≤ length xs → Passes (first_of (reverse xs)) (before xs end)
    → IsStand xs stand → stand.link ≡ After after → w ≡ get_or xs after w → accessed w.event ≡ Some page
    → e ≡ get_or xs at e → e.event ≡ event.Arrived ticket bytes → HasFound xs at ticket.0 after
    → AreBytes bytes (λ o. last (first_of (reverse xs)) (before xs stand.at) (spot_in stand.page o))
known xs end at after ticket bytes stand e w page low within good h link wis reaches eis arrived found =
    let first = first_of (reverse xs) in
    let files = files_of (reverse xs) in
    let before_end = passes-fewer first xs (at + 1) end (omega (arith, low)) good in
    let own = passes-last first xs at e (omega (arith, low, within)) eis before_end in
    let honest = subst (λ (what : Event). IsHonest first (before xs at) what) arrived own.0 in
    let holds = subst (λ (fetch : Option Fetched). HoldsLast first bytes fetch) found.fetched honest in
    let r = found.read_in in
    λ o lt. holds o lt
    ∙ (ap (λ (spot : Spot). last first (before xs r.at) spot) (spot_at r.access.task r.access.place o)
    ∙ (stood files xs (record { at = r.at; page = page_at r.access.task r.access.place; link = After after }) after w page o found.stands refl wis reaches
    ∙ sym (stood files xs stand after w page o h link wis reaches)))

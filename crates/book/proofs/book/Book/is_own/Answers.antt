use Rattle.std.proofs.Common.{◌≡◌, ◌<◌, ◌==◌, ◌∙◌, ◌&&◌, ℕ, Bool, true, false, List, length, Option, Some, refl, sym, ap, subst, arith}
use Rattle.std.specs.Prelude.{IfSome}
use Rattle.std.proofs.lemmas.List.{get_or_read}
use denote.Enum.Bare.{sameb}
use Rattle.machine.specs.contracts.record.Direction.{the_type}
use Rattle.machine.specs.declared.record.Direction.{Direction}
use Rattle.machine.specs.declared.record.Direction.TheVariants.{In, Out}
use Rattle.machine.specs.declared.id.WorkerId.{WorkerId}
use Rattle.machine.specs.Slots.{at}
use Rattle.machine.specs.Pages.{Page, Pages, is_in_flight}
use Rattle.machine.specs.State.{page_numbers}
use Rattle.machine.specs.History.{taker}
use Rattle.machine.specs.Call.{Past, is_worker}
use Rattle.legal.proofs.StepLemmas.{IsNumbered, legal-numbered}
use Rattle.pages.specs.PagesOf.{is_direction, is_flight_to, IsInTransfer}
use Rattle.pages.specs.declared.flight.Flight.{Flight}
use Rattle.book.specs.Told.{taker_of}
use Rattle.book.proofs.CallLemmas.{history_of}
use Rattle.book.proofs.book.Book.is_own.Goals as goal

same_direction : (found wanted : Direction) → is_direction wanted found ≡ sameb the_type found wanted
same_direction In In = refl
same_direction In Out = refl
same_direction Out In = refl
same_direction Out Out = refl

pub returns-else-eq : goal.returns-else-eq
returns-else-eq c =
    let none : is_in_flight c.args.direction c.args.self.now.state.pages c.args.ticket.0 ≡ false =
    ap (λ (p : Past). is_in_flight c.args.direction p.state.pages c.args.ticket.0) (sym c.self.view_is)
    ∙ ap (λ (ps : Pages). is_in_flight c.args.direction ps c.args.ticket.0) (sym c.pages.ensures.pages)
    ∙ c.flight.ensures.flying c.args.direction
    ∙ ap (is_flight_to c.args.direction) c.in-Some.is
    ∙ same_direction c.in-Some.flight.direction c.args.direction
    ∙ sym c.if-eq.ensures in
    c.if-eq.false ∙ sym (ap (λ (b : Bool). b && is_worker c.args.worker.0 (taker c.args.ticket.0 c.args.self.now.history)) none)

pub returns-in-None : goal.returns-in-None
returns-in-None c =
    let none : is_in_flight c.args.direction c.args.self.now.state.pages c.args.ticket.0 ≡ false =
    ap (λ (p : Past). is_in_flight c.args.direction p.state.pages c.args.ticket.0) (sym c.self.view_is)
    ∙ ap (λ (ps : Pages). is_in_flight c.args.direction ps c.args.ticket.0) (sym c.pages.ensures.pages)
    ∙ c.flight.ensures.flying c.args.direction
    ∙ ap (is_flight_to c.args.direction) c.in-None.is in
    sym (ap (λ (b : Bool). b && is_worker c.args.worker.0 (taker c.args.ticket.0 c.args.self.now.history)) none)

pub index-requires : goal.index-requires
index-requires c =
    let b = c.self.inside in
    let page = c.in-Some.flight.page.0 in
    let flies : IsInTransfer b.state.tables.pages c.args.ticket.0 c.in-Some.flight = subst (λ (ps : Pages). IsInTransfer ps c.args.ticket.0 c.in-Some.flight) c.pages.ensures.pages c.in-Some.ensures.moves in
    let numbered : IsNumbered (page_numbers b.state.tables.opening) b.state.tables.pages = legal-numbered b.state.tables.opening (history_of b) b.state.tables c.self.invariant.told.legal in
    let lt : page < page_numbers b.state.tables.opening = subst (λ (slot : Option Page). IfSome slot (λ x. page < page_numbers b.state.tables.opening)) flies.stands (numbered.below page) in
    let le = c.self.invariant.takers in
    let ok = b.takers.ok.0 in
    omega (arith, lt, le, ok)

pub returns-then-eq : goal.returns-then-eq
returns-then-eq c =
    let b = c.self.inside in
    let page = c.in-Some.flight.page.0 in
    let flying : is_in_flight c.args.direction c.args.self.now.state.pages c.args.ticket.0 ≡ true =
    ap (λ (p : Past). is_in_flight c.args.direction p.state.pages c.args.ticket.0) (sym c.self.view_is)
    ∙ ap (λ (ps : Pages). is_in_flight c.args.direction ps c.args.ticket.0) (sym c.pages.ensures.pages)
    ∙ c.flight.ensures.flying c.args.direction
    ∙ ap (is_flight_to c.args.direction) c.in-Some.is
    ∙ same_direction c.in-Some.flight.direction c.args.direction
    ∙ sym c.eq.ensures
    ∙ c.if-eq.true in
    let listed : at b.state.flights c.args.ticket.0 ≡ Some c.in-Some.flight = sym (c.flight.ensures.flight ∙ ap (λ (fs : List (Option Flight)). at fs c.args.ticket.0) c.pages.ensures.flights) ∙ c.in-Some.is in
    let taken : taker c.args.ticket.0 (history_of b) ≡ Some (taker_of b.takers.items page) =
    subst (λ (slot : Option Flight). IfSome slot (λ f. taker c.args.ticket.0 (history_of b) ≡ Some (taker_of b.takers.items f.page.0))) listed (c.self.invariant.told.taken c.args.ticket.0) in
    let read : c.index.result.now.0 ≡ taker_of b.takers.items page = ap (λ (w : WorkerId). w.0) (get_or_read b.takers.items page c.index.result.now (within c) c.index.ensures (record { 0 = 0 })) in
    c.eq-then-eq.ensures
    ∙ ap (λ (k : ℕ). k == c.args.worker.0) read
    ∙ sym (ap (λ (x : Bool). x && is_worker c.args.worker.0 (taker c.args.ticket.0 c.args.self.now.history)) flying
    ∙ ap (λ (p : Past). is_worker c.args.worker.0 (taker c.args.ticket.0 p.history)) (sym c.self.view_is)
    ∙ ap (is_worker c.args.worker.0) taken)
  where
    within : (c : goal.After-eq-then-eq) → c.in-Some.flight.page.0 < length c.self.inside.takers.items
    within c =
        let b = c.self.inside in
        let page = c.in-Some.flight.page.0 in
        let flies : IsInTransfer b.state.tables.pages c.args.ticket.0 c.in-Some.flight = subst (λ (ps : Pages). IsInTransfer ps c.args.ticket.0 c.in-Some.flight) c.pages.ensures.pages c.in-Some.ensures.moves in
        let numbered : IsNumbered (page_numbers b.state.tables.opening) b.state.tables.pages = legal-numbered b.state.tables.opening (history_of b) b.state.tables c.self.invariant.told.legal in
        let lt : page < page_numbers b.state.tables.opening = subst (λ (slot : Option Page). IfSome slot (λ x. page < page_numbers b.state.tables.opening)) flies.stands (numbered.below page) in
        let le = c.self.invariant.takers in
        omega (arith, lt, le)

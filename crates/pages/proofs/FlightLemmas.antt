-- Transfers in flight, after a change of one page and of one ticket.
use Rattle.std.proofs.Common.{◌≡◌, ◌≢◌, ℕ, Bool, true, false, List, Option, Some, None, refl, sym, ap, ◌∙◌, subst, inl, inr, arith}
use Rattle.std.specs.Prelude.{option_map, IfSome, IsSome}
use Rattle.std.proofs.lemmas.Bool.{false_from_ne_true}
use Rattle.std.proofs.lemmas.Bool.Decides.{eqb_tells}
use Rattle.machine.specs.Slots.{at, there_and, Changes}
use Rattle.machine.specs.Pages.{Page, Pages, Residence, Held, Coming, Going, Away, page_at, is_number, ticket_at, in_transfer_at, is_in_transfer, is_flying_at, is_in_flight}
use Rattle.machine.proofs.Values.{some_inj}
use Rattle.machine.specs.declared.record.Direction.{Direction}
use Rattle.machine.specs.declared.record.Direction.TheVariants.{In, Out}
use Rattle.pages.specs.declared.flight.Flight.{Flight}
use Rattle.pages.specs.PagesOf.{Label, label_of, labelled, moving, flight, is_direction, is_flight_to, IsInTransfer, AreInFlight}
use Rattle.pages.proofs.TableLemmas.{any-none, any-only}

-- the page of a number is in transfer under a ticket
abbrev pub under : Option Page → ℕ → Bool
under slot n = there_and (λ page. is_number (ticket_at page.residence) n) slot

-- it is in no transfer
abbrev pub IsSettled : Option Page → Type 0
IsSettled slot = (n : ℕ) → under slot n ≡ false

abbrev pub page_number : Option Flight → Option ℕ
page_number slot = option_map (λ (f : Flight). f.page.0) slot

same_number : (ticket : Option ℕ) (m n : ℕ) → is_number ticket m ≡ true → is_number ticket n ≡ true → m ≡ n
same_number None m n first second = absurd (cc)
same_number (Some t) m n first second =
    elim (eqb_tells t m) [
      | inl here ↦ elim (eqb_tells t n) [
        | inl there ↦ sym here.1 ∙ there.1
        | inr apart ↦ absurd (let not = sym apart.0 ∙ second in cc)
      ]
      | inr apart ↦ absurd (let not = sym apart.0 ∙ first in cc)
    ]

-- a page that is in transfer under a ticket
pub under-moving : (slot : Option Page) (direction : Direction) (label : Label) (frame block n : ℕ) → slot ≡ Some (labelled label (moving direction frame block n)) → under slot n ≡ true
under-moving slot direction label frame block n is = ap (λ s. under s n) is ∙ by_direction direction
  where
    by_direction : (d : Direction) → is_number (ticket_at (moving d frame block n)) n ≡ true
    by_direction In = grind arith
    by_direction Out = grind arith

-- a page is in one transfer at most
one_ticket : (slot : Option Page) (m n : ℕ) → under slot m ≡ true → under slot n ≡ true → m ≡ n
one_ticket None m n first second = absurd (cc)
one_ticket (Some page) m n first second = same_number (ticket_at page.residence) m n first second

none_under : (residence : Residence) (n : ℕ) → in_transfer_at residence ≡ false → is_number (ticket_at residence) n ≡ false
none_under (Held frame) n is = refl
none_under (Coming frame block ticket) n is = absurd (cc)
none_under (Going frame block ticket) n is = absurd (cc)
none_under (Away block) n is = refl

-- what is in no transfer is under no ticket
pub IsSettled-still : (slot : Option Page) → there_and is_in_transfer slot ≡ false → IsSettled slot
IsSettled-still None is = λ n. refl
IsSettled-still (Some page) is = λ n. none_under page.residence n is

pub IsSettled-is : (slot to : Option Page) → slot ≡ to → IsSettled to → IsSettled slot
IsSettled-is slot to is settled = λ n. ap (λ s. under s n) is ∙ settled n

-- a page that is in transfer is there
pub under-there : (slot : Option Page) (n : ℕ) → under slot n ≡ true → IsSome slot
under-there None n is = absurd (cc)
under-there (Some page) n is = refl

module _ (old new : Pages) (p : ℕ) (to : Option Page) (placed : Changes old new p to) where
  under-others : (q m : ℕ) → q ≢ p → under (page_at new q) m ≡ under (page_at old q) m
  under-others q m apart = ap (λ slot. under slot m) (placed.others q apart)

  under-own : (m : ℕ) → under (page_at new p) m ≡ under to m
  under-own m = ap (λ slot. under slot m) placed.changed

  -- a flight of another page goes on
  known-apart : (m : ℕ) (slot : Option Flight) → (under (page_at old p) m ≡ true → ⊥) → IfSome slot (IsInTransfer old m) → IfSome slot (IsInTransfer new m)
  known-apart m None other is = tt
  known-apart m (Some f) other is =
      elim (eqb_tells f.page.0 p) [
        | inl same ↦ absurd (other (under-moving _ f.direction is.label is.frame is.block m (ap (page_at old) (sym same.1) ∙ is.stands)))
        | inr apart ↦ record { label = is.label; frame = is.frame; block = is.block; stands = placed.others f.page.0 apart.1 ∙ is.stands }
      ]

  -- a page that begins and ends in no transfer changes
  pub AreInFlight-apart : (flights : List (Option Flight)) → AreInFlight old flights → IsSettled (page_at old p) → IsSettled to → AreInFlight new flights
  AreInFlight-apart flights is before after = record {
    known = λ n. known-apart n (at flights n) (λ moves. let not = sym (before n) ∙ moves in cc) (is.known n);
    listed = λ q n moves. elim (eqb_tells q p) [
      | inl same ↦ absurd (let not = sym (after n) ∙ sym (under-own n) ∙ ap (λ r. under (page_at new r) n) (sym same.1) ∙ moves in cc)
      | inr apart ↦ is.listed q n (sym (under-others q n apart.1) ∙ moves)
    ];
  }

  -- a transfer begins under a free ticket
  pub AreInFlight-begun : (flights later : List (Option Flight)) (n : ℕ) (direction : Direction) (label : Label) (frame block : ℕ) → to ≡ Some (labelled label (moving direction frame block n)) → AreInFlight old flights → IsSettled (page_at old p) → at flights n ≡ None → Changes flights later n (Some (flight p direction)) → AreInFlight new later
  AreInFlight-begun flights later n direction label frame block begun is before free listed = record {
    known = λ m. elim (eqb_tells m n) [
      | inl same ↦ subst (λ k. IfSome (at later k) (IsInTransfer new k)) (sym same.1) (subst (λ slot. IfSome slot (IsInTransfer new n)) (sym listed.changed) (record { label = label; frame = frame; block = block; stands = placed.changed ∙ begun }))
      | inr apart ↦ subst (λ slot. IfSome slot (IsInTransfer new m)) (sym (listed.others m apart.1)) (known-apart m (at flights m) (λ moves. let not = sym (before m) ∙ moves in cc) (is.known m))
    ];
    listed = λ q m moves. elim (eqb_tells q p) [
      | inl same ↦ (
          let here : under to m ≡ true = sym (under-own m) ∙ ap (λ r. under (page_at new r) m) (sym same.1) ∙ moves in
          let number : m ≡ n = one_ticket to m n here (under-moving to direction label frame block n begun) in
          ap page_number (ap (at later) number ∙ listed.changed) ∙ ap Some (sym same.1)
          )
      | inr apart ↦ (
          let there = is.listed q m (sym (under-others q m apart.1) ∙ moves) in
          elim (eqb_tells m n) [
            | inl same ↦ absurd (let none = ap page_number (ap (at flights) same.1 ∙ free) in let not = sym none ∙ there in cc)
            | inr differs ↦ ap page_number (listed.others m differs.1) ∙ there
          ]
          )
    ];
  }

  -- a transfer ends, and its ticket is free
  pub AreInFlight-ended : (flights later : List (Option Flight)) (n : ℕ) → AreInFlight old flights → under (page_at old p) n ≡ true → Changes flights later n None → IsSettled to → AreInFlight new later
  AreInFlight-ended flights later n is within unlisted after = record {
    known = λ m. elim (eqb_tells m n) [
      | inl same ↦ subst (λ slot. IfSome slot (IsInTransfer new m)) (sym (ap (at later) same.1 ∙ unlisted.changed)) tt
      | inr apart ↦ subst (λ slot. IfSome slot (IsInTransfer new m)) (sym (unlisted.others m apart.1)) (known-apart m (at flights m) (λ moves. apart.1 (one_ticket (page_at old p) m n moves within)) (is.known m))
    ];
    listed = λ q m moves. elim (eqb_tells q p) [
      | inl same ↦ absurd (let not = sym (after m) ∙ sym (under-own m) ∙ ap (λ r. under (page_at new r) m) (sym same.1) ∙ moves in cc)
      | inr apart ↦ (
          let there = is.listed q m (sym (under-others q m apart.1) ∙ moves) in
          elim (eqb_tells m n) [
            | inl same ↦ absurd (let own = is.listed p n within in let both = sym there ∙ ap (λ k. page_number (at flights k)) same.1 ∙ own in apart.1 cc)
            | inr differs ↦ ap page_number (unlisted.others m differs.1) ∙ there
          ]
          )
    ];
  }

-- a page changes and is where it was
module _ (old new : Pages) (p : ℕ) (x y : Page) (was : page_at old p ≡ Some x) (placed : Changes old new p (Some y)) (stays : y.residence ≡ x.residence) where
  under-same : (q m : ℕ) → under (page_at new q) m ≡ under (page_at old q) m
  under-same q m =
      elim (eqb_tells q p) [
        | inl same ↦ ap (λ r. under (page_at new r) m) same.1 ∙ ap (λ s. under s m) placed.changed ∙ ap (λ r. is_number (ticket_at r) m) stays ∙ sym (ap (λ s. under s m) (ap (page_at old) same.1 ∙ was))
        | inr apart ↦ ap (λ s. under s m) (placed.others q apart.1)
      ]

  known-same : (m : ℕ) (slot : Option Flight) → IfSome slot (IsInTransfer old m) → IfSome slot (IsInTransfer new m)
  known-same m None is = tt
  known-same m (Some f) is =
      elim (eqb_tells f.page.0 p) [
        | inl same ↦ (
            let moves = ap (λ page. page.residence) (some_inj (sym was ∙ ap (page_at old) (sym same.1) ∙ is.stands)) in
            record { label = label_of y; frame = is.frame; block = is.block; stands = ap (page_at new) same.1 ∙ placed.changed ∙ ap (λ r. Some (labelled (label_of y) r)) (stays ∙ moves) }
            )
        | inr apart ↦ record { label = is.label; frame = is.frame; block = is.block; stands = placed.others f.page.0 apart.1 ∙ is.stands }
      ]

  pub AreInFlight-same : (flights : List (Option Flight)) → AreInFlight old flights → AreInFlight new flights
  AreInFlight-same flights is = record {
    known = λ n. known-same n (at flights n) (is.known n);
    listed = λ q n moves. is.listed q n (sym (under-same q n) ∙ moves);
  }

-- ---- which way a ticket's page goes

flying-ticket : (d : Direction) (n : ℕ) (residence : Residence) → is_flying_at d n residence ≡ true → is_number (ticket_at residence) n ≡ true
flying-ticket In n (Coming frame block ticket) is = is
flying-ticket Out n (Going frame block ticket) is = is
flying-ticket d n residence is = absurd (cc)

flying-tells : (wanted d : Direction) (frame block n : ℕ) → is_flying_at wanted n (moving d frame block n) ≡ is_direction wanted d
flying-tells In In frame block n = grind arith
flying-tells Out Out frame block n = grind arith
flying-tells In Out frame block n = refl
flying-tells Out In frame block n = refl

module _ (pages : Pages) (flights : List (Option Flight)) (is : AreInFlight pages flights) (n : ℕ) where
  -- a page is in transfer under the ticket in a direction exactly where the ticket's flight is one in it
  pub flies : (d : Direction) → is_in_flight d pages n ≡ is_flight_to d (at flights n)
  flies d = by_flight (at flights n) refl
    where
      under-test : (slot : Option Page) → there_and (λ page. is_flying_at d n page.residence) slot ≡ true → under slot n ≡ true
      under-test None is = absurd (cc)
      under-test (Some page) is = flying-ticket d n page.residence is

      listed : (q : ℕ) → there_and (λ page. is_flying_at d n page.residence) (at pages q) ≡ true → page_number (at flights n) ≡ Some q
      listed q hit = is.listed q n (under-test (page_at pages q) hit)

      by_flight : (slot : Option Flight) → at flights n ≡ slot → is_in_flight d pages n ≡ is_flight_to d slot
      by_flight None e = any-none (λ page. is_flying_at d n page.residence) pages (λ q. false_from_ne_true _ (λ hit. let two = sym (ap page_number e) ∙ listed q hit in cc))
      by_flight (Some f) e =
          let it : IsInTransfer pages n f = subst (λ slot. IfSome slot (IsInTransfer pages n)) e (is.known n) in
          any-only (λ page. is_flying_at d n page.residence) pages f.page.0 (λ q hit. let two = sym (ap page_number e) ∙ listed q hit in cc)
          ∙ ap (there_and (λ page. is_flying_at d n page.residence)) it.stands ∙ flying-tells d f.direction it.frame it.block n

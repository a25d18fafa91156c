-- What is in use once each command of a run is answered.
use Rattle.std.proofs.Common.{◌≡◌, ℕ, ◌≤◌, Bool, true, false, List, [], ◌∷◌, Option, Some, None, refl, sym, ap, ◌∙◌, arith}
use Rattle.std.proofs.lemmas.List.Sums.{sum_by-cons}
use Rattle.machine.specs.Slots.{there_and, count_there}
use Rattle.machine.specs.Pages.{Content, Memory, OfFile, Residence, Held, Coming, Going, Away, Page, page_at, has_frame, is_held, is_in_transfer, in_transfer, used_frames, has_swap, used_swap, IsFiled}
use Rattle.machine.specs.State.{State, opening_of}
use Rattle.machine.proofs.SlotLemmas.{one_if, slot-le-sum_by}
use Rattle.machine.proofs.RemovedLemmas.{count-alike}
use Rattle.legal.proofs.FileSteps.{AreFiled}
use Rattle.legal.proofs.SoundLemmas.{legal-files}
use Rattle.driver.specs.declared.seat.Activity.{Activity}
use Rattle.driver.specs.declared.seat.Seat.{Seat}
use Rattle.driver.specs.Hands.{carries, tickets_in_hand}
use Rattle.laws.proofs.HandLemmas.{transfers_are_in_hand}
use Rattle.laws.specs.Laws.{AllRest, is_away, NothingIsLeft}
use Rattle.laws.proofs.Legals.{runs_are_legal}

-- nobody who rests has a ticket in hand
rest-tickets : (seats : List Seat) → AllRest seats → tickets_in_hand seats ≡ 0
rest-tickets [] h = refl
rest-tickets (seat ∷ seats) h =
    let more = sum_by-cons (λ (s : Seat). one_if (carries s.activity)) seat seats in
    let here : one_if (carries seat.activity) ≡ 0 = ap (λ (a : Activity). one_if (carries a)) h.0 in
    let rest = rest-tickets seats h.1 in
    omega (arith, more, here, rest)

-- a page that is in no transfer is held, or on its block alone
held-frame : (page : Page) (is : Residence) → page.residence ≡ is → is_in_transfer page ≡ false → is_held page ≡ has_frame page
held-frame page (Held frame) e still = rw e refl
held-frame page (Coming frame block ticket) e still = absurd (let flies : is_in_transfer page ≡ true = rw e refl in cc)
held-frame page (Going frame block ticket) e still = absurd (let flies : is_in_transfer page ≡ true = rw e refl in cc)
held-frame page (Away block) e still = rw e refl

away-swap : (swap : ℕ) (files : List ℕ) (page : Page) (content : Content) (is : Residence) → page.content ≡ content → page.residence ≡ is → IsFiled swap files page → is_in_transfer page ≡ false → is_away page ≡ has_swap page
away-swap swap files page Memory (Held frame) e f filed still = rw (e, f) refl
away-swap swap files page (OfFile file q) (Held frame) e f filed still = rw (e, f) refl
away-swap swap files page content (Coming frame block ticket) e f filed still = absurd (let flies : is_in_transfer page ≡ true = rw f refl in cc)
away-swap swap files page content (Going frame block ticket) e f filed still = absurd (let flies : is_in_transfer page ≡ true = rw f refl in cc)
away-swap swap files page Memory (Away block) e f filed still = rw (e, f) refl
away-swap swap files page (OfFile file q) (Away block) e f filed still = absurd (rw (e, f) at filed).1

module _ (s : State) (filed : AreFiled s) (none : in_transfer s.pages ≡ 0) where
  -- no page is in transfer
  stands : (p : ℕ) → there_and is_in_transfer (page_at s.pages p) ≡ false
  stands p = by_test (there_and is_in_transfer (page_at s.pages p)) (slot-le-sum_by (λ (slot : Option Page). one_if (there_and is_in_transfer slot)) refl s.pages p)
    where
      by_test : (b : Bool) → one_if b ≤ in_transfer s.pages → b ≡ false
      by_test true most = absurd (omega (arith, most, none))
      by_test false most = refl

  frames-held : used_frames s.pages ≡ count_there is_held s.pages
  frames-held = sym (count-alike has_frame is_held s.pages s.pages (λ p. by_slot (page_at s.pages p) (stands p)))
    where
      by_slot : (slot : Option Page) → there_and is_in_transfer slot ≡ false → there_and is_held slot ≡ there_and has_frame slot
      by_slot None still = refl
      by_slot (Some page) still = held-frame page page.residence refl still

  swap-away : used_swap s.pages ≡ count_there is_away s.pages
  swap-away = sym (count-alike has_swap is_away s.pages s.pages (λ p. by_slot p (page_at s.pages p) refl (stands p)))
    where
      by_slot : (p : ℕ) (slot : Option Page) → page_at s.pages p ≡ slot → there_and is_in_transfer slot ≡ false → there_and is_away slot ≡ there_and has_swap slot
      by_slot p None there still = refl
      by_slot p (Some page) there still = away-swap s.opening.swap s.opening.files page page.content page.residence refl refl (filed.filed p page there) still

pub nothing_is_left : NothingIsLeft
nothing_is_left config before steps answers end runs rest =
    let none : in_transfer end.past.state.pages ≡ 0 = transfers_are_in_hand config before steps answers end runs ∙ rest-tickets end.seats rest in
    let filed = legal-files (opening_of config) end.past.history end.past.state (runs_are_legal config before steps answers end runs) in
    (none, frames-held end.past.state filed none, swap-away end.past.state filed none)

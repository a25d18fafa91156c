-- How many actors are at what passes a test, once one of them is at something else.
use Rattle.std.proofs.Common.{◌≡◌, ℕ, ◌+◌, Bool, true, false, List, [], ◌∷◌, ap, arith}
use Rattle.std.specs.Prelude.{if◌then◌else◌, count_by}
use Rattle.std.proofs.lemmas.List.Sums.{sum_by-cons}
use Rattle.machine.specs.declared.command.Actor.{Actor}
use Rattle.driver.specs.declared.seat.Activity.{Activity}
use Rattle.driver.specs.declared.seat.Activity.TheVariants.{Rests}
use Rattle.driver.specs.declared.seat.Seat.{Seat}
use Rattle.driver.specs.Schedule.{is_of, activity_of, with_activity}
use Rattle.machine.proofs.SlotLemmas.{one_if}

module _ (test : Activity → Bool) (none : test Rests ≡ false) where
  -- how many seats pass
  abbrev passing : List Seat → ℕ
  passing seats = count_by (λ (seat : Seat). test seat.activity) seats

  pub count-with_activity : (who : Actor) (now : Activity) (seats : List Seat) → passing (with_activity who now seats) + one_if (test (activity_of who seats)) ≡ passing seats + one_if (test now)
  count-with_activity who now [] =
      let more = sum_by-cons (λ (seat : Seat). one_if (test seat.activity)) (record { actor = who; activity = now }) [] in
      let rested : one_if (test Rests) ≡ 0 = ap one_if none in
      omega (arith, more, rested)
  count-with_activity who now (seat ∷ seats) = at (is_of who seat) (count-with_activity who now seats)
    where
      at : (b : Bool) → passing (with_activity who now seats) + one_if (test (activity_of who seats)) ≡ passing seats + one_if (test now)
          → passing (if b then record { actor = seat.actor; activity = now } ∷ seats else seat ∷ with_activity who now seats) + one_if (test (if b then seat.activity else activity_of who seats))
          ≡ passing (seat ∷ seats) + one_if (test now)
      at true ih =
          let more = sum_by-cons (λ (s : Seat). one_if (test s.activity)) (record { actor = seat.actor; activity = now }) seats in
          let was = sum_by-cons (λ (s : Seat). one_if (test s.activity)) seat seats in
          omega (arith, more, was)
      at false ih =
          let more = sum_by-cons (λ (s : Seat). one_if (test s.activity)) seat (with_activity who now seats) in
          let was = sum_by-cons (λ (s : Seat). one_if (test s.activity)) seat seats in
          omega (arith, more, was, ih)

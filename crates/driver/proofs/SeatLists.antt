-- Seats, one after another.
use Rattle.std.proofs.Common.{◌≡◌, ℕ, suc, ◌<◌, Bool, true, false, List, [], ◌∷◌, ◌++◌, length, length-append, get_or, refl, sym, ap, ◌∙◌, arith}
use Rattle.std.specs.Prelude.{if◌then◌else◌, slice_set, nat_eq, nat_lt, ◌||◌, ◌+◌, ◌≤◌, ◌==◌, cond, Option, Some, None, position}
use Rattle.std.specs.List.{list_any, position_or_len}
use Rattle.std.proofs.lemmas.Bool.Decides.{nat_tests}
use Rattle.std.proofs.lemmas.List.Recursion.{is_position_or_len}
use Rattle.machine.specs.declared.command.Actor.{Actor}
use Rattle.driver.specs.declared.seat.Activity.{Activity}
use Rattle.driver.specs.declared.seat.Activity.TheVariants.{Rests}
use Rattle.driver.specs.declared.seat.Seat.{Seat}
use Rattle.driver.specs.Schedule.{number_of, is_of, activity_of, with_activity}
use Rattle.driver.specs.Hands.{OwnActivity, OwnSeats}
use Rattle.driver.specs.Seats.{numbers_of, place_of, SitsAt, IsFound}

-- who sits where, by numbers

-- the first place of a number
abbrev first_at : ℕ → List ℕ → ℕ
first_at n [] = 0
first_at n (k ∷ ks) = cond (nat_eq n k) 0 (1 + first_at n ks)

same_test : (a b : ℕ) → (a == b) ≡ nat_eq b a
same_test a b = grind (arith, nat_tests)

place_of-first : (actor : Actor) (seats : List Seat) → place_of actor seats ≡ first_at (number_of actor) (numbers_of seats)
place_of-first actor [] = refl
place_of-first actor (seat ∷ seats) =
    let before = place_of-first actor seats in
    let next : suc (place_of actor seats) ≡ 1 + first_at (number_of actor) (numbers_of seats) = omega (arith, before) in
    ap (λ b. cond b 0 (suc (place_of actor seats))) (same_test (number_of seat.actor) (number_of actor)) ∙ ap (λ n. cond (nat_eq (number_of actor) (number_of seat.actor)) 0 n) next

place_of-number : (actor : Actor) (seats : List Seat) → position_or_len (nat_eq (number_of actor)) (numbers_of seats) ≡ place_of actor seats
place_of-number actor seats = sym (place_of-first actor seats ∙ is_position_or_len (first_at (number_of actor)) (nat_eq (number_of actor)) refl (λ k ks. refl) (numbers_of seats))

length-numbers : (seats : List Seat) → length (numbers_of seats) ≡ length seats
length-numbers [] = refl
length-numbers (seat ∷ seats) = ap suc (length-numbers seats)

place_of-most : (actor : Actor) (seats : List Seat) → place_of actor seats ≤ length seats
place_of-most actor [] = omega arith
place_of-most actor (seat ∷ seats) = at (is_of actor seat) (place_of-most actor seats)
  where
    at : (b : Bool) → place_of actor seats ≤ length seats → (if b then 0 else suc (place_of actor seats)) ≤ suc (length seats)
    at true ih = omega arith
    at false ih = omega arith

module _ (actor : Actor) (seats : List Seat) where
  looked_up : position (nat_eq (number_of actor)) (numbers_of seats) ≡ cond (nat_lt (place_of actor seats) (length seats)) (Some (place_of actor seats)) None
  looked_up = rw (place_of-number actor seats, length-numbers seats) refl

  seat_found : (place : ℕ) → Some place ≡ position (nat_eq (number_of actor)) (numbers_of seats) → SitsAt actor place seats
  seat_found place found = by_test (nat_lt (place_of actor seats) (length seats)) refl (found ∙ looked_up)
    where
      by_test : (b : Bool) → nat_lt (place_of actor seats) (length seats) ≡ b → Some place ≡ cond b (Some (place_of actor seats)) None → SitsAt actor place seats
      by_test true is e = let same : place ≡ place_of actor seats = cc in record { is = same; within = grind (arith, nat_tests, is, same) }
      by_test false is e = cc

  seat_missing : None ≡ position (nat_eq (number_of actor)) (numbers_of seats) → place_of actor seats ≡ length seats
  seat_missing missing = by_test (nat_lt (place_of actor seats) (length seats)) refl (missing ∙ looked_up)
    where
      by_test : (b : Bool) → nat_lt (place_of actor seats) (length seats) ≡ b → None ≡ cond b (Some (place_of actor seats)) None → place_of actor seats ≡ length seats
      by_test true is e = cc
      by_test false is e = let most = place_of-most actor seats in grind (arith, nat_tests, is, most)

pub found-by_number : (actor : Actor) (seats : List Seat) (found : Option ℕ) → found ≡ position (nat_eq (number_of actor)) (numbers_of seats) → IsFound actor found seats
found-by_number actor seats None e = seat_missing actor seats e
found-by_number actor seats (Some place) e = seat_found actor seats place e

-- a seat keeps its number whatever its actor is at
pub numbers-with_activity : (actor : Actor) (what : Activity) (seats : List Seat) → place_of actor seats < length seats → numbers_of (with_activity actor what seats) ≡ numbers_of seats
numbers-with_activity actor what [] h = absurd (omega arith)
numbers-with_activity actor what (seat ∷ seats) h = at (is_of actor seat) h (numbers-with_activity actor what seats)
  where
    at : (b : Bool) → (if b then 0 else suc (place_of actor seats)) < suc (length seats)
        → (place_of actor seats < length seats → numbers_of (with_activity actor what seats) ≡ numbers_of seats)
        → numbers_of (if b then record { actor = seat.actor; activity = what } ∷ seats else seat ∷ with_activity actor what seats) ≡ number_of seat.actor ∷ numbers_of seats
    at true h ih = refl
    at false h ih = ap (λ (ns : List ℕ). number_of seat.actor ∷ ns) (ih (omega arith))

pub numbers-push : (seats : List Seat) (seat : Seat) → numbers_of (seats ++ seat ∷ []) ≡ numbers_of seats ++ number_of seat.actor ∷ []
numbers-push [] seat = refl
numbers-push (first ∷ seats) seat = ap (λ (ns : List ℕ). number_of first.actor ∷ ns) (numbers-push seats seat)

-- the number of an actor with no seat is none of theirs
pub number_missing : (actor : Actor) (seats : List Seat) → place_of actor seats ≡ length seats → list_any (nat_eq (number_of actor)) (numbers_of seats) ≡ false
number_missing actor [] h = refl
number_missing actor (seat ∷ seats) h = at (is_of actor seat) refl h (number_missing actor seats)
  where
    at : (b : Bool) → is_of actor seat ≡ b → (if b then 0 else suc (place_of actor seats)) ≡ suc (length seats)
        → (place_of actor seats ≡ length seats → list_any (nat_eq (number_of actor)) (numbers_of seats) ≡ false)
        → (nat_eq (number_of actor) (number_of seat.actor) || list_any (nat_eq (number_of actor)) (numbers_of seats)) ≡ false
    at true is h ih = absurd (omega arith)
    at false is h ih = rw (sym (same_test (number_of seat.actor) (number_of actor)) ∙ is) (ih (omega arith))

-- at the actor's seat

pub activity_of-at : (actor : Actor) (seats : List Seat) (d : Seat) → place_of actor seats < length seats → activity_of actor seats ≡ (get_or seats (place_of actor seats) d).activity
activity_of-at actor [] d h = absurd (omega arith)
activity_of-at actor (seat ∷ seats) d h = at (is_of actor seat) h (activity_of-at actor seats d)
  where
    at : (b : Bool) → (if b then 0 else suc (place_of actor seats)) < suc (length seats)
        → (place_of actor seats < length seats → activity_of actor seats ≡ (get_or seats (place_of actor seats) d).activity)
        → (if b then seat.activity else activity_of actor seats) ≡ (get_or (seat ∷ seats) (if b then 0 else suc (place_of actor seats)) d).activity
    at true h ih = refl
    at false h ih = ih (omega arith)

pub with_activity-at : (actor : Actor) (what : Activity) (seats : List Seat) (d : Seat) → place_of actor seats < length seats
    → slice_set seats (place_of actor seats) (record { actor = (get_or seats (place_of actor seats) d).actor; activity = what }) ≡ with_activity actor what seats
with_activity-at actor what [] d h = absurd (omega arith)
with_activity-at actor what (seat ∷ seats) d h = at (is_of actor seat) h (with_activity-at actor what seats d)
  where
    at : (b : Bool) → (if b then 0 else suc (place_of actor seats)) < suc (length seats)
        → (place_of actor seats < length seats → slice_set seats (place_of actor seats) (record { actor = (get_or seats (place_of actor seats) d).actor; activity = what }) ≡ with_activity actor what seats)
        → slice_set (seat ∷ seats) (if b then 0 else suc (place_of actor seats)) (record { actor = (get_or (seat ∷ seats) (if b then 0 else suc (place_of actor seats)) d).actor; activity = what })
        ≡ (if b then record { actor = seat.actor; activity = what } ∷ seats else seat ∷ with_activity actor what seats)
    at true h ih = refl
    at false h ih = ap (λ (ss : List Seat). seat ∷ ss) (ih (omega arith))

-- with no seat

pub activity_of-none : (actor : Actor) (seats : List Seat) → place_of actor seats ≡ length seats → activity_of actor seats ≡ Rests
activity_of-none actor [] h = refl
activity_of-none actor (seat ∷ seats) h = at (is_of actor seat) h (activity_of-none actor seats)
  where
    at : (b : Bool) → (if b then 0 else suc (place_of actor seats)) ≡ suc (length seats)
        → (place_of actor seats ≡ length seats → activity_of actor seats ≡ Rests)
        → (if b then seat.activity else activity_of actor seats) ≡ Rests
    at true h ih = absurd (omega arith)
    at false h ih = ih (omega arith)

pub with_activity-none : (actor : Actor) (what : Activity) (seats : List Seat) → place_of actor seats ≡ length seats
    → with_activity actor what seats ≡ seats ++ record { actor = actor; activity = what } ∷ []
with_activity-none actor what [] h = refl
with_activity-none actor what (seat ∷ seats) h = at (is_of actor seat) h (with_activity-none actor what seats)
  where
    at : (b : Bool) → (if b then 0 else suc (place_of actor seats)) ≡ suc (length seats)
        → (place_of actor seats ≡ length seats → with_activity actor what seats ≡ seats ++ record { actor = actor; activity = what } ∷ [])
        → (if b then record { actor = seat.actor; activity = what } ∷ seats else seat ∷ with_activity actor what seats) ≡ seat ∷ (seats ++ record { actor = actor; activity = what } ∷ [])
    at true h ih = absurd (omega arith)
    at false h ih = ap (λ (ss : List Seat). seat ∷ ss) (ih (omega arith))

-- one change after another

pub with_activity-same : (actor : Actor) (seats : List Seat) → place_of actor seats < length seats → with_activity actor (activity_of actor seats) seats ≡ seats
with_activity-same actor [] h = absurd (omega arith)
with_activity-same actor (seat ∷ seats) h = at (is_of actor seat) h (with_activity-same actor seats)
  where
    at : (b : Bool) → (if b then 0 else suc (place_of actor seats)) < suc (length seats)
        → (place_of actor seats < length seats → with_activity actor (activity_of actor seats) seats ≡ seats)
        → (if b then record { actor = seat.actor; activity = if b then seat.activity else activity_of actor seats } ∷ seats else seat ∷ with_activity actor (if b then seat.activity else activity_of actor seats) seats) ≡ seat ∷ seats
    at true h ih = refl
    at false h ih = ap (λ (ss : List Seat). seat ∷ ss) (ih (omega arith))

pub place_of-with_activity : (actor : Actor) (what : Activity) (seats : List Seat) → place_of actor seats < length seats
    → place_of actor (with_activity actor what seats) ≡ place_of actor seats
place_of-with_activity actor what [] h = absurd (omega arith)
place_of-with_activity actor what (seat ∷ seats) h = at (is_of actor seat) refl h (place_of-with_activity actor what seats)
  where
    at : (b : Bool) → is_of actor seat ≡ b → (if b then 0 else suc (place_of actor seats)) < suc (length seats)
        → (place_of actor seats < length seats → place_of actor (with_activity actor what seats) ≡ place_of actor seats)
        → place_of actor (if b then record { actor = seat.actor; activity = what } ∷ seats else seat ∷ with_activity actor what seats) ≡ (if b then 0 else suc (place_of actor seats))
    at true e h ih = rw e refl
    at false e h ih = rw e (ap suc (ih (omega arith)))

pub length-with_activity : (actor : Actor) (what : Activity) (seats : List Seat) → place_of actor seats < length seats
    → length (with_activity actor what seats) ≡ length seats
length-with_activity actor what [] h = absurd (omega arith)
length-with_activity actor what (seat ∷ seats) h = at (is_of actor seat) h (length-with_activity actor what seats)
  where
    at : (b : Bool) → (if b then 0 else suc (place_of actor seats)) < suc (length seats)
        → (place_of actor seats < length seats → length (with_activity actor what seats) ≡ length seats)
        → length (if b then record { actor = seat.actor; activity = what } ∷ seats else seat ∷ with_activity actor what seats) ≡ suc (length seats)
    at true h ih = refl
    at false h ih = ap suc (ih (omega arith))

self_test : (n : ℕ) → (n == n) ≡ true
self_test n = grind (arith, nat_tests)

pub activity_of-with_activity : (actor : Actor) (what : Activity) (seats : List Seat) → activity_of actor (with_activity actor what seats) ≡ what
activity_of-with_activity actor what [] = rw (self_test (number_of actor)) refl
activity_of-with_activity actor what (seat ∷ seats) = at (is_of actor seat) refl (activity_of-with_activity actor what seats)
  where
    at : (b : Bool) → is_of actor seat ≡ b → activity_of actor (with_activity actor what seats) ≡ what
        → activity_of actor (if b then record { actor = seat.actor; activity = what } ∷ seats else seat ∷ with_activity actor what seats) ≡ what
    at true e ih = rw e refl
    at false e ih = rw e ih

pub with_activity-twice : (actor : Actor) (what first : Activity) (seats : List Seat) → with_activity actor what (with_activity actor first seats) ≡ with_activity actor what seats
with_activity-twice actor what first [] = rw (self_test (number_of actor)) refl
with_activity-twice actor what first (seat ∷ seats) = at (is_of actor seat) refl (with_activity-twice actor what first seats)
  where
    at : (b : Bool) → is_of actor seat ≡ b → with_activity actor what (with_activity actor first seats) ≡ with_activity actor what seats
        → with_activity actor what (if b then record { actor = seat.actor; activity = first } ∷ seats else seat ∷ with_activity actor first seats)
        ≡ (if b then record { actor = seat.actor; activity = what } ∷ seats else seat ∷ with_activity actor what seats)
    at true e ih = rw e refl
    at false e ih = rw e (ap (λ (ss : List Seat). seat ∷ ss) ih)

-- an element that was read at the actor's place

pub exchanged-was : (actor : Actor) (seats : List Seat) (k : ℕ) (seat : Seat) → k ≡ place_of actor seats → k < length seats → seat ≡ get_or seats k seat → seat.activity ≡ activity_of actor seats
exchanged-was actor seats k seat e h is =
    let within : place_of actor seats < length seats = omega arith in
    let read : seat ≡ get_or seats (place_of actor seats) seat = rw e at is in
    ap (λ (s : Seat). s.activity) read ∙ sym (activity_of-at actor seats seat within)

pub exchanged-now : (actor : Actor) (what : Activity) (seats : List Seat) (k : ℕ) (seat : Seat) → k ≡ place_of actor seats → k < length seats → seat ≡ get_or seats k seat
    → slice_set seats k (record { actor = seat.actor; activity = what }) ≡ with_activity actor what seats
exchanged-now actor what seats k seat e h is =
    let within : place_of actor seats < length seats = omega arith in
    let read : seat ≡ get_or seats (place_of actor seats) seat = rw e at is in
    rw e (ap (λ (a : Actor). slice_set seats (place_of actor seats) (record { actor = a; activity = what })) (ap (λ (s : Seat). s.actor) read) ∙ with_activity-at actor what seats seat within)

-- the seat stays where it is, whatever the actor is at
pub still_sits : (actor : Actor) (place : ℕ) (what : Activity) (old new : List Seat) → SitsAt actor place old → new ≡ with_activity actor what old → SitsAt actor place new
still_sits actor place what old new sits e =
    let within : place_of actor old < length old = rw (sym sits.is) sits.within in
    record {
      is = sits.is ∙ sym (ap (place_of actor) e ∙ place_of-with_activity actor what old within);
      within = (let same : length new ≡ length old = ap (λ (ss : List Seat). length ss) e ∙ length-with_activity actor what old within in let here = sits.within in omega (arith, same, here));
    }

-- one that rests is left as it was by a rest
pub still_rests : (actor : Actor) (place : ℕ) (seats : List Seat) → SitsAt actor place seats → activity_of actor seats ≡ Rests → with_activity actor Rests seats ≡ seats
still_rests actor place seats sits rests =
    let within : place_of actor seats < length seats = rw (sym sits.is) sits.within in
    ap (λ (a : Activity). with_activity actor a seats) (sym rests) ∙ with_activity-same actor seats within

pub still_seated : (actor : Actor) (place : ℕ) (seats : List Seat) → SitsAt actor place seats → with_activity actor (activity_of actor seats) seats ≡ seats
still_seated actor place seats sits = with_activity-same actor seats (rw (sym sits.is) sits.within)

-- a seat that was added is the last
pub added_last : (actor : Actor) (place : ℕ) (old new : List Seat) → place_of actor old ≡ length old → place ≡ length old → new ≡ with_activity actor Rests old → SitsAt actor place new
added_last actor place old new none here e =
    let is : new ≡ old ++ record { actor = actor; activity = Rests } ∷ [] = e ∙ with_activity-none actor Rests old none in
    record {
      is = here ∙ sym (ap (place_of actor) is ∙ last old none);
      within = (let more : length new ≡ length old + 1 = ap (λ (ss : List Seat). length ss) is ∙ length-append old (record { actor = actor; activity = Rests } ∷ []) in omega (arith, more, here));
    }
  where
    last : (seats : List Seat) → place_of actor seats ≡ length seats → place_of actor (seats ++ record { actor = actor; activity = Rests } ∷ []) ≡ length seats
    last [] none = rw (self_test (number_of actor)) refl
    last (seat ∷ seats) none = at (is_of actor seat) none (last seats)
      where
        at : (b : Bool) → (if b then 0 else suc (place_of actor seats)) ≡ suc (length seats)
            → (place_of actor seats ≡ length seats → place_of actor (seats ++ record { actor = actor; activity = Rests } ∷ []) ≡ length seats)
            → (if b then 0 else suc (place_of actor (seats ++ record { actor = actor; activity = Rests } ∷ []))) ≡ suc (length seats)
        at true h ih = absurd (omega (arith, h))
        at false h ih = ap suc (ih (omega (arith, h)))

-- tickets in hand

pub own-activity_of : (worker blocks : ℕ) (actor : Actor) (seats : List Seat) → OwnSeats worker blocks seats → OwnActivity worker blocks (activity_of actor seats)
own-activity_of worker blocks actor [] own = tt
own-activity_of worker blocks actor (seat ∷ seats) own = at (is_of actor seat) (own-activity_of worker blocks actor seats own.1)
  where
    at : (b : Bool) → OwnActivity worker blocks (activity_of actor seats) → OwnActivity worker blocks (if b then seat.activity else activity_of actor seats)
    at true ih = own.0
    at false ih = ih

own-with_activity : (worker blocks : ℕ) (actor : Actor) (what : Activity) (seats : List Seat) → OwnSeats worker blocks seats → OwnActivity worker blocks what → OwnSeats worker blocks (with_activity actor what seats)
own-with_activity worker blocks actor what [] own here = (here, tt)
own-with_activity worker blocks actor what (seat ∷ seats) own here = at (is_of actor seat) (own-with_activity worker blocks actor what seats own.1 here)
  where
    at : (b : Bool) → OwnSeats worker blocks (with_activity actor what seats) → OwnSeats worker blocks (if b then record { actor = seat.actor; activity = what } ∷ seats else seat ∷ with_activity actor what seats)
    at true ih = (here, own.1)
    at false ih = (own.0, ih)

pub own-changed : (worker blocks : ℕ) (actor : Actor) (what : Activity) (old new : List Seat) → new ≡ with_activity actor what old → OwnSeats worker blocks old → OwnActivity worker blocks what → OwnSeats worker blocks new
own-changed worker blocks actor what old new e own here = rw e (own-with_activity worker blocks actor what old own here)

pub own-popped : (worker blocks : ℕ) (rest : List Seat) (last : Seat) → OwnSeats worker blocks (rest ++ last ∷ []) → OwnActivity worker blocks last.activity × OwnSeats worker blocks rest
own-popped worker blocks [] last own = (own.0, tt)
own-popped worker blocks (seat ∷ rest) last own = let below = own-popped worker blocks rest last own.1 in (below.0, (own.0, below.1))

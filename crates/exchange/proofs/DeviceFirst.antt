-- Calls of the device may go first, in walks of worlds.
use Rattle.std.proofs.Common.{◌≡◌, ℕ, true, false, List, [], ◌∷◌, ◌++◌, length, refl, sym, ap, ◌∙◌, Option, Some, None}
use Rattle.machine.specs.declared.command.Actor.{Actor}
use Rattle.machine.specs.declared.command.Reply.{Reply as Told_by}
use Rattle.machine.proofs.TreeLemmas.{eq_cases}
use Rattle.driver.specs.declared.seat.Outcome.{Outcome}
use Rattle.driver.specs.Schedule.{World, number_of, activity_of, said_at, Turn}
use Rattle.driver.specs.Seats.{is_under_way, calls_device}
use Rattle.exchange.specs.Exchange.{Taken, GoesOn, GoesAsPicked, said_by, IsQuiet, CallsMayGoFirst}
use Rattle.exchange.proofs.Places.{others_stay, calls_under_way, call_shows}
use Rattle.exchange.proofs.Calls.{same_number, call_goes_first}
use Rattle.exchange.proofs.First.{Walk, WalkBy, all_said, MayGoFirst, picked}

abbrev Reached : World → Type 0
Reached w = (us : List Taken) (u : World) → GoesOn w us u → IsQuiet u

-- a turn of the actor with the number
record Step (w : World) (n : ℕ) (t : Taken) (m : World) : Type 0 where
  quiet : Reached w
  number : number_of t.who ≡ n
  under_way : is_under_way (activity_of t.who w.seats) ≡ true
  turn : Turn w t.who t.shows m

abbrev First : World → ℕ → Type 0
First w n = (who : Actor) × (number_of who ≡ n) × (calls_device (activity_of who w.seats) ≡ true)

abbrev End : World → Type 0
End v = (who : Actor) → is_under_way (activity_of who v.seats) ≡ false

abbrev says : ℕ → Taken → List Told_by
says n t = said_at t.who t.shows

first_of : (w : World) (n : ℕ) (t : Actor) → First w n → number_of t ≡ n → calls_device (activity_of t w.seats) ≡ true
first_of w n t f e = ap calls_device (same_number t f.0 w.seats (e ∙ sym f.1)) ∙ f.2

reached : (w m : World) (t : Taken) → is_under_way (activity_of t.who w.seats) ≡ true → Turn w t.who t.shows m → Reached w → Reached m
reached w m t under_way turn q = λ us u go. q (t ∷ us) u (m, under_way, turn, go)

may : MayGoFirst Step First End says
may = record {
  same = λ a b. eq_cases a b;
  stays = λ w m a b t ne f s.
      (f.0, f.1, ap calls_device (others_stay w m t.who f.0 t.shows (λ e. ne (sym s.number ∙ (e ∙ f.1))) s.under_way s.turn) ∙ f.2);
  exchange = λ w m v a b t p ne f s r.
      let calls : calls_device (activity_of p.who w.seats) ≡ true = first_of w b p.who f r.number in
      let apart : number_of t.who ≡ number_of p.who → ⊥ = λ e. ne (sym s.number ∙ (e ∙ r.number)) in
      let quiet : IsQuiet w = s.quiet [] w refl in
      let x : (u : World) × Turn w p.who p.shows u × Turn u t.who t.shows v = call_goes_first w m v t.who p.who t.shows p.shows quiet apart s.under_way calls s.turn r.turn in
      let under : is_under_way (activity_of p.who w.seats) ≡ true = calls_under_way (activity_of p.who w.seats) calls in
      let same : activity_of t.who x.0.seats ≡ activity_of t.who w.seats = others_stay w x.0 p.who t.who p.shows (λ e. apart (sym e)) under x.1 in (
        x.0,
        record { quiet = s.quiet; number = r.number; under_way = under; turn = x.1 },
        record { quiet = reached w x.0 p under x.1 s.quiet; number = s.number; under_way = ap is_under_way same ∙ s.under_way; turn = x.2 },
      );
  silent = λ w m b p f s. ap (λ (o : Outcome). said_at p.who o) (call_shows w m p.who p.shows (first_of w b p.who f s.number) s.turn);
  over = λ v b end f. let e : true ≡ false = sym (calls_under_way (activity_of f.0 v.seats) f.2) ∙ end f.0 in cc;
}

-- ---- there and back

numbered : List Taken → List (ℕ × Taken)
numbered [] = []
numbered (t ∷ ts) = (number_of t.who, t) ∷ numbered ts

taken_of : List (ℕ × Taken) → List Taken
taken_of [] = []
taken_of (p ∷ ps) = p.1 ∷ taken_of ps

to_walk : (w v : World) (ts : List Taken) → Reached w → GoesOn w ts v → Walk Step w (numbered ts) v
unfolding numbered
to_walk w v [] q e = e
to_walk w v (t ∷ ts) q h =
    (h.0, record { quiet = q; number = refl; under_way = h.1; turn = h.2 }, to_walk h.0 v ts (reached w h.0 t h.1 h.2 q) h.3)

said_numbered : (ts : List Taken) → all_said says (numbered ts) ≡ said_by ts
unfolding numbered
said_numbered [] = refl
said_numbered (t ∷ ts) = ap (λ (l : List Told_by). said_at t.who t.shows ++ l) (said_numbered ts)

said_taken : (ps : List (ℕ × Taken)) → said_by (taken_of ps) ≡ all_said says ps
unfolding taken_of
said_taken [] = refl
said_taken (p ∷ ps) = ap (λ (l : List Told_by). said_at p.1.who p.1.shows ++ l) (said_taken ps)

numbers : Option Actor → Option ℕ
numbers None = None
numbers (Some b) = Some (number_of b)

numbers_some : (o : Option Actor) (n : ℕ) → numbers o ≡ Some n → (b : Actor) × (o ≡ Some b) × (number_of b ≡ n)
unfolding numbers
numbers_some None n e = cc
numbers_some (Some b) n e = (b, refl, cc)

some_number : (o : Option Actor) (b : Actor) → o ≡ Some b → numbers o ≡ Some (number_of b)
unfolding numbers
some_number o b e = ap numbers e

from_walk : (pick : World → Option Actor) (w v : World) (ps : List (ℕ × Taken)) → WalkBy Step (λ (u : World). numbers (pick u)) w ps v → GoesAsPicked pick w (taken_of ps) v
unfolding taken_of
from_walk pick w v [] e = e
from_walk pick w v (p ∷ ps) h =
    (h.0, h.1.under_way, h.1.turn, (λ b e. h.1.number ∙ h.2 (number_of b) (some_number (pick w) b e)), from_walk pick h.0 v ps h.3)

pub calls_may_go_first : CallsMayGoFirst
calls_may_go_first = λ pick picks w v ts q go end.
    let by_number : (u : World) (n : ℕ) → numbers (pick u) ≡ Some n → First u n = λ u n e.
    let s : (b : Actor) × (pick u ≡ Some b) × (number_of b ≡ n) = numbers_some (pick u) n e in
    (s.0, s.2, picks u s.0 s.1) in
    let r : (found : List (ℕ × Taken)) × WalkBy Step (λ (u : World). numbers (pick u)) w found v × (all_said says found ≡ all_said says (numbered ts)) × (length found ≡ length (numbered ts)) =
    picked Step First End says may (λ (u : World). numbers (pick u)) by_number (length (numbered ts)) (numbered ts) w v refl (to_walk w v ts q go) end in
    (taken_of r.0, from_walk pick w v r.0 r.1, said_taken r.0 ∙ r.2 ∙ said_numbered ts)

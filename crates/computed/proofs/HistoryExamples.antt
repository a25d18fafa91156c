-- Examples: what histories say, and how much room they leave in the trace.
use Rattle.std.proofs.Common.{◌≡◌, ℕ, zero, suc, ◌<◌, ◌==◌, ne_eqb, true, false, [], ◌∷◌, Some, None, refl, arith}
use Rattle.std.specs.Prelude.{slice_index}
use Rattle.machine.specs.declared.event.Cause.TheVariants as cause
use Rattle.machine.specs.declared.event.Op.TheVariants.{Read, Write}
use Rattle.machine.specs.declared.event.Event.TheVariants as event
use Rattle.machine.specs.declared.reply.Reply.TheVariants as reply
use Rattle.machine.specs.declared.refusal.Refusal.TheVariants.{NoTask, NumberUsed}
use Rattle.machine.specs.Tree.{chain_up, chain, under_at, chain_below}
use Rattle.machine.specs.Counts.{over_at}
use Rattle.machine.specs.Protection.{effective_along}
use Rattle.machine.specs.State.{State, first_state}
use Rattle.machine.specs.Access.{page_size}
use Rattle.machine.specs.History.{InTask, last, Right, Honest, fetch_of, taker, Numbered}
use Rattle.machine.specs.Call.{knows_pass, need, is_full_for}
use Rattle.machine.specs.Legal.{Extends}
use Rattle.computed.proofs.ExampleStates.{first_bytes, group, task, frame, ticket}
use Rattle.computed.proofs.LegalExamples.{entry, access, bytes, h2, h3, h4, h5, h6, h7, small, with_page, made, going, away, coming, back}

-- ---- what is not legal

-- no task is there before it is spawned
no_task : (after : State) → Extends (first_state (small 7)) [] (entry 0 1 (access (Write 5)) (reply.Done 5 None)) after → ⊥
no_task after h = let e : Some NoTask ≡ None = h.unrefused in cc

-- a number is never spawned again
number_used : (after : State) → Extends (with_page 7 made) h2 (entry 0 3 (event.Spawn (task 1) (group 0)) reply.Ok) after → ⊥
number_used after h = let e : Some NumberUsed ≡ None = h.unrefused in cc

-- what the write-out's end says is for the worker that began it
stranger : (after : State) → Extends (with_page 7 going) h3 (entry 0 3 (event.Left (ticket 5)) reply.Ok) after → ⊥
stranger after h = let e : false ≡ true = h.known in cc

-- ---- bytes

-- the byte that was written last, while the page went out and came in again
last-written : last first_bytes h6 (InTask 1 2 1) ≡ 5
last-written = refl

-- the byte beside it was not written
last-other_byte : last first_bytes h6 (InTask 1 2 0) ≡ 0
last-other_byte = refl

-- of two writes, the later
last-of_two : last first_bytes (entry 0 3 (access (Write 8)) (reply.Done 8 None) ∷ h2) (InTask 1 2 1) ≡ 8
last-of_two = refl

-- a write that was not done says nothing
last-over : last first_bytes (entry 0 3 (access (Write 8)) (reply.Over (group 0)) ∷ h2) (InTask 1 2 1) ≡ 5
last-over = refl

-- nor does a kill
last-killed : last first_bytes (entry 1 1 (event.Relieve cause.Frame) (reply.KilledTask (task 1)) ∷ h2) (InTask 1 2 1) ≡ 5
last-killed = refl

-- a task begins with zeros, whatever was said of its number before
last-spawned : last first_bytes (entry 0 3 (event.Spawn (task 1) (group 0)) reply.Ok ∷ h2) (InTask 1 2 1) ≡ 0
last-spawned = refl

-- each read gave what was written last
right : Right first_bytes h7
right = (((((((tt, tt), tt), tt), tt), tt), tt), refl)

-- the device brought what was written last
honest : Honest first_bytes h7
honest = (((((((tt, tt), tt), tt), tt), tt), brought), tt)
  where
    brought : (o : ℕ) → o < page_size → slice_index bytes o ≡ last first_bytes h5 (InTask 1 2 o)
    brought zero within = refl
    brought (suc zero) within = refl
    brought (suc (suc o)) within = let e : (1 == suc (suc o)) ≡ false = ne_eqb 1 (suc (suc o)) (λ e. omega (arith, e)) in rw e refl

-- a page of zeros would not have been
honest-not : Honest first_bytes (entry 0 4 (event.Arrived (ticket 5) []) reply.Ok ∷ h5) → ⊥
honest-not h = absurd (let e : 0 ≡ 5 = h.1 1 (omega arith) in omega (arith, e))

-- nor is an arrival that no read-in began
honest-not_begun : Honest first_bytes (entry 0 3 (event.Arrived (ticket 5) bytes) reply.Ok ∷ h4) → ⊥
honest-not_begun h = h.1

-- ---- tickets

-- the read-in began with a read of this byte, after these entries
fetched : fetch_of 5 h6 ≡ Some (record { spot = InTask 1 2 1; earlier = h4 })
fetched = refl

-- the ticket was worker 1's, and is worker 0's now
taken-again : taker 5 h5 ≡ Some 0
taken-again = refl

-- the ending is for the worker that took the ticket last
knows-not_first : knows_pass (with_page 7 coming) h5 (record { worker = 1 }) (event.Arrived (ticket 5) bytes) ≡ false
knows-not_first = refl

-- and for an ending of its direction
knows-not_out : knows_pass (with_page 7 coming) h5 (record { worker = 0 }) (event.Left (ticket 5)) ≡ false
knows-not_out = refl

-- once it has ended, nobody has it
knows-ended : knows_pass (with_page 7 back) h6 (record { worker = 0 }) (event.Arrived (ticket 5) bytes) ≡ false
knows-ended = refl

-- ---- numbers of entries

-- each worker counts its own
numbered : Numbered h7
numbered = (((((((tt, refl), refl), refl), refl), refl), refl), refl)

-- without the arrival, worker 0's last entry would be its fourth, and 5 leaves a gap
numbered-gap : Numbered (entry 0 5 (access Read) (reply.Done 5 (Some (frame 2))) ∷ h5) → ⊥
numbered-gap h = absurd (omega (arith, h.1))

-- ---- room in the trace

-- the beginning of a write-out needs two entries
need-out : need (with_page 7 made) (event.ReclaimOne (group 0)) ≡ 2
unfolding chain_up chain under_at chain_below effective_along
need-out = refl

-- and so does that of a read-in
need-fetch : need (with_page 7 away) (access Read) ≡ 2
unfolding chain_up chain under_at over_at
need-fetch = refl

-- the end needs none
need-arrived : need (with_page 7 coming) (event.Arrived (ticket 5) bytes) ≡ 0
need-arrived = refl

-- with room for 6 entries, 4 and the 2 of a read-in fit
room-fetch : is_full_for (with_page 6 away) h4 (access Read) ≡ false
unfolding chain_up chain under_at over_at
room-fetch = refl

-- 5 and the end of the one transfer fit too
room-arrived : is_full_for (with_page 6 coming) h5 (event.Arrived (ticket 5) bytes) ≡ false
room-arrived = refl

-- but with the end of the transfer kept free they leave no room for another event
room-kept : is_full_for (with_page 6 coming) h5 (access Read) ≡ true
room-kept = refl

-- nor do 6 for a read of the page
room-none : is_full_for (with_page 6 back) h6 (access Read) ≡ true
room-none = refl

-- with room for 7 it fits
room-hit : is_full_for (with_page 7 back) h6 (access Read) ≡ false
room-hit = refl

-- and with room for 8 another
room-two : is_full_for (with_page 8 back) h7 (access Read) ≡ false
room-two = refl

-- with room for 5 the read-in does not begin: the entry of its end would not fit
room-no_end : is_full_for (with_page 5 away) h4 (access Read) ≡ true
unfolding chain_up chain under_at over_at
room-no_end = refl

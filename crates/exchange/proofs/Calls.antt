-- Two calls of the device change places.
use Rattle.std.proofs.Common.{◌≡◌, ℕ, Bool, true, false, List, [], ◌∷◌, Ok, Err, refl, sym, ap, ◌∙◌, subst, Option, Some, None, Result, set, get_or-set_other, ◌≢◌, if◌then◌else◌, ◌==◌}
use Rattle.std.proofs.lemmas.List.{set_comm}
use Rattle.machine.specs.declared.command.Actor.{Actor}
use Rattle.machine.specs.Call.{Past, Caller}
use Rattle.machine.proofs.Values.{some_inj}
use Rattle.block_store.specs.declared.device.Fault.{Fault}
use Rattle.block_store.specs.Device.{Disk, FaultPlan, bytes_on, is_listed, counted, IsReadPlanned, IsWritePlanned, plan_after_read, plan_after_write, GivesBlock, SetsBlock, ReadsBlock, WritesBlock}
use Rattle.pages.specs.Tickets.{TicketOf}
use Rattle.turns.specs.declared.turn.Access.{Access}
use Rattle.turns.specs.declared.turn.Resume.{Resume}
use Rattle.turns.specs.declared.turn.Stage.{Stage}
use Rattle.turns.specs.declared.turn.Stage.TheVariants as stage
use Rattle.turns.specs.declared.turn.Transition.{Transition}
use Rattle.turns.specs.Turns.{ReadsIn, WritesOut}
use Rattle.driver.specs.declared.seat.Outcome.{Outcome}
use Rattle.driver.specs.declared.seat.Activity.{Activity}
use Rattle.driver.specs.declared.seat.Activity.TheVariants.{Rests, Begun, Does}
use Rattle.driver.specs.declared.seat.Seat.{Seat}
use Rattle.driver.specs.Schedule.{World, number_of, is_of, activity_of, with_activity, left_of, wants_at, WantTurn, StageTurn, ActivityTurn, Turn}
use Rattle.driver.specs.Seats.{is_under_way, is_call, calls_device}
use Rattle.driver.proofs.Keeps.{activity_of-other}
use Rattle.exchange.specs.Exchange.{IsFaultless, IsQuiet, block_at, block_called, CallsChangePlaces}
use Rattle.exchange.proofs.Places.{swap, world_is, others_stay, turns_change_places}

-- the block of a call
abbrev block_of : Stage → ℕ
block_of (stage.Read access ticket) = ticket.block
block_of (stage.Write on ticket) = ticket.block
block_of other = 0

abbrev after_read_of : Disk → Disk
after_read_of d = record d { plan = plan_after_read d.plan }

abbrev after_write_of : Disk → ℕ → List ℕ → Disk
after_write_of d k bytes = record d { contents = set d.contents k bytes; plan = plan_after_write d.plan }

-- the disk behind the call, where it is a good one
abbrev after : Stage → Disk → Disk
after (stage.Read access ticket) d = after_read_of d
after (stage.Write on ticket) d = after_write_of d ticket.block ticket.bytes
after other d = d

abbrev CallOn : Stage → Disk → Transition → Disk → Type 0
CallOn (stage.Read access ticket) d t d' = ReadsIn d access ticket t d'
CallOn (stage.Write on ticket) d t d' = WritesOut d on ticket t d'
CallOn other d t d' = ⊥

no_read_fails : (d : Disk) → IsFaultless d → IsReadPlanned d.plan true → ⊥
no_read_fails d f h =
    let P : Option FaultPlan → Type 0 = λ (p : Option FaultPlan). IsReadPlanned p true in
    let L : List ℕ → Type 0 = λ (l : List ℕ). is_listed l f.plan.reads ≡ true in
    let none : false ≡ true = subst L f.reads (subst P f.planned h) in
    cc

no_write_fails : (d : Disk) → IsFaultless d → IsWritePlanned d.plan true → ⊥
no_write_fails d f h =
    let P : Option FaultPlan → Type 0 = λ (p : Option FaultPlan). IsWritePlanned p true in
    let L : List ℕ → Type 0 = λ (l : List ℕ). is_listed l f.plan.writes ≡ true in
    let none : false ≡ true = subst L f.writes (subst P f.planned h) in
    cc

reads_well : (d : Disk) → IsFaultless d → IsReadPlanned d.plan false
reads_well d f =
    let P : Option FaultPlan → Type 0 = λ (p : Option FaultPlan). IsReadPlanned p false in
    let L : List ℕ → Type 0 = λ (l : List ℕ). is_listed l f.plan.reads ≡ false in
    subst P (sym f.planned) (subst L (sym f.reads) refl)

writes_well : (d : Disk) → IsFaultless d → IsWritePlanned d.plan false
writes_well d f =
    let P : Option FaultPlan → Type 0 = λ (p : Option FaultPlan). IsWritePlanned p false in
    let L : List ℕ → Type 0 = λ (l : List ℕ). is_listed l f.plan.writes ≡ false in
    subst P (sym f.planned) (subst L (sym f.writes) refl)

still : (s : Stage) (d : Disk) → IsFaultless d → IsFaultless (after s d)
still (stage.Read access ticket) d f = record { plan = record f.plan { reads = counted f.plan.reads }; planned = ap plan_after_read f.planned; reads = f.reads; writes = f.writes }
still (stage.Write on ticket) d f = record { plan = record f.plan { writes = counted f.plan.writes }; planned = ap plan_after_write f.planned; reads = f.reads; writes = f.writes }
still other d f = f

good_read : (d d' : Disk) (k : ℕ) (answered : Result (Unit {0}) Fault) (bytes : List ℕ) → IsFaultless d → ReadsBlock d k answered bytes d' → GivesBlock d k bytes d' × ((done : Unit {0}) × (answered ≡ Ok done))
good_read d d' k (Ok done) bytes f r = (r, (done, refl))
good_read d d' k (Err fault) bytes f r = absurd (no_read_fails d f r.planned)

good_write : (d d' : Disk) (k : ℕ) (answered : Result (Unit {0}) Fault) (bytes : List ℕ) → IsFaultless d → WritesBlock d k bytes answered d' → SetsBlock d k bytes d' × ((done : Unit {0}) × (answered ≡ Ok done))
good_write d d' k (Ok done) bytes f r = (r, (done, refl))
good_write d d' k (Err fault) bytes f r = absurd (no_write_fails d f r.planned)

pub still_read : (d d' : Disk) (k : ℕ) (answered : Result (Unit {0}) Fault) (bytes : List ℕ) → IsFaultless d → ReadsBlock d k answered bytes d' → IsFaultless d'
still_read d d' k answered bytes f r =
    let after_it : IsFaultless (after_read_of d) = record { plan = record f.plan { reads = counted f.plan.reads }; planned = ap plan_after_read f.planned; reads = f.reads; writes = f.writes } in
    subst IsFaultless (sym (good_read d d' k answered bytes f r).0.counts) after_it

pub still_write : (d d' : Disk) (k : ℕ) (answered : Result (Unit {0}) Fault) (bytes : List ℕ) → IsFaultless d → WritesBlock d k bytes answered d' → IsFaultless d'
still_write d d' k answered bytes f r =
    let after_it : IsFaultless (after_write_of d k bytes) = record { plan = record f.plan { writes = counted f.plan.writes }; planned = ap plan_after_write f.planned; reads = f.reads; writes = f.writes } in
    subst IsFaultless (sym (good_write d d' k answered bytes f r).0.sets) after_it

leaves_so : (s : Stage) (d d' : Disk) (t : Transition) → is_call s ≡ true → IsFaultless d → CallOn s d t d' → d' ≡ after s d
leaves_so (stage.Read access ticket) d d' t c f r = (good_read d d' ticket.block r.answered r.filled.bytes f r.reads).0.counts
leaves_so (stage.Write on ticket) d d' t c f r = (good_write d d' ticket.block r.answered ticket.bytes f r.writes).0.sets
leaves_so other d d' t c f r = cc

-- the same call of another disk that holds the same there
so_again : (s : Stage) (d d' e : Disk) (t : Transition) → is_call s ≡ true → IsFaultless d → IsFaultless e → bytes_on e.contents (block_of s) ≡ bytes_on d.contents (block_of s) → CallOn s d t d' → CallOn s e t (after s e)
so_again (stage.Read access ticket) d d' e t c f fe same r =
    let g : GivesBlock d ticket.block r.filled.bytes d' × ((done : Unit {0}) × (r.answered ≡ Ok done)) = good_read d d' ticket.block r.answered r.filled.bytes f r.reads in
    let A : Result (Unit {0}) Fault → Type 0 = λ (v : Result (Unit {0}) Fault). ReadsBlock e ticket.block v r.filled.bytes (after_read_of e) in
    record {
      answered = r.answered;
      filled = r.filled;
      reads = subst A (sym g.1.1) (record { planned = reads_well e fe; gives = g.0.gives ∙ sym same; counts = refl });
      same = r.same;
      goes = r.goes;
    }
so_again (stage.Write on ticket) d d' e t c f fe same r =
    let g : SetsBlock d ticket.block ticket.bytes d' × ((done : Unit {0}) × (r.answered ≡ Ok done)) = good_write d d' ticket.block r.answered ticket.bytes f r.writes in
    let A : Result (Unit {0}) Fault → Type 0 = λ (v : Result (Unit {0}) Fault). WritesBlock e ticket.block ticket.bytes v (after_write_of e ticket.block ticket.bytes) in
    record {
      answered = r.answered;
      writes = subst A (sym g.1.1) (record { planned = writes_well e fe; sets = refl });
      goes = r.goes;
    }
so_again other d d' e t c f fe same r = cc

elsewhere : (s : Stage) (d : Disk) (k : ℕ) → is_call s ≡ true → (k ≡ block_of s → ⊥) → bytes_on (after s d).contents k ≡ bytes_on d.contents k
elsewhere (stage.Read access ticket) d k c ne = refl
elsewhere (stage.Write on ticket) d k c ne = let apart : k ≢ ticket.block = ne in rw get_or-set_other refl
elsewhere other d k c ne = cc

plans : (p : Option FaultPlan) → plan_after_read (plan_after_write p) ≡ plan_after_write (plan_after_read p)
plans None = refl
plans (Some p) = refl

either_way : (s r : Stage) (d : Disk) → is_call s ≡ true → is_call r ≡ true → (block_of s ≡ block_of r → ⊥) → after s (after r d) ≡ after r (after s d)
either_way (stage.Read access ticket) r d cs cr ne = read_either access ticket r d cr
  where
    read_either : (access : Access) (ticket : TicketOf) (r : Stage) (d : Disk) → is_call r ≡ true → after (stage.Read access ticket) (after r d) ≡ after r (after (stage.Read access ticket) d)
    read_either access ticket (stage.Read other_access other_ticket) d cr = refl
    read_either access ticket (stage.Write on other_ticket) d cr = ap (λ (p : Option FaultPlan). record d { contents = set d.contents other_ticket.block other_ticket.bytes; plan = p }) (plans d.plan)
    read_either access ticket other d cr = cc
either_way (stage.Write on ticket) r d cs cr ne = write_either on ticket r d cr ne
  where
    write_either : (on : Resume) (ticket : TicketOf) (r : Stage) (d : Disk) → is_call r ≡ true → (ticket.block ≡ block_of r → ⊥) → after (stage.Write on ticket) (after r d) ≡ after r (after (stage.Write on ticket) d)
    write_either on ticket (stage.Read access other_ticket) d cr ne = ap (λ (p : Option FaultPlan). record d { contents = set d.contents ticket.block ticket.bytes; plan = p }) (sym (plans d.plan))
    write_either on ticket (stage.Write other_on other_ticket) d cr ne =
        ap (λ (l : List (List ℕ)). record d { contents = l; plan = plan_after_write (plan_after_write d.plan) }) (set_comm d.contents other_ticket.block ticket.block other_ticket.bytes ticket.bytes (λ e. ne (sym e)))
    write_either on ticket other d cr ne = cc
either_way other r d cs cr ne = cc

as_call : (caller : Caller) (past past' : Past) (disk disk' : Disk) (s : Stage) (t : Transition) → is_call s ≡ true → WantTurn caller past disk (wants_at past s) t past' disk' → CallOn s disk t disk' × (past' ≡ past)
as_call caller past past' disk disk' (stage.Read access ticket) t c h = h
as_call caller past past' disk disk' (stage.Write on ticket) t c h = h
as_call caller past past' disk disk' other t c h = cc

of_call : (caller : Caller) (past : Past) (disk disk' : Disk) (s : Stage) (t : Transition) → is_call s ≡ true → CallOn s disk t disk' → WantTurn caller past disk (wants_at past s) t past disk'
of_call caller past disk disk' (stage.Read access ticket) t c h = (h, refl)
of_call caller past disk disk' (stage.Write on ticket) t c h = (h, refl)
of_call caller past disk disk' other t c h = cc

calls_swap : (old mid new : World) (a b : Actor) (shows_a shows_b : Outcome) (s r : Stage) → (number_of a ≡ number_of b → ⊥) → activity_of a old.seats ≡ Does s → activity_of b old.seats ≡ Does r → is_call s ≡ true → is_call r ≡ true
    → (block_of s ≡ block_of r → ⊥) → IsFaultless old.disk → Turn old a shows_a mid → Turn mid b shows_b new → (between : World) × Turn old b shows_b between × Turn between a shows_a new
calls_swap old mid new a b shows_a shows_b s r ne is_a is_b cs cr apart f ta tb =
    let TA : Activity → Type 0 = λ (v : Activity). ActivityTurn old a v shows_a mid in
    let x : StageTurn old a s shows_a mid = subst TA is_a ta in
    let same : activity_of b mid.seats ≡ activity_of b old.seats = ap (activity_of b) x.leaves ∙ activity_of-other b a (left_of x.transition) old.seats (λ e. ne (sym e)) in
    let TB : Activity → Type 0 = λ (v : Activity). ActivityTurn mid b v shows_b new in
    let y : StageTurn mid b r shows_b new = subst TB (same ∙ is_b) tb in
    let ca : CallOn s old.disk x.transition mid.disk × (mid.past ≡ old.past) = as_call old.caller old.past mid.past old.disk mid.disk s x.transition cs x.turns in
    let cb : CallOn r mid.disk y.transition new.disk × (new.past ≡ mid.past) = as_call mid.caller mid.past new.past mid.disk new.disk r y.transition cr y.turns in
    let first : mid.disk ≡ after s old.disk = leaves_so s old.disk mid.disk x.transition cs f ca.0 in
    let F : Disk → Type 0 = IsFaultless in
    let f_mid : IsFaultless mid.disk = subst F (sym first) (still s old.disk f) in
    let second : new.disk ≡ after r mid.disk = leaves_so r mid.disk new.disk y.transition cr f_mid cb.0 in
    let there : bytes_on old.disk.contents (block_of r) ≡ bytes_on mid.disk.contents (block_of r) =
    sym (ap (λ (d : Disk). bytes_on d.contents (block_of r)) first ∙ elsewhere s old.disk (block_of r) cs (λ e. apart (sym e))) in
    let before : CallOn r old.disk y.transition (after r old.disk) = so_again r mid.disk new.disk old.disk y.transition cr f_mid f there cb.0 in
    let behind : CallOn s (after r old.disk) x.transition (after s (after r old.disk)) =
    so_again s old.disk mid.disk (after r old.disk) x.transition cs f (still r old.disk f) (elsewhere r old.disk (block_of s) cr apart) ca.0 in
    let turn_b : StageTurn old b r shows_b (record old { disk = after r old.disk; seats = with_activity b (left_of y.transition) old.seats }) =
    record { transition = y.transition; turns = of_call old.caller old.past old.disk (after r old.disk) r y.transition cr before; shows = y.shows; leaves = refl; same = refl; limit = refl } in
    let turn_a : StageTurn (record old { disk = after r old.disk; seats = with_activity b (left_of y.transition) old.seats }) a s shows_a (record old { disk = after s (after r old.disk); seats = with_activity a (left_of x.transition) (with_activity b (left_of y.transition) old.seats) }) =
    record { transition = x.transition; turns = of_call old.caller old.past (after r old.disk) (after s (after r old.disk)) s x.transition cs behind; shows = x.shows; leaves = refl; same = refl; limit = refl } in
    let disk : after s (after r old.disk) ≡ new.disk = either_way s r old.disk cs cr apart ∙ ap (after r) (sym first) ∙ sym second in
    let rests' : Does r ≡ Rests → ⊥ = λ e. cc in
    let seats : with_activity a (left_of x.transition) (with_activity b (left_of y.transition) old.seats) ≡ new.seats =
    swap a b (left_of x.transition) (left_of y.transition) old.seats ne (λ e. rests' (sym is_b ∙ e))
    ∙ sym (y.leaves ∙ ap (λ (l : List Seat). with_activity b (left_of y.transition) l) x.leaves) in
    let end : (let w : World = record old { disk = after s (after r old.disk); seats = with_activity a (left_of x.transition) (with_activity b (left_of y.transition) old.seats) } in w) ≡ new =
    world_is (record old { disk = after s (after r old.disk); seats = with_activity a (left_of x.transition) (with_activity b (left_of y.transition) old.seats) }) new
    (sym (cb.1 ∙ ca.1)) (sym (y.same ∙ x.same)) disk seats (sym (y.limit ∙ x.limit)) in
    let B : Activity → Type 0 = λ (v : Activity). ActivityTurn old b v shows_b (record old { disk = after r old.disk; seats = with_activity b (left_of y.transition) old.seats }) in
    let own : activity_of a (with_activity b (left_of y.transition) old.seats) ≡ Does s = activity_of-other a b (left_of y.transition) old.seats ne ∙ is_a in
    let A : Activity → Type 0 = λ (v : Activity). ActivityTurn (record old { disk = after r old.disk; seats = with_activity b (left_of y.transition) old.seats }) a v shows_a (record old { disk = after s (after r old.disk); seats = with_activity a (left_of x.transition) (with_activity b (left_of y.transition) old.seats) }) in
    let E : World → Type 0 = λ (w : World). Turn (record old { disk = after r old.disk; seats = with_activity b (left_of y.transition) old.seats }) a shows_a w in
    (record old { disk = after r old.disk; seats = with_activity b (left_of y.transition) old.seats }, subst B (sym is_b) turn_b, subst E end (subst A (sym own) turn_a))

-- ---- by blocks

-- where the command stands whose next turn calls the device for this block
pub record Calls (what : Activity) (k : ℕ) : Type 0 where
  pub stands : Stage
  pub does : what ≡ Does stands
  pub calls : is_call stands ≡ true
  pub block : block_of stands ≡ k

stage_calls : (s : Stage) (k : ℕ) → block_at s ≡ Some k → Calls (Does s) k
stage_calls (stage.Read access ticket) k e = record { stands = stage.Read access ticket; does = refl; calls = refl; block = some_inj e }
stage_calls (stage.Write on ticket) k e = record { stands = stage.Write on ticket; does = refl; calls = refl; block = some_inj e }
stage_calls other k e = cc

pub calls_for : (what : Activity) (k : ℕ) → block_called what ≡ Some k → Calls what k
calls_for Rests k e = cc
calls_for (Begun command) k e = cc
calls_for (Does s) k e = stage_calls s k e

pub same_number : (a b : Actor) (seats : List Seat) → number_of a ≡ number_of b → activity_of a seats ≡ activity_of b seats
same_number a b [] e = refl
same_number a b (seat ∷ seats) e =
    ap (λ (n : ℕ). if number_of seat.actor == n then seat.activity else activity_of a seats) e
    ∙ ap (λ (v : Activity). if is_of b seat then seat.activity else v) (same_number a b seats e)

pub calls_change_places : CallsChangePlaces
calls_change_places = λ old mid new a b shows_a shows_b k j called_a called_b apart f ta tb.
    let s : Calls (activity_of a old.seats) k = calls_for (activity_of a old.seats) k called_a in
    let r : Calls (activity_of b old.seats) j = calls_for (activity_of b old.seats) j called_b in
    let ne : number_of a ≡ number_of b → ⊥ = λ e. apart (some_inj (sym called_a ∙ (ap block_called (same_number a b old.seats e) ∙ called_b))) in
    calls_swap old mid new a b shows_a shows_b s.stands r.stands ne s.does r.does s.calls r.calls (λ e. apart (sym s.block ∙ (e ∙ r.block))) f ta tb

-- ---- a turn of any kind, and a call

called : (what : Activity) → calls_device what ≡ true → (k : ℕ) × (block_called what ≡ Some k)
called Rests c = cc
called (Begun command) c = cc
called (Does (stage.Read access ticket)) c = (ticket.block, refl)
called (Does (stage.Write on ticket)) c = (ticket.block, refl)
called (Does other) c = cc

pub call_goes_first : (w m v : World) (a b : Actor) (x y : Outcome) → IsQuiet w → (number_of a ≡ number_of b → ⊥) → is_under_way (activity_of a w.seats) ≡ true → calls_device (activity_of b w.seats) ≡ true → Turn w a x m → Turn m b y v
    → (u : World) × Turn w b y u × Turn u a x v
call_goes_first w m v a b x y q ne under calls ta tb = at (calls_device (activity_of a w.seats)) refl
  where
    at : (c : Bool) → calls_device (activity_of a w.seats) ≡ c → (u : World) × Turn w b y u × Turn u a x v
    at false e = turns_change_places w m v a b x y ne under e (ap calls_device (others_stay w m a b x ne under ta) ∙ calls) ta tb
    at true e =
        let s : (k : ℕ) × (block_called (activity_of a w.seats) ≡ Some k) = called (activity_of a w.seats) e in
        let r : (k : ℕ) × (block_called (activity_of b w.seats) ≡ Some k) = called (activity_of b w.seats) calls in
        calls_change_places w m v a b x y s.0 r.0 s.1 r.1 (λ same. ne (q.apart a b r.0 (s.1 ∙ ap Some same) r.1)) q.faultless ta tb

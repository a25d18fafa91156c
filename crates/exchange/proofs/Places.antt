-- A turn that leaves the device alone, and a call of the device after it, change places.
use Rattle.std.proofs.Common.{◌≡◌, ℕ, zero, suc, Bool, true, false, List, [], ◌∷◌, Ok, Err, refl, sym, ap, ◌∙◌, subst, if◌then◌else◌, None, Result, eqb-true}
use Rattle.machine.specs.declared.command.Actor.{Actor}
use Rattle.machine.specs.Call.{Past, Caller}
use Rattle.machine.specs.State.{free_frames}
use Rattle.block_store.specs.declared.device.Fault.{Fault}
use Rattle.block_store.specs.Device.{Disk}
use Rattle.turns.specs.declared.turn.Stage.{Stage}
use Rattle.turns.specs.declared.turn.Stage.TheVariants as stage
use Rattle.turns.specs.declared.turn.Want.{Want}
use Rattle.turns.specs.declared.turn.Want.TheVariants as want
use Rattle.turns.specs.declared.turn.Transition.{Transition}
use Rattle.turns.specs.declared.turn.Transition.TheVariants as transition
use Rattle.turns.specs.declared.turn.Access.{Access}
use Rattle.turns.specs.declared.turn.Resume.{Resume}
use Rattle.pages.specs.Tickets.{TicketOf}
use Rattle.turns.specs.Turns.{Judged, judged, wants_pages, after_read, after_write, ReadsIn, WritesOut}
use Rattle.driver.specs.declared.seat.Outcome.{Outcome}
use Rattle.driver.specs.declared.seat.Outcome.TheVariants.{Goes}
use Rattle.driver.specs.declared.seat.Activity.{Activity}
use Rattle.driver.specs.declared.seat.Activity.TheVariants.{Rests, Begun, Does}
use Rattle.driver.specs.declared.seat.Seat.{Seat}
use Rattle.driver.specs.Schedule.{World, number_of, is_of, activity_of, with_activity, left_of, outcome_of, wants_at, WantTurn, StageTurn, JudgedTurn, ActivityTurn, Turn}
use Rattle.driver.specs.Seats.{is_under_way, is_call, calls_device}
use Rattle.driver.proofs.Keeps.{activity_of-own, activity_of-other, Plain, judged-plain, number_wanted, in_hand, Alike, Same, Ticketless, wants_alike, balance_either, watch_either}
use Rattle.exchange.specs.Exchange.{TurnsChangePlaces}

-- ---- what a turn asks

-- it asks the book, or it ends the command
abbrev pub IsNoCall : Want → Type 0
IsNoCall (want.Call remembers what) = Unit {0}
IsNoCall (want.Read access ticket) = ⊥
IsNoCall (want.Write on ticket) = ⊥
IsNoCall (want.End said) = Unit {0}

abbrev JudgedCallsNot : World → Judged → Type 0
JudgedCallsNot w (Err why) = Unit {0}
JudgedCallsNot w (Ok stands) = IsNoCall (wants_at w.past stands)

-- the next turn of an actor that is at this leaves the device alone
abbrev pub CallsNot : World → Actor → Activity → Type 0
CallsNot w who Rests = ⊥
CallsNot w who (Begun what) = JudgedCallsNot w (judged w.past.state.opening w.past.state.tree who what)
CallsNot w who (Does stands) = IsNoCall (wants_at w.past stands)

no_ticket : (w : Want) → number_wanted w ≡ None → IsNoCall w
no_ticket (want.Call remembers what) e = tt
no_ticket (want.Read access ticket) e = cc
no_ticket (want.Write on ticket) e = cc
no_ticket (want.End said) e = tt

ticketless : (w other : Want) → Alike w other → number_wanted other ≡ None → number_wanted w ≡ None
ticketless w other (Same e) n = ap number_wanted e ∙ n
ticketless w other (Ticketless p q) n = p

judged_no_call : (w : World) (found : Judged) → Plain found → JudgedCallsNot w found
judged_no_call w (Err why) p = tt
judged_no_call w (Ok stands) p = no_ticket (wants_at w.past stands) (ticketless (wants_at w.past stands) (in_hand stands) (wants_alike w.past stands) p)

pages_kind : (g left : ℕ) → IsNoCall (wants_pages g left)
pages_kind g zero = tt
pages_kind g (suc left) = tt

stage_kind : (past : Past) (s : Stage) → is_call s ≡ false → IsNoCall (wants_at past s)
stage_kind past (stage.Reclaim g left) e = pages_kind g.0 left
stage_kind past stage.Watch e = watch_either IsNoCall past.state.opening.watermarks (free_frames past.state) tt tt
stage_kind past stage.Balance e = balance_either IsNoCall past.state.opening.watermarks (free_frames past.state) tt tt
stage_kind past (stage.Read access ticket) e = cc
stage_kind past (stage.Write on ticket) e = cc
stage_kind past other e = tt

-- a turn of a command under way leaves the device alone, or calls it
pub calls_not : (w : World) (a : Actor) (what : Activity) → is_under_way what ≡ true → calls_device what ≡ false → CallsNot w a what
calls_not w a Rests u e = cc
calls_not w a (Begun command) u e = judged_no_call w (judged w.past.state.opening w.past.state.tree a command) (judged-plain w.past.state.opening w.past.state.tree a command)
calls_not w a (Does stands) u e = stage_kind w.past stands e

pub under_way_not : (what : Activity) → is_under_way what ≡ true → what ≡ Rests → ⊥
under_way_not Rests u e = cc
under_way_not (Begun command) u e = cc
under_way_not (Does stands) u e = cc

pub calls_under_way : (what : Activity) → calls_device what ≡ true → is_under_way what ≡ true
calls_under_way Rests c = cc
calls_under_way (Begun command) c = cc
calls_under_way (Does stands) c = refl

-- ---- seats

-- two actors change what they are at, one after the other, and one of them has a seat
pub swap : (a b : Actor) (x y : Activity) (seats : List Seat) → (number_of a ≡ number_of b → ⊥) → (activity_of b seats ≡ Rests → ⊥) → with_activity a x (with_activity b y seats) ≡ with_activity b y (with_activity a x seats)
swap a b x y [] ne hb = absurd (hb refl)
swap a b x y (seat ∷ seats) ne hb = at (is_of a seat) (is_of b seat) refl refl hb (λ ib. swap a b x y seats ne ib)
  where
    at : (p q : Bool) → is_of a seat ≡ p → is_of b seat ≡ q → ((if q then seat.activity else activity_of b seats) ≡ Rests → ⊥)
        → ((activity_of b seats ≡ Rests → ⊥) → with_activity a x (with_activity b y seats) ≡ with_activity b y (with_activity a x seats))
        → with_activity a x (if q then record { actor = seat.actor; activity = y } ∷ seats else seat ∷ with_activity b y seats)
        ≡ with_activity b y (if p then record { actor = seat.actor; activity = x } ∷ seats else seat ∷ with_activity a x seats)
    at true true ea eb ib ih = absurd (ne (sym (eqb-true (number_of seat.actor) (number_of a) ea) ∙ eqb-true (number_of seat.actor) (number_of b) eb))
    at true false ea eb ib ih = rw (ea, eb) refl
    at false true ea eb ib ih = rw (ea, eb) refl
    at false false ea eb ib ih = rw (ea, eb) (ap (λ (l : List Seat). seat ∷ l) (ih ib))

-- ---- worlds

pub world_is : (w v : World) → w.past ≡ v.past → w.caller ≡ v.caller → w.disk ≡ v.disk → w.seats ≡ v.seats → w.turns ≡ v.turns → w ≡ v
world_is w v past caller disk seats turns =
    ap (λ (p : Past). record w { past = p }) past
    ∙ ap (λ (c : Caller). record w { past = v.past; caller = c }) caller
    ∙ ap (λ (d : Disk). record w { past = v.past; caller = v.caller; disk = d }) disk
    ∙ ap (λ (l : List Seat). record w { past = v.past; caller = v.caller; disk = v.disk; seats = l }) seats
    ∙ ap (λ (n : ℕ). record v { turns = n }) turns

-- ---- the turn that leaves the device alone

spares : (caller : Caller) (past past' : Past) (disk disk' to : Disk) (w : Want) (t : Transition) → IsNoCall w → WantTurn caller past disk w t past' disk' → (disk' ≡ disk) × WantTurn caller past to w t past' to
spares caller past past' disk disk' to (want.Call remembers what) t c h = (h.1, (h.0, refl))
spares caller past past' disk disk' to (want.Read access ticket) t c h = absurd c
spares caller past past' disk disk' to (want.Write on ticket) t c h = absurd c
spares caller past past' disk disk' to (want.End said) t c h = (h.2, (h.0, h.1, refl))

-- it leaves the device as it was, and the same is so over another device, and with others at something else
record Moves (old mid : World) (a : Actor) (shows : Outcome) : Type 0 where
  leaves : Activity
  disk : mid.disk ≡ old.disk
  seats : mid.seats ≡ with_activity a leaves old.seats
  caller : mid.caller ≡ old.caller
  limit : mid.turns ≡ old.turns
  again : (to : Disk) (others : List Seat) → activity_of a others ≡ activity_of a old.seats → Turn (record old { disk = to; seats = others }) a shows (record mid { disk = to; seats = with_activity a leaves others })

stage_again : (old mid : World) (a : Actor) (stands : Stage) (shows : Outcome) (t : StageTurn old a stands shows mid) → IsNoCall (wants_at old.past stands) → (to : Disk) (others : List Seat) → StageTurn (record old { disk = to; seats = others }) a stands shows (record mid { disk = to; seats = with_activity a (left_of t.transition) others })
stage_again old mid a stands shows t c to others = record {
  transition = t.transition;
  turns = (spares old.caller old.past mid.past old.disk mid.disk to (wants_at old.past stands) t.transition c t.turns).1;
  shows = t.shows;
  leaves = refl;
  same = t.same;
  limit = t.limit;
}

stage_spares : (old mid : World) (a : Actor) (stands : Stage) (shows : Outcome) (t : StageTurn old a stands shows mid) → IsNoCall (wants_at old.past stands) → mid.disk ≡ old.disk
stage_spares old mid a stands shows t c = (spares old.caller old.past mid.past old.disk mid.disk old.disk (wants_at old.past stands) t.transition c t.turns).0

moves_judged : (old mid : World) (a : Actor) (what : _) (found : Judged) (shows : Outcome) → found ≡ judged old.past.state.opening old.past.state.tree a what → activity_of a old.seats ≡ Begun what → JudgedCallsNot old found → JudgedTurn old a found shows mid → Moves old mid a shows
moves_judged old mid a what (Err why) shows f is c t = record {
  leaves = Rests;
  disk = ap (λ (w : World). w.disk) t.1;
  seats = ap (λ (w : World). w.seats) t.1;
  caller = ap (λ (w : World). w.caller) t.1;
  limit = ap (λ (w : World). w.turns) t.1;
  again = λ to others e.
      let after : World = record mid { disk = to; seats = with_activity a Rests others } in
      let T : Activity → Type 0 = λ (v : Activity). ActivityTurn (record old { disk = to; seats = others }) a v shows (record mid { disk = to; seats = with_activity a Rests others }) in
      let J : Judged → Type 0 = λ (j : Judged). JudgedTurn (record old { disk = to; seats = others }) a j shows (record mid { disk = to; seats = with_activity a Rests others }) in
      subst T (sym (e ∙ is)) (subst J f (t.0, ap (λ (w : World). record w { disk = to; seats = with_activity a Rests others }) t.1));
}
moves_judged old mid a what (Ok stands) shows f is c t = record {
  leaves = left_of t.transition;
  disk = stage_spares old mid a stands shows t c;
  seats = t.leaves;
  caller = t.same;
  limit = t.limit;
  again = λ to others e.
      let T : Activity → Type 0 = λ (v : Activity). ActivityTurn (record old { disk = to; seats = others }) a v shows (record mid { disk = to; seats = with_activity a (left_of t.transition) others }) in
      let J : Judged → Type 0 = λ (j : Judged). JudgedTurn (record old { disk = to; seats = others }) a j shows (record mid { disk = to; seats = with_activity a (left_of t.transition) others }) in
      subst T (sym (e ∙ is)) (subst J f (stage_again old mid a stands shows t c to others));
}

moves : (old mid : World) (a : Actor) (what : Activity) (shows : Outcome) → activity_of a old.seats ≡ what → CallsNot old a what → ActivityTurn old a what shows mid → Moves old mid a shows
moves old mid a Rests shows is c t = absurd c
moves old mid a (Begun command) shows is c t = moves_judged old mid a command (judged old.past.state.opening old.past.state.tree a command) shows refl is c t
moves old mid a (Does stands) shows is c t = record {
  leaves = left_of t.transition;
  disk = stage_spares old mid a stands shows t c;
  seats = t.leaves;
  caller = t.same;
  limit = t.limit;
  again = λ to others e.
      let T : Activity → Type 0 = λ (v : Activity). ActivityTurn (record old { disk = to; seats = others }) a v shows (record mid { disk = to; seats = with_activity a (left_of t.transition) others }) in
      subst T (sym (e ∙ is)) (stage_again old mid a stands shows t c to others);
}

-- ---- the turn that calls it

calls : (caller caller' : Caller) (past past' here : Past) (disk from to : Disk) (stands : Stage) (t : Transition) → is_call stands ≡ true → disk ≡ from → WantTurn caller past disk (wants_at past stands) t past' to → (past' ≡ past) × WantTurn caller' here from (wants_at here stands) t here to
calls caller caller' past past' here disk from to (stage.Read access ticket) t c e h = let P : Disk → Type 0 = λ (d : Disk). ReadsIn d access ticket t to in (h.1, (subst P e h.0, refl))
calls caller caller' past past' here disk from to (stage.Write on ticket) t c e h = let P : Disk → Type 0 = λ (d : Disk). WritesOut d on ticket t to in (h.1, (subst P e h.0, refl))
calls caller caller' past past' here disk from to other t c e h = cc

-- it leaves the book as it was, and the same is so before the other turn
pub record Called_first (old mid new : World) (b : Actor) (shows : Outcome) : Type 0 where
  pub leaves : Activity
  pub past : new.past ≡ mid.past
  pub seats : new.seats ≡ with_activity b leaves mid.seats
  pub caller : new.caller ≡ mid.caller
  pub limit : new.turns ≡ mid.turns
  pub first : Turn old b shows (record old { disk = new.disk; seats = with_activity b leaves old.seats })

pub called_first : (old mid new : World) (b : Actor) (what : Activity) (shows : Outcome) → activity_of b old.seats ≡ what → mid.disk ≡ old.disk → calls_device what ≡ true → ActivityTurn mid b what shows new → Called_first old mid new b shows
called_first old mid new b Rests shows is e c t = cc
called_first old mid new b (Begun command) shows is e c t = cc
called_first old mid new b (Does stands) shows is e c t =
    let m : (new.past ≡ mid.past) × WantTurn old.caller old.past old.disk (wants_at old.past stands) t.transition old.past new.disk =
    calls mid.caller old.caller mid.past new.past old.past mid.disk old.disk new.disk stands t.transition c e t.turns in
    let T : Activity → Type 0 = λ (v : Activity). ActivityTurn old b v shows (record old { disk = new.disk; seats = with_activity b (left_of t.transition) old.seats }) in
    record {
      leaves = left_of t.transition;
      past = m.0;
      seats = t.leaves;
      caller = t.same;
      limit = t.limit;
      first = subst T (sym is) (record { transition = t.transition; turns = m.1; shows = t.shows; leaves = refl; same = refl; limit = refl });
    }

-- ---- both

pub turns_change_places : TurnsChangePlaces
turns_change_places = λ old mid new a b shows_a shows_b ne under no cb ta tb.
    let m : Moves old mid a shows_a = moves old mid a (activity_of a old.seats) shows_a refl (calls_not old a (activity_of a old.seats) under no) ta in
    let same : activity_of b mid.seats ≡ activity_of b old.seats = ap (activity_of b) m.seats ∙ activity_of-other b a m.leaves old.seats (λ e. ne (sym e)) in
    let f : Called_first old mid new b shows_b = called_first old mid new b (activity_of b mid.seats) shows_b (sym same) m.disk cb tb in
    let own : activity_of a (with_activity b f.leaves old.seats) ≡ activity_of a old.seats = activity_of-other a b f.leaves old.seats ne in
    let again : Turn (record old { disk = new.disk; seats = with_activity b f.leaves old.seats }) a shows_a (record mid { disk = new.disk; seats = with_activity a m.leaves (with_activity b f.leaves old.seats) }) =
    m.again new.disk (with_activity b f.leaves old.seats) own in
    let calls : calls_device (activity_of b old.seats) ≡ true = ap calls_device (sym same) ∙ cb in
    let swapped : with_activity a m.leaves (with_activity b f.leaves old.seats) ≡ with_activity b f.leaves (with_activity a m.leaves old.seats) =
    swap a b m.leaves f.leaves old.seats ne (under_way_not (activity_of b old.seats) (calls_under_way (activity_of b old.seats) calls)) in
    let seats : with_activity a m.leaves (with_activity b f.leaves old.seats) ≡ new.seats =
    swapped ∙ sym (f.seats ∙ ap (λ (l : List Seat). with_activity b f.leaves l) m.seats) in
    let end : (let w : World = record mid { disk = new.disk; seats = with_activity a m.leaves (with_activity b f.leaves old.seats) } in w) ≡ new =
    world_is (record mid { disk = new.disk; seats = with_activity a m.leaves (with_activity b f.leaves old.seats) }) new (sym f.past) (sym f.caller) refl seats (sym f.limit) in
    let E : World → Type 0 = λ (w : World). Turn (record old { disk = new.disk; seats = with_activity b f.leaves old.seats }) a shows_a w in
    (record old { disk = new.disk; seats = with_activity b f.leaves old.seats }, f.first, subst E end again)

-- ---- whose seat a turn changes

judged_seats : (w m : World) (a : Actor) (found : Judged) (shows : Outcome) → JudgedTurn w a found shows m → (x : Activity) × (m.seats ≡ with_activity a x w.seats)
judged_seats w m a (Err why) shows t = (Rests, ap (λ (u : World). u.seats) t.1)
judged_seats w m a (Ok stands) shows t = (left_of t.transition, t.leaves)

-- its own alone
own_seat : (w m : World) (a : Actor) (what : Activity) (shows : Outcome) → is_under_way what ≡ true → ActivityTurn w a what shows m → (x : Activity) × (m.seats ≡ with_activity a x w.seats)
own_seat w m a Rests shows u t = cc
own_seat w m a (Begun command) shows u t = judged_seats w m a (judged w.past.state.opening w.past.state.tree a command) shows t
own_seat w m a (Does stands) shows u t = (left_of t.transition, t.leaves)

pub others_stay : (w m : World) (a b : Actor) (shows : Outcome) → (number_of a ≡ number_of b → ⊥) → is_under_way (activity_of a w.seats) ≡ true → Turn w a shows m → activity_of b m.seats ≡ activity_of b w.seats
others_stay w m a b shows ne u t =
    let s : (x : Activity) × (m.seats ≡ with_activity a x w.seats) = own_seat w m a (activity_of a w.seats) shows u t in
    ap (activity_of b) s.1 ∙ activity_of-other b a s.0 w.seats (λ e. ne (sym e))

-- ---- a call says nothing, and leaves its command under way

record Quietly (m : World) (b : Actor) (shows : Outcome) : Type 0 where
  goes : shows ≡ Goes
  seat : is_under_way (activity_of b m.seats) ≡ true

read_stands : (access : Access) (answered : Result (Unit {0}) Fault) (filled : TicketOf) (t : Transition) → t ≡ transition.Goes (after_read access answered filled) → (outcome_of t ≡ Goes) × (is_under_way (left_of t) ≡ true)
read_stands access answered filled t e = (ap outcome_of e, ap (λ (r : Transition). is_under_way (left_of r)) e)

write_stands : (on : Resume) (answered : Result (Unit {0}) Fault) (ticket : TicketOf) (t : Transition) → t ≡ transition.Goes (after_write on answered ticket) → (outcome_of t ≡ Goes) × (is_under_way (left_of t) ≡ true)
write_stands on answered ticket t e = (ap outcome_of e, ap (λ (r : Transition). is_under_way (left_of r)) e)

call_stands : (caller : Caller) (past past' : Past) (disk disk' : Disk) (s : Stage) (t : Transition) → is_call s ≡ true → WantTurn caller past disk (wants_at past s) t past' disk' → (outcome_of t ≡ Goes) × (is_under_way (left_of t) ≡ true)
call_stands caller past past' disk disk' (stage.Read access ticket) t c h = read_stands access h.0.answered h.0.filled t h.0.goes
call_stands caller past past' disk disk' (stage.Write on ticket) t c h = write_stands on h.0.answered ticket t h.0.goes
call_stands caller past past' disk disk' other t c h = cc

call_goes : (w m : World) (b : Actor) (what : Activity) (shows : Outcome) → calls_device what ≡ true → ActivityTurn w b what shows m → Quietly m b shows
call_goes w m b Rests shows c t = cc
call_goes w m b (Begun command) shows c t = cc
call_goes w m b (Does stands) shows c t =
    let h : (outcome_of t.transition ≡ Goes) × (is_under_way (left_of t.transition) ≡ true) = call_stands w.caller w.past m.past w.disk m.disk stands t.transition c t.turns in
    record {
      goes = t.shows ∙ h.0;
      seat = ap (λ (l : List Seat). is_under_way (activity_of b l)) t.leaves ∙ (ap is_under_way (activity_of-own b b (left_of t.transition) w.seats refl) ∙ h.1);
    }

pub call_shows : (w m : World) (b : Actor) (shows : Outcome) → calls_device (activity_of b w.seats) ≡ true → Turn w b shows m → shows ≡ Goes
call_shows w m b shows c t = (call_goes w m b (activity_of b w.seats) shows c t).goes

pub call_stays : (w m : World) (b : Actor) (shows : Outcome) → calls_device (activity_of b w.seats) ≡ true → Turn w b shows m → is_under_way (activity_of b m.seats) ≡ true
call_stays w m b shows c t = (call_goes w m b (activity_of b w.seats) shows c t).seat

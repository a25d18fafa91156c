-- Runs go on by one.
use Rattle.std.proofs.Common.{◌≡◌, ℕ, ◌≤◌, Bool, true, length, arith, rules, false, Some, None, List, [], ◌∷◌, ◌++◌, refl, sym, ap, ◌∙◌, append_assoc, append-nil, subst}
use Rattle.machine.specs.declared.command.Actor.{Actor}
use Rattle.machine.specs.declared.command.Reply.{Reply}
use Rattle.driver.specs.declared.seat.Outcome.{Outcome}
use Rattle.driver.specs.declared.seat.Outcome.TheVariants.{Ends}
use denote.Ref.{Bor}
use Rattle.std.specs.Prelude.{if◌then◌else◌, ◌<◌, Ok, Err, Option, IfSome}
use Rattle.machine.specs.declared.command.Answer.TheVariants.{Word}
use Rattle.machine.specs.declared.command.Word.TheVariants.{Idle}
use Rattle.machine.specs.declared.refusal.Refusal.{Refusal}
use Rattle.machine.specs.declared.command.Command.{Command}
use Rattle.turns.specs.declared.turn.Stage.{Stage}
use Rattle.driver.specs.declared.seat.Seat.{Seat}
use Rattle.driver.specs.declared.seat.Activity.{Activity}
use Rattle.driver.specs.declared.seat.Activity.TheVariants.{Rests, Begun, Does}
use Rattle.block_store.specs.Device.{Disk}
use Rattle.machine.specs.declared.config.Config.{Config}
use Rattle.machine.specs.State.{blocks_of, is_config}
use Rattle.machine.specs.Call.{Caller}
use Rattle.machine.proofs.Values.{some_inj}
use Rattle.book.specs.Passes.{PassOf, is_current}
use Rattle.driver.specs.declared.desk.Desk.{Desk}
use Rattle.turns.specs.Tickets.{blocks_in}
use Rattle.driver.specs.Desks.{world, with_seat, lent_to, blocks_of_desk, worker_of_desk, IsOn, IsSame}
use Rattle.turns.specs.Turns.{Judged, judged, ends_refused}
use Rattle.driver.specs.Schedule.{World, first_world, fits, activity_of, with_activity, outcome_of, left_of, WantTurn, wants_at, StageTurn, JudgedTurn, Turn, begun, Goings, is_end, said_at, all_said}
use Rattle.driver.proofs.SeatLists.{activity_of-with_activity, with_activity-twice}
use Rattle.driver.specs.Hands.{OwnSeats}

pub Goings-more : (old : World) (actor : Actor) (earlier : List Outcome) (mid new : World) (outcome : Outcome)
    → Goings old actor earlier mid → Turn mid actor outcome new → is_end outcome ≡ false → Goings old actor (earlier ++ outcome ∷ []) new
Goings-more old actor [] mid new outcome h turn goes =
    let From : World → Type 0 = λ w. Turn w actor outcome new in (new, subst From h turn, goes, refl)
Goings-more old actor (first ∷ earlier) mid new outcome h turn goes =
    (h.0, h.1, h.2, Goings-more h.0 actor earlier mid new outcome h.3 turn goes)

pub all_said-more : (actor : Actor) (earlier : List Outcome) (outcome : Outcome) → all_said actor (earlier ++ outcome ∷ []) ≡ all_said actor earlier ++ said_at actor outcome
all_said-more actor [] outcome = append-nil (said_at actor outcome)
all_said-more actor (first ∷ earlier) outcome =
    ap (λ (rs : List Reply). said_at actor first ++ rs) (all_said-more actor earlier outcome) ∙ sym (append_assoc (said_at actor first) (all_said actor earlier) (said_at actor outcome))

-- ---- one turn

-- a turn of a command that was taken from its seat
pub turn_taken : (old : World) (caller : Caller) (taken : List Seat) (new : World) (who : Actor) (stage : Stage) (outcome : Outcome) → caller ≡ old.caller → ((what : Activity) → with_activity who what taken ≡ with_activity who what old.seats)
    → StageTurn (record old { caller = caller; seats = taken }) who stage outcome new → StageTurn old who stage outcome new
turn_taken old caller taken new who stage outcome same others turn =
    record {
      transition = turn.transition;
      turns = subst (λ (k : Caller). WantTurn k old.past old.disk (wants_at old.past stage) turn.transition new.past new.disk) same turn.turns;
      shows = turn.shows;
      leaves = turn.leaves ∙ others (left_of turn.transition);
      same = turn.same ∙ same;
      limit = turn.limit;
    }

pub turn_does : (old new : World) (who : Actor) (stage : Stage) (outcome : Outcome) → activity_of who old.seats ≡ Does stage → StageTurn old who stage outcome new → Turn old who outcome new
turn_does old new who stage outcome is turn = rw is turn

pub turn_begun : (old new : World) (who : Actor) (command : Command) (outcome : Outcome) → activity_of who old.seats ≡ Begun command → JudgedTurn old who (judged old.past.state.opening old.past.state.tree who command) outcome new
    → Turn old who outcome new
turn_begun old new who command outcome is turn = rw is turn

pub turn_rests : (old new : World) (who : Actor) → activity_of who old.seats ≡ Rests → new ≡ old → Turn old who (Ends (Word Idle)) new
turn_rests old new who is stays = rw is (refl, stays)

-- a command's first turn, by what became of it
pub judged_goes : (old new : World) (who : Actor) (found : Judged) (stage : Stage) (outcome : Outcome) → Ok stage ≡ found → StageTurn old who stage outcome new → JudgedTurn old who found outcome new
judged_goes old new who found stage outcome is turn = rw (sym is) turn

pub judged_refused : (old new : World) (who : Actor) (found : Judged) (why : Refusal) → Err why ≡ found → new ≡ record old { seats = with_activity who Rests old.seats }
    → JudgedTurn old who found (outcome_of (ends_refused why)) new
judged_refused old new who found why is stays = rw (sym is) (refl, stays)

-- the same, whatever else the actor was at before
judged_over : (old : World) (seats : List Seat) (new : World) (who : Actor) (found : Judged) (outcome : Outcome) → ((what : Activity) → with_activity who what old.seats ≡ with_activity who what seats)
    → JudgedTurn old who found outcome new → JudgedTurn (record old { seats = seats }) who found outcome new
judged_over old seats new who (Err why) outcome others turn = (turn.0, turn.1 ∙ ap (λ (ss : List Seat). record old { seats = ss }) (others Rests))
judged_over old seats new who (Ok stage) outcome others turn = turn_taken (record old { seats = seats }) old.caller old.seats new who stage outcome refl others turn

pub judged_taken : (old : World) (taken : List Seat) (new : World) (who : Actor) (found : Judged) (outcome : Outcome) → taken ≡ with_activity who Rests old.seats
    → JudgedTurn (record old { seats = taken }) who found outcome new → JudgedTurn old who found outcome new
judged_taken old taken new who found outcome is turn =
    judged_over (record old { seats = taken }) old.seats new who found outcome (λ what. ap (λ (ss : List Seat). with_activity who what ss) is ∙ with_activity-twice who what Rests old.seats) turn

-- the first turn of a command that was lent, and of one that was not
pub lent_turn : (old new : World) (who : Actor) (what : Command) (outcome : Outcome) → JudgedTurn old who (judged old.past.state.opening old.past.state.tree who what) outcome new
    → Turn (record old { seats = with_activity who (Begun what) old.seats }) who outcome new
lent_turn old new who what outcome turn =
    let at : List Seat = with_activity who (Begun what) old.seats in
    turn_begun (record old { seats = at }) new who what outcome (activity_of-with_activity who (Begun what) old.seats)
    (judged_over old at new who (judged old.past.state.opening old.past.state.tree who what) outcome (λ next. sym (with_activity-twice who next (Begun what) old.seats)) turn)

pub lent_begun : (w mid : World) (who : Actor) (what : Bor Command) → mid ≡ with_seat who w → lent_to mid who (Some what) ≡ begun w who what.now
lent_begun w mid who what is =
    ap (λ (v : World). lent_to v who (Some what)) is ∙ ap (λ (ss : List Seat). record w { seats = ss }) (with_activity-twice who (Begun what.now) (activity_of who w.seats) w.seats)

-- a lent command has had its turn once all turns are spent
pub lent_no_more : (w : World) (who : Actor) (lent : Option (Bor Command)) (turn turns : ℕ) → IfSome lent (λ (what : Bor Command). turn ≡ 0) → IfSome lent (λ (what : Bor Command). 0 < turns) → turn ≡ turns → w ≡ lent_to w who lent
lent_no_more w who None turn turns first some spent = refl
lent_no_more w who (Some what) turn turns first some spent = absurd (omega (arith, first, some, spent))

pub if_some : {A P : Type 0} (o : Option A) → P → IfSome o (λ (x : A). P)
if_some None p = tt
if_some (Some x) p = p

-- ---- the device

pub same-refl : (disk : Disk) → IsSame disk disk
same-refl disk = record { blocks = refl; limit = refl }

pub same-more : (old mid new : Disk) → IsSame old mid → IsSame mid new → IsSame old new
same-more old mid new h k = record { blocks = k.blocks ∙ h.blocks; limit = k.limit ∙ h.limit }

-- ---- the opening

-- a desk at which nobody has a command can go on with a device that has the blocks
pub opened_on : (desk : Desk) (config : Config) (disk : Disk) → world desk disk ≡ first_world config disk → is_current desk.book desk.pass ≡ true → blocks_of config ≤ length disk.contents → IsOn desk disk
opened_on desk config disk opens current enough =
    let blocks : blocks_of_desk desk ≡ blocks_of config = ap (λ (w : World). blocks_in w.past.state.opening) opens in
    let seats : desk.seats ≡ [] = ap (λ (w : World). w.seats) opens in
    let none : length desk.seats ≡ 0 = ap (λ (ss : List Seat). length ss) seats in
    let Own : List Seat → Type 0 = λ ss. OwnSeats (worker_of_desk desk) (blocks_of_desk desk) ss in
    let own : OwnSeats (worker_of_desk desk) (blocks_of_desk desk) desk.seats = subst Own (sym seats) tt in
    record { current = current; room = omega (arith, none); own = own; blocks = omega (arith, blocks, enough) }

-- so can one that goes on, with a pass of the same worker that is current and has room, and with other seats
pub on_with : (desk : Desk) (pass : PassOf) (seats : List Seat) (disk : Disk) → pass.caller ≡ desk.pass.caller → is_current desk.book pass ≡ true → length seats ≤ pass.room → IsOn desk disk
    → OwnSeats (worker_of_desk desk) (blocks_of_desk desk) seats → IsOn (record desk { pass = pass; seats = seats }) disk
on_with desk pass seats disk same current room on own =
    record {
      current = current;
      room = room;
      own = subst (λ (k : Caller). OwnSeats k.worker (blocks_of_desk desk) seats) (sym same) own;
      blocks = on.blocks;
    }

-- how many blocks are asked for, where the configuration is within its limits
pub blocks_known : (config : Config) (blocks : ℕ) → Some blocks ≡ (if is_config config then Some (blocks_of config) else None) → blocks ≡ blocks_of config
blocks_known config blocks known = by_test (is_config config) known
  where
    by_test : (b : Bool) → Some blocks ≡ (if b then Some (blocks_of config) else None) → blocks ≡ blocks_of config
    by_test true e = some_inj e
    by_test false e = cc

pub fitting : (config : Config) (disk : Disk) → is_config config ≡ true → blocks_of config ≤ length disk.contents → fits config disk ≡ true
fitting config disk sized enough = rw sized (search (arith, rules, enough))

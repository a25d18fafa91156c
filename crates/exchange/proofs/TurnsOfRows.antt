-- A turn of an actor of the work, and the line that it begins then.
use Rattle.std.proofs.Common.{◌≡◌, ℕ, ◌+◌, Bool, true, false, List, [], ◌∷◌, ◌++◌, Option, Some, None, refl, sym, ap, ◌∙◌, subst, append-nil}
use Rattle.std.specs.Prelude.{slice_get, slice_index, slice_set, if◌then◌else◌}
use Rattle.machine.specs.declared.command.Actor.{Actor}
use Rattle.machine.specs.declared.command.Command.{Command}
use Rattle.machine.specs.declared.command.Reply.{Reply as Told_by}
use Rattle.machine.specs.declared.command.Step.{Step}
use Rattle.machine.specs.declared.command.Step.TheVariants.{Begin, Advance, Finish}
use Rattle.machine.proofs.Values.{some_inj}
use Rattle.driver.specs.declared.seat.Activity.{Activity}
use Rattle.driver.specs.declared.seat.Activity.TheVariants.{Rests, Begun, Does}
use Rattle.driver.specs.declared.seat.Outcome.{Outcome}
use Rattle.driver.specs.Schedule.{World, number_of, activity_of, with_activity, begun, Begins, Turn, Runs, said_at}
use Rattle.driver.specs.Seats.{is_under_way, calls_device}
use Rattle.driver.proofs.Keeps.{activity_of-other}
use Rattle.explorer.specs.declared.parts.Row.{Row}
use Rattle.explorer.specs.Work.{Point, is_ready, next_of, BeginsAt, GoesOn, TakesTurn}
use Rattle.explorer.specs.Carried.{at}
use Rattle.exchange.specs.Outcomes.{AreApart}
use Rattle.exchange.proofs.Places.{swap, world_is, under_way_not, calls_under_way, Called_first, called_first}

-- ---- a turn as a run

pub advanced : (old new : World) (who : Actor) (answers : List Told_by) → Runs old (Advance who ∷ []) answers new → (shows : Outcome) × Turn old who shows new × (answers ≡ said_at who shows)
advanced old new who answers (here, later, mid, step, rest, e) =
    let T : World → Type 0 = λ (w : World). Turn old who step.0 w in
    (step.0, subst T (sym rest.1) step.1, e ∙ (ap (λ (l : List Told_by). here ++ l) rest.0 ∙ (append-nil here ∙ step.2)))

pub advances : (old new : World) (who : Actor) (shows : Outcome) → Turn old who shows new → Runs old (Advance who ∷ []) (said_at who shows) new
advances old new who shows turn = (said_at who shows, [], new, (shows, turn, refl), (refl, refl), sym (append-nil (said_at who shows)))

-- ---- the line that is begun

abbrev pub steps_by : Option Step → List Step
steps_by None = []
steps_by (Some step) = step ∷ []

abbrev pub world_by : Option Step → World → World
world_by None w = w
world_by (Some (Begin who what)) w = begun w who what
world_by (Some (Advance who)) w = w
world_by (Some (Finish who)) w = w

abbrev pub begun_by : Option Step → List ℕ → ℕ → List ℕ
begun_by None counts place = counts
begun_by (Some step) counts place = slice_set counts place (slice_index counts place + 1)

-- a command of this actor is begun, or none
abbrev pub IsBegin : Actor → Option Step → Type 0
IsBegin who None = Unit {0}
IsBegin who (Some step) = (what : Command) × (step ≡ Begin who what)

pub point_is : (p : Point) (world : World) (counts : List ℕ) → p.world ≡ world → p.begun ≡ counts → p ≡ at world counts
point_is p world counts e f = ap (λ (w : World). record p { world = w }) e ∙ ap (λ (l : List ℕ). record p { world = world; begun = l }) f

resting : (what : Activity) → is_under_way what ≡ false → what ≡ Rests
resting Rests e = refl
resting (Begun command) e = cc
resting (Does stands) e = cc

-- what the actor begins, and what comes of it
pub record Next (row : Row) (old : Point) (place : ℕ) (next : Option Step) (steps : List Step) (answers : List Told_by) (new : Point) : Type 0 where
  pub begins : IsBegin row.actor next
  pub steps_are : steps ≡ steps_by next
  pub quiet : answers ≡ []
  pub new_is : new ≡ at (world_by next old.world) (begun_by next old.begun place)

module _ (rows : List Row) (work : AreApart rows) (row : Row) (place : ℕ) (there : slice_get rows place ≡ Some row) where
  next_begin : (old new : Point) (what : Command) (steps : List Step) (answers : List Told_by) → activity_of row.actor old.world.seats ≡ Rests → steps ≡ Begin row.actor what ∷ [] → Runs old.world steps answers new.world
      → new.begun ≡ slice_set old.begun place (slice_index old.begun place + 1) → Next row old place (Some (Begin row.actor what)) steps answers new
  next_begin old new what steps answers rests e runs counts =
      let P : List Step → Type 0 = λ (l : List Step). Runs old.world l answers new.world in
      at_runs (subst P e runs)
    where
      at_runs : Runs old.world (Begin row.actor what ∷ []) answers new.world → Next row old place (Some (Begin row.actor what)) steps answers new
      at_runs (here, later, mid, step, rest, f) =
          let B : Activity → Type 0 = λ (a : Activity). Begins old.world row.actor what a here mid in
          let b : (here ≡ []) × (mid ≡ begun old.world row.actor what) = subst B rests step in
          record {
            begins = (what, refl);
            steps_are = e;
            quiet = f ∙ (ap (λ (l : List Told_by). l ++ later) b.0 ∙ rest.0);
            new_is = point_is new (begun old.world row.actor what) (slice_set old.begun place (slice_index old.begun place + 1)) (rest.1 ∙ b.1) counts;
          }

  -- what goes on is what the row says
  pub goes_on_is : (old new : Point) (steps : List Step) (answers : List Told_by) → GoesOn rows old place steps answers new → Next row old place (next_of row (slice_index old.begun place) old.world.seats) steps answers new
  goes_on_is old new steps answers g = by_ready (is_ready old.world.seats row) refl (subst B same g.begins)
    where
      n : ℕ
      n = slice_index old.begun place

      same : g.row ≡ row
      same = some_inj (sym g.is_there ∙ there)

      B : Row → Type 0
      B r = BeginsAt (next_of r (slice_index old.begun place) old.world.seats) old place steps answers new

      by_line : (o : Option Step) → slice_get row.lines.items (slice_index old.begun place) ≡ o → activity_of row.actor old.world.seats ≡ Rests → BeginsAt o old place steps answers new → Next row old place o steps answers new
      by_line None e rests h = record { begins = tt; steps_are = h.0; quiet = h.1; new_is = h.2 }
      by_line (Some step) e rests h =
          let own : (what : Command) × (step ≡ Begin row.actor what) = work.own place (slice_index old.begun place) row step there e in
          let N : Step → Type 0 = λ (s : Step). Next row old place (Some s) steps answers new in
          subst N (sym own.1) (next_begin old new own.0 steps answers rests (h.0 ∙ ap (λ (s : Step). s ∷ []) own.1) h.1 h.2)

      by_ready : (b : Bool) → is_ready old.world.seats row ≡ b → BeginsAt (if b then None else slice_get row.lines.items (slice_index old.begun place)) old place steps answers new
          → Next row old place (if b then None else slice_get row.lines.items (slice_index old.begun place)) steps answers new
      by_ready true e h = record { begins = tt; steps_are = h.0; quiet = h.1; new_is = h.2 }
      by_ready false e h = by_line (slice_get row.lines.items (slice_index old.begun place)) refl (resting (activity_of row.actor old.world.seats) e) h

  -- and so it goes on
  pub goes_on_so : (old : Point) (next : Option Step) → next_of row (slice_index old.begun place) old.world.seats ≡ next → IsBegin row.actor next
      → GoesOn rows old place (steps_by next) [] (at (world_by next old.world) (begun_by next old.begun place))
  goes_on_so old next e begins = record { row = row; is_there = there; begins = subst B (sym e) (by next refl begins) }
    where
      B : Option Step → Type 0
      B o = BeginsAt o old place (steps_by next) [] (at (world_by next old.world) (begun_by next old.begun place))

      rests_by : (b : Bool) (what : Command) → is_ready old.world.seats row ≡ b → (if b then None else slice_get row.lines.items (slice_index old.begun place)) ≡ Some (Begin row.actor what) → activity_of row.actor old.world.seats ≡ Rests
      rests_by true what f h = cc
      rests_by false what f h = resting (activity_of row.actor old.world.seats) f

      by : (o : Option Step) → next ≡ o → IsBegin row.actor o → BeginsAt o old place (steps_by o) [] (at (world_by o old.world) (begun_by o old.begun place))
      by None f h = (refl, refl, refl)
      by (Some step) f h =
          let P : Step → Type 0 = λ (s : Step). BeginsAt (Some s) old place (s ∷ []) [] (at (world_by (Some s) old.world) (begun_by (Some s) old.begun place)) in
          let rests : activity_of row.actor old.world.seats ≡ Rests = rests_by (is_ready old.world.seats row) h.0 refl (e ∙ (f ∙ ap (λ (s : Step). Some s) h.1)) in
          let A : Activity → Type 0 = λ (a : Activity). Begins old.world row.actor h.0 a [] (begun old.world row.actor h.0) in
          subst P (sym h.1) (refl, ([], [], begun old.world row.actor h.0, subst A (sym rests) (refl, refl), (refl, refl), refl), refl)

-- ---- a whole turn

pub record Taking (row : Row) (old : Point) (place : ℕ) (steps : List Step) (answers : List Told_by) (new : Point) : Type 0 where
  pub mid : World
  pub shows : Outcome
  pub next : Option Step
  pub turn : Turn old.world row.actor shows mid
  pub next_is : next_of row (slice_index old.begun place) mid.seats ≡ next
  pub begins : IsBegin row.actor next
  pub steps_are : steps ≡ Advance row.actor ∷ steps_by next
  pub answers_are : answers ≡ said_at row.actor shows
  pub new_is : new ≡ at (world_by next mid) (begun_by next old.begun place)

module _ (rows : List Row) (work : AreApart rows) (row : Row) (place : ℕ) (there : slice_get rows place ≡ Some row) where
  pub taking : (old new : Point) (steps : List Step) (answers : List Told_by) → TakesTurn rows old place steps answers new → Taking row old place steps answers new
  taking old new steps answers t =
      let R : Row → Type 0 = λ (r : Row). Runs old.world (Advance r.actor ∷ []) t.said t.mid in
      let same : t.row ≡ row = some_inj (sym t.is_there ∙ there) in
      let a : (shows : Outcome) × Turn old.world row.actor shows t.mid × (t.said ≡ said_at row.actor shows) = advanced old.world t.mid row.actor t.said (subst R same t.advances) in
      let n : Next row (at t.mid old.begun) place (next_of row (slice_index old.begun place) t.mid.seats) t.begins t.later new = goes_on_is rows work row place there (at t.mid old.begun) new t.begins t.later t.goes_on in
      record {
        mid = t.mid;
        shows = a.0;
        next = next_of row (slice_index old.begun place) t.mid.seats;
        turn = a.1;
        next_is = refl;
        begins = n.begins;
        steps_are = t.steps_are ∙ (ap (λ (r : Row). Advance r.actor ∷ t.begins) same ∙ ap (λ (l : List Step). Advance row.actor ∷ l) n.steps_are);
        answers_are = t.answers_are ∙ (ap (λ (l : List Told_by). t.said ++ l) n.quiet ∙ (append-nil t.said ∙ a.2));
        new_is = n.new_is;
      }

  pub takes_so : (old new : Point) (steps : List Step) (answers : List Told_by) → Taking row old place steps answers new → TakesTurn rows old place steps answers new
  takes_so old new steps answers t =
      let P : Point → Type 0 = λ (p : Point). GoesOn rows (at t.mid old.begun) place (steps_by t.next) [] p in
      record {
        row = row;
        is_there = there;
        mid = t.mid;
        said = said_at row.actor t.shows;
        later = [];
        begins = steps_by t.next;
        advances = advances old.world t.mid row.actor t.shows t.turn;
        goes_on = subst P (sym t.new_is) (goes_on_so rows work row place there (at t.mid old.begun) t.next t.next_is t.begins);
        steps_are = t.steps_are;
        answers_are = t.answers_are ∙ sym (append-nil (said_at row.actor t.shows));
      }

-- ---- a line that is begun before another actor's call

-- it changes its own seat alone
pub begun_others : (w : World) (a b : Actor) (next : Option Step) → IsBegin a next → (number_of a ≡ number_of b → ⊥) → activity_of b (world_by next w).seats ≡ activity_of b w.seats
begun_others w a b None h ne = refl
begun_others w a b (Some step) h ne =
    let P : Step → Type 0 = λ (s : Step). activity_of b (world_by (Some s) w).seats ≡ activity_of b w.seats in
    subst P (sym h.1) (activity_of-other b a (Begun h.0) w.seats (λ e. ne (sym e)))

-- the call may come before it
pub record Before (w : World) (next : Option Step) (b : Actor) (shows : Outcome) (v : World) : Type 0 where
  pub mid : World
  pub turn : Turn w b shows mid
  pub later : v ≡ world_by next mid

begin_waits : (w v : World) (a b : Actor) (what : Command) (shows : Outcome) → (number_of a ≡ number_of b → ⊥) → calls_device (activity_of b w.seats) ≡ true → Turn (begun w a what) b shows v → Before w (Some (Begin a what)) b shows v
begin_waits w v a b what shows ne calls turn =
    let same : activity_of b (with_activity a (Begun what) w.seats) ≡ activity_of b w.seats = activity_of-other b a (Begun what) w.seats (λ e. ne (sym e)) in
    let f : Called_first w (begun w a what) v b shows =
    called_first w (begun w a what) v b (activity_of b (with_activity a (Begun what) w.seats)) shows (sym same) refl (ap calls_device same ∙ calls) turn in
    let seats : v.seats ≡ with_activity a (Begun what) (with_activity b f.leaves w.seats) =
    f.seats ∙ sym (swap a b (Begun what) f.leaves w.seats ne (under_way_not (activity_of b w.seats) (calls_under_way (activity_of b w.seats) calls))) in
    record {
      mid = record w { disk = v.disk; seats = with_activity b f.leaves w.seats };
      turn = f.first;
      later = world_is v (record w { disk = v.disk; seats = with_activity a (Begun what) (with_activity b f.leaves w.seats) }) f.past f.caller refl seats f.limit;
    }

pub call_first : (w v : World) (a b : Actor) (next : Option Step) (shows : Outcome) → IsBegin a next → (number_of a ≡ number_of b → ⊥) → calls_device (activity_of b w.seats) ≡ true → Turn (world_by next w) b shows v → Before w next b shows v
call_first w v a b None shows h ne calls turn = record { mid = v; turn = turn; later = refl }
call_first w v a b (Some step) shows h ne calls turn =
    let P : Step → Type 0 = λ (s : Step). Turn (world_by (Some s) w) b shows v in
    let Q : Step → Type 0 = λ (s : Step). Before w (Some s) b shows v in
    subst Q (sym h.1) (begin_waits w v a b h.0 shows ne calls (subst P h.1 turn))

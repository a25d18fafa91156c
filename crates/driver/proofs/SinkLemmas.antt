-- What a sink has of a run that is cut short.
use Rattle.std.proofs.Common.{◌≡◌, ℕ, zero, suc, ◌<◌, ◌≤◌, true, List, [], ◌∷◌, ◌++◌, length, take, get_or, inl, inr, append-nil, length-append, refl, sym, ap, ◌∙◌, subst, arith, append_assoc, false}
use Rattle.std.specs.Prelude.{◌⊎◌, Result, Ok, Err, OnErr}
use Rattle.std.specs.List.{AllByRecursion}
use Rattle.machine.specs.declared.config.Config.{Config}
use Rattle.machine.specs.declared.command.Actor.{Actor}
use Rattle.machine.specs.declared.command.Step.{Step}
use Rattle.machine.specs.declared.command.Step.TheVariants.{Begin, Advance, Finish}
use Rattle.machine.specs.declared.command.Answer.TheVariants.{Word}
use Rattle.machine.specs.declared.command.Word.TheVariants.{TurnLimit, Underway, Idle}
use Rattle.machine.specs.declared.command.Word.{Word as Word_of}
use Rattle.machine.specs.declared.command.Command.{Command}
use Rattle.turns.specs.declared.turn.Kill.TheVariants as kill
use Rattle.driver.specs.declared.seat.Activity.{Activity}
use Rattle.driver.specs.declared.seat.Activity.TheVariants.{Rests, Begun, Does}
use Rattle.schedules.specs.declared.schedule.Entry.TheVariants.{Whole}
use Rattle.schedules.specs.Schedule.{steps_of_entry}
use Rattle.driver.specs.Seats.{place_of, is_under_way}
use Rattle.driver.proofs.SeatLists.{activity_of-none}
use Rattle.machine.specs.declared.command.Reply.{Reply}
use Rattle.machine.specs.Call.{Past}
use Rattle.machine.specs.History.{at_first, Honest}
use Rattle.block_store.specs.Device.{Disk}
use Rattle.driver.specs.declared.seat.Outcome.{Outcome}
use Rattle.driver.specs.declared.seat.Outcome.TheVariants.{Goes, Kills, Ends}
use Rattle.driver.specs.Schedule.{World, first_world, activity_of, with_activity, JudgedTurn, ActivityTurn, EndsIn, RunsOut, Turn, Begins, begun, Goings, Finishes, said_at, all_said, Stepped, Runs, RunsThrough, files_on, fits}
use Rattle.turns.specs.Turns.{Judged, judged, answer_by}
use Rattle.driver.specs.Sinks.{Heard, BeginsWith, Starts, IsRightOnce, StartsStep, StartsRun, CutsStep, CutsRun}
use Rattle.driver.proofs.Faithful.{runs_are_honest}

-- what holds of a call that failed holds where its result is looked at
pub on_err : {T E P : Type 0} (r : Result T E) → P → OnErr r P
on_err (Ok x) p = tt
on_err (Err e) p = p

-- a run goes on with another
pub Runs-then : (old : World) (steps : List Step) (answers : List Reply) (mid : World) (more : List Step) (further : List Reply) (new : World)
    → Runs old steps answers mid → Runs mid more further new → Runs old (steps ++ more) (answers ++ further) new
Runs-then old [] answers mid more further new h then =
    let From : World → Type 0 = λ w. Runs w more further new in
    let To : List Reply → Type 0 = λ rs. Runs old more rs new in
    subst To (ap (λ (rs : List Reply). rs ++ further) (sym h.0)) (subst From h.1 then)
Runs-then old (first ∷ steps) answers mid more further new h then =
    (h.0, h.1 ++ further, h.2, h.3, Runs-then h.2 steps h.1 mid more further new h.4 then, ap (λ (rs : List Reply). rs ++ further) h.5 ∙ append_assoc h.0 h.1 further)

-- a turn for each of these outcomes
single_turns : Actor → List Outcome → List Step
single_turns who [] = []
single_turns who (outcome ∷ outcomes) = Advance who ∷ single_turns who outcomes

single_turns-len : (who : Actor) (outcomes : List Outcome) → length (single_turns who outcomes) ≡ length outcomes
unfolding single_turns
single_turns-len who [] = refl
single_turns-len who (outcome ∷ outcomes) = ap suc (single_turns-len who outcomes)

single_turns-all : (who : Actor) (outcomes : List Outcome) → AllByRecursion (λ (s : Step). s ≡ Advance who) (single_turns who outcomes)
unfolding single_turns
single_turns-all who [] = tt
single_turns-all who (outcome ∷ outcomes) = (refl, single_turns-all who outcomes)

-- the turns of a finish are a run of single turns
single_turns-run : (old : World) (who : Actor) (outcomes : List Outcome) (new : World) → Goings old who outcomes new → Runs old (single_turns who outcomes) (all_said who outcomes) new
unfolding single_turns
single_turns-run old who [] new h = (refl, h)
single_turns-run old who (outcome ∷ outcomes) new h =
    (said_at who outcome, all_said who outcomes, h.0, (outcome, h.1, refl), single_turns-run h.0 who outcomes new h.3, refl)

-- one step is a run
pub one_step : (old : World) (step : Step) (answers : List Reply) (new : World) → Stepped old step answers new → Runs old (step ∷ []) answers new
one_step old step answers new h = (answers, [], new, h, (refl, refl), sym (append-nil answers))

-- of a step that was carried out
whole_starts : (old : World) (step : Step) (answers : List Reply) (end : World) → Stepped old step answers end → IsRightOnce end → StartsStep old step answers end.disk
whole_starts old step answers end stepped right = record { part = step ∷ []; is_part = inr (inl refl); end = end; runs = one_step old step answers end stepped; device = refl; right = right }

-- of a finish, so many turns
pub turns_start : (old : World) (who : Actor) (outcomes : List Outcome) (end : World) (after : Disk) → length outcomes ≤ old.turns → Goings old who outcomes end → end.disk ≡ after → IsRightOnce end
    → StartsStep old (Finish who) (all_said who outcomes ++ []) after
turns_start old who outcomes end after few goes device right =
    record {
      part = single_turns who outcomes;
      is_part = inr (inr (let len = single_turns-len who outcomes in omega (arith, len, few), single_turns-all who outcomes));
      end = end;
      runs = subst (λ (rs : List Reply). Runs old (single_turns who outcomes) rs end) (sym (append-nil (all_said who outcomes))) (single_turns-run old who outcomes end goes);
      device = device;
      right = right;
    }

-- and one turn more
pub turn_starts : (old : World) (who : Actor) (outcomes : List Outcome) (mid : World) (last : Outcome) (end : World) → length outcomes < old.turns → Goings old who outcomes mid → Turn mid who last end → IsRightOnce end
    → StartsStep old (Finish who) (all_said who outcomes ++ said_at who last) end.disk
turn_starts old who outcomes mid last end few goes turn right =
    let earlier = single_turns who outcomes in
    record {
      part = earlier ++ Advance who ∷ [];
      is_part = inr (inr (let len = single_turns-len who outcomes in let more = length-append earlier (Advance who ∷ []) in omega (arith, len, more, few), all-more earlier (single_turns-all who outcomes)));
      end = end;
      runs = Runs-then old earlier (all_said who outcomes) mid (Advance who ∷ []) (said_at who last) end (single_turns-run old who outcomes mid goes) (one_step mid (Advance who) (said_at who last) end (last, turn, refl));
      device = refl;
      right = right;
    }
  where
    all-more : (steps : List Step) → AllByRecursion (λ (s : Step). s ≡ Advance who) steps → AllByRecursion (λ (s : Step). s ≡ Advance who) (steps ++ Advance who ∷ [])
    all-more [] all = (refl, tt)
    all-more (step ∷ steps) all = (all.0, all-more steps all.1)

-- and the last that it has, behind which it says that there are no more
pub limit_starts : (old : World) (who : Actor) (outcomes : List Outcome) (end : World) → length outcomes ≡ old.turns → Goings old who outcomes end → IsRightOnce end
    → StartsStep old (Finish who) (all_said who outcomes ++ answer_by who (Word TurnLimit)) end.disk
limit_starts old who outcomes end spent goes right =
    whole_starts old (Finish who) (all_said who outcomes ++ answer_by who (Word TurnLimit)) end (outcomes, end, goes, inr (record { spent = spent; stays = refl; answers_are = refl })) right

-- ---- how many turns a finish takes stays

stays-limit : (old new : World) → new ≡ old → new.turns ≡ old.turns
stays-limit old new same = ap (λ (w : World). w.turns) same

judged-limit : (old new : World) (who : Actor) (found : Judged) (outcome : Outcome) → JudgedTurn old who found outcome new → new.turns ≡ old.turns
judged-limit old new who (Err why) outcome turn = stays-limit (record old { seats = with_activity who Rests old.seats }) new turn.1
judged-limit old new who (Ok stage) outcome turn = turn.limit

turn-limit : (old new : World) (who : Actor) (at : Activity) (outcome : Outcome) → ActivityTurn old who at outcome new → new.turns ≡ old.turns
turn-limit old new who Rests outcome turn = stays-limit old new turn.1
turn-limit old new who (Begun what) outcome turn = judged-limit old new who (judged old.past.state.opening old.past.state.tree who what) outcome turn
turn-limit old new who (Does stage) outcome turn = turn.limit

goings-limit : (old new : World) (who : Actor) (outcomes : List Outcome) → Goings old who outcomes new → new.turns ≡ old.turns
goings-limit old new who [] goes = stays-limit old new goes
goings-limit old new who (outcome ∷ outcomes) goes = goings-limit goes.0 new who outcomes goes.3 ∙ turn-limit old goes.0 who (activity_of who old.seats) outcome goes.1

finish-limit : (turns : ℕ) (mid new : World) (who : Actor) (earlier : List Outcome) (answers : List Reply) → EndsIn turns mid who earlier answers new ⊎ RunsOut turns mid who earlier answers new → new.turns ≡ mid.turns
finish-limit turns mid new who earlier answers (inl ends) = turn-limit mid new who (activity_of who mid.seats) ends.last ends.turn
finish-limit turns mid new who earlier answers (inr out) = stays-limit mid new out.stays

begin-limit : (old new : World) (who : Actor) (what : Command) (at : Activity) (answers : List Reply) → Begins old who what at answers new → new.turns ≡ old.turns
begin-limit old new who what Rests answers h = stays-limit (begun old who what) new h.1
begin-limit old new who what (Begun other) answers h = stays-limit old new h.1
begin-limit old new who what (Does stage) answers h = stays-limit old new h.1

step-limit : (old new : World) (step : Step) (answers : List Reply) → Stepped old step answers new → new.turns ≡ old.turns
step-limit old new (Begin who what) answers h = begin-limit old new who what (activity_of who old.seats) answers h
step-limit old new (Advance who) answers h = turn-limit old new who (activity_of who old.seats) h.0 h.1
step-limit old new (Finish who) answers h = finish-limit old.turns h.1 new who h.0 answers h.3 ∙ goings-limit old h.1 who h.0 h.2

runs_limit : (old : World) (steps : List Step) (answers : List Reply) (new : World) → Runs old steps answers new → new.turns ≡ old.turns
runs_limit old [] answers new h = stays-limit old new h.1
runs_limit old (step ∷ steps) answers new h = runs_limit h.2 steps h.1 new h.4 ∙ step-limit old h.2 step h.0 h.3

-- ---- what a sink is shown

-- a run with the pasts between its steps is a run
pub runs_of : (old : World) (steps : List Step) (answers : List Reply) (pasts : List Past) (new : World) → RunsThrough old steps answers pasts new → Runs old steps answers new
runs_of old [] answers pasts new h = (h.0, h.2)
runs_of old (step ∷ steps) answers pasts new h = (h.0, h.1, h.3, h.4, runs_of h.3 steps h.1 h.2 new h.5, h.6)

-- and it goes on with another
pub RunsThrough-then : (old : World) (steps : List Step) (answers : List Reply) (pasts : List Past) (mid : World) (more : List Step) (further : List Reply) (later : List Past) (new : World)
    → RunsThrough old steps answers pasts mid → RunsThrough mid more further later new → RunsThrough old (steps ++ more) (answers ++ further) (pasts ++ later) new
RunsThrough-then old [] answers pasts mid more further later new h then =
    let From : World → Type 0 = λ w. RunsThrough w more further later new in
    let Answers : List Reply → Type 0 = λ rs. RunsThrough old more rs later new in
    let Pasts : List Past → Type 0 = λ ps. RunsThrough old more (answers ++ further) ps new in
    subst Pasts (ap (λ (ps : List Past). ps ++ later) (sym h.1)) (subst Answers (ap (λ (rs : List Reply). rs ++ further) (sym h.0)) (subst From h.2 then))
RunsThrough-then old (first ∷ steps) answers pasts mid more further later new h then = (
  h.0,
  h.1 ++ further,
  h.2 ++ later,
  h.3,
  h.4,
  RunsThrough-then h.3 steps h.1 h.2 mid more further later new h.5 then,
  ap (λ (rs : List Reply). rs ++ further) h.6 ∙ append_assoc h.0 h.1 further,
  ap (λ (ps : List Past). ps ++ later) h.7,
)

-- one step is one, and so is a command from its beginning to its end
pub one_through : (old : World) (step : Step) (answers : List Reply) (new : World) → Stepped old step answers new → RunsThrough old (step ∷ []) answers (new.past ∷ []) new
one_through old step answers new h = (answers, [], [], new, h, (refl, refl, refl), sym (append-nil answers), refl)

pub whole_through : (old mid new : World) (who : Actor) (what : Command) (here there : List Reply) → Stepped old (Begin who what) here mid → Stepped mid (Finish who) there new
    → RunsThrough old (steps_of_entry (Whole who what)) (here ++ there) (mid.past ∷ new.past ∷ []) new
whole_through old mid new who what here there begins finishes = (here, there, new.past ∷ [], mid, begins, one_through mid (Finish who) there new finishes, refl, refl)

-- a sink that took some answers, and then none
pub took_none : {S : Type 0} (took : S → S → List Reply → Type 0) → ((a b c : S) (xs ys : List Reply) → took a b xs → took b c ys → took a c (xs ++ ys)) → (a b c : S) (xs : List Reply) → took a b xs → took b c [] → took a c xs
took_none took more a b c xs first second = subst (λ (rs : List Reply). took a c rs) (append-nil xs) (more a b c xs [] first second)

begins_none : (most : ℕ) (steps : List Step) → BeginsWith most steps []
begins_none most [] = refl
begins_none most (step ∷ steps) = inl refl

-- of a step that was cut short before anything was told
nothing_starts : (old : World) (step : Step) (after : Disk) → old.disk ≡ after → IsRightOnce old → StartsStep old step [] after
nothing_starts old step after device right = record { part = []; is_part = inl refl; end = old; runs = (refl, refl); device = device; right = right }

-- some steps were done, and one behind them was cut short
starts_then : (old : World) (steps : List Step) (answers : List Reply) (mid : World) (later : List Step) (added : List Reply) (after : Disk) → Runs old steps answers mid → StartsRun mid later added after
    → StartsRun old (steps ++ later) (answers ++ added) after
starts_then old steps answers mid later added after ran starts =
    record {
      done = steps ++ starts.done;
      left = starts.left;
      cut = ap (λ (ss : List Step). steps ++ ss) starts.cut ∙ sym (append_assoc steps starts.done starts.left);
      part = starts.part;
      begins = subst (λ (n : ℕ). BeginsWith n starts.left starts.part) (runs_limit old steps answers mid ran) starts.begins;
      end = starts.end;
      runs = subst (λ (ss : List Step). Runs old ss (answers ++ added) starts.end) (sym (append_assoc steps starts.done starts.part)) (Runs-then old steps answers mid (starts.done ++ starts.part) added starts.end ran starts.runs);
      device = starts.device;
      right = starts.right;
    }

begins_more : (most : ℕ) (left more part : List Step) → BeginsWith most left part → BeginsWith most (left ++ more) part
begins_more most [] more part none = subst (λ (ss : List Step). BeginsWith most more ss) (sym none) (begins_none most more)
begins_more most (step ∷ left) more part begins = begins

-- a turn says one answer at most
pub said-few : (who : Actor) (outcome : Outcome) → length (said_at who outcome) ≤ 1
said-few who Goes = omega arith
said-few who (Kills (kill.One t)) = omega arith
said-few who (Kills (kill.Group victim tasks)) = omega arith
said-few who (Ends said) = omega arith

-- a sink that took some answers took some more
module _ {S : Type 0} (took failed : S → S → List Reply → Type 0) where
  heard-more : ((a b c : S) (xs ys : List Reply) → took a b xs → took b c ys → took a c (xs ++ ys)) → (a b c : S) (xs ys begun : List Reply) → took a b xs → Heard took failed b c ys begun → Heard took failed a c (xs ++ ys) begun
  heard-more more a b c xs ys begun first second = record { mid = second.mid; takes = more a b second.mid xs ys first second.takes; fails = second.fails }

  -- nothing of a step was taken; of one that is carried out an answer may have been begun
  pub cut_before : ((s : S) → failed s s []) → (s t : S) → took s t [] → (before : World) (step : Step) (after : Disk) → before.disk ≡ after → IsRightOnce before → CutsStep took failed s t before step after
  cut_before stays s t none before step after device right =
      record { answers = []; begun = []; few = omega arith; heard = record { mid = t; takes = none; fails = stays t }; starts = nothing_starts before step after device right }

  pub cut_behind : (s t u : S) → took s t [] → (before : World) (step : Step) (begun : List Reply) (end : World) → length begun ≤ 1 → failed t u begun → Stepped before step begun end → IsRightOnce end → CutsStep took failed s u before step end.disk
  cut_behind s t u none before step begun end few fails stepped right =
      record { answers = []; begun = begun; few = few; heard = record { mid = t; takes = none; fails = fails }; starts = whole_starts before step begun end stepped right }

  -- of steps the first was cut short
  pub cuts_first : (a c : S) (old : World) (step : Step) (later : List Step) (after : Disk) → CutsStep took failed a c old step after → CutsRun took failed a c old (step ∷ later) after
  cuts_first a c old step later after cut =
      let starts = cut.starts in
      record {
        answers = cut.answers;
        begun = cut.begun;
        few = cut.few;
        heard = cut.heard;
        starts = record { done = []; left = step ∷ later; cut = refl; part = starts.part; begins = starts.is_part; end = starts.end; runs = starts.runs; device = starts.device; right = starts.right };
      }

  -- some were done, and one behind them was cut short
  pub cuts_then : ((a b c : S) (xs ys : List Reply) → took a b xs → took b c ys → took a c (xs ++ ys)) → (a b c : S) (old : World) (steps : List Step) (answers : List Reply) (mid : World) (later : List Step) (after : Disk)
      → took a b answers → Runs old steps answers mid → CutsRun took failed b c mid later after → CutsRun took failed a c old (steps ++ later) after
  cuts_then more a b c old steps answers mid later after takes ran cut =
      record {
        answers = answers ++ cut.answers;
        begun = cut.begun;
        few = cut.few;
        heard = heard-more more a b c answers cut.answers cut.begun takes cut.heard;
        starts = (let same : answers ++ (cut.answers ++ cut.begun) ≡ (answers ++ cut.answers) ++ cut.begun = sym (append_assoc answers cut.answers cut.begun) in
            subst (λ (rs : List Reply). StartsRun old (steps ++ later) rs after) same (starts_then old steps answers mid later (cut.answers ++ cut.begun) after ran cut.starts));
      }

  -- and others would have come behind them
  pub cuts_more : (a c : S) (old : World) (steps more : List Step) (after : Disk) → CutsRun took failed a c old steps after → CutsRun took failed a c old (steps ++ more) after
  cuts_more a c old steps more after cut =
      let starts = cut.starts in
      record {
        answers = cut.answers;
        begun = cut.begun;
        few = cut.few;
        heard = cut.heard;
        starts = record {
          done = starts.done;
          left = starts.left ++ more;
          cut = ap (λ (ss : List Step). ss ++ more) starts.cut ∙ append_assoc starts.done starts.left more;
          part = starts.part;
          begins = begins_more old.turns starts.left more starts.part starts.begins;
          end = starts.end;
          runs = starts.runs;
          device = starts.device;
          right = starts.right;
        };
      }

-- from the opening world that is a schedule
pub run_starts : (config : Config) (before : Disk) (steps : List Step) (answers : List Reply) (after : Disk) → fits config before ≡ true → StartsRun (first_world config before) steps answers after → Starts config before steps answers after
run_starts config before steps answers after fit starts =
    let honest : Honest (at_first (files_on config before)) starts.end.past.history = runs_are_honest config before (starts.done ++ starts.part) answers starts.end fit starts.runs in
    record {
      done = starts.done;
      left = starts.left;
      cut = starts.cut;
      part = starts.part;
      begins = starts.begins;
      schedules = record { end = starts.end; runs = starts.runs; device = starts.device; honest = honest; right = starts.right (files_on config before) honest };
    }

-- nothing was done
pub opening_starts : (config : Config) (before : Disk) (steps : List Step) → fits config before ≡ true → Starts config before steps [] before
opening_starts config before steps fit =
    let right : IsRightOnce (first_world config before) = λ files honest. tt in
    run_starts config before steps [] before fit (record { done = []; left = steps; cut = refl; part = []; begins = begins_none config.turns steps; end = first_world config before; runs = (refl, refl); device = refl; right = right })

-- a command that is begun over another is not
pub begins_fresh : (old new : World) (who : Actor) (what : Command) (activity : Activity) → is_under_way activity ≡ false → new ≡ begun old who what → Begins old who what activity [] new
begins_fresh old new who what Rests rests is = (refl, is)
begins_fresh old new who what (Begun command) rests is = cc
begins_fresh old new who what (Does stage) rests is = cc

pub begins_over : (old : World) (who : Actor) (what : Command) (activity : Activity) → is_under_way activity ≡ true → Begins old who what activity (answer_by who (Word Underway)) old
begins_over old who what Rests under_way = absurd cc
begins_over old who what (Begun command) under_way = (refl, refl)
begins_over old who what (Does stage) under_way = (refl, refl)

pub not_under_way : (activity : Activity) → is_under_way activity ≡ false → activity ≡ Rests
not_under_way Rests rests = refl
not_under_way (Begun command) rests = cc
not_under_way (Does stage) rests = cc

-- the first of some steps
pub take_one : (steps : List Step) (step : Step) → 0 < length steps → step ≡ get_or steps 0 step → take 1 steps ≡ step ∷ []
take_one [] step some is = absurd (omega arith)
take_one (first ∷ steps) step some is = ap (λ (s : Step). s ∷ []) (sym is)

-- what an actor with no seat is answered
pub idle_turn : (old : World) (who : Actor) → place_of who old.seats ≡ length old.seats → Turn old who (Ends (Word Idle)) old
idle_turn old who none = rw (activity_of-none who old.seats none) (refl, refl)

pub idle_finish : (old : World) (who : Actor) (word : Word_of) → place_of who old.seats ≡ length old.seats → (old.turns ≡ 0 → word ≡ TurnLimit) → (0 < old.turns → word ≡ Idle) → Finishes old who (answer_by who (Word word)) old
idle_finish old who word none limit idle = by_turns old.turns refl
  where
    by_turns : (n : ℕ) → old.turns ≡ n → Finishes old who (answer_by who (Word word)) old
    by_turns zero is = ([], old, refl, inr (record { spent = sym is; stays = refl; answers_are = ap (λ (x : Word_of). answer_by who (Word x)) (limit is) }))
    by_turns (suc n) is = (
      [],
      old,
      refl,
      inl (record {
        last = Ends (Word Idle);
        turn = idle_turn old who none;
        ends = refl;
        within = omega (arith, is);
        answers_are = ap (λ (x : Word_of). answer_by who (Word x)) (idle (omega (arith, is)));
      }),
    )

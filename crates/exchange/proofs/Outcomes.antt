-- Nothing is lost of the outcomes of some work if calls of the device come first.
use Rattle.std.proofs.Common.{◌≡◌, ℕ, suc, ◌==◌, Bool, true, false, List, [], ◌∷◌, ◌++◌, length, Option, Some, None, refl, sym, ap, ◌∙◌, subst, eqb-true, arith, Contains}
use Rattle.std.specs.Prelude.{slice_get, slice_index, if◌then◌else◌}
use Rattle.std.proofs.lemmas.Bool.{and_parts}
use Rattle.machine.specs.declared.command.Step.{Step}
use Rattle.machine.specs.declared.command.Step.TheVariants.{Advance}
use Rattle.machine.specs.declared.command.Reply.{Reply as Told_by}
use Rattle.machine.specs.State.{Opening, opening_of}
use Rattle.machine.specs.History.{at_first, Honest, Right}
use Rattle.machine.proofs.Values.{some_inj}
use Rattle.machine.proofs.TreeLemmas.{eq_cases}
use Rattle.driver.specs.declared.seat.Outcome.{Outcome}
use Rattle.driver.specs.Schedule.{World, number_of, activity_of, first_world, files_on, Turn, Runs, said_at}
use Rattle.driver.specs.Seats.{is_under_way, calls_device}
use Rattle.driver.proofs.SinkLemmas.{Runs-then}
use Rattle.orders.specs.Runs.{Run, Turn as Taken_turn}
use Rattle.explorer.specs.declared.choice.Choice.TheVariants.{Any, DeviceFirst}
use Rattle.explorer.specs.declared.parts.Parts.{Parts}
use Rattle.explorer.specs.declared.parts.Row.{Row}
use Rattle.explorer.specs.Work.{Point, is_ready, is_calling, caller_in, alone_or, ready_in, eligible_in, next_of, Works}
use Rattle.explorer.specs.Carried.{at}
use Rattle.explorer.specs.Outcome.{disk_of, no_call_fails, Reaches}
use Rattle.explorer.proofs.WorkLemmas.{all_go_on-run, turn-run}
use Rattle.explorer.proofs.ExploredLemmas.{reaches-run}
use Rattle.exchange.specs.Exchange.{IsFaultless}
use Rattle.exchange.specs.Outcomes.{AreApart, DeviceFirstLosesNothing}
use Rattle.exchange.proofs.Places.{others_stay, calls_under_way, call_shows, call_stays}
use Rattle.exchange.proofs.Calls.{call_goes_first}
use Rattle.exchange.proofs.First.{Walk, WalkBy, all_said, MayGoFirst, picked}
use Rattle.exchange.proofs.Quiet.{Kept, kept_run, kept_first, quiet}
use Rattle.exchange.proofs.Members.{alone_in, is_ready_at, has_ready, none_ready, found_passes}
use Rattle.exchange.proofs.TurnsOfRows.{advances, steps_by, world_by, begun_by, Taking, taking, takes_so, begun_others, Before, call_first}

-- ---- words

-- what comes of a turn: its steps, and what it answers
abbrev Shown : Type 0
Shown = List Step × List Told_by

abbrev Sound : World → Type 0
Sound w = (opening : Opening) × Kept opening w

-- the actor of the row at this place takes a turn
record Takes (rows : List Row) (w : Point) (place : ℕ) (o : Shown) (m : Point) : Type 0 where
  sound : Sound w.world
  row : Row
  there : slice_get rows place ≡ Some row
  under_way : is_ready w.world.seats row ≡ true
  taking : Taking row w place o.0 o.1 m

abbrev Calling : List Row → Point → ℕ → Type 0
Calling rows w place = (row : Row) × (slice_get rows place ≡ Some row) × (is_calling w.world.seats row ≡ true)

abbrev End : List Row → Point → Type 0
End rows v = (place : ℕ) (row : Row) → slice_get rows place ≡ Some row → is_ready v.world.seats row ≡ false

abbrev says : ℕ → Shown → List Told_by
says place o = o.1

no_next : (row : Row) (n : ℕ) (b : Bool) → b ≡ true → (if b then None else slice_get row.lines.items n) ≡ None
no_next row n true e = refl
no_next row n false e = cc

module _ (rows : List Row) (work : AreApart rows) where
  calls_there : (w : Point) (place : ℕ) (row : Row) → slice_get rows place ≡ Some row → Calling rows w place → calls_device (activity_of row.actor w.world.seats) ≡ true
  calls_there w place row there f = ap (is_calling w.world.seats) (some_inj (sym there ∙ f.1)) ∙ f.2

  differ : (a b : ℕ) (row other : Row) → slice_get rows a ≡ Some row → slice_get rows b ≡ Some other → (a ≡ b → ⊥) → number_of row.actor ≡ number_of other.actor → ⊥
  differ a b row other there there' ne e = ne (work.apart a b row other there there' e)

  -- another actor's turn leaves this one where it was
  seat_stays : (w m : Point) (a : ℕ) (o : Shown) (other : Row) → (s : Takes rows w a o m) → (number_of s.row.actor ≡ number_of other.actor → ⊥) → activity_of other.actor m.world.seats ≡ activity_of other.actor w.world.seats
  seat_stays w m a o other s ne =
      ap (λ (p : Point). activity_of other.actor p.world.seats) s.taking.new_is
      ∙ (begun_others s.taking.mid s.row.actor other.actor s.taking.next s.taking.begins ne ∙ others_stay w.world s.taking.mid s.row.actor other.actor s.taking.shows ne s.under_way s.taking.turn)

  -- a call, taken before another actor's turn
  module _ (w m v : Point) (a b : ℕ) (o p : Shown) (ne : a ≡ b → ⊥) (f : Calling rows w b) (s : Takes rows w a o m) (r : Takes rows m b p v) where
    apart : number_of s.row.actor ≡ number_of r.row.actor → ⊥
    apart = differ a b s.row r.row s.there r.there ne

    calls : calls_device (activity_of r.row.actor w.world.seats) ≡ true
    calls = calls_there w b r.row r.there f

    calls_mid : calls_device (activity_of r.row.actor s.taking.mid.seats) ≡ true
    calls_mid = ap calls_device (others_stay w.world s.taking.mid s.row.actor r.row.actor s.taking.shows apart s.under_way s.taking.turn) ∙ calls

    calls_later : calls_device (activity_of r.row.actor m.world.seats) ≡ true
    calls_later = ap calls_device (seat_stays w m a o r.row s apart) ∙ calls

    called : Before s.taking.mid s.taking.next r.row.actor r.taking.shows r.taking.mid
    called =
        let T : Point → Type 0 = λ (q : Point). Turn q.world r.row.actor r.taking.shows r.taking.mid in
        call_first s.taking.mid r.taking.mid s.row.actor r.row.actor s.taking.next r.taking.shows s.taking.begins apart calls_mid (subst T s.taking.new_is r.taking.turn)

    both : (u : World) × Turn w.world r.row.actor r.taking.shows u × Turn u s.row.actor s.taking.shows called.mid
    both = call_goes_first w.world s.taking.mid called.mid s.row.actor r.row.actor s.taking.shows r.taking.shows (quiet s.sound.0 w.world s.sound.1) apart s.under_way calls s.taking.turn called.turn

    -- the call begins no line
    none_later : r.taking.next ≡ None
    none_later = sym r.taking.next_is ∙ no_next r.row (slice_index m.begun b) (is_ready r.taking.mid.seats r.row) (call_stays m.world r.taking.mid r.row.actor r.taking.shows calls_later r.taking.turn)

    none_now : next_of r.row (slice_index w.begun b) both.0.seats ≡ None
    none_now = no_next r.row (slice_index w.begun b) (is_ready both.0.seats r.row) (call_stays w.world both.0 r.row.actor r.taking.shows calls both.1)

    end_is : v ≡ at (world_by s.taking.next called.mid) (begun_by s.taking.next w.begun a)
    end_is =
        r.taking.new_is
        ∙ (ap (λ (n : Option Step). at (world_by n r.taking.mid) (begun_by n m.begun b)) none_later
        ∙ (ap (λ (x : World). at x m.begun) called.later ∙ ap (λ (q : Point). at (world_by s.taking.next called.mid) q.begun) s.taking.new_is))

    first : Takes rows w b p (at both.0 w.begun)
    first = record {
      sound = s.sound;
      row = r.row;
      there = r.there;
      under_way = calls_under_way (activity_of r.row.actor w.world.seats) calls;
      taking = record {
        mid = both.0;
        shows = r.taking.shows;
        next = None;
        turn = both.1;
        next_is = none_now;
        begins = tt;
        steps_are = r.taking.steps_are ∙ ap (λ (n : Option Step). Advance r.row.actor ∷ steps_by n) none_later;
        answers_are = r.taking.answers_are;
        new_is = refl;
      };
    }

    sound_between : Sound both.0
    sound_between = (s.sound.0, kept_run s.sound.0 w.world both.0 (Advance r.row.actor ∷ []) (said_at r.row.actor r.taking.shows) (advances w.world both.0 r.row.actor r.taking.shows both.1) s.sound.1)

    stays_between : activity_of s.row.actor both.0.seats ≡ activity_of s.row.actor w.world.seats
    stays_between = others_stay w.world both.0 r.row.actor s.row.actor r.taking.shows (λ e. apart (sym e)) (calls_under_way (activity_of r.row.actor w.world.seats) calls) both.1

    -- what the other begins is the same
    next_same : next_of s.row (slice_index w.begun a) called.mid.seats ≡ s.taking.next
    next_same =
        ap (λ (x : _). if is_under_way x then None else slice_get s.row.lines.items (slice_index w.begun a))
        (others_stay s.taking.mid called.mid r.row.actor s.row.actor r.taking.shows (λ e. apart (sym e)) (calls_under_way (activity_of r.row.actor s.taking.mid.seats) calls_mid) called.turn)
        ∙ s.taking.next_is

    second : Takes rows (at both.0 w.begun) a o v
    second = record {
      sound = sound_between;
      row = s.row;
      there = s.there;
      under_way = ap is_under_way stays_between ∙ s.under_way;
      taking = record {
        mid = called.mid;
        shows = s.taking.shows;
        next = s.taking.next;
        turn = both.2;
        next_is = next_same;
        begins = s.taking.begins;
        steps_are = s.taking.steps_are;
        answers_are = s.taking.answers_are;
        new_is = end_is;
      };
    }

  may : MayGoFirst (Takes rows) (Calling rows) (End rows) says
  may = record {
    same = λ a b. eq_cases a b;
    stays = λ w m a b o ne f s. (f.0, f.1, ap calls_device (seat_stays w m a o f.0 s (differ a b s.row f.0 s.there f.1 ne)) ∙ f.2);
    exchange = λ w m v a b o p ne f s r. (at (both w m v a b o p ne f s r).0 w.begun, first w m v a b o p ne f s r, second w m v a b o p ne f s r);
    silent = λ w m b p f s. s.taking.answers_are ∙ ap (λ (x : Outcome). said_at s.row.actor x) (call_shows w.world s.taking.mid s.row.actor s.taking.shows (calls_there w b s.row s.there f) s.taking.turn);
    over = λ v b end f. let e : true ≡ false = sym (calls_under_way (activity_of f.0.actor v.world.seats) f.2) ∙ end b f.0 f.1 in cc;
  }

  -- ---- there and back

  record There (w : Point) (run : Run) (answers : List Told_by) (v : Point) : Type 0 where
    ts : List (ℕ × Shown)
    walk : Walk (Takes rows) w ts v
    said : all_said says ts ≡ answers
    as_many : length ts ≡ length run

  there_by : (w v : Point) (run : Run) (steps : List Step) (answers : List Told_by) → Sound w.world → Works Any rows w run steps answers v → There w run answers v
  there_by w v [] steps answers sound h = record { ts = []; walk = sym h.2; said = sym h.1; as_many = refl }
  there_by w v (turn ∷ run) steps answers sound (here, rest, said, later, mid, ready, among, takes, works, e, f) =
      let C : List ℕ → Type 0 = λ (l : List ℕ). Contains l turn.who in
      let on : Sound mid.world = (sound.0, kept_run sound.0 w.world mid.world here said (turn-run rows w turn.who here said mid takes) sound.1) in
      let t : There mid run later v = there_by mid v run rest later on works in
      record {
        ts = (turn.who, (here, said)) ∷ t.ts;
        walk = (
          mid,
          record {
            sound = sound;
            row = takes.row;
            there = takes.is_there;
            under_way = is_ready_at rows w.world turn.who takes.row takes.is_there (subst C ready among);
            taking = taking rows work takes.row turn.who takes.is_there w mid here said takes;
          },
          t.walk,
        );
        said = ap (λ (l : List Told_by). said ++ l) t.said ∙ sym f;
        as_many = ap suc t.as_many;
      }

  abbrev pick : Point → Option ℕ
  pick w = caller_in rows w.world

  picks : (w : Point) (b : ℕ) → pick w ≡ Some b → Calling rows w b
  picks w b e = found_passes (is_calling w.world.seats) rows b e

  record Back (w : Point) (ts : List (ℕ × Shown)) (v : Point) : Type 0 where
    run : Run
    steps : List Step
    works : Works DeviceFirst rows w run steps (all_said says ts) v
    as_many : length run ≡ length ts

  eligible : (w : Point) (place : ℕ) (row : Row) → slice_get rows place ≡ Some row → is_ready w.world.seats row ≡ true → ((b : ℕ) → pick w ≡ Some b → place ≡ b) → Contains (eligible_in DeviceFirst rows w.world) place
  eligible w place row there under h = by (caller_in rows w.world) refl
    where
      by : (o : Option ℕ) → caller_in rows w.world ≡ o → Contains (alone_or o (ready_in rows w.world)) place
      by None e = has_ready rows w.world place row there under
      by (Some b) e = let C : ℕ → Type 0 = λ (n : ℕ). Contains (n ∷ []) place in subst C (h b e) (alone_in place)

  back_by : (w v : Point) (ts : List (ℕ × Shown)) → WalkBy (Takes rows) pick w ts v → Back w ts v
  back_by w v [] h = record { run = []; steps = []; works = (refl, refl, sym h); as_many = refl }
  back_by w v (t ∷ ts) h =
      let b : Back h.0 ts v = back_by h.0 v ts h.3 in
      let s : Takes rows w t.0 t.1 h.0 = h.1 in
      let turn : Taken_turn = record { ready = eligible_in DeviceFirst rows w.world; who = t.0 } in
      record {
        run = turn ∷ b.run;
        steps = t.1.0 ++ b.steps;
        works = (
          t.1.0,
          b.steps,
          t.1.1,
          all_said says ts,
          h.0,
          refl,
          eligible w t.0 s.row s.there s.under_way h.2,
          takes_so rows work s.row t.0 s.there w h.0 t.1.0 t.1.1 s.taking,
          b.works,
          refl,
          refl,
        );
        as_many = ap suc b.as_many;
      }

  record Same (w : Point) (run : Run) (answers : List Told_by) (v : Point) : Type 0 where
    pub run' : Run
    pub steps : List Step
    pub works : Works DeviceFirst rows w run' steps answers v
    pub as_many : length run' ≡ length run

  device_first : (w v : Point) (run : Run) (steps : List Step) (answers : List Told_by) → Sound w.world → Works Any rows w run steps answers v → ready_in rows v.world ≡ [] → Same w run answers v
  device_first w v run steps answers sound works over =
      let t : There w run answers v = there_by w v run steps answers sound works in
      let f : (found : List (ℕ × Shown)) × WalkBy (Takes rows) pick w found v × (all_said says found ≡ all_said says t.ts) × (length found ≡ length t.ts) =
      picked (Takes rows) (Calling rows) (End rows) says may pick picks (length t.ts) t.ts w v refl t.walk (λ place row there. none_ready rows v.world place row over there) in
      let b : Back w f.0 v = back_by w v f.0 f.1 in
      let W : List Told_by → Type 0 = λ (l : List Told_by). Works DeviceFirst rows w b.run b.steps l v in
      record { run' = b.run; steps = b.steps; works = subst W (f.2 ∙ t.said) b.works; as_many = b.as_many ∙ (f.3 ∙ t.as_many) }

-- ---- the outcomes

no_length : (xs : List ℕ) → (length xs == 0) ≡ true → xs ≡ []
no_length [] e = refl
no_length (x ∷ xs) e = absurd (let none : suc (length xs) ≡ 0 = eqb-true (suc (length xs)) 0 e in omega (arith, none))

faultless : (parts : Parts) → no_call_fails parts ≡ true → IsFaultless (disk_of parts)
faultless parts e =
    let both : ((length parts.read_faults.items == 0) ≡ true) × ((length parts.write_faults.items == 0) ≡ true) = and_parts _ _ e in
    record {
      plan = record { reads = 0; writes = 0; read_faults = parts.read_faults.items; write_faults = parts.write_faults.items };
      planned = refl;
      reads = no_length parts.read_faults.items both.0;
      writes = no_length parts.write_faults.items both.1;
    }

pub device_first_loses_nothing : DeviceFirstLosesNothing
device_first_loses_nothing = λ parts none work run busy outcome h.
    let r : Reaches Any parts run h.steps h.answers h.said h.point = h.reaches in
    let w : World = first_world parts.config (disk_of parts) in
    let begins : Runs (first_world parts.config (disk_of parts)) (parts.setup.items ++ r.first_steps) (r.setup_answers ++ r.first_answers) r.first.world =
    Runs-then (first_world parts.config (disk_of parts)) parts.setup.items r.setup_answers r.set_up r.first_steps r.first_answers r.first.world r.sets_up (all_go_on-run parts.rows.items _ _ r.first_steps r.first_answers r.first r.begins) in
    let sound : Sound r.first.world =
    (opening_of parts.config, kept_run (opening_of parts.config) (first_world parts.config (disk_of parts)) r.first.world (parts.setup.items ++ r.first_steps) (r.setup_answers ++ r.first_answers) begins (kept_first parts.config (disk_of parts) (faultless parts none))) in
    let s : Same parts.rows.items work r.first run r.work_answers h.point = device_first parts.rows.items work r.first h.point run r.work_steps r.work_answers sound r.works h.over in
    let steps : List Step = parts.setup.items ++ r.first_steps ++ s.steps in
    let reaches : Reaches DeviceFirst parts s.run' (parts.setup.items ++ r.first_steps ++ s.steps) h.answers h.said h.point =
    record {
      set_up = r.set_up;
      first = r.first;
      setup_answers = r.setup_answers;
      first_steps = r.first_steps;
      first_answers = r.first_answers;
      work_steps = s.steps;
      work_answers = r.work_answers;
      fitting = r.fitting;
      sets_up = r.sets_up;
      begins = r.begins;
      works = s.works;
      steps_are = refl;
      answers_are = r.answers_are;
      said_is = r.said_is;
    } in
    let H : World → Type 0 = λ (x : World). Honest (at_first (files_on parts.config (disk_of parts))) x.past.history in
    let R : World → Type 0 = λ (x : World). Right (at_first (files_on parts.config (disk_of parts))) x.past.history in (
      s.run',
      s.as_many,
      record {
        steps = parts.setup.items ++ r.first_steps ++ s.steps;
        answers = h.answers;
        said = h.said;
        point = h.point;
        looked = h.looked;
        end = h.end;
        reaches = reaches;
        over = h.over;
        looks = h.looks;
        schedules = record {
          end = h.end;
          runs = Runs-then (first_world parts.config (disk_of parts)) (parts.setup.items ++ r.first_steps ++ s.steps) h.answers h.point.world parts.looks.items h.looked h.end
              (reaches-run DeviceFirst parts s.run' (parts.setup.items ++ r.first_steps ++ s.steps) h.answers h.said h.point reaches) h.looks;
          device = refl;
          honest = subst H h.ends h.schedules.honest;
          right = subst R h.ends h.schedules.right;
        };
        ends = refl;
        busy_is = h.busy_is;
        outcome_is = h.outcome_is;
      },
    )

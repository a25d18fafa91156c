-- The orders that were counted.
use Rattle.std.proofs.Common.{◌≡◌, ℕ, ◌+◌, List, [], ◌∷◌, ◌++◌, Bool, true, false, Option, Some, None, length, map, fold, refl, sym, ap, ◌∙◌, subst, append_assoc, append-nil, length-append, Contains, replicate, ◌<◌, ◌^◌}
use Rattle.std.specs.Prelude.{min, max, filter, not, ◌&&◌, Result, Ok, Err, IfOk, OnOk, if◌then◌else◌}
use Rattle.std.specs.List.{list_any}
use Rattle.std.proofs.lemmas.List.Elements.{filter-append}
use Rattle.std.proofs.lemmas.List.{map-append}
use Rattle.machine.specs.declared.config.Config.{Config}
use Rattle.machine.specs.declared.entry.Entry.{Entry}
use Rattle.block_store.specs.Device.{Disk}
use Rattle.driver.specs.Traced.{Closes}
use Rattle.machine.specs.declared.command.Step.{Step}
use Rattle.machine.specs.declared.command.Reply.{Reply as Told_by}
use Rattle.driver.specs.Schedule.{World, first_world, fits, Runs}
use Rattle.driver.proofs.SinkLemmas.{Runs-then}
use Rattle.orders.specs.Runs.{Run, Turn, path_of_run}
use Rattle.walks.specs.Walks.{IsCut, IsWalked, Draws, IsSampled}
use Rattle.walks.specs.declared.Walk.{Walk}
use Rattle.walks.specs.declared.Walk.TheVariants.{All, Stopped, TooDeep, Sample}
use Rattle.explorer.specs.declared.parts.Parts.{Parts}
use Rattle.explorer.specs.declared.parts.Row.{Row}
use Rattle.explorer.specs.declared.choice.Choice.{Choice}
use Rattle.explorer.specs.Lines.{tells_busy, outcome_text}
use Rattle.explorer.specs.Work.{Point, AllGoOn, eligible_in}
use Rattle.explorer.specs.Outcome.{disk_of, at_go, Reaches, IsOutcome}
use Rattle.explorer.specs.Tally.{Counted, Findings, with_order, IsAdded, add_order, tally}
use Rattle.explorer.specs.Carried.{at, Carries, GoesAll, Turns}
use Rattle.explorer.specs.declared.explorer.Exploration.{Exploration}
use Rattle.explorer.specs.Explorers.{Came, EndsAt, LooksAt, Starts, Gathers, IsAt, IsHandedOn, eligible_now}
use Rattle.explorer.specs.Turns.{Keeps}
use Rattle.explorer.specs.Explored.{Order, AreOutcomes, counted, is_left_out, is_kept, Counts, Finds, IsTooLong, Explored, Drawn, Sampled}
use Rattle.explorer.proofs.TurnsLemmas.{spans-kept, keeps-more, path-length}
use Rattle.explorer.proofs.WorkLemmas.{all_go_on-run, works-run, works-more, eligible-none}

-- ---- counting

are-more : (choice : Choice) (parts : Parts) (orders : List Order) (order : Order) → AreOutcomes choice parts orders → IsOutcome choice parts order.run order.busy order.outcome → AreOutcomes choice parts (orders ++ order ∷ [])
are-more choice parts [] order h is = (is, tt)
are-more choice parts (first ∷ orders) order h is = (h.0, are-more choice parts orders order h.1 is)

fold-more : {A B : Type 0} (f : B → A → B) (b : B) (xs : List A) (x : A) → fold f b (xs ++ x ∷ []) ≡ f (fold f b xs) x
fold-more f b [] x = refl
fold-more f b (y ∷ xs) x = fold-more f (f b y) xs x

-- what an order gives: nothing if it is left out
abbrev pub given_by : Bool → List ℕ → Option (List ℕ)
given_by left outcome = if left then None else Some outcome

-- one of the orders that pass a test, with another order
one_more : (p : Order → Bool) (orders : List Order) (order : Order) (b : Bool) → p order ≡ b → filter p (orders ++ order ∷ []) ≡ filter p orders ++ (if b then order ∷ [] else [])
one_more p orders order b e =
    let C : Bool → List Order = λ (x : Bool). if x then order ∷ [] else [] in
    filter-append p orders (order ∷ []) ∙ ap (λ (x : Bool). filter p orders ++ C x) e

pub counts-none : (choice : Choice) (parts : Parts) (waits : Bool) (rows : List Counted) (left : ℕ) → rows ≡ [] → left ≡ 0 → Counts choice parts waits [] rows left
counts-none choice parts waits rows left e e' = record { orders = []; runs_are = refl; outcomes = tt; rows_are = e; left_out_is = e' }

pub counts-more : (choice : Choice) (parts : Parts) (waits : Bool) (runs : List Run) (rows rows' : List Counted) (left left' : ℕ) (run : Run) (busy : Bool) (outcome : List ℕ) → Counts choice parts waits runs rows left → IsOutcome choice parts run busy outcome
    → IsAdded (given_by (waits && busy) outcome) (path_of_run run) rows left rows' left' → Counts choice parts waits (runs ++ run ∷ []) rows' left'
counts-more choice parts waits runs rows rows' left left' run busy outcome h is = by (waits && busy) refl
  where
    order : Order
    order = record { run = run; busy = busy; outcome = outcome }

    tallied : List Order → List Counted
    tallied orders = tally (map counted orders)

    all : map (λ (o : Order). o.run) (h.orders ++ order ∷ []) ≡ runs ++ run ∷ []
    all = map-append (λ (o : Order). o.run) h.orders (order ∷ []) ∙ ap (λ (l : List Run). l ++ run ∷ []) h.runs_are

    by : (b : Bool) → (waits && busy) ≡ b → IsAdded (given_by b outcome) (path_of_run run) rows left rows' left' → Counts choice parts waits (runs ++ run ∷ []) rows' left'
    by true e a = record {
      orders = h.orders ++ order ∷ [];
      runs_are = all;
      outcomes = are-more choice parts h.orders order h.outcomes is;
      rows_are = a.0 ∙ (h.rows_are ∙ ap tallied (sym (one_more (is_kept waits) h.orders order false (ap (λ (x : Bool). not x) e) ∙ append-nil (filter (is_kept waits) h.orders))));
      left_out_is = a.1 ∙ (ap (λ (n : ℕ). n + 1) h.left_out_is ∙ sym (ap (λ (l : List Order). length l) (one_more (is_left_out waits) h.orders order true e) ∙ length-append (filter (is_left_out waits) h.orders) (order ∷ [])));
    }
    by false e a =
        let kept : List Order = filter (is_kept waits) h.orders in
        record {
          orders = h.orders ++ order ∷ [];
          runs_are = all;
          outcomes = are-more choice parts h.orders order h.outcomes is;
          rows_are = a.0 ∙ (ap (λ (l : List Counted). with_order l outcome (path_of_run run)) h.rows_are
              ∙ (sym (fold-more add_order [] (map counted kept) (counted order)) ∙ (ap tally (sym (map-append counted kept (order ∷ [])))
              ∙ ap tallied (sym (one_more (is_kept waits) h.orders order true (ap (λ (x : Bool). not x) e))))));
          left_out_is = a.1 ∙ (h.left_out_is ∙ ap (λ (l : List Order). length l) (sym (one_more (is_left_out waits) h.orders order false e ∙ append-nil (filter (is_left_out waits) h.orders))));
        }

-- ---- an order, turn by turn

path-more : (run : Run) (turn : Turn) → path_of_run (run ++ turn ∷ []) ≡ path_of_run run ++ turn.who ∷ []
path-more [] turn = refl
path-more (first ∷ run) turn = ap (λ (l : List ℕ). first.who ∷ l) (path-more run turn)

pub came-start : (choice : Choice) (parts : Parts) (world : World) (begun : List ℕ) (said : List Told_by) (path : List ℕ) (first : World) → fits parts.config (disk_of parts) ≡ true → first ≡ first_world parts.config (disk_of parts) → Starts parts first begun said world → path ≡ [] → Came choice parts [] world begun said path
came-start choice parts world begun said path first fitting opened h e =
    let P : World → Type 0 = λ (w : World). Runs w parts.setup.items h.setup_answers h.set_up in
    record {
      steps = parts.setup.items ++ h.first_steps ++ [];
      answers = h.setup_answers ++ said;
      reaches = record {
        set_up = h.set_up;
        first = at world begun;
        setup_answers = h.setup_answers;
        first_steps = h.first_steps;
        first_answers = said;
        work_steps = [];
        work_answers = [];
        fitting = fitting;
        sets_up = subst P opened h.sets_up;
        begins = h.begins;
        works = (refl, refl, refl);
        steps_are = refl;
        answers_are = refl;
        said_is = sym (append-nil said);
      };
      path_is = e;
    }

-- another turn
pub came-more : (choice : Choice) (parts : Parts) (run : Run) (mid world : World) (begun begun' : List ℕ) (said said' : List Told_by) (path path' : List ℕ) (turn : Turn)
    → Came choice parts run mid begun said path → turn.ready ≡ eligible_in choice parts.rows.items mid → Contains turn.ready turn.who → Turns parts.rows.items turn.who mid begun said world begun' said' → path' ≡ path ++ turn.who ∷ []
    → Came choice parts (run ++ turn ∷ []) world begun' said' path'
came-more choice parts run mid world begun begun' said said' path path' turn h ready among t e =
    let r : Reaches choice parts run h.steps h.answers said (at mid begun) = h.reaches in
    record {
      steps = parts.setup.items ++ r.first_steps ++ (r.work_steps ++ t.steps);
      answers = r.setup_answers ++ said';
      reaches = record {
        set_up = r.set_up;
        first = r.first;
        setup_answers = r.setup_answers;
        first_steps = r.first_steps;
        first_answers = r.first_answers;
        work_steps = r.work_steps ++ t.steps;
        work_answers = r.work_answers ++ t.answers;
        fitting = r.fitting;
        sets_up = r.sets_up;
        begins = r.begins;
        works = works-more choice parts.rows.items r.first run r.work_steps r.work_answers (at mid begun) turn t.steps t.answers (at world begun') r.works ready among t.takes;
        steps_are = refl;
        answers_are = refl;
        said_is = t.adds ∙ (ap (λ (l : List Told_by). l ++ t.answers) r.said_is ∙ append_assoc r.first_answers r.work_answers t.answers);
      };
      path_is = e ∙ (ap (λ (l : List ℕ). l ++ turn.who ∷ []) h.path_is ∙ sym (path-more run turn));
    }

pub reaches-run : (choice : Choice) (parts : Parts) (run : Run) (steps : List Step) (answers said : List Told_by) (point : Point) → Reaches choice parts run steps answers said point → Runs (first_world parts.config (disk_of parts)) steps answers point.world
reaches-run choice parts run steps answers said point r =
    let first : World = first_world parts.config (disk_of parts) in
    let P : List Step → Type 0 = λ (s : List Step). Runs first s answers point.world in
    let Q : List Told_by → Type 0 = λ (l : List Told_by). Runs first ((parts.setup.items ++ r.first_steps) ++ r.work_steps) l point.world in
    let begins : Runs first (parts.setup.items ++ r.first_steps) (r.setup_answers ++ r.first_answers) r.first.world =
    Runs-then first parts.setup.items r.setup_answers r.set_up r.first_steps r.first_answers r.first.world r.sets_up (all_go_on-run parts.rows.items _ _ r.first_steps r.first_answers r.first r.begins) in
    let e : answers ≡ (r.setup_answers ++ r.first_answers) ++ r.work_answers = r.answers_are ∙ (ap (λ (l : List Told_by). r.setup_answers ++ l) r.said_is ∙ sym (append_assoc r.setup_answers r.first_answers r.work_answers)) in
    subst P (sym r.steps_are) (subst Q (sym e)
    (Runs-then first _ _ r.first.world r.work_steps r.work_answers point.world begins (works-run choice parts.rows.items r.first run r.work_steps r.work_answers point r.works)))

pub outcome-counted : (choice : Choice) (parts : Parts) (run : Run) (world : World) (begun : List ℕ) (said looked : List Told_by) (path outcome : List ℕ) → Came choice parts run world begun said path → [] ≡ eligible_in choice parts.rows.items world → LooksAt world parts.looks.items [] looked → outcome ≡ outcome_text parts.rows.items said looked → IsOutcome choice parts run (list_any tells_busy said) outcome
outcome-counted choice parts run world begun said looked path outcome h over l e = record {
  steps = h.steps;
  answers = h.answers;
  said = said;
  point = at world begun;
  looked = looked;
  end = l.end;
  reaches = h.reaches;
  over = sym (eligible-none choice parts.rows.items world over);
  looks = subst R (sym l.adds) l.runs;
  schedules = (ended l).schedules;
  ends = (ended l).ends;
  busy_is = refl;
  outcome_is = e;
}
  where
    R : List Told_by → Type 0
    R r = Runs world parts.looks.items r l.end

    ended : LooksAt world parts.looks.items [] looked → EndsAt parts.config (disk_of parts) (h.steps ++ parts.looks.items) (h.answers ++ looked) l.end
    ended x =
        let P : List Told_by → Type 0 = λ (r : List Told_by). EndsAt parts.config (disk_of parts) (h.steps ++ parts.looks.items) (h.answers ++ r) l.end in
        subst P (sym l.adds) (l.closes parts.config (disk_of parts) h.steps h.answers h.reaches.fitting (reaches-run choice parts run h.steps h.answers said (at world begun) h.reaches))

-- ---- the walk

pub gathers-none : (choice : Choice) (parts : Parts) (waits : Bool) (rows : List Counted) (left shortest longest : ℕ) → rows ≡ [] → left ≡ 0 → Keeps [] shortest longest → Gathers choice parts waits [] rows left shortest longest
gathers-none choice parts waits rows left shortest longest e e' k = record { counts = counts-none choice parts waits rows left e e'; keeps = k }

-- what was found, by what the machine has kept
pub record IsKeptOf (choice : Choice) (parts : Parts) (waits : Bool) (found : Findings) (choice' : Choice) (parts' : Parts) (waits' : Bool) (rows : List Counted) (left shortest longest : ℕ) : Type 0 where
  pub choice_is : choice' ≡ choice
  pub parts_are : parts' ≡ parts
  pub waits_is : waits' ≡ waits
  pub rows_are : found.rows ≡ rows
  pub left_is : found.left_out ≡ left
  pub shortest_is : found.shortest ≡ shortest
  pub longest_is : found.longest ≡ longest

pub finds : (choice : Choice) (parts : Parts) (waits : Bool) (found : Findings) (choice' : Choice) (parts' : Parts) (waits' : Bool) (runs : List Run) (rows : List Counted) (left shortest longest : ℕ)
    → IsKeptOf choice parts waits found choice' parts' waits' rows left shortest longest → Gathers choice' parts' waits' runs rows left shortest longest → Finds choice parts waits runs found
finds choice parts waits found choice' parts' waits' runs rows left shortest longest k g =
    let C : Choice → Type 0 = λ (x : Choice). Gathers x parts waits runs found.rows found.left_out found.shortest found.longest in
    let P : Parts → Type 0 = λ (p : Parts). Gathers choice' p waits runs found.rows found.left_out found.shortest found.longest in
    let W : Bool → Type 0 = λ (b : Bool). Gathers choice' parts' b runs found.rows found.left_out found.shortest found.longest in
    let R : List Counted → Type 0 = λ (r : List Counted). Gathers choice' parts' waits' runs r found.left_out found.shortest found.longest in
    let O : ℕ → Type 0 = λ (n : ℕ). Gathers choice' parts' waits' runs rows n found.shortest found.longest in
    let S : ℕ → Type 0 = λ (n : ℕ). Gathers choice' parts' waits' runs rows left n found.longest in
    let L : ℕ → Type 0 = λ (n : ℕ). Gathers choice' parts' waits' runs rows left shortest n in
    let same : Gathers choice parts waits runs found.rows found.left_out found.shortest found.longest =
    subst C k.choice_is (subst P k.parts_are (subst W k.waits_is (subst R (sym k.rows_are) (subst O (sym k.left_is) (subst S (sym k.shortest_is) (subst L (sym k.longest_is) g)))))) in
    record { counts = same.counts; spans = spans-kept runs found.shortest found.longest same.keeps }

-- an order that was cut is too long
too_long-at : (now : Option World) (choice : Choice) (parts : Parts) (run : Run) (begun : List ℕ) (said : List Told_by) (path ready : List ℕ) (depth : ℕ)
    → IsAt now choice parts run begun said path → ready ≡ eligible_now now choice parts.rows.items → length run ≡ depth → (ready ≡ [] → ⊥) → IsTooLong choice parts depth
too_long-at None choice parts run begun said path ready depth h are count some = absurd h
too_long-at (Some world) choice parts run begun said path ready depth h are count some =
    record { run = run; steps = h.steps; answers = h.answers; said = said; point = at world begun; reaches = h.reaches; turns = count; more = λ none. some (are ∙ none) }

pub too_long : (now : Option World) (choice choice' : Choice) (parts parts' : Parts) (run : Run) (begun : List ℕ) (said : List Told_by) (path ready : List ℕ) (depth : ℕ)
    → choice' ≡ choice → parts' ≡ parts → IsAt now choice' parts' run begun said path → ready ≡ eligible_now now choice' parts'.rows.items → length run ≡ depth → (ready ≡ [] → ⊥) → IsTooLong choice parts depth
too_long now choice choice' parts parts' run begun said path ready depth ce pe h are count some =
    let C : Choice → Type 0 = λ (x : Choice). IsTooLong x parts depth in
    let P : Parts → Type 0 = λ (p : Parts). IsTooLong choice' p depth in
    subst C ce (subst P pe (too_long-at now choice' parts' run begun said path ready depth h are count some))

-- what a walk of this machine has found
pub record IsFoundBy {M : Type 0} (choice : Choice) (parts : Parts) (waits : Bool) (depth : ℕ) (found : Findings) (came : M → Run → Type 0) (may : M → List ℕ → Type 0) (gathered : M → List Run → Type 0) (machine : M) : Type 0 where
  pub gathers : (runs : List Run) → gathered machine runs → Finds choice parts waits runs found
  pub cuts : IsCut came may machine depth → IsTooLong choice parts depth

pub explored : {M : Type 0} (choice : Choice) (parts : Parts) (waits : Bool) (found : Findings) (depth most : ℕ) (walk : Walk) (came : M → Run → Type 0) (may : M → List ℕ → Type 0) (gathered : M → List Run → Type 0) (machine : M) → IsFoundBy choice parts waits depth found came may gathered machine → IsWalked came may gathered machine depth most walk → Explored choice parts waits depth most walk found
explored choice parts waits found depth most (All count) came may gathered machine f w = record { runs = w.runs; all = w.all; count_is = w.count_is; finds = f.gathers w.runs w.gathers }
explored choice parts waits found depth most Stopped came may gathered machine f w = record { runs = w.runs; runs_are = w.runs_are; count_is = w.count_is; finds = f.gathers w.runs w.gathers; more = w.more }
explored choice parts waits found depth most TooDeep came may gathered machine f w = record { runs = w.runs; runs_are = w.runs_are; fewer = w.fewer; finds = f.gathers w.runs w.gathers; too_long = f.cuts w.cut }
explored choice parts waits found depth most (Sample count) came may gathered machine f w = absurd w

drawn : {M : Type 0} (choice : Choice) (parts : Parts) (waits : Bool) (found : Findings) (depth count : ℕ) (gathered : M → List Run → Type 0) (machine : M) → ((runs : List Run) → gathered machine runs → Finds choice parts waits runs found) → Draws gathered machine depth count → Drawn choice parts waits depth count found
drawn choice parts waits found depth count gathered machine g w = record { runs = w.runs; count_is = w.count_is; short = w.short; finds = g w.runs w.gathers }

pub sampled : {M : Type 0} (choice : Choice) (parts : Parts) (waits : Bool) (found : Findings) (depth most : ℕ) (walk : Walk) (came : M → Run → Type 0) (may : M → List ℕ → Type 0) (gathered : M → List Run → Type 0) (machine : M) → IsFoundBy choice parts waits depth found came may gathered machine → IsSampled came may gathered machine depth most walk → Sampled choice parts waits depth most walk found
sampled choice parts waits found depth most (Sample count) came may gathered machine f w = (w.0, drawn choice parts waits found depth most gathered machine f.gathers w.1)
sampled choice parts waits found depth most TooDeep came may gathered machine f w = record { count = w.count; fewer = w.fewer; drawn = drawn choice parts waits found depth w.count gathered machine f.gathers w.draws; too_long = f.cuts w.cut }
sampled choice parts waits found depth most (All count) came may gathered machine f w = absurd w
sampled choice parts waits found depth most Stopped came may gathered machine f w = absurd w

-- what is handed on was found by the walk
pub found-of : {E : Type 0} (result : Result Exploration E) (walked : Result Walk E) (rows : List Counted) (left shortest longest : ℕ) (P : Walk → Type 0) (Q : Exploration → Type 0)
    → IfOk walked P → IfOk result (IsHandedOn walked rows left shortest longest) → ((found : Exploration) → P found.walk → IsHandedOn walked rows left shortest longest found → Q found) → IfOk result Q
found-of (Err error) walked rows left shortest longest P Q p h k = tt
found-of (Ok found) walked rows left shortest longest P Q p h k =
    let W : Result Walk _ → Type 0 = λ (w : Result Walk _). IfOk w P in
    k found (subst W h.walk_is p) h

pub holds-of : {E : Type 0} (walked : Result Walk E) (walk : Walk) (P : Type 0) → walked ≡ Ok walk → OnOk walked P → P
holds-of (Ok other) walk P e h = h
holds-of (Err error) walk P e h = absurd cc

-- ---- the calls

pub starts-of : (parts : Parts) (old mid new : World) (begun begun' : List ℕ) (before during cleared after : List Told_by) → Carries old parts.setup.items before during mid → begun ≡ replicate (length parts.rows.items) 0 → cleared ≡ []
    → GoesAll parts.rows.items (length parts.rows.items) mid begun cleared new begun' after → Starts parts old begun' after new
starts-of parts old mid new begun begun' before during cleared after h e f g =
    let P : List ℕ → Type 0 = λ (b : List ℕ). AllGoOn parts.rows.items (at mid b) (length parts.rows.items) g.steps g.answers (at new begun') in
    let Q : List Told_by → Type 0 = λ (l : List Told_by). AllGoOn parts.rows.items (at_go parts.rows.items mid) (length parts.rows.items) g.steps l (at new begun') in
    let said : after ≡ g.answers = g.adds ∙ ap (λ (l : List Told_by). l ++ g.answers) f in
    record { set_up = mid; setup_answers = h.answers; first_steps = g.steps; sets_up = h.runs; begins = subst Q (sym said) (subst P e g.all) }

pub looks-of : (world end : World) (looks : List Step) (before after : List Told_by) (entries : List Entry) → Carries world looks before after end
    → ((config : Config) (disk : Disk) (steps : List Step) (answers : List Told_by) → fits config disk ≡ true → Runs (first_world config disk) steps answers end → Closes config disk steps answers end entries) → LooksAt world looks before after
looks-of world end looks before after entries h closes = record {
  answers = h.answers;
  end = end;
  adds = h.adds;
  runs = h.runs;
  closes = λ config disk steps earlier fitting runs.
      let c : Closes config disk (steps ++ looks) (earlier ++ h.answers) end entries = closes config disk (steps ++ looks) (earlier ++ h.answers) fitting (Runs-then (first_world config disk) steps earlier world looks h.answers end runs h.runs) in
      record { schedules = c.schedules; ends = c.ends };
}

-- the order is over, and it is counted or left out
pub end-gathers : (choice : Choice) (parts : Parts) (waits : Bool) (runs : List Run) (run : Run) (table table' : List Counted) (left left' shortest longest shortest' longest' turns : ℕ) (world : World) (begun : List ℕ) (said said' before looked looked' : List Told_by) (path path' : List ℕ) (result : Option (List ℕ)) (looks : List Step) (rows : List Row)
    → Gathers choice parts waits runs table left shortest longest → Came choice parts run world begun said path → [] ≡ eligible_in choice parts.rows.items world → looks ≡ parts.looks.items → before ≡ [] → LooksAt world looks before looked → rows ≡ parts.rows.items → said' ≡ said → looked' ≡ looked
    → result ≡ given_by (waits && list_any tells_busy said') (outcome_text rows said' looked') → path' ≡ path → IsAdded result path' table left table' left' → turns ≡ length path → turns < 2 ^ 64 → shortest' ≡ min shortest turns → longest' ≡ max longest turns → Gathers choice parts waits (runs ++ run ∷ []) table' left' shortest' longest'
end-gathers choice parts waits runs run table table' left left' shortest longest shortest' longest' turns world begun said said' before looked looked' path path' result looks rows gathers came over e1 e2 l e3 e4 e5 is e6 adds e7 lt e8 e9 =
    let P : List Step → Type 0 = λ (s : List Step). LooksAt world s before looked in
    let Q : List Told_by → Type 0 = λ (r : List Told_by). LooksAt world parts.looks.items r looked in
    let A : Option (List ℕ) → Type 0 = λ (r : Option (List ℕ)). IsAdded r (path_of_run run) table left table' left' in
    let B : List ℕ → Type 0 = λ (p : List ℕ). IsAdded result p table left table' left' in
    let outcome : List ℕ = outcome_text parts.rows.items said looked in
    let text : result ≡ given_by (waits && list_any tells_busy said) outcome =
    is ∙ (ap (λ (r : List Row). given_by (waits && list_any tells_busy said') (outcome_text r said' looked')) e3 ∙ (ap (λ (s : List Told_by). given_by (waits && list_any tells_busy s) (outcome_text parts.rows.items s looked')) e4
    ∙ ap (λ (s : List Told_by). given_by (waits && list_any tells_busy said) (outcome_text parts.rows.items said s)) e5)) in
    record {
      counts = counts-more choice parts waits runs table table' left left' run (list_any tells_busy said) outcome gathers.counts
          (outcome-counted choice parts run world begun said looked path outcome came over (subst Q e2 (subst P e1 l)) refl)
          (subst A text (subst B (e6 ∙ came.path_is) adds));
      keeps = keeps-more runs run shortest longest shortest' longest' turns gathers.keeps (e7 ∙ (ap (λ (p : List ℕ). length p) came.path_is ∙ path-length run)) lt e8 e9;
    }

-- The work, turn by turn.
use Rattle.std.proofs.Common.{◌≡◌, ℕ, zero, suc, ◌+◌, ◌<◌, ◌≤◌, List, [], ◌∷◌, ◌++◌, length, get_or, Bool, true, false, Option, Some, None, refl, sym, ap, ◌∙◌, subst, arith, append_assoc, append-nil, Contains, take, zero-add, cond, ltb}
use Rattle.std.proofs.lemmas.List.{length-take-le}
use Rattle.std.specs.Prelude.{if◌then◌else◌, position}
use Rattle.std.specs.List.{position_or_len}
use Rattle.std.proofs.lemmas.Bool.{ltb-true}
use Rattle.machine.proofs.Values.{some_inj}
use Rattle.std.specs.List.Sorted.{IsStrictlyIncreasing}
use Rattle.machine.specs.declared.command.Step.{Step}
use Rattle.machine.specs.declared.command.Step.TheVariants.{Advance}
use Rattle.machine.specs.declared.command.Reply.{Reply as Told_by}
use Rattle.driver.specs.declared.seat.Seat.{Seat}
use Rattle.driver.specs.Schedule.{World, Runs}
use Rattle.driver.proofs.SinkLemmas.{Runs-then}
use Rattle.orders.specs.Runs.{Run, Turn}
use Rattle.explorer.specs.declared.parts.Row.{Row}
use Rattle.explorer.specs.declared.choice.Choice.{Choice}
use Rattle.explorer.specs.declared.choice.Choice.TheVariants.{Any, DeviceFirst}
use Rattle.explorer.specs.Work.{Point, is_ready, ready_from, ready_in, is_calling, caller_in, alone_or, eligible_in, BeginsAt, GoesOn, AllGoOn, TakesTurn, Works}

-- ---- the steps are a run

begins-run : (step : Option Step) (old : Point) (place : ℕ) (steps : List Step) (answers : List Told_by) (new : Point) → BeginsAt step old place steps answers new → Runs old.world steps answers new.world
begins-run None old place steps answers new h =
    let P : List Step → Type 0 = λ (s : List Step). Runs old.world s answers new.world in
    subst P (sym h.0) (h.1, ap (λ (p : Point). p.world) h.2)
begins-run (Some step) old place steps answers new h = h.1

pub goes_on-run : (rows : List Row) (old : Point) (place : ℕ) (steps : List Step) (answers : List Told_by) (new : Point) → GoesOn rows old place steps answers new → Runs old.world steps answers new.world
goes_on-run rows old place steps answers new h = begins-run _ old place steps answers new h.begins

joined : (old : World) (a b steps : List Step) (x y answers : List Told_by) (mid new : World) → Runs old a x mid → Runs mid b y new → steps ≡ a ++ b → answers ≡ x ++ y → Runs old steps answers new
joined old a b steps x y answers mid new h g e f =
    let P : List Step → Type 0 = λ (s : List Step). Runs old s answers new in
    let Q : List Told_by → Type 0 = λ (r : List Told_by). Runs old (a ++ b) r new in
    subst P (sym e) (subst Q (sym f) (Runs-then old a x mid b y new h g))

pub all_go_on-run : (rows : List Row) (old : Point) (count : ℕ) (steps : List Step) (answers : List Told_by) (new : Point) → AllGoOn rows old count steps answers new → Runs old.world steps answers new.world
all_go_on-run rows old zero steps answers new h =
    let P : List Step → Type 0 = λ (s : List Step). Runs old.world s answers new.world in
    subst P (sym h.0) (h.1, ap (λ (p : Point). p.world) h.2)
all_go_on-run rows old (suc count) steps answers new (earlier, last, said, later, mid, first, goes, e, f) =
    joined old.world earlier last steps said later answers mid.world new.world (all_go_on-run rows old count earlier said mid first) (goes_on-run rows mid count last later new goes) e f

pub turn-run : (rows : List Row) (old : Point) (place : ℕ) (steps : List Step) (answers : List Told_by) (new : Point) → TakesTurn rows old place steps answers new → Runs old.world steps answers new.world
turn-run rows old place steps answers new h =
    joined old.world (Advance h.row.actor ∷ []) h.begins steps h.said h.later answers h.mid new.world h.advances (goes_on-run rows (record old { world = h.mid }) place h.begins h.later new h.goes_on) h.steps_are h.answers_are

pub works-run : (choice : Choice) (rows : List Row) (old : Point) (run : Run) (steps : List Step) (answers : List Told_by) (new : Point) → Works choice rows old run steps answers new → Runs old.world steps answers new.world
works-run choice rows old [] steps answers new h =
    let P : List Step → Type 0 = λ (s : List Step). Runs old.world s answers new.world in
    subst P (sym h.0) (h.1, ap (λ (p : Point). p.world) h.2)
works-run choice rows old (turn ∷ run) steps answers new (here, rest, said, later, mid, ready, among, takes, works, e, f) =
    joined old.world here rest steps said later answers mid.world new.world (turn-run rows old turn.who here said mid takes) (works-run choice rows mid run rest later new works) e f

-- ---- one turn more

pub works-more : (choice : Choice) (rows : List Row) (old : Point) (run : Run) (steps : List Step) (answers : List Told_by) (mid : Point) (turn : Turn) (here : List Step) (said : List Told_by) (new : Point)
    → Works choice rows old run steps answers mid → turn.ready ≡ eligible_in choice rows mid.world → Contains turn.ready turn.who → TakesTurn rows mid turn.who here said new
    → Works choice rows old (run ++ turn ∷ []) (steps ++ here) (answers ++ said) new
works-more choice rows old [] steps answers mid turn here said new h ready among takes =
    let P : Point → Type 0 = λ (p : Point). Works choice rows p (turn ∷ []) (steps ++ here) (answers ++ said) new in
    subst P h.2 (here, [], said, [], new, ready, among, takes, (refl, refl, refl), ap (λ (s : List Step). s ++ here) h.0 ∙ sym (append-nil here), ap (λ (r : List Told_by). r ++ said) h.1 ∙ sym (append-nil said))
works-more choice rows old (first ∷ run) steps answers mid turn here said new (a, rest, x, later, p, r, m, t, works, e, f) ready among takes =
    (a, rest ++ here, x, later ++ said, p, r, m, t, works-more choice rows p run rest later mid turn here said new works ready among takes, ap (λ (s : List Step). s ++ here) e ∙ append_assoc a rest here, ap (λ (l : List Told_by). l ++ said) f ∙ append_assoc x later said)

-- ---- who is ready

-- each place is at least the first, and below the number behind the last
ready-within-if : (place : ℕ) (seats : List Seat) (rows : List Row) (b : Bool) (k d : ℕ) → ((k : ℕ) → k < length (ready_from (place + 1) seats rows) → (place + 1 ≤ get_or (ready_from (place + 1) seats rows) k d) × (get_or (ready_from (place + 1) seats rows) k d < place + 1 + length rows)) → k < length (if b then place ∷ ready_from (place + 1) seats rows else ready_from (place + 1) seats rows)
    → (place ≤ get_or (if b then place ∷ ready_from (place + 1) seats rows else ready_from (place + 1) seats rows) k d) × (get_or (if b then place ∷ ready_from (place + 1) seats rows else ready_from (place + 1) seats rows) k d < place + suc (length rows))
ready-within-if place seats rows true zero d below lt = (omega arith, omega arith)
ready-within-if place seats rows true (suc k) d below lt = let h = below k (omega arith) in (let a = h.0 in omega arith, let b = h.1 in omega arith)
ready-within-if place seats rows false k d below lt = let h = below k lt in (let a = h.0 in omega arith, let b = h.1 in omega arith)

ready-within : (place : ℕ) (seats : List Seat) (rows : List Row) (k d : ℕ) → k < length (ready_from place seats rows) → (place ≤ get_or (ready_from place seats rows) k d) × (get_or (ready_from place seats rows) k d < place + length rows)
ready-within place seats [] k d lt = absurd (omega arith)
ready-within place seats (row ∷ rows) k d lt = ready-within-if place seats rows (is_ready seats row) k d (λ j l. ready-within (place + 1) seats rows j d l) lt

rising-cons : (c : ℕ) (cs : List ℕ) → IsStrictlyIncreasing cs → ((k : ℕ) → k < length cs → c < get_or cs k 0) → IsStrictlyIncreasing (c ∷ cs)
rising-cons c cs rises below zero lt =
    let h : c < get_or cs 0 0 = below zero (omega arith) in
    let P : ℕ → Type 0 = λ (n : ℕ). c < get_or (c ∷ cs) n 0 in
    let e : suc zero ≡ zero + 1 = omega arith in
    subst P e h
rising-cons c cs rises below (suc k) lt =
    let h : get_or cs k 0 < get_or cs (k + 1) 0 = rises k (omega arith) in
    let P : ℕ → Type 0 = λ (n : ℕ). get_or cs k 0 < get_or (c ∷ cs) n 0 in
    let e : suc (k + 1) ≡ suc k + 1 = omega arith in
    subst P e h

rising-if : (place : ℕ) (rest : List ℕ) (b : Bool) → IsStrictlyIncreasing rest → ((k : ℕ) → k < length rest → place < get_or rest k 0) → IsStrictlyIncreasing (if b then place ∷ rest else rest)
rising-if place rest true rises below = rising-cons place rest rises below
rising-if place rest false rises below = rises

pub ready-rising : (place : ℕ) (seats : List Seat) (rows : List Row) → IsStrictlyIncreasing (ready_from place seats rows)
ready-rising place seats [] = λ k lt. absurd (omega arith)
ready-rising place seats (row ∷ rows) =
    rising-if place (ready_from (place + 1) seats rows) (is_ready seats row) (ready-rising (place + 1) seats rows)
    (λ k lt. let h = (ready-within (place + 1) seats rows k 0 lt).0 in omega arith)

more-if : (b c : Bool) (place : ℕ) (rest last : List ℕ) → (if b then place ∷ (rest ++ last) else rest ++ last) ≡ (if b then place ∷ rest else rest) ++ last
more-if true c place rest last = refl
more-if false c place rest last = refl

-- the places of the ready rows with another row behind them
pub ready-more : (place : ℕ) (seats : List Seat) (rows : List Row) (row : Row) → ready_from place seats (rows ++ row ∷ []) ≡ ready_from place seats rows ++ (if is_ready seats row then (place + length rows) ∷ [] else [])
ready-more place seats [] row =
    let e : place ≡ place + 0 = omega arith in
    ap (λ (n : ℕ). if is_ready seats row then n ∷ [] else []) e
ready-more place seats (first ∷ rows) row =
    let e : place + 1 + length rows ≡ place + suc (length rows) = omega arith in
    let last : ℕ → List ℕ = λ (n : ℕ). if is_ready seats row then n ∷ [] else [] in
    ap (λ (l : List ℕ). if is_ready seats first then place ∷ l else l) (ready-more (place + 1) seats rows row ∙ ap (λ (n : ℕ). ready_from (place + 1) seats rows ++ last n) e)
    ∙ more-if (is_ready seats first) true place (ready_from (place + 1) seats rows) (last (place + suc (length rows)))

-- one of the ready places is a row's
pub ready-row : (world : World) (rows : List Row) (who : ℕ) → Contains (ready_in rows world) who → who < length rows
ready-row world rows who (k, lt, e) =
    let h = (ready-within 0 world.seats rows k who lt).1 in
    let P : ℕ → Type 0 = λ (n : ℕ). n < 0 + length rows in
    let le : who < 0 + length rows = subst P e h in omega arith

pub ready-step : (world : World) (rows : List Row) (k : ℕ) (row : Row) (before after : List ℕ) → k < length rows → take (k + 1) rows ≡ take k rows ++ row ∷ [] → before ≡ ready_in (take k rows) world
    → after ≡ before ++ (if is_ready world.seats row then k ∷ [] else []) → after ≡ ready_in (take (k + 1) rows) world
ready-step world rows k row before after lt one e f =
    let last : ℕ → List ℕ = λ (n : ℕ). if is_ready world.seats row then n ∷ [] else [] in
    let many : length (take k rows) ≡ k = length-take-le k rows (omega arith) in
    let all : 0 + length (take k rows) ≡ k = zero-add (length (take k rows)) ∙ many in
    f ∙ (ap (λ (l : List ℕ). l ++ last k) e
    ∙ (sym (ready-more 0 world.seats (take k rows) row ∙ ap (λ (n : ℕ). ready_in (take k rows) world ++ last n) all)
    ∙ ap (λ (l : List Row). ready_in l world) (sym one)))

-- ---- who can take the next turn

found_by : (place len k : ℕ) (t : Bool) → ltb place len ≡ t → cond t (Some place) None ≡ Some k → k < len
found_by place len k true e h =
    let P : ℕ → Type 0 = λ (n : ℕ). n < len in
    subst P (some_inj h) (ltb-true _ _ e)
found_by place len k false e h = cc

pub found-within : {X : Type 0} (test : X → Bool) (xs : List X) (k : ℕ) → position test xs ≡ Some k → k < length xs
found-within test xs k e = found_by (position_or_len test xs) (length xs) k (ltb (position_or_len test xs) (length xs)) refl e

alone-is : (place who : ℕ) → Contains (place ∷ []) who → who ≡ place
alone-is place who (zero, lt, e) = sym e
alone-is place who (suc k, lt, e) = absurd (omega arith)

-- one that can take it is a row's
pub eligible-row : (choice : Choice) (world : World) (rows : List Row) (who : ℕ) → Contains (eligible_in choice rows world) who → who < length rows
eligible-row Any world rows who h = ready-row world rows who h
eligible-row DeviceFirst world rows who h = at (caller_in rows world) refl h
  where
    at : (o : Option ℕ) → caller_in rows world ≡ o → Contains (alone_or o (ready_in rows world)) who → who < length rows
    at None e k = ready-row world rows who k
    at (Some place) e k =
        let P : ℕ → Type 0 = λ (n : ℕ). n < length rows in
        subst P (sym (alone-is place who k)) (found-within (is_calling world.seats) rows place e)

-- with nobody who can take it, nobody is ready
pub eligible-none : (choice : Choice) (rows : List Row) (world : World) → [] ≡ eligible_in choice rows world → [] ≡ ready_in rows world
eligible-none Any rows world h = h
eligible-none DeviceFirst rows world h = at (caller_in rows world) h
  where
    at : (o : Option ℕ) → [] ≡ alone_or o (ready_in rows world) → [] ≡ ready_in rows world
    at None k = k
    at (Some place) k = cc

pub alone-rising : (places : List ℕ) (place : ℕ) → places ≡ place ∷ [] → IsStrictlyIncreasing places
alone-rising places place e =
    let P : List ℕ → Type 0 = λ (l : List ℕ). IsStrictlyIncreasing l in
    subst P (sym e) (λ k lt. absurd (omega arith))

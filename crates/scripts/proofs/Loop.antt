-- Reading lines one after the other, as a loop does.
use Rattle.std.proofs.Common.{◌≡◌, ℕ, ◌+◌, ◌-◌, ◌<◌, ◌≤◌, Bool, true, false, ◌||◌, List, [], ◌∷◌, ◌++◌, length, take, drop, get_or, replicate, append_assoc, length-append, Option, Some, None, refl, sym, ap, ◌∙◌, subst, arith, inl, inr}
use Rattle.std.specs.List.{list_any, filter_map, flat_map}
use Rattle.std.specs.Str.Lines.{lines}
use Rattle.std.proofs.lemmas.Bool.{cases_lt}
use Rattle.std.proofs.lemmas.List.{append-nil, drop_more, take_more, length-drop, nil_from_length}
use Rattle.std.proofs.lemmas.List.Elements.{filter_map-append}
use Rattle.std.proofs.lemmas.List.Concat.{flat_map-append}
use Rattle.std.proofs.lemmas.List.Sums.{fold_push}
use Rattle.std.proofs.lemmas.List.Folds.{list_any-append}
use Rattle.std.proofs.lemmas.Grind.{common_steps}
use Rattle.machine.specs.declared.command.Actor.{Actor}
use Rattle.machine.specs.declared.command.Command.{Command}
use Rattle.machine.specs.declared.command.Step.{Step}
use Rattle.machine.specs.declared.config.File.{File}
use Rattle.scripts.specs.declared.forms.DeviceCall.TheVariants as call
use Rattle.scripts.specs.declared.fault.Cause.{Cause}
use Rattle.scripts.specs.declared.meaning.Item.{Item}
use Rattle.scripts.specs.declared.meaning.Item.TheVariants as item
use Rattle.scripts.specs.declared.mode.Mode.{Mode}
use Rattle.scripts.specs.declared.mode.Mode.TheVariants as mode
use Rattle.scripts.specs.Words.{words_of}
use Rattle.scripts.specs.Faults.{fault}
use Rattle.scripts.specs.Meaning.{meaning}
use Rattle.scripts.specs.Header.{config_after, default_config, config_of, header_frames}
use Rattle.scripts.specs.Script.{with_line, items_of, fails, faults_of, steps_of_item, steps_of, steps_in, lines_from, lines_in, is_command, header_word, around_of, fault_at, IsFaultless, IsFirstFault}
use Rattle.scripts.specs.Work.{is_go, does, setup_of, setup_in, worked, work_of, work_in, shown_rows}
use Rattle.machine.specs.State.{is_config}
use Rattle.scripts.proofs.LimitLemmas.{Fits, fits_start, fits_after, fits_end}
use Rattle.scripts.specs.declared.script.Script.{Script}
use Rattle.scripts.specs.Reading.{Known, IsSaid, known, at_start, after, option_list, in_schedule, in_setup, in_work}
use Rattle.scripts.proofs.WorkLemmas.{work_push}

-- the first n of the lines are read and faultless, and these are left
pub record SoFar (mode : Mode) (ls left : List (List ℕ)) (n : ℕ) (k : Known) : Type 0 where
  pub left_is : left ≡ drop n ls
  pub within : n ≤ length ls
  pub counted : length (items_of (take n ls)) ≡ n
  pub known_is : k ≡ known mode (header_frames ls) (items_of (take n ls))
  pub clean : (i : ℕ) → i < n → fault_at mode ls i ≡ None
  pub fits : Fits ls left k

-- what a function finds in one item, by what it finds there
found_one : {A : Type 0} (f : Item → Option A) (i : Item) (o : Option A) → f i ≡ o → filter_map f (i ∷ []) ≡ option_list (f i)
found_one f i None e = rw e refl
found_one f i (Some x) e = rw e refl

pub found_push : {A : Type 0} (f : Item → Option A) (is : List Item) (i : Item) → filter_map f (is ++ i ∷ []) ≡ filter_map f is ++ option_list (f i)
found_push {A} f is i = filter_map-append f is (i ∷ []) ∙ ap (λ (xs : List A). filter_map f is ++ xs) (found_one f i (f i) refl)

or_false : (b c : Bool) → (b || (c || false)) ≡ (b || c)
or_false true c = refl
or_false false true = refl
or_false false false = refl

any_push : (p : Item → Bool) (is : List Item) (i : Item) → list_any p (is ++ i ∷ []) ≡ (list_any p is || p i)
any_push p is i = list_any-append p is (i ∷ []) ∙ or_false (list_any p is) (p i)

pub commands_push : (is : List Item) (i : Item) → list_any is_command (is ++ i ∷ []) ≡ (list_any is_command is || is_command i)
commands_push is i = any_push is_command is i

-- ---- what is kept of a schedule

steps_of-push : (is : List Item) (i : Item) → steps_of (is ++ i ∷ []) ≡ steps_of is ++ steps_of_item i
steps_of-push is i = flat_map-append steps_of_item is (i ∷ []) ∙ ap (λ (ss : List Step). flat_map steps_of_item is ++ ss) (append-nil (steps_of_item i))

lines_from-push : (n : ℕ) (is : List Item) (i : Item) → lines_from n (is ++ i ∷ []) ≡ lines_from n is ++ replicate (length (steps_of_item i)) (n + length is)
lines_from-push n [] i = append-nil (replicate (length (steps_of_item i)) n) ∙ ap (λ (m : ℕ). replicate (length (steps_of_item i)) m) (omega arith)
lines_from-push n (first ∷ is) i =
    let here : List ℕ = replicate (length (steps_of_item first)) n in
    let later : n + 1 + length is ≡ n + length (first ∷ is) = omega arith in
    ap (λ (ns : List ℕ). here ++ ns) (lines_from-push (n + 1) is i ∙ ap (λ (m : ℕ). lines_from (n + 1) is ++ replicate (length (steps_of_item i)) m) later)
    ∙ sym (append_assoc here (lines_from (n + 1) is) (replicate (length (steps_of_item i)) (n + length (first ∷ is))))

steps_push : (m : Mode) (is : List Item) (i : Item) → steps_in m (is ++ i ∷ []) ≡ steps_in m is ++ in_schedule m (steps_of_item i)
steps_push mode.Schedule is i = steps_of-push is i
steps_push mode.Run is i = refl

lines_push : (m : Mode) (is : List Item) (i : Item) → lines_in m (is ++ i ∷ []) ≡ lines_in m is ++ in_schedule m (replicate (length (steps_of_item i)) (1 + length is))
lines_push mode.Schedule is i = lines_from-push 1 is i
lines_push mode.Run is i = refl

-- ---- what is kept of a run

-- up to the first `go` what is done is kept, and nothing behind it
abbrev until_go : Bool → Item → List (Actor × Command)
until_go true i = []
until_go false i = option_list (does i)

setup_of-push : (is : List Item) (i : Item) → setup_of (is ++ i ∷ []) ≡ setup_of is ++ until_go (list_any is_go is) i
setup_of-push [] item.EndsSetup = refl
setup_of-push [] _ = refl
setup_of-push (item.EndsSetup ∷ is) i = refl
setup_of-push (item.Does who what ∷ is) i = ap (λ (ps : List (Actor × Command)). (who, what) ∷ ps) (setup_of-push is i)
setup_of-push (_ ∷ is) i = setup_of-push is i

setup_push : (m : Mode) (is : List Item) (i : Item) → setup_in m (is ++ i ∷ []) ≡ setup_in m is ++ in_setup m (list_any is_go is) (option_list (does i))
setup_push mode.Schedule is i = refl
setup_push mode.Run is i = setup_of-push is i ∙ ap (λ (ps : List (Actor × Command)). setup_of is ++ ps) (same (list_any is_go is))
  where
    same : (b : Bool) → until_go b i ≡ in_setup mode.Run b (option_list (does i))
    same true = refl
    same false = refl

-- behind the first `go` what is done is kept, and nothing up to it
abbrev since_go : Bool → Item → List (Actor × Command)
since_go true i = option_list (does i)
since_go false i = []

worked-push : (is : List Item) (i : Item) → worked (is ++ i ∷ []) ≡ worked is ++ since_go (list_any is_go is) i
worked-push [] item.EndsSetup = refl
worked-push [] _ = refl
worked-push (item.EndsSetup ∷ is) i = found_push does is i
worked-push (_ ∷ is) i = worked-push is i

kept_push : (ps : List (Actor × Command)) (b : Bool) (i : Item) (o : Option (Actor × Command)) → does i ≡ o → work_of (ps ++ since_go b i) ≡ in_work mode.Run b (work_of ps) o
kept_push ps true i None e = rw e (ap work_of (append-nil ps))
kept_push ps true i (Some p) e = rw e (work_push ps p)
kept_push ps false i None e = ap work_of (append-nil ps)
kept_push ps false i (Some p) e = ap work_of (append-nil ps)

rows_push : (m : Mode) (is : List Item) (i : Item) → work_in m (is ++ i ∷ []) ≡ in_work m (list_any is_go is) (work_in m is) (does i)
rows_push mode.Schedule is i = refl
rows_push mode.Run is i = ap work_of (worked-push is i) ∙ kept_push (worked is) (list_any is_go is) i (does i) refl

-- ---- one line more

-- one more line
pub items_push : (ls : List (List ℕ)) (l : List ℕ) → items_of (ls ++ l ∷ []) ≡ items_of ls ++ meaning (config_of (items_of ls)).files (words_of l) ∷ []
items_push ls l = fold_push with_line [] ls l

-- one more line of known meaning
known_push : (mode : Mode) (frames : ℕ) (is : List Item) (i : Item) → known mode frames (is ++ i ∷ []) ≡ after (known mode frames is) (1 + length is) i
known_push mode frames is i =
    rw (lines_push mode is i, setup_push mode is i, rows_push mode is i, any_push is_go is i, commands_push is i, found_push header_word is i, fold_push config_after default_config is i, found_push (fails call.Read) is i, found_push (fails call.Write) is i, steps_push mode is i) refl

-- before the first line
pub starts : (mode : Mode) (ls : List (List ℕ)) → SoFar mode ls ls 0 (at_start mode (header_frames ls))
starts mode ls = record { left_is = refl; within = omega arith; counted = refl; known_is = refl; clean = λ i h. absurd (omega arith); fits = fits_start mode ls }

-- the line at a place, and those after it
record IsNext (ls : List (List ℕ)) (n : ℕ) (line : List ℕ) (more : List (List ℕ)) : Type 0 where
  there : n < length ls
  line_is : get_or ls n [] ≡ line
  more_is : drop (n + 1) ls ≡ more

-- the first of what is left is the line at this place
by_place : (ls : List (List ℕ)) (n : ℕ) (line : List ℕ) (more : List (List ℕ)) → drop n ls ≡ line ∷ more → IsNext ls n line more
by_place ls n line more h =
    elim (cases_lt n (length ls)) [
      | inl lt ↦ (let e : get_or ls n [] ∷ drop (n + 1) ls ≡ line ∷ more = sym (drop_more ls n [] lt) ∙ h in record { there = lt; line_is = cc; more_is = cc })
      | inr le ↦ absurd (omega (arith, length-drop n ls, ap length h))
    ]

-- the fault of the next line, by what is known
fault_is : (mode : Mode) (ls : List (List ℕ)) (n : ℕ) (k : Known) (line : List ℕ) → k ≡ known mode (header_frames ls) (items_of (take n ls)) → get_or ls n [] ≡ line
    → fault_at mode ls n ≡ fault k.mode k.around line
fault_is mode ls n k line e f = ap (λ (x : List ℕ). fault mode (around_of (header_frames ls) (items_of (take n ls))) x) f ∙ ap (λ (x : Known). fault x.mode x.around line) (sym e)

-- a faultless line is taken up
pub goes_on : (mode : Mode) (ls left : List (List ℕ)) (n : ℕ) (k k' : Known) (line : List ℕ) (more : List (List ℕ)) → SoFar mode ls left n k → left ≡ line ∷ more
    → fault k.mode k.around line ≡ None → k' ≡ after k (n + 1) (meaning k.around.config.files (words_of line)) → SoFar mode ls more (n + 1) k'
goes_on mode ls left n k k' line more so_far e fine added =
    let next = by_place ls n line more (sym so_far.left_is ∙ e) in
    let here : fault_at mode ls n ≡ None = fault_is mode ls n k line so_far.known_is next.line_is ∙ fine in
    let before = items_of (take n ls) in
    let files_is : k.around.config.files ≡ (config_of before).files = ap (λ (x : Known). x.around.config.files) so_far.known_is in
    let i = meaning k.around.config.files (words_of line) in
    let items : items_of (take (n + 1) ls) ≡ before ++ i ∷ [] =
    ap items_of (take_more ls n [] next.there) ∙ items_push (take n ls) (get_or ls n []) ∙ ap (λ (l : List ℕ). before ++ meaning (config_of before).files (words_of l) ∷ []) next.line_is
    ∙ ap (λ (fs : List File). before ++ meaning fs (words_of line) ∷ []) (sym files_is) in
    let place : n + 1 ≡ 1 + length before = omega (arith, so_far.counted) in
    record {
      left_is = sym next.more_is;
      within = omega (arith, next.there);
      counted = ap length items ∙ length-append before (i ∷ []) ∙ ap (λ (m : ℕ). m + 1) so_far.counted;
      known_is = added ∙ ap (λ (x : Known). after x (n + 1) i) so_far.known_is ∙ ap (λ (m : ℕ). after (known mode (header_frames ls) before) m i) place ∙ sym (known_push mode (header_frames ls) before i) ∙ ap (λ (is : List Item). known mode (header_frames ls) is) (sym items);
      clean = λ i h. elim (cases_lt i n) [ inl lt ↦ so_far.clean i lt | inr le ↦ (let same : i ≡ n = omega arith in subst (λ (j : ℕ). fault_at mode ls j ≡ None) (sym same) here) ];
      fits = rw added (fits_after ls left more k (n + 1) line e fine so_far.fits);
    }

-- a faulty line is the first one
pub faults : (mode : Mode) (ls left : List (List ℕ)) (n : ℕ) (k : Known) (line : List ℕ) (more : List (List ℕ)) (cause : Cause) → SoFar mode ls left n k → left ≡ line ∷ more
    → fault k.mode k.around line ≡ Some cause → IsFirstFault mode ls (n + 1) cause
faults mode ls left n k line more cause so_far e faulty =
    let next = by_place ls n line more (sym so_far.left_is ∙ e) in
    let here : fault_at mode ls n ≡ Some cause = fault_is mode ls n k line so_far.known_is next.line_is ∙ faulty in
    let same : (n + 1) - 1 ≡ n = omega arith in
    record {
      within = (omega arith, omega (arith, next.there));
      faulty = subst (λ (j : ℕ). fault_at mode ls j ≡ Some cause) (sym same) here;
      first = λ i h. so_far.clean i (omega arith);
    }

-- all lines are read
record IsRead (mode : Mode) (ls : List (List ℕ)) (k : Known) : Type 0 where
  faultless : IsFaultless mode ls
  known_is : k ≡ known mode (header_frames ls) (items_of ls)
  limits : is_config k.around.config ≡ true

-- where nothing is left, all is read
ends : (mode : Mode) (ls : List (List ℕ)) (rest : List ℕ) (n : ℕ) (k : Known) → SoFar mode ls (lines rest) n k → length rest ≡ 0 → IsRead mode ls k
ends mode ls rest n k so_far e =
    let empty : lines rest ≡ [] = ap lines (nil_from_length rest e) in
    let none : length (drop n ls) ≡ 0 = ap length (sym so_far.left_is) ∙ ap length empty in
    let all : n ≡ length ls = omega (arith, length-drop n ls, none, so_far.within) in
    let whole : take n ls ≡ ls = grind (arith, common_steps) in
    record {
      faultless = λ i h. so_far.clean i (omega (arith, all, h));
      known_is = so_far.known_is ∙ ap (λ (l : List (List ℕ)). known mode (header_frames ls) (items_of l)) whole;
      limits = fits_end ls k (subst (λ (left : List (List ℕ)). Fits ls left k) empty so_far.fits);
    }

-- a script that says all that is known then
pub record Says (mode : Mode) (ls : List (List ℕ)) (s : Script) : Type 0 where
  pub faultless : IsFaultless mode ls
  pub config : s.config ≡ config_of (items_of ls)
  pub limits : is_config s.config ≡ true
  pub read_faults : s.read_faults.items ≡ faults_of call.Read (items_of ls)
  pub write_faults : s.write_faults.items ≡ faults_of call.Write (items_of ls)
  pub steps : s.schedule.steps ≡ steps_in mode (items_of ls)
  pub lines : s.schedule.numbers ≡ lines_in mode (items_of ls)
  pub setup : s.setup.items ≡ setup_in mode (items_of ls)
  pub work : shown_rows s.work.items ≡ work_in mode (items_of ls)

pub says : (mode : Mode) (ls : List (List ℕ)) (rest : List ℕ) (n : ℕ) (k : Known) (s : Script) → SoFar mode ls (lines rest) n k → length rest ≡ 0 → IsSaid s k → Says mode ls s
says mode ls rest n k s so_far e said =
    let read = ends mode ls rest n k so_far e in
    record {
      faultless = read.faultless;
      config = said.config ∙ ap (λ (x : Known). x.around.config) read.known_is;
      limits = ap is_config said.config ∙ read.limits;
      read_faults = said.read_faults ∙ ap (λ (x : Known). x.read_faults) read.known_is;
      write_faults = said.write_faults ∙ ap (λ (x : Known). x.write_faults) read.known_is;
      steps = said.steps ∙ ap (λ (x : Known). x.steps) read.known_is;
      lines = said.lines ∙ ap (λ (x : Known). x.lines) read.known_is;
      setup = said.setup ∙ ap (λ (x : Known). x.setup) read.known_is;
      work = said.work ∙ ap (λ (x : Known). x.work) read.known_is;
    }

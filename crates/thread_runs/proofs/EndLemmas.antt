-- A run on threads, once its trace was judged.
use Rattle.std.proofs.Common.{◌≡◌, ◌⊎◌, inl, inr, ℕ, zero, suc, ◌<◌, true, false, List, [], ◌∷◌, map, ◌++◌, length, reverse, Option, refl, ap, subst, sym, ◌∙◌, arith}
use Rattle.std.specs.Prelude.{Result, Ok, Err, IsErr, IfOk, IfErr, is_ok, All, slice_index_or}
use Rattle.std.specs.Io.KnownBytes.{Appends, Keeps}
use Rattle.std.proofs.KnownBytes.{Appends-kept, Appends-trans}
use Rattle.machine.specs.declared.config.Config.{Config}
use Rattle.machine.specs.declared.config.Placement.{Placement}
use Rattle.machine.specs.declared.command.Actor.{Actor}
use Rattle.machine.specs.declared.command.Command.{Command}
use Rattle.machine.specs.declared.entry.Entry.{Entry}
use Rattle.machine.specs.State.{Opening, State, opening_of}
use Rattle.machine.specs.History.{Numbered}
use Rattle.machine.specs.FirstBytes.{first_of}
use Rattle.machine.specs.Audit.{Passes, IsFirstWrong}
use Rattle.trace.specs.declared.auditing.First.{First}
use Rattle.std.specs.Str.Lines.{lines}
use Rattle.scripts.specs.declared.mode.Mode.TheVariants.{Run}
use Rattle.scripts.specs.Header.{config_of}
use Rattle.scripts.specs.Script.{items_of, IsFaultless}
use Rattle.scripts.specs.Work.{setup_of, worked, work_of}
use Rattle.live.specs.Passes.{PassOf}
use Rattle.live.specs.declared.report.Unfinished.{Unfinished}
use Rattle.live.specs.declared.report.Unfinished.TheVariants.{PassMissing}
use Rattle.live.specs.Matching.{has_share}
use Rattle.live.specs.Reports.{IsLegal, HasOut, IsMissing}
use Rattle.live.specs.OneRun.{IsOneRun, WereGiven}
use Rattle.script_faults.specs.declared.fault.Fault.{Fault}
use Rattle.thread_runs.specs.declared.threads.Verdict.{Verdict}
use Rattle.printer.specs.Prints.{texts}
use Rattle.live.specs.declared.looks.EndLook.{EndLook}
use Rattle.live.specs.Looks.{end_look, EndsLooked}
use Rattle.live.proofs.ActLemmas.{leads-opening}
use Rattle.shown_groups.specs.declared.shown.Missing.{Missing}
use Rattle.shown_groups.specs.Shown.{paths_text}
use Rattle.shown_groups.specs.Looks.{looks_text}
use Rattle.shown_groups.proofs.LookLemmas.{looks-shown}
use Rattle.thread_runs.specs.Threads.{verdict_line, Agree, Concludes, PrintsShowing, PrintsScriptShowing}
use Rattle.thread_runs.specs.Rounds.{verdict_by, AreAtRest, AreHandedIn, Concluded, RanAll}

-- all was written, and the writer keeps it
pub prints_showing : (config : Config) (opening : Opening) (setup : List (Actor × Command)) (work : List (Actor × List Command)) (shown : State → List ℕ) (verdict : Verdict) (a b c : Option (List ℕ)) → opening_of config ≡ opening → RanAll opening setup work shown verdict a b → Keeps b c
    → PrintsShowing config setup work shown verdict a c
prints_showing config opening setup work shown verdict a b c same all kept =
    let here : RanAll (opening_of config) setup work shown verdict a b = subst (λ (o : Opening). RanAll o setup work shown verdict a b) (sym same) all in
    let did = here.ran in
    let end = here.concluded in
    record {
      run = record {
        set_up = did.set_up;
        board = did.board;
        sets_up = did.sets_up;
        answers = did.answers;
        last = did.last;
        works = did.works;
        daemon = did.daemon;
        balances = did.balances;
        passes = here.passes;
        actors = did.actors;
        exchanges = did.exchanges;
        all = did.all;
        entries = end.entries;
        legal = end.legal;
        numbered = end.numbered;
        one_run = end.one_run;
        each = end.each;
      };
      concludes = end.concludes;
      prints = Appends-kept a b c (texts did.set_up ++ texts did.answers ++ (shown end.one_run.past.state ++ verdict_line verdict))
          (Appends-trans a here.mid b (texts did.set_up ++ texts did.answers) (shown end.one_run.past.state ++ verdict_line verdict) did.prints end.prints) kept;
    }

-- the same paths are shown, under another name
pub shows_paths : (config : Config) (setup : List (Actor × Command)) (work : List (Actor × List Command)) (how : Missing) (paths others : List (List ℕ)) (ran : Result Verdict Fault) (a b : Option (List ℕ)) → paths ≡ others
    → IfOk ran (λ verdict. PrintsShowing config setup work (λ s. paths_text how s paths) verdict a b) → IfOk ran (λ verdict. PrintsShowing config setup work (λ s. paths_text how s others) verdict a b)
shows_paths config setup work how paths others ran a b same shows = subst (λ (ps : List (List ℕ)). IfOk ran (λ verdict. PrintsShowing config setup work (λ s. paths_text how s ps) verdict a b)) same shows

-- a script that was read on threads, and what a run of it shows
pub script_showing : (placement : Placement) (script : List ℕ) (shown : State → List ℕ) (config : Config) (setup : List (Actor × Command)) (work : List (Actor × List Command)) (ran : Result Verdict Fault) (a b : Option (List ℕ)) → IsFaultless Run (lines script)
    → config ≡ record (config_of (items_of (lines script))) { placement = placement } → setup ≡ setup_of (items_of (lines script)) → work ≡ work_of (worked (items_of (lines script)))
    → IfOk ran (λ verdict. PrintsShowing config setup work shown verdict a b) → IfOk ran (λ verdict. PrintsScriptShowing placement script shown verdict a b)
script_showing placement script shown config setup work (Err why) a b faultless is-config is-setup is-work shows = tt
script_showing placement script shown config setup work (Ok verdict) a b faultless is-config is-setup is-work shows =
    let is = items_of (lines script) in
    let configured : Config = record (config_of is) { placement = placement } in
    let with-config : PrintsShowing configured setup work shown verdict a b = subst (λ (c : Config). PrintsShowing c setup work shown verdict a b) is-config shows in
    let with-setup : PrintsShowing configured (setup_of is) work shown verdict a b = subst (λ (s : List (Actor × Command)). PrintsShowing configured s work shown verdict a b) is-setup with-config in
    record { faultless = faultless; run = subst (λ (rows : List (Actor × List Command)). PrintsShowing configured (setup_of is) rows shown verdict a b) is-work with-setup }

-- the status tells of a fault
pub failed_status : (ran : Result Verdict Fault) (status : ℕ) (P : Fault → Type 0) → IsErr ran → IfErr ran (λ why. (status ≡ 1) × P why) → status ≡ 1
failed_status (Ok verdict) status P failed told = absurd cc
failed_status (Err why) status P failed told = told.0

-- ---- the verdict

module _ (entries : List Entry) (passes : List PassOf) (audited : Result (Unit {0}) First) (agree : Agree entries passes) (right : is_ok audited ≡ true → Passes (first_of (reverse entries)) (reverse entries)) (wrong : IfErr audited (λ first. IsFirstWrong entries first.entry)) where
  judged : Concludes (verdict_by audited) entries passes
  judged = by audited right wrong
    where
      by : (a : Result (Unit {0}) First) → (is_ok a ≡ true → Passes (first_of (reverse entries)) (reverse entries)) → IfErr a (λ first. IsFirstWrong entries first.entry) → Concludes (verdict_by a) entries passes
      by (Ok done) right wrong = (agree, right refl)
      by (Err first) right wrong = (agree, wrong)

  -- a report, once what the looks print and what it says were written
  pub concluded : (size : ℕ) (opening : Opening) → size ≡ opening.page_size → (how : Missing) (paths : List (List ℕ)) (looks : List (Option EndLook)) (verdict : Verdict) (said : Result Verdict Fault) (a b c : Option (List ℕ)) → IsLegal opening (reverse entries) → Numbered (reverse entries)
      → EndsLooked opening entries passes paths looks → All (λ (pass : PassOf). WereGiven opening (reverse entries) pass.caller.worker pass.exchanges) passes → Appends a b (looks_text size how paths looks)
      → verdict ≡ verdict_by audited → IfOk said (λ was. (was ≡ verdict) × Appends b c (verdict_line verdict)) → IfOk said (λ was. Concluded opening passes (λ s. paths_text how s paths) was a c)
  concluded size opening paged how paths looks verdict (Err why) a b c legal numbered looked each shown is written = tt
  concluded size opening paged how paths looks verdict (Ok was) a b c legal numbered looked each shown is written =
      let s = looked.run.past.state in
      let sized : size ≡ s.opening.page_size = paged ∙ ap (λ (o : Opening). o.page_size) (sym (leads-opening opening looked.run.acts looked.run.past looked.run.leads)) in
      let same : looks_text size how paths looks ≡ paths_text how s paths =
      ap (looks_text size how paths) looked.looks_are ∙ ap (λ (n : ℕ). looks_text n how paths (map (end_look s) paths)) sized ∙ looks-shown how s paths in
      record {
        entries = entries;
        legal = legal;
        numbered = numbered;
        one_run = looked.run;
        each = each;
        concludes = subst (λ (v : Verdict). Concludes v entries passes) (sym (written.0 ∙ is)) judged;
        prints = Appends-trans a b c (paths_text how s paths) (verdict_line was) (subst (Appends a b) same shown) (subst (λ (v : Verdict). Appends b c (verdict_line v)) (sym written.0) written.1);
      }

-- ---- no pass is missing

at_rest-none : (passes : List PassOf) (k : ℕ) (other : PassOf) → AreAtRest passes → k < length passes → has_share (slice_index_or passes k other).kept ≡ true → ⊥
at_rest-none [] k other rest within has = absurd (omega arith)
at_rest-none (pass ∷ passes) zero other rest within has = let wrong : true ≡ false = sym has ∙ rest.0 in cc
at_rest-none (pass ∷ passes) (suc k) other rest within has = at_rest-none passes k other rest.1 (omega arith) has

pub none_missing : (given : ℕ) (passes : List PassOf) (cause : Unfinished) → AreHandedIn given passes → IsMissing passes cause → cause ≡ PassMissing given → ⊥
none_missing given passes cause all missing is = by (subst (IsMissing passes) is missing)
  where
    by : (length passes < given) ⊎ HasOut passes → ⊥
    by (inl few) = let many = all.many in omega (arith, few, many)
    by (inr out) = at_rest-none passes out.place out.other all.rest out.within out.has

-- What the failure of a problem says.
use Rattle.std.proofs.Common.{◌≡◌, ◌⊎◌, inl, inr, Bool, true, ℕ, List, Result, Ok, Err, sym, subst}
use Rattle.std.specs.Prelude.{MatchResult, IfOk, IfErr}
use Rattle.driver.specs.Schedule.{World}
use Rattle.scenarios.specs.declared.fault.Fault.{Fault as TextFault}
use Rattle.scenarios.specs.Holes.{NamedText}
use Rattle.scenarios.specs.Lines.{TextLine}
use Rattle.scenarios.specs.Scenario.{scenario_of}
use Rattle.scenario_faults.specs.declared.fault.Failure.{Failure}
use Rattle.scenario_faults.specs.declared.fault.Failure.TheVariants as failure
use Rattle.scenario_faults.specs.declared.fault.Problem.{Problem}
use Rattle.scenario_faults.specs.Failures.{failure_of}
use Rattle.scenario_faults.specs.Settings.{settings_of, has_unnamed}
use Rattle.scenario_words.specs.declared.fault.Fault.{Fault}
use Rattle.scenario_lines.specs.HeaderLines.{header_read}
use Rattle.scenario_lines.specs.Scene.{SceneNow, at_first}
use Rattle.expansion.specs.declared.expansion.Expansion.{Expansion}
use Rattle.expansion.specs.ToCome.{known, still}
use Rattle.expansion.specs.Walk.{Ran, ends, expanded}
use Rattle.scenario_reports.specs.Faulty.{AreFaulty, IsFaultyBy, IsFaulty, LacksNameBy, LacksName}
use Rattle.simulation.specs.Met.{Opens, MeetsItems, MeetsAllBy, MeetsLines, MeetsBy, IsAsExpected}

reported_by : {T : Type 0} (ran : Result T Problem) (result : Result T Failure) (P : Problem → Type 0) (Q : Failure → Type 0) → ((p : Problem) → P p → Q (failure_of p))
    → MatchResult ran (λ value. result ≡ Ok value) (λ problem. result ≡ Err (failure_of problem)) → IfErr ran P → IfErr result Q
reported_by {T} (Ok v) result P Q f same h = subst (λ (r : Result T Failure). IfErr r Q) (sym same) tt
reported_by {T} (Err p) result P Q f same h = subst (λ (r : Result T Failure). IfErr r Q) (sym same) (f p h)

pub reported_faulty : {T : Type 0} (ran : Result T Problem) (result : Result T Failure) (text : List ℕ) (ls : List TextLine) (settings : List (List ℕ)) → scenario_of text ≡ Ok ls
    → MatchResult ran (λ value. result ≡ Ok value) (λ problem. result ≡ Err (failure_of problem))
    → IfErr ran (λ problem. failure_of problem ≡ failure.Faulty → AreFaulty ls (settings_of settings)) → IfErr result (λ why. why ≡ failure.Faulty → IsFaulty text settings)
reported_faulty ran result text ls settings reads same h =
    reported_by ran result (λ problem. failure_of problem ≡ failure.Faulty → AreFaulty ls (settings_of settings)) (λ why. why ≡ failure.Faulty → IsFaulty text settings)
    (λ p faulty is. subst (λ (r : Result (List TextLine) TextFault). IsFaultyBy r (settings_of settings)) (sym reads) (faulty is)) same h

pub reported_misasked : {T : Type 0} (ran : Result T Problem) (result : Result T Failure) (text : List ℕ) (ls : List TextLine) (settings : List (List ℕ)) (Given : Type 0) → scenario_of text ≡ Ok ls
    → MatchResult ran (λ value. result ≡ Ok value) (λ problem. result ≡ Err (failure_of problem))
    → IfErr ran (λ problem. failure_of problem ≡ failure.Misasked → (has_unnamed ls settings ≡ true) ⊎ Given) → IfErr result (λ why. why ≡ failure.Misasked → LacksName text settings ⊎ Given)
reported_misasked ran result text ls settings Given reads same h =
    reported_by ran result (λ problem. failure_of problem ≡ failure.Misasked → (has_unnamed ls settings ≡ true) ⊎ Given) (λ why. why ≡ failure.Misasked → LacksName text settings ⊎ Given)
    (λ p misasked is. at (misasked is)) same h
  where
    at : (has_unnamed ls settings ≡ true) ⊎ Given → LacksName text settings ⊎ Given
    at (inl lacks) = inl (subst (λ (r : Result (List TextLine) TextFault). LacksNameBy r settings) (sym reads) lacks)
    at (inr given) = inr given

pub reported_met : (ran : Result Bool Problem) (result : Result Bool Failure) (text : List ℕ) (ls : List TextLine) (settings : List (List ℕ)) → scenario_of text ≡ Ok ls
    → MatchResult ran (λ value. result ≡ Ok value) (λ problem. result ≡ Err (failure_of problem))
    → IfOk ran (λ well. well ≡ true → MeetsLines ls (settings_of settings)) → IfOk result (λ well. well ≡ true → IsAsExpected text settings)
reported_met (Ok v) result text ls settings reads same h =
    subst (λ (r : Result Bool Failure). IfOk r (λ well. well ≡ true → IsAsExpected text settings)) (sym same)
    (λ well. subst (λ (r : Result (List TextLine) TextFault). MeetsBy r (settings_of settings)) (sym reads) (h well))
reported_met (Err p) result text ls settings reads same h = subst (λ (r : Result Bool Failure). IfOk r (λ well. well ≡ true → IsAsExpected text settings)) (sym same) tt

pub lines_met : (ran : Result Bool Problem) (ls : List TextLine) (named : List NamedText) (x : Expansion) (begin : World) (count : ℕ) → still x ≡ expanded ls named → header_read (at_first named) ls ≡ Ok (count, known x) → Opens (known x) begin
    → (ends (still x).ending ≡ true → IfOk ran (λ well. well ≡ true → (end : World) × MeetsItems (known x).machine.page begin (still x).outs end)) → IfOk ran (λ well. well ≡ true → MeetsLines ls named)
lines_met (Ok v) ls named x begin count is header opens met = λ well end_there.
    let end_here : ends (still x).ending ≡ true = subst (λ (r : Ran). ends r.ending ≡ true) (sym is) end_there in
    let ran = met end_here well in
    subst (λ (r : Result (ℕ × SceneNow) Fault). MeetsAllBy r (expanded ls named).outs) (sym header)
    (begin, ran.0, opens, subst (λ (r : Ran). MeetsItems (known x).machine.page begin r.outs ran.0) is ran.1)
lines_met (Err p) ls named x begin count is header opens met = tt

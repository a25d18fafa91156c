-- What is said of a note, and the machine of a scenario.
use Rattle.std.proofs.Common.{◌≡◌, ◌∙◌, ℕ, Bool, true, false, List, Option, Some, None, refl, sym, ap, subst}
use Rattle.std.specs.Prelude.{◌&&◌, codes, unwrap_or, if◌then◌else◌}
use Rattle.machine.specs.declared.config.Config.{Config}
use Rattle.machine.specs.State.{State, blocks_of}
use Rattle.block_store.specs.Device.{Disk, new_disk}
use Rattle.driver.specs.Schedule.{World, first_world}
use Rattle.scenario_words.specs.declared.header.DeviceCall.TheVariants as call
use Rattle.scenario_words.specs.declared.header.Header.{Header}
use Rattle.scenario_words.specs.Header.{Machine, machine_of}
use Rattle.scenario_words.specs.Words.{FilledWord, is_at}
use Rattle.scenario_lines.specs.Joined.{joined}
use Rattle.scenario_lines.specs.Scene.{SceneNow}
use Rattle.scenario_machines.specs.Machines.{IsConfigOf, failing_calls}
use Rattle.simulation.specs.Met.{is_charge, is_path_at, IsJudged, JudgesNote, Opens}

and_left : (a b : Bool) → (a && b) ≡ true → a ≡ true
and_left true b is = refl
and_left false b is = is

and_right : (a b : Bool) → (a && b) ≡ true → b ≡ true
and_right true b is = is
and_right false b is = cc

-- an `expect` is judged by these words
pub expect_judged : (page : ℕ) (s : SceneNow) (text : List ℕ) (state : State) (ws us : List FilledWord) (met : Bool) → joined ws 0 true ≡ text → us ≡ ws → is_at us 0 (codes "expect") ≡ true
    → (is_path_at us ≡ true → is_charge us ≡ true → IsJudged page s us state met) → JudgesNote page s text state (Some met)
expect_judged page s text state ws us met reads same at judged =
    let charges : is_at ws 0 (codes "expect") ≡ true = subst (λ (vs : List FilledWord). is_at vs 0 (codes "expect") ≡ true) same at in
    let judges : is_path_at ws ≡ true → is_charge ws ≡ true → IsJudged page s ws state met = subst (λ (vs : List FilledWord). is_path_at vs ≡ true → is_charge vs ≡ true → IsJudged page s vs state met) same judged in (
      ws,
      reads,
      sym charges,
      λ is.
          let both = and_right (is_at ws 0 (codes "expect")) (is_path_at ws && is_charge ws) is in
          (met, refl, judges (and_left (is_path_at ws) (is_charge ws) both) (and_right (is_path_at ws) (is_charge ws) both)),
    )

pub blocks_found : (is_config : Bool) (n blocks : ℕ) → Some blocks ≡ (if is_config then Some n else None) → blocks ≡ n
blocks_found true n blocks is = ap (λ (o : Option ℕ). unwrap_or o n) is
blocks_found false n blocks is = ap (λ (o : Option ℕ). unwrap_or o n) is

-- a machine is opened by a header
pub opened : (s : SceneNow) (h : Header) (names : List (List ℕ)) (config : Config) (device : Disk) (blocks : ℕ) (reads writes : List ℕ) (begin : World) → machine_of h ≡ s.machine → names ≡ s.names → IsConfigOf (machine_of h) names config
    → blocks ≡ blocks_of config → reads ≡ failing_calls call.Read (machine_of h).failing → writes ≡ failing_calls call.Write (machine_of h).failing → device ≡ new_disk blocks reads writes → begin ≡ first_world config device → Opens s begin
opened s h names config device blocks reads writes begin of_header of_names is counted read written made begins = (
  config,
  subst (λ (ns : List (List ℕ)). IsConfigOf s.machine ns config) of_names (subst (λ (m : Machine). IsConfigOf m names config) of_header is),
  begins
      ∙ ap (first_world config)
      (made
      ∙ ap (λ (n : ℕ). new_disk n reads writes) counted
      ∙ ap (λ (xs : List ℕ). new_disk (blocks_of config) xs writes) (read ∙ ap (λ (m : Machine). failing_calls call.Read m.failing) of_header)
      ∙ ap (λ (xs : List ℕ). new_disk (blocks_of config) (failing_calls call.Read s.machine.failing) xs) (written ∙ ap (λ (m : Machine). failing_calls call.Write m.failing) of_header)),
)

use Rattle.std.proofs.Common.{inl, refl, sym, ◌∙◌, ap, arith}
use Rattle.script_faults.specs.declared.fault.Fault.TheVariants as scripts_fault
use Rattle.call_buffers.specs.declared.said.Said.{Said}
use Rattle.embedded_exploration.proofs.ExploringLemmas.{told_as, never_bad, never_reasoned, in_part, never_in_part, reasoned}
use Rattle.embedded_exploration.proofs.exploration.explore_status.Goals as goal
use Rattle.embedded_exploration.proofs.exploration.explore_status.Goals.{in-Ok, in-Err}

pub returns-then-is_too_long-clause-told : goal.returns-then-is_too_long-clause-told
returns-then-is_too_long-clause-told c bad unsound =
    record { why = scripts_fault.TooLong; reason = inl (c.if-is_too_long.ensures.long refl, refl); has = bad; tells = c.tell_named.ensures.whole (λ lacks. absurd (omega (arith, bad, lacks))) }

pub returns-then-status-ne-DIFFERS-clause-told : goal.returns-then-status-ne-DIFFERS-clause-told
returns-then-status-ne-DIFFERS-clause-told c = elim c.match-explore_script.branch [
  | in-Ok w ↦ (λ bad unsound. absurd (never_bad _ w.tell_verdict-status.ensures.known (sym w.status-is ∙ bad)))
  | in-Err w ↦ (λ bad unsound. told_as _ _ _ _ _ _ _ _ (ap (λ (s : Said). s.bytes.items) w.said-is) w.status-is (c.if-is_too_long.ensures.short refl) w.in-Err.ensures.why w.tell_fault-status.ensures.told bad unsound)
]

pub returns-else-status-ne-OK-clause-partial : goal.returns-else-status-ne-OK-clause-partial
returns-else-status-ne-OK-clause-partial c = elim c.match-explore_script.branch [
  | in-Ok w ↦ in_part _ _ _ w.in-Ok.verdict _ _ _ _ c.exploration_of.ensures w.status-is w.tell_verdict-status.ensures.partial c.requires.empty w.in-Ok.ensures.explores
  | in-Err w ↦ (λ differs. absurd (never_in_part _ _ w.status-is w.tell_fault-status.ensures.known differs))
]

pub returns-then-is_too_long-clause-reason : goal.returns-then-is_too_long-clause-reason
returns-then-is_too_long-clause-reason c = λ bad. inl (c.if-is_too_long.ensures.long refl)

pub returns-then-status-ne-DIFFERS-clause-reason : goal.returns-then-status-ne-DIFFERS-clause-reason
returns-then-status-ne-DIFFERS-clause-reason c = elim c.match-explore_script.branch [
  | in-Ok w ↦ never_reasoned _ _ _ _ w.status-is w.tell_verdict-status.ensures.known
  | in-Err w ↦ reasoned _ _ _ _ _ _ c.exploration_of.ensures w.status-is w.tell_fault-status.ensures.status w.in-Err.ensures.why
]

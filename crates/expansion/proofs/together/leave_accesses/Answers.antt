use Rattle.std.proofs.Common.{◌≡◌, ◌-◌, refl, arith}
use Rattle.scenario_lines.specs.declared.burst.Deed.TheVariants as deed
use Rattle.expansion.proofs.StandingLemmas.{more_entries, all_entries}
use Rattle.expansion.proofs.together.leave_accesses.Goals as goal

pub loop-place-init : goal.loop-place-init
loop-place-init c = record {
  from = omega arith;
  to = omega arith;
  left = (let e : c.args.from - c.args.from ≡ 0 = omega arith in rw e refl);
}

pub loop-place-preserved : goal.loop-place-preserved
loop-place-preserved c = record {
  from = omega arith;
  to = omega arith;
  left = more_entries c.args.access c.args.from c.loop-place.place c.args.tasks.now c.loop-place.tasks c.leave_access.new.tasks c.loop-place.invariant.from c.loop-place.invariant.left c.in_ok-leave_access.ensures;
}

pub returns : goal.returns
returns c = all_entries (deed.Access c.args.access) c.args.from c.loop-place.place c.args.end c.args.tasks.now c.loop-place.tasks (omega arith) c.loop-place.invariant.left

use Rattle.std.proofs.Common.{◌∙◌}
use Rattle.expansion.specs.ToCome.{known}
use Rattle.simulation.proofs.NoteLemmas.{blocks_found, opened}
use Rattle.simulation.proofs.simulating.open.Goals as goal

pub returns-in-Ok : goal.returns-in-Ok
returns-in-Ok c = record {
  opens = opened (known c.args.expansion.now) c.header-header.result.now c.names.result.now c.in_ok-config.config c.in_ok-device.device c.in-Some.blocks c.deref.result.now c.deref-2.result.now c.in-Ok.stepper c.header-header.ensures c.names.ensures
      c.in_ok-config.ensures (blocks_found _ _ _ c.in-Some.ensures) (c.deref.ensures.value ∙ c.in_ok-read_faults.ensures) (c.deref-2.ensures.value ∙ c.in_ok-write_faults.ensures) c.in_ok-device.ensures c.in-Ok.ensures.opens;
}

use Rattle.std.proofs.Common.{◌≡◌, length, arith, rules}
use Rattle.std.specs.Str.Lines.{lines}
use Rattle.scripts.specs.Reading.{known_by}
use Rattle.scripts.proofs.Loop.{goes_on, faults, says}
use Rattle.scripts.proofs.script.read.Goals as goal

pub loop-rest-preserved : goal.loop-rest-preserved
loop-rest-preserved c = (
  goes_on c.args.mode (lines c.args.text.now) (lines c.loop-rest.rest.now) c.loop-rest.number (known_by c.loop-rest.reading) (known_by c.add_line.new.self)
      c.first_line.result.0.now (lines c.first_line.result.1.now) c.loop-rest.invariant.0 c.first_line.ensures.lines c.in-Ok-add_line.ensures.0 c.in-Ok-add_line.ensures.1,
  omega arith,
)

pub returns-in-Err-Fault-clause-fault : goal.returns-in-Err-Fault-clause-fault
returns-in-Err-Fault-clause-fault c =
    rw c.in-Err-Fault.field-0-is (faults c.args.mode (lines c.args.text.now) (lines c.loop-rest.rest.now) c.loop-rest.number (known_by c.loop-rest.reading)
    c.first_line.result.0.now (lines c.first_line.result.1.now) c.in-Err-Fault.cause c.loop-rest.invariant.0 c.first_line.ensures.lines (rw c.in-Err-Fault.field-0-is at c.in-Err-Fault.ensures))

pub returns-in-Ok-into_script : goal.returns-in-Ok-into_script
returns-in-Ok-into_script c =
    let empty : length c.loop-rest.rest.now ≡ 0 = search rules in
    let all = says c.args.mode (lines c.args.text.now) c.loop-rest.rest.now c.loop-rest.number (known_by c.loop-rest.reading) c.in-Ok-into_script.script c.loop-rest.invariant.0 empty
    c.in-Ok-into_script.ensures in
    record {
      faultless = all.faultless;
      config = all.config;
      limits = all.limits;
      read_faults = all.read_faults;
      write_faults = all.write_faults;
      steps = all.steps;
      lines = all.lines;
      setup = all.setup;
      work = all.work;
      fault = tt;
    }

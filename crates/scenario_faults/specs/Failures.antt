-- What a problem is for a caller.
use Rattle.std.specs.Prelude.{None}
use Rattle.scenario_words.specs.declared.fault.ExpandError.{ExpandError}
use Rattle.scenario_words.specs.declared.fault.ExpandError.TheVariants as error
use Rattle.scenario_faults.specs.declared.fault.Failure.{Failure}
use Rattle.scenario_faults.specs.declared.fault.Failure.TheVariants as failure
use Rattle.scenario_faults.specs.declared.fault.Problem.{Problem}
use Rattle.scenario_faults.specs.declared.fault.Problem.TheVariants as problem

-- its kind: a fault of the scenario is no other's, and what names nothing in the scenario is the caller's
abbrev pub failure_of : Problem → Failure
failure_of problem.Memory = failure.Memory
failure_of (problem.Faulty fault text) = failure.Faulty
failure_of (problem.Setting option name) = failure.Misasked
failure_of (problem.Group path) = failure.Misasked
failure_of (problem.Lengths more) = failure.Misasked
failure_of (problem.Unwritable error) = failure.Unwritable

-- the problem of an expansion, before something is said of its fault
abbrev pub problem_of : ExpandError → Problem
problem_of error.Memory = problem.Memory
problem_of (error.Faulty fault) = problem.Faulty fault None

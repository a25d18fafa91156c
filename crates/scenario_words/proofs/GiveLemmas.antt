-- Results of calls whose faults are handed on.
use Rattle.std.proofs.Common.{◌≡◌, Result, Ok, Err, ap}
use Rattle.scenario_words.specs.declared.fault.ExpandError.{ExpandError}
use Rattle.scenario_words.specs.declared.fault.ExpandError.TheVariants as error
use Rattle.scenario_words.specs.declared.fault.Fault.{Fault}
use Rattle.scenario_words.specs.Faults.{Gives, ◌>>=◌}

-- a fault, or that memory ran out, is that of the whole
pub handed_on : {T U V W : Type 0} (shown : T → U) (shown' : V → W) (e : ExpandError) (expected : Result U Fault) (more : U → Result W Fault) → Gives shown (Err e) expected → Gives shown' (Err e) (expected >>= more)
handed_on shown shown' error.Memory expected more h = tt
handed_on shown shown' (error.Faulty f) expected more h = ap (λ r. r >>= more) h

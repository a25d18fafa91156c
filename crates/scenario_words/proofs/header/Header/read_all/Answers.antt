use Rattle.std.proofs.Common.{◌<◌, length, arith}
use Rattle.std.proofs.lemmas.Result.{err_from_is_err_and}
use Rattle.scenario_words.specs.Header.{State, machine_of}
use Rattle.scenario_words.proofs.HeaderLemmas.{said_more, said_fault}
use Rattle.scenario_words.proofs.header.Header.read_all.Goals as goal

pub loop-place-preserved : goal.loop-place-preserved
loop-place-preserved c =
    let within : c.loop-place.place < length c.args.lines.now = omega arith in
    said_more c.args.lines.now c.loop-place.place (machine_of c.loop-place.self, c.loop-place.names) (machine_of c.read_next.new.self, c.read_next.new.names) c.index-lines-place.result _ within c.index-lines-place.is c.in_ok-read_next.ensures c.loop-place.invariant

pub returns-in_err-read_next : goal.returns-in_err-read_next
returns-in_err-read_next c =
    let within : c.loop-place.place < length c.args.lines.now = omega arith in
    let p = err_from_is_err_and c.from_residual-in_err-read_next.result c.from_residual-in_err-read_next.ensures.1 in
    let now : State = (machine_of c.read_next.new.self, c.read_next.new.names) in
    rw (p.1, p.2) (said_fault {T = Unit {0}} {V = Unit {0}} (λ _. now) (λ _. now) c.args.lines.now c.loop-place.place (machine_of c.loop-place.self, c.loop-place.names) c.index-lines-place.result c.in_err-read_next.field-0.0 _ within c.index-lines-place.is c.in_err-read_next.ensures c.loop-place.invariant)

use Rattle.std.proofs.Common.{arith}
use Rattle.script_faults.proofs.ReadLemmas.{read-all}
use Rattle.script_faults.proofs.read_script.Goals as goal

pub returns-else-read-gt-SCRIPT_BYTES-clause-bytes : goal.returns-else-read-gt-SCRIPT_BYTES-clause-bytes
returns-else-read-gt-SCRIPT_BYTES-clause-bytes g c =
    let given = rw (c.take.ensures.limit, c.take.ensures.inner, c.new-bytes.ensures.items) at c.in-Ok.ensures.bytes in
    let few = c.if-read-gt-SCRIPT_BYTES.false in
    let none = c.new-bytes.ensures.len in
    let size = c.in-Ok.ensures.ok in
    read-all (g.R.Read.remaining c.args.script.now) 67108865 c.in-Ok.read c.read_to_end.new.buf.items given (let held = c.read_to_end.new.buf.ok in grind (arith, held, rw none at size)) (omega (arith, few))

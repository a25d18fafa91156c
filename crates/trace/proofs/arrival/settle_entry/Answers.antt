use Rattle.trace.specs.Walks.{spot_in}
use Rattle.trace.proofs.SettledLemmas.{settled-byte}
use Rattle.trace.proofs.arrival.settle_entry.Goals as goal

pub returns-else-settle_byte : goal.returns-else-settle_byte
returns-else-settle_byte c = λ written earlier h.
    c.if-settle_byte.ensures written (λ o. earlier (spot_in c.args.page o))
    (settled-byte c.args.bytes.now c.args.settled.now written earlier c.args.entry.now c.args.page c.in-Byte.offset c.in-Byte.byte c.effect_of.result c.effect_of.ensures c.in-Byte.is h)

use Rattle.std.proofs.Common.{◌∙◌, sym, subst}
use Rattle.turns.specs.Tickets.{blocks_in, OwnWant}
use Rattle.live.specs.Hands.{HasWant}
use Rattle.live.proofs.StageLemmas.{has-want}
use Rattle.live.proofs.live.Live.turn.Goals as goal

pub ask_book-requires-clause-own : goal.ask_book-requires-clause-own
ask_book-requires-clause-own g c =
    let worker = c.args.pass.now.caller.worker in
    let blocks = blocks_in g.L.Opened.opening in
    subst (OwnWant worker blocks) c.in-Call.is (c.ask.ensures.own worker blocks c.requires.own)

pub ask_book-requires-clause-hand : goal.ask_book-requires-clause-hand
ask_book-requires-clause-hand g c = subst (HasWant c.args.pass.now.exchanges) (sym c.ask.ensures.wants ∙ c.in-Call.is) (has-want c.args.self.now.marks c.free_for-free.result c.args.pass.now.exchanges c.args.stage c.requires.hand)

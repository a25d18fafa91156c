use Rattle.explorer.proofs.CarriedLemmas.{on_ok}
use Rattle.explorer.proofs.ExploredLemmas.{looks-of}
use Rattle.explorer.proofs.explorer.look.Goals as goal

pub returns : goal.returns
returns c =
    on_ok c.carry_out-result.result
    (λ h. looks-of c.args.run c.carry_out-result.new.run c.args.looks.now c.args.looked.now.items c.carry_out-result.new.said.items _ h c.close.ensures.closes)
    c.carry_out-result.ensures

use Rattle.std.proofs.Common.{[], refl, sym, append-nil}
use Rattle.machine.specs.declared.command.Answer.TheVariants as answer
use Rattle.machine.specs.declared.command.Word.TheVariants as word
use Rattle.turns.specs.Turns.{answer_by}
use Rattle.live.proofs.live.Live.judged.Goals as goal

pub returns-in-Err-clause-runs : goal.returns-in-Err-clause-runs
returns-in-Err-clause-runs g c = record {
  added = [];
  said = answer_by c.args.actor (answer.Word (word.Refused c.in-Err.why));
  keeps = sym (append-nil c.args.pass.now.exchanges);
  tells = c.push_reserved.ensures.items;
  runs = rw c.in-Err.is (refl, refl);
}

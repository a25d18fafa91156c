use Rattle.std.proofs.Common.{refl, sym, subst}
use Rattle.machine.specs.Control.{text_of}
use Rattle.book_events.specs.declared.event.Reply.{Reply}
use Rattle.turns.specs.declared.turn.Pending.TheVariants.{Show}
use Rattle.turns.specs.Turns.{WantsText}
use Rattle.turns.proofs.automaton.shown.Goals as goal

pub returns-in-Err-clause-err : goal.returns-in-Err-clause-err
returns-in-Err-clause-err c = subst (λ (said : Reply). WantsText c.args.page_size.bytes Show said) (sym c.in-Shown.is) (record { text = text_of c.args.page_size.bytes c.in-Shown.numbers; told = refl })

use Rattle.std.specs.Mem.Slots.{slots_items}
use Rattle.marks.proofs.WordLemmas.{read_is}
use Rattle.marks.proofs.words.Words.get.Goals as goal

pub returns : goal.returns
returns c = rw (← c.self.view_is) (read_is (slots_items c.self.inside.closed.words) c.args.word c.word.result c.word.ensures)

use Rattle.std.proofs.Common.{◌≡◌, Bool, true, false, not, cond, Option, Some, None, is_some, refl, ap, ◌∙◌, sym}
use Rattle.machine.specs.State.{is_config}
use Rattle.book.proofs.book.Book.open.Goals as goal

-- only a configuration within its limits needs some number of blocks
some-there : {A : Type 0} (b : Bool) (x : A) → is_some (cond b (Some x) None) ≡ true → b ≡ true
some-there true x some = refl
some-there false x some = some

pub returns-in-Ok-clause-sized : goal.returns-in-Ok-clause-sized
returns-in-Ok-clause-sized c = some-there (is_config c.args.config) _ (sym (ap is_some c.blocks_for.ensures) ∙ (c.is_none.ensures ∙ ap not c.if-is_none.false))

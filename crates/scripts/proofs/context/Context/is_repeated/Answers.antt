use Rattle.std.proofs.Common.{◌≡◌, true, sym, ap, ◌∙◌}
use Rattle.scripts.specs.Forms.{Row, form_of}
use Rattle.scripts.proofs.WordLemmas.{among}
use Rattle.scripts.proofs.context.Context.is_repeated.Goals as goal

pub returns-then-form : goal.returns-then-form
returns-then-form c =
    let once : (form_of c.args.word).once ≡ true = ap (λ (r : Row). r.once) (sym c.form.ensures) ∙ c.if-form.true in
    rw (once, ← c.deref.ensures.value) (c.contains.ensures.value ∙ among c.args.word c.deref.result.now)

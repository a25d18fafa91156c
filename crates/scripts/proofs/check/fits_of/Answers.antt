use Rattle.std.proofs.Common.{◌∙◌, ap}
use Rattle.std.specs.List.{zip}
use Rattle.scripts.specs.declared.check.Fits.{Fits}
use Rattle.scripts.proofs.FitLemmas.{words_kept, numbers_kept, names_kept}
use Rattle.scripts.proofs.check.fits_of.Goals as goal

pub returns : goal.returns
returns c =
    let ps = zip c.args.kinds.now c.args.words.now in
    record {
      words = ap (λ (fits : Fits). fits.words) c.with_all.ensures ∙ words_kept ps;
      numbers = ap (λ (fits : Fits). fits.numbers) c.with_all.ensures ∙ numbers_kept ps;
      names = ap (λ (fits : Fits). fits.names) c.with_all.ensures ∙ names_kept ps;
    }

use Rattle.std.proofs.Common.{◌≡◌, ◌<◌, ℕ, true, Option, Some, None, refl, sym}
use Rattle.std.specs.Prelude.{IfSome, option_map}
use Rattle.machine.specs.Pages.{Page, page_at}
use Rattle.machine.specs.declared.id.PageId.{PageId}
use Rattle.pages.specs.PagesOf.{frame_holder}
use Rattle.pages.proofs.FrameLemmas.{holds_frame, frame_holder-there}
use Rattle.pages.proofs.Pages.holder.Goals as goal

pub returns-clause-within : goal.returns-clause-within
returns-clause-within c = by_found c.find_holder.result c.find_holder.ensures.holder
  where
    by_slot : (p : ℕ) (slot : Option Page) → page_at c.args.self.now.pages p ≡ slot → holds_frame c.args.frame slot ≡ true → IfSome slot (λ page. p < c.args.self.now.numbers) → p < c.args.self.now.numbers
    by_slot p None is holds within = cc
    by_slot p (Some page) is holds within = within

    by_found : (found : Option PageId) → option_map (λ (page : PageId). page.0) found ≡ frame_holder c.args.self.now.pages c.args.frame → IfSome found (λ page. page.0 < c.args.self.now.numbers)
    by_found None is = tt
    by_found (Some page) is = by_slot page.0 (page_at c.args.self.now.pages page.0) refl (frame_holder-there c.args.self.now.pages c.args.frame page.0 (sym is)) (c.are_numbered.ensures page.0)

use Rattle.std.proofs.Common.{◌∙◌, ap}
use Rattle.machine.specs.Pages.{Pages, file_page}
use Rattle.book.proofs.decide.find.Goals as goal

pub returns-in-File : goal.returns-in-File
returns-in-File c = rw c.in-File.is (c.cached.ensures ∙ ap (λ (ps : Pages). file_page ps c.in-File.file c.in-File.page) c.pages.ensures.pages)

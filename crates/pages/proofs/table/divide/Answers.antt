use Rattle.std.proofs.Common.{◌∙◌, ap}
use Rattle.pages.specs.declared.end.End.TheVariants.{OnBlock}
use Rattle.pages.specs.Transfers.{page_after}
use Rattle.pages.specs.Records.{label_holding, block_of}
use Rattle.pages.proofs.table.divide.Goals as goal

pub returns-in-InFrame-clause-freed : goal.returns-in-InFrame-clause-freed
returns-in-InFrame-clause-freed c = rw c.in-InFrame.is (c.freed_backing.ensures c.args.content c.args.charge c.args.frame.number c.requires)

pub returns-in-OnBlock-clause-page : goal.returns-in-OnBlock-clause-page
returns-in-OnBlock-clause-page c =
    rw c.in-OnBlock.is (c.left_on.ensures c.args.frame.number ∙ ap (λ g. page_after OnBlock (label_holding c.args.content g) c.args.frame.number (block_of c.args.backing)) c.group-group.ensures)

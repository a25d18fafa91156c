use Rattle.std.proofs.Common.{◌∙◌, sym}
use Rattle.trace.proofs.LinkLemmas.{earlier-linked, stand-within}
use Rattle.trace.proofs.step.step_back.Goals as goal

pub entry-requires : goal.entry-requires
entry-requires c = stand-within c.args.trace.now.entries c.args.stand c.in-After.at c.requires c.in-After.is

pub link-requires : goal.link-requires
link-requires c = stand-within c.args.trace.now.entries c.args.stand c.in-After.at c.requires c.in-After.is

pub returns-in-Some : goal.returns-in-Some
returns-in-Some c =
    earlier-linked c.args.trace.now.entries c.args.stand c.in-After.at c.entry.result.now c.in-Some.page c.link.result c.link.ensures c.requires c.in-After.is
    c.entry.ensures (sym c.accessed.ensures ∙ c.in-Some.is)

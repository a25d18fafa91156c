use Rattle.std.proofs.Common.{◌≡◌, ◌<◌, ◌≤◌, length, sym, ap, subst, ◌∙◌, refl, arith}
use Rattle.std.proofs.lemmas.Bool.{eqb-true}
use Rattle.trace.specs.declared.link.Link.{Link}
use Rattle.trace.specs.declared.link.Link.TheVariants.{After}
use Rattle.trace.specs.Links.{IsStand}
use Rattle.trace.specs.Walks.{page_at}
use Rattle.trace.proofs.LinkLemmas.{own-stand}
use Rattle.trace.proofs.found.has_found.Goals as goal

pub returns-in-After : goal.returns-in-After
returns-in-After c same =
    let xs = c.args.trace.now.entries in
    let r = c.in-Some.read_in in
    let page = page_at r.access.task r.access.place in
    let low : r.at < c.args.end = c.in-Some.ensures.within in
    let within : c.args.end ≤ length xs = c.requires in
    let stands = own-stand xs r.at page page c.link.result c.link.ensures (omega (arith, low, within)) c.in-Some.ensures.own refl in
    let leads : c.link.result ≡ After c.args.after = c.in-After.is ∙ ap After (eqb-true c.in-After.at c.args.after same) in
    record {
      read_in = r;
      fetched = sym c.in-Some.ensures.fetched;
      stands = subst (λ (l : Link). IsStand xs (record { at = r.at; page = page; link = l })) leads stands;
    }

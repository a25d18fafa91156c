use Rattle.std.proofs.Common.{◌<◌, ◌∙◌, ℕ, Option, length, refl, sym, ap, subst, arith}
use Rattle.std.specs.Prelude.{IfSome}
use Rattle.machine.specs.Pages.{Going, Page}
use Rattle.frames.specs.Pool.{PoolOf}
use Rattle.machine.specs.declared.record.Direction.TheVariants.{Out}
use Rattle.pages.specs.PagesOf.{Label, HasResidence}
use Rattle.page_state.specs.Owned.{AreKept}
use Rattle.machine.specs.declared.record.Kind.{Kind}
use Rattle.page_state.specs.Relists.{JoinsAtEnd}
use Rattle.page_state.proofs.SettleLemmas.{Lands, relist-fits, agree-lands, lands-settles}
use Rattle.page_state.proofs.parts.Parts.settle_out.Goals as goal

pub end_transfer-kind-requires-clause-stands : goal.end_transfer-kind-requires-clause-stands
end_transfer-kind-requires-clause-stands c =
    let w = c.requires.stands in
    (Out, w.0, w.1, w.2, w.3)

within : (c : goal.After-relist) → c.args.page.0 < c.args.self.now.pages.numbers
within c = let w = c.requires.stands in subst (λ (slot : Option Page). IfSome slot (λ page. c.args.page.0 < c.args.self.now.pages.numbers)) w.3 (c.are_numbered.ensures c.args.page.0)

counted : (c : goal.After-relist) → c.args.page.0 < length c.args.self.now.held.lists.hits
counted c = let numbers = c.requires.agree.held_numbers in let counts = c.are_generations.ensures.counts in let is = within c in omega (arith, numbers, counts, is)

pub relist-requires : goal.relist-requires
relist-requires c =
    let w = c.requires.stands in
    let fits = relist-fits c.args.self.now c.requires.agree Out c.args.page.0 w.0 w.1 w.2 c.args.ticket.number c.end_transfer-kind.result.0.0 w.3 (c.end_transfer-kind.ensures.label Out w.0 w.1 w.2 w.3).0 in
    let numbers = c.requires.agree.held_numbers in
    let within = subst (λ (slot : Option Page). IfSome slot (λ page. c.args.page.0 < c.args.self.now.pages.numbers)) w.3 (c.are_numbered.ensures c.args.page.0) in
    record { group = fits.1; number = omega (arith, numbers, within); unlisted = fits.0 }

lands : (c : goal.After-relist) (label : Label) (f b : ℕ) → HasResidence c.args.self.now.pages.pages c.args.page.0 label (Going f b c.args.ticket.number)
    → Lands c.args.self.now (record { pages = c.end_transfer-kind.new.pages; pool = c.give_spare.new.self; slots = c.end_transfer-kind.new.slots; counters = c.end_transfer-kind.new.counters; held = c.relist.new.held; moving = c.relist.new.moving }) c.args.page.0 label f b c.args.ticket.number c.args.placement Out c.args.end
lands c label f b stood =
    let settled = c.end_transfer-kind.ensures in
    let own = settled.label Out label f b stood in
    let spares = settled.spares in
    let more = ap (λ (q : PoolOf). q.spares) c.give_spare.ensures in
    record {
      stood = stood;
      filled = c.args.self.now.pages.bytes;
      others = λ q o other. refl;
      ended = settled.ends Out label f b stood;
      kept = subst (λ (pool : PoolOf). AreKept c.end_transfer-kind.new.counters pool c.end_transfer-kind.new.slots c.end_transfer-kind.new.pages.pages) (sym c.give_spare.ensures) (record { frames = settled.kept.frames; blocks = settled.kept.blocks; counted = settled.kept.counted });
      groups = settled.groups;
      frames = ap (λ (q : PoolOf). q.frames) c.give_spare.ensures ∙ settled.frames;
      most_spares = ap (λ (q : PoolOf). q.most_spares) c.give_spare.ensures ∙ settled.most_spares;
      spares = omega (arith, spares, more);
      blocks = settled.blocks;
      held = subst (λ (kind : Kind). JoinsAtEnd c.args.placement Out c.args.end c.args.self.now.held c.relist.new.held label.group kind c.args.page.0) own.1
          (subst (λ (x : ℕ). JoinsAtEnd c.args.placement Out c.args.end c.args.self.now.held c.relist.new.held x c.end_transfer-kind.result.1 c.args.page.0) own.0 c.relist.ensures.held);
      counted = counted c;
      moving = c.relist.ensures.moving;
    }

pub returns-clause-agree : goal.returns-clause-agree
returns-clause-agree c =
    let w = c.requires.stands in
    agree-lands c.args.self.now _ c.requires.agree c.args.page.0 w.0 w.1 w.2 c.args.ticket.number c.args.placement Out c.args.end (lands c w.0 w.1 w.2 w.3)

pub returns-clause-settles : goal.returns-clause-settles
returns-clause-settles c =
    (λ label f b stood. lands-settles c.args.self.now _ c.requires.agree c.args.page.0 label f b c.args.ticket.number c.args.placement Out c.args.end (lands c label f b stood))

pub returns-clause-stays : goal.returns-clause-stays
returns-clause-stays c =
    let w = c.requires.stands in
    (λ in_frame o. (c.end_transfer-kind.ensures.ends Out w.0 w.1 w.2 w.3).bytes in_frame c.args.page.0 o)

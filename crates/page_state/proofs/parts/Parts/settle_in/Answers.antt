use Rattle.std.proofs.Common.{◌<◌, ◌∙◌, ℕ, Option, length, ap, subst, arith}
use Rattle.std.specs.Prelude.{IfSome}
use Rattle.machine.specs.Pages.{Coming, Page, page_at}
use Rattle.machine.specs.declared.record.Direction.TheVariants.{In}
use Rattle.pages.specs.PagesOf.{Label, PagesOf, HasResidence}
use Rattle.pages.specs.Transfers.{Ends}
use Rattle.machine.specs.declared.record.Kind.{Kind}
use Rattle.page_state.specs.Relists.{JoinsAtEnd}
use Rattle.page_state.proofs.SettleLemmas.{Lands, relist-fits, agree-lands, lands-settles}
use Rattle.page_state.proofs.parts.Parts.settle_in.Goals as goal

pub end_transfer-kind-requires-clause-stands : goal.end_transfer-kind-requires-clause-stands
end_transfer-kind-requires-clause-stands c =
    let w = c.requires.stands in
    (In, w.0, w.1, w.2, ap (λ (t : PagesOf). page_at t.pages c.args.page.0) c.fill.ensures.others ∙ w.3)

within : (c : goal.After-new) → c.args.page.0 < c.args.self.now.pages.numbers
within c = let w = c.requires.stands in subst (λ (slot : Option Page). IfSome slot (λ page. c.args.page.0 < c.args.self.now.pages.numbers)) w.3 (c.are_numbered.ensures c.args.page.0)

counted : (c : goal.After-new) → c.args.page.0 < length c.args.self.now.held.lists.hits
counted c = let numbers = c.requires.agree.held_numbers in let counts = c.are_generations.ensures.counts in let is = within c in omega (arith, numbers, counts, is)

pub relist-requires : goal.relist-requires
relist-requires c =
    let w = c.requires.stands in
    let there = ap (λ (t : PagesOf). page_at t.pages c.args.page.0) c.fill.ensures.others ∙ w.3 in
    let fits = relist-fits c.args.self.now c.requires.agree In c.args.page.0 w.0 w.1 w.2 c.args.ticket.number c.end_transfer-kind.result.0.0 w.3 (c.end_transfer-kind.ensures.label In w.0 w.1 w.2 there).0 in
    let numbers = c.requires.agree.held_numbers in
    let within = subst (λ (slot : Option Page). IfSome slot (λ page. c.args.page.0 < c.args.self.now.pages.numbers)) w.3 (c.are_numbered.ensures c.args.page.0) in
    record { group = fits.1; number = omega (arith, numbers, within); unlisted = fits.0 }

filled_there : (c : goal.After-new) (label : Label) (f b : ℕ) → HasResidence c.args.self.now.pages.pages c.args.page.0 label (Coming f b c.args.ticket.number) → HasResidence c.fill.new.pages.pages c.args.page.0 label (Coming f b c.args.ticket.number)
filled_there c label f b stood = ap (λ (t : PagesOf). page_at t.pages c.args.page.0) c.fill.ensures.others ∙ stood

ends : (c : goal.After-new) (label : Label) (f b : ℕ) → HasResidence c.args.self.now.pages.pages c.args.page.0 label (Coming f b c.args.ticket.number)
    → Ends (record (c.args.self.now.pages) { bytes = c.fill.new.pages.bytes }) c.end_transfer-kind.new.pages c.args.page.0 label f b c.args.ticket.number c.args.end
ends c label f b stood =
    subst (λ (t : PagesOf). Ends t c.end_transfer-kind.new.pages c.args.page.0 label f b c.args.ticket.number c.args.end) c.fill.ensures.others (c.end_transfer-kind.ensures.ends In label f b (filled_there c label f b stood))

lands : (c : goal.After-new) (label : Label) (f b : ℕ) → HasResidence c.args.self.now.pages.pages c.args.page.0 label (Coming f b c.args.ticket.number)
    → Lands c.args.self.now (record { pages = c.end_transfer-kind.new.pages; pool = c.end_transfer-kind.new.pool; slots = c.end_transfer-kind.new.slots; counters = c.end_transfer-kind.new.counters; held = c.relist.new.held; moving = c.relist.new.moving }) c.args.page.0 label f b c.args.ticket.number c.args.placement In c.args.end
lands c label f b stood =
    let settled = c.end_transfer-kind.ensures in
    let own = settled.label In label f b (filled_there c label f b stood) in
    let spares = settled.spares in
    record {
      stood = stood;
      filled = c.fill.new.pages.bytes;
      others = c.fill.ensures.bytes;
      ended = ends c label f b stood;
      kept = settled.kept;
      groups = settled.groups;
      frames = settled.frames;
      most_spares = settled.most_spares;
      spares = omega (arith, spares);
      blocks = settled.blocks;
      held = subst (λ (kind : Kind). JoinsAtEnd c.args.placement In c.args.end c.args.self.now.held c.relist.new.held label.group kind c.args.page.0) own.1
          (subst (λ (x : ℕ). JoinsAtEnd c.args.placement In c.args.end c.args.self.now.held c.relist.new.held x c.end_transfer-kind.result.1 c.args.page.0) own.0 c.relist.ensures.held);
      counted = counted c;
      moving = c.relist.ensures.moving;
    }

pub returns-clause-agree : goal.returns-clause-agree
returns-clause-agree c =
    let w = c.requires.stands in
    agree-lands c.args.self.now _ c.requires.agree c.args.page.0 w.0 w.1 w.2 c.args.ticket.number c.args.placement In c.args.end (lands c w.0 w.1 w.2 w.3)

pub returns-clause-settles : goal.returns-clause-settles
returns-clause-settles c =
    (λ label f b stood. lands-settles c.args.self.now _ c.requires.agree c.args.page.0 label f b c.args.ticket.number c.args.placement In c.args.end (lands c label f b stood))

pub returns-clause-arrives : goal.returns-clause-arrives
returns-clause-arrives c =
    let w = c.requires.stands in
    λ in_frame o. (ends c w.0 w.1 w.2 w.3).bytes in_frame c.args.page.0 o ∙ c.fill.ensures.filled in_frame o

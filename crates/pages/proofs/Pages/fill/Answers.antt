use Rattle.std.proofs.Common.{◌==◌, cond, length, map, Some, None, ap, sym, arith, ◌∙◌}
use Rattle.std.specs.Prelude.{option_map}
use Rattle.std.proofs.lemmas.List.{get_or_read}
use Rattle.machine.specs.declared.record.Direction.TheVariants.{In}
use Rattle.pages.specs.PagesOf.{byte_of, byte_in}
use Rattle.pages.specs.Records.{page_of, bytes_of}
use Rattle.pages.proofs.TableLemmas.{at-map, place_within, byte_in-changes}
use Rattle.pages.proofs.TransferLemmas.{moving-there, Rewrites, Rewrites-are, Rewrites-framed, Rewrites-others, Rewrites-bytes}
use Rattle.pages.proofs.Pages.fill.Goals as goal

pub index_mut-requires : goal.index_mut-requires
index_mut-requires c =
    let w = rw (← c.self.view_is) at c.requires in
    let within = place_within c.self.inside.owned.items c.args.page.0 (moving-there c.self.inside.owned.items In c.args.page.0 w.0 w.1 w.2 c.args.ticket.now.number w.3) in
    omega (arith, within)

pub fill_at-requires : goal.fill_at-requires
fill_at-requires c =
    let owned = c.self.inside.owned.items in
    let w = rw (← c.self.view_is) at c.requires in
    let there = moving-there owned In c.args.page.0 w.0 w.1 w.2 c.args.ticket.now.number w.3 in
    let was = get_or_read owned c.args.page.0 c.index_mut.result.now (place_within owned c.args.page.0 there) c.index_mut.ensures.value None in
    (w.0, w.1, w.2, c.args.ticket.now.number, ap (option_map page_of) was ∙ sym (at-map page_of owned c.args.page.0) ∙ w.3)

rewrites : (c : goal.After-self-1) → Rewrites c.self.inside.owned.items c.args.page.0 c.index_mut.result.now c.fill_at.new.slot
rewrites c =
    let owned = c.self.inside.owned.items in
    let w = rw (← c.self.view_is) at c.requires in
    let within = place_within owned c.args.page.0 (moving-there owned In c.args.page.0 w.0 w.1 w.2 c.args.ticket.now.number w.3) in
    record {
      within = within;
      was = get_or_read owned c.args.page.0 c.index_mut.result.now within c.index_mut.ensures.value None;
      page = c.fill_at.ensures.page;
    }

pub invariant_of-self : goal.invariant_of-self
invariant_of-self c = (
  Rewrites-are c.self.inside.numbers c.self.inside.flights c.self.inside.members c.self.inside.files _ _ _ _ (rewrites c) _ _ c.self.invariant.0,
  Rewrites-framed c.self.inside.numbers c.self.inside.flights c.self.inside.members c.self.inside.files _ _ _ _ (rewrites c) c.self.inside.by_frame.items c.self.invariant.1,
)

pub returns-clause-others : goal.returns-clause-others
returns-clause-others c = rw (← c.self.view_is) (Rewrites-others c.self.inside.numbers c.self.inside.flights c.self.inside.members c.self.inside.files _ _ _ _ (rewrites c) (length c.self.inside.by_frame.items))

pub returns-clause-bytes : goal.returns-clause-bytes
returns-clause-bytes c = λ q o.
    let owned = c.self.inside.owned.items in
    let filled = ap (λ bytes. byte_of bytes o) (c.fill_at.ensures.bytes ∙ ap Some c.read.ensures) in
    rw (← c.self.view_is) (byte_in-changes _ _ c.args.page.0 (option_map bytes_of c.fill_at.new.slot) (Rewrites-bytes c.self.inside.numbers c.self.inside.flights c.self.inside.members c.self.inside.files _ _ _ _ (rewrites c)) q o ∙ ap (λ byte. cond (q == c.args.page.0) byte (byte_in (map (option_map bytes_of) owned) q o)) filled)

use Rattle.std.proofs.Common.{◌≡◌, refl, sym, ap, subst, true}
use Rattle.machine.specs.Pages.{is_held_in}
use Rattle.pages.specs.PagesOf.{PagesOf}
use Rattle.page_state.specs.declared.parts.Parts.{Parts}
use Rattle.page_state.specs.Owned.{PartsAgree}
use Rattle.page_state.specs.Parts.{Stays}
use Rattle.page_state.specs.States.{StateOf}
use Rattle.page_state.proofs.PartsLemmas.{held-stands}
use Rattle.page_state.proofs.TouchLemmas.{agree-touched, touched-alike}
use Rattle.page_state.proofs.AccessLemmas.{joined-written, tables-same}
use Rattle.page_state.proofs.joined.State.write.Goals as goal

pub write-requires-clause-held : goal.write-requires-clause-held
write-requires-clause-held c = subst (λ (s : StateOf). is_held_in s.tables.pages c.args.page.0 ≡ true) (sym c.self.view_is) c.requires.held

module _ (c : goal.After-write) where
  abbrev after : Parts
  after = record (c.self.inside.parts) { pages = c.write.new.self }

  held : is_held_in c.self.inside.parts.pages.pages c.args.page.0 ≡ true
  held = subst (λ (s : StateOf). is_held_in s.tables.pages c.args.page.0 ≡ true) (sym c.self.view_is) c.requires.held

  agree : PartsAgree after
  agree =
      let h = c.self.inside.parts in
      let stands = held-stands h.pages.pages c.args.page.0 held in
      agree-touched h c.self.invariant.agree after.pages (touched-alike h.pages.pages after.pages.pages c.args.page.0 c.args.byte _ stands.2 (c.write.ensures.placed _ stands.2)) c.write.ensures.others

  stays : Stays c.self.inside.parts after
  stays = record {
    groups = record { tree = refl; limits = refl; room = refl };
    frames = refl;
    most_spares = refl;
    blocks = refl;
    numbers = ap (λ (t : PagesOf). t.numbers) c.write.ensures.others;
    page_groups = ap (λ (t : PagesOf). t.groups) c.write.ensures.others;
    page_frames = ap (λ (t : PagesOf). t.frames) c.write.ensures.others;
    held_numbers = refl;
    moving_room = refl;
    files = ap (λ (t : PagesOf). t.files) c.write.ensures.others;
  }

pub invariant_of-self : goal.invariant_of-self
invariant_of-self c = joined-written c.self.inside c.self.invariant (after c) (agree c) (stays c) c.args.page.0 c.args.byte (held c) c.write.ensures.placed

pub returns : goal.returns
returns c =
    rw (← c.self.view_is)
    (record {
      placed = c.write.ensures.placed;
      tables = tables-same c.self.inside c.self.invariant (after c) (agree c) (stays c);
      bytes = c.write.ensures.bytes;
      flights = ap (λ (t : PagesOf). t.flights) c.write.ensures.others;
      order = refl;
    })

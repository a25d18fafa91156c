use Rattle.std.proofs.Common.{◌≡◌, ◌≢◌, ◌⊎◌, ◌∙◌, inl, inr}
use Rattle.machine.specs.Pages.{Held}
use Rattle.pages.specs.declared.way.WayOut.{WayOut}
use Rattle.pages.specs.declared.way.WayOut.TheVariants as way
use Rattle.page_state.proofs.PartsLemmas.{held-stands}
use Rattle.page_state.proofs.parts.Parts.take_out.Goals as goal

not_dropped : (out : WayOut) → (out ≡ way.ToSwap) ⊎ (out ≡ way.ToHome) → out ≢ way.Dropped
not_dropped out (inl swap) dropped = cc
not_dropped out (inr home) dropped = cc

pub start_out-requires-clause-held : goal.start_out-requires-clause-held
start_out-requires-clause-held c =
    let held = c.requires.held in
    let s = held-stands c.args.self.now.pages.pages c.args.page.0 held in
    (s.0, s.1, s.2, λ dropped. not_dropped c.way_out.result c.in-ToSwap.is (c.way_out.ensures s.0 (Held s.1) s.2 ∙ dropped))

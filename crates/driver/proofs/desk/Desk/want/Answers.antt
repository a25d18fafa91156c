use Rattle.std.proofs.Common.{◌≡◌, ◌∙◌, ℕ, ap, arith}
use Rattle.machine.specs.declared.config.Watermarks.{Watermarks}
use Rattle.machine.specs.State.{State, free_frames}
use Rattle.turns.specs.Turns.{wants}
use Rattle.driver.proofs.desk.Desk.want.Goals as goal

pub returns-clause-wants : goal.returns-clause-wants
returns-clause-wants c =
    let s : State = c.args.self.now.book.state in
    let free : c.free_frames.result ≡ free_frames s = omega (arith, c.free_frames.ensures) in
    c.ask.ensures.wants ∙ (ap (λ (marks : Watermarks). wants marks c.free_frames.result c.args.stage) c.watermarks.ensures ∙ ap (λ (n : ℕ). wants s.opening.watermarks n c.args.stage) free)

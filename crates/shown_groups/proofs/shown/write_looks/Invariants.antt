use Rattle.std.proofs.Common.{List, ℕ, map, take}
use denote.Ref.{Bor}
use Rattle.std.specs.Io.KnownBytes.{Appends}
use Rattle.shown_groups.specs.Looks.{looks_text}
use Rattle.shown_groups.proofs.shown.write_looks.Given as goal

abbrev pub invariant-loop-at : goal.invariant-loop-at
invariant-loop-at g l =
    Appends (g.O.Write.contents l.fn.out) (g.O.Write.contents l.out) (looks_text l.fn.page_size.bytes l.fn.missing (map (λ (p : Bor (List ℕ)). p.now) (take l.at l.fn.paths)) (take l.at l.fn.looks))

use Rattle.std.proofs.Common.{◌≡◌, true}
use Rattle.expansion.specs.ToCome.{still, is_said}
use Rattle.expansion.proofs.expansion.Expansion.next.Given as goal

-- the steps so far gave nothing that comes
abbrev pub invariant-loop : goal.invariant-loop
invariant-loop l = record { same : is_said (still l.fn.self) ≡ true → still l.self ≡ still l.fn.self }

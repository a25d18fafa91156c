use Rattle.std.proofs.Common.{◌<◌, ℕ, ap, subst, sym}
use Rattle.rings.specs.Rings.{RingsOf}
use Rattle.rings.proofs.ChainLemmas.{as_seen}
use Rattle.rings.proofs.ReadLemmas.{are_apart, listed_within}
use Rattle.rings.proofs.table.Rings.lists_are_apart.Goals as goal

pub returns-clause-apart : goal.returns-clause-apart
returns-clause-apart c = are_apart (as_seen c.self.view_is c.self.invariant)

pub returns-clause-within : goal.returns-clause-within
returns-clause-within c p listed =
    subst (λ (n : ℕ). p < n) (ap (λ (v : RingsOf). v.numbers) c.self.view_is) (listed_within (as_seen c.self.view_is c.self.invariant) p listed)

pub returns-clause-countable : goal.returns-clause-countable
returns-clause-countable c =
    let r = as_seen c.self.view_is c.self.invariant in
    subst (λ (n : ℕ). n < 2147483648) (sym r.count) r.countable.heads

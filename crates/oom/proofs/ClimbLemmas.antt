-- A group more on the way up to the limit.
use Rattle.std.proofs.Common.{◌≡◌, ◌≢◌, ℕ, ◌==◌, true, false, cond, List, [], Option, Some, None, refl, sym, ap, ◌∙◌, subst, arith}
use Rattle.machine.specs.declared.record.OomGroup.{OomGroup}
use Rattle.machine.specs.Tree.{Node, node_at, IsTree, under_at}
use Rattle.machine.specs.Victim.{is_flagged, kill_group}
use Rattle.machine.proofs.Values.{unlike}
use Rattle.machine.proofs.TreeLemmas.{under_at-None}
use Rattle.oom.proofs.KillGroupLemmas.{last_flagged, last-step, chain_to-own, chain_to-step, above_parent}
use Rattle.oom.specs.Climb.{chain_on, Climbs}

module _ (tree : List Node) (is : IsTree tree) (flags : List OomGroup) (limit : ℕ) where
  -- nothing was looked at
  pub climbs-first : (g : ℕ) → under_at tree limit (Some g) ≡ true → Climbs tree flags limit (Some g) None (kill_group tree flags limit g)
  climbs-first g up = record { ahead = up; leads = refl }

  -- the limit was looked at
  pub climbs-last : (at highest whole found : Option ℕ) (here : ℕ) → Climbs tree flags limit at highest whole → at ≡ Some here → (here == limit) ≡ true → found ≡ cond (is_flagged flags here) (Some here) highest → found ≡ whole
  climbs-last at highest whole found here climbs is_at same looked =
      let limit_is : here ≡ limit = grind (arith, same) in
      let leads = subst (λ (o : Option ℕ). last_flagged tree is flags limit highest (chain_on tree limit o) ≡ whole) (is_at ∙ ap Some limit_is) climbs.leads in
      looked ∙ ap (λ (x : ℕ). cond (is_flagged flags x) (Some x) highest) limit_is ∙ sym (ap (last_flagged tree is flags limit highest) (chain_to-own tree is flags limit) ∙ last-step tree is flags limit highest limit []) ∙ leads

  -- another was, and its parent is next
  pub climbs-more : (at highest whole found next : Option ℕ) (here : ℕ) → Climbs tree flags limit at highest whole → at ≡ Some here → (here == limit) ≡ false → found ≡ cond (is_flagged flags here) (Some here) highest
      → next ≡ (node_at tree here).parent → Climbs tree flags limit next found whole
  climbs-more at highest whole found next here climbs is_at other looked parent = record { ahead = ahead; leads = by_next next refl ahead }
    where
      differs : limit ≢ here
      differs = grind (arith, other)

      ahead : under_at tree limit next ≡ true
      ahead = ap (under_at tree limit) parent ∙ above_parent tree is flags limit limit here differs (sym (ap (under_at tree limit) is_at) ∙ climbs.ahead)

      leads : last_flagged tree is flags limit highest (chain_on tree limit (Some here)) ≡ whole
      leads = subst (λ (o : Option ℕ). last_flagged tree is flags limit highest (chain_on tree limit o) ≡ whole) is_at climbs.leads

      by_next : (o : Option ℕ) → next ≡ o → under_at tree limit next ≡ true → last_flagged tree is flags limit found (chain_on tree limit next) ≡ whole
      by_next None none up = absurd (unlike (under_at tree limit next) up (ap (under_at tree limit) none ∙ under_at-None tree is limit))
      by_next (Some p) some up =
          ap (λ (o : Option ℕ). last_flagged tree is flags limit found (chain_on tree limit o)) some
          ∙ ap (λ (o : Option ℕ). last_flagged tree is flags limit o (chain_on tree limit (Some p))) looked
          ∙ sym (ap (last_flagged tree is flags limit highest) (chain_to-step tree is flags limit here p differs (sym parent ∙ some)) ∙ last-step tree is flags limit highest here (chain_on tree limit (Some p)))
          ∙ leads

use Rattle.std.proofs.Common.{ℕ, List, IfSome, option_copied, subst, ap, ◌∙◌}
use Rattle.rings.specs.declared.ring_node.Link.{Link}
use Rattle.rings.specs.Rings.{is_there, IsLinkOf}
use Rattle.lru_gen.proofs.SeenLemmas.{lists_seen}
use Rattle.lru_gen.proofs.gens.Gens.link.Goals as goal

pub returns-clause-there : goal.returns-clause-there
returns-clause-there c =
    c.link.ensures.there ∙ ap (λ (ls : List (List ℕ)). is_there ls c.args.node) (lists_seen c.self.view_is c.self.invariant)

pub returns-clause-link : goal.returns-clause-link
returns-clause-link c =
    subst (λ (ls : List (List ℕ)). IfSome (option_copied c.link.result) (λ (link : Link). IsLinkOf ls c.args.node link))
    (lists_seen c.self.view_is c.self.invariant) c.link.ensures.link

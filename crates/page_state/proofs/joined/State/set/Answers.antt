use Rattle.std.proofs.Common.{◌≡◌, List, length, refl, sym, ap, subst, ◌∙◌}
use Rattle.machine.specs.Tree.{Node}
use Rattle.group_tree.specs.Kin.{AreKin}
use Rattle.page_counter.specs.Counts.{Counts}
use Rattle.page_state.specs.declared.joined.State.TheInside.{Inside}
use Rattle.page_state.specs.Joined.{IsJoined}
use Rattle.page_state.proofs.CountLemmas.{counted-same}
use Rattle.page_state.proofs.PartsLemmas.{agree-counted}
use Rattle.page_state.proofs.joined.State.set.Goals as goal

-- counters with other limits
set-limits : (s : Inside) → IsJoined s → (counters : Counts) → counters.tree ≡ s.parts.counters.tree → counters.usage ≡ s.parts.counters.usage → IsJoined (record s { parts = record (s.parts) { counters = counters } })
set-limits s is counters tree usage =
    let h = s.parts in
    let agrees = is.agree in
    record {
      sized = is.sized;
      agree = agree-counted h counters h.held h.pages.groups h.pages.room (counted-same h.counters counters h.pages.pages tree usage agrees.kept.counted) agrees.held (agrees.held_groups ∙ sym (ap length tree)) (agrees.page_groups ∙ sym (ap length tree)) refl agrees;
      frames = is.frames;
      swap = is.swap;
      files = is.files;
      held_kin = subst (λ (k : List Node). AreKin k s.tree) (sym tree) is.held_kin;
      counted_kin = is.counted_kin;
      mapped = is.mapped;
      page_numbers = is.page_numbers;
      numbers = is.numbers;
      homes = is.homes;
      flagged = is.flagged;
      cursors = is.cursors;
      populated = is.populated;
    }

pub invariant_of-self : goal.invariant_of-self
invariant_of-self c = set-limits c.self.inside c.self.invariant c.set_max.new.self c.set_max.ensures.tree c.set_max.ensures.usage

pub invariant_of-self-in-Guard : goal.invariant_of-self-in-Guard
invariant_of-self-in-Guard c = set-limits c.self.inside c.self.invariant c.set_guard.new.self c.set_guard.ensures.tree c.set_guard.ensures.usage

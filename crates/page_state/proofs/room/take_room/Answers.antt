use Rattle.std.proofs.Common.{◌∷◌, sym, subst}
use Rattle.page_counter.specs.Counts.{AreCounts}
use Rattle.page_state.proofs.room.take_room.Goals as goal

pub returns : goal.returns
returns c =
    let taken = c.in-Some.ensures in
    record {
      under = c.requires.under;
      group = c.in-Ok.ensures.group;
      charged = c.in-Ok.ensures.charged;
      counted = λ charges counted. subst (λ g. AreCounts c.try_charge.new.self (g ∷ charges)) (sym c.in-Ok.ensures.group) (c.in-Ok.ensures.counted charges counted);
      frame = record { counts = taken.counts; fewer = taken.fewer; frames = taken.frames; spares = taken.spares; most_spares = taken.most_spares; out = taken.out; in_range = taken.in_range };
    }

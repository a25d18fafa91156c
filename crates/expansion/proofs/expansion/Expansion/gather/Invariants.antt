use Rattle.std.proofs.Common.{◌≡◌}
use Rattle.std.specs.Option.{option_map}
use Rattle.expansion.specs.Walk.{lists_gathered}
use Rattle.expansion.specs.ToCome.{told_of, repeats, gathering}
use Rattle.expansion.proofs.expansion.Expansion.gather.Given as goal

-- the lists so far were gathered
abbrev pub invariant-loop-burst : goal.invariant-loop-burst
invariant-loop-burst l = record {
  members : gathering l.self ≡ option_map (lists_gathered (told_of l.fn.self.line l.fn.self.rounds.items l.words) l.in_repeat l.yielded) (gathering l.fn.self);
  others : l.self ≡ record l.fn.self { scene = l.self.scene; gathered = l.self.gathered };
  repeats : l.in_repeat ≡ repeats l.fn.self.frames.items;
}

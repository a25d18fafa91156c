-- The charge is out: it is the only one.
use Rattle.std.proofs.Common.{◌≡◌, []}
use Rattle.callers.proofs.charges.a_charge_counts_at_its_group_and_above.Goals as goal

pub uncharge-requires : goal.uncharge-requires
uncharge-requires g c = record {
  out = record {
    others = [];
    counted = let e : c.in-Ok.charge ≡ 1 = c.in-Ok.ensures.group
        in rw e (c.in-Ok.ensures.counted [] (c.set_max.ensures.counted [] (c.in_ok-add.ensures.counted [] c.in_ok-counters.ensures.counted)));
  };
}

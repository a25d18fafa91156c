use Rattle.std.proofs.Common.{◌≡◌, List, ℕ, map, take, vec_capacity}
use denote.Ref.{Bor}
use Rattle.live.specs.Looks.{end_look}
use Rattle.live.proofs.looks.look_all.Given as goal

abbrev pub invariant-loop-path : goal.invariant-loop-path
invariant-loop-path l = record {
  items : l.looks.items ≡ map (λ (p : Bor (List ℕ)). end_look l.fn.book.state p.now) (take l.path-index l.paths);
  room : vec_capacity l.looks ≡ vec_capacity l.fn.room;
}

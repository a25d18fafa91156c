use Rattle.std.proofs.Common.{◌-◌, ℕ, List, ap, ◌∙◌, arith}
use Rattle.machine.specs.declared.record.Kind.TheVariants.{Anon, File}
use Rattle.machine.specs.Generations.{Gens, handed_over}
use Rattle.rings.specs.Rings.{RingsOf}
use Rattle.lru_gen.specs.declared.numbers.Numbers.{Numbers}
use Rattle.lru_gen.specs.declared.filled.Filled.{Filled}
use Rattle.lru_gen.specs.Rows.{numbers_at, HaveMoved}
use Rattle.lru_gen.specs.Filled.{filled_at, joined}
use Rattle.lru_gen.proofs.MoveLemmas.{moved_by, groups_moved}
use Rattle.lru_gen.proofs.FilledLemmas.{kept_moved}
use Rattle.lru_gen.proofs.SeenLemmas.{group_seen, numbers_read, filled_read, seen_by}
use Rattle.lru_gen.proofs.gens.Gens.take_over.Goals as goal
use Rattle.lru_gen.proofs.gens.Gens.take_over.Goals.{After-move_pages-2}

pub index-requires : goal.index-requires
index-requires c =
    let h = group_seen c.self.view_is c.self.invariant c.requires.from in
    let size = c.self.inside.numbers.ok.0 in
    omega (arith, h.within, size)

pub index-requires-2 : goal.index-requires-2
index-requires-2 c =
    let h = group_seen c.self.view_is c.self.invariant c.requires.to in
    let size = c.self.inside.numbers.ok.0 in
    omega (arith, h.within, size)

pub index-moved-requires : goal.index-moved-requires
index-moved-requires c =
    let h = group_seen c.self.view_is c.self.invariant c.requires.from in
    let size = c.self.inside.filled.ok.0 in
    omega (arith, h.told, size)

pub index_mut-filled-requires : goal.index_mut-filled-requires
index_mut-filled-requires c =
    let h = group_seen c.self.view_is c.self.invariant c.requires.to in
    let size = c.self.inside.filled.ok.0 in
    omega (arith, h.told, size)

pub index_mut-requires : goal.index_mut-requires
index_mut-requires c =
    let h = group_seen c.self.view_is c.self.invariant c.requires.from in
    let size = c.self.inside.filled.ok.0 in
    omega (arith, h.told, size)

pub overflow_sub-seq : goal.overflow_sub-seq
overflow_sub-seq c =
    let h = group_seen c.self.view_is c.self.invariant c.requires.to in
    let same = ap (λ (n : Numbers). n.max_seq) (numbers_read h c.index-2.ensures) in
    omega (arith, (h.window Anon).two, same)

pub move_pages-requires : goal.move_pages-requires
move_pages-requires c =
    let from = group_seen c.self.view_is c.self.invariant c.requires.from in
    let to = group_seen c.self.view_is c.self.invariant c.requires.to in
    record { from = from.few; from_lists = from.lists_within; to = to.few; to_lists = to.lists_within; apart = c.requires.apart }

pub move_pages-requires-2 : goal.move_pages-requires-2
move_pages-requires-2 c =
    let from = group_seen c.self.view_is c.self.invariant c.requires.from in
    let to = group_seen c.self.view_is c.self.invariant c.requires.to in
    let size = c.move_pages.ensures.lists.size in
    record {
      from = from.few;
      from_lists = omega (arith, size, from.lists_within);
      to = to.few;
      to_lists = omega (arith, size, to.lists_within);
      apart = c.requires.apart;
    }

-- each type's lists, by the numbers of the tables
pub record AreMoved (old mid new : List (List ℕ)) (numbers : List Numbers) (from to : ℕ) : Type 0 where
  pub anon : HaveMoved old mid from to Anon (numbers_at numbers from).anon_min_seq 4 ((numbers_at numbers to).max_seq - 1)
  pub file : HaveMoved mid new from to File (numbers_at numbers from).file_min_seq 4 ((numbers_at numbers to).max_seq - 1)

moves : (c : After-move_pages-2) → AreMoved c.self.inside.rings.lists c.move_pages.new.rings.lists c.move_pages-2.new.rings.lists c.self.inside.numbers.items c.args.from.0 c.args.to.0
moves c =
    let read = numbers_read (group_seen c.self.view_is c.self.invariant c.requires.from) c.index.ensures in
    let seq = ap (λ (n : Numbers). n.max_seq - 1) (numbers_read (group_seen c.self.view_is c.self.invariant c.requires.to) c.index-2.ensures) in
    record {
      anon = moved_by (ap (λ (n : Numbers). n.anon_min_seq) read) seq c.move_pages.ensures.lists;
      file = moved_by (ap (λ (n : Numbers). n.file_min_seq) read) seq c.move_pages-2.ensures.lists;
    }

pub invariant_of-self : goal.invariant_of-self
invariant_of-self c =
    let from = group_seen c.self.view_is c.self.invariant c.requires.from in
    let to = group_seen c.self.view_is c.self.invariant c.requires.to in
    let m = moves (goal.at.invariant_of-self c).After-move_pages-2 in
    kept_moved c.self.invariant from.within to.within c.requires.apart m.anon m.file
    (c.join.ensures ∙ ap (λ (f : Filled). joined f c.index-moved.result.now) (filled_read to c.index_mut-filled.ensures.value) ∙ ap (joined (filled_at c.self.inside.filled.items c.args.to.0)) (filled_read from c.index-moved.ensures))

pub returns : goal.returns
returns c =
    let from = group_seen c.self.view_is c.self.invariant c.requires.from in
    let to = group_seen c.self.view_is c.self.invariant c.requires.to in
    let m = moves (goal.at.returns c).After-move_pages-2 in
    let others = c.move_pages-2.ensures.others ∙ ap (λ (r : RingsOf). record r { lists = c.move_pages-2.new.rings.lists }) c.move_pages.ensures.others in
    seen_by _ _ _ _ _ _ (λ (gs : List Gens). handed_over c.args.from.0 c.args.to.0 gs)
    (groups_moved _ _ _ _ c.self.invariant.table _ _ from.within to.within c.requires.apart m.anon m.file) c.self.view_is others

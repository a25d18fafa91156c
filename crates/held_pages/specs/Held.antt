-- What a contract sees of the pages that are held, and how they come and go.
use Rattle.std.specs.Prelude.{◌≡◌, ℕ, ◌||◌, false, length, slice_set}
use Rattle.machine.specs.declared.config.Placement.{Placement}
use Rattle.machine.specs.declared.record.Kind.{Kind}
use Rattle.machine.specs.Generations.{has_page, row_of, is_listed, added, isolated, gens_at, with_gens}
use Rattle.machine.specs.Aging.{is_marked}
use Rattle.machine.specs.Lists.{HeldLists, Generation, seq_in, hits_at, hits_at_entry, is_last_hit, hits_after}

-- the lists, the marks and the hits, how many page numbers there are, and for how many groups more there is memory
pub record HeldOf : Type 0 where
  pub lists : HeldLists
  pub numbers : ℕ
  pub room : ℕ

-- a page of this type is the last of a generation of its group
abbrev pub entered : HeldLists → ℕ → Kind → ℕ → Generation → HeldLists
entered lists g kind p generation =
    record {
      groups = with_gens lists.groups g (added p kind (seq_in generation kind (gens_at lists.groups g)) (gens_at lists.groups g));
      marks = lists.marks;
      hits = slice_set lists.hits p (hits_at_entry generation);
    }

-- a page of the group leaves its list with its mark and its hits
abbrev pub left : HeldLists → ℕ → ℕ → HeldLists
left lists g p = record { groups = with_gens lists.groups g (isolated p (gens_at lists.groups g)); marks = slice_set lists.marks p false; hits = slice_set lists.hits p 0 }

-- a page of this type is hit
abbrev pub hit : HeldLists → Placement → Kind → ℕ → HeldLists
hit lists placement kind p =
    record {
      groups = lists.groups;
      marks = slice_set lists.marks p (is_marked lists.marks p || is_last_hit placement kind (hits_at lists.hits p));
      hits = slice_set lists.hits p (hits_after placement kind (is_marked lists.marks p) (hits_at lists.hits p));
    }

-- as many groups have lists, and each row has the pages that it had
pub record KeepsRows (old new : HeldLists) : Type 0 where
  pub groups : length new.groups ≡ length old.groups
  pub rows : (g : ℕ) (kind : Kind) (p : ℕ) → has_page p (row_of kind (gens_at new.groups g)).pages ≡ has_page p (row_of kind (gens_at old.groups g)).pages
  pub size : length new.marks ≡ length old.marks
  -- a page that no list has keeps its mark
  pub marks : (p : ℕ) → ((g : ℕ) → is_listed (gens_at old.groups g) p ≡ false) → is_marked new.marks p ≡ is_marked old.marks p
  pub hits : new.hits ≡ old.hits

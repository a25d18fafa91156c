-- What a pass of a reclaim asks of the groups (mm/vmscan.c: shrink_node_memcgs).
use Rattle.std.specs.Prelude.{◌≡◌, ℕ, ◌&&◌, ◌||◌, not, Bool, true, false}
use Rattle.machine.specs.declared.record.Guard.TheVariants.{Min, Low}
use Rattle.machine.specs.Tree.{is_live, under}
use Rattle.machine.specs.Order.{Cursor, cursor_after}
use Rattle.machine.specs.Generations.{gens_at}
use Rattle.machine.specs.Eviction.{has_usable, has_old_file}
use Rattle.aging.specs.Groups.{seen_at}
use Rattle.page_counter.specs.Counts.{usage_of}
use Rattle.protection.specs.Effective.{is_beyond_by}
use Rattle.reclaim.specs.declared.scan_control.ScanControl.{ScanControl}

-- the group has a page to give, in a pass that takes from groups within their low or in one that does not: its min does not protect it, nor in the second its low; and on its lists there is a page
-- of a file, or one of memory and a free block in swap for it
abbrev pub gives_by : ScanControl → Bool → ℕ → Bool
gives_by sc low_reclaim g = (is_beyond_by sc.protection Min g && (low_reclaim || is_beyond_by sc.protection Low g)) && has_usable sc.swap_free (gens_at sc.gens.now.groups g)

-- so of the groups that a pass asks: all of them, or those alone with an old page of a file
abbrev pub asked_by : ScanControl → Bool → Bool → ℕ → Bool
asked_by sc false low_reclaim g = gives_by sc low_reclaim g
asked_by sc true low_reclaim g = gives_by sc low_reclaim g && has_old_file (seen_at g sc.gens.now sc.marks.now)

-- the pass in which a group with a page to give gives it: the second one, if its low protects it
abbrev pub in_second : ScanControl → ℕ → Bool
in_second sc g = not (is_beyond_by sc.protection Low g)

-- whose turn it is, once this group has given a page
abbrev pub cursor_by : ScanControl → Cursor → ℕ → Cursor
cursor_by sc cursor g = cursor_after sc.takes_parts sc.protection.tree.now (gives_by sc (in_second sc g)) (usage_of sc.protection.counters.now) sc.protection.target.0 cursor g

-- the group is at or below the target, and has a page to give
pub record IsGiver (sc : ScanControl) (low_reclaim : Bool) (g : ℕ) : Type 0 where
  pub live : is_live sc.protection.tree.now g ≡ true
  pub below : under sc.protection.tree.now sc.protection.target.0 g ≡ true
  pub gives : gives_by sc low_reclaim g ≡ true

-- no group at or below the target has a page to give. (Excludes a reclaim that finds nothing while there is something.)
abbrev pub GivesNone : ScanControl → Bool → Type 0
GivesNone sc low_reclaim = (g : ℕ) → is_live sc.protection.tree.now g ≡ true → under sc.protection.tree.now sc.protection.target.0 g ≡ true → gives_by sc low_reclaim g ≡ false

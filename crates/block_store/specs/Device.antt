-- What contracts see of a block device.
use Rattle.std.specs.Prelude.{◌≡◌, ◌≢◌, ℕ, ◌+◌, ◌-◌, ◌==◌, ◌^◌, min, Bool, true, false, List, [], Option, Some, None, Result, Ok, Err, length, slice_index_or, slice_set, replicate}
use Rattle.std.specs.List.{list_any}
use Rattle.machine.specs.Access.{page_size}
use Rattle.block_store.specs.declared.device.Fault.{Fault}

-- how many reads and writes there have been, and which of them fail: their numbers, counted from 1, reads and writes apart
pub record FaultPlan : Type 0 where
  pub reads : ℕ
  pub writes : ℕ
  pub read_faults : List ℕ
  pub write_faults : List ℕ

-- the bytes of each block, how many calls have failed, how many can, and, where it is known, which ones do
pub record Disk : Type 0 where
  pub contents : List (List ℕ)
  pub failures : ℕ
  pub fault_limit : ℕ
  pub plan : Option FaultPlan

-- what a block holds; past the last block there is nothing
abbrev pub bytes_on : List (List ℕ) → ℕ → List ℕ
bytes_on contents block = slice_index_or contents block []

-- blocks of zeros, of which none was read or written, and the calls that fail
abbrev pub new_disk : ℕ → List ℕ → List ℕ → Disk
new_disk blocks read_faults write_faults = record {
  contents = replicate blocks (replicate page_size 0);
  failures = 0;
  fault_limit = length read_faults + length write_faults;
  plan = Some (record { reads = 0; writes = 0; read_faults = read_faults; write_faults = write_faults });
}

-- whether the call after so many is listed
abbrev pub is_listed : List ℕ → ℕ → Bool
is_listed faults calls = list_any (λ call. call == calls + 1) faults

-- a call more; the greatest count of 64 bits stays
abbrev pub counted : ℕ → ℕ
counted calls = min (calls + 1) (2 ^ 64 - 1)

-- the next call has failed or not as it is planned; where nothing is known it may do either
abbrev pub IsReadPlanned : Option FaultPlan → Bool → Type 0
IsReadPlanned None failed = Unit {0}
IsReadPlanned (Some plan) failed = is_listed plan.read_faults plan.reads ≡ failed

abbrev pub IsWritePlanned : Option FaultPlan → Bool → Type 0
IsWritePlanned None failed = Unit {0}
IsWritePlanned (Some plan) failed = is_listed plan.write_faults plan.writes ≡ failed

-- a read more, and a write more
abbrev pub plan_after_read : Option FaultPlan → Option FaultPlan
plan_after_read None = None
plan_after_read (Some plan) = Some (record plan { reads = counted plan.reads })

abbrev pub plan_after_write : Option FaultPlan → Option FaultPlan
plan_after_write None = None
plan_after_write (Some plan) = Some (record plan { writes = counted plan.writes })

-- there are as many blocks, and all but this one hold what they held
pub record KeepsOthers (old new : List (List ℕ)) (block : ℕ) : Type 0 where
  pub blocks : length new ≡ length old
  pub others : (k : ℕ) → k ≢ block → bytes_on new k ≡ bytes_on old k

-- a read that failed: it changes no block, and is counted
pub record FailsRead (old new : Disk) : Type 0 where
  pub planned : IsReadPlanned old.plan true
  pub counts : new ≡ record old { failures = old.failures + 1; plan = plan_after_read old.plan }

-- a good read: it gives the block's bytes, and changes no block
pub record GivesBlock (old : Disk) (block : ℕ) (bytes : List ℕ) (new : Disk) : Type 0 where
  pub planned : IsReadPlanned old.plan false
  pub gives : bytes ≡ bytes_on old.contents block
  pub counts : new ≡ record old { plan = plan_after_read old.plan }

-- a good read gives the block's bytes; a failed one gives any bytes
abbrev pub ReadsBlock : Disk → ℕ → Result (Unit {0}) Fault → List ℕ → Disk → Type 0
ReadsBlock old block (Ok done) bytes new = GivesBlock old block bytes new
ReadsBlock old block (Err fault) bytes new = FailsRead old new

-- a write that failed: it leaves its block anything, and is counted
pub record FailsWrite (old : Disk) (block : ℕ) (new : Disk) : Type 0 where
  pub planned : IsWritePlanned old.plan true
  pub keeps : KeepsOthers old.contents new.contents block
  pub counts : new.failures ≡ old.failures + 1
  pub limit : new.fault_limit ≡ old.fault_limit
  pub plan : new.plan ≡ plan_after_write old.plan

-- a good write: it sets its block, and changes no other
pub record SetsBlock (old : Disk) (block : ℕ) (bytes : List ℕ) (new : Disk) : Type 0 where
  pub planned : IsWritePlanned old.plan false
  pub sets : new ≡ record old { contents = slice_set old.contents block bytes; plan = plan_after_write old.plan }

-- a good write sets the block; a failed one leaves it anything
abbrev pub WritesBlock : Disk → ℕ → List ℕ → Result (Unit {0}) Fault → Disk → Type 0
WritesBlock old block bytes (Ok done) new = SetsBlock old block bytes new
WritesBlock old block bytes (Err fault) new = FailsWrite old block new

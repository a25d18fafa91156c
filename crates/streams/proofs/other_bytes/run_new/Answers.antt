-- The device has the blocks of the machine that was opened.
use Rattle.std.proofs.Common.{◌≡◌, ℕ, ◌≤◌, Bool, true, false, if◌then◌else◌, Some, None, sym, ap, ◌∙◌, subst, length, replicate}
use Rattle.std.proofs.Math.Nat.{le_of_eq}
use Rattle.std.proofs.lemmas.List.{length-replicate}
use Rattle.machine.proofs.Values.{some_inj}
use Rattle.machine.specs.Access.{page_size}
use Rattle.machine.specs.State.{blocks_of, is_config}
use Rattle.block_store.specs.Device.{Disk}
use Rattle.streams.proofs.other_bytes.run_new.Goals as goal

has_all : (fits : Bool) (n blocks : ℕ) → (if fits then Some n else None) ≡ Some blocks → n ≤ blocks
has_all true n blocks same = le_of_eq (some_inj same)
has_all false n blocks same = let wrong : None ≡ Some blocks = same in cc

pub run_over-ran-requires-clause-fits : goal.run_over-ran-requires-clause-fits
run_over-ran-requires-clause-fits g c κs within =
    let made = c.in_ok-blocks.blocks in
    let size = c.new-2.ensures ∙ ap (λ (d : Disk). length d.contents) c.in_ok-new.ensures ∙ length-replicate made (replicate page_size 0) in
    subst (λ (n : ℕ). blocks_of c.args.script.config ≤ n) (sym size)
    (has_all (is_config c.args.script.config) (blocks_of c.args.script.config) made (sym c.blocks_for.ensures ∙ c.in_ok-blocks.ensures.ok_part))

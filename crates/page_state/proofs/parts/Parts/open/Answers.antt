use Rattle.std.proofs.Common.{◌≡◌, ◌∙◌, length, sym, ap, arith}
use Rattle.std.specs.Prelude.{sum}
use Rattle.machine.specs.Slots.{count_there}
use Rattle.machine.specs.Pages.{has_frame, has_this_frame, has_swap, is_in_transfer}
use Rattle.files.specs.Files.{FilesOf}
use Rattle.page_state.specs.Owned.{has_this_block, is_going}
use Rattle.page_state.proofs.BalanceLemmas.{balanced-open}
use Rattle.page_state.proofs.CountLemmas.{counted-open}
use Rattle.page_state.proofs.PartsLemmas.{listed-open, lists-open}
use Rattle.page_state.proofs.parts.Parts.open.Goals as goal

pub returns-clause-agree : goal.returns-clause-agree
returns-clause-agree c =
    let pool = c.in-Ok.pool in
    let made = c.in-Ok.ensures in
    let slots = c.in_ok-slots.slots in
    let cut = c.in_ok-slots.ensures in
    let pages = c.in-Ok-new.pages in
    let none = c.in-Ok-new.ensures.pages in
    let frames = made.frames in
    let spares = made.spares in
    let fits = c.ranges.frames.fits in
    let moving_room = c.in_ok-moving.ensures.room in
    let tickets = c.in-Ok-new.ensures.tickets in
    let numbers = c.in-Ok-new.ensures.numbers in
    let blocks = cut.blocks in
    let sizes : sum pages.files.sizes ≡ sum c.args.files.sizes = ap (λ (files : FilesOf). sum files.sizes) c.in-Ok-new.ensures.files in
    let most = made.most_spares in
    let going : count_there is_going pages.pages ≡ 0 = ap (count_there is_going) none in
    record {
      kept = record {
        frames = rw frames (balanced-open has_this_frame has_frame c.args.frames pool.free pages.pages none made.once made.none_beyond made.all);
        blocks = rw cut.blocks (balanced-open has_this_block has_swap c.args.swap slots.free pages.pages none cut.once cut.none_beyond cut.all);
        counted = counted-open c.in_ok-counters.counters pages.pages none c.in_ok-counters.ensures.usage;
      };
      few = omega (arith, frames, fits);
      held = lists-open c.in_ok-held.held.lists pages.pages c.in_ok-held.ensures.groups _ c.in_ok-held.ensures.marks c.in_ok-held.ensures.hits none;
      moving = listed-open is_in_transfer _ _ c.in_ok-moving.ensures.numbers none;
      moving_room = omega (arith, frames, moving_room);
      held_groups = ap length c.in_ok-held.ensures.groups ∙ sym (ap length c.in_ok-counters.ensures.tree);
      held_numbers = c.in_ok-held.ensures.numbers ∙ sym numbers;
      page_groups = c.in-Ok-new.ensures.groups ∙ sym (ap length c.in_ok-counters.ensures.tree);
      page_frames = c.in-Ok-new.ensures.frames ∙ sym frames;
      numbers = omega (arith, frames, blocks, numbers);
      homes = ap (λ (files : FilesOf). files.first) c.in-Ok-new.ensures.files ∙ c.requires.homes ∙ sym blocks;
      spares = omega (arith, spares, most, going);
      most_spares = (let homes = c.pages-homes.ensures in let least = c.min-spares.ensures in omega (arith, frames, blocks, sizes, most, homes, least));
      tickets = omega (arith, frames, tickets);
    }

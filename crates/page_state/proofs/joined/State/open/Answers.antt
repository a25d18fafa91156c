use Rattle.std.proofs.Common.{◌∙◌, length, refl, sym, ap}
use Rattle.files.specs.Files.{FilesOf}
use Rattle.page_state.proofs.KinLemmas.{kin-root}
use Rattle.page_state.proofs.MappedLemmas.{mapped-open, homes-open}
use Rattle.page_state.proofs.joined.State.open.Goals as goal

pub invariant_of-result : goal.invariant_of-result
invariant_of-result c =
    let tree = c.in_ok-tree.ensures in
    let opened = c.in_ok-parts.ensures in
    record {
      sized = c.requires;
      agree = opened.agree;
      frames = opened.frames;
      swap = opened.swap;
      files = opened.files ∙ ap (λ (f : FilesOf). f.sizes) c.in_ok-files.ensures;
      page_numbers = opened.numbers;
      held_kin = rw (opened.kin, tree) kin-root;
      counted_kin = rw (c.in_ok-events.ensures.tree, tree) kin-root;
      mapped = mapped-open c.in_ok-parts.parts.pages.pages c.in-Ok.spaces.page_tables opened.pages c.in-Ok.ensures.page_tables;
      numbers = c.in-Ok.ensures.numbers ∙ c.numbers.ensures;
      homes = homes-open c.in_ok-tree.tree c.in-Ok.spaces.tasks c.in-Ok.ensures.tasks;
      flagged = rw (c.in_ok-flags.ensures, tree) refl;
      cursors = rw (c.in_ok-cursors.ensures, tree) refl;
      populated = c.in-Ok.ensures.groups ∙ sym (ap length tree);
    }

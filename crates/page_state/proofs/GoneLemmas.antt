-- A group goes, in all joined parts.
use Rattle.std.proofs.Common.{◌≡◌, ◌≢◌, ℕ, suc, ◌==◌, ◌&&◌, ◌||◌, not, Bool, true, false, List, [], ◌∷◌, length, length-set, Option, Some, None, eq-eqb, refl, sym, ap, ◌∙◌, subst, arith}
use Rattle.std.specs.Prelude.{slice_set, option_map}
use Rattle.machine.specs.declared.config.Placement.{Placement}
use Rattle.machine.specs.declared.refusal.Refusal.TheVariants.{NoEntry, Busy}
use Rattle.machine.specs.Tree.{Node, node_at, is_live, is_parent, is_child, has_children, under_at, without_group}
use Rattle.machine.specs.Pages.{Page, page_at, is_anon}
use Rattle.machine.specs.Tasks.{has_tasks, group_of_task}
use Rattle.machine.specs.declared.record.EventCounts.{EventCounts}
use Rattle.machine.specs.Refusals.{first_cause, rmdir_refusal}
use Rattle.machine.specs.State.{State}
use Rattle.machine.specs.Step.{regrouped}
use Rattle.machine.specs.Generations.{handed_over}
use Rattle.machine.specs.Order.{Cursor, no_cursor}
use Rattle.machine.specs.Lists.{Order}
use Rattle.machine.proofs.Values.{unlike}
use Rattle.machine.proofs.TreeLemmas.{under_at-None, under_at-step}
use Rattle.machine.proofs.RemovedLemmas.{without-other}
use Rattle.page_lists.proofs.RegroupedLemmas.{elsewhere, regrouped-test}
use Rattle.machine.proofs.RemovedLemmas.{no_child}
use Rattle.group_tree.specs.Kin.{AreKin}
use Rattle.group_tree.specs.Lineages.{IsLineage}
use Rattle.group_tree.proofs.LineageLemmas.{live-within}
use Rattle.group_tree.proofs.RemovedTables.{kin-removed}
use Rattle.reclaim.specs.Cursors.{CursorsOf}
use Rattle.memory_events.specs.Tables.{EventTable}
use Rattle.page_state.specs.declared.joined.State.TheInside.{Inside}
use Rattle.page_state.specs.Owned.{PartsAgree}
use Rattle.held_pages.specs.Held.{HeldOf}
use Rattle.page_counter.specs.Counts.{Counts}
use Rattle.pages.specs.PagesOf.{PagesOf, byte_in}
use Rattle.machine.specs.declared.record.Limits.{Limits}
use Rattle.page_state.specs.States.{StateOf}
use Rattle.page_state.specs.Changes.{RemovesGroup}
use Rattle.page_state.specs.Joined.{joined_of, IsJoined}
use Rattle.page_state.specs.Mapped.{is_settled}
use Rattle.page_state.proofs.MappedLemmas.{is_cached, mapped-fits, file_unmapped}

-- ---- whether it may go

-- a group that nothing keeps is another than the root, and is there, and has neither children nor tasks
pub record MayGo (s : State) (g : ℕ) : Type 0 where
  pub below : g ≢ 0
  pub live : is_live s.tree g ≡ true
  pub childless : has_children s.tree g ≡ false
  pub taskless : has_tasks s.tasks g ≡ false

pub may-go : (s : State) (g : ℕ) → rmdir_refusal s g ≡ None → MayGo s g
may-go s g none = by_tests (is_live s.tree g) (g == 0) (has_children s.tree g) (has_tasks s.tasks g) refl refl refl refl none
  where
    by_tests : (live root children tasks : Bool) → is_live s.tree g ≡ live → (g == 0) ≡ root → has_children s.tree g ≡ children → has_tasks s.tasks g ≡ tasks
        → first_cause (not live) NoEntry (first_cause (root || (children || tasks)) Busy None) ≡ None → MayGo s g
    by_tests false root children tasks l r c t e = cc
    by_tests true true children tasks l r c t e = cc
    by_tests true false true tasks l r c t e = cc
    by_tests true false false true l r c t e = cc
    by_tests true false false false l r c t e = record { below = λ same. unlike (g == 0) (eq-eqb g 0 same) r; live = l; childless = c; taskless = t }

-- every group but the root hangs below one
pub has-parent : (tree : List Node) (g : ℕ) → IsLineage tree → is_live tree g ≡ true → g ≢ 0 → (node_at tree g).parent ≡ None → ⊥
has-parent tree g is live below none = by_test (0 == g) refl (sym (under_at-step tree is.earlier_parents 0 g) ∙ is.rooted g (live-within tree g live))
  where
    by_test : (b : Bool) → (0 == g) ≡ b → ((0 == g) || under_at tree 0 (node_at tree g).parent) ≡ true → ⊥
    by_test true same e = below (grind (arith, same))
    by_test false other e =
        unlike ((0 == g) || under_at tree 0 (node_at tree g).parent) e
        (ap (λ (b : Bool). b || under_at tree 0 (node_at tree g).parent) other ∙ ap (under_at tree 0) none ∙ under_at-None tree is.earlier_parents 0)

-- ---- without its path it is the same group

no_children : (tree : List Node) (g : ℕ) → ((h : ℕ) → is_child g (node_at tree h) ≡ false) → has_children tree g ≡ false
no_children [] g none = refl
no_children (x ∷ tree) g none = ap (λ (b : Bool). b || has_children tree g) (none 0) ∙ no_children tree g (λ h. none (suc h))

pub kin-childless : (kin tree : List Node) (g : ℕ) → AreKin kin tree → has_children tree g ≡ false → has_children kin g ≡ false
kin-childless kin tree g are none =
    no_children kin g (λ h. ap (λ (b : Bool). b && is_parent (node_at kin h).parent g) (are.living h) ∙ ap (λ (o : Option ℕ). is_live tree h && is_parent o g) (are.parents h) ∙ no_child tree g h none)

-- ---- what is joined

settled_same : (placement : Placement) (g parent : ℕ) (slot : Option Page) → is_settled (option_map (regrouped placement g parent) slot) ≡ is_settled slot
settled_same placement g parent None = refl
settled_same placement g parent (Some page) = refl

none_was : (placement : Placement) (g parent : ℕ) (slot : Option Page) → option_map (regrouped placement g parent) slot ≡ None → slot ≡ None
none_was placement g parent None e = refl
none_was placement g parent (Some page) e = let wrong : Some (regrouped placement g parent page) ≡ None = e in cc

module _ (s : Inside) (is : IsJoined s) (g parent : ℕ) (may : MayGo (joined_of s).tables g) (pages : PagesOf) (counters : Counts) (held : HeldOf) (agree : PartsAgree (record (s.parts) { pages = pages; counters = counters; held = held }))
    (handed : (p : ℕ) → page_at pages.pages p ≡ option_map (regrouped s.config.placement g parent) (page_at s.parts.pages.pages p)) (others : pages ≡ record (s.parts.pages) { pages = pages.pages; bytes = pages.bytes }) (kin : counters.tree ≡ without_group s.parts.counters.tree g)
    (cursors : CursorsOf) (served : cursors.cursors ≡ slice_set s.cursors.cursors g no_cursor) (events : EventTable) (counted : events.tree ≡ without_group s.events.tree g) (tree : List Node) (fewer : tree ≡ without_group s.tree g) where
  abbrev after : Inside
  after = record s { tree = tree; parts = record (s.parts) { pages = pages; counters = counters; held = held }; cursors = cursors; events = events }

  pub joined-gone : IsJoined after
  joined-gone =
      record {
        sized = is.sized;
        agree = agree;
        frames = is.frames;
        swap = is.swap;
        files = ap (λ (t : PagesOf). t.files.sizes) others ∙ is.files;
        numbers = is.numbers ∙ sym (ap (λ (t : PagesOf). t.numbers) others);
        page_numbers = ap (λ (t : PagesOf). t.numbers) others ∙ is.page_numbers;
        held_kin = subst (λ (k : List Node). AreKin k tree) (sym kin) (subst (AreKin (without_group s.parts.counters.tree g)) (sym fewer) (kin-removed s.parts.counters.tree s.tree g is.held_kin));
        counted_kin = subst (λ (k : List Node). AreKin k tree) (sym counted) (subst (AreKin (without_group s.events.tree g)) (sym fewer) (kin-removed s.events.tree s.tree g is.counted_kin));
        mapped = mapped-fits pages.pages s.spaces.page_tables
            (λ p.
            record {
              none = λ gone. is.mapped.there p (none_was s.config.placement g parent (page_at s.parts.pages.pages p) (sym (handed p) ∙ gone));
              least = (let least = is.mapped.least p in let same = ap is_settled (handed p) ∙ settled_same s.config.placement g parent (page_at s.parts.pages.pages p) in omega (arith, least, same));
              cached = λ e. file_unmapped s.parts.pages.pages s.spaces.page_tables is.mapped p (sym (ap is_cached (handed p) ∙ regrouped-test (λ page. not (is_anon page.content)) s.config.placement g parent (λ page. refl) (page_at s.parts.pages.pages p)) ∙ e);
            });
        homes = λ t alive. ap (λ (ns : List Node). is_live ns (group_of_task s.spaces.tasks t)) fewer
            ∙ ap (λ (n : Node). n.live) (without-other s.tree g (group_of_task s.spaces.tasks t) (elsewhere s.spaces.tasks g t may.taskless alive)) ∙ is.homes t alive;
        flagged = is.flagged ∙ sym (ap length fewer ∙ length-set s.tree g _);
        cursors = ap length served ∙ length-set s.cursors.cursors g no_cursor ∙ is.cursors ∙ sym (ap length fewer ∙ length-set s.tree g _);
        populated = is.populated ∙ sym (ap length fewer ∙ length-set s.tree g _);
      }

  pub removes-group : (node_at s.tree g).parent ≡ Some parent → counters.limits ≡ s.parts.counters.limits → ((q o : ℕ) → byte_in pages.bytes q o ≡ byte_in s.parts.pages.bytes q o)
      → held ≡ record (s.parts.held) { lists = record { groups = handed_over g parent s.parts.held.lists.groups; marks = s.parts.held.lists.marks; hits = s.parts.held.lists.hits } } → events.counted ≡ s.events.counted → RemovesGroup (joined_of s) (joined_of after) g
  removes-group below limits bytes takes same =
      let old : StateOf = joined_of s in
      record {
        parent = parent;
        below = below;
        pages = handed;
        tables = ap (λ (t : List Node). record (old.tables) { tree = t; limits = counters.limits; pages = pages.pages; counted = events.counted }) fewer
            ∙ ap (λ (ls : List Limits). record (old.tables) { tree = without_group s.tree g; limits = ls; pages = pages.pages; counted = events.counted }) limits
            ∙ ap (λ (cs : List EventCounts). record (old.tables) { tree = without_group s.tree g; limits = s.parts.counters.limits; pages = pages.pages; counted = cs }) same;
        order = ap (λ (x : HeldOf). let o : Order = record { held = x.lists; cursors = cursors.cursors } in o) takes
            ∙ ap (λ (cs : List Cursor). let o : Order = record { held = record { groups = handed_over g parent s.parts.held.lists.groups; marks = s.parts.held.lists.marks; hits = s.parts.held.lists.hits }; cursors = cs } in o) served;
        bytes = bytes;
        flights = ap (λ (t : PagesOf). t.flights) others;
      }

-- What a page owned that is gone is not free, and its charge is out.
use Rattle.std.proofs.Common.{◌≡◌, ℕ, ◌<◌, ◌==◌, ◌+◌, ◌&&◌, Bool, true, false, length, Option, Some, None, eqb-true, refl, sym, ap, subst, arith, ◌∙◌}
use Rattle.machine.specs.Slots.{Changes}
use Rattle.machine.specs.Tree.{IsTree, under}
use Rattle.machine.proofs.SlotLemmas.{one_if}
use Rattle.machine.specs.Pages.{Residence, Away, Pages, is_anon, is_number, has_swap, frame_at, block_at, is_some_number}
use Rattle.counts.specs.Numbers.{times}
use Rattle.frames.specs.Pool.{PoolOf}
use Rattle.block_store.specs.Slots.{SlotsOf}
use Rattle.page_counter.specs.Counts.{Counts, Charges, IsOut}
use Rattle.pages.specs.declared.owned_page.OwnedPage.{OwnedPage}
use Rattle.pages.specs.declared.owned_page.Backing.{Backing}
use Rattle.pages.specs.declared.owned_page.Backing.TheVariants as backing
use Rattle.pages.specs.declared.owned_page.Content.{Content as Holds}
use Rattle.pages.specs.declared.owned_page.Content.TheVariants as holds
use Rattle.pages.specs.Backed.{is_backing_of, is_memory}
use Rattle.pages.specs.Records.{content_of, label_holding, block_of, page_of}
use Rattle.pages.specs.PagesOf.{Label, labelled, HasResidence}
use Rattle.page_state.specs.Owned.{as_number, has_this_block, has_slot, is_slot, AreKept, Leaves}
use Rattle.page_state.specs.Room.{LacksFrame}
use Rattle.page_state.proofs.BalanceLemmas.{Trades}
use Rattle.page_state.proofs.CountLemmas.{uncharge-usage, page-out}
use Rattle.page_state.proofs.PartsLemmas.{kept-step, frame-out, block-out}

-- ---- what memory in transfer has, and a page of a file has not

pub slot-is : (content : Holds) (from : Backing) (b : ℕ) → is_backing_of content from ≡ true → is_slot from b ≡ true → (is_anon (content_of content) ≡ true) × (Some (block_of from) ≡ Some b)
slot-is holds.Memory (backing.Swap slot) b fits hit = (refl, ap Some (eqb-true slot b hit))
slot-is (holds.OfFile at dirty) (backing.Swap slot) b fits hit = absurd cc
slot-is content (backing.Home block) b fits hit = absurd cc

this-slot : (content : Holds) (from : Backing) (b : ℕ) → is_backing_of content from ≡ true → one_if (is_anon (content_of content) && (block_of from == b)) ≡ as_number (is_slot from b)
this-slot holds.Memory (backing.Swap slot) b fits = refl
this-slot holds.Memory (backing.Home block) b fits = absurd cc
this-slot (holds.OfFile at dirty) (backing.Swap slot) b fits = absurd cc
this-slot (holds.OfFile at dirty) (backing.Home block) b fits = refl

some-slot : (content : Holds) (from : Backing) → is_backing_of content from ≡ true → one_if (is_anon (content_of content) && true) ≡ as_number (has_slot from)
some-slot holds.Memory (backing.Swap slot) fits = refl
some-slot holds.Memory (backing.Home block) fits = absurd cc
some-slot (holds.OfFile at dirty) (backing.Swap slot) fits = absurd cc
some-slot (holds.OfFile at dirty) (backing.Home block) fits = refl

-- a page that is held has no block, whatever it holds
pub no-slot : (anon : Bool) → one_if (anon && false) ≡ 0
no-slot true = refl
no-slot false = refl

-- ---- what a page leaves

module _ (c : Counts) (pool : PoolOf) (slots : SlotsOf) (owned : OwnedPage) (label : Label) (r : Residence) (leaves : Leaves c pool slots (page_of owned)) (is : page_of owned ≡ labelled label r) where
  stood : HasResidence leaves.pages leaves.p label r
  stood = leaves.stood ∙ ap Some is

  pub leaves-frame : (f : ℕ) → frame_at r ≡ Some f → (times pool.free f ≡ 0) × (f < pool.frames)
  leaves-frame f framed = frame-out c pool slots leaves.pages leaves.p label r f stood framed leaves.kept

  pub leaves-block : (b : ℕ) → is_anon label.content ≡ true → block_at r ≡ Some b → (times slots.free b ≡ 0) × (b < slots.blocks)
  leaves-block b anon blocked = block-out c pool slots leaves.pages leaves.p label r b stood anon blocked leaves.kept

  pub leaves-charge : IsTree c.tree → is_some_number (frame_at r) ≡ true → IsOut c label.group
  leaves-charge tree framed = page-out c leaves.pages leaves.rest leaves.p (labelled label r) None tree stood framed leaves.gone refl tt leaves.kept.counted

-- its frame and its charge go back, and its block if it is memory
pub released : (c c' : Counts) (pool pool' : PoolOf) (slots slots' : SlotsOf) (label : Label) (r : Residence) (f charge : ℕ) → frame_at r ≡ Some f → label.group ≡ charge → LacksFrame pool' pool f → Charges c' c charge → slots'.blocks ≡ slots.blocks
    → Trades has_this_block has_swap slots.free slots'.free (Some (labelled label r)) None → (pages rest : Pages) (p : ℕ) → HasResidence pages p label r → Changes pages rest p None → AreKept c pool slots pages → AreKept c' pool' slots' rest
released c c' pool pool' slots slots' label r f charge framed own back charged blocks cut pages rest p stood gone kept =
    let uncharged = subst (Charges c' c) (sym own) charged in
    kept-step c c' pool pool' slots slots' pages rest p (Some (labelled label r)) None stood gone (sym back.frames)
    (record {
      counts = λ n. (let k = back.counts n in let here = ap (λ (o : Option ℕ). one_if (is_number o n)) framed in omega (arith, k, here));
      len = (let k = back.fewer in let here = ap (λ (o : Option ℕ). one_if (is_some_number o)) framed in omega (arith, k, here));
    })
    blocks cut
    (record {
      tree = sym uncharged.groups.tree;
      usage = λ a lt. (let u = uncharge-usage c c' label.group a uncharged lt in let here = ap (λ (o : Option ℕ). one_if (is_some_number o && under c.tree a label.group)) framed in omega (arith, u, here));
      live = tt;
    })
    kept

-- what is backed had its slot, if it is memory
pub backed-trades : (slots slots' : SlotsOf) (content : Holds) (from : Backing) (g : ℕ) (r : Residence) → is_backing_of content from ≡ true → block_at r ≡ Some (block_of from) → ((b : ℕ) → times slots'.free b ≡ times slots.free b + as_number (is_slot from b))
    → length slots'.free ≡ length slots.free + as_number (has_slot from) → Trades has_this_block has_swap slots.free slots'.free (Some (labelled (label_holding content g) r)) None
backed-trades slots slots' content from g r fits blocked counts more =
    record {
      counts = λ n. (let k = counts n in let here = ap (λ (o : Option ℕ). one_if (is_anon (content_of content) && is_number o n)) blocked in let own = this-slot content from n fits in omega (arith, k, here, own));
      len = (let here = ap (λ (o : Option ℕ). one_if (is_anon (content_of content) && is_some_number o)) blocked in let own = some-slot content from fits in omega (arith, more, here, own));
    }

-- a page that is on a slot alone is memory, and had the slot
pub away-memory : (content : Holds) → is_memory content ≡ true → is_anon (content_of content) ≡ true
away-memory holds.Memory is = refl
away-memory (holds.OfFile at dirty) is = absurd cc

pub away-trades : (slots slots' : SlotsOf) (content : Holds) (g slot : ℕ) → is_anon (content_of content) ≡ true → ((b : ℕ) → times slots'.free b ≡ times slots.free b + one_if (slot == b)) → length slots'.free ≡ length slots.free + 1
    → Trades has_this_block has_swap slots.free slots'.free (Some (labelled (label_holding content g) (Away slot))) None
away-trades slots slots' content g slot anon counts more =
    record {
      counts = λ n. (let k = counts n in let own = ap (λ (a : Bool). one_if (a && (slot == n))) anon in omega (arith, k, own));
      len = (let own = ap (λ (a : Bool). one_if (a && true)) anon in omega (arith, more, own));
    }

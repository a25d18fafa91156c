-- Nothing but an access leaves more pages charged under a group.
use Rattle.std.proofs.Common.{◌≡◌, inl, inr, ℕ, ◌+◌, ◌<◌, ◌≤◌, ◌&&◌, Bool, true, false, List, [], ◌∷◌, ◌++◌, length, Option, Some, None, refl, sym, ap, ◌∙◌, arith}
use Rattle.std.specs.Prelude.{IfSome}
use Rattle.std.proofs.lemmas.Bool.{cases_lt, and_parts}
use Rattle.std.proofs.Math.ListN.{get_or-eq_default}
use Rattle.machine.specs.declared.record.OomGroup.{OomGroup}
use Rattle.machine.specs.declared.record.Limits.{Limits}
use Rattle.machine.specs.declared.record.EventCounts.{EventCounts}
use Rattle.machine.specs.declared.event.Event.{Event}
use Rattle.machine.specs.declared.event.Event.TheVariants as event
use Rattle.machine.specs.declared.reply.Reply.{Reply}
use Rattle.machine.specs.declared.reply.Reply.TheVariants as reply
use Rattle.machine.specs.Slots.{at, there_and, Changes}
use Rattle.machine.specs.Tree.{Node, no_node, is_live, under, IsTree}
use Rattle.machine.specs.Pages.{Residence, Page, page_at, frame_at, is_some_number, has_frame, is_charged, charged}
use Rattle.machine.specs.State.{Opening, State, usage}
use Rattle.machine.specs.Step.{still}
use Rattle.machine.specs.Legal.{Legal}
use Rattle.machine.specs.declared.entry.Entry.{Entry}
use Rattle.machine.proofs.TreeLemmas.{under_at-append}
use Rattle.machine.proofs.SlotLemmas.{one_if, count_there-changes}
use Rattle.laws.specs.Laws.{OnlyAccessesCharge, WriteOutsStayCharged}
use Rattle.machine.proofs.TestLemmas.{bool_le, tests-less, count-less}
use Rattle.legal.proofs.SoundLemmas.{still_passes, legal-sound, legal-fit}
use Rattle.legal.proofs.Did.{is_access, is_out, ChargedTo, ItsOwn, ItsReaders, same_group, Moves, Rests, Comes, Goes, Lands, Lies, Did, Kept, Made, Moved, Cached, Dropped, Ended, Spawned, Forked, Freed, Attached, Removed, Grown, step_did}
use Rattle.legal.proofs.RemovedCounts.{usage-no_more}
use Rattle.machine.proofs.Values.{unlike}

-- a group more has no pages yet, and changes nobody else's count
grown_slot : (tree : List Node) (x : Node) (a : ℕ) → IsTree tree → (slot : Option Page) → IfSome slot (λ page. is_live tree page.group ≡ true) → there_and (is_charged (tree ++ x ∷ []) a) slot ≡ true → there_and (is_charged tree a) slot ≡ true
grown_slot tree x a falls None live e = e
grown_slot tree x a falls (Some page) live e = sym (ap (λ b. has_frame page && b) (under_at-append tree (x ∷ []) falls a (Some page.group) below)) ∙ e
  where
    below : page.group < length tree
    below =
        elim (cases_lt page.group (length tree)) [
          | inl lt ↦ lt
          | inr beyond ↦ absurd (let none = ap (λ (n : Node). n.live) (get_or-eq_default tree no_node beyond) in cc)
        ]

-- the groups of pages are there
groups_live : (opening : Opening) (history : List Entry) (s : State) → Legal opening history s → (p : ℕ) → IfSome (page_at s.pages p) (λ page. is_live s.tree page.group ≡ true)
groups_live opening history s legal p = by_slot (page_at s.pages p) refl
  where
    by_slot : (slot : Option Page) → page_at s.pages p ≡ slot → IfSome slot (λ page. is_live s.tree page.group ≡ true)
    by_slot None there = tt
    by_slot (Some page) there = (legal-fit opening history s legal p page there).live

module _ (before after : State) (a : ℕ) where
  Less : Type 0
  Less = usage after a ≤ usage before a

  never : Less → usage before a < usage after a → ⊥
  unfolding Less
  never le more = absurd (omega (arith, le, more))

  Kept_so : Type 0
  Kept_so = usage after a ≡ usage before a

  -- the same groups, and other pages
  recounted : after.tree ≡ before.tree → usage after a ≡ charged before.tree after.pages a
  recounted tree = ap (λ (ns : List Node). charged ns after.pages a) tree

  -- one page changes: the count goes by that page's
  one_changes : (p : ℕ) (slot to : Option Page) → after.tree ≡ before.tree → page_at before.pages p ≡ slot → Changes before.pages after.pages p to
      → usage after a + one_if (there_and (is_charged before.tree a) slot) ≡ usage before a + one_if (there_and (is_charged before.tree a) to)
  one_changes p slot to tree there changes =
      let same = recounted tree in
      let both = count_there-changes (is_charged before.tree a) before.pages after.pages p to changes in
      let stood : one_if (there_and (is_charged before.tree a) (at before.pages p)) ≡ one_if (there_and (is_charged before.tree a) slot) = ap (λ (x : Option Page). one_if (there_and (is_charged before.tree a) x)) there in
      omega (arith, same, both, stood)

  made_less : (x : Node) (ls : List Limits) (fs : List OomGroup) (counted : List EventCounts) → IsTree before.tree → ((p : ℕ) → IfSome (page_at before.pages p) (λ page. is_live before.tree page.group ≡ true)) → after ≡ record before { tree = before.tree ++ x ∷ []; limits = ls; flags = fs; counted = counted } → Less
  unfolding Less
  made_less x ls fs counted falls groups e =
      let same : usage after a ≡ charged (before.tree ++ x ∷ []) before.pages a = ap (λ (s : State). usage s a) e in
      let le = tests-less (is_charged before.tree a) (is_charged (before.tree ++ x ∷ []) a) before.pages before.pages (λ n. grown_slot before.tree x a falls (page_at before.pages n) (groups n)) in
      omega (arith, same, le)

  -- a page that has a frame now had one before, but for one that an access reads in
  framed : (what : Event) (answer : Reply) (page : Page) (dirty : Bool) (now : Residence) → is_access what ≡ false → Moves before what answer page dirty now → is_some_number (frame_at now) ≡ true → has_frame page ≡ true
  framed what answer page dirty now other (Rests is memory stays) e = ap (λ r. is_some_number (frame_at r)) (sym is) ∙ e
  framed what answer page dirty now other (Comes frame block ticket access out away is clean unused free) e = unlike (is_access what) access other
  framed what answer page dirty now other (Goes frame block ticket held is as_it_was goes fresh) e = ap (λ r. is_some_number (frame_at r)) held
  framed what answer page dirty now other (Lands frame out had is as_it_was arrives) e = ap is_some_number had
  framed what answer page dirty now other (Lies frame block out had on is as_it_was anon) e = ap is_some_number had

  -- a page is whose it was, but one that an access reads in
  unread : (what : Event) (page : Page) (to : ℕ) → is_access what ≡ false → ChargedTo before what page to → to ≡ page.group
  unread what page to other (ItsOwn same) = same
  unread what page to other (ItsReaders t block access alive away reads) = unlike (is_access what) access other

  -- and the same is charged for one that has a frame
  charged_alike : (what : Event) (page : Page) (to : ℕ) → ChargedTo before what page to → one_if (has_frame page && under before.tree a to) ≡ one_if (is_charged before.tree a page)
  charged_alike what page to whose = by_frame (has_frame page) refl
    where
      by_frame : (b : Bool) → has_frame page ≡ b → one_if (b && under before.tree a to) ≡ one_if (b && under before.tree a page.group)
      by_frame true framed = ap (λ (g : ℕ). one_if (under before.tree a g)) (same_group before what page to framed whose)
      by_frame false unframed = refl

  -- the pages that nothing maps any more are gone
  stilled_less : after.tree ≡ before.tree → ((p : ℕ) → page_at after.pages p ≡ still after.page_tables p (page_at before.pages p)) → Less
  unfolding Less
  stilled_less tree pages =
      let same = recounted tree in
      let fewer = count-less (is_charged before.tree a) before.pages after.pages
      (λ n e. still_passes after.page_tables n (is_charged before.tree a) (page_at before.pages n) (sym (ap (there_and (is_charged before.tree a)) (pages n)) ∙ e)) in
      omega (arith, same, fewer)

  did_less : (what : Event) (answer : Reply) → is_access what ≡ false → IsTree before.tree → ((p : ℕ) → IfSome (page_at before.pages p) (λ page. is_live before.tree page.group ≡ true)) → Did before what answer after → Less
  unfolding Less
  did_less what answer other falls groups (Kept limits flags counted e) = let same : usage after a ≡ usage before a = ap (λ (s : State). usage s a) e in omega (arith, same)
  did_less what answer other falls groups (Made t v p frame access out alive shared within free unused placed shown e) = unlike (is_access what) access other
  did_less what answer other falls groups (Moved p page to dirty now counted there whose placed moves mapped e) =
      let one = one_changes p (Some page) _ (ap (λ (s : State). s.tree) e) there placed in
      let less : one_if (is_some_number (frame_at now) && under before.tree a to) ≤ one_if (is_charged before.tree a page) =
      bool_le _ _
      (λ is.
      let both = and_parts (is_some_number (frame_at now)) (under before.tree a to) is in
      rw (framed what answer page dirty now other moves both.0, ap (under before.tree a) (sym (unread what page to other whose)) ∙ both.1) refl) in
      omega (arith, one, less)
  did_less what answer other falls groups (Cached t f q p frame ticket access out alive unread within free unused fresh filed placed e) = unlike (is_access what) access other
  did_less what answer other falls groups (Dropped p page counted out there may_go went gone e) = let one = one_changes p (Some page) None (ap (λ (s : State). s.tree) e) there gone in omega (arith, one)
  did_less what answer other falls groups (Ended is_gone ending counted out dead ends) = stilled_less (ap (λ (s : State). s.tree) ends.state) ends.pages
  did_less what answer other falls groups (Spawned t g is sets shown e) = let same : usage after a ≡ usage before a = ap (λ (s : State). usage s a) e in omega (arith, same)
  did_less what answer other falls groups (Forked t child is out alive sets copies e) = let same : usage after a ≡ usage before a = ap (λ (s : State). usage s a) e in omega (arith, same)
  did_less what answer other falls groups (Freed t v is out alive frees) = stilled_less (ap (λ (s : State). s.tree) frees.state) frees.pages
  did_less what answer other falls groups (Attached t g is out sets e) = let same : usage after a ≡ usage before a = ap (λ (s : State). usage s a) e in omega (arith, same)
  did_less what answer other falls groups (Removed g is out removes) = usage-no_more before after g.0 removes falls a
  did_less what answer other falls groups (Grown path is out e) = made_less _ _ _ _ falls groups e

  -- a page has a frame when it begins to be written out, and had one before
  framed_still : (what : Event) (answer : Reply) (page : Page) (dirty : Bool) (now : Residence) → is_out answer ≡ true → Moves before what answer page dirty now → frame_at now ≡ frame_at page.residence
  framed_still what answer page dirty now out (Rests is memory stays) = ap frame_at is
  framed_still what answer page dirty now out (Comes frame block ticket access other away is clean unused free) = unlike (is_out answer) out other
  framed_still what answer page dirty now out (Goes frame block ticket held is as_it_was goes fresh) = ap frame_at is ∙ sym (ap frame_at held)
  framed_still what answer page dirty now out (Lands frame other had is as_it_was arrives) = unlike (is_out answer) out other
  framed_still what answer page dirty now out (Lies frame block other had on is as_it_was anon) = unlike (is_out answer) out other

  did_keep : (what : Event) (answer : Reply) → is_out answer ≡ true → Did before what answer after → Kept_so
  unfolding Kept_so
  did_keep what answer out (Kept limits flags counted e) = ap (λ (s : State). usage s a) e
  did_keep what answer out (Made t v p frame access other alive shared within free unused placed shown e) = unlike (is_out answer) out other
  did_keep what answer out (Moved p page to dirty now counted there whose placed moves mapped e) =
      let one = one_changes p (Some page) _ (ap (λ (s : State). s.tree) e) there placed in
      let same : one_if (is_some_number (frame_at now) && under before.tree a to) ≡ one_if (is_charged before.tree a page) =
      ap (λ o. one_if (is_some_number o && under before.tree a to)) (framed_still what answer page dirty now out moves) ∙ charged_alike what page to whose in
      omega (arith, one, same)
  did_keep what answer out (Cached t f q p frame ticket access other alive unread within free unused fresh filed placed e) = unlike (is_out answer) out other
  did_keep what answer out (Dropped p page counted other there may_go went gone e) = unlike (is_out answer) out other
  did_keep what answer out (Ended is_gone ending counted other dead ends) = unlike (is_out answer) out other
  did_keep what answer out (Spawned t g is sets shown e) = ap (λ (s : State). usage s a) e
  did_keep what answer out (Forked t child is other alive sets copies e) = unlike (is_out answer) out other
  did_keep what answer out (Freed t v is other alive frees) = unlike (is_out answer) out other
  did_keep what answer out (Attached t g is other sets e) = unlike (is_out answer) out other
  did_keep what answer out (Removed g is other removes) = unlike (is_out answer) out other
  did_keep what answer out (Grown path is other e) = unlike (is_out answer) out other

pub write_outs_stay_charged : WriteOutsStayCharged
unfolding Kept_so
write_outs_stay_charged before after what n a step = did_keep before after a what (reply.Out (record { 0 = n })) refl (step_did before after what _ step)

pub only_accesses_charge : OnlyAccessesCharge
only_accesses_charge opening history before after (event.Access t place op) answer a legal step more = tt
only_accesses_charge opening history before after what answer a legal step more =
    never before after a (did_less before after a what answer refl (legal-sound opening history before legal).1.falls (groups_live opening history before legal) (step_did before after what answer step)) more

-- Which pages a turn of a schedule marks: the one that it hit, and no other.
use Rattle.std.specs.Prelude.{◌⊎◌, Ok, Err}
use Rattle.std.proofs.Common.{◌≡◌, ◌≢◌, inl, inr, ℕ, zero, suc, ◌/◌, ◌%◌, ◌+◌, ◌==◌, ◌&&◌, ◌||◌, not, nat_le, nat_lt, Bool, true, false, cond, MatchBool, List, ◌∷◌, ◌++◌, length, Option, Some, None, eq-eqb, eqb-true, refl, sym, ap, ◌∙◌, subst, arith}
use Rattle.std.specs.Int.{bit_at}
use Rattle.std.proofs.lemmas.Bool.{and_parts, true≢false}
use Rattle.std.proofs.lemmas.Bool.Decides.{eqb_tells, nat_tests}
use Rattle.machine.specs.declared.command.Actor.{Actor}
use Rattle.machine.specs.declared.command.Step.{Step as Line}
use Rattle.machine.specs.declared.command.Reply.{Reply as Told_by}
use Rattle.machine.specs.declared.config.Config.{Config}
use Rattle.machine.specs.declared.config.Placement.{Placement}
use Rattle.machine.specs.declared.config.Placement.TheVariants.{Linux}
use Rattle.machine.specs.declared.entry.Entry.{Entry}
use Rattle.machine.specs.declared.event.Op.{Op}
use Rattle.machine.specs.declared.event.Place.{Place}
use Rattle.machine.specs.declared.event.Place.TheVariants.{File}
use Rattle.machine.specs.declared.record.Kind.{Kind}
use Rattle.machine.specs.declared.event.Event.{Event as Plain_event}
use Rattle.machine.specs.declared.event.Event.TheVariants as plain
use Rattle.machine.specs.declared.id.FrameId.{FrameId}
use Rattle.machine.specs.declared.id.TaskId.{TaskId}
use Rattle.machine.specs.declared.reply.Reply.{Reply as Plain_reply}
use Rattle.machine.specs.declared.reply.Reply.TheVariants as said_of
use Rattle.machine.specs.Slots.{there_and}
use Rattle.machine.specs.Pages.{Content, Memory, OfFile, Residence, Held, Coming, Going, Away, Page, page_at, is_anon, is_held, is_held_at, is_held_in, file_page, frame_at}
use Rattle.machine.specs.Generations.{of_kind}
use Rattle.machine.specs.State.{Opening, opening_of, free_frames}
use Rattle.machine.specs.Aging.{is_marked}
use Rattle.machine.specs.Lists.{HeldLists, hits_at, kind_at, is_held_of, Youngest, hits_kept, GoesOn, shown_at, has_bit, is_in_bits_at, is_in_bits, is_last_hit, is_marking, hits_with}
use Rattle.machine.specs.Call.{Past, Caller, leaves_entry, entry_of, Answers, Called}
use Rattle.machine.proofs.Values.{unlike}
use Rattle.machine.proofs.EntryLemmas.{entries-one}
use Rattle.block_store.specs.Device.{Disk}
use Rattle.book_events.specs.declared.event.Event.{Event}
use Rattle.book_events.specs.declared.event.Reply.{Reply}
use Rattle.book_events.specs.declared.event.Reply.TheVariants as said
use Rattle.book_events.specs.Events.{event_of, reply_of}
use Rattle.legal.proofs.StepLemmas.{IsHit, access-hits, step-places}
use Rattle.legal.proofs.OpeningLemmas.{step_opening}
use Rattle.page_lists.proofs.HeldLemmas.{SamePlaces}
use Rattle.machine.proofs.FileLemmas.{file_page-there}
use Rattle.legal.proofs.SoundLemmas.{legal-sound, pages_share_no_frame}
use Rattle.turns.specs.declared.turn.Access.{Access}
use Rattle.turns.specs.declared.turn.Pending.{Pending}
use Rattle.turns.specs.declared.turn.Pending.TheVariants as pending
use Rattle.turns.specs.declared.turn.Stage.{Stage}
use Rattle.turns.specs.declared.turn.Stage.TheVariants as stage
use Rattle.turns.specs.declared.turn.Want.{Want}
use Rattle.turns.specs.declared.turn.Want.TheVariants as want
use Rattle.turns.specs.declared.turn.Transition.{Transition}
use Rattle.driver.specs.declared.seat.Outcome.{Outcome}
use Rattle.driver.specs.declared.seat.Activity.{Activity}
use Rattle.driver.specs.declared.seat.Activity.TheVariants.{Rests, Begun, Does}
use Rattle.turns.specs.Turns.{Judged, judged, Told, access_event, wants_pages, marks_hit}
use Rattle.driver.specs.Schedule.{World, first_world, activity_of, Asks, MarksAfter, WantTurn, wants_at, StageTurn, JudgedTurn, ActivityTurn, Turn, Runs}
use Rattle.driver.proofs.Keeps.{balance_either, watch_either, OfCommand, of_command-leaves, Tries, FineWant, wants_fine}
use Rattle.driver.proofs.MarkLemmas.{marks-stay}
use Rattle.laws.specs.Laws.{begins_at, stage_at, leaves_hit, counts_in, marks_next, marks_in, Hits, HitsMark, OnlyHitsMark, FiveReadsMark, MergesAreServed}
use Rattle.laws.proofs.Legals.{IsLegal, legal-called}
use Rattle.laws.proofs.CallLemmas.{called_or, called_answers, is_refusal, is_named, named-in, only_merges_mark, only_last_hits, merge_served, merge_says}
use Rattle.laws.proofs.OrderLemmas.{runs_ordered}

-- ---- what a turn asks

-- a turn asks the book one event of a command, or leaves the book as it was
pub record AsksOne (old : World) (marks : Bool) (new : World) : Type 0 where
  pub remembers : Pending
  pub what : Event
  pub transition : Transition
  pub asks : Asks old.caller old.past remembers what transition new.past
  pub fine : OfCommand what × Tries remembers what
  -- what it hits counts, or not, as this says
  pub leaves : marks_hit old.past.state.opening.placement remembers ≡ marks

-- what is asked counts what it hits as this says
abbrev MarksSo : Placement → Bool → Want → Type 0
MarksSo placement marks (want.Call remembers what) = marks_hit placement remembers ≡ marks
MarksSo placement marks wanted = Unit {0}

pages-mark : (placement : Placement) (g left : ℕ) → MarksSo placement true (wants_pages g left)
pages-mark placement g zero = tt
pages-mark placement g (suc left) = refl

wants-mark : (placement : Placement) (past : Past) (stage : Stage) → MarksSo placement (leaves_hit placement (Some stage)) (wants_at past stage)
wants-mark placement past stage.Watch = watch_either (MarksSo placement true) past.state.opening.watermarks (free_frames past.state) tt refl
wants-mark placement past stage.Balance = balance_either (MarksSo placement true) past.state.opening.watermarks (free_frames past.state) tt refl
wants-mark placement past (stage.Reclaim g left) = pages-mark placement g.0 left
wants-mark placement past (stage.Read access ticket) = tt
wants-mark placement past (stage.Write on ticket) = tt
wants-mark placement past others = refl

module _ (old new : World) where
  abbrev placement : Placement
  placement = old.past.state.opening.placement

  want_asks : (marks : Bool) (w : Want) (transition : Transition) → FineWant w → MarksSo placement marks w → WantTurn old.caller old.past old.disk w transition new.past new.disk → (new.past ≡ old.past) ⊎ AsksOne old marks new
  want_asks marks (want.Call remembers what) transition fine leaves turn = inr (record { remembers = remembers; what = what; transition = transition; asks = turn.0; fine = fine; leaves = leaves })
  want_asks marks (want.Read access ticket) transition fine leaves turn = inl turn.1
  want_asks marks (want.Write on ticket) transition fine leaves turn = inl turn.1
  want_asks marks (want.End answer) transition fine leaves turn = inl turn.1

  stage_asks : (who : Actor) (stage : Stage) (outcome : Outcome) → StageTurn old who stage outcome new → (new.past ≡ old.past) ⊎ AsksOne old (leaves_hit placement (Some stage)) new
  stage_asks who stage outcome turn = want_asks (leaves_hit placement (Some stage)) (wants_at old.past stage) turn.transition (wants_fine old.past stage) (wants-mark placement old.past stage) turn.turns

  judged_asks : (who : Actor) (found : Judged) (outcome : Outcome) → JudgedTurn old who found outcome new → (new.past ≡ old.past) ⊎ AsksOne old (leaves_hit placement (begins_at found)) new
  judged_asks who (Err why) outcome turn = inl (ap (λ (w : World). w.past) turn.1)
  judged_asks who (Ok stage) outcome turn = stage_asks who stage outcome turn

  activity_asks : (who : Actor) (at : Activity) (outcome : Outcome) → ActivityTurn old who at outcome new → (new.past ≡ old.past) ⊎ AsksOne old (leaves_hit placement (stage_at old who at)) new
  activity_asks who Rests outcome turn = inl (ap (λ (w : World). w.past) turn.1)
  activity_asks who (Begun what) outcome turn = judged_asks who (judged old.past.state.opening old.past.state.tree who what) outcome turn
  activity_asks who (Does stage) outcome turn = stage_asks who stage outcome turn

  turn_asks : (who : Actor) (outcome : Outcome) → Turn old who outcome new → (new.past ≡ old.past) ⊎ AsksOne old (leaves_hit placement (stage_at old who (activity_of who old.seats))) new
  turn_asks who outcome turn = activity_asks who (activity_of who old.seats) outcome turn

-- ---- the bit of one frame

-- the frame that was hit is in the bits
bit_here : (bits frame : ℕ) → ((f : ℕ) → f / 64 ≡ frame / 64 → bit_at bits (f % 64) ≡ (cond (f == frame) 1 0)) → has_bit (frame / 64) bits frame ≡ true
bit_here bits frame one =
    let bit : bit_at bits (frame % 64) ≡ 1 = one frame refl ∙ ap (λ (b : Bool). cond b 1 0) (eq-eqb frame frame refl) in
    ap (λ (b : Bool). b && (bit_at bits (frame % 64) == 1)) (eq-eqb (frame / 64) (frame / 64) refl) ∙ ap (λ (n : ℕ). n == 1) bit

-- and no other is
bit_alone : (bits frame f : ℕ) → ((g : ℕ) → g / 64 ≡ frame / 64 → bit_at bits (g % 64) ≡ (cond (g == frame) 1 0)) → has_bit (frame / 64) bits f ≡ true → f ≡ frame
bit_alone bits frame f one has =
    let both = and_parts (f / 64 == frame / 64) (bit_at bits (f % 64) == 1) has in
    let word : f / 64 ≡ frame / 64 = eqb-true (f / 64) (frame / 64) both.0 in
    let bit : bit_at bits (f % 64) ≡ 1 = eqb-true (bit_at bits (f % 64)) 1 both.1 in
    by_frame (eqb_tells f frame) (sym (one f word) ∙ bit)
  where
    by_frame : ((f == frame) ≡ true × (f ≡ frame)) ⊎ ((f == frame) ≡ false × (f ≢ frame)) → ◌≡◌ {A = ℕ} (cond (f == frame) 1 0) 1 → f ≡ frame
    by_frame (inl e) bit = e.1
    by_frame (inr e) bit = absurd (let none : ◌≡◌ {A = ℕ} 0 1 = sym (ap (λ (b : Bool). cond b 1 0) e.0) ∙ bit in omega (arith, none))

-- a page that is named by bits is held in a frame that is in them
named_frame : (word bits : ℕ) (r : Residence) → is_in_bits_at word bits r ≡ true → (f : ℕ) × (r ≡ Held f) × (has_bit word bits f ≡ true)
named_frame word bits (Held f) e = (f, refl, e)
named_frame word bits (Coming f b n) e = cc
named_frame word bits (Going f b n) e = cc
named_frame word bits (Away b) e = cc

-- what a merge names
abbrev word_of : Plain_event → ℕ
word_of (plain.MergeMarks word bits) = word
word_of what = 0

abbrev bits_of : Plain_event → ℕ
bits_of (plain.MergeMarks word bits) = bits
bits_of what = 0

-- ---- a turn that was answered by a hit

shorter : (entry : Entry) (history : List Entry) → history ≡ entry ∷ history → ⊥
shorter entry history e = let long : length history ≡ suc (length history) = ap length e in omega (arith, long)

same_head : (x y : Entry) (xs ys : List Entry) → x ∷ xs ≡ y ∷ ys → x ≡ y
same_head x y xs ys e = cc

-- held both times, with its group and its type
kind_same : (a b : Page) → is_held a ≡ true → is_held b ≡ true → ((g : ℕ) (kind : Kind) → is_held_of g kind b ≡ is_held_of g kind a) → kind_at b.content ≡ kind_at a.content
kind_same a b was is same = by_content a.content b.content refl refl
  where
    unlike_kind : (kind other : Content) → a.content ≡ kind → b.content ≡ other → of_kind (kind_at other) (is_anon kind) (not (is_anon kind)) ≡ false → of_kind (kind_at other) (is_anon other) (not (is_anon other)) ≡ true → ⊥
    unlike_kind kind other ea eb none one =
        let of_b : is_held_of b.group (kind_at other) b ≡ true =
        ap (λ (x : Bool). x && ((b.group == b.group) && of_kind (kind_at other) (is_anon b.content) (not (is_anon b.content)))) is
        ∙ ap (λ (x : Bool). x && of_kind (kind_at other) (is_anon b.content) (not (is_anon b.content))) (eq-eqb b.group b.group refl) ∙ ap (λ (c : Content). of_kind (kind_at other) (is_anon c) (not (is_anon c))) eb ∙ one in
        let of_a : is_held_of b.group (kind_at other) a ≡ false =
        ap (λ (x : Bool). x && ((a.group == b.group) && of_kind (kind_at other) (is_anon a.content) (not (is_anon a.content)))) was
        ∙ ap (λ (x : Bool). (a.group == b.group) && x) (ap (λ (c : Content). of_kind (kind_at other) (is_anon c) (not (is_anon c))) ea ∙ none) ∙ and_false (a.group == b.group) in
        true≢false (sym of_b ∙ same b.group (kind_at other) ∙ of_a)
      where
        and_false : (x : Bool) → (x && false) ≡ false
        and_false true = refl
        and_false false = refl

    by_content : (x y : Content) → a.content ≡ x → b.content ≡ y → kind_at b.content ≡ kind_at a.content
    by_content Memory Memory ea eb = ap kind_at eb ∙ sym (ap kind_at ea)
    by_content (OfFile f q) (OfFile h r) ea eb = ap kind_at eb ∙ sym (ap kind_at ea)
    by_content Memory (OfFile h r) ea eb = absurd (unlike_kind Memory (OfFile h r) ea eb refl refl)
    by_content (OfFile f q) Memory ea eb = absurd (unlike_kind (OfFile f q) Memory ea eb refl refl)

-- the page that the place shows, which stands in the frame that was hit: the access leaves its mark, its hits and its type
pub record HitPage (old mid : Past) (t : TaskId) (place : Place) (frame : FrameId) : Type 0 where
  pub hit : IsHit old.state t.0 place frame mid.state
  pub placed : mid.state.opening ≡ old.state.opening
  pub mark : is_marked mid.order.held.marks hit.p ≡ is_marked old.order.held.marks hit.p
  pub hits : hits_at mid.order.held.hits hit.p ≡ hits_at old.order.held.hits hit.p
  pub kinds : (test : Kind → Bool) → there_and (λ page. test (kind_at page.content)) (page_at mid.state.pages hit.p) ≡ there_and (λ page. test (kind_at page.content)) (page_at old.state.pages hit.p)

hit-page : (old mid : Past) (caller : Caller) (t : TaskId) (place : Place) (op : Op) (byte : ℕ) (frame : FrameId) → Called old caller (plain.Access t place op) (said_of.Done byte (Some frame)) mid → HitPage old mid t place frame
hit-page old mid caller t place op byte frame called =
    record {
      hit = hit;
      placed = step_opening old.state (plain.Access t place op) (said_of.Done byte (Some frame)) mid.state answers.steps;
      mark = goes.marks hit.p ∙ ap (λ (b : Bool). b && is_held_in mid.state.pages hit.p && is_marked old.order.held.marks hit.p) hit.before ∙ ap (λ (b : Bool). b && is_marked old.order.held.marks hit.p) held;
      hits = goes.hits hit.p ∙ ap (λ (b : Bool). hits_kept Youngest b (is_held_in mid.state.pages hit.p) (hits_at old.order.held.hits hit.p)) hit.before ∙ ap (λ (b : Bool). hits_kept Youngest true b (hits_at old.order.held.hits hit.p)) held;
      kinds = λ test. by_slot test (page_at old.state.pages hit.p) refl;
    }
  where
    answers : Answers old caller (plain.Access t place op) (said_of.Done byte (Some frame)) mid
    answers = called_answers old mid caller (plain.Access t place op) (said_of.Done byte (Some frame)) refl called

    hit : IsHit old.state t.0 place frame mid.state
    hit = access-hits old.state mid.state t place op byte frame answers.steps

    goes : GoesOn Youngest old.state.pages old.order.held mid.state.pages mid.order.held
    goes = answers.order.0

    held : is_held_in mid.state.pages hit.p ≡ true
    held = ap (there_and is_held) hit.there ∙ ap is_held_at hit.stands

    places : SamePlaces old.state.pages mid.state.pages
    places = step-places old.state (plain.Access t place op) (said_of.Done byte (Some frame)) mid.state refl answers.steps

    by_slot : (test : Kind → Bool) (slot : Option Page) → page_at old.state.pages hit.p ≡ slot → there_and (λ page. test (kind_at page.content)) (page_at mid.state.pages hit.p) ≡ there_and (λ page. test (kind_at page.content)) (page_at old.state.pages hit.p)
    by_slot test None there = absurd (true≢false (sym hit.before ∙ ap (there_and is_held) there))
    by_slot test (Some page) there =
        ap (there_and (λ page. test (kind_at page.content))) hit.there
        ∙ ap test (kind_same page hit.page (sym (ap (there_and is_held) there) ∙ hit.before) (ap is_held_at hit.stands)
        (λ g kind. sym (ap (there_and (is_held_of g kind)) hit.there) ∙ places.same hit.p hit.before held g kind ∙ ap (there_and (is_held_of g kind)) there))
        ∙ sym (ap (there_and (λ page. test (kind_at page.content))) there)

-- what a hit marks, it marks as the last of its page's hits
last_of : (placement : Placement) (test : Page → Bool) (hits : ℕ) (slot : Option Page) → is_marking placement test hits slot ≡ true → there_and (λ page. is_last_hit placement (kind_at page.content) hits) slot ≡ true
last_of placement test hits None named = named
last_of placement test hits (Some page) named = (and_parts (test page) (is_last_hit placement (kind_at page.content) hits) named).1

-- and what the bits name is marked by the last, and else counts
marking_of : (placement : Placement) (test : Page → Bool) (hits : ℕ) (slot : Option Page) → there_and test slot ≡ true → is_marking placement test hits slot ≡ there_and (λ page. is_last_hit placement (kind_at page.content) hits) slot
marking_of placement test hits None named = refl
marking_of placement test hits (Some page) named = ap (λ (b : Bool). b && is_last_hit placement (kind_at page.content) hits) named

counting_of : (placement : Placement) (test : Page → Bool) (hits : ℕ) (page : Page) → test page ≡ true → hits_with placement test false hits (Some page) ≡ cond (is_last_hit placement (kind_at page.content) hits) 0 (hits + 1)
counting_of placement test hits page named = ap (λ (b : Bool). cond b (cond (is_last_hit placement (kind_at page.content) hits) 0 (hits + 1)) hits) named

module _ (old : World) (marked : Bool) (new : World) (asks : AsksOne old marked new) where
  abbrev mid : Past
  mid = asks.asks.mid

  abbrev before : HeldLists
  before = old.past.order.held

  abbrev after : HeldLists
  after = new.past.order.held

  -- the next hit of the page marks it
  next_marks : (t : TaskId) (place : Place) (frame : FrameId) (page : HitPage old.past mid t place frame)
      → there_and (λ p. is_last_hit mid.state.opening.placement (kind_at p.content) (hits_at mid.order.held.hits page.hit.p)) (page_at mid.state.pages page.hit.p) ≡ marks_next old.past.state.opening.placement old.past (Some page.hit.p)
  next_marks t place frame page =
      page.kinds (λ kind. is_last_hit mid.state.opening.placement kind (hits_at mid.order.held.hits page.hit.p))
      ∙ ap (λ (o : Opening). there_and (λ (p : Page). is_last_hit o.placement (kind_at p.content) (hits_at mid.order.held.hits page.hit.p)) (page_at old.past.state.pages page.hit.p)) page.placed
      ∙ ap (λ (n : ℕ). there_and (λ (p : Page). is_last_hit old.past.state.opening.placement (kind_at p.content) n) (page_at old.past.state.pages page.hit.p)) page.hits

  -- the reply is this one: its page is hit, if it is to be
  pub record Counted (t : TaskId) (place : Place) (frame : FrameId) : Type 0 where
    pub page : HitPage old.past mid t place frame
    pub marks : is_marked after.marks page.hit.p ≡ (is_marked before.marks page.hit.p || marks_next old.past.state.opening.placement old.past (Some page.hit.p))
    pub hits : is_marked before.marks page.hit.p ≡ false → hits_at after.hits page.hit.p ≡ cond (marks_next old.past.state.opening.placement old.past (Some page.hit.p)) 0 (hits_at before.hits page.hit.p + 1)

  hit_page : (t : TaskId) (place : Place) (op : Op) (byte : ℕ) (frame : FrameId) → event_of asks.what ≡ plain.Access t place op → reply_of asks.asks.said ≡ said_of.Done byte (Some frame) → HitPage old.past mid t place frame
  hit_page t place op byte frame what answer =
      let called : Called old.past old.caller (plain.Access t place op) (said_of.Done byte (Some frame)) mid =
      subst (λ (e : Plain_event). Called old.past old.caller e (said_of.Done byte (Some frame)) mid) what (subst (λ (r : Plain_reply). Called old.past old.caller (event_of asks.what) r mid) answer asks.asks.called) in
      hit-page old.past mid old.caller t place op byte frame called

  counted_page : (t : TaskId) (place : Place) (op : Op) (byte : ℕ) (frame : FrameId) → marked ≡ true → event_of asks.what ≡ plain.Access t place op → reply_of asks.asks.said ≡ said_of.Done byte (Some frame) → Counted t place frame
  counted_page t place op byte frame is_marked_so what answer =
      let page = hit_page t place op byte frame what answer in
      let hit = page.hit in
      let marks : MarksAfter true old.caller mid (said_of.Done byte (Some frame)) new.past =
      subst (λ (r : Plain_reply). MarksAfter true old.caller mid r new.past) answer (subst (λ (b : Bool). MarksAfter b old.caller mid (reply_of asks.asks.said) new.past) (asks.leaves ∙ is_marked_so) asks.asks.marks) in
      let merged = called_answers mid new.past old.caller (plain.MergeMarks (frame.0 / 64) marks.bits) said_of.Ok refl marks.merged in
      let in_bits : is_in_bits (frame.0 / 64) marks.bits hit.page ≡ true = ap (is_in_bits_at (frame.0 / 64) marks.bits) hit.stands ∙ bit_here marks.bits frame.0 marks.one in
      let named : there_and (is_in_bits (frame.0 / 64) marks.bits) (page_at mid.state.pages hit.p) ≡ true = ap (there_and (is_in_bits (frame.0 / 64) marks.bits)) hit.there ∙ in_bits in
      record {
        page = page;
        marks =
            merged.order.0.marks hit.p ∙ ap (λ (b : Bool). b || is_marking mid.state.opening.placement (is_in_bits (frame.0 / 64) marks.bits) (hits_at mid.order.held.hits hit.p) (page_at mid.state.pages hit.p)) page.mark
            ∙ ap (λ (b : Bool). is_marked before.marks hit.p || b) (marking_of mid.state.opening.placement (is_in_bits (frame.0 / 64) marks.bits) (hits_at mid.order.held.hits hit.p) (page_at mid.state.pages hit.p) named ∙ next_marks t place frame page);
        hits = λ unmarked.
            merged.order.0.hits hit.p
            ∙ ap (λ (b : Bool). hits_with mid.state.opening.placement (is_in_bits (frame.0 / 64) marks.bits) b (hits_at mid.order.held.hits hit.p) (page_at mid.state.pages hit.p)) (page.mark ∙ unmarked)
            ∙ ap (hits_with mid.state.opening.placement (is_in_bits (frame.0 / 64) marks.bits) false (hits_at mid.order.held.hits hit.p)) hit.there
            ∙ counting_of mid.state.opening.placement (is_in_bits (frame.0 / 64) marks.bits) (hits_at mid.order.held.hits hit.p) hit.page in_bits
            ∙ ap (λ (b : Bool). cond b 0 (hits_at mid.order.held.hits hit.p + 1)) (sym (ap (there_and (λ (p : Page). is_last_hit mid.state.opening.placement (kind_at p.content) (hits_at mid.order.held.hits hit.p))) hit.there) ∙ next_marks t place frame page)
            ∙ ap (λ (n : ℕ). cond (marks_next old.past.state.opening.placement old.past (Some hit.p)) 0 (n + 1)) page.hits;
      }

  -- what was served stands in the history
  served_history : Answers old.past old.caller (event_of asks.what) (reply_of asks.asks.said) mid → new.past.history ≡ entry_of old.caller old.past.history (event_of asks.what) (reply_of asks.asks.said) ∷ old.past.history
  served_history h =
      (marks-stay _ old.caller mid new.past (reply_of asks.asks.said) asks.asks.marks).history
      ∙ h.history ∙ ap (λ (es : List Entry). es ++ old.past.history) (entries-one old.caller old.past.history (event_of asks.what) (reply_of asks.asks.said) (of_command-leaves asks.what asks.fine.0))

  -- a hit that the history tells of is that of the turn
  told_hit : (t : TaskId) (place : Place) → (hits : Hits old.past new.past t place) → marked ≡ true → Counted t place hits.frame
  told_hit t place hits is_marked_so =
      called_or old.past mid old.caller (event_of asks.what) (reply_of asks.asks.said)
      (λ same.
      absurd (shorter hits.entry old.past.history (sym ((marks-stay _ old.caller mid new.past (reply_of asks.asks.said) asks.asks.marks).history ∙ ap (λ (p : Past). p.history) same) ∙ hits.newest)))
      (λ h.
      let entry : hits.entry ≡ entry_of old.caller old.past.history (event_of asks.what) (reply_of asks.asks.said) = same_head _ _ old.past.history old.past.history (sym hits.newest ∙ served_history h) in
      counted_page t place hits.op hits.byte hits.frame is_marked_so (sym (ap (λ (e : Entry). e.event) entry) ∙ hits.asked) (sym (ap (λ (e : Entry). e.reply) entry) ∙ hits.answered)) asks.asks.called

  -- the call itself marks nothing
  called_marks_none : (p : ℕ) → is_marked mid.order.held.marks p ≡ true → is_marked old.past.order.held.marks p ≡ true
  called_marks_none p m =
      elim (only_merges_mark old.past mid old.caller (event_of asks.what) (reply_of asks.asks.said) asks.asks.called p m) [
        | inl was ↦ was
        | inr merge ↦ unlike (leaves_entry (event_of asks.what)) (of_command-leaves asks.what asks.fine.0) (ap leaves_entry merge.2)
      ]

  tries_done : (page_size : ℕ) (remembers : Pending) (byte : ℕ) (hit : Option FrameId) (transition : Transition) (what : Event) → Told page_size remembers (said.Done byte hit) transition → Tries remembers what → (access : Access) × (what ≡ access_event access)
  tries_done page_size (pending.Try access) byte hit transition what told tries = (access, tries)
  tries_done page_size remembers byte hit transition what told tries = absurd told

  -- whatever is marked was marked before, or is the page that was hit
  pub record IsPageHit (p : ℕ) : Type 0 where
    pub t : TaskId
    pub place : Place
    pub hits : Hits old.past new.past t place
    pub shown : shown_at old.past.state t.0 place ≡ Some p
    pub counts : marked ≡ true
    pub last : marks_next old.past.state.opening.placement old.past (Some p) ≡ true

  only_hit : (opening : Opening) → IsLegal opening old.past → (p : ℕ) → is_marked after.marks p ≡ true → (is_marked before.marks p ≡ true) ⊎ IsPageHit p
  only_hit opening legal p m = by_said asks.asks.said refl marked refl (subst (λ (b : Bool). MarksAfter b old.caller mid (reply_of asks.asks.said) new.past) asks.leaves asks.asks.marks)
    where
      of_hit : (byte : ℕ) (frame : FrameId) → asks.asks.said ≡ said.Done byte (Some frame) → marked ≡ true → (bits : ℕ) → ((f : ℕ) → f / 64 ≡ frame.0 / 64 → bit_at bits (f % 64) ≡ (cond (f == frame.0) 1 0))
          → is_named mid.state mid.order.held (frame.0 / 64) bits p ≡ true → IsPageHit p
      of_hit byte frame is is_marked_so bits one named =
          let access = tries_done old.past.state.opening.page_size asks.remembers byte (Some frame) asks.transition asks.what (subst (λ (r : Reply). Told old.past.state.opening.page_size asks.remembers r asks.transition) is asks.asks.told) asks.fine.1 in
          let what : event_of asks.what ≡ plain.Access access.0.task access.0.place access.0.op = ap event_of access.1 in
          let answer : reply_of asks.asks.said ≡ said_of.Done byte (Some frame) = ap reply_of is in
          let page = hit_page access.0.task access.0.place access.0.op byte frame what answer in
          let answers = called_answers old.past mid old.caller (event_of asks.what) (reply_of asks.asks.said) (ap is_refusal answer) asks.asks.called in
          let same : p ≡ page.hit.p = same_page (page_at mid.state.pages p) refl (named-in mid.state.opening.placement (frame.0 / 64) bits (hits_at mid.order.held.hits p) (page_at mid.state.pages p) named) page.hit in
          record {
            t = access.0.task;
            place = access.0.place;
            hits = record {
              entry = entry_of old.caller old.past.history (event_of asks.what) (reply_of asks.asks.said);
              newest = served_history answers;
              op = access.0.op;
              asked = what;
              byte = byte;
              frame = frame;
              answered = answer;
            };
            shown = page.hit.shown ∙ ap (λ (n : ℕ). Some n) (sym same);
            counts = is_marked_so;
            last = ap (λ (q : ℕ). marks_next old.past.state.opening.placement old.past (Some q)) same ∙ sym (next_marks access.0.task access.0.place frame page)
                ∙ sym (ap (λ (q : ℕ). there_and (λ (x : Page). is_last_hit mid.state.opening.placement (kind_at x.content) (hits_at mid.order.held.hits q)) (page_at mid.state.pages q)) same)
                ∙ last_of mid.state.opening.placement (is_in_bits (frame.0 / 64) bits) (hits_at mid.order.held.hits p) (page_at mid.state.pages p) named;
          }
        where
          same_page : (slot : Option Page) → page_at mid.state.pages p ≡ slot → there_and (is_in_bits (frame.0 / 64) bits) slot ≡ true → {t : TaskId} {place : Place} → (hit : IsHit old.past.state t.0 place frame mid.state) → p ≡ hit.p
          same_page None there e hit = cc
          same_page (Some page) there e hit =
              let found = named_frame (frame.0 / 64) bits page.residence e in
              pages_share_no_frame opening mid.history mid.state (legal-called opening old.past mid old.caller (event_of asks.what) (reply_of asks.asks.said) asks.asks.called legal) p hit.p frame.0 page hit.page there hit.there
              (ap frame_at found.1 ∙ ap (λ (n : ℕ). Some n) (bit_alone bits frame.0 found.0 one found.2)) (ap frame_at hit.stands)

      by_said : (answered : Reply) → asks.asks.said ≡ answered → (b : Bool) → marked ≡ b → MarksAfter b old.caller mid (reply_of answered) new.past → (is_marked before.marks p ≡ true) ⊎ IsPageHit p
      by_said (said.Done byte (Some frame)) is true so marks =
          elim (only_last_hits mid new.past old.caller (plain.MergeMarks (frame.0 / 64) marks.bits) said_of.Ok marks.merged p m) [
            | inl was ↦ inl (called_marks_none p was)
            | inr merge ↦ inr (of_hit byte frame is so marks.bits marks.one (same_merge merge.0 merge.1 merge.2 merge.3))
          ]
        where
          same_merge : (word bits : ℕ) → plain.MergeMarks (frame.0 / 64) marks.bits ≡ plain.MergeMarks word bits → is_named mid.state mid.order.held word bits p ≡ true → is_named mid.state mid.order.held (frame.0 / 64) marks.bits p ≡ true
          same_merge word bits e named = ap (λ (w : ℕ). is_named mid.state mid.order.held w marks.bits p) (ap word_of e) ∙ ap (λ (b : ℕ). is_named mid.state mid.order.held word b p) (ap bits_of e) ∙ named
      by_said (said.Done byte (Some frame)) is false so marks = inl (called_marks_none p (ap (λ (x : Past). is_marked x.order.held.marks p) (sym marks) ∙ m))
      by_said answered is b so marks = inl (called_marks_none p (ap (λ (x : Past). is_marked x.order.held.marks p) (sym marks) ∙ m))

-- ---- runs

module _ (config : Config) (before : Disk) (lines : List Line) (answers : List Told_by) (end : World) (runs : Runs (first_world config before) lines answers end) where
  legal_end : IsLegal (opening_of config) end.past
  legal_end = (runs_ordered config before lines answers end runs).tickets.legal

  -- the placement is the configuration's
  same_opening : end.past.state.opening ≡ opening_of config
  same_opening = (legal-sound (opening_of config) end.past.history end.past.state legal_end).0

  same_placement : (who : Actor) → leaves_hit end.past.state.opening.placement (stage_at end who (activity_of who end.seats)) ≡ counts_in config end who
  same_placement who = ap (λ (o : Opening). leaves_hit o.placement (stage_at end who (activity_of who end.seats))) same_opening

  same_next : (p : Option ℕ) → marks_next end.past.state.opening.placement end.past p ≡ marks_next config.placement end.past p
  same_next p = ap (λ (o : Opening). marks_next o.placement end.past p) same_opening

pub hits_mark : HitsMark
hits_mark config before lines answers end runs who outcome after turn t place hits leaves =
    elim (turn_asks end after who outcome turn) [
      | inl same ↦ absurd (shorter hits.entry end.past.history (sym (ap (λ (p : Past). p.history) same) ∙ hits.newest))
      | inr asks ↦ (
          let both = and_parts (counts_in config end who) (marks_next config.placement end.past (shown_at end.past.state t.0 place)) leaves in
          let found = told_hit end _ after asks t place hits (same_placement config before lines answers end runs who ∙ both.0) in
          let hit = found.page.hit in
          let next : marks_next end.past.state.opening.placement end.past (Some hit.p) ≡ true =
          same_next config before lines answers end runs (Some hit.p) ∙ ap (marks_next config.placement end.past) (sym hit.shown) ∙ both.1 in
          (hit.p, hit.shown, found.marks ∙ ap (λ (b : Bool). is_marked end.past.order.held.marks hit.p || b) next ∙ or_true (is_marked end.past.order.held.marks hit.p))
          )
    ]
  where
    or_true : (b : Bool) → (b || true) ≡ true
    or_true true = refl
    or_true false = refl

pub only_hits_mark : OnlyHitsMark
only_hits_mark config before lines answers end runs who outcome after turn p m =
    elim (turn_asks end after who outcome turn) [
      | inl same ↦ inl (ap (λ (x : Past). is_marked x.order.held.marks p) (sym same) ∙ m)
      | inr asks ↦
          elim (only_hit end _ after asks (opening_of config) (legal_end config before lines answers end runs) p m) [
            | inl was ↦ inl was
            | inr hit ↦ inr (
              hit.t,
              hit.place,
              hit.hits,
              hit.shown,
              ap (λ (b : Bool). b && marks_next config.placement end.past (shown_at end.past.state hit.t.0 hit.place)) (sym (same_placement config before lines answers end runs who) ∙ hit.counts)
                  ∙ ap (marks_next config.placement end.past) hit.shown ∙ sym (same_next config before lines answers end runs (Some p)) ∙ hit.last,
            )
          ]
    ]

-- a page of a file is of the type of files
file_next : (past : Past) (file q p : ℕ) → file_page past.state.pages file q ≡ Some p → marks_next Linux past (Some p) ≡ nat_le 5 (hits_at past.order.held.hits p + 1)
file_next past file q p is =
    let there = file_page-there past.state.pages file q p is in
    ap (there_and (λ (page : Page). is_last_hit Linux (kind_at page.content) (hits_at past.order.held.hits p))) there.1 ∙ ap (λ (c : Content). is_last_hit Linux (kind_at c) (hits_at past.order.held.hits p)) there.2

pub five_reads_mark : FiveReadsMark
five_reads_mark config before lines answers end runs linux who outcome after turn t file q offset hits counts =
    elim (turn_asks end after who outcome turn) [
      | inl same ↦ absurd (shorter hits.entry end.past.history (sym (ap (λ (p : Past). p.history) same) ∙ hits.newest))
      | inr asks ↦ (
          let found = told_hit end _ after asks t (File file q offset) hits (same_placement config before lines answers end runs who ∙ counts) in
          let p = found.page.hit.p in
          let shown : file_page end.past.state.pages file q ≡ Some p = found.page.hit.shown in
          let next : marks_next end.past.state.opening.placement end.past (Some p) ≡ nat_le 5 (hits_at end.past.order.held.hits p + 1) =
          same_next config before lines answers end runs (Some p) ∙ ap (λ (pl : Placement). marks_next pl end.past (Some p)) linux ∙ file_next end.past file q p shown in (
            p,
            shown,
            λ unmarked. by_count (hits_at end.past.order.held.hits p) (is_marked after.past.order.held.marks p) (hits_at after.past.order.held.hits p)
                (found.marks ∙ ap (λ (b : Bool). b || marks_next end.past.state.opening.placement end.past (Some p)) unmarked ∙ next)
                (found.hits unmarked ∙ ap (λ (b : Bool). cond b 0 (hits_at end.past.order.held.hits p + 1)) next),
          )
          )
    ]
  where
    by_count : (n : ℕ) (mark : Bool) (count : ℕ) → mark ≡ nat_le 5 (n + 1) → count ≡ cond (nat_le 5 (n + 1)) 0 (n + 1) → MatchBool (nat_lt (n + 1) 5) ((mark ≡ false) × (count ≡ n + 1)) ((mark ≡ true) × (count ≡ 0))
    by_count n mark count is counts = by_test (nat_lt (n + 1) 5) (nat_le 5 (n + 1)) refl refl
      where
        by_test : (few last : Bool) → nat_lt (n + 1) 5 ≡ few → nat_le 5 (n + 1) ≡ last → MatchBool few ((mark ≡ false) × (count ≡ n + 1)) ((mark ≡ true) × (count ≡ 0))
        by_test true false few last = (is ∙ last, counts ∙ ap (λ (b : Bool). cond b 0 (n + 1)) last)
        by_test false true few last = (is ∙ last, counts ∙ ap (λ (b : Bool). cond b 0 (n + 1)) last)
        by_test true true few last = absurd (let wrong : true ≡ false = grind (arith, nat_tests, few, last) in true≢false wrong)
        by_test false false few last = absurd (let wrong : true ≡ false = grind (arith, nat_tests, few, last) in true≢false wrong)

pub merges_are_served : MergesAreServed
merges_are_served config before lines answers end runs after caller word bits answer called =
    let h = merge_served (opening_of config) end.past after caller word bits answer (legal_end config before lines answers end runs) called in
    (merge_says end.past.state after.state word bits answer h.steps, h.order.0)

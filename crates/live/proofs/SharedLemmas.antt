-- What lies under the lock goes on to hold together.
use Rattle.std.proofs.Common.{◌≡◌, ℕ, ◌+◌, ◌<◌, Bool, true, false, List, [], ◌∷◌, ◌++◌, map, length, drop, Option, sym, refl, ap, ◌∙◌, subst, arith}
use Rattle.std.specs.Prelude.{MatchBool, Result, Ok, Err, OnOk, OnErr}
use Rattle.std.proofs.lemmas.List.{length-map, map-append}
use Rattle.std.proofs.Math.Seq.{drop-append_seam}
use Rattle.atomic_table.specs.Seated.{TableId}
use Rattle.machine.specs.declared.entry.Entry.{Entry}
use Rattle.machine.specs.declared.event.Event.{Event}
use Rattle.machine.specs.declared.event.Event.TheVariants as plain
use Rattle.machine.specs.declared.reply.Reply.{Reply}
use Rattle.machine.specs.declared.reply.Reply.TheVariants as said
use Rattle.machine.specs.declared.refusal.Refusal.TheVariants.{Stranger, TraceFull}
use Rattle.machine.specs.Tree.{Node, find_group}
use Rattle.machine.specs.State.{Opening, State}
use Rattle.machine.specs.Call.{Past, Caller, first_past, leaves_entry, is_trace_full, Refuses, Answered, Called}
use Rattle.machine.specs.Legal.{Legal}
use Rattle.legal.proofs.OpeningLemmas.{called_opening}
use Rattle.book.specs.declared.kept.Kept.{Kept}
use Rattle.book_events.specs.declared.event.Reply.{Reply as Answer}
use Rattle.book_events.specs.declared.event.Reply.TheVariants as answer
use Rattle.book_events.specs.Events.{reply_of}
use Rattle.book_events.specs.Replies.{IsAlwaysOk, HandsOut}
use Rattle.book.specs.Passes.{PassOf, call_of, keeping, is_current, CalledWith}
use Rattle.book.proofs.PassLemmas.{may_ask-current}
use Rattle.live.specs.declared.history.Exchange.{Exchange}
use Rattle.live.specs.declared.history.Exchange.TheVariants.{Call}
use Rattle.live.specs.declared.history.Told.{Told}
use Rattle.live.specs.Exchanges.{kept_of, finding}
use Rattle.live.specs.Passes.{pass_of, answering}
use Rattle.live.specs.Rules.{Seated, of_worker, exchanges_in, exchanges_of, new_of}
use Rattle.live.specs.Works.{finds_of}
use Rattle.live.specs.Told.{told, told_to, telling}
use Rattle.live.specs.Logs.{LogOf}
use Rattle.live.specs.Hands.{HandsAre}
use Rattle.live.specs.OneRun.{Act, Tells, Merges, GivesOut, Leads, told_in}
use Rattle.live.specs.Shared.{IsShared, MergeOn, Gathers, found_in}
use Rattle.live.proofs.ActLemmas.{current-trace}
use Rattle.live.proofs.HandLemmas.{hands-none, hands-same, hands-finds, hands-call}

-- ---- marks that are merged

abbrev merging : List (ℕ × ℕ) → List Act → List Act
merging [] acts = acts
merging (mark ∷ marks) acts = Merges mark.0 mark.1 ∷ merging marks acts

merging-leads : (opening : Opening) (acts : List Act) (old : Past) (marks : List (ℕ × ℕ)) (new : Past) → Leads opening acts old → MergeOn old marks new → Leads opening (merging marks acts) new
merging-leads opening acts old [] new h on = subst (Leads opening acts) (sym on) h
merging-leads opening acts old (mark ∷ marks) new h on = (on.0, merging-leads opening acts old marks on.0 h on.1, on.2)

merging-told : (marks : List (ℕ × ℕ)) (acts : List Act) → told_in (merging marks acts) ≡ told_in acts
merging-told [] acts = refl
merging-told (mark ∷ marks) acts = merging-told marks acts

-- what one merge leaves
merged-same : (caller : Caller) (old new : Past) (word bits : ℕ) → Called old caller (plain.MergeMarks word bits) said.Ok new → new ≡ record old { order = new.order }
merged-same caller old new word bits called = by_room (is_trace_full old (plain.MergeMarks word bits)) called
  where
    by_room : (full : Bool) → MatchBool full (Refuses old TraceFull said.Ok new) (Answered old caller (plain.MergeMarks word bits) said.Ok new) → new ≡ record old { order = new.order }
    by_room true h = absurd (let wrong : said.Ok ≡ said.Refused TraceFull = h.0 in cc)
    by_room false h =
        ap (λ (s : State). record new { state = s }) h.steps
        ∙ (ap (λ (es : List Entry). record { state = old.state; history = es; order = new.order; passes = new.passes }) h.history
        ∙ ap (λ (n : ℕ). record { state = old.state; history = old.history; order = new.order; passes = n }) h.passes)

pub gathers-one : (old : Past) (pass : PassOf) (word bits : ℕ) (answered : Answer) (new : Past) → IsAlwaysOk answered → CalledWith old pass (plain.MergeMarks word bits) (reply_of answered) new → Gathers old new
gathers-one old pass word bits answer.Ok new ok h = record {
  marks = (word, bits) ∷ [];
  merges = (old, refl, (pass.caller, h));
  same = merged-same pass.caller old new word bits h;
}
gathers-one old pass word bits answered new ok h = absurd ok

pub gathers-none : (past : Past) → Gathers past past
gathers-none past = record { marks = []; merges = refl; same = refl }

pub gathers-more : (old between new : Past) → Gathers old between → Gathers between new → Gathers old new
gathers-more old between new one two = record {
  marks = two.marks ++ one.marks;
  merges = joined two.marks new two.merges;
  same = two.same ∙ ap (λ (p : Past). record p { order = new.order }) one.same;
}
  where
    joined : (marks : List (ℕ × ℕ)) (last : Past) → MergeOn between marks last → MergeOn old (marks ++ one.marks) last
    joined [] last on = subst (MergeOn old one.marks) (sym on) one.merges
    joined (mark ∷ marks) last on = (on.0, joined marks on.0 on.1, on.2)

module _ (table : TableId) (opening : Opening) (past : Past) (log : LogOf) (shared : IsShared table opening past log) where
  pub shared-gathers : (new : Past) → Gathers past new → IsShared table opening new log
  shared-gathers new h = record {
    of = shared.of;
    opened = ap (λ (p : Past). p.state.opening) h.same ∙ shared.opened;
    given = shared.given ∙ sym (ap (λ (p : Past). p.passes) h.same);
    acts = merging h.marks shared.acts;
    leads = merging-leads opening shared.acts past h.marks new shared.leads h.merges;
    told_is = merging-told h.marks shared.acts ∙ shared.told_is;
    hands = hands-same past new log.log (ap (λ (p : Past). p.state) h.same) (ap (λ (p : Past). p.history) h.same) shared.hands;
  }

  -- ---- a call

  module _ (pass : PassOf) (exchanges : List Exchange) (whole : map kept_of exchanges ≡ pass.kept) (known : exchanges ≡ told_to pass.caller.worker log.log) (lt : pass.caller.worker < log.given) where
    current : is_current past pass ≡ true
    current = current-trace opening shared.acts past pass exchanges shared.leads whole (known ∙ ap (told_to pass.caller.worker) (sym shared.told_is)) (let is = shared.given in omega (arith, lt, is))

    pub called-so : (what : Event) (reply : Reply) (new : Past) → CalledWith past pass what reply new → Called past pass.caller what reply new
    called-so what reply new h = subst (λ (b : Bool). MatchBool b (Called past pass.caller what reply new) (Refuses past Stranger reply new)) (may_ask-current past pass what current) h

    pub opened-so : (what : Event) (reply : Reply) (new : Past) → CalledWith past pass what reply new → new.state.opening ≡ past.state.opening
    opened-so what reply new h = called_opening past new pass.caller what reply (called-so what reply new h)

    pub shared-call : (what : Event) (answered : Answer) (new : Past) (next : LogOf) → leaves_entry what ≡ true → CalledWith past pass what (reply_of answered) new → new.passes ≡ past.passes
        → next ≡ record log { log = told pass.caller.worker (Call what (reply_of answered)) ∷ log.log }
        → Legal opening past.history past.state → HandsOut new pass.caller.worker answered → IsShared table opening new next
    shared-call what answered new next leaves h passes is legal gives = let reply = reply_of answered in record {
      of = ap (λ (l : LogOf). l.table) is ∙ shared.of;
      opened = opened-so what reply new h ∙ shared.opened;
      given = ap (λ (l : LogOf). l.given) is ∙ (shared.given ∙ sym passes);
      acts = Tells pass.caller.worker (Call what reply) ∷ shared.acts;
      leads = (past, shared.leads, (leaves, called-so what reply new h));
      told_is = ap (λ (l : List Told). told pass.caller.worker (Call what reply) ∷ l) shared.told_is ∙ sym (ap (λ (l : LogOf). l.log) is);
      hands = subst (λ (l : LogOf). HandsAre new l.log) (sym is) (hands-call opening past new pass.caller what answered log.log legal leaves (called-so what reply new h) gives shared.hands);
    }

  -- ---- paths that are looked up

  abbrev acting : ℕ → List Exchange → List Act → List Act
  acting worker [] acts = acts
  acting worker (what ∷ more) acts = acting worker more (Tells worker what ∷ acts)

  acting-told : (worker : ℕ) (more : List Exchange) (acts : List Act) → told_in (acting worker more acts) ≡ telling worker more (told_in acts)
  acting-told worker [] acts = refl
  acting-told worker (what ∷ more) acts = acting-told worker more (Tells worker what ∷ acts)

  acting-leads : (worker : ℕ) (paths : List (List ℕ)) (acts : List Act) → Leads opening acts past → Leads opening (acting worker (found_in past.state.tree paths) acts) past
  acting-leads worker [] acts h = h
  acting-leads worker (path ∷ paths) acts h = acting-leads worker paths (Tells worker (finding path (find_group past.state.tree path)) ∷ acts) (past, h, (refl, refl))

  pub shared-finds : (worker : ℕ) (paths : List (List ℕ)) (next : LogOf) → next ≡ record log { log = telling worker (found_in past.state.tree paths) log.log } → IsShared table opening past next
  shared-finds worker paths next is = record {
    of = ap (λ (l : LogOf). l.table) is ∙ shared.of;
    opened = shared.opened;
    given = ap (λ (l : LogOf). l.given) is ∙ shared.given;
    acts = acting worker (found_in past.state.tree paths) shared.acts;
    leads = acting-leads worker paths shared.acts shared.leads;
    told_is = acting-told worker (found_in past.state.tree paths) shared.acts ∙ (ap (telling worker (found_in past.state.tree paths)) shared.told_is ∙ sym (ap (λ (l : LogOf). l.log) is));
    hands = subst (λ (l : LogOf). HandsAre past l.log) (sym is) (hands-finds past worker past.state.tree paths log.log shared.hands);
  }

  -- a command was judged, or there was no memory for it
  pub shared-judged : {A B : Type 0} (worker : ℕ) (paths : List (List ℕ)) (next : LogOf) (result : Result A B) → OnOk result (next ≡ record log { log = telling worker (found_in past.state.tree paths) log.log }) → OnErr result (next ≡ log) → IsShared table opening past next
  shared-judged worker paths next (Ok judged) is same = shared-finds worker paths next is
  shared-judged worker paths next (Err cause) is same = subst (IsShared table opening past) (sym same) shared

  -- ---- a pass more

  pub shared-pass : (new : Past) (next : LogOf) → new ≡ record past { passes = past.passes + 1 } → next ≡ record log { given = log.given + 1 } → IsShared table opening new next
  shared-pass new next is next-is = record {
    of = ap (λ (l : LogOf). l.table) next-is ∙ shared.of;
    opened = ap (λ (p : Past). p.state.opening) is ∙ shared.opened;
    given = ap (λ (l : LogOf). l.given) next-is ∙ (ap (λ (n : ℕ). n + 1) shared.given ∙ sym (ap (λ (p : Past). p.passes) is));
    acts = GivesOut ∷ shared.acts;
    leads = (past, shared.leads, is);
    told_is = shared.told_is ∙ sym (ap (λ (l : LogOf). l.log) next-is);
    hands = subst (λ (l : LogOf). HandsAre new l.log) (sym next-is) (hands-same past new log.log (ap (λ (p : Past). p.state) is) (ap (λ (p : Past). p.history) is) shared.hands);
  }

-- ---- the beginning

pub shared-first : (table : TableId) (opening : Opening) (past : Past) (log : LogOf) → past ≡ first_past opening → log.table ≡ table → log.given ≡ 0 → log.log ≡ [] → IsShared table opening past log
shared-first table opening past log fresh of none empty = record {
  of = of;
  opened = ap (λ (p : Past). p.state.opening) fresh;
  given = none ∙ sym (ap (λ (p : Past). p.passes) fresh);
  acts = [];
  leads = fresh;
  told_is = sym empty;
  hands = subst (λ (l : List Told). HandsAre past l) (sym empty) (hands-none past);
}

-- ---- what a pass's seat notes

-- what is new of what the pass keeps
noted-more : (known : List Exchange) (kept more : List Kept) → map kept_of known ≡ kept → drop (length known) (kept ++ more) ≡ more
noted-more known kept more is =
    ap (λ (n : ℕ). drop n (kept ++ more)) (sym (length-map known kept_of) ∙ ap length is) ∙ drop-append_seam kept more

-- of a call: the event that was asked, with its answer
pub new-call : (known : List Exchange) (kept : List Kept) (what : Event) (said : Reply) → map kept_of known ≡ kept → new_of (what ∷ []) known (kept ++ call_of what said ∷ []) ≡ Call what said ∷ []
new-call known kept what said is = ap (λ (l : List Kept). exchanges_of l (what ∷ [])) (noted-more known kept (call_of what said ∷ []) is)

pub new-asked : (events : List Event) (known : List Exchange) (old new : PassOf) (what : Event) (said : Reply) → events ≡ what ∷ [] → map kept_of known ≡ old.kept → new ≡ keeping old (call_of what said) → new_of events known new.kept ≡ Call what said ∷ []
new-asked events known old new what said is whole now =
    ap (λ (es : List Event). new_of es known new.kept) is ∙ (ap (λ (p : PassOf). new_of (what ∷ []) known p.kept) now ∙ new-call known old.kept what said whole)

-- the pass, with what its seat knows then
pub answered-so : (old new : PassOf) (what : Event) (said : Reply) (known after : List Exchange) → new ≡ keeping old (call_of what said) → after ≡ known ++ Call what said ∷ [] → pass_of new after ≡ answering (pass_of old known) what said
answered-so old new what said known after now is = ap (λ (p : PassOf). pass_of p after) now ∙ ap (pass_of (keeping old (call_of what said))) is

-- of paths: what was found
finds-back : (paths : List (List ℕ)) (found : List (Option ℕ)) → exchanges_of (map kept_of (finds_of paths found)) [] ≡ finds_of paths found
finds-back [] found = refl
finds-back (path ∷ paths) [] = refl
finds-back (path ∷ paths) (g ∷ found) = ap (λ (l : List Exchange). finding path g ∷ l) (finds-back paths found)

pub new-finds : (known : List Exchange) (kept : List Kept) (paths : List (List ℕ)) (found : List (Option ℕ)) → map kept_of known ≡ kept → new_of [] known (kept ++ map kept_of (finds_of paths found)) ≡ finds_of paths found
new-finds known kept paths found is = ap (λ (l : List Kept). exchanges_of l []) (noted-more known kept (map kept_of (finds_of paths found)) is) ∙ finds-back paths found

pub new-looked : (known : List Exchange) (old new : List Kept) (tree : List Node) (paths : List (List ℕ)) → map kept_of known ≡ old → new ≡ old ++ map kept_of (found_in tree paths) → new_of [] known new ≡ found_in tree paths
new-looked known old new tree paths is now = ap (new_of [] known) now ∙ new-finds known old paths (map (find_group tree) paths) is

-- the seat knows what it was told
pub seated-so : (me : Seated) (worker : ℕ) (exchanges : List Exchange) → me ≡ (of_worker worker exchanges, []) → exchanges_in me.0.rows ≡ exchanges
seated-so me worker exchanges is = ap (λ (m : Seated). exchanges_in m.0.rows) is

pub seated-own : (me : Seated) (worker : ℕ) (exchanges : List Exchange) → me ≡ (of_worker worker exchanges, []) → me ≡ (of_worker worker (exchanges_in me.0.rows), [])
seated-own me worker exchanges is = is ∙ ap (λ (l : List Exchange). (of_worker worker l, [])) (sym (seated-so me worker exchanges is))

-- and the pass keeps just that
pub whole-more : (known more : List Exchange) (kept : List Kept) → map kept_of known ≡ kept → map kept_of (known ++ more) ≡ kept ++ map kept_of more
whole-more known more kept is = map-append kept_of known more ∙ ap (λ (l : List Kept). l ++ map kept_of more) is

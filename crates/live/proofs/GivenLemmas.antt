-- Each thing that a worker was told in a run was given at a beginning of its history, right behind the worker's own entries.
use Rattle.std.proofs.Common.{◌≡◌, ◌≢◌, ℕ, ◌<◌, ◌≤◌, ◌⊎◌, inl, inr, Bool, true, false, cond, List, [], ◌∷◌, ◌++◌, length, take, get_or, All, sym, refl, ap, ◌∙◌, subst, arith, append-nil, append_assoc, length-append, eq-eqb, ne_eqb}
use Rattle.std.proofs.lemmas.Bool.{cases_lt, cases_eq}
use Rattle.std.proofs.lemmas.List.{take-append-le, take_all, get_or_append_left}
use Rattle.std.proofs.lemmas.List.Elements.{All-weaker}
use Rattle.machine.specs.declared.entry.Entry.{Entry}
use Rattle.machine.specs.State.{Opening}
use Rattle.machine.specs.Call.{Past, entry_of}
use Rattle.live.specs.declared.history.Exchange.{Exchange}
use Rattle.live.specs.declared.history.Exchange.TheVariants.{Call, Find}
use Rattle.live.specs.Exchanges.{stands}
use Rattle.live.specs.Passes.{PassOf}
use Rattle.live.specs.Told.{told, told_to}
use Rattle.live.specs.OneRun.{Act, Tells, Merges, GivesOut, Gives, Leads, told_in, WasGiven, WereGiven}
use Rattle.live.proofs.ActLemmas.{called-history, merged-history, count-trace}

-- ---- one thing more

last : (kept : List Exchange) (what other : Exchange) → get_or (kept ++ what ∷ []) (length kept) other ≡ what
last [] what other = refl
last (x ∷ kept) what other = last kept what other

given-push : (opening : Opening) (history : List Entry) (worker : ℕ) (kept : List Exchange) (what : Exchange) → WereGiven opening history worker kept → WasGiven opening history worker kept what → WereGiven opening history worker (kept ++ what ∷ [])
given-push opening history worker kept what were was k other lt = by (cases_lt k (length kept))
  where
    by : (k < length kept) ⊎ (length kept ≤ k) → WasGiven opening history worker (take k (kept ++ what ∷ [])) (get_or (kept ++ what ∷ []) k other)
    by (inl less) =
        let one = subst (λ (l : List Exchange). WasGiven opening history worker l (get_or kept k other)) (sym (take-append-le k kept (what ∷ []) (omega arith))) (were k other less) in
        subst (WasGiven opening history worker (take k (kept ++ what ∷ []))) (sym (get_or_append_left kept (what ∷ []) other k less)) one
    by (inr most) =
        let here : length kept ≡ k = omega (arith, length-append kept (what ∷ []), lt, most) in
        let all : take (length kept) (kept ++ what ∷ []) ≡ kept = take-append-le (length kept) kept (what ∷ []) (omega arith) ∙ take_all (length kept) kept (omega arith) in
        let one = subst (λ (l : List Exchange). WasGiven opening history worker l what) (sym all) was in
        let two = subst (WasGiven opening history worker (take (length kept) (kept ++ what ∷ []))) (sym (last kept what other)) one in
        subst (λ (n : ℕ). WasGiven opening history worker (take n (kept ++ what ∷ [])) (get_or (kept ++ what ∷ []) n other)) here two

-- ---- a longer history

given-later : (opening : Opening) (history longer more : List Entry) (worker : ℕ) (kept : List Exchange) → longer ≡ more ++ history → WereGiven opening history worker kept → WereGiven opening longer worker kept
given-later opening history longer more worker kept is were k other lt =
    let was = were k other lt in
    record {
      acts = was.acts;
      before = was.before;
      after = was.after;
      later = more ++ was.later;
      leads = was.leads;
      gives = was.gives;
      begins = is ∙ (ap (λ (h : List Entry). more ++ h) was.begins ∙ sym (append_assoc more was.later was.before.history));
      further = more ++ was.further;
      goes = is ∙ (ap (λ (h : List Entry). more ++ h) was.goes ∙ sym (append_assoc more was.further was.after.history));
      own = was.own;
    }

-- ---- a run

told-here : (opening : Opening) (acts : List Act) (before after : Past) (worker by : ℕ) (what : Exchange) (more : List Entry) → Leads opening acts before → Gives before by what after → after.history ≡ more ++ before.history
    → WereGiven opening before.history worker (told_to worker (told_in acts)) → WereGiven opening after.history worker (told_to worker (told by what ∷ told_in acts))
told-here opening acts before after worker by what more leads gives is were = split (cases_eq by worker)
  where
    here : by ≡ worker → WasGiven opening after.history worker (told_to worker (told_in acts)) what
    here e = record {
      acts = acts;
      before = before;
      after = after;
      later = more;
      leads = leads;
      gives = subst (λ (n : ℕ). Gives before n what after) e gives;
      begins = is;
      further = [];
      goes = refl;
      own = sym (count-trace opening acts before leads worker);
    }

    split : (by ≡ worker) ⊎ (by ≢ worker) → WereGiven opening after.history worker (told_to worker (told by what ∷ told_in acts))
    split (inl e) =
        subst (WereGiven opening after.history worker) (sym (ap (λ (b : Bool). told_to worker (told_in acts) ++ cond b (what ∷ []) []) (eq-eqb by worker e)))
        (given-push opening after.history worker (told_to worker (told_in acts)) what (given-later opening before.history after.history more worker (told_to worker (told_in acts)) is were) (here e))
    split (inr ne) =
        subst (WereGiven opening after.history worker) (sym (ap (λ (b : Bool). told_to worker (told_in acts) ++ cond b (what ∷ []) []) (ne_eqb by worker ne) ∙ append-nil (told_to worker (told_in acts))))
        (given-later opening before.history after.history more worker (told_to worker (told_in acts)) is were)

one-more : (b : Bool) (entry : Entry) (old new : List Entry) → new ≡ cond b (entry ∷ old) old → new ≡ cond b (entry ∷ []) [] ++ old
one-more true entry old new is = is
one-more false entry old new is = is

same-history : (opening : Opening) (old new : List Entry) (worker : ℕ) (kept : List Exchange) → new ≡ old → WereGiven opening old worker kept → WereGiven opening new worker kept
same-history opening old new worker kept is were = subst (λ (h : List Entry). WereGiven opening h worker kept) (sym is) were

pub run-given : (opening : Opening) (acts : List Act) (past : Past) → Leads opening acts past → (worker : ℕ) → WereGiven opening past.history worker (told_to worker (told_in acts))
run-given opening [] past h worker = λ k other lt. absurd (omega arith)
run-given opening (Tells by (Call what said) ∷ acts) past h worker =
    let before = h.0 in
    let b = stands (Call what said) in
    let entry = entry_of (record { worker = by }) before.history what said in
    told-here opening acts before past worker by (Call what said) (cond b (entry ∷ []) []) h.1 h.2
    (one-more b entry before.history past.history (called-history before (record { worker = by }) what past h.2.0 said h.2.1))
    (run-given opening acts before h.1 worker)
run-given opening (Tells by (Find path found) ∷ acts) past h worker =
    told-here opening acts h.0 past worker by (Find path found) [] h.1 h.2 (ap (λ (p : Past). p.history) h.2.1) (run-given opening acts h.0 h.1 worker)
run-given opening (Merges word bits ∷ acts) past h worker =
    same-history opening h.0.history past.history worker (told_to worker (told_in acts)) (merged-history h.0 word bits past h.2) (run-given opening acts h.0 h.1 worker)
run-given opening (GivesOut ∷ acts) past h worker =
    same-history opening h.0.history past.history worker (told_to worker (told_in acts)) (ap (λ (p : Past). p.history) h.2) (run-given opening acts h.0 h.1 worker)

pub passes-given : (opening : Opening) (acts : List Act) (past : Past) (history : List Entry) (passes : List PassOf) → Leads opening acts past → past.history ≡ history
    → All (λ (pass : PassOf). pass.exchanges ≡ told_to pass.caller.worker (told_in acts)) passes → All (λ (pass : PassOf). WereGiven opening history pass.caller.worker pass.exchanges) passes
passes-given opening acts past history passes leads is each =
    All-weaker (λ (pass : PassOf). pass.exchanges ≡ told_to pass.caller.worker (told_in acts)) (λ (pass : PassOf). WereGiven opening history pass.caller.worker pass.exchanges)
    (λ pass kept. subst (λ (h : List Entry). WereGiven opening h pass.caller.worker pass.exchanges) is (subst (WereGiven opening past.history pass.caller.worker) (sym kept) (run-given opening acts past leads pass.caller.worker)))
    passes each

-- Rows of turns grow by a turn.
use Rattle.std.proofs.Common.{◌≡◌, ℕ, suc, List, [], ◌∷◌, ◌++◌, refl, sym, ap, ◌∙◌, append_assoc, append-nil, subst, inl, inr, false, ◌+◌, ◌<◌, length, take, get_or, map}
use Rattle.std.proofs.lemmas.List.{take_more}
use Rattle.machine.specs.declared.command.Actor.{Actor}
use Rattle.machine.specs.declared.command.Command.{Command}
use Rattle.machine.specs.declared.command.Reply.{Reply as Told_by}
use Rattle.machine.specs.State.{Opening}
use Rattle.machine.specs.Tree.{Node, find_group}
use Rattle.book.specs.Passes.{PassOf, find_of, keeping}
use Rattle.live.specs.declared.history.Exchange.{Exchange}
use Rattle.live.specs.Exchanges.{kept_of}
use Rattle.turns.specs.declared.turn.Stage.{Stage}
use Rattle.turns.specs.declared.turn.Transition.{Transition}
use Rattle.turns.specs.Turns.{Judged, paths_of, judged, answer_by}
use Rattle.judging.specs.Finds.{looking}
use Rattle.turns.specs.Tickets.{holds}
use Rattle.live.specs.Works.{GoesOn, JudgedRuns, Does, Works, Worked, Repeated, no_memory, finds_of}
use Rattle.live.specs.Runs.{Made, Linked, Closed, Under, Ran, Looked, Judging, Did, Done}

-- what was added first and then
joins : {A : Type 0} (a b c x y : List A) → b ≡ a ++ x → c ≡ b ++ y → c ≡ a ++ (x ++ y)
joins a b c x y one two = two ∙ (ap (λ l. l ++ y) one ∙ append_assoc a x y)

pub under_none : (opening : Opening) (who : Actor) (start : Stage) (kept : List Exchange) (told : List Told_by) → Under opening who start kept kept told told start
under_none opening who start kept told = record { row = []; added = []; said = []; keeps = sym (append-nil kept); tells = sym (append-nil told); leads = (refl, refl, refl) }

pub under_more : (opening : Opening) (who : Actor) (start : Stage) (k0 k1 k2 : List Exchange) (t0 t1 t2 : List Told_by) (mid next : Stage)
    → Under opening who start k0 k1 t0 t1 mid → Linked opening who mid k1 k2 t1 t2 next → Under opening who start k0 k2 t0 t2 next
under_more opening who start k0 k1 k2 t0 t1 t2 mid next u l = record {
  row = mid ∷ u.row;
  added = u.added ++ l.added;
  said = u.said ++ l.said;
  keeps = joins k0 k1 k2 u.added l.added u.keeps l.keeps;
  tells = joins t0 t1 t2 u.said l.said u.tells l.tells;
  leads = (u.added, l.added, u.said, l.said, u.leads, l.link, refl, refl);
}

pub under_closed : (opening : Opening) (who : Actor) (start : Stage) (k0 k1 k2 : List Exchange) (t0 t1 t2 : List Told_by) (mid : Stage)
    → Under opening who start k0 k1 t0 t1 mid → Closed opening who mid k1 k2 t1 t2 → Ran opening who start k0 k2 t0 t2
under_closed opening who start k0 k1 k2 t0 t1 t2 mid u l = record {
  added = u.added ++ l.added;
  said = u.said ++ answer_by who l.what;
  keeps = joins k0 k1 k2 u.added l.added u.keeps l.keeps;
  tells = joins t0 t1 t2 u.said (answer_by who l.what) u.tells l.tells;
  runs = record { row = u.row; last = mid; before = u.added; here = l.added; earlier = u.said; what = l.what; leads = u.leads; closes = l.closes; keeps = refl; tells = refl };
}

-- ---- paths

finds-length : (tree : List Node) (paths : List (List ℕ)) → length (map (find_group tree) paths) ≡ length paths
finds-length tree [] = refl
finds-length tree (path ∷ paths) = ap suc (finds-length tree paths)

pub looking-kept : (tree : List Node) (paths : List (List ℕ)) (pass : PassOf) → (looking tree paths pass).kept ≡ pass.kept ++ map kept_of (finds_of paths (map (find_group tree) paths))
looking-kept tree [] pass = sym (append-nil pass.kept)
looking-kept tree (path ∷ paths) pass =
    let here = find_of path (find_group tree path) in
    looking-kept tree paths (keeping pass here) ∙ append_assoc pass.kept (here ∷ []) (map kept_of (finds_of paths (map (find_group tree) paths)))

pub looking-caller : (tree : List Node) (paths : List (List ℕ)) (pass : PassOf) → (looking tree paths pass).caller ≡ pass.caller
looking-caller tree [] pass = refl
looking-caller tree (path ∷ paths) pass = looking-caller tree paths (keeping pass (find_of path (find_group tree path)))

pub looked : (opening : Opening) (tree : List Node) (who : Actor) (what : Command) (old new : List Exchange) (result : Judged) → new ≡ old ++ finds_of (paths_of who what) (map (find_group tree) (paths_of who what)) → result ≡ judged opening tree who what → Looked opening who what old new result
looked opening tree who what old new result goes is = record {
  found = map (find_group tree) (paths_of who what);
  each = finds-length tree (paths_of who what);
  keeps = goes;
  is = is;
}

-- ---- commands

-- a command: refused when it was judged, or run, or memory was wanted at once
pub did_none : (opening : Opening) (who : Actor) (what : Command) (k k' : List Exchange) (t t' : List Told_by) → k' ≡ k → t' ≡ t ++ answer_by who no_memory → Did opening who what k k' t t'
did_none opening who what k k' t t' keeps tells = record {
  added = [];
  said = answer_by who no_memory;
  keeps = keeps ∙ sym (append-nil k);
  tells = tells;
  does = inr (refl, refl);
}

pub did_judged : (opening : Opening) (who : Actor) (what : Command) (k0 k1 k2 : List Exchange) (t t' : List Told_by) (result : Judged)
    → Looked opening who what k0 k1 result → Judging opening who result k1 k2 t t' → Did opening who what k0 k2 t t'
did_judged opening who what k0 k1 k2 t t' result j r = record {
  added = finds_of (paths_of who what) j.found ++ r.added;
  said = r.said;
  keeps = joins k0 k1 k2 (finds_of (paths_of who what) j.found) r.added j.keeps r.keeps;
  tells = r.tells;
  does = inl (record { found = j.found; later = r.added; each = j.each; runs = subst (λ (x : Judged). JudgedRuns opening who x r.added r.said) j.is r.runs; keeps = refl });
}

-- one command more
works_more : (opening : Opening) (who : Actor) (cs : List Command) (what : Command) (added here : List Exchange) (said now : List Told_by)
    → Works opening who cs added said → Does opening who what here now → Works opening who (cs ++ what ∷ []) (added ++ here) (said ++ now)
works_more opening who [] what added here said now h d =
    (here, [], now, [], d, (refl, refl), ap (λ l. l ++ here) h.0 ∙ sym (append-nil here), ap (λ l. l ++ now) h.1 ∙ sym (append-nil now))
works_more opening who (c ∷ cs) what added here said now h d = (
  h.0,
  h.1 ++ here,
  h.2,
  h.3 ++ now,
  h.4,
  works_more opening who cs what h.1 here h.3 now h.5 d,
  ap (λ l. l ++ here) h.6 ∙ append_assoc h.0 h.1 here,
  ap (λ l. l ++ now) h.7 ∙ append_assoc h.2 h.3 now,
)

pub worked_none : (opening : Opening) (who : Actor) (k : List Exchange) → Worked opening who [] k k []
worked_none opening who k = record { added = []; keeps = sym (append-nil k); works = (refl, refl) }

pub worked_more : (opening : Opening) (who : Actor) (cs : List Command) (what : Command) (k0 k1 k2 : List Exchange) (t1 t2 : List Told_by)
    → Worked opening who cs k0 k1 t1 → Did opening who what k1 k2 t1 t2 → Worked opening who (cs ++ what ∷ []) k0 k2 t2
worked_more opening who cs what k0 k1 k2 t1 t2 w d = record {
  added = w.added ++ d.added;
  keeps = joins k0 k1 k2 w.added d.added w.keeps d.keeps;
  works = subst (λ (t : List Told_by). Works opening who (cs ++ what ∷ []) (w.added ++ d.added) t) (sym d.tells) (works_more opening who cs what w.added d.added t1 d.said w.works d.does);
}

-- a turn after which the command goes on
pub linked : (opening : Opening) (who : Actor) (stage next : Stage) (transition : Transition) (k0 k1 k2 : List Exchange) (t0 t1 said : List Told_by)
    → k1 ≡ k0 → Made opening stage k1 k2 transition → GoesOn who transition said next → t1 ≡ t0 ++ said → Linked opening who stage k0 k2 t0 t1 next
linked opening who stage next transition k0 k1 k2 t0 t1 said same m goes tells = record {
  added = m.added;
  said = said;
  keeps = m.keeps ∙ ap (λ l. l ++ m.added) same;
  tells = tells;
  link = record { transition = transition; made = m.made; goes = goes };
}

-- memory is refused where no ticket is in hand
pub closed_none : (opening : Opening) (who : Actor) (stage : Stage) (k0 k1 : List Exchange) (t0 t1 t2 : List Told_by) → k1 ≡ k0 → t1 ≡ t0 → t2 ≡ t1 ++ answer_by who no_memory → holds stage ≡ false → Closed opening who stage k0 k1 t0 t2
closed_none opening who stage k0 k1 t0 t1 t2 same told tells none = record {
  added = [];
  what = no_memory;
  keeps = same ∙ sym (append-nil k0);
  tells = tells ∙ ap (λ l. l ++ answer_by who no_memory) told;
  closes = inr (inl (refl, none, refl));
}

-- the first so many and one more
pub taken : {A : Type 0} (xs : List A) (i : ℕ) (x : A) → i < length xs → x ≡ get_or xs i x → take (i + 1) xs ≡ take i xs ++ x ∷ []
taken xs i x lt is = take_more xs i x lt ∙ ap (λ y. take i xs ++ y ∷ []) (sym is)

-- one run more
pub repeated_none : (opening : Opening) (who : Actor) (what : Command) (k : List Exchange) → Repeated opening who what k k
repeated_none opening who what k = record { row = []; added = []; keeps = sym (append-nil k); repeats = refl }

pub repeated_more : (opening : Opening) (who : Actor) (what : Command) (k0 k1 k2 : List Exchange) → Repeated opening who what k0 k1 → Done opening who what k1 k2 → Repeated opening who what k0 k2
repeated_more opening who what k0 k1 k2 r d = record {
  row = d.added ∷ r.row;
  added = r.added ++ d.added;
  keeps = joins k0 k1 k2 r.added d.added r.keeps d.keeps;
  repeats = (r.added, d.said, r.repeats, d.does, refl);
}

pub done_none : (opening : Opening) (who : Actor) (what : Command) (k k' : List Exchange) → k' ≡ k → Done opening who what k k'
done_none opening who what k k' same = record { added = []; said = answer_by who no_memory; keeps = same ∙ sym (append-nil k); does = inr (refl, refl) }

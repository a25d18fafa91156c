-- A walk through all items finds a fault only if there is one.
use Rattle.std.proofs.Common.{◌≡◌, ℕ, Bool, true, false, List, [], ◌∷◌, ◌++◌, Option, Some, None, Result, Ok, Err, refl, sym, ap, subst, ◌∙◌, inl, inr, append_assoc}
use Rattle.scenarios.specs.Holes.{NamedText}
use Rattle.scenarios.specs.Lines.{TextLine}
use Rattle.scenario_words.specs.declared.fault.ExpandError.{ExpandError}
use Rattle.scenario_words.specs.declared.fault.ExpandError.TheVariants as error
use Rattle.scenario_words.specs.declared.fault.Fault.{Fault}
use Rattle.scenario_lines.specs.HeaderLines.{header_read}
use Rattle.scenario_lines.specs.Scene.{SceneNow, at_first}
use Rattle.expansion.specs.declared.expansion.Item.{Item}
use Rattle.expansion.specs.declared.expansion.Item.TheVariants as item
use Rattle.expansion.specs.Walk.{Told, Out, Ending, Ended, Failed, Unsaid, Ran, out_of, onto, expanded, ends}
use Rattle.expansion.specs.ToCome.{is_said_by, is_said, Comes}
use Rattle.scenario_reports.specs.declared.confirming.Seen.{Seen}
use Rattle.scenario_reports.specs.declared.confirming.Seen.TheVariants as seen
use Rattle.scenario_reports.specs.Faulty.{IsOdd, OddIn, HasOdd, AreFaulty}
use Rattle.scenario_reports.specs.Confirming.{IsStop, Stops, Sees, SeesItem, IsLeft}
use Rattle.scenario_reports.proofs.PlainLemmas.{is_plain, ArePlain, plain_at, expanded_plain}

-- ---- what is seen

unsaid_by : (outs : List Out) (e : Ending) → is_said_by outs e ≡ false → ends e ≡ false
unsaid_by (o ∷ os) e h = absurd (cc)
unsaid_by [] (Ended s) h = absurd (cc)
unsaid_by [] (Failed f) h = refl
unsaid_by [] Unsaid h = refl

abbrev end_of : Ran → Bool
end_of r = ends r.ending

unsaid : (r : Ran) → is_said r ≡ false → end_of r ≡ false
unsaid r h = unsaid_by r.outs r.ending h

abbrev with_outs : Ending → List Out → Ran
with_outs e outs = record { outs = outs; ending = e }

onto_onto : (a b : List Out) (r : Ran) → onto a (onto b r) ≡ onto (a ++ b) r
onto_onto a b r = ap (with_outs r.ending) (sym (append_assoc a b r.outs))

pub left_more : (s : SceneNow) (all now later : Ran) → IsLeft all now → Sees s now seen.Item later → IsLeft all later
left_more s all now later (inl e) sees = inl e
left_more s all now later (inr p) sees = by (is_said now) refl
  where
    by : (b : Bool) → is_said now ≡ b → IsLeft all later
    by true said = inr (p.0 ++ (sees said).0 ∷ [], p.1 ∙ ap (onto p.0) (sees said).1 ∙ onto_onto p.0 ((sees said).0 ∷ []) later)
    by false e = inl (ap end_of p.1 ∙ unsaid now e)

pub stops_all : (s : SceneNow) (all now later : Ran) → IsLeft all now → Sees s now seen.Stop later → Stops s all
stops_all s all now later (inl e) sees = inl e
stops_all s all now later (inr p) sees = by (is_said now) refl
  where
    at_stop : Stops s now → Stops s all
    at_stop (inl e) = inl (ap end_of p.1 ∙ e)
    at_stop (inr i) = inr (record {
      before = p.0 ++ i.before;
      out = i.out;
      after = i.after;
      split = ap (λ (r : Ran). r.outs) p.1 ∙ ap (λ (os : List Out). p.0 ++ os) i.split ∙ sym (append_assoc p.0 i.before (i.out ∷ i.after));
      stop = i.stop;
    })

    by : (b : Bool) → is_said now ≡ b → Stops s all
    by true said = at_stop (sees said)
    by false e = inl (ap end_of p.1 ∙ unsaid now e)

pub sees_item : (s : SceneNow) (now later : Ran) (told : Told) (i : Option Item) (v : Seen) → SeesItem s i v → (is_said now ≡ true → Comes now (Ok i) told later) → Sees s now v later
sees_item s now later told (Some i) seen.Item h comes = λ said. (out_of told i, comes said)
sees_item s now later told (Some i) seen.Stop h comes = λ said. inr (record { before = []; out = out_of told i; after = later.outs; split = ap (λ (r : Ran). r.outs) (comes said); stop = h })
sees_item s now later told (Some i) seen.End h comes = tt
sees_item s now later told None seen.Item h comes = absurd h
sees_item s now later told None seen.Stop h comes = absurd h
sees_item s now later told None seen.End h comes = tt

pub sees_fault : (s : SceneNow) (now later : Ran) (told : Told) (e : ExpandError) (f : Fault) → e ≡ error.Faulty f → (is_said now ≡ true → Comes now (Err e) told later) → Sees s now seen.Stop later
sees_fault s now later told error.Memory f same comes = absurd (cc)
sees_fault s now later told (error.Faulty g) f same comes = λ said. inl (ap end_of (comes said))

-- ---- a whole scenario

stop_is_odd : (s : SceneNow) (i : Item) → is_plain i ≡ true → IsStop s i → IsOdd s i
stop_is_odd s item.Opened p h = absurd (cc)
stop_is_odd s (item.Raw line) p h = h
stop_is_odd s (item.Entry who what) p h = h
stop_is_odd s (item.Note words) p h = h
stop_is_odd s (item.Unreached number) p h = h

walk_fails : (ls : List TextLine) (named : List NamedText) (count : ℕ) (s : SceneNow) (r : Ran) → header_read (at_first named) ls ≡ Ok (count, s) → r ≡ expanded ls named → Stops s r → AreFaulty ls named
walk_fails ls named count s r header same (inl e) = inl (ap end_of (sym same) ∙ e)
walk_fails ls named count s r header same (inr i) = inr (subst (λ (h : Result (ℕ × SceneNow) Fault). HasOdd h (expanded ls named).outs) (sym header) found)
  where
    split : (expanded ls named).outs ≡ i.before ++ i.out ∷ i.after
    split = ap (λ (x : Ran). x.outs) (sym same) ∙ i.split

    plain : is_plain i.out.item ≡ true
    plain = plain_at i.before i.after i.out (subst ArePlain split (expanded_plain ls named))

    found : OddIn s (expanded ls named).outs
    found = record { before = i.before; out = i.out; after = i.after; split = split; odd = stop_is_odd s i.out.item plain i.stop }

-- the same by what a walk knows of its lines, its words and its header
pub walk_fails_with : (ls read : List TextLine) (named first second : List NamedText) (start s : SceneNow) (count : ℕ) (r : Ran) → read ≡ ls → start ≡ at_first first → first ≡ named → second ≡ named
    → header_read start read ≡ Ok (count, s) → r ≡ expanded ls second → Stops s r → AreFaulty ls named
walk_fails_with ls read named first second start s count r lines starts firsts seconds header same stops =
    walk_fails ls named count s r
    (ap (λ (x : List NamedText). header_read (at_first x) ls) (sym firsts) ∙ ap (λ (x : SceneNow). header_read x ls) (sym starts) ∙ ap (λ (x : List TextLine). header_read start x) (sym lines) ∙ header)
    (same ∙ ap (λ (x : List NamedText). expanded ls x) seconds) stops

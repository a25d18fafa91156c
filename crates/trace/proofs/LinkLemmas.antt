-- Walks back along links.
use Rattle.std.proofs.Common.{◌≡◌, ℕ, zero, suc, ◌<◌, ◌≤◌, ◌==◌, Bool, true, false, cond, List, [], ◌∷◌, length, get_or, sym, ap, ◌∙◌, refl, subst, arith, Option, Some, None, eq-eqb}
use Rattle.machine.specs.declared.id.TaskId.{TaskId}
use Rattle.machine.specs.declared.event.Place.{Place}
use Rattle.machine.specs.declared.event.Place.TheVariants as place
use Rattle.machine.specs.declared.event.Op.TheVariants.{Read, Write}
use Rattle.machine.specs.declared.event.Event.{Event}
use Rattle.machine.specs.declared.event.Event.TheVariants as event
use Rattle.machine.specs.declared.reply.Reply.{Reply}
use Rattle.machine.specs.declared.reply.Reply.TheVariants as reply
use Rattle.machine.specs.declared.entry.Entry.{Entry}
use Rattle.machine.specs.History as history
use Rattle.machine.specs.History.{Spot, says, says_if, follow, last, at_first, is_spot, spot_of}
use Rattle.trace.specs.declared.page.Page.{Page}
use Rattle.trace.specs.declared.step.Stand.{Stand}
use Rattle.machine.specs.Audit.{before}
use Rattle.trace.specs.Walks.{spot_in, offset_in, page_at}
use Rattle.trace.specs.Links.{accessed, wrote, wrote_at, StoodIn, IsLink, IsLinkOf, IsLinkAt, IsAccessOf, IsStand, IsEarlier}
use Rattle.trace.specs.declared.link.Link.{Link}
use Rattle.trace.specs.declared.link.Link.TheVariants as link
use Rattle.std.proofs.lemmas.List.{get_or_default}
use Rattle.trace.proofs.WalkLemmas.{before-more}

own_spot : (t : TaskId) (place : Place) (o : ℕ) → is_spot (spot_of t.0 place) (spot_in (page_at t place) o) ≡ (offset_in place == o)
own_spot t (place.Virtual v offset) o = let e : (t.0 == t.0) ≡ true = eq-eqb t.0 t.0 refl in let e2 : (v == v) ≡ true = eq-eqb v v refl in rw (e, e2) refl
own_spot t (place.File file q offset) o = let e : (file == file) ≡ true = eq-eqb file file refl in let e2 : (q == q) ≡ true = eq-eqb q q refl in rw (e, e2) refl

follow_if : (test : Bool) (b : ℕ) (earlier : Spot → ℕ) (spot : Spot) → follow (says_if test (history.Byte b)) earlier spot ≡ cond test b (earlier spot)
follow_if true b earlier spot = refl
follow_if false b earlier spot = refl

says-written : (t : TaskId) (place : Place) (b o : ℕ) (earlier : Spot → ℕ) (page : Page) → page_at t place ≡ page
    → follow (says_if (is_spot (spot_of t.0 place) (spot_in page o)) (history.Byte b)) earlier (spot_in page o) ≡ cond (offset_in place == o) b (earlier (spot_in page o))
says-written t place b o earlier page same =
    subst (λ (p : Page). follow (says_if (is_spot (spot_of t.0 place) (spot_in p o)) (history.Byte b)) earlier (spot_in p o) ≡ cond (offset_in place == o) b (earlier (spot_in p o))) same
    (ap (λ test. follow (says_if test (history.Byte b)) earlier (spot_in (page_at t place) o)) (own_spot t place o) ∙ follow_if (offset_in place == o) b earlier (spot_in (page_at t place) o))

-- what an access says of its own page is what it wrote
pub says-wrote : (what : Event) (answer : Reply) (page : Page) (o : ℕ) (earlier : Spot → ℕ) → accessed what ≡ Some page
    → follow (says what answer (spot_in page o)) earlier (spot_in page o) ≡ wrote_at (wrote what answer) (λ o. earlier (spot_in page o)) o
says-wrote (event.Access t place Read) answer page o earlier h = refl
says-wrote (event.Access t place (Write b)) (reply.Done byte hit) page o earlier h =
    let h' : Some (page_at t place) ≡ Some page = h in
    let same : page_at t place ≡ page = cc in
    says-written t place b o earlier page same
says-wrote (event.Access t place (Write b)) answer page o earlier h = refl
says-wrote what answer page o earlier h = let h' : None ≡ Some page = h in cc

-- one step back
pub last-earlier : (files : ℕ → ℕ → ℕ → ℕ) (xs : List Entry) (stand earlier : Stand) (e : Entry) (o : ℕ) → stand.at ≤ length xs → IsEarlier xs stand earlier → e ≡ get_or xs earlier.at e
    → last (at_first files) (before xs stand.at) (spot_in stand.page o) ≡ wrote_at (wrote e.event e.reply) (λ o. last (at_first files) (before xs earlier.at) (spot_in earlier.page o)) o
last-earlier files xs stand earlier e o within h is =
    h.bytes files o
    ∙ (ap (λ history. last (at_first files) history (spot_in earlier.page o)) (before-more xs earlier.at e (let low = h.lower in omega arith) is)
    ∙ says-wrote e.event e.reply earlier.page o (last (at_first files) (before xs earlier.at)) (h.reaches e is))

-- an element is one whatever stands for a missing one
pub same_entry : (xs : List Entry) (k : ℕ) (e other : Entry) → k < length xs → e ≡ get_or xs k e → other ≡ get_or xs k other → other ≡ e
same_entry xs k e other lt is is' = is' ∙ (get_or_default xs k other e lt ∙ sym is)

-- where a link leads to an access, which has this link
pub earlier-linked : (xs : List Entry) (stand : Stand) (at : ℕ) (e : Entry) (page : Page) (own : Link) → IsLinkAt xs at own → IsStand xs stand → stand.link ≡ link.After at
    → e ≡ get_or xs at e → accessed e.event ≡ Some page → IsEarlier xs stand (record { at = at; page = page; link = own })
earlier-linked xs stand at e page own right h after is reaches =
    let linked = subst (λ (l : Link). IsLink xs stand.at stand.page l) after h.linked in
    let within = h.within in
    let low : at < stand.at = linked.0 in
    let lt : at < length xs = omega arith in
    record {
      lower = low;
      stands = record {
        within = omega arith;
        linked = subst (λ (p : Option Page). IsLinkOf xs at p own) reaches (right e is);
      };
      reaches = λ other is'. ap (λ (x : Entry). accessed x.event) (same_entry xs at e other lt is is') ∙ reaches;
      bytes = subst (λ (p : Option Page). StoodIn xs stand.at stand.page at p) reaches (linked.1 e is);
    }

-- there it is in the trace
pub stand-within : (xs : List Entry) (stand : Stand) (at : ℕ) → IsStand xs stand → stand.link ≡ link.After at → at < length xs
stand-within xs stand at h after =
    let linked = subst (λ (l : Link). IsLink xs stand.at stand.page l) after h.linked in
    let within = h.within in
    let low : at < stand.at = linked.0 in
    omega arith

entry_at : (xs : List Entry) (k : ℕ) → k < length xs → (e : Entry) × (e ≡ get_or xs k e)
entry_at [] k lt = absurd (omega arith)
entry_at (x ∷ xs) zero lt = (x, refl)
entry_at (x ∷ xs) (suc k) lt = entry_at xs k (omega arith)

-- an access stands before itself, with its own link
pub own-stand : (xs : List Entry) (at : ℕ) (page accessed : Page) (own : Link) → IsLinkAt xs at own → at < length xs
    → IsAccessOf xs at accessed → page ≡ accessed → IsStand xs (record { at = at; page = page; link = own })
own-stand xs at page accessed own right lt reaches same =
    let found = entry_at xs at lt in
    let linked = subst (λ (p : Option Page). IsLinkOf xs at p own) (reaches found.0 found.1) (right found.0 found.1) in
    record {
      within = omega arith;
      linked = subst (λ (p : Page). IsLink xs at p own) (sym same) linked;
    }

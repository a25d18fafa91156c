-- What is known of pages, one entry more.
use Rattle.std.proofs.Common.{◌≡◌, ℕ, ◌+◌, ◌<◌, ◌≤◌, ◌==◌, ◌&&◌, Bool, true, false, cond, List, [], ◌∷◌, ◌++◌, length, reverse, get_or, sym, ap, ◌∙◌, refl, subst, arith, Option, Some, None, length-append, inl, inr}
use Rattle.std.proofs.lemmas.List.{take-append-le, get_or_append_left, get_or_at}
use Rattle.std.proofs.lemmas.Bool.{eqb-true}
use Rattle.machine.specs.declared.id.TaskId.{TaskId}
use Rattle.machine.specs.declared.id.WorkerId.{WorkerId}
use Rattle.machine.specs.declared.id.GroupId.{GroupId}
use Rattle.machine.specs.declared.id.FrameId.{FrameId}
use Rattle.machine.specs.declared.event.Place.{Place}
use Rattle.machine.specs.declared.event.Place.TheVariants as place
use Rattle.machine.specs.declared.event.Op.TheVariants.{Write}
use Rattle.machine.specs.declared.event.Event.{Event}
use Rattle.machine.specs.declared.event.Event.TheVariants as event
use Rattle.machine.specs.declared.reply.Reply.{Reply}
use Rattle.machine.specs.declared.reply.Reply.TheVariants as reply
use Rattle.machine.specs.declared.entry.Entry.{Entry}
use Rattle.machine.specs.History as history
use Rattle.machine.specs.History.{Spot, says, says_if, follow, last, at_first, is_spot, spot_of}
use Rattle.machine.proofs.TreeLemmas.{eq_cases}
use Rattle.trace.specs.declared.page.Page.{Page}
use Rattle.trace.specs.declared.page.Page.TheVariants.{Memory, File}
use Rattle.trace.specs.declared.link.Link.{Link}
use Rattle.trace.specs.declared.link.Link.TheVariants as link
use Rattle.machine.specs.Audit.{before}
use Rattle.trace.specs.Walks.{spot_in, page_at, is_place_of}
use Rattle.trace.specs.Links.{accessed, StoodIn, IsLink, IsLinkOf, AreLinks}
use Rattle.trace.specs.Heads.{link_after, link_for, MayBe, AreKnown}
use Rattle.trace.proofs.WalkLemmas.{before-more}

-- ---- one entry more

pub length-more : (xs : List Entry) (e : Entry) → length (xs ++ e ∷ []) ≡ length xs + 1
length-more xs e = length-append xs (e ∷ [])

-- what stood before a place stands there still
pub before-kept : (xs : List Entry) (e : Entry) (k : ℕ) → k ≤ length xs → before (xs ++ e ∷ []) k ≡ before xs k
before-kept xs e k within = ap reverse (take-append-le k xs (e ∷ []) within)

-- an entry below stands there still
pub entry-kept : (xs : List Entry) (e other : Entry) (k : ℕ) → k < length xs → other ≡ get_or (xs ++ e ∷ []) k other → other ≡ get_or xs k other
entry-kept xs e other k lt is = is ∙ get_or_append_left xs (e ∷ []) other k lt

-- the newest is the last
pub entry-new : (xs : List Entry) (e other : Entry) → other ≡ get_or (xs ++ e ∷ []) (length xs) other → other ≡ e
entry-new xs e other is = is ∙ get_or_at xs e [] other (length xs) refl

pub entry-there : (xs : List Entry) (e : Entry) → e ≡ get_or (xs ++ e ∷ []) (length xs) e
entry-there xs e = sym (get_or_at xs e [] e (length xs) refl)

-- before the end of the longer trace stands the entry, and what was before it
pub before-end : (xs : List Entry) (e : Entry) → before (xs ++ e ∷ []) (length xs + 1) ≡ e ∷ before xs (length xs)
before-end xs e =
    let longer = length-more xs e in
    let lt : length xs < length (xs ++ e ∷ []) = omega arith in
    before-more (xs ++ e ∷ []) (length xs) e lt (entry-there xs e) ∙ ap (λ history. e ∷ history) (before-kept xs e (length xs) (omega arith))

-- ---- links

stood-kept : (xs : List Entry) (e : Entry) (k k' : ℕ) (page from : Page) (j : ℕ) (other : Option Page) → j < length xs
    → ((files : ℕ → ℕ → ℕ → ℕ) (o : ℕ) → last (at_first files) (before (xs ++ e ∷ []) k') (spot_in page o) ≡ last (at_first files) (before xs k) (spot_in from o))
    → StoodIn xs k from j other → StoodIn (xs ++ e ∷ []) k' page j other
stood-kept xs e k k' page from j (Some other) lt same h = λ files o.
    same files o ∙ (h files o ∙ ap (λ history. last (at_first files) history (spot_in other o)) (sym (before-kept xs e (j + 1) (omega arith))))
stood-kept xs e k k' page from j None lt same h = tt

-- a link from one page serves another that has its bytes, at a later place
link-moved : (xs : List Entry) (e : Entry) (k k' : ℕ) (page from : Page) (known : Link) → k ≤ length xs → k ≤ k'
    → ((files : ℕ → ℕ → ℕ → ℕ) (o : ℕ) → last (at_first files) (before (xs ++ e ∷ []) k') (spot_in page o) ≡ last (at_first files) (before xs k) (spot_in from o))
    → ((files : ℕ → ℕ → ℕ → ℕ) (o : ℕ) → at_first files (spot_in from o) ≡ at_first files (spot_in page o))
    → IsLink xs k from known → IsLink (xs ++ e ∷ []) k' page known
link-moved xs e k k' page from link.Unknown within up same begins h = tt
link-moved xs e k k' page from link.First within up same begins h = λ files o. same files o ∙ (h files o ∙ begins files o)
link-moved xs e k k' page from (link.After j) within up same begins h =
    let low = h.0 in
    (omega arith, λ other is. stood-kept xs e k k' page from j (accessed other.event) (omega arith) same (h.1 other (entry-kept xs e other j (omega arith) is)))

-- at a place that was there a link stays right
pub link-kept : (xs : List Entry) (e : Entry) (k : ℕ) (page : Page) (known : Link) → k ≤ length xs → IsLink xs k page known → IsLink (xs ++ e ∷ []) k page known
link-kept xs e k page known within h =
    link-moved xs e k k page page known within (omega arith) (λ files o. ap (λ history. last (at_first files) history (spot_in page o)) (before-kept xs e k within)) (λ files o. refl) h

-- ---- what an entry leaves known

-- a byte at the end of the longer trace
last-end : (files : ℕ → ℕ → ℕ → ℕ) (xs : List Entry) (e : Entry) (spot : Spot)
    → last (at_first files) (before (xs ++ e ∷ []) (length xs + 1)) spot ≡ follow (says e.event e.reply spot) (last (at_first files) (before xs (length xs))) spot
last-end files xs e spot = ap (λ history. last (at_first files) history spot) (before-end xs e)

-- an entry that says nothing of a page
silent : (xs : List Entry) (e : Entry) (page : Page) (known : Link) → ((o : ℕ) → says e.event e.reply (spot_in page o) ≡ history.Nothing)
    → IsLink xs (length xs) page known → IsLink (xs ++ e ∷ []) (length xs + 1) page known
silent xs e page known nothing h =
    link-moved xs e (length xs) (length xs + 1) page page known (omega arith) (omega arith)
    (λ files o. last-end files xs e (spot_in page o) ∙ ap (λ s. follow s (last (at_first files) (before xs (length xs))) (spot_in page o)) (nothing o))
    (λ files o. refl) h

-- an entry that makes a page what another was
copied : (xs : List Entry) (e : Entry) (page from : Page) (known : Link) → ((o : ℕ) → says e.event e.reply (spot_in page o) ≡ history.As (spot_in from o))
    → ((files : ℕ → ℕ → ℕ → ℕ) (o : ℕ) → at_first files (spot_in from o) ≡ at_first files (spot_in page o))
    → IsLink xs (length xs) from known → IsLink (xs ++ e ∷ []) (length xs + 1) page known
copied xs e page from known tells begins h =
    link-moved xs e (length xs) (length xs + 1) page from known (omega arith) (omega arith)
    (λ files o. last-end files xs e (spot_in page o) ∙ ap (λ s. follow s (last (at_first files) (before xs (length xs))) (spot_in page o)) (tells o))
    begins h

-- an entry that makes a page of a task zeros
zeroed : (xs : List Entry) (e : Entry) (page : Page) → ((o : ℕ) → says e.event e.reply (spot_in page o) ≡ history.Byte 0)
    → ((files : ℕ → ℕ → ℕ → ℕ) (o : ℕ) → at_first files (spot_in page o) ≡ 0) → IsLink (xs ++ e ∷ []) (length xs + 1) page link.First
zeroed xs e page tells begins = λ files o.
    last-end files xs e (spot_in page o) ∙ (ap (λ s. follow s (last (at_first files) (before xs (length xs))) (spot_in page o)) (tells o) ∙ sym (begins files o))

-- an access leaves its own page known
own : (xs : List Entry) (e : Entry) (page : Page) → accessed e.event ≡ Some page → IsLink (xs ++ e ∷ []) (length xs + 1) page (link.After (length xs))
own xs e page reaches = (
  omega arith,
  λ other is.
      subst (λ (p : Option Page). StoodIn (xs ++ e ∷ []) (length xs + 1) page (length xs) p) (sym (ap (λ (x : Entry). accessed x.event) (entry-new xs e other is) ∙ reaches)) (λ files o. refl),
)

by_test : (entries : List Entry) (k : ℕ) (page : Page) (test : Bool) (hit miss : Link) → (test ≡ true → IsLink entries k page hit) → (test ≡ false → IsLink entries k page miss)
    → IsLink entries k page (cond test hit miss)
by_test entries k page true hit miss h n = h refl
by_test entries k page false hit miss h n = n refl

and-false : (a b c : Bool) → (a && b) ≡ false → (a && (b && c)) ≡ false
and-false true true c h = let e : true ≡ false = h in cc
and-false true false c h = refl
and-false false b c h = refl

pub and-left : (a b : Bool) → (a && b) ≡ true → a ≡ true
and-left true b h = refl
and-left false b h = h

pub and-right : (a b : Bool) → (a && b) ≡ true → b ≡ true
and-right true b h = h
and-right false b h = let e : false ≡ true = h in cc

-- the place is in this page
place-page : (page : Page) (t : TaskId) (place : Place) → is_place_of page t.0 place ≡ true → page_at t place ≡ page
place-page (Memory task v) t (place.Virtual v' offset) h =
    let tasks : t.0 ≡ task.0 = eqb-true t.0 task.0 (and-left (t.0 == task.0) (v' == v) h) in
    let pages : v' ≡ v = eqb-true v' v (and-right (t.0 == task.0) (v' == v) h) in
    ap (λ n. Memory (record { 0 = n }) v') tasks ∙ ap (λ n. Memory task n) pages
place-page (File file q) t (place.File file' q' offset) h =
    let files : file' ≡ file = eqb-true file' file (and-left (file' == file) (q' == q) h) in
    let pages : q' ≡ q = eqb-true q' q (and-right (file' == file) (q' == q) h) in
    ap (λ n. File n q') files ∙ ap (λ n. File file n) pages
place-page (Memory task v) t (place.File file' q' offset) h = let e : false ≡ true = h in cc
place-page (File file q) t (place.Virtual v' offset) h = let e : false ≡ true = h in cc

-- a write elsewhere says nothing of the page
elsewhere : (page : Page) (t : TaskId) (place : Place) (o : ℕ) → is_place_of page t.0 place ≡ false → is_spot (spot_of t.0 place) (spot_in page o) ≡ false
elsewhere (Memory task v) t (place.Virtual v' offset) o h = and-false (t.0 == task.0) (v' == v) (offset == o) h
elsewhere (File file q) t (place.File file' q' offset) o h = and-false (file' == file) (q' == q) (offset == o) h
elsewhere (Memory task v) t (place.File file' q' offset) o h = refl
elsewhere (File file q) t (place.Virtual v' offset) o h = refl

both_if : (a b : Bool) (s : history.Says) → says_if a (says_if b s) ≡ says_if (a && b) s
both_if true b s = refl
both_if false b s = refl

abbrev entry : WorkerId → ℕ → Event → Reply → Entry
entry w n what answer = record { worker = w; count = n; event = what; reply = answer }

link-spawn : (xs : List Entry) (w : WorkerId) (n : ℕ) (t : TaskId) (g : GroupId) (page : Page) (known : Page → Link) → AreKnown xs known
    → IsLink (xs ++ entry w n (event.Spawn t g) reply.Ok ∷ []) (length xs + 1) page (link_after (event.Spawn t g) reply.Ok (length xs) known page)
link-spawn xs w n t g (Memory task v) known h =
    let e = entry w n (event.Spawn t g) reply.Ok in
    by_test (xs ++ e ∷ []) (length xs + 1) (Memory task v) (t.0 == task.0) link.First (known (Memory task v))
    (λ hit. zeroed xs e (Memory task v) (λ o. ap (λ test. says_if test (history.Byte 0)) hit) (λ files o. refl))
    (λ miss. silent xs e (Memory task v) (known (Memory task v)) (λ o. ap (λ test. says_if test (history.Byte 0)) miss) (h (Memory task v)))
link-spawn xs w n t g (File file q) known h = silent xs (entry w n (event.Spawn t g) reply.Ok) (File file q) (known (File file q)) (λ o. refl) (h (File file q))

link-fork : (xs : List Entry) (w : WorkerId) (n : ℕ) (t child : TaskId) (page : Page) (known : Page → Link) → AreKnown xs known
    → IsLink (xs ++ entry w n (event.Fork t child) reply.Ok ∷ []) (length xs + 1) page (link_after (event.Fork t child) reply.Ok (length xs) known page)
link-fork xs w n t child (Memory task v) known h =
    let e = entry w n (event.Fork t child) reply.Ok in
    by_test (xs ++ e ∷ []) (length xs + 1) (Memory task v) (child.0 == task.0) (known (Memory t v)) (known (Memory task v))
    (λ hit. copied xs e (Memory task v) (Memory t v) (known (Memory t v)) (λ o. ap (λ test. says_if test (history.As (spot_in (Memory t v) o))) hit) (λ files o. refl) (h (Memory t v)))
    (λ miss. silent xs e (Memory task v) (known (Memory task v)) (λ o. ap (λ test. says_if test (history.As (spot_in (Memory t v) o))) miss) (h (Memory task v)))
link-fork xs w n t child (File file q) known h = silent xs (entry w n (event.Fork t child) reply.Ok) (File file q) (known (File file q)) (λ o. refl) (h (File file q))

link-free : (xs : List Entry) (w : WorkerId) (n : ℕ) (t : TaskId) (freed : ℕ) (page : Page) (known : Page → Link) → AreKnown xs known
    → IsLink (xs ++ entry w n (event.Free t freed) reply.Ok ∷ []) (length xs + 1) page (link_after (event.Free t freed) reply.Ok (length xs) known page)
link-free xs w n t freed (Memory task v) known h =
    let e = entry w n (event.Free t freed) reply.Ok in
    by_test (xs ++ e ∷ []) (length xs + 1) (Memory task v) ((t.0 == task.0) && (freed == v)) link.First (known (Memory task v))
    (λ hit. zeroed xs e (Memory task v) (λ o. both_if (t.0 == task.0) (freed == v) (history.Byte 0) ∙ ap (λ test. says_if test (history.Byte 0)) hit) (λ files o. refl))
    (λ miss. silent xs e (Memory task v) (known (Memory task v)) (λ o. both_if (t.0 == task.0) (freed == v) (history.Byte 0) ∙ ap (λ test. says_if test (history.Byte 0)) miss) (h (Memory task v)))
link-free xs w n t freed (File file q) known h = silent xs (entry w n (event.Free t freed) reply.Ok) (File file q) (known (File file q)) (λ o. refl) (h (File file q))

link-write : (xs : List Entry) (w : WorkerId) (n : ℕ) (t : TaskId) (place : Place) (b byte : ℕ) (hit : Option FrameId) (page : Page) (known : Page → Link) → AreKnown xs known
    → IsLink (xs ++ entry w n (event.Access t place (Write b)) (reply.Done byte hit) ∷ []) (length xs + 1) page (link_after (event.Access t place (Write b)) (reply.Done byte hit) (length xs) known page)
link-write xs w n t place b byte hit page known h =
    let e = entry w n (event.Access t place (Write b)) (reply.Done byte hit) in
    by_test (xs ++ e ∷ []) (length xs + 1) page (is_place_of page t.0 place) (link.After (length xs)) (known page)
    (λ there. own xs e page (ap (λ (p : Page). Some p) (place-page page t place there)))
    (λ miss. silent xs e page (known page) (λ o. ap (λ test. says_if test (history.Byte b)) (elsewhere page t place o miss)) (h page))

-- what is known after an entry is right
link-more : (xs : List Entry) (w : WorkerId) (n : ℕ) (what : Event) (answer : Reply) (page : Page) (known : Page → Link) → AreKnown xs known
    → IsLink (xs ++ entry w n what answer ∷ []) (length xs + 1) page (link_after what answer (length xs) known page)
link-more xs w n (event.Access t place (Write b)) (reply.Done byte hit) page known h = link-write xs w n t place b byte hit page known h
link-more xs w n (event.Spawn t g) reply.Ok page known h = link-spawn xs w n t g page known h
link-more xs w n (event.Fork t child) reply.Ok page known h = link-fork xs w n t child page known h
link-more xs w n (event.Free t freed) reply.Ok page known h = link-free xs w n t freed page known h
link-more xs w n what answer page known h = silent xs (entry w n what answer) page (known page) (λ o. refl) (h page)

may-link : (entries : List Entry) (k : ℕ) (page : Page) (l other : Link) → MayBe l other → IsLink entries k page other → IsLink entries k page l
may-link entries k page link.Unknown other may h = tt
may-link entries k page link.First other may h = subst (λ (x : Link). IsLink entries k page x) (sym may) h
may-link entries k page (link.After j) other may h = subst (λ (x : Link). IsLink entries k page x) (sym may) h

-- what is known stays right with an entry more
pub known-more : (xs : List Entry) (e : Entry) (known now : Page → Link) → AreKnown xs known → ((page : Page) → MayBe (now page) (link_after e.event e.reply (length xs) known page)) → AreKnown (xs ++ e ∷ []) now
known-more xs e known now h may = λ page.
    subst (λ (n : ℕ). IsLink (xs ++ e ∷ []) n page (now page)) (sym (length-more xs e))
    (may-link (xs ++ e ∷ []) (length xs + 1) page (now page) (link_after e.event e.reply (length xs) known page) (may page) (link-more xs e.worker e.count e.event e.reply page known h))

kept_of : (xs : List Entry) (e : Entry) (k : ℕ) (page : Option Page) (l : Link) → k ≤ length xs → IsLinkOf xs k page l → IsLinkOf (xs ++ e ∷ []) k page l
kept_of xs e k (Some page) l within h = link-kept xs e k page l within h
kept_of xs e k None l within h = tt

newest : (xs : List Entry) (links : List Link) (e : Entry) (l : Link) (k : ℕ) (other : Entry) → length links ≡ length xs → k ≡ length xs → IsLinkOf xs (length xs) (accessed e.event) l
    → other ≡ get_or (xs ++ e ∷ []) k other → IsLinkOf (xs ++ e ∷ []) k (accessed other.event) (get_or (links ++ l ∷ []) k link.Unknown)
newest xs links e l k other sized same new is =
    let is' = subst (λ (n : ℕ). other ≡ get_or (xs ++ e ∷ []) n other) same is in
    let there : get_or (links ++ l ∷ []) k link.Unknown ≡ l = get_or_at links l [] link.Unknown k (sized ∙ sym same) in
    let kept = kept_of xs e (length xs) (accessed e.event) l (omega arith) new in
    let entries = subst (λ (x : Entry). IsLinkOf (xs ++ e ∷ []) (length xs) (accessed x.event) l) (sym (entry-new xs e other is')) kept in
    let placed = subst (λ (n : ℕ). IsLinkOf (xs ++ e ∷ []) n (accessed other.event) l) (sym same) entries in
    subst (λ (x : Link). IsLinkOf (xs ++ e ∷ []) k (accessed other.event) x) (sym there) placed

older : (xs : List Entry) (links : List Link) (e : Entry) (l : Link) (k : ℕ) (other : Entry) → length links ≡ length xs → k < length xs → AreLinks xs links
    → other ≡ get_or (xs ++ e ∷ []) k other → IsLinkOf (xs ++ e ∷ []) k (accessed other.event) (get_or (links ++ l ∷ []) k link.Unknown)
older xs links e l k other sized lt h is =
    let there : get_or (links ++ l ∷ []) k link.Unknown ≡ get_or links k link.Unknown = get_or_append_left links (l ∷ []) link.Unknown k (omega arith) in
    subst (λ (x : Link). IsLinkOf (xs ++ e ∷ []) k (accessed other.event) x) (sym there)
    (kept_of xs e k (accessed other.event) (get_or links k link.Unknown) (omega arith) (h k lt other (entry-kept xs e other k lt is)))

-- the links, with that of the entry
pub links-more : (xs : List Entry) (links : List Link) (e : Entry) (l : Link) → length links ≡ length xs → AreLinks xs links → IsLinkOf xs (length xs) (accessed e.event) l → AreLinks (xs ++ e ∷ []) (links ++ l ∷ [])
links-more xs links e l sized h new = λ k lt other is.
    elim (eq_cases k (length xs)) [
      | inl same ↦ newest xs links e l k other sized same new is
      | inr apart ↦ older xs links e l k other sized (let more = length-more xs e in omega arith) h is
    ]

-- ---- a trace with an entry more

link-new : (xs : List Entry) (known : Page → Link) (page : Option Page) → AreKnown xs known → IsLinkOf xs (length xs) page (link_for known page)
link-new xs known (Some page) h = h page
link-new xs known None h = tt

pub record Keeps (xs : List Entry) (ls : List Link) (head : Page → Link) : Type 0 where
  pub links : AreLinks xs ls
  pub sized : length ls ≡ length xs
  pub known : AreKnown xs head

pub keeps-more : (xs xs' : List Entry) (links links' : List Link) (e : Entry) (l : Link) (known now : Page → Link) (at : ℕ) → AreLinks xs links → length links ≡ length xs → AreKnown xs known
    → l ≡ link_for known (accessed e.event) → at ≡ length xs → ((page : Page) → MayBe (now page) (link_after e.event e.reply at known page))
    → xs' ≡ xs ++ e ∷ [] → links' ≡ links ++ l ∷ [] → Keeps xs' links' now
keeps-more xs xs' links links' e l known now at linked sized h new placed noted longer longer' =
    let fresh = subst (λ (x : Link). IsLinkOf xs (length xs) (accessed e.event) x) (sym new) (link-new xs known (accessed e.event) h) in
    let noted' = subst (λ (n : ℕ). (page : Page) → MayBe (now page) (link_after e.event e.reply n known page)) placed noted in
    let all = links-more xs links e l sized linked fresh in
    let more = known-more xs e known now h noted' in
    record {
      links = subst (λ (x : List Entry). AreLinks x links') (sym longer) (subst (λ (x : List Link). AreLinks (xs ++ e ∷ []) x) (sym longer') all);
      sized = ap length longer' ∙ (length-append links (l ∷ []) ∙ (ap (λ n. n + 1) sized ∙ (sym (length-append xs (e ∷ [])) ∙ sym (ap length longer))));
      known = subst (λ (x : List Entry). AreKnown x now) (sym longer) more;
    }

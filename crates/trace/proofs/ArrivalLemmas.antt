-- First arrivals, one entry more.
use Rattle.std.proofs.Common.{◌≡◌, ℕ, Bool, true, false, cond, ◌==◌, ◌&&◌, List, [], ◌∷◌, ◌++◌, length, reverse, sym, ap, ◌∙◌, refl, subst, arith, Option, Some, None}
use Rattle.std.proofs.lemmas.List.{reverse-append}
use Rattle.machine.specs.declared.event.Event.{Event}
use Rattle.machine.specs.declared.event.Event.TheVariants as event
use Rattle.machine.specs.declared.entry.Entry.{Entry}
use Rattle.trace.specs.declared.link.Link.{Link}
use Rattle.trace.specs.declared.link.Link.TheVariants as link
use Rattle.machine.specs.History.{fetch_of}
use Rattle.machine.specs.FirstBytes.{or_else, is_read_of, brought_by, first_arrival}
use Rattle.trace.specs.Rows.{RowOf}
use Rattle.trace.specs.Heads.{MayBe, link_in}
use Rattle.trace.specs.Arrivals.{arrived_bytes, IsFirstOf, IsArrival, AreArrivals, arrival_after}
use Rattle.trace.proofs.HeadLemmas.{length-more, entry-kept, entry-new, and-left, and-right}
use Rattle.std.proofs.lemmas.Bool.{eqb-true}
use Rattle.trace.proofs.TableLemmas.{may-same}

-- with an entry more
first-end : (f q : ℕ) (xs : List Entry) (e : Entry) → first_arrival f q (reverse (xs ++ e ∷ [])) ≡ or_else (first_arrival f q (reverse xs)) (brought_by f q e.event (reverse xs))
first-end f q xs e = ap (first_arrival f q) (reverse-append xs (e ∷ []))

first_of-kept : (f q : ℕ) (xs : List Entry) (e : Entry) (bytes : Option (List ℕ)) → IsFirstOf xs f q bytes → IsFirstOf (xs ++ e ∷ []) f q bytes
first_of-kept f q xs e None h = h
first_of-kept f q xs e (Some bytes) h = first-end f q xs e ∙ ap (λ first. or_else first (brought_by f q e.event (reverse xs))) h

-- what is brought is the arrival's
brought-own : (f q : ℕ) (what : Event) (earlier : List Entry) (bytes : List ℕ) → brought_by f q what earlier ≡ Some bytes → arrived_bytes what ≡ Some bytes
brought-own f q (event.Arrived ticket arrived) earlier bytes h = own (is_read_of f q (fetch_of ticket.0 earlier)) arrived bytes h
  where
    own : (test : Bool) (arrived bytes : List ℕ) → cond test (Some arrived) None ≡ Some bytes → Some arrived ≡ Some bytes
    own true arrived bytes h = h
    own false arrived bytes h = let h' : None ≡ Some bytes = h in cc
brought-own f q what earlier bytes h = let h' : None ≡ Some bytes = h in cc

-- the link of a page, with an entry more
pub arrival-more : (f q : ℕ) (xs : List Entry) (e : Entry) (known : Link) (brought : Option (List ℕ)) → brought_by f q e.event (reverse xs) ≡ brought → IsArrival xs f q known
    → IsArrival (xs ++ e ∷ []) f q (arrival_after brought (length xs) known)
arrival-more f q xs e link.First (Some bytes) by h = (
  let more = length-more xs e in omega arith,
  λ other is.
      subst (λ (b : Option (List ℕ)). IsFirstOf (xs ++ e ∷ []) f q b) (sym (ap (λ (x : Entry). arrived_bytes x.event) (entry-new xs e other is) ∙ brought-own f q e.event (reverse xs) bytes by))
      (first-end f q xs e ∙ (ap (λ first. or_else first (brought_by f q e.event (reverse xs))) h ∙ by)),
)
arrival-more f q xs e link.Unknown (Some bytes) by h = tt
arrival-more f q xs e (link.After j) (Some bytes) by h =
    let low = h.0 in
    (let more = length-more xs e in omega arith, λ other is. first_of-kept f q xs e (arrived_bytes other.event) (h.1 other (entry-kept xs e other j (omega arith) is)))
arrival-more f q xs e link.First None by h = first-end f q xs e ∙ (ap (λ first. or_else first (brought_by f q e.event (reverse xs))) h ∙ by)
arrival-more f q xs e link.Unknown None by h = tt
arrival-more f q xs e (link.After j) None by h =
    let low = h.0 in
    (let more = length-more xs e in omega arith, λ other is. first_of-kept f q xs e (arrived_bytes other.event) (h.1 other (entry-kept xs e other j (omega arith) is)))

may-arrival : (entries : List Entry) (f q : ℕ) (l other : Link) → MayBe l other → IsArrival entries f q other → IsArrival entries f q l
may-arrival entries f q link.Unknown other may h = tt
may-arrival entries f q link.First other may h = subst (λ (x : Link). IsArrival entries f q x) (sym may) h
may-arrival entries f q (link.After j) other may h = subst (λ (x : Link). IsArrival entries f q x) (sym may) h

-- the table, with an entry more
pub arrivals-more : (xs : List Entry) (e : Entry) (old new : List RowOf) → AreArrivals xs old
    → ((f q : ℕ) → MayBe (link_in new f q) (arrival_after (brought_by f q e.event (reverse xs)) (length xs) (link_in old f q))) → AreArrivals (xs ++ e ∷ []) new
arrivals-more xs e old new h may = λ f q.
    may-arrival (xs ++ e ∷ []) f q (link_in new f q) (arrival_after (brought_by f q e.event (reverse xs)) (length xs) (link_in old f q)) (may f q)
    (arrival-more f q xs e (link_in old f q) (brought_by f q e.event (reverse xs)) refl (h f q))

-- a trace without entries
pub arrivals-none : (rows : List RowOf) → ((r c : ℕ) → MayBe (link_in rows r c) link.First) → AreArrivals [] rows
arrivals-none rows h = λ f q. may-arrival [] f q (link_in rows f q) link.First (h f q) refl

-- ---- a page noted

noted : (test : Bool) (bytes : List ℕ) (at : ℕ) (now old : Link) → (test ≡ true → old ≡ link.First) → MayBe now (cond test (link.After at) old)
    → MayBe now (arrival_after (cond test (Some bytes) None) at old)
noted true bytes at now old first h = subst (λ (x : Link). MayBe now (arrival_after (Some bytes) at x)) (sym (first refl)) h
noted false bytes at now old first h = h

kept : (test : Bool) (bytes : List ℕ) (at : ℕ) (old : Link) → (test ≡ true → old ≡ link.First → ⊥) → MayBe old (arrival_after (cond test (Some bytes) None) at old)
kept true bytes at link.Unknown other = tt
kept true bytes at link.First other = absurd (other refl refl)
kept true bytes at (link.After j) other = refl
kept false bytes at old other = may-same old

same_place : (rows : List RowOf) (file page f q : ℕ) → ((file == f) && (page == q)) ≡ true → link_in rows f q ≡ link_in rows file page
same_place rows file page f q hit =
    let files : file ≡ f = eqb-true file f (and-left (file == f) (page == q) hit) in
    let pages : page ≡ q = eqb-true page q (and-right (file == f) (page == q) hit) in
    sym (ap (λ n. link_in rows n page) files ∙ ap (λ n. link_in rows f n) pages)

pub first-noted : (rows new : List RowOf) (file page at : ℕ) → link_in rows file page ≡ link.First
    → ((r c : ℕ) → MayBe (link_in new r c) (cond ((file == r) && (page == c)) (link.After at) (link_in rows r c)))
    → (f q : ℕ) (bytes : List ℕ) → MayBe (link_in new f q) (arrival_after (cond ((file == f) && (page == q)) (Some bytes) None) at (link_in rows f q))
first-noted rows new file page at first h f q bytes =
    noted ((file == f) && (page == q)) bytes at (link_in new f q) (link_in rows f q) (λ hit. same_place rows file page f q hit ∙ first) (h f q)

pub first-kept : (rows : List RowOf) (file page at : ℕ) → (link_in rows file page ≡ link.First → ⊥)
    → (f q : ℕ) (bytes : List ℕ) → MayBe (link_in rows f q) (arrival_after (cond ((file == f) && (page == q)) (Some bytes) None) at (link_in rows f q))
first-kept rows file page at other f q bytes =
    kept ((file == f) && (page == q)) bytes at (link_in rows f q) (λ hit first. other (sym (same_place rows file page f q hit) ∙ first))

-- What a call adds to a pass's share.
use Rattle.std.proofs.Common.{◌≡◌, ℕ, ◌+◌, ◌≤◌, Bool, true, false, List, [], ◌∷◌, ◌++◌, map, refl, sym, ap, ◌∙◌, arith, subst, Option}
use Rattle.std.specs.Prelude.{count_by}
use Rattle.std.proofs.lemmas.Bool.Decides.{nat_tests}
use Rattle.std.proofs.lemmas.List.Sums.{sum_by-append, sum_by-cons}
use Rattle.machine.specs.declared.event.Event.{Event as Plain_event}
use Rattle.machine.specs.declared.event.Event.TheVariants as plain
use Rattle.machine.specs.declared.reply.Reply.{Reply as Plain_reply}
use Rattle.machine.specs.declared.reply.Reply.TheVariants as said
use Rattle.machine.specs.declared.refusal.Refusal.TheVariants.{Stranger}
use Rattle.machine.specs.Transfers.{ends_transfer}
use Rattle.book_events.specs.declared.event.Event.{Event}
use Rattle.book_events.specs.declared.event.Event.TheVariants as event
use Rattle.book_events.specs.declared.event.Reply.{Reply}
use Rattle.book_events.specs.declared.event.Reply.TheVariants as reply
use Rattle.book.specs.declared.kept.Asked.{Asked}
use Rattle.book.specs.declared.kept.Kept.{Kept}
use Rattle.book.specs.declared.kept.Kept.TheVariants.{Call}
use Rattle.book_events.specs.Events.{event_of, reply_of}
use Rattle.book.specs.Passes.{asked_of, call_of, find_of}
use Rattle.live.specs.Exchanges.{kept_of}
use Rattle.book_events.specs.Replies.{Replies, IsInReply, IsOutReply}
use Rattle.turns.specs.Tickets.{is_ending, gives_ticket}
use Rattle.live.specs.Works.{finds_of}
use Rattle.live.specs.Matching.{asks_end, begins, ends, begun, ended, has_share}
use Rattle.live.specs.Shares.{is_strange, strange, KeepsShare, one_if, Carries}

-- ---- lists

one-alone : (f : Kept → Bool) (k : Kept) → count_by f (k ∷ []) ≡ one_if (f k)
one-alone f k = let last = sum_by-cons (λ (x : Kept). one_if (f x)) k [] in omega (arith, last)

more : (f : Kept → Bool) (kept rest : List Kept) → count_by f (kept ++ rest) ≡ count_by f kept + count_by f rest
more f kept rest = sum_by-append (λ (x : Kept). one_if (f x)) kept rest

-- a count over one more
pub one-more : (f : Kept → Bool) (kept : List Kept) (k : Kept) → count_by f (kept ++ k ∷ []) ≡ count_by f kept + one_if (f k)
one-more f kept k =
    let both = more f kept (k ∷ []) in
    let last = one-alone f k in
    omega (arith, both, last)

-- ---- what a call is to a share

begins-of : (asked : Asked) (answered : Reply) → begins (Call asked (reply_of answered)) ≡ gives_ticket answered
begins-of asked (reply.Fetch ticket) = refl
begins-of asked (reply.Out ticket) = refl
begins-of asked answered = refl

asked-end : (what : Plain_event) → asks_end (asked_of what) ≡ ends_transfer what
asked-end (plain.Arrived ticket bytes) = refl
asked-end what = refl

quiet-ends : (asked : Asked) → asks_end asked ≡ false → (answer : Plain_reply) → ends (Call asked answer) ≡ false
quiet-ends asked none said.Ok = none
quiet-ends asked none answer = refl

quiet-strange : (asked : Asked) → asks_end asked ≡ false → (answer : Plain_reply) → is_strange (Call asked answer) ≡ false
quiet-strange asked none (said.Refused Stranger) = none
quiet-strange asked none (said.Refused why) = refl
quiet-strange asked none answer = refl

-- what a call is to a share where it is the end of a transfer, or not: `b` tells
abbrev Carried : Asked → ℕ → Reply → Type 0
Carried asked b answered =
    one_if (begins (Call asked (reply_of answered))) + b ≡ one_if (ends (Call asked (reply_of answered))) + one_if (is_strange (Call asked (reply_of answered))) + one_if (gives_ticket answered)

quiet-carried : (asked : Asked) → asks_end asked ≡ false → (answered : Reply) → Carried asked 0 answered
quiet-carried asked none answered =
    let one = ap one_if (begins-of asked answered) in
    let two = ap one_if (quiet-ends asked none (reply_of answered)) in
    let three = ap one_if (quiet-strange asked none (reply_of answered)) in
    omega (arith, one, two, three)

in-carried : (asked : Asked) → asks_end asked ≡ true → (answered : Reply) → IsInReply answered → Carried asked 1 answered
in-carried asked end reply.Ok r = let one = ap one_if end in omega (arith, one)
in-carried asked end (reply.StrangeIn ticket) r = let one = ap one_if end in omega (arith, one)
in-carried asked end answered r = absurd r

out-carried : (asked : Asked) → asks_end asked ≡ true → (answered : Reply) → IsOutReply answered → Carried asked 1 answered
out-carried asked end reply.Ok r = let one = ap one_if end in omega (arith, one)
out-carried asked end (reply.StrangeOut ticket) r = let one = ap one_if end in omega (arith, one)
out-carried asked end answered r = absurd r

carried-of : (what : Event) (answered : Reply) → Replies what answered → Carried (asked_of (event_of what)) (one_if (is_ending what)) answered
carried-of (event.Arrived ticket) answered r = in-carried (asked_of (event_of (event.Arrived ticket))) refl answered r
carried-of (event.FetchFailed ticket) answered r = in-carried (asked_of (event_of (event.FetchFailed ticket))) refl answered r
carried-of (event.Left ticket) answered r = out-carried (asked_of (event_of (event.Left ticket))) refl answered r
carried-of (event.LeaveFailed ticket) answered r = out-carried (asked_of (event_of (event.LeaveFailed ticket))) refl answered r
carried-of what answered r = quiet-carried (asked_of (event_of what)) refl answered

in-none : (answered : Reply) → IsInReply answered → gives_ticket answered ≡ false
in-none (reply.Fetch ticket) r = absurd r
in-none (reply.Out ticket) r = absurd r
in-none answered r = refl

out-none : (answered : Reply) → IsOutReply answered → gives_ticket answered ≡ false
out-none (reply.Fetch ticket) r = absurd r
out-none (reply.Out ticket) r = absurd r
out-none answered r = refl

-- an end gives no ticket out
pub ends-none : (what : Event) (answered : Reply) → Replies what answered → is_ending what ≡ true → gives_ticket answered ≡ false
ends-none (event.Arrived ticket) answered r is = in-none answered r
ends-none (event.FetchFailed ticket) answered r is = in-none answered r
ends-none (event.Left ticket) answered r is = out-none answered r
ends-none (event.LeaveFailed ticket) answered r is = out-none answered r
ends-none what answered r is = absurd (cc)

-- ---- shares

-- a call, from before to after
pub carries-call : (old new : List Kept) (what : Event) (answered : Reply) → new ≡ old ++ call_of (event_of what) (reply_of answered) ∷ [] → Replies what answered
    → Carries old (one_if (is_ending what)) new (one_if (gives_ticket answered))
carries-call old new what answered keeps r =
    let k = call_of (event_of what) (reply_of answered) in
    let one = ap begun keeps ∙ one-more begins old k in
    let two = ap ended keeps ∙ one-more ends old k in
    let three = ap strange keeps ∙ one-more is_strange old k in
    let four = carried-of what answered r in
    record { balance = omega (arith, one, two, three, four) }

-- a path that was looked up is no part of a share
finds-none : (f : Kept → Bool) → ((path : List ℕ) (g : Option ℕ) → f (find_of path g) ≡ false) → (paths : List (List ℕ)) (found : List (Option ℕ)) → count_by f (map kept_of (finds_of paths found)) ≡ 0
finds-none f none [] found = refl
finds-none f none (path ∷ paths) [] = refl
finds-none f none (path ∷ paths) (g ∷ found) =
    let here = one-alone f (find_of path g) ∙ ap one_if (none path g) in
    let rest = finds-none f none paths found in
    let both = more f (find_of path g ∷ []) (map kept_of (finds_of paths found)) in
    omega (arith, here, rest, both)

pub carries-looked : (paths : List (List ℕ)) (found : List (Option ℕ)) (old new : List Kept) → new ≡ old ++ map kept_of (finds_of paths found) → Carries old 0 new 0
carries-looked paths found old new keeps =
    let added = map kept_of (finds_of paths found) in
    let none-b = finds-none begins (λ path g. refl) paths found in
    let none-e = finds-none ends (λ path g. refl) paths found in
    let none-s = finds-none is_strange (λ path g. refl) paths found in
    let one = ap begun keeps ∙ more begins old added in
    let two = ap ended keeps ∙ more ends old added in
    let three = ap strange keeps ∙ more is_strange old added in
    record { balance = omega (arith, one, two, three, none-b, none-e, none-s) }

-- so there is no strange one among them
pub looked-strange : (paths : List (List ℕ)) (found : List (Option ℕ)) (old new : List Kept) → new ≡ old ++ map kept_of (finds_of paths found) → strange old ≡ 0 → strange new ≡ 0
looked-strange paths found old new keeps none =
    let here = finds-none is_strange (λ path g. refl) paths found in
    let all = ap strange keeps ∙ more is_strange old (map kept_of (finds_of paths found)) in
    omega (arith, all, here, none)

pub carries-both : (a b c : List Kept) (i j k : ℕ) → Carries a i b j → Carries b j c k → Carries a i c k
carries-both a b c i j k one two = record { balance = omega (arith, one.balance, two.balance) }

pub carries-same : (a b : List Kept) (i : ℕ) → b ≡ a → Carries a i b i
carries-same a b i same = subst (λ (l : List Kept). Carries a i l i) (sym same) (record { balance = refl })

pub keeps-share : (old new : List Kept) → Carries old 0 new 0 → KeepsShare old new
keeps-share old new h same = omega (arith, h.balance, same)

-- no end was strange, so with no ticket out before there is none out now
pub rests : (old new : List Kept) → strange old ≡ 0 → strange new ≡ 0 → Carries old 0 new 0 → has_share old ≡ false → has_share new ≡ false
rests old new was is h none =
    let less : begun old ≤ ended old = grind (arith, nat_tests, none) in
    let more : begun new ≤ ended new = omega (arith, h.balance, was, is, less) in
    grind (arith, nat_tests, more)

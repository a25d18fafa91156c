-- What memory.low does: whose pages are taken last, what is counted then, and that nobody is killed for it. And with it what a history counts at all.
use Rattle.std.proofs.Common.{◌≡◌, ◌≢◌, inl, inr, ℕ, ◌==◌, ◌&&◌, ◌||◌, not, Bool, true, false, cond, List, [], ◌∷◌, ◌++◌, Option, Some, None, eqb-true, refl, sym, ap, ◌∙◌, subst, arith}
use Rattle.std.specs.Prelude.{◌⊎◌, sum_by, filter, map}
use Rattle.std.proofs.lemmas.List.Sums.{sum_by-cons}
use Rattle.std.proofs.lemmas.Bool.{cases_Bool, and_parts, and_from, ne_eqb}
use Rattle.machine.specs.declared.config.Placement.TheVariants.{Own, Linux}
use Rattle.machine.specs.declared.config.Placement.{Placement}
use Rattle.machine.specs.declared.record.Task.{Task}
use Rattle.machine.specs.Victim.{is_live_under, counts_of_victim, counts_of_group_kill}
use Rattle.machine.specs.Tasks.{Tasks, group_of}
use Rattle.machine.specs.declared.amount.Amount.{Amount}
use Rattle.machine.specs.declared.entry.Entry.{Entry}
use Rattle.machine.specs.declared.record.EventCounts.{EventCounts}
use Rattle.machine.specs.declared.record.Guard.TheVariants as guard
use Rattle.machine.specs.declared.record.Key.TheVariants as key
use Rattle.machine.specs.declared.event.Event.{Event}
use Rattle.machine.specs.declared.event.Event.TheVariants as event
use Rattle.machine.specs.declared.reply.Reply.{Reply}
use Rattle.machine.specs.declared.reply.Reply.TheVariants as reply
use Rattle.machine.specs.declared.record.Limits.{Limits}
use Rattle.machine.specs.Slots.{Changes, there_and, any_there}
use Rattle.machine.specs.Amounts.{exceeds, at_most}
use Rattle.machine.specs.Tree.{Node, children, chain_below, under}
use Rattle.machine.specs.Counts.{Counted, limits_at, with_event, local, with_events, is_key, count_of}
use Rattle.machine.specs.Pages.{Content, Memory, OfFile, Residence, Held, Coming, Going, Away, Page, Pages, page_at, is_anon, is_held}
use Rattle.machine.specs.Protection.{min_usage, setting_of, effective_along}
use Rattle.machine.specs.State.{Opening, State, usage, effective_low, is_swap_free}
use Rattle.machine.specs.Reclaim.{is_takeable, is_above_low, is_open, has_open, is_next, counted_at_take, has_transfer, target_of}
use Rattle.machine.specs.Step.{Takes, LeavesBy, LeavesFrom, Step}
use Rattle.machine.specs.Events.{took_for, counts_named, low_named, NamesFor, Names, AreCounted, for_groups}
use Rattle.machine.proofs.Values.{some_inj}
use Rattle.machine.proofs.TreeLemmas.{eq_cases}
use Rattle.machine.proofs.TestLemmas.{none_has}
use Rattle.page_lists.proofs.TakeableLemmas.{next-takeable, next-open}
use Rattle.counts.proofs.CountLemmas.{local-push}
use Rattle.protection.proofs.EffectiveLemmas.{same_below}
use Rattle.legal.proofs.CountedLemmas.{Counts, step-counted, local-other}
use Rattle.legal.proofs.NamedLemmas.{Tells, nothing-told, step-told, legal-counted, counted-legal}
use Rattle.laws.specs.Laws.{CountsAreOfTheHistory, IsWithinLow, IsTaken, LowsComeLast, LowsAreCounted, LowsKillNobody}
use Rattle.laws.proofs.LawLemmas.{by_test}
use Rattle.laws.proofs.KillLemmas.{kills_come_last}
use Rattle.laws.proofs.ReclaimLemmas.{step_takes}

-- ---- the page that is taken

module _ (before after : State) (target : ℕ) (answer : Reply) (h : Takes before target answer after) where
  -- what becomes of it, and what stands counted then
  record Leaves : Type 0 where
    to : Option Page
    changes : Changes before.pages after.pages h.p to
    counts : after.counted ≡ counted_at_take before target h.page.group

  leaves_by : (frame : ℕ) (content : Content) → LeavesBy before h.p h.page content frame (counted_at_take before target h.page.group) answer after → Leaves
  leaves_by frame Memory k = record { to = _; changes = k.leave.placed; counts = ap (λ (s : State). s.counted) k.leave.state }
  leaves_by frame (OfFile file q) k =
      by_test h.page.dirty (λ l. record { to = _; changes = l.placed; counts = ap (λ (s : State). s.counted) l.state }) (λ l. record { to = None; changes = l.gone; counts = ap (λ (s : State). s.counted) l.state }) k

  leaves_from : (r : Residence) → LeavesFrom before h.p h.page r (counted_at_take before target h.page.group) answer after → Leaves
  leaves_from (Held frame) k = leaves_by frame h.page.content k
  leaves_from (Coming frame block ticket) k = absurd k
  leaves_from (Going frame block ticket) k = absurd k
  leaves_from (Away block) k = absurd k

  left : Leaves
  left = leaves_from h.page.residence h.leaves

  -- no other page that was held is held no more
  its : (p : ℕ) (page : Page) → IsTaken before p page after → page ≡ h.page
  its p page taken =
      elim (eq_cases p h.p) [
        | inl same ↦ some_inj (sym taken.0 ∙ ap (page_at before.pages) same ∙ h.there)
        | inr differs ↦ absurd (let stays = ap (there_and is_held) (left.changes.others p differs ∙ taken.0) ∙ taken.1 in let wrong : true ≡ false = sym stays ∙ taken.2 in cc)
      ]

-- ---- a group within its low

within-not_above : (s : State) (target g : ℕ) → IsWithinLow s target g → is_above_low s target g ≡ false
within-not_above s target g within = ap (λ b. b || exceeds (usage s g) (effective_low s target g)) (ne_eqb g target within.0) ∙ within.1

not_above-within : (s : State) (target g : ℕ) → is_above_low s target g ≡ false → IsWithinLow s target g
not_above-within s target g below = by_bits (g == target) (exceeds (usage s g) (effective_low s target g)) refl refl below
  where
    by_bits : (a b : Bool) → (g == target) ≡ a → exceeds (usage s g) (effective_low s target g) ≡ b → (a || b) ≡ false → IsWithinLow s target g
    by_bits true b same is e = absurd cc
    by_bits false b other is e = (λ same. let e : (g == target) ≡ true = grind (arith, same) in let wrong : true ≡ false = sym e ∙ other in cc, is ∙ e)

above-by : (s : State) (target g : ℕ) → (g ≡ target) ⊎ (exceeds (usage s g) (effective_low s target g) ≡ true) → is_above_low s target g ≡ true
above-by s target g (inl same) = let e : (g == target) ≡ true = grind (arith, same) in ap (λ b. b || exceeds (usage s g) (effective_low s target g)) e
above-by s target g (inr more) = by_bits (g == target)
  where
    by_bits : (a : Bool) → (a || exceeds (usage s g) (effective_low s target g)) ≡ true
    by_bits true = refl
    by_bits false = more

-- where a page of a group within its low may be taken, no page is open
none-open : (s : State) (target : ℕ) (page : Page) → is_next s target page ≡ true → is_above_low s target page.group ≡ false → has_open s target ≡ false
none-open s target page next below = by_bits (is_above_low s target page.group) (has_open s target) refl below (next-open s target page next)
  where
    by_bits : (a b : Bool) → has_open s target ≡ b → a ≡ false → (a || not b) ≡ true → has_open s target ≡ false
    by_bits true b is e n = absurd cc
    by_bits false true is e n = absurd cc
    by_bits false false is e n = is

-- where one of a group that is not so may be taken, one is
one-open : (s : State) (target p : ℕ) (page : Page) → page_at s.pages p ≡ Some page → is_next s target page ≡ true → is_above_low s target page.group ≡ true → has_open s target ≡ true
one-open s target p page there next above =
    elim (cases_Bool (has_open s target)) [
      | inl some ↦ some
      | inr none ↦
          absurd
          (let fails = sym (ap (there_and (is_open s target)) there) ∙ none_has (is_open s target) s.pages none p in
          let passes = and_from (is_takeable s target page) (is_above_low s target page.group) (next-takeable s target page next) above in
          let wrong : true ≡ false = sym passes ∙ fails in
          cc)
    ]

pub lows_come_last : LowsComeLast
lows_come_last before after what answer target p page took step taken within q other there takes =
    let h = step_takes before after what answer target took step in
    let same = its before after target answer h p page taken in
    let below = ap (λ (x : Page). is_above_low before target x.group) (sym same) ∙ within-not_above before target page.group within in
    let none = none-open before target h.page h.next below in
    let fails = sym (ap (there_and (is_open before target)) there) ∙ none_has (is_open before target) before.pages none q in
    not_above-within before target other.group (sym (ap (λ b. b && is_above_low before target other.group) takes) ∙ fails)

-- ---- what is counted

-- none of the events is a `low`
abbrev AreNotLow : List Counted → Type 0
AreNotLow [] = Unit {0}
AreNotLow (c ∷ events) = (is_key c.key key.Low ≡ false) × AreNotLow events

no_low-events : (counted : List EventCounts) (events : List Counted) (g : ℕ) → AreNotLow events → local (with_events counted events) g key.Low ≡ local counted g key.Low
no_low-events counted [] g none = refl
no_low-events counted (c ∷ events) g none = no_low-events (with_event counted c.group c.key) events g none.1 ∙ local-other counted c.group c.key g key.Low none.0

-- so it is of a group's kill
all_but_low : (placement : Placement) (tree : List Node) (tasks : Tasks) (limit victim h : ℕ) → AreNotLow (counts_of_group_kill placement tree tasks limit victim h)
all_but_low placement tree tasks limit victim h = (refl, again placement _ (killed (filter (there_and (is_live_under tree h)) tasks)))
  where
    again : (placement : Placement) (events : List Counted) → AreNotLow events → AreNotLow (counts_of_victim placement tasks victim ++ events)
    again Own events none = none
    again Linux events none = (refl, none)

    killed : (slots : List (Option Task)) → AreNotLow (map (λ (s : Option Task). count_of (group_of s) key.OomKill) slots ++ count_of h key.OomGroupKill ∷ [])
    killed [] = (refl, tt)
    killed (slot ∷ slots) = (refl, killed slots)

-- of the keys that no page is counted under
no_low : (s : State) (what : Event) (answer : Reply) (g : ℕ) → local (with_events (for_groups s.counted what) (counts_named s what answer)) g key.Low ≡ local s.counted g key.Low
no_low s (event.Access t place op) (reply.Over limit) g = local-other s.counted limit.0 key.Max g key.Low refl
no_low s (event.Relieve why) (reply.KilledTask t) g = local-other (with_event s.counted (target_of why) key.Oom) _ key.OomKill g key.Low refl ∙ local-other s.counted (target_of why) key.Oom g key.Low refl
no_low s (event.Relieve why) (reply.KilledAll victim h tasks) g = no_low-events s.counted (counts_of_group_kill s.opening.placement s.tree s.tasks (target_of why) victim.0 h.0) g (all_but_low s.opening.placement s.tree s.tasks (target_of why) victim.0 h.0)
no_low s (event.Relieve why) reply.NoVictim g = local-other s.counted (target_of why) key.Oom g key.Low refl
no_low s (event.Mkdir path) answer g = local-push s.counted g key.Low
no_low s what answer g = refl

pub lows_are_counted : LowsAreCounted
lows_are_counted before after what answer step = (taking, quiet)
  where
    taking : (target p : ℕ) (page : Page) → took_for what answer ≡ Some target → IsTaken before p page after
        → (IsWithinLow before target page.group → after.counted ≡ with_event before.counted page.group key.Low)
        × ((page.group ≡ target) ⊎ (exceeds (usage before page.group) (effective_low before target page.group) ≡ true) → after.counted ≡ before.counted)
    taking target p page took taken =
        let h = step_takes before after what answer target took step in
        let same = its before after target answer h p page taken in
        let counts = (left before after target answer h).counts ∙ ap (λ (x : Page). counted_at_take before target x.group) (sym same) in (
          (λ within.
              let below = ap (λ (x : Page). is_above_low before target x.group) (sym same) ∙ within-not_above before target page.group within in
              counts ∙ ap (λ (b : Bool). (let cs : List EventCounts = cond b before.counted (with_event before.counted page.group key.Low) in cs)) (none-open before target h.page h.next below)),
          (λ more.
              let above = ap (λ (x : Page). is_above_low before target x.group) (sym same) ∙ above-by before target page.group more in
              counts ∙ ap (λ (b : Bool). (let cs : List EventCounts = cond b before.counted (with_event before.counted page.group key.Low) in cs)) (one-open before target h.p h.page h.there h.next above)),
        )

    quiet : took_for what answer ≡ None → (g : ℕ) → local after.counted g key.Low ≡ local before.counted g key.Low
    quiet none g =
        let counts = step-counted before after what answer step in
        let named = subst (λ taken. NamesFor taken before what answer after counts.named) none counts.names in
        ap (λ (cs : List EventCounts). local cs g key.Low) (counts.after ∙ ap (with_events (for_groups before.counted what)) named) ∙ no_low before what answer g

-- ---- kills

-- settings that agree give the same effective values
module _ (recursive : Bool) (tree : List Node) (f h : ℕ → Amount) (usage : ℕ → ℕ) (same : (g : ℕ) → f g ≡ h g) where
  asked-same : (gs : List ℕ) → sum_by (min_usage f usage) gs ≡ sum_by (min_usage h usage) gs
  asked-same [] = refl
  asked-same (g ∷ gs) =
      let left = sum_by-cons (min_usage f usage) g gs in
      let right = sum_by-cons (min_usage h usage) g gs in
      let here : min_usage f usage g ≡ min_usage h usage g = ap (at_most (usage g)) (same g) in
      let rest = asked-same gs in
      omega (arith, left, right, here, rest)

  along-same : (gs : List ℕ) → effective_along recursive tree f usage gs ≡ effective_along recursive tree h usage gs
  unfolding effective_along
  along-same [] = refl
  along-same (g ∷ []) = same g
  along-same (g ∷ p ∷ above) = same_below recursive (along-same (p ∷ above)) (asked-same (children tree p)) refl refl (ap (at_most (usage g)) (same g))

-- other lows leave the same pages to take
module _ (s : State) (others : List Limits) (same : (g : ℕ) → (limits_at others g).min ≡ (limits_at s.limits g).min) (target : ℕ) where
  takeable-same : (page : Page) → is_takeable (record s { limits = others }) target page ≡ is_takeable s target page
  takeable-same page =
      ap (λ (e : Amount). is_held page && under s.tree target page.group && ((page.group == target) || exceeds (usage s page.group) e) && (not (is_anon page.content) || is_swap_free s))
      (along-same s.opening.recursive s.tree (setting_of guard.Min others) (setting_of guard.Min s.limits) (usage s) same (chain_below s.tree target page.group))

  any-same : (pages : Pages) → any_there (is_takeable (record s { limits = others }) target) pages ≡ any_there (is_takeable s target) pages
  any-same [] = refl
  any-same (None ∷ pages) = any-same pages
  any-same (Some page ∷ pages) =
      ap (λ b. b || any_there (is_takeable (record s { limits = others }) target) pages) (takeable-same page) ∙ ap (λ b. is_takeable s target page || b) (any-same pages)

pub lows_kill_nobody : LowsKillNobody
lows_kill_nobody before after why answer victim others names step same =
    ap (λ b. not b && not (has_transfer before (target_of why))) (any-same before others same (target_of why) before.pages) ∙ (kills_come_last before after why answer victim names step).0

-- ---- the events of a history

-- what is counted is settled by the states: a page that is taken is the one that is held no more
named-one : (before after : State) (what : Event) (answer : Reply) → Step before what answer after → (one other : List Counted) → Names before what answer after one → Names before what answer after other → one ≡ other
named-one before after what answer step one other = by_taken (took_for what answer) refl
  where
    by_taken : (taken : Option ℕ) → took_for what answer ≡ taken → NamesFor taken before what answer after one → NamesFor taken before what answer after other → one ≡ other
    by_taken None none is are = is ∙ sym are
    by_taken (Some target) took is are =
        let h = step_takes before after what answer target took step in
        let same = its before after target answer h is.p is.page (is.there, is.held, is.leaves) ∙ sym (its before after target answer h are.p are.page (are.there, are.held, are.leaves)) in
        is.are ∙ ap (λ (x : Page). low_named before target x.group) same ∙ sym are.are

counted-told : (opening : Opening) (history : List Entry) (s : State) (events : List Counted) → AreCounted opening history s events → Tells s events
counted-told opening [] s events (first, none) = subst (Tells s) (sym none) (nothing-told opening s first)
counted-told opening (entry ∷ earlier) s events (before, so_far, more, counted, extends, names, are) =
    let counts = step-counted before s entry.event entry.reply extends.steps in
    let same = named-one before s entry.event entry.reply extends.steps counts.named more counts.names names in
    let told = step-told opening earlier entry before s so_far (counted-legal opening earlier before so_far counted) extends (counted-told opening earlier before so_far counted) in
    subst (Tells s) (ap (λ (named : List Counted). so_far ++ named) same ∙ sym are) told

pub counts_are_of_the_history : CountsAreOfTheHistory
counts_are_of_the_history opening history s legal = (legal-counted opening history s legal, λ events counted. counted-told opening history s events counted)

-- Bytes of an arrival, settled entry by entry.
use Rattle.std.proofs.Common.{◌≡◌, ℕ, ◌-◌, ◌<◌, ◌≤◌, ◌==◌, Bool, true, false, cond, List, ap, sym, ◌∙◌, refl, subst, length, get_or, replicate, MatchBool, inl, inr, ◌⊎◌}
use Rattle.std.specs.Prelude.{slice_index}
use Rattle.std.proofs.lemmas.List.{get_or-replicate}
use Rattle.std.proofs.lemmas.Bool.{false≢true}
use Rattle.machine.specs.Access.{page_size}
use Rattle.machine.specs.History as history
use Rattle.machine.specs.History.{Spot, follow, says_if, says, last}
use Rattle.machine.specs.declared.entry.Entry.{Entry}
use Rattle.trace.specs.declared.page.Page.{Page}
use Rattle.trace.specs.declared.effect.Effect.{Effect}
use Rattle.trace.specs.declared.effect.Effect.TheVariants as effect
use Rattle.machine.specs.Audit.{before}
use Rattle.trace.specs.Walks.{spot_in, said}
use Rattle.trace.specs.declared.arrival.Turn.{Turn}
use Rattle.trace.specs.Settled.{is_settled, IsSettled, AreBytes, RestIs, Turned, or_byte}
use Rattle.trace.proofs.WalkLemmas.{before-less, last-none}

pub settled-as : (bytes : List ℕ) (settled : List Bool) (written f g : ℕ → ℕ) → IsSettled bytes settled written f → ((o : ℕ) → f o ≡ g o) → IsSettled bytes settled written g
settled-as bytes settled written f g h same = record {
  agree = h.agree;
  rest = λ o lt none. h.rest o lt none ∙ same o;
}

follow-if : (test : Bool) (b : ℕ) (earlier : Spot → ℕ) (spot : Spot) → follow (says_if test (history.Byte b)) earlier spot ≡ cond test b (earlier spot)
follow-if true b earlier spot = refl
follow-if false b earlier spot = refl

-- what a write leaves to be settled
pub settled-byte : (bytes : List ℕ) (settled : List Bool) (written : ℕ → ℕ) (earlier : Spot → ℕ) (e : Entry) (page : Page) (offset b : ℕ) (told : Effect)
    → ((o : ℕ) → says e.event e.reply (spot_in page o) ≡ said told o) → told ≡ effect.Byte offset b
    → IsSettled bytes settled written (λ o. follow (says e.event e.reply (spot_in page o)) earlier (spot_in page o))
    → IsSettled bytes settled written (or_byte offset b (λ o. earlier (spot_in page o)))
settled-byte bytes settled written earlier e page offset b told tells is h =
    settled-as bytes settled written (λ o. follow (says e.event e.reply (spot_in page o)) earlier (spot_in page o)) (or_byte offset b (λ o. earlier (spot_in page o))) h
    (λ o. ap (λ s. follow s earlier (spot_in page o)) (tells o ∙ ap (λ w. said w o) is) ∙ follow-if (offset == o) b earlier (spot_in page o))

-- one entry lower, by what the entry says
pub settled-less : (bytes : List ℕ) (settled : List Bool) (written : ℕ → ℕ) (first : Spot → ℕ) (xs : List Entry) (k : ℕ) (e : Entry) (page : Page)
    → 0 < k → k ≤ length xs → e ≡ get_or xs (k - 1) e
    → IsSettled bytes settled written (λ o. last first (before xs k) (spot_in page o))
    → IsSettled bytes settled written (λ o. follow (says e.event e.reply (spot_in page o)) (last first (before xs (k - 1))) (spot_in page o))
settled-less bytes settled written first xs k e page some within is h =
    settled-as bytes settled written (λ o. last first (before xs k) (spot_in page o)) (λ o. follow (says e.event e.reply (spot_in page o)) (last first (before xs (k - 1))) (spot_in page o)) h
    (λ o. ap (λ history. last first history (spot_in page o)) (before-less xs k e some within is))

bool_cases : (b : Bool) → (b ≡ true) ⊎ (b ≡ false)
bool_cases true = inl refl
bool_cases false = inr refl

bytes-rest : (bytes : List ℕ) (settled : List Bool) (written earlier : ℕ → ℕ) → IsSettled bytes settled written earlier → RestIs bytes settled earlier → AreBytes bytes written
bytes-rest bytes settled written earlier h rest o lt =
    elim (bool_cases (is_settled settled o)) [ inl hit ↦ h.agree o lt hit | inr left ↦ rest o lt left ∙ sym (h.rest o lt left) ]

rest-bytes : (bytes : List ℕ) (settled : List Bool) (written earlier : ℕ → ℕ) → IsSettled bytes settled written earlier → AreBytes bytes written → RestIs bytes settled earlier
rest-bytes bytes settled written earlier h same o lt left = same o lt ∙ h.rest o lt left

-- all are those written exactly where the rest is
pub settled-ends : (bytes : List ℕ) (settled : List Bool) (written earlier : ℕ → ℕ) (answer : Bool) → IsSettled bytes settled written earlier
    → MatchBool answer (RestIs bytes settled earlier) (RestIs bytes settled earlier → ⊥) → MatchBool answer (AreBytes bytes written) (AreBytes bytes written → ⊥)
settled-ends bytes settled written earlier true h rest = bytes-rest bytes settled written earlier h rest
settled-ends bytes settled written earlier false h wrong = λ same. wrong (rest-bytes bytes settled written earlier h same)

-- the rest is known
pub settled-known : (bytes : List ℕ) (settled : List Bool) (written earlier : ℕ → ℕ) (known : List ℕ) (answer : Bool) → IsSettled bytes settled written earlier → AreBytes known earlier
    → MatchBool answer (RestIs bytes settled (slice_index known)) (RestIs bytes settled (slice_index known) → ⊥) → MatchBool answer (AreBytes bytes written) (AreBytes bytes written → ⊥)
settled-known bytes settled written earlier known true h are rest = bytes-rest bytes settled written earlier h (λ o lt left. rest o lt left ∙ are o lt)
settled-known bytes settled written earlier known false h are wrong =
    λ same. wrong (λ o lt left. rest-bytes bytes settled written earlier h same o lt left ∙ sym (are o lt))

-- a turn of the walk
pub settled-turn : (bytes : List ℕ) (old new : List Bool) (written : ℕ → ℕ) (first : Spot → ℕ) (xs : List Entry) (k : ℕ) (e : Entry) (page : Page) (answer turn : Turn)
    → 0 < k → k ≤ length xs → e ≡ get_or xs (k - 1) e
    → IsSettled bytes old written (λ o. last first (before xs k) (spot_in page o))
    → ((goal : ℕ → ℕ) (earlier : Spot → ℕ) → IsSettled bytes old goal (λ o. follow (says e.event e.reply (spot_in page o)) earlier (spot_in page o)) → Turned answer bytes new goal earlier)
    → answer ≡ turn → Turned turn bytes new written (last first (before xs (k - 1)))
settled-turn bytes old new written first xs k e page answer turn some within is h turns same =
    subst (λ (r : Turn). Turned r bytes new written (last first (before xs (k - 1)))) same
    (turns written (last first (before xs (k - 1))) (settled-less bytes old written first xs k e page some within is h))

-- at the start nothing is settled
pub settled-none : (bytes : List ℕ) (written : ℕ → ℕ) → IsSettled bytes (replicate page_size false) written written
settled-none bytes written = record {
  agree = λ o lt yes. absurd (false≢true (sym (get_or-replicate page_size o false false lt) ∙ yes));
  rest = λ o lt no. refl;
}

-- below the first entry bytes are what they were at first
pub settled-first : (bytes : List ℕ) (settled : List Bool) (written : ℕ → ℕ) (first : Spot → ℕ) (xs : List Entry) (k : ℕ) (page : Page) → k ≤ 0
    → IsSettled bytes settled written (λ o. last first (before xs k) (spot_in page o)) → IsSettled bytes settled written (λ o. first (spot_in page o))
settled-first bytes settled written first xs k page none h =
    settled-as bytes settled written (λ o. last first (before xs k) (spot_in page o)) (λ o. first (spot_in page o)) h (λ o. last-none first xs k (spot_in page o) none)

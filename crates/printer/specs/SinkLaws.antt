-- What a printer does with no answer, and with answers one behind the other. These are proofs: those of the laws of a `Sink`, which takes none from `proofs`. No public clause cites this.
use Rattle.std.proofs.Common.{◌≡◌, ℕ, ◌+◌, ◌||◌, Bool, true, false, not, List, [], ◌∷◌, ◌++◌, Option, length, take, filter, map, refl, sym, ap, ◌∙◌, subst, append_assoc}
use Rattle.std.proofs.lemmas.List.{map-append}
use Rattle.std.proofs.lemmas.List.Elements.{filter-append}
use Rattle.std.proofs.lemmas.List.Folds.{list_any-append}
use Rattle.std.proofs.Math.Seq.{take-append-add, take-length}
use Rattle.std.specs.Io.KnownBytes.{Appends, Keeps}
use Rattle.std.proofs.KnownBytes.{Appends-nil, Appends-trans, Appends-kept}
use Rattle.machine.specs.declared.command.Reply.{Reply}
use Rattle.machine.specs.Printed.{printed}
use Rattle.printer.specs.declared.options.Printing.{Printing}
use Rattle.printer.specs.Asked.{marks_lines, speaks_on}
use Rattle.printer.specs.Amounts.{reply_in}
use Rattle.printer.specs.Prints.{texts, kept_by, is_minor, refuses, any_refuses, AppendsStart}
use Rattle.printer.specs.Sinks.{shown_in, OutTakes, OutBegins, IsQuiet, GoesOn}

pub texts-append : (xs ys : List Reply) → texts (xs ++ ys) ≡ texts xs ++ texts ys
texts-append [] ys = refl
texts-append (x ∷ xs) ys = ap (λ (bs : List ℕ). printed x ++ bs) (texts-append xs ys) ∙ sym (append_assoc (printed x) (texts xs) (texts ys))

-- where bytes are kept back, and where they are not
kept-append : (quiet : Bool) (xs ys : List Reply) → kept_by quiet (xs ++ ys) ≡ kept_by quiet xs ++ kept_by quiet ys
kept-append true xs ys = filter-append (λ (reply : Reply). not (is_minor reply.answer)) xs ys
kept-append false xs ys = refl

pub texts-shown : (o : Printing) (xs ys : List Reply) → texts (shown_in o (xs ++ ys)) ≡ texts (shown_in o xs) ++ texts (shown_in o ys)
texts-shown o xs ys =
    ap (λ (rs : List Reply). texts (map (reply_in o.page_size.bytes o.options.amounts) rs)) (kept-append o.options.quiet xs ys)
    ∙ ap texts (map-append (reply_in o.page_size.bytes o.options.amounts) (kept_by o.options.quiet xs) (kept_by o.options.quiet ys))
    ∙ texts-append (shown_in o xs) (shown_in o ys)

-- nothing is kept of nothing
kept-nil : (quiet : Bool) → kept_by quiet [] ≡ []
kept-nil true = refl
kept-nil false = refl

texts-nothing : (o : Printing) → texts (shown_in o []) ≡ []
texts-nothing o = ap (λ (rs : List Reply). texts (map (reply_in o.page_size.bytes o.options.amounts) rs)) (kept-nil o.options.quiet)

-- nothing is the beginning of everything
pub starts-nil : (a : Option (List ℕ)) (bs : List ℕ) → AppendsStart a a bs
starts-nil a bs = record { count = 0; appends = Appends-nil a }

-- the whole is a beginning
pub starts-whole : (a b : Option (List ℕ)) (bs : List ℕ) → Appends a b bs → AppendsStart a b bs
starts-whole a b bs h = record { count = length bs; appends = subst (Appends a b) (sym (take-length bs)) h }

-- some bytes, and then the beginning of more
pub starts-behind : (a b c : Option (List ℕ)) (bs cs : List ℕ) → Appends a b bs → AppendsStart b c cs → AppendsStart a c (bs ++ cs)
starts-behind a b c bs cs first second = record { count = length bs + second.count; appends = subst (Appends a c) (sym (take-append-add bs cs second.count)) (Appends-trans a b c bs (take second.count cs) first second.appends) }

pub out_takes-nil : (o : Printing) (a : Option (List ℕ)) → OutTakes o a a []
out_takes-nil o a = λ plain. subst (Appends a a) (sym (texts-nothing o)) (Appends-nil a)

pub out_begins-nil : (o : Printing) (a : Option (List ℕ)) → OutBegins o a a []
out_begins-nil o a = λ plain. starts-nil a (texts (shown_in o []))

-- options that are the same ask for the same
same-shown : (o p : Printing) → p ≡ o → (xs : List Reply) → texts (shown_in p xs) ≡ texts (shown_in o xs)
same-shown o p same xs = ap (λ (q : Printing). texts (shown_in q xs)) same

same-marks : (o p : Printing) → p ≡ o → marks_lines o.options ≡ false → marks_lines p.options ≡ false
same-marks o p same plain = ap (λ (q : Printing). marks_lines q.options) same ∙ plain

pub out_takes-more : (o p : Printing) → p ≡ o → (a b c : Option (List ℕ)) (xs ys : List Reply) → OutTakes o a b xs → OutTakes p b c ys → OutTakes o a c (xs ++ ys)
out_takes-more o p same a b c xs ys first second =
    λ plain.
    let later = subst (Appends b c) (same-shown o p same ys) (second (same-marks o p same plain)) in
    subst (Appends a c) (sym (texts-shown o xs ys)) (Appends-trans a b c (texts (shown_in o xs)) (texts (shown_in o ys)) (first plain) later)

pub quiet-refl : (o : Printing) (shown : Option ℕ) (a : Option (List ℕ)) → IsQuiet o shown shown a a
quiet-refl o shown a = λ quiet none. (none, refl)

pub quiet-more : (o p : Printing) → p ≡ o → (s t u : Option ℕ) (a b c : Option (List ℕ)) → IsQuiet o s t a b → IsQuiet p t u b c → IsQuiet o s u a c
quiet-more o p same s t u a b c first second =
    λ quiet none.
    let here = first quiet none in
    let later = second (ap (λ (q : Printing). speaks_on q.options) same ∙ quiet) here.0 in
    (later.0, later.1 ∙ here.1)

pub goes_on-nil : (o : Printing) → GoesOn o []
goes_on-nil o = λ strict. refl

either-none : (here later : Bool) → here ≡ false → later ≡ false → (here || later) ≡ false
either-none true later first second = first
either-none false later first second = second

pub goes_on-more : (o p : Printing) → p ≡ o → (xs ys : List Reply) → GoesOn o xs → GoesOn p ys → GoesOn o (xs ++ ys)
goes_on-more o p same xs ys first second =
    λ strict.
    list_any-append (λ (reply : Reply). refuses reply.answer) xs ys ∙ either-none (any_refuses xs) (any_refuses ys) (first strict) (second (ap (λ (q : Printing). q.options.strict) same ∙ strict))

-- one who takes nothing more
pub starts-kept : (a b c : Option (List ℕ)) (bs : List ℕ) → AppendsStart a b bs → Keeps b c → AppendsStart a c bs
starts-kept a b c bs h kept = record { count = h.count; appends = Appends-kept a b c (take h.count bs) h.appends kept }

pub out_begins-behind : (o p : Printing) → p ≡ o → (a b c : Option (List ℕ)) (xs ys : List Reply) → OutTakes o a b xs → OutBegins p b c ys → OutBegins o a c (xs ++ ys)
out_begins-behind o p same a b c xs ys first second =
    λ plain.
    let later = subst (AppendsStart b c) (same-shown o p same ys) (second (same-marks o p same plain)) in
    subst (AppendsStart a c) (sym (texts-shown o xs ys)) (starts-behind a b c (texts (shown_in o xs)) (texts (shown_in o ys)) (first plain) later)

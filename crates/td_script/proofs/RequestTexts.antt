-- The line of a request is read exactly.
use Rattle.std.proofs.Common.{◌≡◌, ℕ, Bool, ◌<◌, ◌^◌, ◌-◌, true, cond, eqb, false, List}
use Rattle.std.proofs.Common.{[], ◌++◌, length, Option, Some, None, refl, sym, ap, subst, ◌∙◌}
use Rattle.std.proofs.Common.{arith, lit<}
use Rattle.std.specs.Prelude.{codes, decimal}
use Rattle.td_text.specs.Chain.{◌>>=◌}
use Rattle.td_text.specs.Cut.{Without, part, strip}
use Rattle.td_text.specs.Numbers.{number_at}
use Rattle.td_text.proofs.Chain.{chained, some_is, when_some, or_word}
use Rattle.td_text.proofs.Cut.{lacks, Begins, part_again, part_joined}
use Rattle.td_text.proofs.Numbers.{number_exact}
use Rattle.td_text.proofs.Empty.{no_text}
use Rattle.td_text.proofs.Prefix.{strip_found, strip_again}
use Rattle.td_rows.specs.declared.key.Key.{Key}
use Rattle.td_rows.specs.KeyText.{KeyFits}
use Rattle.td_rows.specs.Text.{has_newline}
use Rattle.td_rows.proofs.KeyTexts.{key_apart-again, key_apart-found}
use Rattle.td_rows.proofs.NoteLines.{key_lacks}
use Rattle.td_script.specs.declared.request.Verb.{Verb}
use Rattle.td_script.specs.declared.request.Verb.TheVariants as verb
use Rattle.td_script.specs.declared.request.Request.{Request}
use Rattle.td_script.specs.declared.request.Request.TheVariants.{Undo, Arrive, Sweep, Row, Entry}
use Rattle.td_script.specs.declared.request.Request.TheVariants.{Report, Journal}
use Rattle.td_script.specs.declared.line.Said.TheVariants.{Skipped, Asked, Bad, Typed}
use Rattle.td_script.specs.Requests.{two_words, request_line, RequestFits}
use Rattle.td_script.specs.Reading.{LinesAreSaid, verb_at, spaced_key_at, by_verb, request_at}
use Rattle.td_script.specs.Reading.{is_skipped, is_verb, first_word, unasked, said_at}
use Rattle.td_script.specs.Reading.{RequestsAreExact}

spaced_found : (t : List ℕ) (k : Key) → spaced_key_at t ≡ Some k → (t ≡ two_words k) × KeyFits k
unfolding spaced_key_at
spaced_found t k e = key_apart-found 32 t k e

spaced_again : (k : Key) → KeyFits k → spaced_key_at (two_words k) ≡ Some k
unfolding spaced_key_at
spaced_again k h = key_apart-again 32 k refl h

pub spaced_lacks : (t : List ℕ) (k : Key) → spaced_key_at t ≡ Some k
    → (has_newline k.source ≡ false) × (has_newline k.arch ≡ false)
spaced_lacks t k is = key_lacks k (spaced_found t k is).1

-- ---- verbs

abbrev verb_word : Verb → List ℕ
verb_word verb.Undo = codes "undo"
verb_word verb.Arrive = codes "arrive"
verb_word verb.Sweep = codes "sweep"
verb_word verb.Row = codes "row"
verb_word verb.Entry = codes "entry"
verb_word verb.Report = codes "report"
verb_word verb.Journal = codes "journal"

abbrev Always : Verb → Type 0
Always v = Unit {0}

verb_found : (t : List ℕ) (v : Verb) → verb_at t ≡ Some v → (t ≡ verb_word v) × Unit {0}
unfolding verb_at
verb_found t v e =
    or_word verb_word Always t v verb.Undo _ tt (
    or_word verb_word Always t v verb.Arrive _ tt (
    or_word verb_word Always t v verb.Sweep _ tt (
    or_word verb_word Always t v verb.Row _ tt (
    or_word verb_word Always t v verb.Entry _ tt (
    or_word verb_word Always t v verb.Report _ tt (
    or_word verb_word Always t v verb.Journal None tt (λ bad. absurd cc))))))) e

-- ---- requests

-- the line is the request's, which can be written
abbrev IsLineOf : List ℕ → Request → Type 0
IsLineOf line r = (line ≡ request_line r) × RequestFits r

alone_found : (word rest : List ℕ) (x r : Request) → IsLineOf (word ++ []) x
    → cond (eqb (length rest) 0) (Some x) None ≡ Some r → IsLineOf (word ++ rest) r
alone_found word rest x r line e =
    let a = when_some (eqb (length rest) 0) x r e in
    subst (IsLineOf (word ++ rest)) a.1
    (subst (λ (t : List ℕ). IsLineOf (word ++ t) x) (sym (no_text rest a.0)) line)

number_found : (word rest : List ℕ) (make : ℕ → Request) (r : Request)
    → ((n : ℕ) → n < 2 ^ 64 → IsLineOf (word ++ (codes " " ++ decimal n)) (make n))
    → (strip (codes " ") rest >>= number_at (2 ^ 64 - 1) >>= λ n. Some (make n)) ≡ Some r
    → IsLineOf (word ++ rest) r
number_found word rest make r line e =
    let a = chained (strip (codes " ") rest >>= number_at (2 ^ 64 - 1)) (λ n. Some (make n)) r e in
    let b = chained (strip (codes " ") rest) (number_at (2 ^ 64 - 1)) a.0 a.1 in
    let f = (number_exact (2 ^ 64 - 1) (lit< tt)).found b.0 a.0 b.2 in
    let is : rest ≡ codes " " ++ decimal a.0 =
    strip_found (codes " ") rest b.0 b.1 ∙ ap (λ (t : List ℕ). codes " " ++ t) f.0 in
    subst (IsLineOf (word ++ rest)) (some_is (make a.0) r a.2)
    (subst (λ (t : List ℕ). IsLineOf (word ++ t) (make a.0)) (sym is)
    (line a.0 (let small = f.1 in omega arith)))

key_found : (word rest : List ℕ) (make : Key → Request) (r : Request)
    → ((k : Key) → KeyFits k → IsLineOf (word ++ (codes " " ++ two_words k)) (make k))
    → (strip (codes " ") rest >>= spaced_key_at >>= λ k. Some (make k)) ≡ Some r
    → IsLineOf (word ++ rest) r
key_found word rest make r line e =
    let a = chained (strip (codes " ") rest >>= spaced_key_at) (λ k. Some (make k)) r e in
    let b = chained (strip (codes " ") rest) spaced_key_at a.0 a.1 in
    let f = spaced_found b.0 a.0 b.2 in
    let is : rest ≡ codes " " ++ two_words a.0 =
    strip_found (codes " ") rest b.0 b.1 ∙ ap (λ (t : List ℕ). codes " " ++ t) f.0 in
    subst (IsLineOf (word ++ rest)) (some_is (make a.0) r a.2)
    (subst (λ (t : List ℕ). IsLineOf (word ++ t) (make a.0)) (sym is) (line a.0 f.1))

by_verb_found : (v : Verb) (rest : List ℕ) (r : Request) → by_verb v rest ≡ Some r
    → IsLineOf (verb_word v ++ rest) r
by_verb_found verb.Undo rest r e =
    number_found (codes "undo") rest (λ n. Undo n) r (λ n small. (refl, small)) e
by_verb_found verb.Arrive rest r e =
    key_found (codes "arrive") rest (λ k. Arrive k) r (λ k fits. (refl, fits)) e
by_verb_found verb.Sweep rest r e = alone_found (codes "sweep") rest Sweep r (refl, tt) e
by_verb_found verb.Row rest r e =
    key_found (codes "row") rest (λ k. Row k) r (λ k fits. (refl, fits)) e
by_verb_found verb.Entry rest r e =
    number_found (codes "entry") rest (λ n. Entry n) r (λ n small. (refl, small)) e
by_verb_found verb.Report rest r e = alone_found (codes "report") rest Report r (refl, tt) e
by_verb_found verb.Journal rest r e = alone_found (codes "journal") rest Journal r (refl, tt) e

request_found : (t : List ℕ) (r : Request) → request_at t ≡ Some r → IsLineOf t r
unfolding request_at
request_found t r e =
    let v = chained (verb_at (part 32 t).0) (λ v. by_verb v (part 32 t).1) r e in
    let word = (verb_found (part 32 t).0 v.0 v.1).0 in
    let is : t ≡ verb_word v.0 ++ (part 32 t).1 =
    part_joined 32 t ∙ ap (λ (w : List ℕ). w ++ (part 32 t).1) word in
    subst (λ (x : List ℕ). IsLineOf x r) (sym is) (by_verb_found v.0 (part 32 t).1 r v.2)

-- a line by its verb and what follows that
by_parts : (v : Verb) (rest : List ℕ) → Without 32 (verb_word v) → Begins 32 rest
    → verb_at (verb_word v) ≡ Some v → request_at (verb_word v ++ rest) ≡ by_verb v rest
unfolding request_at
by_parts v rest lack begins is = rw (part_again 32 (verb_word v) rest lack begins, is) refl

verb_again : (v : Verb) → verb_at (verb_word v) ≡ Some v
unfolding verb_at
verb_again verb.Undo = refl
verb_again verb.Arrive = refl
verb_again verb.Sweep = refl
verb_again verb.Row = refl
verb_again verb.Entry = refl
verb_again verb.Report = refl
verb_again verb.Journal = refl

request_again : (r : Request) → RequestFits r → request_at (request_line r) ≡ Some r
request_again (Undo n) fits =
    by_parts verb.Undo (codes " " ++ decimal n) (lacks 32 (codes "undo") refl) refl
    (verb_again verb.Undo)
    ∙ rw (
      strip_again (codes " ") (decimal n),
      (number_exact (2 ^ 64 - 1) (lit< tt)).again n (omega (arith, fits)),
    ) refl
request_again (Arrive k) fits =
    by_parts verb.Arrive (codes " " ++ two_words k) (lacks 32 (codes "arrive") refl) refl
    (verb_again verb.Arrive) ∙ rw (strip_again (codes " ") (two_words k), spaced_again k fits) refl
request_again Sweep fits =
    by_parts verb.Sweep [] (lacks 32 (codes "sweep") refl) tt (verb_again verb.Sweep)
request_again (Row k) fits =
    by_parts verb.Row (codes " " ++ two_words k) (lacks 32 (codes "row") refl) refl
    (verb_again verb.Row) ∙ rw (strip_again (codes " ") (two_words k), spaced_again k fits) refl
request_again (Entry n) fits =
    by_parts verb.Entry (codes " " ++ decimal n) (lacks 32 (codes "entry") refl) refl
    (verb_again verb.Entry)
    ∙ rw (
      strip_again (codes " ") (decimal n),
      (number_exact (2 ^ 64 - 1) (lit< tt)).again n (omega (arith, fits)),
    ) refl
request_again Report fits =
    by_parts verb.Report [] (lacks 32 (codes "report") refl) tt (verb_again verb.Report)
request_again Journal fits =
    by_parts verb.Journal [] (lacks 32 (codes "journal") refl) tt (verb_again verb.Journal)

pub requests_exact : RequestsAreExact
requests_exact = record { found = request_found; again = request_again }

-- ---- a line that is asked

not_skipped : (r : Request) → is_skipped (request_line r) ≡ false
not_skipped (Undo n) = refl
not_skipped (Arrive k) = refl
not_skipped Sweep = refl
not_skipped (Row k) = refl
not_skipped (Entry n) = refl
not_skipped Report = refl
not_skipped Journal = refl

-- the line of a request is asked, whatever else is tested
pub asked_again : (r : Request) → RequestFits r → said_at (request_line r) ≡ Asked r
unfolding said_at
asked_again r fits = rw (not_skipped r, request_again r fits) refl

pub asked_found : (line : List ℕ) (r : Request) → said_at line ≡ Asked r
    → (line ≡ request_line r) × RequestFits r
unfolding said_at
asked_found line r e =
    elim (is_skipped line) as (λ b.
    cond b Skipped (elim (request_at line) [ Some x ↦ Asked x | None ↦ unasked line ]) ≡ Asked r
    → IsLineOf line r) [
      | true ↦ λ bad. absurd cc
      | false ↦ λ is. by (request_at line) refl is
    ] e
  where
    never : (b : Bool) → cond b Bad Typed ≡ Asked r → IsLineOf line r
    never true bad = absurd cc
    never false bad = absurd cc

    by : (o : Option Request) → request_at line ≡ o
        → elim o [ Some x ↦ Asked x | None ↦ unasked line ] ≡ Asked r → IsLineOf line r
    by None at is = never (is_verb (first_word line)) is
    by (Some x) at is =
        let same : x ≡ r = cc in request_found line r (at ∙ ap (λ (y : Request). Some y) same)

pub lines_are_said : LinesAreSaid
lines_are_said line r = (
  asked_found line r,
  λ is. subst (λ (l : List ℕ). said_at l ≡ Asked r) (sym is.0) (asked_again r is.1),
)

-- The lines of the five requests are read exactly.
use Rattle.std.proofs.Common.{◌≡◌, ℕ, ◌<◌, ◌^◌, ◌-◌, Bool, true, false, cond, eqb, List, []}
use Rattle.std.proofs.Common.{◌∷◌}
use Rattle.std.proofs.Common.{◌++◌, length, Option, Some, None, refl, sym, ap, subst, ◌∙◌, arith}
use Rattle.std.proofs.Common.{lit<}
use Rattle.std.proofs.Common.{inl, inr}
use Rattle.std.specs.Prelude.{◌||◌, codes, decimal, is_some}
use Rattle.std.specs.Str.{bytes_eq}
use Rattle.std.proofs.lemmas.Bool.{cases_Bool, eqb-false, ne_eqb}
use Rattle.td_text.specs.Chain.{◌>>=◌}
use Rattle.td_text.specs.Cut.{Without, cut, part, strip}
use Rattle.td_text.specs.Numbers.{number_at}
use Rattle.td_text.specs.Words.{is_arch}
use Rattle.td_text.proofs.Chain.{chained, some_is, when_none, when_some, or_word}
use Rattle.td_text.proofs.Cut.{Begins, Without-right, cut-at, cut_found, lacks, part_again}
use Rattle.td_text.proofs.Cut.{part_joined}
use Rattle.td_text.proofs.Empty.{no_text}
use Rattle.td_text.proofs.Numbers.{number_exact, Without-decimal}
use Rattle.td_text.proofs.Prefix.{strip_again, strip_found}
use Rattle.td_text.proofs.Words.{Without-arch}
use Rattle.td_rows.specs.declared.key.Key.{Key}
use Rattle.td_rows.specs.declared.outcome.Outcome.{Outcome}
use Rattle.td_rows.specs.declared.outcome.Outcome.TheVariants.{Built, Attempted, GivenBack, Waits}
use Rattle.td_rows.specs.KeyText.{KeyFits}
use Rattle.td_rows.specs.Text.{has_newline}
use Rattle.td_rows.proofs.KeyTexts.{key_apart-again, key_apart-found}
use Rattle.td_rows.proofs.NoteLines.{has_newline-Without}
use Rattle.td_journal.specs.Endings.{ending_at, ending_text}
use Rattle.td_journal.specs.EntryFits.{IsBuilder}
use Rattle.td_journal.specs.EntryReading.{builder_at}
use Rattle.td_journal.proofs.Endings.{endings_are_exact}
use Rattle.td_script.specs.Reading.{first_word, spaced_key_at}
use Rattle.td_script.specs.Requests.{two_words}
use Rattle.td_lasting.specs.declared.own_request.OwnVerb.{OwnVerb}
use Rattle.td_lasting.specs.declared.own_request.OwnVerb.TheVariants as verb
use Rattle.td_lasting.specs.declared.own_request.OwnRequest.{OwnRequest}
use Rattle.td_lasting.specs.declared.own_request.OwnRequest.TheVariants.{Ready, Claim, Finish, Rows}
use Rattle.td_lasting.specs.declared.own_request.OwnRequest.TheVariants.{Lines}
use Rattle.td_lasting.specs.declared.hearing.Heard.{Heard}
use Rattle.td_lasting.specs.declared.hearing.Heard.TheVariants.{Own, Bad, Scripted}
use Rattle.td_lasting.specs.OwnRequests.{OwnFits, SaysFor, own_line}
use Rattle.td_lasting.specs.OwnReading.{OwnLinesAreHeard, OwnRequestsAreExact, arch_behind}
use Rattle.td_lasting.specs.OwnReading.{builder_behind, heard_at, is_own_verb, not_own, own_at}
use Rattle.td_lasting.specs.OwnReading.{own_by_verb, own_verb_at, ready_at, spoken_ending}

-- ---- 1. verbs

abbrev verb_word : OwnVerb → List ℕ
verb_word verb.Ready = codes "ready"
verb_word verb.Claim = codes "claim"
verb_word verb.Finish = codes "finish"
verb_word verb.Rows = codes "rows"
verb_word verb.Lines = codes "lines"

abbrev Always : OwnVerb → Type 0
Always v = Unit {0}

verb_found : (t : List ℕ) (v : OwnVerb) → own_verb_at t ≡ Some v → (t ≡ verb_word v) × Unit {0}
unfolding own_verb_at
verb_found t v e =
    or_word verb_word Always t v verb.Ready _ tt (
    or_word verb_word Always t v verb.Claim _ tt (
    or_word verb_word Always t v verb.Finish _ tt (
    or_word verb_word Always t v verb.Rows _ tt (
    or_word verb_word Always t v verb.Lines None tt (λ bad. absurd cc))))) e

verb_again : (v : OwnVerb) → own_verb_at (verb_word v) ≡ Some v
unfolding own_verb_at
verb_again verb.Ready = refl
verb_again verb.Claim = refl
verb_again verb.Finish = refl
verb_again verb.Rows = refl
verb_again verb.Lines = refl

-- one verb more
or_verb : (b : Bool) (v : OwnVerb) (rest : Option OwnVerb) (r : Bool) → is_some rest ≡ r
    → is_some (cond b (Some v) rest) ≡ (b || r)
or_verb true v rest r same = refl
or_verb false v rest r same = same

last_verb : (b : Bool) → is_some (cond b (Some verb.Lines) None) ≡ b
last_verb true = refl
last_verb false = refl

pub is_own_verb-some : (w : List ℕ) → is_some (own_verb_at w) ≡ is_own_verb w
unfolding own_verb_at
is_own_verb-some w =
    or_verb (bytes_eq w (codes "ready")) verb.Ready _ _ (
    or_verb (bytes_eq w (codes "claim")) verb.Claim _ _ (
    or_verb (bytes_eq w (codes "finish")) verb.Finish _ _ (
    or_verb (bytes_eq w (codes "rows")) verb.Rows _ _ (
    last_verb (bytes_eq w (codes "lines"))))))

-- ---- 2. builders, keys and ends

builder_found : (t : List ℕ) (b : ℕ) → builder_at t ≡ Some b → (t ≡ decimal b) × IsBuilder b
unfolding builder_at
builder_found t b e =
    let a = chained (number_at 64 t) (λ n. cond (eqb n 0) None (Some n)) b e in
    let w = when_none (eqb a.0 0) (Some a.0) b a.2 in
    let n = (number_exact 64 (lit< tt)).found t a.0 a.1 in
    let other = eqb-false a.0 0 w.0 in
    subst (λ (y : ℕ). (t ≡ decimal y) × IsBuilder y) (some_is a.0 b w.1) (n.0, (omega arith, n.1))

builder_again : (b : ℕ) → IsBuilder b → builder_at (decimal b) ≡ Some b
unfolding builder_at
builder_again b h = rw ((number_exact 64 (lit< tt)).again b h.1, ne_eqb b 0 (λ e. omega arith)) refl

-- what stands behind a verb: a builder's number and a text
abbrev numbered : ℕ × List ℕ → List ℕ
numbered p = codes " " ++ (decimal p.0 ++ 32 ∷ p.1)

parts_joined : (rest text front behind word : List ℕ) → rest ≡ codes " " ++ text
    → text ≡ front ++ 32 ∷ behind → front ≡ word → rest ≡ codes " " ++ (word ++ 32 ∷ behind)
parts_joined rest text front behind word a b c = cc

behind_found : (rest : List ℕ) (p : ℕ × List ℕ) → builder_behind rest ≡ Some p
    → (rest ≡ numbered p) × IsBuilder p.0
behind_found rest p e =
    let a = chained (strip (codes " ") rest) _ p e in
    let b = chained (cut 32 a.0) _ p a.2 in
    let d = chained (builder_at b.0.0) _ p b.2 in
    let n = builder_found b.0.0 d.0 d.1 in
    let cuts = cut_found 32 a.0 b.0 b.1 in
    subst (λ (q : ℕ × List ℕ). (rest ≡ numbered q) × IsBuilder q.0) (some_is (d.0, b.0.1) p d.2) (
      parts_joined rest a.0 b.0.0 b.0.1 (decimal d.0) (strip_found (codes " ") rest a.0 a.1) cuts.0
          n.0,
      n.1,
    )

builder_small : (b : ℕ) → IsBuilder b → b < 2 ^ 64
builder_small b h = let most = h.1 in omega arith

behind_again : (b : ℕ) (text : List ℕ) → IsBuilder b
    → builder_behind (codes " " ++ (decimal b ++ 32 ∷ text)) ≡ Some (b, text)
behind_again b text h =
    rw (
      strip_again (codes " ") (decimal b ++ 32 ∷ text),
      cut-at 32 (decimal b) text (Without-decimal 32 b (lit< tt) (builder_small b h)),
      builder_again b h,
    ) refl

spaced_found : (t : List ℕ) (k : Key) → spaced_key_at t ≡ Some k → (t ≡ two_words k) × KeyFits k
unfolding spaced_key_at
spaced_found t k e = key_apart-found 32 t k e

spaced_again : (k : Key) → KeyFits k → spaced_key_at (two_words k) ≡ Some k
unfolding spaced_key_at
spaced_again k h = key_apart-again 32 k refl h

spoken_found : (o end : Outcome) → spoken_ending o ≡ Some end → (o ≡ end) × SaysFor end
spoken_found Built end e = let is = some_is Built end e in (is, subst SaysFor is tt)
spoken_found Attempted end e = let is = some_is Attempted end e in (is, subst SaysFor is tt)
spoken_found GivenBack end e = let is = some_is GivenBack end e in (is, subst SaysFor is tt)
spoken_found (Waits t) end e =
    let a = when_none (eqb (length t) 0) (Some (Waits t)) end e in
    let is = some_is (Waits t) end a.1 in
    let other = eqb-false (length t) 0 a.0 in
    (is, subst SaysFor is (omega arith))

spoken_again : (o : Outcome) → SaysFor o → spoken_ending o ≡ Some o
spoken_again Built h = refl
spoken_again Attempted h = refl
spoken_again GivenBack h = refl
spoken_again (Waits t) h = rw (ne_eqb (length t) 0 (λ e. omega arith)) refl

-- ---- 3. requests

-- the line is the request's, which can be written
abbrev IsLineOf : List ℕ → OwnRequest → Type 0
IsLineOf line r = (line ≡ own_line r) × OwnFits r

alone_found : (word rest : List ℕ) (x r : OwnRequest) → IsLineOf (word ++ []) x
    → cond (eqb (length rest) 0) (Some x) None ≡ Some r → IsLineOf (word ++ rest) r
alone_found word rest x r line e =
    let a = when_some (eqb (length rest) 0) x r e in
    subst (IsLineOf (word ++ rest)) a.1
    (subst (λ (t : List ℕ). IsLineOf (word ++ t) x) (sym (no_text rest a.0)) line)

arch_found : (rest : List ℕ) (r : OwnRequest)
    → (arch_behind rest >>= λ arch. Some (Ready (Some arch))) ≡ Some r
    → IsLineOf (codes "ready" ++ rest) r
arch_found rest r e =
    let a = chained (arch_behind rest) (λ arch. Some (Ready (Some arch))) r e in
    let b = chained (strip (codes " ") rest) _ a.0 a.1 in
    let w = when_some (is_arch b.0) b.0 a.0 b.2 in
    let is : rest ≡ codes " " ++ a.0 =
    strip_found (codes " ") rest b.0 b.1 ∙ ap (λ (t : List ℕ). codes " " ++ t) w.1 in
    subst (IsLineOf (codes "ready" ++ rest)) (some_is (Ready (Some a.0)) r a.2)
    (ap (λ (t : List ℕ). codes "ready" ++ t) is, ap is_arch (sym w.1) ∙ w.0)

ready_found : (rest : List ℕ) (r : OwnRequest) → ready_at rest ≡ Some r
    → IsLineOf (codes "ready" ++ rest) r
ready_found rest r e =
    elim (cases_Bool (eqb (length rest) 0)) [
      | inl none ↦
          let q : Some (Ready None) ≡ Some r = sym (rw none refl) ∙ e in
          subst (IsLineOf (codes "ready" ++ rest)) (some_is (Ready None) r q)
          (ap (λ (t : List ℕ). codes "ready" ++ t) (no_text rest none), tt)
      | inr some ↦ arch_found rest r (sym (rw some refl) ∙ e)
    ]

claim_found : (rest : List ℕ) (r : OwnRequest) → own_by_verb verb.Claim rest ≡ Some r
    → IsLineOf (codes "claim" ++ rest) r
claim_found rest r e =
    let a = chained (builder_behind rest) _ r e in
    let k = chained (spaced_key_at a.0.1) _ r a.2 in
    let b = behind_found rest a.0 a.1 in
    let s = spaced_found a.0.1 k.0 k.1 in
    subst (IsLineOf (codes "claim" ++ rest)) (some_is (Claim a.0.0 k.0) r k.2) (
      ap (λ (t : List ℕ). codes "claim" ++ t) b.0
          ∙ ap (λ (t : List ℕ). codes "claim " ++ (decimal a.0.0 ++ 32 ∷ t)) s.0,
      (b.1, s.1),
    )

finish_found : (rest : List ℕ) (r : OwnRequest) → own_by_verb verb.Finish rest ≡ Some r
    → IsLineOf (codes "finish" ++ rest) r
finish_found rest r e =
    let a = chained (builder_behind rest) _ r e in
    let o = chained (ending_at a.0.1) _ r a.2 in
    let w = chained (spoken_ending o.0) _ r o.2 in
    let b = behind_found rest a.0 a.1 in
    let t = endings_are_exact.found a.0.1 o.0 o.1 in
    let s = spoken_found o.0 w.0 w.1 in
    subst (IsLineOf (codes "finish" ++ rest)) (some_is (Finish a.0.0 w.0) r w.2) (
      ap (λ (t : List ℕ). codes "finish" ++ t) b.0
          ∙ ap (λ (t : List ℕ). codes "finish " ++ (decimal a.0.0 ++ 32 ∷ t))
          (t.0 ∙ ap ending_text s.0),
      (b.1, s.1),
    )

by_verb_found : (v : OwnVerb) (rest : List ℕ) (r : OwnRequest) → own_by_verb v rest ≡ Some r
    → IsLineOf (verb_word v ++ rest) r
by_verb_found verb.Ready rest r e = ready_found rest r e
by_verb_found verb.Claim rest r e = claim_found rest r e
by_verb_found verb.Finish rest r e = finish_found rest r e
by_verb_found verb.Rows rest r e = alone_found (codes "rows") rest Rows r (refl, tt) e
by_verb_found verb.Lines rest r e = alone_found (codes "lines") rest Lines r (refl, tt) e

own_found : (t : List ℕ) (r : OwnRequest) → own_at t ≡ Some r → IsLineOf t r
unfolding own_at
own_found t r e =
    let v = chained (own_verb_at (part 32 t).0) (λ v. own_by_verb v (part 32 t).1) r e in
    let word = (verb_found (part 32 t).0 v.0 v.1).0 in
    let is : t ≡ verb_word v.0 ++ (part 32 t).1 =
    part_joined 32 t ∙ ap (λ (w : List ℕ). w ++ (part 32 t).1) word in
    subst (λ (x : List ℕ). IsLineOf x r) (sym is) (by_verb_found v.0 (part 32 t).1 r v.2)

-- a line by its verb and what follows that
by_parts : (v : OwnVerb) (rest : List ℕ) → Without 32 (verb_word v) → Begins 32 rest
    → own_verb_at (verb_word v) ≡ Some v → own_at (verb_word v ++ rest) ≡ own_by_verb v rest
unfolding own_at
by_parts v rest lack begins is = rw (part_again 32 (verb_word v) rest lack begins, is) refl

arch_again : (arch : List ℕ) → is_arch arch ≡ true
    → ready_at (codes " " ++ arch) ≡ Some (Ready (Some arch))
arch_again arch fits =
    let some : eqb (length (32 ∷ arch)) 0 ≡ false =
    ne_eqb (length (32 ∷ arch)) 0 (λ e. omega arith) in
    ap (λ (b : Bool). cond b (Some (Ready None))
    (arch_behind (codes " " ++ arch) >>= λ a. Some (Ready (Some a)))) some
    ∙ rw (strip_again (codes " ") arch, fits) refl

own_again : (r : OwnRequest) → OwnFits r → own_at (own_line r) ≡ Some r
own_again (Ready None) fits =
    by_parts verb.Ready [] (lacks 32 (codes "ready") refl) tt (verb_again verb.Ready)
own_again (Ready (Some arch)) fits =
    by_parts verb.Ready (codes " " ++ arch) (lacks 32 (codes "ready") refl) refl
    (verb_again verb.Ready) ∙ arch_again arch fits
own_again (Claim b k) fits =
    by_parts verb.Claim (codes " " ++ (decimal b ++ 32 ∷ two_words k))
    (lacks 32 (codes "claim") refl) refl (verb_again verb.Claim)
    ∙ rw (behind_again b (two_words k) fits.0, spaced_again k fits.1) refl
own_again (Finish b o) fits =
    by_parts verb.Finish (codes " " ++ (decimal b ++ 32 ∷ ending_text o))
    (lacks 32 (codes "finish") refl) refl (verb_again verb.Finish)
    ∙ rw (
      behind_again b (ending_text o) fits.0,
      endings_are_exact.again o tt,
      spoken_again o fits.1,
    ) refl
own_again Rows fits = by_parts verb.Rows [] (lacks 32 (codes "rows") refl) tt (verb_again verb.Rows)
own_again Lines fits =
    by_parts verb.Lines [] (lacks 32 (codes "lines") refl) tt (verb_again verb.Lines)

-- no newline stands in what follows a verb, nor in what follows a builder's number
pub rest_lacks : (line : List ℕ) (word rest : List ℕ) → line ≡ word ++ rest → Without 10 line
    → Without 10 rest
rest_lacks line word rest is lack = Without-right 10 word rest (subst (Without 10) is lack)

pub behind_lacks : (rest : List ℕ) (p : ℕ × List ℕ) → builder_behind rest ≡ Some p
    → Without 10 rest → Without 10 p.1
behind_lacks rest p is lack =
    let joined : Without 10 (codes " " ++ (decimal p.0 ++ 32 ∷ p.1)) =
    subst (Without 10) (behind_found rest p is).0 lack in
    (Without-right 10 (decimal p.0) (32 ∷ p.1) joined.1).1

-- no newline stands in an architecture
pub arch_lacks : (rest arch : List ℕ) → arch_behind rest ≡ Some arch → has_newline arch ≡ false
arch_lacks rest arch is =
    let a = chained (strip (codes " ") rest) _ arch is in
    let w = when_some (is_arch a.0) a.0 arch a.2 in
    has_newline-Without arch (Without-arch 10 arch refl (ap is_arch (sym w.1) ∙ w.0))

pub own_exact : OwnRequestsAreExact
own_exact = record { found = own_found; again = own_again }

-- ---- 4. lines that are heard

-- what a line is by the request that it is, if it is one
abbrev heard_by : List ℕ → Option OwnRequest → Heard
heard_by line o = elim o [ Some r ↦ Own r | None ↦ not_own line ]

heard_again : (r : OwnRequest) → OwnFits r → heard_at (own_line r) ≡ Own r
unfolding heard_at
heard_again r fits = ap (heard_by (own_line r)) (own_again r fits)

heard_found : (line : List ℕ) (r : OwnRequest) → heard_at line ≡ Own r → IsLineOf line r
unfolding heard_at
heard_found line r e = by (own_at line) refl e
  where
    never : (b : Bool) → cond b Bad Scripted ≡ Own r → IsLineOf line r
    never true bad = absurd cc
    never false bad = absurd cc

    by : (o : Option OwnRequest) → own_at line ≡ o
        → elim o [ Some x ↦ Own x | None ↦ not_own line ] ≡ Own r → IsLineOf line r
    by None at is = never (is_own_verb (first_word line)) is
    by (Some x) at is =
        let same : x ≡ r = cc in own_found line r (at ∙ ap (λ (y : OwnRequest). Some y) same)

pub own_heard : OwnLinesAreHeard
own_heard line r = (
  heard_found line r,
  λ is. subst (λ (l : List ℕ). heard_at l ≡ Own r) (sym is.0) (heard_again r is.1),
)

-- The line of a step is read exactly.
use Rattle.std.proofs.Common.{◌≡◌, ℕ, ◌<◌, ◌≤◌, ◌^◌, ◌-◌, ◌==◌, true, cond, eqb, false}
use Rattle.std.proofs.Common.{List, ◌∷◌, ◌++◌, length, Option, Some, None, refl, sym, ap, subst}
use Rattle.std.proofs.Common.{◌∙◌, arith, lit<}
use Rattle.std.specs.Prelude.{codes, decimal}
use Rattle.std.specs.Str.{bytes_eq}
use Rattle.std.proofs.lemmas.Bool.Decides.{nat_tests}
use Rattle.td_text.specs.Chain.{◌>>=◌}
use Rattle.td_text.specs.Cut.{cut, part, strip}
use Rattle.td_text.specs.Numbers.{number_at}
use Rattle.td_text.proofs.Chain.{chained, some_is, when_some, when_none, or_word}
use Rattle.td_text.proofs.Cut.{cut-at, part_again, part_joined, word_found}
use Rattle.td_text.proofs.Numbers.{number_exact, Without-decimal}
use Rattle.td_text.proofs.Prefix.{strip_found}
use Rattle.td_rows.specs.declared.key.Key.{Key}
use Rattle.td_rows.specs.declared.kind.Kind.{Kind}
use Rattle.td_rows.specs.declared.kind.Kind.TheVariants.{Gb, Nmu, Bp, Dw, Claim as Claimed}
use Rattle.td_rows.specs.declared.kind.Kind.TheVariants.{Outcome as Ended, Arrive, Sweep}
use Rattle.td_rows.specs.declared.outcome.Outcome.{Outcome}
use Rattle.td_rows.specs.KeyText.{key_text, KeyFits, key_at}
use Rattle.td_rows.specs.Notes.{notes, NotesFit}
use Rattle.td_rows.proofs.KeyTexts.{key_exact}
use Rattle.td_rows.proofs.NoteTexts.{notes_exact, notes_begin}
use Rattle.td_journal.specs.Commands.{is_command}
use Rattle.td_journal.specs.Endings.{ending_text}
use Rattle.td_journal.specs.EntryReading.{keys_at}
use Rattle.td_journal.specs.JournalText.{kind_word, kind_notes, spaced_keys}
use Rattle.td_journal.proofs.Endings.{ending_found, ending_again}
use Rattle.td_journal.proofs.KeyWords.{keys_found, keys_again, spaced_begin, no_key}
use Rattle.td_journal.proofs.KindWords.{kind_found, kind_again, kind_lacks, told_found, told_again}
use Rattle.td_core.specs.declared.step.Step.{Step}
use Rattle.td_core.specs.declared.step.Step.TheVariants as steps
use Rattle.td_simulate.specs.declared.verb.Verb.{Verb}
use Rattle.td_simulate.specs.declared.verb.Verb.TheVariants.{Offer, Withdraw, Claim, Note, Undo}
use Rattle.td_simulate.specs.declared.verb.Verb.TheVariants.{Finish, Settle, Release}
use Rattle.td_simulate.specs.declared.verb.Verb.TheVariants.{Arrive as Arriving}
use Rattle.td_simulate.specs.StepLines.{step_line, CommandFits}
use Rattle.td_simulate.specs.StepLines.{StepFits}
use Rattle.td_simulate.specs.StepReading.{verb_at, builder_at, claim_at, finish_at, by_verb}
use Rattle.td_simulate.specs.StepReading.{some_keys, commit_at, by_word, step_at, StepsAreExact}

-- the line is the step's, which can be written
abbrev pub IsLineOf : List ℕ → Step → Type 0
IsLineOf line s = (line ≡ step_line s) × StepFits s

-- ---- verbs

abbrev verb_word : Verb → List ℕ
verb_word Offer = codes "offer"
verb_word Withdraw = codes "withdraw"
verb_word Claim = codes "claim"
verb_word Note = codes "note"
verb_word Undo = codes "undo"
verb_word Finish = codes "finish"
verb_word Settle = codes "settle"
verb_word Release = codes "release"
verb_word Arriving = codes "arrive"

abbrev Always : Verb → Type 0
Always v = Unit {0}

verb_found : (t : List ℕ) (v : Verb) → verb_at t ≡ Some v → (t ≡ verb_word v) × Unit {0}
unfolding verb_at
verb_found t v e =
    or_word verb_word Always t v Offer _ tt (
    or_word verb_word Always t v Withdraw _ tt (
    or_word verb_word Always t v Claim _ tt (
    or_word verb_word Always t v Note _ tt (
    or_word verb_word Always t v Undo _ tt (
    or_word verb_word Always t v Finish _ tt (
    or_word verb_word Always t v Settle _ tt (
    or_word verb_word Always t v Release _ tt (
    or_word verb_word Always t v Arriving None tt (λ bad. absurd cc))))))))) e

-- ---- steps of a key or a number

key_step : (word rest : List ℕ) (make : Key → Step) (s : Step)
    → ((k : Key) → KeyFits k → IsLineOf (word ++ 32 ∷ key_text k) (make k))
    → (key_at rest >>= λ k. Some (make k)) ≡ Some s → IsLineOf (word ++ 32 ∷ rest) s
key_step word rest make s line e =
    let a = chained (key_at rest) (λ k. Some (make k)) s e in
    let f = key_exact.found rest a.0 a.1 in
    subst (λ (y : Step). IsLineOf (word ++ 32 ∷ rest) y) (some_is (make a.0) s a.2)
    (subst (λ (t : List ℕ). IsLineOf (word ++ 32 ∷ t) (make a.0)) (sym f.0) (line a.0 f.1))

number_step : (word rest : List ℕ) (make : ℕ → Step) (s : Step)
    → ((n : ℕ) → n < 2 ^ 64 → IsLineOf (word ++ 32 ∷ decimal n) (make n))
    → (number_at (2 ^ 64 - 1) rest >>= λ n. Some (make n)) ≡ Some s → IsLineOf (word ++ 32 ∷ rest) s
number_step word rest make s line e =
    let a = chained (number_at (2 ^ 64 - 1) rest) (λ n. Some (make n)) s e in
    let f = (number_exact (2 ^ 64 - 1) (lit< tt)).found rest a.0 a.1 in
    subst (λ (y : Step). IsLineOf (word ++ 32 ∷ rest) y) (some_is (make a.0) s a.2)
    (subst (λ (t : List ℕ). IsLineOf (word ++ 32 ∷ t) (make a.0)) (sym f.0)
    (line a.0 (let small = f.1 in omega arith)))

-- ---- a builder's number before the rest

pub builder_found : (t : List ℕ) (p : ℕ × List ℕ) → builder_at t ≡ Some p
    → (t ≡ decimal p.0 ++ 32 ∷ p.1) × (p.0 < 2 ^ 64)
unfolding builder_at
builder_found t p e =
    let a = chained (cut 32 t) (λ x. number_at (2 ^ 64 - 1) x.0 >>= λ b. Some (b, x.1)) p e in
    let n = chained (number_at (2 ^ 64 - 1) a.0.0) (λ b. Some (b, a.0.1)) p a.2 in
    let w = word_found 32 (number_at (2 ^ 64 - 1)) decimal (λ k. k ≤ 2 ^ 64 - 1)
    (number_exact (2 ^ 64 - 1) (lit< tt)) t a.0 n.0 a.1 n.1 in
    subst (λ (y : ℕ × List ℕ). (t ≡ decimal y.0 ++ 32 ∷ y.1) × (y.0 < 2 ^ 64))
    (some_is (n.0, a.0.1) p n.2) (w.0, (let small = w.1 in omega arith))

builder_again : (b : ℕ) (rest : List ℕ) → b < 2 ^ 64
    → builder_at (decimal b ++ 32 ∷ rest) ≡ Some (b, rest)
unfolding builder_at
builder_again b rest small =
    rw (
      cut-at 32 (decimal b) rest (Without-decimal 32 b (lit< tt) small),
      (number_exact (2 ^ 64 - 1) (lit< tt)).again b (omega arith),
    ) refl

claim_found : (rest : List ℕ) (s : Step) → claim_at rest ≡ Some s
    → IsLineOf (codes "claim" ++ 32 ∷ rest) s
unfolding claim_at
claim_found rest s e =
    let p = chained (builder_at rest) (λ x. key_at x.1 >>= λ k. Some (steps.Claim x.0 k)) s e in
    let k = chained (key_at p.0.1) (λ k. Some (steps.Claim p.0.0 k)) s p.2 in
    let b = builder_found rest p.0 p.1 in
    let f = key_exact.found p.0.1 k.0 k.1 in
    subst (λ (y : Step). IsLineOf (codes "claim" ++ 32 ∷ rest) y)
    (some_is (steps.Claim p.0.0 k.0) s k.2) (
      ap (λ (t : List ℕ). codes "claim" ++ 32 ∷ t)
          (b.0 ∙ ap (λ (t : List ℕ). decimal p.0.0 ++ 32 ∷ t) f.0),
      (b.1, f.1),
    )

-- ---- how a build ended

finish_found : (rest : List ℕ) (s : Step) → finish_at rest ≡ Some s
    → IsLineOf (codes "finish" ++ 32 ∷ rest) s
unfolding finish_at
finish_found rest s e =
    let p = chained _ _ _ e in
    let o = chained _ _ _ p.2 in
    let b = builder_found rest p.0 p.1 in
    let line : rest ≡ decimal p.0.0 ++ 32 ∷ ending_text o.0 =
    b.0 ∙ ap (λ (r : List ℕ). decimal p.0.0 ++ 32 ∷ r) (ending_found p.0.1 o.0 o.1) in
    subst (λ (y : Step). IsLineOf (codes "finish" ++ 32 ∷ rest) y)
    (some_is (steps.Finish p.0.0 o.0) s o.2)
    (ap (λ (t : List ℕ). codes "finish" ++ 32 ∷ t) line, b.1)

finish_again : (b : ℕ) (o : Outcome) → b < 2 ^ 64
    → finish_at (decimal b ++ 32 ∷ ending_text o) ≡ Some (steps.Finish b o)
unfolding finish_at
finish_again b o small = rw (builder_again b (ending_text o) small, ending_again o) refl

-- ---- a step by its verb

by_verb_found : (v : Verb) (rest : List ℕ) (s : Step) → by_verb v rest ≡ Some s
    → IsLineOf (verb_word v ++ 32 ∷ rest) s
by_verb_found Offer rest s e = key_step (codes "offer") rest steps.Offer s (λ k h. (refl, h)) e
by_verb_found Withdraw rest s e =
    key_step (codes "withdraw") rest steps.Withdraw s (λ k h. (refl, h)) e
by_verb_found Claim rest s e = claim_found rest s e
by_verb_found Note rest s e = key_step (codes "note") rest steps.Note s (λ k h. (refl, h)) e
by_verb_found Undo rest s e = number_step (codes "undo") rest steps.Undo s (λ n h. (refl, h)) e
by_verb_found Finish rest s e = finish_found rest s e
by_verb_found Settle rest s e = key_step (codes "settle") rest steps.Settle s (λ k h. (refl, h)) e
by_verb_found Release rest s e =
    number_step (codes "release") rest steps.Release s (λ n h. (refl, h)) e
by_verb_found Arriving rest s e = key_step (codes "arrive") rest steps.Arrive s (λ k h. (refl, h)) e

-- ---- commands

commit_joined : (word rest ks ending ns k : List ℕ) → word ≡ k → rest ≡ ks ++ ending → ending ≡ ns
    → word ++ rest ≡ k ++ (ks ++ ns)
commit_joined word rest ks ending ns k h1 h2 h3 = cc

some_found : (ks found : List Key) → some_keys ks ≡ Some found → (found ≡ ks) × (0 < length ks)
some_found ks found e =
    let w = when_none (eqb (length ks) 0) (Some ks) found e in
    let none : (length ks == 0) ≡ false = w.0 in
    (sym (some_is ks found w.1), grind (arith, nat_tests, none))

some_again : (ks : List Key) → 0 < length ks → some_keys ks ≡ Some ks
some_again ks some =
    let none : (length ks == 0) ≡ false = grind (arith, nat_tests, some) in
    ap (λ b. cond b None (Some ks)) none

commit_found : (word rest : List ℕ) (s : Step) → commit_at word rest ≡ Some s
    → IsLineOf (word ++ rest) s
unfolding commit_at
commit_found word rest s e =
    let bare = chained _ _ _ e in
    let some = chained _ _ _ bare.2 in
    let texts = chained _ _ _ some.2 in
    let kind = chained _ _ _ texts.2 in
    let last = when_some (is_command kind.0) (steps.Commit kind.0 some.0) s kind.2 in
    let named = some_found (keys_at rest).0 some.0 some.1 in
    let k = kind_found word bare.0 bare.1 in
    let ks = keys_found rest in
    let n = notes_exact.found (keys_at rest).1 texts.0 texts.1 in
    let w = told_found bare.0 texts.0.0 texts.0.1 kind.0 kind.1 in
    subst (λ (y : Step). IsLineOf (word ++ rest) y)
    (ap (steps.Commit kind.0) (sym named.0) ∙ last.1) (
      commit_joined word rest (spaced_keys (keys_at rest).0) (keys_at rest).1
          (notes (kind_notes kind.0)) (kind_word kind.0) (k.0 ∙ sym w.0) ks.0
          (n.0 ∙ ap notes (sym w.1)),
      record {
        command = last.0;
        kind = w.2 k.1;
        some = named.1;
        keys = ks.1;
        texts = subst NotesFit (sym w.1) n.1;
      },
    )

no_verb : (k : Kind) → is_command k ≡ true → verb_at (kind_word k) ≡ None
unfolding verb_at
no_verb Gb h = refl
no_verb (Nmu None e m) h = refl
no_verb (Nmu (Some n) e m) h = refl
no_verb (Bp p) h = refl
no_verb (Dw t) h = refl
no_verb (Claimed b) h = absurd cc
no_verb (Ended b o) h = absurd cc
no_verb Arrive h = absurd cc
no_verb Sweep h = absurd cc

commit_again : (k : Kind) (ks : List Key) → CommandFits k ks
    → commit_at (kind_word k) (spaced_keys ks ++ notes (kind_notes k)) ≡ Some (steps.Commit k ks)
unfolding commit_at
commit_again k ks h =
    let command = h.command in
    rw (
      kind_again k h.kind,
      keys_again ks (notes (kind_notes k)) h.keys (notes_begin (kind_notes k))
          (no_key (kind_notes k)),
      some_again ks h.some,
      notes_exact.again (kind_notes k) h.texts,
      told_again k,
      command,
    ) refl

-- ---- the line

line_parts : (line word rest : List ℕ) (v : Verb) (after : List ℕ) → line ≡ word ++ rest
    → word ≡ verb_word v → rest ≡ 32 ∷ after → verb_word v ++ 32 ∷ after ≡ line
line_parts line word rest v after h1 h2 h3 = cc

by_word_found : (line : List ℕ) (o : Option Verb) (s : Step) → verb_at (part 32 line).0 ≡ o
    → by_word o (part 32 line).0 (part 32 line).1 ≡ Some s → IsLineOf line s
by_word_found line (Some v) s is e =
    let a = chained (strip (codes " ") (part 32 line).1) (by_verb v) s e in
    let word = verb_found (part 32 line).0 v is in
    subst (λ (t : List ℕ). IsLineOf t s)
    (line_parts line (part 32 line).0 (part 32 line).1 v a.0 (part_joined 32 line) word.0
    (strip_found (codes " ") (part 32 line).1 a.0 a.1)) (by_verb_found v a.0 s a.2)
by_word_found line None s is e =
    subst (λ (t : List ℕ). IsLineOf t s) (sym (part_joined 32 line))
    (commit_found (part 32 line).0 (part 32 line).1 s e)

pub step_found : (line : List ℕ) (s : Step) → step_at line ≡ Some s
    → (line ≡ step_line s) × StepFits s
unfolding step_at
step_found line s e =
    or_word step_line StepFits line s steps.Sweep _ tt
    (λ other. by_word_found line (verb_at (part 32 line).0) s refl other) e

-- a command's line is no sweep's
no_sweep : (k : Kind) (rest : List ℕ) → is_command k ≡ true
    → bytes_eq (kind_word k ++ rest) (codes "sweep") ≡ false
no_sweep Gb rest h = refl
no_sweep (Nmu None e m) rest h = refl
no_sweep (Nmu (Some n) e m) rest h = refl
no_sweep (Bp p) rest h = refl
no_sweep (Dw t) rest h = refl
no_sweep (Claimed b) rest h = absurd cc
no_sweep (Ended b o) rest h = absurd cc
no_sweep Arrive rest h = absurd cc
no_sweep Sweep rest h = absurd cc

step_again : (s : Step) → StepFits s → step_at (step_line s) ≡ Some s
unfolding step_at part verb_at strip claim_at
step_again (steps.Offer k) h = rw (key_exact.again k h) refl
step_again (steps.Withdraw k) h = rw (key_exact.again k h) refl
step_again (steps.Claim b k) h = rw (builder_again b (key_text k) h.0, key_exact.again k h.1) refl
step_again (steps.Note k) h = rw (key_exact.again k h) refl
step_again (steps.Commit k ks) h =
    rw (
      no_sweep k (spaced_keys ks ++ notes (kind_notes k)) h.command,
      part_again 32 (kind_word k) (spaced_keys ks ++ notes (kind_notes k))
          (kind_lacks 32 (omega arith) k h.kind)
          (spaced_begin ks (notes (kind_notes k)) (notes_begin (kind_notes k))),
      no_verb k h.command,
    ) (commit_again k ks h)
step_again (steps.Undo n) h = rw ((number_exact (2 ^ 64 - 1) (lit< tt)).again n (omega arith)) refl
step_again (steps.Finish b o) h = finish_again b o h
step_again (steps.Settle k) h = rw (key_exact.again k h) refl
step_again (steps.Release b) h =
    rw ((number_exact (2 ^ 64 - 1) (lit< tt)).again b (omega arith)) refl
step_again (steps.Arrive k) h = rw (key_exact.again k h) refl
step_again steps.Sweep h = refl

pub steps_exact : StepsAreExact
steps_exact = record { found = step_found; again = step_again }

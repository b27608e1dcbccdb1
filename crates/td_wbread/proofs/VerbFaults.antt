-- What is wrong with the verb of a command line, or with its number.
use Rattle.std.proofs.Common.{◌≡◌, ◌≢◌, ℕ, Bool, true, false, cond, eqb, ◌&&◌, List, [], ◌∷◌}
use Rattle.std.proofs.Common.{Option}
use Rattle.std.proofs.Common.{Some, None, Result, Ok, Err, codes, refl, sym, ap, ◌∙◌, inl}
use Rattle.std.proofs.Common.{inr}
use Rattle.std.proofs.Common.{arith, lit<}
use Rattle.std.specs.Prelude.{ℤ}
use Rattle.std.specs.Str.{bytes_eq}
use Rattle.std.proofs.lemmas.Bool.{and_parts, cases_Bool, eqb-false, eqb-true}
use Rattle.std.proofs.lemmas.Slice.Eq.{bytes_eq-Decides}
use Rattle.td_text.specs.Numbers.{number_at}
use Rattle.td_text.proofs.Numbers.{number_exact}
use Rattle.td_wbread.specs.declared.command.Verb.{Verb}
use Rattle.td_wbread.specs.declared.command.Verb.TheVariants.{Gb, Nmu, Bp, Dw}
use Rattle.td_wbread.specs.declared.fault.CommandFault.{CommandFault}
use Rattle.td_wbread.specs.declared.fault.CommandFault.TheVariants.{Wrong}
use Rattle.td_wbread.specs.declared.fault.LineFault.TheVariants.{UnknownCommand, BadNumber}
use Rattle.td_wbread.specs.declared.word.Word.{Word}
use Rattle.td_wbread.specs.declared.word.End.{End}
use Rattle.td_wbread.specs.Faults.{missing}
use Rattle.td_wbread.specs.HeadFaults.{IsNoPriority, IsNoRebuild, IsVerbFault, IsVerbWord}
use Rattle.td_wbread.specs.HeadFaults.{VerbFaultsAreExact}
use Rattle.td_wbread.specs.VerbLaws.{BeginsWithNumber, IsPriority, IsRebuildNumber}
use Rattle.td_wbread.specs.Verbs.{goes_on, is_digits, numbered, priority_at, priority_first}
use Rattle.td_wbread.specs.Verbs.{prioritized, rebuild_first, verb_at, verb_from}
use Rattle.td_wbread.proofs.ListFaults.{err_is, not_both}
use Rattle.td_wbread.proofs.VerbShapes.{digits_are, digits_found, on_found, on_is, priority_found}
use Rattle.td_wbread.proofs.VerbShapes.{priority_is}

-- ---- the number of `nmu`

-- a rebuild's number is read as itself
number_again : (text : List ℕ) (n : ℕ) → IsRebuildNumber text n → number_at 9999 text ≡ Some n
number_again text n is =
    ap (number_at 9999) is.written ∙ (number_exact 9999 (lit< tt)).again n is.bounded

-- a text that is read as no number, or as 0, is no rebuild's
no_number : (text : List ℕ) → number_at 9999 text ≡ None → (n : ℕ) → ¬ IsRebuildNumber text n
no_number text none n is =
    absurd (let bad : None ≡ Some n = sym none ∙ number_again text n is in cc)

zero_number : (text : List ℕ) (m : ℕ) → number_at 9999 text ≡ Some m → m ≡ 0 → (n : ℕ)
    → ¬ IsRebuildNumber text n
zero_number text m some low n is =
    let same : Some m ≡ Some n = sym some ∙ number_again text n is in
    let e : m ≡ n = cc in
    let positive = is.positive in
    absurd (omega arith)

-- what is read as another number is a rebuild's
some_number : (text : List ℕ) (m : ℕ) → number_at 9999 text ≡ Some m → m ≢ 0
    → IsRebuildNumber text m
some_number text m some high =
    let written = (number_exact 9999 (lit< tt)).found text m some in
    record { written = written.0; positive = omega arith; bounded = written.1 }

rebuild_faulty : (end : End) (word : Word) (words : List Word) (fault : CommandFault)
    → word.text ≡ codes "nmu" → rebuild_first end words ≡ Err fault
    → IsNoRebuild end (word ∷ words) fault
rebuild_faulty end word [] fault text h =
    absurd (not_both {A = Verb × List Word} (Nmu None, []) fault h)
rebuild_faulty end word (number ∷ words) fault text h =
    by (is_digits number.text && goes_on end words) refl h
  where
    wrong : CommandFault
    wrong = Wrong BadNumber number.place

    given : (is_digits number.text && goes_on end words) ≡ true
        → ((n : ℕ) → ¬ IsRebuildNumber number.text n) → fault ≡ wrong
        → IsNoRebuild end (word ∷ number ∷ words) fault
    given e none is =
        let p = and_parts (is_digits number.text) (goes_on end words) e in (
          number,
          words,
          (word, refl, text),
          (digits_are number.text p.0, on_is end words p.1),
          none,
          is,
        )

    read : (o : Option ℕ) → number_at 9999 number.text ≡ o
        → (is_digits number.text && goes_on end words) ≡ true
        → numbered number words o ≡ Err fault → IsNoRebuild end (word ∷ number ∷ words) fault
    read None is e g =
        given e (no_number number.text is)
        (sym (err_is {A = Verb × List Word} (Wrong BadNumber number.place) fault g))
    read (Some m) is e g = zero (eqb m 0) refl g
      where
        zero : (b : Bool) → eqb m 0 ≡ b
            → cond {A = Result (Verb × List Word) CommandFault} b
            (Err (Wrong BadNumber number.place)) (Ok (Nmu (Some m), words)) ≡ Err fault
            → IsNoRebuild end (word ∷ number ∷ words) fault
        zero true low k =
            given e (zero_number number.text m is (eqb-true m 0 low))
            (sym (err_is {A = Verb × List Word} (Wrong BadNumber number.place) fault k))
        zero false high k =
            absurd (not_both {A = Verb × List Word} (Nmu (Some m), words) fault k)

    by : (b : Bool) → (is_digits number.text && goes_on end words) ≡ b
        → cond b (numbered number words (number_at 9999 number.text))
        (Ok (Nmu None, number ∷ words)) ≡ Err fault → IsNoRebuild end (word ∷ number ∷ words) fault
    by true e g = read (number_at 9999 number.text) refl e g
    by false e g =
        absurd (not_both {A = Verb × List Word} (Nmu None, number ∷ words) fault g)

rebuild_fails : (end : End) (number : Word) (rest : List Word)
    → BeginsWithNumber end (number ∷ rest) → ((n : ℕ) → ¬ IsRebuildNumber number.text n)
    → rebuild_first end (number ∷ rest) ≡ Err (Wrong BadNumber number.place)
rebuild_fails end number rest begins none =
    rw (digits_found number.text begins.0, on_found end rest begins.1)
    (by (number_at 9999 number.text) refl)
  where
    by : (o : Option ℕ) → number_at 9999 number.text ≡ o
        → numbered number rest o ≡ Err (Wrong BadNumber number.place)
    by None is = refl
    by (Some m) is =
        elim (cases_Bool (eqb m 0)) [
          | inl low ↦
              ap (λ (b : Bool). cond {A = Result (Verb × List Word) CommandFault} b
              (Err (Wrong BadNumber number.place)) (Ok (Nmu (Some m), rest))) low
          | inr high ↦ absurd (none m (some_number number.text m is (eqb-false m 0 high)))
        ]

-- ---- the number of `bp`

priority_faulty : (end : End) (word : Word) (words : List Word) (fault : CommandFault)
    → word.text ≡ codes "bp" → priority_first end words ≡ Err fault
    → IsNoPriority end (word ∷ words) fault
priority_faulty end word [] fault text h =
    inl (
      (word, refl, text),
      sym (err_is {A = Verb × List Word} (missing end BadNumber) fault h),
    )
priority_faulty end word (number ∷ words) fault text h = by (priority_at number.text) refl h
  where
    by : (o : Option ℤ) → priority_at number.text ≡ o → prioritized number words o ≡ Err fault
        → IsNoPriority end (word ∷ number ∷ words) fault
    by None is g =
        inr (
          number,
          words,
          (word, refl, text),
          λ priority p. absurd (let bad : None ≡ Some priority =
              sym is ∙ priority_found number.text priority p in cc),
          sym (err_is {A = Verb × List Word} (Wrong BadNumber number.place) fault g),
        )
    by (Some priority) is g =
        absurd (not_both {A = Verb × List Word} (Bp priority, words) fault g)

no_priority : (text : List ℕ) → ((priority : ℤ) → ¬ IsPriority text priority)
    → priority_at text ≡ None
no_priority text none = by (priority_at text) refl
  where
    by : (o : Option ℤ) → priority_at text ≡ o → priority_at text ≡ None
    by None is = is
    by (Some priority) is = absurd (none priority (priority_is text priority is))

-- ---- the verb

other_text : (a b : List ℕ) → ¬ (a ≡ b) → bytes_eq a b ≡ false
other_text a b differs =
    elim (cases_Bool (bytes_eq a b)) [
      | inl is ↦ absurd (differs ((bytes_eq-Decides a b).0 is))
      | inr out ↦ out
    ]

differs : (a b : List ℕ) → bytes_eq a b ≡ false → ¬ (a ≡ b)
differs a b out same =
    absurd (let bad : false ≡ true = sym out ∙ (bytes_eq-Decides a b).1 same in cc)

verb_faulty : (end : End) (words : List Word) (fault : CommandFault) → verb_at end words ≡ Err fault
    → IsVerbFault end words fault
unfolding verb_from
verb_faulty end [] fault h =
    inl (inl (refl, sym (err_is {A = Verb × List Word} (missing end UnknownCommand) fault h)))
verb_faulty end (word ∷ words) fault h =
    by (bytes_eq word.text (codes "gb")) (bytes_eq word.text (codes "nmu"))
    (bytes_eq word.text (codes "bp")) (bytes_eq word.text (codes "dw")) refl refl refl refl h
  where
    none : bytes_eq word.text (codes "gb") ≡ false → bytes_eq word.text (codes "nmu") ≡ false
        → bytes_eq word.text (codes "bp") ≡ false → bytes_eq word.text (codes "dw") ≡ false
        → ¬ IsVerbWord word
    none e f g k (inl is) = differs word.text (codes "gb") e is
    none e f g k (inr (inl is)) = differs word.text (codes "nmu") f is
    none e f g k (inr (inr (inl is))) = differs word.text (codes "bp") g is
    none e f g k (inr (inr (inr is))) = differs word.text (codes "dw") k is

    by : (a b c d : Bool) → bytes_eq word.text (codes "gb") ≡ a → bytes_eq word.text (codes "nmu")
        ≡ b → bytes_eq word.text (codes "bp") ≡ c → bytes_eq word.text (codes "dw") ≡ d
        → cond a (Ok (Gb, words))
        (cond b (rebuild_first end words)
        (cond c (priority_first end words)
        (cond d (Ok (Dw, words)) (Err (Wrong UnknownCommand word.place))))) ≡ Err fault
        → IsVerbFault end (word ∷ words) fault
    by true b c d e f g k h = absurd (not_both {A = Verb × List Word} (Gb, words) fault h)
    by false true c d e f g k h =
        inr (inr (rebuild_faulty end word words fault
        ((bytes_eq-Decides word.text (codes "nmu")).0 f) h))
    by false false true d e f g k h =
        inr (inl (priority_faulty end word words fault
        ((bytes_eq-Decides word.text (codes "bp")).0 g) h))
    by false false false true e f g k h =
        absurd (not_both {A = Verb × List Word} (Dw, words) fault h)
    by false false false false e f g k h =
        inl (inr (
          word,
          words,
          refl,
          none e f g k,
          sym (err_is {A = Verb × List Word} (Wrong UnknownCommand word.place) fault h),
        ))

no_verb : (end : End) (word : Word) (rest : List Word) → ¬ IsVerbWord word
    → verb_at end (word ∷ rest) ≡ Err (Wrong UnknownCommand word.place)
unfolding verb_from
no_verb end word rest other =
    rw (
      other_text word.text (codes "gb") (λ e. other (inl e)),
      other_text word.text (codes "nmu") (λ e. other (inr (inl e))),
      other_text word.text (codes "bp") (λ e. other (inr (inr (inl e)))),
      other_text word.text (codes "dw") (λ e. other (inr (inr (inr e)))),
    ) refl

verb_fails : (end : End) (words : List Word) (fault : CommandFault) → IsVerbFault end words fault
    → verb_at end words ≡ Err fault
unfolding verb_from
verb_fails end words fault (inl (inl (none, is))) =
    ap (verb_at end) none ∙ ap (λ (x : CommandFault). Err x) (sym is)
verb_fails end words fault (inl (inr (word, rest, joined, other, is))) =
    ap (verb_at end) joined ∙ no_verb end word rest other
    ∙ ap (λ (x : CommandFault). Err x) (sym is)
verb_fails end words fault (inr (inl (inl ((word, joined, text), is)))) =
    ap (verb_at end) joined ∙ rw text (ap (λ (x : CommandFault). Err x) (sym is))
verb_fails end words fault (inr (inl (inr (number, rest, (word, joined, text), none, is)))) =
    ap (verb_at end) joined
    ∙ rw text (ap (prioritized number rest) (no_priority number.text none)
    ∙ ap (λ (x : CommandFault). Err x) (sym is))
verb_fails end words fault (inr (inr (number, rest, (word, joined, text), begins, none, is))) =
    ap (verb_at end) joined
    ∙ rw text (rebuild_fails end number rest begins none
    ∙ ap (λ (x : CommandFault). Err x) (sym is))

pub verb_faults_are_exact : VerbFaultsAreExact
verb_faults_are_exact end words fault = (verb_faulty end words fault, verb_fails end words fault)

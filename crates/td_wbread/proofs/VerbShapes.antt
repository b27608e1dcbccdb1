-- A verb with its own words is read, and nothing else.
use Rattle.std.proofs.Common.{◌≡◌, ◌≢◌, ℕ, ◌<◌, ◌^◌, Bool, true, false, not, cond, eqb, ltb, leb}
use Rattle.std.proofs.Common.{◌&&◌, List, [], ◌∷◌, length, Option, Some, None, Ok, Err, codes, refl}
use Rattle.std.proofs.Common.{sym, ap, subst, ◌∙◌, inl, inr, arith, lit<}
use Rattle.std.specs.Prelude.{ℤ, pos}
use Rattle.std.specs.Char.{is_ascii_digit}
use Rattle.std.specs.List.{list_all}
use Rattle.std.specs.Str.{all_ascii_digits, bytes_eq}
use Rattle.std.specs.Str.Parse.{digits_value}
use Rattle.std.proofs.lemmas.Bool.{and_parts, and_from, eqb-false, ne_eqb, ltb-true, lt-ltb}
use Rattle.std.proofs.lemmas.Bool.{leb-true, le-leb}
use Rattle.std.proofs.lemmas.Fmt.{decimal_nonempty, digits_decimal}
use Rattle.std.proofs.lemmas.Slice.Eq.{bytes_eq-Decides}
use lib.IntN.{neg_ℤ}
use Rattle.td_text.specs.Chain.{◌>>=◌}
use Rattle.td_text.specs.Cut.{strip}
use Rattle.td_text.specs.Numbers.{number_at}
use Rattle.td_text.proofs.Chain.{chained, guard, ok_is, some_is, when_some}
use Rattle.td_text.proofs.Numbers.{decimal_model, number_exact}
use Rattle.td_text.proofs.Prefix.{strip_again, strip_found, strip_none}
use Rattle.td_wbread.specs.declared.command.Verb.{Verb}
use Rattle.td_wbread.specs.declared.command.Verb.TheVariants.{Gb, Nmu, Bp, Dw}
use Rattle.td_wbread.specs.declared.fault.CommandFault.{CommandFault}
use Rattle.td_wbread.specs.declared.fault.CommandFault.TheVariants.{Wrong}
use Rattle.td_wbread.specs.declared.fault.LineFault.TheVariants.{UnknownCommand, BadNumber}
use Rattle.td_wbread.specs.declared.word.Word.{Word}
use Rattle.td_wbread.specs.declared.word.End.{End}
use Rattle.td_wbread.specs.declared.word.End.TheVariants.{Closed, Open}
use Rattle.td_wbread.specs.Faults.{is_dot}
use Rattle.td_wbread.specs.VerbLaws.{AreDigits, BeginsWithNumber, GoesOn, IsDot, IsPriority}
use Rattle.td_wbread.specs.VerbLaws.{IsRebuildNumber, IsSize, IsVerb, VerbsAreExact}
use Rattle.td_wbread.specs.Verbs.{goes_on, is_digits, is_size, numbered, priority_after}
use Rattle.td_wbread.specs.Verbs.{priority_at, priority_first, prioritized, rebuild_first, size_at}
use Rattle.td_wbread.specs.Verbs.{verb_at, verb_from}

-- ---- numbers

all_digits : (text : List ℕ) → list_all is_ascii_digit text ≡ all_ascii_digits text
all_digits [] = refl
all_digits (x ∷ text) = ap (λ b. is_ascii_digit x && b) (all_digits text)

pub digits_are : (text : List ℕ) → is_digits text ≡ true → AreDigits text
digits_are text h =
    let p = and_parts (ltb 0 (length text)) (list_all is_ascii_digit text) h in
    record { some = ltb-true 0 (length text) p.0; digits = sym (all_digits text) ∙ p.1 }

pub digits_found : (text : List ℕ) → AreDigits text → is_digits text ≡ true
digits_found text d = rw (lt-ltb 0 (length text) d.some, all_digits text, d.digits) refl

size_is : (text : List ℕ) (n : ℕ) → size_at text ≡ Some n → IsSize text n
size_is text n h =
    let w = when_some (is_size text) (digits_value 10 text) n h in
    let p = and_parts (ltb 0 (length text))
    (all_ascii_digits text && leb (digits_value 10 text) 9999) w.0 in
    let q = and_parts (all_ascii_digits text) (leb (digits_value 10 text) 9999) p.1 in
    let is = w.1 in
    let le = leb-true (digits_value 10 text) 9999 q.1 in
    record {
      are_digits = record { some = ltb-true 0 (length text) p.0; digits = q.0 };
      value = is;
      bounded = omega arith;
    }

size_found : (text : List ℕ) (n : ℕ) → IsSize text n → size_at text ≡ Some n
size_found text n s = rw (
  lt-ltb 0 (length text) s.are_digits.some,
  s.are_digits.digits,
  s.value,
  le-leb n 9999 s.bounded,
) refl

pub priority_is : (text : List ℕ) (priority : ℤ) → priority_at text ≡ Some priority
    → IsPriority text priority
unfolding priority_at
priority_is text priority h = by (strip (codes "-") text) refl h
  where
    by : (o : Option (List ℕ)) → strip (codes "-") text ≡ o → priority_after text o ≡ Some priority
        → IsPriority text priority
    by None is g =
        let (n, size, same) = chained (size_at text) (λ n. Some (pos n)) priority g in
        (text, n, size_is text n size, inl (refl, sym (some_is (pos n) priority same)))
    by (Some digits) is g =
        let (n, size, same) = chained (size_at digits) (λ n. Some (neg_ℤ (pos n))) priority g in (
          digits,
          n,
          size_is digits n size,
          inr (
            strip_found (codes "-") text digits is,
            sym (some_is (neg_ℤ (pos n)) priority same),
          ),
        )

-- digits don't begin with a minus
unsigned : (size rest : List ℕ) → all_ascii_digits size ≡ true → size ≢ 45 ∷ rest
unsigned size rest digits is = let bad : all_ascii_digits (45 ∷ rest) ≡ true =
    ap all_ascii_digits (sym is) ∙ digits in cc

pub priority_found : (text : List ℕ) (priority : ℤ) → IsPriority text priority
    → priority_at text ≡ Some priority
unfolding priority_at
priority_found text priority (size, n, is, inl (written, value)) =
    let none : strip (codes "-") text ≡ None = ap (strip (codes "-")) written
    ∙ strip_none (codes "-") size (λ rest e. unsigned size rest is.are_digits.digits e) in
    ap (priority_after text) none ∙ ap (λ t. size_at t >>= λ m. Some (pos m)) written
    ∙ ap (λ o. o >>= λ m. Some (pos m)) (size_found size n is) ∙ ap Some (sym value)
priority_found text priority (size, n, is, inr (written, value)) =
    let some : strip (codes "-") text ≡ Some size = ap (strip (codes "-")) written
    ∙ strip_again (codes "-") size in
    ap (priority_after text) some ∙ ap (λ o. o >>= λ m. Some (neg_ℤ (pos m))) (size_found size n is)
    ∙ ap Some (sym value)

-- ---- `bp`

priority_words : (end : End) (word : Word) (words : List Word) (verb : Verb) (rest : List Word)
    → word.text ≡ codes "bp" → priority_first end words ≡ Ok (verb, rest)
    → IsVerb end (word ∷ words) verb rest
priority_words end word [] verb rest is h = absurd cc
priority_words end word (number ∷ words) verb rest is h = by (priority_at number.text) refl h
  where
    by : (o : Option ℤ) → priority_at number.text ≡ o → prioritized number words o ≡ Ok (verb, rest)
        → IsVerb end (word ∷ number ∷ words) verb rest
    by None e g = absurd cc
    by (Some priority) e g =
        let same = ok_is CommandFault (Bp priority, words) (verb, rest) g in
        subst (λ (p : Verb × List Word). IsVerb end (word ∷ number ∷ words) p.0 p.1) same
        (number, (word, refl, is), priority_is number.text priority e)

-- ---- `nmu`

dot_is : (word : Word) → is_dot word ≡ true → IsDot word
dot_is word h =
    let p = and_parts word.is_bare (bytes_eq word.text (codes ".")) h in
    (p.0, (bytes_eq-Decides word.text (codes ".")).0 p.1)

dot_found : (word : Word) → IsDot word → is_dot word ≡ true
dot_found word d = and_from word.is_bare (bytes_eq word.text (codes ".")) d.0
    ((bytes_eq-Decides word.text (codes ".")).1 d.1)

pub on_is : (end : End) (words : List Word) → goes_on end words ≡ true → GoesOn end words
on_is (Closed place) [] h = absurd cc
on_is (Open place) [] h = tt
on_is (Closed place) (word ∷ words) h = λ dot. let e = ap not (dot_found word dot) in cc
on_is (Open place) (word ∷ words) h = λ dot. let e = ap not (dot_found word dot) in cc

other_word : (word : Word) (b : Bool) → is_dot word ≡ b → (IsDot word → ⊥) → not b ≡ true
other_word word true e other = absurd (other (dot_is word e))
other_word word false e other = refl

pub on_found : (end : End) (words : List Word) → GoesOn end words → goes_on end words ≡ true
on_found (Closed place) [] h = absurd h
on_found (Open place) [] h = refl
on_found (Closed place) (word ∷ words) h = other_word word (is_dot word) refl h
on_found (Open place) (word ∷ words) h = other_word word (is_dot word) refl h

number_words : (end : End) (word number : Word) (words : List Word) (verb : Verb) (rest : List Word)
    (o : Option ℕ) → word.text ≡ codes "nmu" → GoesOn end words → number_at 9999 number.text ≡ o
    → numbered number words o ≡ Ok (verb, rest)
    → IsVerb end (word ∷ number ∷ words) verb rest
number_words end word number words verb rest None is on e h = absurd cc
number_words end word number words verb rest (Some n) is on e h =
    let g = guard (eqb n 0) (Wrong BadNumber number.place) (Ok (Nmu (Some n), words))
    (verb, rest) h in
    let some : n ≢ 0 = eqb-false n 0 g.0 in
    let written = (number_exact 9999 (lit< tt)).found number.text n e in
    let same = ok_is CommandFault (Nmu (Some n), words) (verb, rest) g.1 in
    subst (λ (p : Verb × List Word). IsVerb end (word ∷ number ∷ words) p.0 p.1) same (
      number,
      (word, refl, is),
      record { written = written.0; positive = omega arith; bounded = written.1 },
      on,
    )

rebuild_words : (end : End) (word : Word) (words : List Word) (verb : Verb) (rest : List Word)
    → word.text ≡ codes "nmu" → rebuild_first end words ≡ Ok (verb, rest)
    → IsVerb end (word ∷ words) verb rest
rebuild_words end word [] verb rest is h =
    let same = ok_is CommandFault (Nmu None, []) (verb, rest) h in
    subst (λ (p : Verb × List Word). IsVerb end (word ∷ []) p.0 p.1) same
    ((word, refl, is), λ none. none)
rebuild_words end word (number ∷ words) verb rest is h =
    by (is_digits number.text && goes_on end words) refl h
  where
    by : (b : Bool) → (is_digits number.text && goes_on end words) ≡ b
        → cond b (numbered number words (number_at 9999 number.text)) (Ok
        (Nmu None, number ∷ words)) ≡ Ok (verb, rest) → IsVerb end (word ∷ number ∷ words) verb rest
    by true e g = number_words end word number words verb rest (number_at 9999 number.text) is
        (on_is end words (and_parts (is_digits number.text) (goes_on end words) e).1) refl g
    by false e g =
        let same = ok_is CommandFault (Nmu None, number ∷ words) (verb, rest) g in
        let none : BeginsWithNumber end (number ∷ words) → ⊥ = λ begins. let both =
        and_from (is_digits number.text) (goes_on end words) (digits_found number.text begins.0)
        (on_found end words begins.1) in cc in
        subst (λ (p : Verb × List Word). IsVerb end (word ∷ number ∷ words) p.0 p.1) same
        ((word, refl, is), none)

bare_found : (end : End) (rest : List Word) → (BeginsWithNumber end rest → ⊥)
    → rebuild_first end rest ≡ Ok (Nmu None, rest)
bare_found end [] none = refl
bare_found end (number ∷ words) none = by (is_digits number.text && goes_on end words) refl
  where
    by : (b : Bool) → (is_digits number.text && goes_on end words) ≡ b
        → cond b (numbered number words (number_at 9999 number.text))
        (Ok (Nmu None, number ∷ words)) ≡ Ok (Nmu None, number ∷ words)
    by true e = let p = and_parts (is_digits number.text) (goes_on end words) e in
        absurd (none (digits_are number.text p.0, on_is end words p.1))
    by false e = refl

number_found : (end : End) (number : Word) (rest : List Word) (n : ℕ)
    → IsRebuildNumber number.text n → GoesOn end rest
    → rebuild_first end (number ∷ rest) ≡ Ok (Nmu (Some n), rest)
number_found end number rest n is on =
    let le = is.bounded in
    let ge = is.positive in
    let small : n < 2 ^ 64 = omega arith in
    let digits : AreDigits number.text = subst AreDigits (sym is.written)
    (record { some = decimal_nonempty n small; digits = digits_decimal decimal_model n small }) in
    let read : number_at 9999 number.text ≡ Some n = ap (number_at 9999) is.written
    ∙ (number_exact 9999 (lit< tt)).again n le in
    rw (digits_found number.text digits, on_found end rest on, read, ne_eqb n 0 (λ e. omega arith))
    refl

-- ---- the verb

verb_is : (end : End) (words : List Word) (verb : Verb) (rest : List Word)
    → verb_at end words ≡ Ok (verb, rest) → IsVerb end words verb rest
unfolding verb_from
verb_is end [] verb rest h = absurd cc
verb_is end (word ∷ words) verb rest h =
    by (bytes_eq word.text (codes "gb")) (bytes_eq word.text (codes "nmu"))
    (bytes_eq word.text (codes "bp")) (bytes_eq word.text (codes "dw")) refl refl refl refl h
  where
    says : (text : List ℕ) → bytes_eq word.text text ≡ true → word.text ≡ text
    says text e = (bytes_eq-Decides word.text text).0 e

    by : (a b c d : Bool) → bytes_eq word.text (codes "gb") ≡ a → bytes_eq word.text (codes "nmu")
        ≡ b → bytes_eq word.text (codes "bp") ≡ c → bytes_eq word.text (codes "dw") ≡ d
        → cond a (Ok (Gb, words))
        (cond b (rebuild_first end words)
        (cond c (priority_first end words)
        (cond d (Ok (Dw, words)) (Err (Wrong UnknownCommand word.place))))) ≡ Ok (verb, rest)
        → IsVerb end (word ∷ words) verb rest
    by true b c d e f g k h =
        let same = ok_is CommandFault (Gb, words) (verb, rest) h in
        subst (λ (p : Verb × List Word). IsVerb end (word ∷ words) p.0 p.1) same
        (word, refl, says (codes "gb") e)
    by false true c d e f g k h = rebuild_words end word words verb rest (says (codes "nmu") f) h
    by false false true d e f g k h = priority_words end word words verb rest
        (says (codes "bp") g) h
    by false false false true e f g k h =
        let same = ok_is CommandFault (Dw, words) (verb, rest) h in
        subst (λ (p : Verb × List Word). IsVerb end (word ∷ words) p.0 p.1) same
        (word, refl, says (codes "dw") k)
    by false false false false e f g k h = absurd cc

verb_found : (end : End) (words : List Word) (verb : Verb) (rest : List Word)
    → IsVerb end words verb rest → verb_at end words ≡ Ok (verb, rest)
unfolding verb_from
verb_found end words Gb rest (word, is, text) = ap (verb_at end) is ∙ rw text refl
verb_found end words (Nmu None) rest ((word, is, text), none) = ap (verb_at end) is
    ∙ rw text (bare_found end rest none)
verb_found end words (Nmu (Some n)) rest (number, (word, is, text), written, on) =
    ap (verb_at end) is ∙ rw text (number_found end number rest n written on)
verb_found end words (Bp priority) rest (number, (word, is, text), written) = ap (verb_at end) is
    ∙ rw text (ap (prioritized number rest) (priority_found number.text priority written))
verb_found end words Dw rest (word, is, text) = ap (verb_at end) is ∙ rw text refl

pub verbs_exact : VerbsAreExact
verbs_exact = λ end words verb rest. (verb_is end words verb rest, verb_found end words verb rest)

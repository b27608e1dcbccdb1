-- The rules of atoms.
use Rattle.std.proofs.Common.{◌≡◌, ◌≢◌, ℕ, zero, suc, ◌<◌, true, false, eqb, List, [], ◌∷◌, ◌++◌}
use Rattle.std.proofs.Common.{length}
use Rattle.std.proofs.Common.{Option, None, Ok, Err, refl, ap, ◌∙◌, subst, inl, inr, arith}
use Rattle.std.specs.Prelude.{codes}
use Rattle.std.proofs.lemmas.Bool.{ne_eqb}
use Rattle.std.proofs.lemmas.Bool.Decides.{eqb_tells}
use Rattle.td_text.specs.Cut.{strip}
use Rattle.td_text.specs.Lines.{on_ok}
use Rattle.td_text.specs.Runs.{run}
use Rattle.td_query.specs.AtomRules.{FalseIsRead, IsTested, IsWord, PatternsAreRead, TextsAreRead}
use Rattle.td_query.specs.AtomRules.{TrueIsRead}
use Rattle.td_query.specs.Query.{always}
use Rattle.td_query.specs.QueryGrammar.{Log, atom, closed, dotted, field_atom, negating, not_in}
use Rattle.td_query.specs.QueryGrammar.{or_else, or_with, quote_atom, quoted, slash_atom, tested}
use Rattle.td_query.specs.QueryGrammar.{tilde_atom, tilded, word_atom}
use Rattle.td_query.specs.Tokens.{is_key_byte, skipped}

-- a part that begins with neither a `!` nor a `(` is an atom
at_atom : (depth : ℕ) (log : Log) (t : List ℕ) → strip (codes "!") (skipped t) ≡ None
    → strip (codes "(") (skipped t) ≡ None → not_in depth log t ≡ atom log (skipped t)
unfolding not_in
at_atom zero log t bang bracket =
    ap (λ (o : Option (List ℕ)). or_else o (λ u. Err (length (skipped t), log))
    (or_else (strip (codes "(") (skipped t)) (λ u. Err (length (skipped t), log))
    (atom log (skipped t)))) bang
    ∙ ap (λ (o : Option (List ℕ)). or_else o (λ u. Err (length (skipped t), log))
    (atom log (skipped t))) bracket
at_atom (suc depth) log t bang bracket =
    ap (λ (o : Option (List ℕ)). or_else o (λ u. on_ok (not_in depth log u) negating)
    (or_else (strip (codes "(") (skipped t)) (λ u. on_ok (or_with (not_in depth) log u) closed)
    (atom log (skipped t)))) bang
    ∙ ap (λ (o : Option (List ℕ)). or_else o (λ u. on_ok (or_with (not_in depth) log u) closed)
    (atom log (skipped t))) bracket

-- ---- words

-- a word begins with no mark
no_mark : (mark : ℕ) (t : List ℕ) → is_key_byte mark ≡ false → 0 < length (run is_key_byte t)
    → strip (mark ∷ []) t ≡ None
unfolding strip
no_mark mark [] other some = refl
no_mark mark (x ∷ t) other some =
    elim (eqb_tells mark x) [
      | inl is ↦ (let no : is_key_byte x ≡ false =
          subst (λ (b : ℕ). is_key_byte b ≡ false) is.1 other in
          let none : length (run is_key_byte (x ∷ t)) ≡ 0 = rw no refl in
          absurd (omega arith))
      | inr differs ↦ rw differs.0 refl
    ]

word_read : (depth : ℕ) (log : Log) (t : List ℕ) → 0 < length (run is_key_byte (skipped t))
    → not_in depth log t ≡ word_atom log (skipped t)
unfolding atom
word_read depth log t some =
    at_atom depth log t (no_mark 33 (skipped t) refl some) (no_mark 40 (skipped t) refl some)
    ∙ ap (dotted log (skipped t)) (no_mark 46 (skipped t) refl some)

true_word : (log : Log) (t rest : List ℕ) → IsWord (codes "true") t rest
    → word_atom log t ≡ Ok (always true, log, rest)
unfolding word_atom
true_word log t rest is = rw (is.0, is.1) refl

false_word : (log : Log) (t rest : List ℕ) → IsWord (codes "false") t rest
    → word_atom log t ≡ Ok (always false, log, rest)
unfolding word_atom
false_word log t rest is = rw (is.0, is.1) refl

pub true_is_read : TrueIsRead
true_is_read depth log t rest is =
    let some : 0 < length (run is_key_byte (skipped t)) = rw is.0 (omega arith) in
    word_read depth log t some ∙ true_word log (skipped t) rest is

pub false_is_read : FalseIsRead
false_is_read depth log t rest is =
    let some : 0 < length (run is_key_byte (skipped t)) = rw is.0 (omega arith) in
    word_read depth log t some ∙ false_word log (skipped t) rest is

-- ---- fields

named : (log : Log) (u name v : List ℕ) → IsWord name u v → 0 < length name
    → field_atom log u ≡ tilde_atom log name v
unfolding field_atom
named log u name v is some =
    let filled : length name ≢ 0 = omega arith in
    let full : eqb (length name) 0 ≡ false = ne_eqb (length name) 0 filled in
    rw (is.0, is.1, full) refl

field_read : (depth : ℕ) (log : Log) (t name w : List ℕ) → IsTested name t w
    → not_in depth log t ≡ tested log name w
unfolding atom strip tilde_atom
field_read depth log t name w is =
    at_atom depth log t (ap (strip (codes "!")) is.2) (ap (strip (codes "(")) is.2)
    ∙ ap (λ (at : List ℕ). dotted log at (strip (codes ".") at)) is.2
    ∙ named log is.0 name is.1 is.3 is.4
    ∙ ap (λ (at : List ℕ). tilded log name (length at) (strip (codes "~") at)) is.5

pub texts_are_read : TextsAreRead
unfolding strip tested
texts_are_read depth log t v w name s rest is here closes =
    field_read depth log t name v is
    ∙ ap (λ (at : List ℕ). quoted log name at (strip (codes "\"") at)) here
    ∙ ap (quote_atom log name) closes

pub patterns_are_read : PatternsAreRead
unfolding strip tested slash_atom
patterns_are_read depth log t v w name raw rest is here closes =
    field_read depth log t name v is
    ∙ ap (λ (at : List ℕ). quoted log name at (strip (codes "\"") at)) here
    ∙ ap (slash_atom log name (length (codes "/" ++ w))) closes

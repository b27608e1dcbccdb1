-- `gather`: its loop and the clauses `fault` and `found`.
use Rattle.std.proofs.Common.{◌≡◌, false, true, eqb, ℕ, List, [], ◌∷◌, ◌++◌, ◌+◌, length, ap, sym}
use Rattle.std.proofs.Common.{◌∙◌, rules, arith}
use Rattle.td_text.proofs.Empty.{some_text, length_some, no_text}
use Rattle.td_text.proofs.Ended.{ended-next, ended-empty}
use Rattle.td_text.proofs.SpelledLines.{AreRead-push, AreRead-all, AreRead-other}
use Rattle.td_journal.specs.Endings.{outcome_text}
use Rattle.td_book.specs.Deeds.{code_of}
use Rattle.td_builder.specs.declared.key_line.KeyLine.{KeyLine}
use Rattle.td_text.specs.Lines.{lines_of, ended}
use Rattle.td_builder.specs.OutcomeLines.{FaultOf, OutcomeFits, outcome_line}
use Rattle.td_builder.specs.OutcomeReading.{outcome_line_at}
use Rattle.td_builder.specs.Unused.{with_line}
use Rattle.td_builder.proofs.KeyLists.{numbered-push, texts-push, length-texts, length-push}
use Rattle.td_builder.proofs.OutcomeLists.{told-fault, told-read}
use Rattle.td_builder.proofs.OutcomeTexts.{lines_exact}
use Rattle.td_builder.proofs.outcomes.gather.Goals as goal

pub returns-in_err-key-clause-fault : goal.returns-in_err-key-clause-fault
returns-in_err-key-clause-fault c =
    let h = c.loop-rest.invariant in
    let filled : eqb (length c.loop-rest.rest.now) 0 ≡ false = search rules in
    let next = ended-next c.loop-rest.rest.now c.next_line.result.0.now c.next_line.result.1
    c.next_line.ensures.lines c.next_line.ensures.text (some_text c.loop-rest.rest.now filled) in
    let lines = ended (lines_of c.args.text.now) in
    let fault : FaultOf lines c.in_err-key.field-0.0 =
    told-fault lines c.read_outcome_line-read.result (c.len.result + 1) c.in_err-key.field-0.0 _
    c.read_outcome_line-read.ensures (sym c.told.ensures ∙ c.in_err-key.was)
    (λ none. AreRead-other outcome_line_at outcome_line OutcomeFits lines_exact 1
    (c.len.result + 1) lines h.os c.next_line.result.0.now _ _ h.read next none
    (omega (arith, c.len.ensures, ap length h.texts, length-texts h.os))) in
    search rules

pub loop-rest-preserved : goal.loop-rest-preserved
loop-rest-preserved c =
    let h = c.loop-rest.invariant in
    let filled : eqb (length c.loop-rest.rest.now) 0 ≡ false = search rules in
    let some = some_text c.loop-rest.rest.now filled in
    let next = ended-next c.loop-rest.rest.now c.next_line.result.0.now c.next_line.result.1
    c.next_line.ensures.lines c.next_line.ensures.text some in
    let count : 0 + length h.os ≡ length c.loop-rest.gathered.texts.items =
    omega (arith, ap length h.texts, length-texts h.os) in
    let line : KeyLine = record {
      code = code_of c.in_ok-key.outcome;
      line = length c.loop-rest.gathered.texts.items;
    } in
    record {
      os = h.os ++ (c.in_ok-key.key, c.in_ok-key.outcome) ∷ [];
      read = AreRead-push outcome_line_at outcome_line OutcomeFits lines_exact _ h.os
          (c.in_ok-key.key, c.in_ok-key.outcome) c.next_line.result.0.now _ _ h.read
          (next ∙ ap (λ (l : List (List ℕ)). c.next_line.result.0.now ∷ l)
          (sym c.behind-rest.ensures.lines))
          (told-read c.read_outcome_line-read.result (c.len.result + 1)
          (c.in_ok-key.key, c.in_ok-key.outcome) _ c.read_outcome_line-read.ensures
          (sym c.told.ensures ∙ c.in_ok-key.was));
      texts = c.in-Ok.ensures.texts
          ∙ ap (λ (l : List (List ℕ)). l ++ outcome_text c.in_ok-key.outcome ∷ []) h.texts
          ∙ sym (texts-push h.os (c.in_ok-key.key, c.in_ok-key.outcome));
      lines = λ k. c.in-Ok.ensures.lines k ∙ ap (with_line k c.in_ok-key.key line) (h.lines k)
          ∙ sym (numbered-push k 0 (length c.loop-rest.gathered.texts.items) h.os
          (c.in_ok-key.key, c.in_ok-key.outcome) count);
      small = omega (
        arith,
        h.small,
        c.behind-rest.ensures.shorter,
        c.next_line.ensures.shorter,
        length_some c.loop-rest.rest.now some,
        length-push h.os (c.in_ok-key.key, c.in_ok-key.outcome),
      );
      utf8 = search rules;
    }

pub returns-clause-found : goal.returns-clause-found
returns-clause-found c =
    let h = c.loop-rest.invariant in
    let none : eqb (length c.loop-rest.rest.now) 0 ≡ true = search rules in (
      h.os,
      AreRead-all outcome_line_at outcome_line OutcomeFits lines_exact _ h.os _ h.read
          (ended-empty c.loop-rest.rest.now (no_text c.loop-rest.rest.now none)),
      h.texts,
      h.lines,
    )

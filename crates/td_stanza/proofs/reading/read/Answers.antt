-- `read`: the clauses `fault` and `found`, its loop, its calls and its type's invariant.
use Rattle.std.proofs.Common.{◌≡◌, ◌++◌, drop, true, ap, arith, rules, sym, ◌∙◌, inr, length, is_ok}
use Rattle.std.proofs.lemmas.Result.{err_from_is_err_and}
use Rattle.td_text.specs.Lines.{left_text, left_len}
use Rattle.td_stanza.proofs.Continued.{skips_shorter}
use Rattle.td_stanza.proofs.NotedNames.{noted_none, noted_from}
use Rattle.td_stanza.proofs.Progress.{read_nothing, read_separator, read_field, read_fault}
use Rattle.td_stanza.proofs.Progress.{read_whole, first_within, where_ok, table_of}
use Rattle.td_stanza.proofs.reading.read.Goals as goal

pub loop-rest-init : goal.loop-rest-init
loop-rest-init c =
    rw (c.in-Ok.ensures.fields, c.in-Ok.ensures.starts)
    (read_nothing c.args.text, c.new-names.ensures)

pub loop-rest-preserved-then-is_separator : goal.loop-rest-preserved-then-is_separator
loop-rest-preserved-then-is_separator c =
    let len : c.len-first.result ≡ length c.loop-rest.fields.items = search rules in (
      rw len (read_separator _ c.loop-rest.rest _ _ _ c.in-Some.here _ _ c.loop-rest.invariant.0
          c.in-Some.is c.next_line.ensures.lines c.next_line.ensures.text
          (sym c.is_separator.ensures ∙ c.if-is_separator.true)),
      noted_none c.new-names-then-is_separator.result c.loop-rest.fields.items c.len-first.result
          len c.new-names-then-is_separator.ensures,
    )

pub split_at-requires : goal.split_at-requires
split_at-requires c = rw c.as_slice.ensures.value (first_within _ _ _ _ _ c.loop-rest.invariant.0)

pub returns-in_err-name-clause-fault : goal.returns-in_err-name-clause-fault
returns-in_err-name-clause-fault c =
    let p = err_from_is_err_and c.from_residual.result c.from_residual.ensures.1 in
    let slice_is = c.split_at.ensures.back ∙ ap (drop c.loop-rest.first) c.as_slice.ensures.value in
    rw (
      p.1,
      p.2,
    ) (inr (read_fault _ c.loop-rest.rest _ _ _ c.in-Some.here c.next_line.result.0.now
    c.next_line.result.1 c.in_err-name.field-0.0 _ c.loop-rest.invariant.0 c.in-Some.is
    c.next_line.ensures.lines slice_is c.in_err-name.ensures.err))

pub loop-rest-smaller : goal.loop-rest-smaller
loop-rest-smaller c =
    let named = c.in_ok-name.ensures.ok in
    let taken = c.take_field.ensures.taken named.rest
    (c.next_line.ensures.text ∙ ap (λ l. l ++ left_text c.next_line.result.1) named.parts) in
    omega (arith, ap left_len c.in-Some.is, skips_shorter _ _ taken.skips)

pub loop-rest-preserved : goal.loop-rest-preserved
loop-rest-preserved c =
    let named = c.in_ok-name.ensures.ok in
    let taken = c.take_field.ensures.taken named.rest
    (c.next_line.ensures.text ∙ ap (λ l. l ++ left_text c.next_line.result.1) named.parts) in
    let slice_is = c.split_at.ensures.back ∙ ap (drop c.loop-rest.first) c.as_slice.ensures.value in
    let ok : is_ok c.add.result ≡ true = search rules in
    let noted : is_ok c.note.result ≡ true = search rules in
    let kept = where_ok _ _ noted c.note.ensures.noted c.take_field.result.0 taken.name_is in
    let within = first_within _ _ _ _ _ c.loop-rest.invariant.0 in
    let read = read_field _ c.loop-rest.rest _ _ _ _ _ c.in-Some.here _ _ _ _ c.take_field.result.0
    c.loop-rest.invariant.0 c.in-Some.is c.next_line.ensures.lines c.next_line.ensures.text _
    slice_is named taken c.take_field.ensures.ended (where_ok _ _ ok c.add.ensures.fields)
    (where_ok _ _ ok c.add.ensures.starts) in (
      read,
      noted_from c.note.new.self c.loop-rest.fields.items _ _ c.loop-rest.first
          c.take_field.result.0 within slice_is (where_ok _ _ ok c.add.ensures.fields) kept,
    )

pub returns-clause-found : goal.returns-clause-found
returns-clause-found c = read_whole _ c.loop-rest.rest _ _ _ c.loop-rest.invariant.0 c.in_default-rest.is

pub invariant_of-result : goal.invariant_of-result
invariant_of-result c = table_of _ c.loop-rest.rest _ _ _ c.loop-rest.invariant.0

-- `opening_row`: the clauses `err`, `ok` and `fresh` and the calls of `key` and `row`.
use Rattle.std.proofs.Common.{sym, ◌∙◌}
use Rattle.td_rows.specs.RowText.{row_of_text}
use Rattle.td_rows.proofs.StateTexts.{line_lacks_newlines, names-contains, row_of-unnamed}
use Rattle.td_rows.proofs.StateTexts.{add_row-twice, add_row-building, add_row-many, add_row-ok}
use Rattle.td_rows.proofs.state_reading.opening_row.Goals as goal

pub key-requires-clause-source : goal.key-requires-clause-source
key-requires-clause-source c =
    (line_lacks_newlines _ (row_of_text c.in-Some.text) c.requires c.in-Some.ensures).source

pub key-requires-clause-arch : goal.key-requires-clause-arch
key-requires-clause-arch c =
    (line_lacks_newlines _ (row_of_text c.in-Some.text) c.requires c.in-Some.ensures).arch

pub row-requires-clause-extra : goal.row-requires-clause-extra
row-requires-clause-extra c =
    (line_lacks_newlines _ (row_of_text c.in-Some.text) c.requires c.in-Some.ensures).extra

pub row-requires-clause-dep_wait : goal.row-requires-clause-dep_wait
row-requires-clause-dep_wait c =
    (line_lacks_newlines _ (row_of_text c.in-Some.text) c.requires c.in-Some.ensures).dep_wait

pub returns-then-contains_key-clause-err : goal.returns-then-contains_key-clause-err
returns-then-contains_key-clause-err c =
    add_row-twice c.args.number _ c.args.line.now (row_of_text c.in-Some.text)
    c.in-Some.ensures c.in-Ok.key c.in-Ok.ensures c.contains_key.result c.contains_key.ensures
    c.if-contains_key.true

pub returns-then-is_building-clause-err : goal.returns-then-is_building-clause-err
returns-then-is_building-clause-err c =
    add_row-building c.args.number _ c.args.line.now (row_of_text c.in-Some.text)
    c.in-Some.ensures c.in-Ok.key c.in-Ok.ensures c.contains_key.result c.contains_key.ensures
    c.if-contains_key.false (sym c.is_building.ensures ∙ c.if-is_building.true)

pub returns-then-len-eq-MAX_ROWS-clause-err : goal.returns-then-len-eq-MAX_ROWS-clause-err
returns-then-len-eq-MAX_ROWS-clause-err c =
    add_row-many c.args.number _ c.args.line.now (row_of_text c.in-Some.text)
    c.in-Some.ensures c.in-Ok.key c.in-Ok.ensures c.contains_key.result c.contains_key.ensures
    c.if-contains_key.false (sym c.is_building.ensures ∙ c.if-is_building.false)
    (sym c.len.ensures.len ∙ c.if-len-eq-MAX_ROWS.true)

pub returns-clause-ok : goal.returns-clause-ok
returns-clause-ok c =
    add_row-ok c.args.number _ c.args.line.now (row_of_text c.in-Some.text)
    c.in-Some.ensures c.in-Ok.key c.in-Ok.ensures c.contains_key.result c.contains_key.ensures
    c.in-Ok-row.row c.in-Ok-row.ensures c.if-contains_key.false
    (sym c.is_building.ensures ∙ c.if-is_building.false)
    (λ full. c.if-len-eq-MAX_ROWS.false (c.len.ensures.len ∙ full))

pub returns-clause-fresh : goal.returns-clause-fresh
returns-clause-fresh c =
    let seen = c.args.rows.now.entries in
    row_of-unnamed seen c.in-Ok.key
    (names-contains seen c.in-Ok.key c.contains_key.result c.contains_key.ensures
    ∙ c.if-contains_key.false)

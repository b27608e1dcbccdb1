-- `name_at`: the clauses `err` and `ok`.
use Rattle.std.proofs.Common.{◌≡◌, true, false, eqb, length, sym, ◌∙◌, rules}
use Rattle.td_stanza.proofs.Naming.{colon_rest, has_name-shown}
use Rattle.td_stanza.specs.Field.{is_field_name}
use Rattle.td_stanza.proofs.reading.name_at.Goals as goal

pub returns-then-has-clause-err : goal.returns-then-has-clause-err
returns-then-has-clause-err c =
    let some : eqb (length c.front_name-is_name.result.1.now) 0 ≡ false = search rules in
    let named : is_field_name c.front_name-is_name.result.0.now ≡ true = search rules in
    let r = colon_rest c.args.line.now c.front_name-is_name.result.0.now
    c.front_name-is_name.result.1.now
    c.front_name-is_name.ensures.value c.front_name-is_name.ensures.joined some in (
      c.line_number-then-has.ensures,
      c.front_name-is_name.result.0.now,
      r.0,
      r.1,
      named,
      sym (has_name-shown c.args.fields.now c.front_name-is_name.result.0.now) ∙ sym c.has.ensures
          ∙ c.if-has.true,
    )

pub returns-clause-ok : goal.returns-clause-ok
returns-clause-ok c =
    let some : eqb (length c.front_name-is_name.result.1.now) 0 ≡ false = search rules in
    let named : is_field_name c.front_name-is_name.result.0.now ≡ true = search rules in
    let r = colon_rest c.args.line.now c.front_name-is_name.result.0.now
    c.front_name-is_name.result.1.now
    c.front_name-is_name.ensures.value c.front_name-is_name.ensures.joined some in
    record {
      rest = r.0;
      parts = r.1;
      named = named;
      distinct = sym (has_name-shown c.args.fields.now c.front_name-is_name.result.0.now)
          ∙ sym c.has.ensures ∙ c.if-has.false;
    }

-- `front_name`: the clauses `value` and `named` where a name stands before a colon.
use Rattle.std.proofs.Common.{◌≡◌, ◌∙◌, ap, eqb, false, get_or, length, rules, sym}
use Rattle.td_text.specs.Runs.{behind}
use Rattle.td_stanza.specs.Field.{is_field_name, is_name_byte}
use Rattle.td_stanza.proofs.Naming.{begins_so, front_named, front_parts}
use Rattle.td_stanza.proofs.name.front_name.Goals as goal

pub returns-then-after-eq58-clause-value : goal.returns-then-after-eq58-clause-value
returns-then-after-eq58-clause-value c =
    let line = c.args.line.now in
    let some : eqb (length (behind is_name_byte line)) 0 ≡ false = search rules in
    let colon : get_or (behind is_name_byte line) 0 0 ≡ 58 = search rules in
    rw (c.name_run.ensures.run, c.name_run.ensures.behind) (front_parts line some colon)

pub returns-then-after-eq58-clause-named : goal.returns-then-after-eq58-clause-named
returns-then-after-eq58-clause-named c =
    let line = c.args.line.now in
    c.begins_name.ensures ∙ ap begins_so (c.as_bytes.ensures.value ∙ c.name_run.ensures.run)
    ∙ front_named line ∙ ap is_field_name (sym c.name_run.ensures.run)

-- The rows of a book come after the answers.
use Rattle.std.proofs.Common.{ap, refl, ◌∙◌}
use Rattle.std.specs.Prelude.{string_bytes}
use Rattle.td_rows.specs.StateWriting.{state_text}
use Rattle.td_script.specs.declared.told.Told.{Told}
use Rattle.td_crew.proofs.Endings.{rows_put}
use Rattle.td_crew.proofs.telling.tell_rows.Goals as goal

pub returns : goal.returns
returns c =
    let now : Told = record { text = c.push_str-2.new.self; refused = c.args.told.refused } in
    rows_put c.args.told now c.args.book.now.history (string_bytes c.push_str.new.self)
    c.as_str.result.now c.rows.ensures.lawful
    c.in_ok-push_str-2.ensures.bytes c.in_ok-push_str.ensures.bytes
    (c.as_str.ensures.value ∙ c.in_ok-rows.ensures ∙ ap state_text c.rows.ensures.rows) refl

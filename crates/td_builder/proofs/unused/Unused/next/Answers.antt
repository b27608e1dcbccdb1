-- `Unused::next`: the clause `taken`.
use Rattle.std.proofs.Common.{rules, ◌<◌, length, refl, ap, ◌∙◌}
use Rattle.std.specs.Prelude.{slice_index_or}
use Rattle.std.proofs.lemmas.Option.{slice_get-get_or, slice_get_read}
use Rattle.td_board.specs.declared.outcome.OutcomeCode.TheVariants.{Built}
use Rattle.td_builder.specs.declared.key_line.KeyLine.{KeyLine}
use Rattle.td_builder.specs.Unused.{outcome_of}
use Rattle.td_builder.proofs.unused.Unused.next.Goals as goal

pub returns-clause-taken : goal.returns-clause-taken
returns-clause-taken c =
    let n = c.index-used.result.now in
    let none : KeyLine = record { code = Built; line = 0 } in
    let line : KeyLine = slice_index_or c.args.lines.now n none in
    let slot_within : c.args.slot < length c.args.self.now.used.items = search rules in
    let line_within : n < length c.args.lines.now = search rules in
    let text_within : line.line < length c.args.self.now.texts.items = search rules in
    record {
      next = record {
        number = n;
        line = line;
        text = c.index_mut.result.now;
        used_at = slice_get_read c.args.self.now.used.items _ c.args.slot n refl slot_within
            c.index-used.ensures;
        line_at = slice_get-get_or c.args.lines.now n none line_within;
        text_at = slice_get_read c.args.self.now.texts.items _ line.line c.index_mut.result.now refl
            text_within c.index_mut.ensures.value;
      };
      outcome = c.outcome_of.ensures ∙ ap (outcome_of line.code) c.replace-text.ensures.value;
      counted = search rules;
      moved = search rules;
    }

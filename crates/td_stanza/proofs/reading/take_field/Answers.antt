-- `take_field`: the clause `taken` and the calls of `split_at` and `text_before`.
use Rattle.std.proofs.Common.{◌++◌, refl, sym, ap, ◌∙◌, append_assoc}
use Rattle.td_text.specs.Lines.{left_text}
use Rattle.td_stanza.specs.Value.{after_newlines, trimmed}
use Rattle.td_stanza.proofs.Naming.{tail_is, after_colon, raw_is}
use Rattle.td_stanza.proofs.reading.take_field.Goals as goal

pub split_at-requires : goal.split_at-requires
split_at-requires c =
    after_colon c.args.here.now c.args.name.now c.requires.0 (left_text c.args.after) c.utf8.here
    c.requires.1

pub text_before-requires : goal.text_before-requires
text_before-requires c = (
  c.requires.0 ++ after_newlines c.skip_continuations-rest.ensures.skips.more,
  c.split_at.ensures.back
      ∙ tail_is c.args.here.now c.args.name.now c.requires.0 (left_text c.args.after) c.requires.1
      ∙ ap (λ l. c.requires.0 ++ l) c.skip_continuations-rest.ensures.skips.text
      ∙ sym (append_assoc c.requires.0 (after_newlines c.skip_continuations-rest.ensures.skips.more)
      (left_text c.skip_continuations-rest.result)),
)

pub returns-clause-taken : goal.returns-clause-taken
returns-clause-taken c = λ first is.
    let tail = c.split_at.ensures.back
    ∙ tail_is c.args.here.now c.args.name.now first (left_text c.args.after) is in
    let raw = raw_is c.split_at.result.1.now c.text_before.result.now first
    (after_newlines c.skip_continuations-rest.ensures.skips.more) (left_text c.args.after)
    (left_text c.skip_continuations-rest.result) c.text_before.ensures tail
    c.skip_continuations-rest.ensures.skips.text in
    record {
      skips = c.skip_continuations-rest.ensures.skips;
      name_is = refl;
      value_is = c.trim-value.ensures ∙ ap trimmed raw;
    }

-- `lasting`: the bytes are those of a text.
use Rattle.std.proofs.Common.{ap, subst, sym, ◌∙◌}
use Rattle.std.specs.Prelude.{IsUtf8}
use Rattle.std.proofs.lemmas.Str.{IsUtf8-string_bytes}
use Rattle.td_tool.proofs.early_texts.lasting.Goals as goal

pub from_utf8_unchecked-requires : goal.from_utf8_unchecked-requires
from_utf8_unchecked-requires c =
    subst IsUtf8 (sym (c.leak-bytes.ensures.value ∙ ap (λ v. v.items) c.into_bytes.ensures.value))
    (IsUtf8-string_bytes c.args.text)

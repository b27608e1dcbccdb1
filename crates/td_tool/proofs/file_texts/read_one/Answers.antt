-- `read_one`: the clause `text`.
use Rattle.std.proofs.Common.{◌≡◌, IfSome, string_bytes, subst}
use Rattle.std.proofs.lemmas.Str.{IsUtf8-string_bytes}
use Rattle.td_tool.proofs.file_texts.read_one.Goals as goal

pub returns-in-Ok-clause-text : goal.returns-in-Ok-clause-text
returns-in-Ok-clause-text g c =
    record {
      whole = subst (λ path. IfSome (g.T.Texts.bytes c.args.texts.now path)
          (λ all. all ≡ string_bytes c.in-Ok.text)) c.as_str.ensures.value c.in-Ok.ensures.text;
      read = (c.in-Ok.ensures.within, IsUtf8-string_bytes c.in-Ok.text);
    }

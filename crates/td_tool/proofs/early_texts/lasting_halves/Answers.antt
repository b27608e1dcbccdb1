-- `lasting_halves`: the two texts are the file's, one after the other.
use Rattle.std.proofs.Common.{◌≡◌, ◌++◌, ◌∙◌, IfSome, ap, string_bytes, subst, sym}
use Rattle.std.proofs.lemmas.Str.{IsUtf8-append, IsUtf8-string_bytes}
use Rattle.td_tool.specs.Checks.{IsTextOf}
use Rattle.td_tool.proofs.early_texts.lasting_halves.Goals as goal

pub returns : goal.returns
returns g c =
    let front = c.in_ok-front.front in
    let rest = c.in_ok-front.rest in
    let known = g.T.Texts.bytes c.args.texts.now in
    subst (λ text. IsTextOf (known (string_bytes c.args.path.now)) text)
    (ap (λ l. l ++ string_bytes rest) (sym c.lasting.ensures)
    ∙ ap (λ l. c.lasting.result.now ++ l) (sym c.lasting-2.ensures))
    (record {
      whole = subst (λ path. IfSome (known path)
          (λ all. all ≡ string_bytes front ++ string_bytes rest)) c.as_str.ensures.value
          c.in_ok-front.ensures.text;
      read = (
        c.in_ok-front.ensures.within,
        IsUtf8-append (string_bytes front) (string_bytes rest) (IsUtf8-string_bytes front)
            (IsUtf8-string_bytes rest),
      );
    })

-- `frame`: a line that is text, as it is.
use Rattle.std.proofs.Common.{◌≡◌, ◌∙◌, ap, subst, arith, string_bytes, IsUtf8}
use Rattle.std.proofs.lemmas.Str.{IsUtf8-string_bytes}
use Rattle.td_lasting.proofs.framing.frame.Goals as goal

pub returns-in-Ok : goal.returns-in-Ok
returns-in-Ok c =
    let same : string_bytes c.in-Ok.text ≡ c.args.line.now =
    ap (λ v. v.items) c.in-Ok.ensures.ok ∙ c.in_ok-from_slice.ensures.items in
    (omega arith, subst IsUtf8 same (IsUtf8-string_bytes c.in-Ok.text), same)

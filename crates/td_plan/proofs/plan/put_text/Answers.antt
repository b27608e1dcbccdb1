-- `put_text`: what it appends.
use Rattle.std.proofs.Common.{◌≡◌, ◌++◌, ◌∙◌, List, None, Option, Some, ap, string_bytes, subst, ℕ}
use Rattle.std.specs.Prelude.{IfSome}
use Rattle.std.specs.Global.{Global}
use Rattle.std.specs.declared.string.String.{String}
use Rattle.td_plan.proofs.SourcePlaces.{item-at}
use Rattle.td_plan.proofs.plan.put_text.Goals as goal

pub returns-in_default-clause-ok : goal.returns-in_default-clause-ok
returns-in_default-clause-ok c =
    let out = string_bytes c.args.out.now in
    subst (λ (o : Option (String Global)). IfSome o (λ text. out ≡ out ++ string_bytes text))
    (item-at c.args.texts.now c.args.number None c.in_default.ensures.lookup) tt

pub returns-clause-ok : goal.returns-clause-ok
returns-clause-ok c =
    let out = string_bytes c.args.out.now in
    let end = string_bytes c.push_str.new.self in
    subst (λ (o : Option (String Global)). IfSome o (λ text. end ≡ out ++ string_bytes text))
    (item-at c.args.texts.now c.args.number (Some c.in-Some.text) c.in-Some.ensures.lookup)
    (c.in_ok-push_str.ensures.bytes ∙ ap (λ (t : List ℕ). out ++ t) c.as_str.ensures.value)

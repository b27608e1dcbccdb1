-- `Steps::put_part`: the line of a part.
use Rattle.std.proofs.Common.{◌∙◌, ◌++◌, ◌∷◌, [], List, ap, append-nil, append_assoc, arith, map}
use Rattle.std.proofs.Common.{string_bytes, sym, ℕ}
use Rattle.std.proofs.lemmas.List.{take_all}
use Rattle.td_plan.specs.Lines.{spaced}
use Rattle.td_plan.specs.Premises.{name_of}
use Rattle.td_plan.specs.inner.Planned.{name_at, sources_at}
use Rattle.td_plan.proofs.StepTexts.{names-at}
use Rattle.td_plan.proofs.steps.Steps.put_part.Goals as goal

pub returns : goal.returns
returns c = λ all.
    let ms = c.args.self.now.movers.items in
    let ns = c.args.members.now in
    let old = string_bytes c.args.out.now in
    let names = spaced (map name_of (sources_at ms ns)) in
    c.in_ok-push_str-2.ensures.bytes
    ∙ ap (λ (t : List ℕ). t ++ 10 ∷ []) (c.loop-number.invariant
    ∙ ap (λ (l : List ℕ). old ++ spaced (map (name_at ms) l))
    (take_all c.loop-number.number ns (omega arith))
    ∙ ap (λ (l : List (List ℕ)). old ++ spaced l) (sym (names-at ms ns all)))
    ∙ append_assoc old names (10 ∷ [])
    ∙ ap (λ (t : List ℕ). old ++ t) (sym (append-nil (names ++ 10 ∷ [])))

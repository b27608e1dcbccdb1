-- `push_alternatives`: the clauses `err` and `ok`, where no bar stands in the member.
use Rattle.std.proofs.Common.{◌≡◌, ◌∙◌, List, [], ◌∷◌, ℕ, ap, map, sym, refl, subst}
use Rattle.std.proofs.lemmas.Result.{IfErr-weaker, on_ok_weaker}
use Rattle.td_text.proofs.Cut.{pieces-one}
use Rattle.td_text.specs.Lines.{pieces_of}
use Rattle.td_relation.specs.Asked.{asked}
use Rattle.td_relation.specs.RelationGrammar.{alternative_step, over}
use Rattle.td_relation.specs.RelationViews.{IsFaultOf}
use Rattle.td_relation.proofs.PieceLaws.{faulted, over_one}
use Rattle.td_relation.proofs.relation_reading.push_alternatives.Goals as goal

pub returns-else-barred-clause-ok : goal.returns-else-barred-clause-ok
returns-else-barred-clause-ok c =
    let t = c.args.text.now in
    let seen = map asked c.args.list.now.items in
    let one : pieces_of 124 t ≡ t ∷ [] = pieces-one 124 t (c.requires c.if-barred.false) in
    on_ok_weaker c.push_alternative.result
    (λ is. ap (over alternative_step seen) one ∙ over_one alternative_step seen _ t is)
    c.push_alternative.ensures.ok

pub returns-else-barred-clause-err : goal.returns-else-barred-clause-err
returns-else-barred-clause-err c =
    let t = c.args.text.now in
    let seen = map asked c.args.list.now.items in
    let one : pieces_of 124 t ≡ t ∷ [] = pieces-one 124 t (c.requires c.if-barred.false) in
    IfErr-weaker c.push_alternative.result _ _
    (λ e is. subst (λ (l : List (List ℕ)). IsFaultOf (over alternative_step seen l) e) (sym one)
    (faulted alternative_step e seen t [] _ is refl))
    c.push_alternative.ensures.err

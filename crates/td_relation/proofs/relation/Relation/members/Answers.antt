-- `Relation::members`: the clause `limited`.
use Rattle.std.proofs.Common.{◌≡◌, ◌∙◌, List, ap, sym, length, map}
use Rattle.std.proofs.lemmas.List.{length-map}
use Rattle.td_relation.specs.declared.relation.Alternative.{Alternative}
use Rattle.td_relation.specs.Asked.{asked}
use Rattle.td_relation.specs.Members.{chunked, members}
use Rattle.td_relation.proofs.MemberLaws.{length-chunked}
use Rattle.td_relation.proofs.relation.Relation.members.Goals as goal

pub returns-clause-limited : goal.returns-clause-limited
returns-clause-limited c =
    let r = c.args.self.now in
    let same : length (members r) ≡ length c.as_slice-2.result.now =
    length-map (chunked r.sizes.items r.alternatives.items) (λ (m : List Alternative). map asked m)
    ∙ length-chunked r.sizes.items r.alternatives.items
    ∙ sym (ap length c.as_slice-2.ensures.value) in
    rw same c.as_slice-2.type_inv.0

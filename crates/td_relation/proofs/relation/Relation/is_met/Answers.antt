-- `Relation::is_met`: what it answers.
use Rattle.std.proofs.Common.{◌≡◌, ◌∙◌, List, ap, sym, map}
use Rattle.std.specs.List.{list_all}
use Rattle.std.proofs.lemmas.List.Folds.{list_all-map}
use Rattle.td_relation.specs.declared.relation.Alternative.{Alternative}
use Rattle.td_relation.specs.Arch.{words_of}
use Rattle.td_relation.specs.Asked.{Asked, asked}
use Rattle.td_relation.specs.Meeting.{member_met}
use Rattle.td_relation.specs.Members.{chunked}
use Rattle.td_relation.proofs.relation.Relation.is_met.Goals as goal

pub returns : goal.returns
returns g c =
    let test = λ (m : List Asked).
    member_met (g.O.Offering.on_offer c.args.offers.now) c.args.place (words_of c.args.arch) m in
    let r = c.args.self.now in
    let same : chunked c.as_slice-2.result.now c.as_slice.result.now
    ≡ chunked r.sizes.items r.alternatives.items =
    rw (c.as_slice-2.ensures.value, c.as_slice.ensures.value) in
    c.are_met.ensures ∙ ap (list_all (λ (m : List Alternative). test (map asked m))) same
    ∙ sym (list_all-map test (λ (m : List Alternative). map asked m)
    (chunked r.sizes.items r.alternatives.items))

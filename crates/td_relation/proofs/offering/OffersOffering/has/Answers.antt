-- `OffersOffering::has`: what it answers.
use Rattle.std.proofs.Common.{◌∙◌, sym, ap, option_map}
use Rattle.std.specs.List.{list_any}
use Rattle.td_text.proofs.Chain.{list_any-map}
use Rattle.td_relation.specs.Asked.{restriction_of}
use Rattle.td_relation.specs.Meeting.{suits}
use Rattle.td_relation.specs.Offers.{Offered, offered}
use Rattle.td_relation.proofs.offering.OffersOffering.has.Goals as goal

pub returns-in-Some : goal.returns-in-Some
returns-in-Some c =
    let test =
    λ (o : Offered). suits c.args.place (option_map restriction_of c.args.restriction.now) o in
    c.some_suits.ensures ∙ sym (list_any-map test offered c.in-Some.list.now)
    ∙ ap (list_any test) c.in-Some.ensures.offers

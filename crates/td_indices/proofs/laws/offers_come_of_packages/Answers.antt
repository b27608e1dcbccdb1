-- `offers_come_of_packages`: what it answers.
use Rattle.td_indices.proofs.OfferLaws.{offers_are_exact}
use Rattle.td_indices.proofs.laws.offers_come_of_packages.Goals as goal

pub returns : goal.returns
returns c = offers_are_exact

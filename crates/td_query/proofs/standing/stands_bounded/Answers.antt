-- `stands_bounded`: what it answers if the value doesn't have the text.
use Rattle.std.proofs.Common.{◌≡◌, ◌∙◌, sym, false, rules}
use Rattle.std.proofs.lemmas.Bool.{false≢true}
use Rattle.std.proofs.lemmas.Str.Pattern.{contains_text}
use Rattle.std.specs.Str.Iter.{HasSubslice}
use Rattle.td_query.proofs.Meanings.{has_nowhere}
use Rattle.td_query.proofs.standing.stands_bounded.Goals as goal

pub returns-then-not-contains : goal.returns-then-not-contains
returns-then-not-contains c =
    let text = c.args.text.now in
    let value = c.args.value.now in
    let found = contains_text c.contains.result text value c.contains.ensures.cases in
    let absent : c.contains.result ≡ false = search rules in
    let none : ¬ HasSubslice value text =
    λ has. false≢true (sym absent ∙ found.1 has) in
    record { stands = sym (has_nowhere text value none) }

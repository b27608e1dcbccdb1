-- `keep_place`: what it answers, where the place is kept and where not.
use Rattle.std.proofs.Common.{Some, None, refl, subst, sym, ◌∙◌}
use Rattle.td_indices.specs.inner.Placed.{ArePlaced}
use Rattle.td_indices.proofs.PlacedPackages.{are-placed, place_enters, place_stays, put_back}
use Rattle.td_indices.proofs.placing.keep_place.Goals as goal

pub returns-in-Ok-insert-clause-kept : goal.returns-in-Ok-insert-clause-kept
returns-in-Ok-insert-clause-kept c =
    let had = sym c.in-Some.is ∙ c.in-Ok.ensures.old in
    place_stays c.args.parts.now c.args.places.now.entries c.insert-in-Some.new.self.entries
    c.args.taken.now.0 c.args.taken.now.1 (Some c.in-Some.earlier) c.requires.placed had
    (sym c.is_better.ensures ∙ c.if-is_better.true)
    (put_back c.args.taken.now.0 c.args.place c.in-Some.earlier c.args.places.now.entries
    c.insert.new.self.entries c.insert-in-Some.new.self.entries (sym had) c.in-Ok.ensures.entries
    c.in-Ok-insert.ensures.entries)

pub returns-in-Ok-insert-clause-placed : goal.returns-in-Ok-insert-clause-placed
returns-in-Ok-insert-clause-placed c =
    subst (ArePlaced c.args.parts.now)
    (sym (put_back c.args.taken.now.0 c.args.place c.in-Some.earlier c.args.places.now.entries
    c.insert.new.self.entries c.insert-in-Some.new.self.entries
    (sym c.in-Ok.ensures.old ∙ c.in-Some.is) c.in-Ok.ensures.entries
    c.in-Ok-insert.ensures.entries)) c.requires.placed

pub returns-in_default-earlier-clause-kept : goal.returns-in_default-earlier-clause-kept
returns-in_default-earlier-clause-kept c =
    place_enters c.args.parts.now c.args.places.now.entries c.insert.new.self.entries
    c.args.taken.now.0 c.args.place c.args.taken.now.1 (Some c.in-Some.earlier) c.requires.there
    c.requires.placed (sym c.in-Some.is ∙ c.in-Ok.ensures.old)
    (sym c.is_better.ensures ∙ c.if-is_better.false) c.in-Ok.ensures.entries

pub returns-in_default-earlier-clause-placed : goal.returns-in_default-earlier-clause-placed
returns-in_default-earlier-clause-placed c =
    subst (ArePlaced c.args.parts.now) (sym c.in-Ok.ensures.entries)
    (are-placed c.args.parts.now c.args.taken.now.0 c.args.place c.args.taken.now.1
    c.args.places.now.entries c.requires.there c.requires.placed)

pub returns-in_default-earlier-2-clause-kept : goal.returns-in_default-earlier-2-clause-kept
returns-in_default-earlier-2-clause-kept c =
    place_enters c.args.parts.now c.args.places.now.entries c.insert.new.self.entries
    c.args.taken.now.0 c.args.place c.args.taken.now.1 None c.requires.there c.requires.placed
    (sym c.in_default-earlier.is ∙ c.in-Ok.ensures.old) refl c.in-Ok.ensures.entries

pub returns-in_default-earlier-2-clause-placed : goal.returns-in_default-earlier-2-clause-placed
returns-in_default-earlier-2-clause-placed c =
    subst (ArePlaced c.args.parts.now) (sym c.in-Ok.ensures.entries)
    (are-placed c.args.parts.now c.args.taken.now.0 c.args.place c.args.taken.now.1
    c.args.places.now.entries c.requires.there c.requires.placed)

-- `texts_say`: the call of `open_texts`, and what it answers.
use Rattle.std.proofs.Common.{ap, refl, rules, ◌∙◌}
use Rattle.td_inputs.specs.Opened.{texts_of as texts_opened}
use Rattle.td_tool.specs.TrackInside.{saying_of, texts_of, texts_over}
use Rattle.td_tool.specs.Tracks.{as_script}
use Rattle.td_tool.proofs.Told.{said_of_opened, tracker_lent, unopened_says}
use Rattle.td_tool.proofs.tracking.texts_say.Goals as goal

pub open_texts-said-requires : goal.open_texts-said-requires
open_texts-said-requires g c = λ k. (
  search rules,
  (
    (refl, tt),
    λ o is. (tracker_lent _ o.tracker is.tracker, ((_, is), search rules)),
  ),
)

pub returns-in-Ok : goal.returns-in-Ok
returns-in-Ok g c =
    let x = c.args.texts in
    said_of_opened (saying_of c.args.asked) (texts_of x) (texts_opened c.lend-lent.result)
    c.in-Ok.said c.or_no_memory.result c.in-Ok.ensures.made.0
    (c.lend-lent.ensures
    ∙ ap (λ a. as_script (texts_over a x.indices.packages x.indices.sources x.over))
    c.as_str.ensures.value)
    c.in-Ok.ensures.made.1 c.in-Ok.ensures.made.2.1 c.or_no_memory.ensures.ok
    c.or_no_memory.ensures.err

pub returns : goal.returns
returns g c =
    let x = c.args.texts in
    unopened_says (saying_of c.args.asked) (texts_of x) (texts_opened c.lend-lent.result)
    c.in-Err.fault c.ending_of_opening.result
    (c.lend-lent.ensures
    ∙ ap (λ a. as_script (texts_over a x.indices.packages x.indices.sources x.over))
    c.as_str.ensures.value)
    c.in-Err.ensures.refused c.in-Err.ensures.only c.ending_of_opening.ensures

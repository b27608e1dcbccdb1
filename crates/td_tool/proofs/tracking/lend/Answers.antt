-- `lend`: what it answers.
use Rattle.std.proofs.Common.{ℕ, List, Option, Some, ap, ◌∙◌}
use Rattle.td_inputs.specs.Inputs as inputs
use Rattle.td_tool.specs.TrackInside.{texts_over}
use Rattle.td_tool.specs.Tracks.{as_script}
use Rattle.td_tool.proofs.tracking.lend.Goals as goal

pub returns : goal.returns
returns c =
    let x = as_script (texts_over c.args.archs.now c.args.packages c.args.sources c.args.over.now)
    in
    let made = λ (state : Option (List ℕ)) (tracker : List ℕ).
    (let it : inputs.Texts = record {
      archs = x.archs;
      packages = x.packages;
      sources = x.sources;
      state = state;
      tracker = Some tracker;
      journal = x.journal;
      suite = x.suite;
    } in it) in
    ap (λ v. made v c.as_str.result.now) c.given_text.ensures
    ∙ ap (λ v. made x.state v) c.as_str.ensures.value

-- `trimmed`: the call of `split_at`.
use Rattle.std.proofs.Common.{◌∙◌, ap, sym, subst, ℕ}
use Rattle.std.specs.Str.{IsCharBoundary}
use Rattle.std.specs.List.{prefix_len}
use Rattle.td_text.specs.Runs.{is_space}
use Rattle.td_text.proofs.RunLaws.{boundary_run, space_is_ascii}
use Rattle.td_text.proofs.runs.trimmed.Goals as goal

pub split_at-requires : goal.split_at-requires
split_at-requires c =
    subst (λ (n : ℕ). IsCharBoundary c.args.text.now n)
    (sym (c.space_len.ensures ∙ ap (prefix_len is_space) c.as_bytes.ensures.value))
    (boundary_run is_space space_is_ascii c.args.text.now c.utf8.text)

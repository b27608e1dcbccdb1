-- `arch_run`: the call of `split_at`.
use Rattle.std.proofs.Common.{◌∙◌, ap, sym, subst, ℕ}
use Rattle.std.specs.Str.{IsCharBoundary}
use Rattle.std.specs.List.{prefix_len}
use Rattle.td_text.specs.Words.{is_arch_byte}
use Rattle.td_text.proofs.RunLaws.{boundary_run, arch_is_ascii}
use Rattle.td_text.proofs.runs.arch_run.Goals as goal

pub split_at-requires : goal.split_at-requires
split_at-requires c =
    subst (λ (n : ℕ). IsCharBoundary c.args.text.now n)
    (sym (c.arch_len.ensures ∙ ap (prefix_len is_arch_byte) c.as_bytes.ensures.value))
    (boundary_run is_arch_byte arch_is_ascii c.args.text.now c.utf8.text)

-- `plain_run`: the call of `split_at`.
use Rattle.std.proofs.Common.{◌∙◌, ap, sym, subst, ℕ}
use Rattle.std.specs.Str.{IsCharBoundary}
use Rattle.std.specs.List.{prefix_len}
use Rattle.td_wbread.specs.Words.{is_plain}
use Rattle.td_wbread.proofs.Quotes.{boundary_before, others_are_ascii}
use Rattle.td_wbread.proofs.quoting.plain_run.Goals as goal

pub split_at-requires : goal.split_at-requires
split_at-requires c = subst (λ (n : ℕ). IsCharBoundary c.args.text.now n)
    (sym (c.plain_len.ensures ∙ ap (prefix_len is_plain) c.as_bytes.ensures.value))
    (boundary_before is_plain others_are_ascii c.args.text.now)

-- `word_run`: the call of `split_at`.
use Rattle.std.proofs.Common.{◌∙◌, ap, sym, subst, ℕ}
use Rattle.std.specs.Str.{IsCharBoundary}
use Rattle.std.specs.List.{prefix_len}
use Rattle.td_text.proofs.RunLaws.{boundary_run}
use Rattle.td_query.specs.Tokens.{is_key_byte}
use Rattle.td_query.proofs.Runs.{key_is_ascii}
use Rattle.td_query.proofs.tokens.word_run.Goals as goal

pub split_at-requires : goal.split_at-requires
split_at-requires c = subst (λ (n : ℕ). IsCharBoundary c.args.text.now n)
    (sym (c.word_len.ensures.run ∙ ap (prefix_len is_key_byte) c.as_bytes.ensures.value))
    (boundary_run is_key_byte key_is_ascii c.args.text.now c.utf8.text)

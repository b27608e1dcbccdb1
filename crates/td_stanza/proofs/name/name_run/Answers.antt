-- `name_run`: the call of `split_at`.
use Rattle.std.proofs.Common.{◌∙◌, ap, sym, subst, ℕ}
use Rattle.std.specs.Str.{IsCharBoundary}
use Rattle.std.specs.List.{prefix_len}
use Rattle.td_stanza.specs.Field.{is_name_byte}
use Rattle.td_text.proofs.RunLaws.{boundary_run}
use Rattle.td_stanza.proofs.Naming.{name_is_ascii}
use Rattle.td_stanza.proofs.name.name_run.Goals as goal

pub split_at-requires : goal.split_at-requires
split_at-requires c =
    subst (λ (n : ℕ). IsCharBoundary c.args.text.now n)
    (sym (c.name_len.ensures ∙ ap (prefix_len is_name_byte) c.as_bytes.ensures.value))
    (boundary_run is_name_byte name_is_ascii c.args.text.now c.utf8.text)

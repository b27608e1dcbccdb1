-- `read_pattern`: the call of `split_at`.
use Rattle.std.proofs.Common.{◌≡◌, ◌<◌, length, get_or, rules}
use Rattle.td_query.proofs.Patterns.{boundary_behind_slash}
use Rattle.td_query.proofs.tokens.read_pattern.Goals as goal

pub split_at-requires-in-Some : goal.split_at-requires-in-Some
split_at-requires-in-Some c =
    let t = c.args.text.now in
    let within : c.in-Some.place < length t = search rules in
    let slash : get_or t c.in-Some.place 0 ≡ 47 = search rules in
    boundary_behind_slash t c.split_at.result.1.now c.in-Some.place c.utf8.text within slash
    c.split_at.ensures.back

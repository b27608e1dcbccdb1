-- `piece`: what it answers, the call of `split_at` and its sums.
use Rattle.std.proofs.Common.{◌-◌, Some, None, suc, map, take, drop, sym, ap, ◌∙◌, arith}
use Rattle.std.proofs.lemmas.List.{drop-map, take-map}
use Rattle.td_stanza.specs.Table.{shown}
use Rattle.td_stanza.proofs.Places.{got, got_next, pieces_past, pieces_last, pieces_inner}
use Rattle.td_stanza.proofs.Places.{start_within, starts_ordered}
use Rattle.td_stanza.proofs.lookup.piece.Goals as goal

pub returns-in_default : goal.returns-in_default
returns-in_default c =
    sym (pieces_past (map shown c.args.fields.now) c.args.starts.now c.args.number
    (sym (got c.args.starts.now c.args.number None c.in_default.ensures.lookup)))

pub split_at-requires : goal.split_at-requires
split_at-requires c =
    start_within c.args.fields.now c.args.starts.now c.args.number c.in-Some.start.now c.requires
    (sym (got c.args.starts.now c.args.number (Some c.in-Some.start) c.in-Some.ensures.lookup))

pub overflow_sub-end : goal.overflow_sub-end
overflow_sub-end c =
    starts_ordered c.args.fields.now c.args.starts.now c.args.number c.in-Some.start.now
    c.in-Some-get.end.now c.requires
    (sym (got c.args.starts.now c.args.number (Some c.in-Some.start) c.in-Some.ensures.lookup))
    (got_next c.args.starts.now c.args.number (Some c.in-Some-get.end) c.in-Some-get.ensures.lookup)

pub split_at-requires-in-Some-get : goal.split_at-requires-in-Some-get
split_at-requires-in-Some-get c =
    let within = start_within c.args.fields.now c.args.starts.now
    (suc c.args.number) c.in-Some-get.end.now c.requires
    (got_next c.args.starts.now c.args.number (Some c.in-Some-get.end)
    c.in-Some-get.ensures.lookup) in
    omega (arith, within, c.split_at.ensures.back_len)

pub returns-in-None : goal.returns-in-None
returns-in-None c =
    let own = pieces_last (map shown c.args.fields.now) c.args.starts.now c.args.number
    c.in-Some.start.now (sym
    (got c.args.starts.now c.args.number (Some c.in-Some.start) c.in-Some.ensures.lookup))
    (got_next c.args.starts.now c.args.number None c.in-None.ensures.lookup) in
    ap (λ l. Some (map shown l)) c.split_at.ensures.back
    ∙ ap Some (sym (drop-map shown c.in-Some.start.now c.args.fields.now)) ∙ sym own

pub returns-in-Some-get : goal.returns-in-Some-get
returns-in-Some-get c =
    let own = pieces_inner (map shown c.args.fields.now) c.args.starts.now c.args.number
    c.in-Some.start.now c.in-Some-get.end.now
    (sym (got c.args.starts.now c.args.number (Some c.in-Some.start) c.in-Some.ensures.lookup))
    (got_next c.args.starts.now c.args.number
    (Some c.in-Some-get.end) c.in-Some-get.ensures.lookup) in
    ap (λ l. Some (map shown l))
    (c.split_at-in-Some-get.ensures.front
    ∙ ap (take (c.in-Some-get.end.now - c.in-Some.start.now)) c.split_at.ensures.back)
    ∙ ap Some (sym (take-map shown (c.in-Some-get.end.now - c.in-Some.start.now)
    (drop c.in-Some.start.now c.args.fields.now))
    ∙ ap (take (c.in-Some-get.end.now - c.in-Some.start.now))
    (sym (drop-map shown c.in-Some.start.now c.args.fields.now)))
    ∙ sym own

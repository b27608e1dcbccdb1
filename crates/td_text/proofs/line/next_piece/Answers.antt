-- `next_piece`: the clauses `pieces`, `text` and `piece`, and the cut after the mark.
use Rattle.std.proofs.Common.{◌∙◌, ◌+◌, ℕ, ap, sym, subst, drop, take}
use Rattle.std.specs.Str.{IsCharBoundary}
use Rattle.td_text.specs.Lines.{pieces_of}
use Rattle.td_text.proofs.Cut.{behind_boundary, pieces-cons, pieces-one, place_cut, place_of}
use Rattle.td_text.proofs.Searched.{byte_found, byte_lacks}
use Rattle.td_text.proofs.line.next_piece.Goals as goal

pub split_at-requires-in-Some : goal.split_at-requires-in-Some
split_at-requires-in-Some c =
    let t = c.args.text.now in
    let m = c.args.mark in
    let found = byte_found m t c.as_bytes.result.now c.memchr.result c.in-Some.place
    c.as_bytes.ensures.value c.memchr.ensures c.in-Some.is in
    subst (λ (n : ℕ). IsCharBoundary t (n + 1)) found.0
    (behind_boundary m t c.requires c.utf8.text (rw found.0 found.1))

pub returns-in-Some-clause-pieces : goal.returns-in-Some-clause-pieces
returns-in-Some-clause-pieces c =
    let t = c.args.text.now in
    let m = c.args.mark in
    let found = byte_found m t c.as_bytes.result.now c.memchr.result c.in-Some.place
    c.as_bytes.ensures.value c.memchr.ensures c.in-Some.is in
    let cut = place_cut m t (rw found.0 found.1) in
    rw (c.split_at.ensures.front, c.split_at-in-Some.ensures.back, sym found.0)
    (ap (pieces_of m) cut.0
    ∙ pieces-cons m (take (place_of m t) t) (drop (place_of m t + 1) t) cut.1)

pub returns-in-Some-clause-piece : goal.returns-in-Some-clause-piece
returns-in-Some-clause-piece c =
    let t = c.args.text.now in
    let m = c.args.mark in
    let found = byte_found m t c.as_bytes.result.now c.memchr.result c.in-Some.place
    c.as_bytes.ensures.value c.memchr.ensures c.in-Some.is in
    rw (c.split_at.ensures.front, sym found.0) ((place_cut m t (rw found.0 found.1)).1)

pub returns-in-None-clause-pieces : goal.returns-in-None-clause-pieces
returns-in-None-clause-pieces c =
    pieces-one c.args.mark c.args.text.now
    (byte_lacks c.args.mark c.args.text.now c.as_bytes.result.now c.memchr.result
    c.as_bytes.ensures.value c.memchr.ensures c.in-None.is)

pub returns-in-None-clause-piece : goal.returns-in-None-clause-piece
returns-in-None-clause-piece c =
    byte_lacks c.args.mark c.args.text.now c.as_bytes.result.now c.memchr.result
    c.as_bytes.ensures.value c.memchr.ensures c.in-None.is

-- `source`: its loop.
use Rattle.std.proofs.Common.{◌∙◌, ◌++◌, ap, sym}
use Rattle.std.specs.Prelude.{string_bytes}
use Rattle.td_query.proofs.Unescaping.{unescaped_left, last_put, piece_put}
use Rattle.td_query.proofs.unescape.source.Goals as goal

pub loop-left-preserved-in-None : goal.loop-left-preserved-in-None
loop-left-preserved-in-None c =
    last_put (string_bytes c.loop-left.out) (string_bytes c.push_str.new.self) c.in-Some.text.now _
    c.in-None.ensures.none c.in_ok-push_str-in-None.ensures.bytes
    (sym (ap (λ o. string_bytes c.loop-left.out ++ unescaped_left o) c.in-Some.is)
    ∙ c.loop-left.invariant)

pub loop-left-preserved : goal.loop-left-preserved
loop-left-preserved c =
    piece_put (string_bytes c.loop-left.out) (string_bytes c.push_str-in-Some-cut_at.new.self)
    (string_bytes c.push_str-in-Some-cut_at-2.new.self)
    c.in-Some-cut_at.piece.now c.without_backslash.result.now c.in-Some.text.now
    c.in-Some-cut_at.after.now _
    c.in-Some-cut_at.ensures.found.0 c.in-Some-cut_at.ensures.found.1
    c.without_backslash.ensures.left
    c.in_ok-push_str-in-Some-cut_at.ensures.bytes c.in_ok-push_str-in-Some-cut_at-2.ensures.bytes
    (sym (ap (λ o. string_bytes c.loop-left.out ++ unescaped_left o) c.in-Some.is)
    ∙ c.loop-left.invariant)

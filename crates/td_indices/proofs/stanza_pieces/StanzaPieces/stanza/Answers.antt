-- `stanza`: one of the next piece, and the piece after it.
use Rattle.std.proofs.Common.{◌≡◌, ℕ, ◌+◌, ◌-◌, ◌<◌, ◌≤◌, ◌∙◌, List, Some, ap, arith, drop}
use Rattle.std.proofs.Common.{length, refl, slice_get}
use Rattle.std.proofs.lemmas.Option.{slice_get_read}
use Rattle.td_stanza.specs.Field.{Entry}
use Rattle.td_indices.specs.inner.Pieces.{all_of}
use Rattle.td_indices.proofs.Pieces.{get_behind_piece, get_in_piece}
use Rattle.td_indices.proofs.stanza_pieces.StanzaPieces.stanza.Goals as goal

pub returns-then-left-count : goal.returns-then-left-count
returns-then-left-count c =
    let pieces = c.deref-piece-items.result.now in
    let i = c.loop-piece.piece-index in
    let piece = c.piece-item.result in
    let at : slice_get pieces i ≡ Some piece =
    slice_get_read pieces (length pieces) i piece refl c.loop-piece-test.true c.piece-item.is in
    let within : c.loop-piece.left < length piece =
    omega (arith, c.if-left-count.true, c.len-count.ensures) in
    record {
      value = c.stanza.ensures.value
          ∙ get_in_piece pieces i piece c.loop-piece.left at within
          ∙ c.loop-piece.invariant
          ∙ ap (λ (ss : List (List Entry)). slice_get ss c.args.number)
          (ap all_of c.deref-piece-items.ensures.value ∙ c.self.view_is);
    }

pub loop-piece-preserved : goal.loop-piece-preserved
loop-piece-preserved c =
    let pieces = c.deref-piece-items.result.now in
    let i = c.loop-piece.piece-index in
    let piece = c.piece-item.result in
    let at : slice_get pieces i ≡ Some piece =
    slice_get_read pieces (length pieces) i piece refl c.loop-piece-test.true c.piece-item.is in
    let beyond : length piece ≤ c.loop-piece.left =
    omega (arith, c.if-left-count.false, c.len-count.ensures) in
    ap (λ (n : ℕ). slice_get (all_of (drop (i + 1) pieces)) (c.loop-piece.left - n))
    c.len-count.ensures
    ∙ get_behind_piece pieces i piece c.loop-piece.left at beyond ∙ c.loop-piece.invariant

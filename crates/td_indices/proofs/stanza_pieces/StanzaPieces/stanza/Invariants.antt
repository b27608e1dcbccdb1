-- What the loop of `stanza` keeps.
use Rattle.std.proofs.Common.{◌≡◌, drop, slice_get}
use Rattle.td_indices.specs.inner.Pieces.{all_of}
use Rattle.td_indices.proofs.stanza_pieces.StanzaPieces.stanza.Given as goal

-- the stanza is the one with what is left of its number, in the pieces that are left
abbrev pub invariant-loop-piece : goal.invariant-loop-piece
invariant-loop-piece l =
    slice_get (all_of (drop l.piece-index l.piece-items)) l.left
    ≡ slice_get (all_of l.piece-items) l.number

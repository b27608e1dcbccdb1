-- `joined`: the pieces are those of both.
use Rattle.std.proofs.Common.{◌≡◌, ◌+◌, arith, length, sym}
use Rattle.td_indices.proofs.Pieces.{joined_count, joined_of}
use Rattle.td_indices.proofs.stanza_pieces.StanzaPieces.joined.Goals as goal

pub invariant_of-all : goal.invariant_of-all
invariant_of-all c =
    let counted : c.in_ok-count.count ≡ length c.args.front + length c.args.rest =
    omega (arith, c.in_ok-count.ensures, c.len.ensures, c.len-2.ensures) in
    joined_count c.all.inside.pieces.items c.more.inside.pieces.items c.append.new.self.items
    c.args.front c.args.rest c.in_ok-count.count c.in-Ok.ensures.items
    (sym c.all.view_is) (sym c.more.view_is) counted

pub returns-in-Ok : goal.returns-in-Ok
returns-in-Ok c =
    joined_of c.all.inside.pieces.items c.more.inside.pieces.items c.append.new.self.items
    c.args.front c.args.rest c.in-Ok.ensures.items (sym c.all.view_is) (sym c.more.view_is)

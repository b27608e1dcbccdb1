-- What the loop of `feed` keeps.
use Rattle.std.proofs.Common.{◌≡◌, take, fold, flat_map, map}
use Rattle.std.specs.Char.{to_ascii_lowercase}
use Rattle.std.specs.Hash as fed
use Rattle.td_stanza.proofs.folded.feed.Given as goal

abbrev pub invariant-loop-byte : goal.invariant-loop-byte
invariant-loop-byte g l =
    l.state ≡ fold g.H.Hasher.write l.initial.state
    (flat_map fed.u8 (map to_ascii_lowercase (take l.byte-index l.bytes)))

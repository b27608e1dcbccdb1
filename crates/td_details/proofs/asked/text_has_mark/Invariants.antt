-- What the loop of `text_has_mark` keeps.
use Rattle.std.proofs.Common.{◌≡◌, false, take}
use Rattle.std.specs.List.{list_any}
use Rattle.td_details.specs.Asked.{is_mark}
use Rattle.td_details.proofs.asked.text_has_mark.Given as goal

-- none of the bytes so far
abbrev pub invariant-loop-byte : goal.invariant-loop-byte
invariant-loop-byte l = list_any is_mark (take l.byte-index l.text) ≡ false

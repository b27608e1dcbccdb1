-- What the loop of `take_word` keeps, and why it ends.
use Rattle.std.proofs.Common.{length}
use Rattle.std.specs.String.{string_bytes}
use denote.Text.{Utf8}
use denote.Shadow.{shadow}
use Rattle.td_wbread.specs.Taking.{IsSeen}
use Rattle.td_wbread.proofs.scanning.take_word.Given as goal

abbrev pub invariant-pieces : goal.invariant-pieces
invariant-pieces l = record {
  seen : IsSeen l.text (string_bytes l.word) l.is_bare l.rest;
  utf8 : shadow (Utf8 l.rest);
}

abbrev pub decreases-pieces : goal.decreases-pieces
decreases-pieces l = length l.rest

-- What the loop of `read_words` keeps, and why it ends.
use Rattle.std.proofs.Common.{length}
use denote.Text.{Utf8}
use denote.Shadow.{shadow}
use Rattle.td_wbread.proofs.Scans.{IsLeft, Unspaced}
use Rattle.td_wbread.proofs.scanning.read_words.Given as goal

abbrev pub invariant-loop-rest : goal.invariant-loop-rest
invariant-loop-rest l = record {
  left : IsLeft l.line l.words.items l.rest;
  unspaced : Unspaced l.rest;
  utf8 : shadow (Utf8 l.rest);
}

abbrev pub decreases-loop-rest : goal.decreases-loop-rest
decreases-loop-rest l = length l.rest

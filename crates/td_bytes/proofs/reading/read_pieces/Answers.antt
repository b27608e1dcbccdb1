-- `read_pieces`: its loop, and the clauses `lost` and `fault` if a piece was read.
use Rattle.std.proofs.Common.{◌≡◌, ◌+◌, ◌-◌, ◌≤◌, ◌++◌, ◌∙◌, ap, arith, rules, length, take}
use Rattle.std.proofs.Common.{length-append}
use Rattle.std.proofs.KnownBytes.{Consumes-trans}
use Rattle.std.proofs.Common.{drop, subst, sym, length-drop}
use Rattle.std.specs.Io.KnownBytes.{Consumes}
use Rattle.std.specs.Str.{IsUtf8}
use Rattle.td_bytes.proofs.Utf8.{IsUtf8-further}
use Rattle.td_bytes.proofs.reading.read_pieces.Goals as goal

pub loop-bytes-preserved : goal.loop-bytes-preserved
loop-bytes-preserved g c =
    let n = c.loop-bytes.known in
    let k = c.text_len-known.result in
    let bs = c.loop-bytes.bytes.items in
    let new = c.read_behind.new.bytes.items in
    let more = c.in_ok-count.ensures.ok.0 in
    let is : new ≡ bs ++ more = c.in_ok-count.ensures.ok.2 in
    let long : length new ≡ length bs + length more = ap length is ∙ length-append bs more in
    let left : length (drop n new) ≡ length new - n = length-drop n new in
    let within : k ≤ length (drop n new) = search rules in
    let count : length more ≡ c.in_ok-count.count = c.in_ok-count.ensures.ok.1 in
    let own : c.len-before.result ≡ length bs = search rules in
    let fits : length new ≤ c.args.limit =
    omega (arith, long, count, own, c.loop-bytes.invariant.1, c.if-limit-before.false) in
    let found : IsUtf8 (take k (drop n new)) = search rules in (
      subst (Consumes (g.R.Read.remaining c.args.reader.now)
          (g.R.Read.remaining c.read_behind.new.reader)) (sym is)
          (Consumes-trans _ _ _ _ _ c.loop-bytes.invariant.0 c.in_ok-count.ensures.ok.3),
      fits,
      omega (arith, long, left, within, c.loop-bytes.invariant.2),
      subst (λ xs. IsUtf8 (take (n + k) xs)) (sym is)
          (IsUtf8-further bs more n k c.loop-bytes.invariant.2 c.loop-bytes.invariant.3
          (subst (λ xs. IsUtf8 (take k (drop n xs))) is found)),
      c.in_ok-count.ensures.steady ∙ c.loop-bytes.invariant.4,
    )

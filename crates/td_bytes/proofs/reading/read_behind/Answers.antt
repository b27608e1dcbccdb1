-- `read_behind`: what was read comes after what was there.
use Rattle.std.proofs.Common.{◌≡◌, ◌+◌, ◌-◌, ◌≤◌, ◌∙◌, ap, arith, drop, rules, length, take}
use Rattle.std.proofs.Common.{length-drop, length-take-le}
use Rattle.td_bytes.proofs.Behind.{take-filled, take-read}
use Rattle.td_bytes.proofs.reading.read_behind.Goals as goal

pub returns-clause-ok : goal.returns-clause-ok
returns-clause-ok g c =
    let n = c.in_ok-count.count in
    let st = c.len-start.result in
    let bs = c.args.bytes.now.items in
    let bf = c.read_from.new.buffer in
    let filled = c.resize.new.self.items in
    let fits : st + n ≤ length bf = c.in_ok-count.ensures.fits in
    let start : st ≡ length bs = search rules in
    let end : length bs ≤ c.in-Some.end = search rules in
    let own : take st filled ≡ bs =
    ap (take st) c.in_ok-resize.ensures.items ∙ take-filled bs _ st c.in-Some.end start end in
    let same : c.resize.new.self.len ≡ length bf = search rules in
    let front : take st bf ≡ take st filled = search rules in
    let left : length (drop st bf) ≡ length bf - st = length-drop st bf in
    let short : n ≤ length (drop st bf) = omega (arith, left, fits) in (
      take n (drop st bf),
      length-take-le n (drop st bf) short,
      c.truncate.ensures.items ∙ take-read bs filled bf _ st _ n own same front,
      c.in_ok-count.ensures.ok,
    )

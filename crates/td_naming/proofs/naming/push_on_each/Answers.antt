-- `push_on_each`: its loop.
use Rattle.std.proofs.Common.{ℕ, ◌+◌, ◌<◌, List, [], length, take, get_or, arith}
use Rattle.std.specs.Borrow.{Bor}
use Rattle.std.specs.List.{list_any}
use Rattle.std.specs.Str.{bytes_eq}
use Rattle.std.proofs.lemmas.List.Folds.{list_any_more}
use Rattle.td_naming.specs.Naming.{keys_at}
use Rattle.td_naming.proofs.Finding.{adds_arch}
use Rattle.td_naming.proofs.naming.push_on_each.Goals as goal

pub loop-arch-preserved : goal.loop-arch-preserved
loop-arch-preserved c =
    let d : Bor (List ℕ) = record { ref_ptr = (0, 0); now = [] } in
    let t = c.args.rows.now in
    let archs = c.args.archs.now in
    let i = c.loop-arch.arch-index in
    let within : i < length archs = omega arith in
    let added = c.in_ok-push_number.ensures in
    adds_arch t (keys_at t c.args.numbers.now.items) (keys_at t c.loop-arch.numbers.items)
    (keys_at t c.push_number.new.numbers.items)
    (λ k. bytes_eq c.args.source.now k.source)
    (λ k. list_any (λ (a : Bor (List ℕ)). bytes_eq a.now k.arch) (take i archs))
    (λ k. bytes_eq (get_or archs i d).now k.arch)
    (λ k. list_any (λ (a : Bor (List ℕ)). bytes_eq a.now k.arch) (take (i + 1) archs))
    c.loop-arch.invariant added (λ k.
    list_any_more (λ (a : Bor (List ℕ)). bytes_eq a.now k.arch) archs i d within)

-- `source_of`: what it answers, and its loop.
use Rattle.std.proofs.Common.{◌≡◌, ◌≤◌, ◌<◌, List, ℕ, ap, arith, length, option_map, refl, sym, ◌∙◌}
use Rattle.std.specs.Borrow.{Bor}
use Rattle.std.proofs.lemmas.List.{drop_all}
use Rattle.td_indices.specs.Seen.{seen_binary}
use Rattle.td_lines.proofs.Packages.{ends, found, passes}
use Rattle.td_lines.proofs.lost.source_of.Goals as goal

pub loop-number-preserved : goal.loop-number-preserved
loop-number-preserved c =
    let a = c.args.archive.now in
    let n : ℕ = c.loop-number.number in
    let within : n < length a.binaries =
    omega (arith, c.loop-number-test.true, c.binary_count-number-end.ensures) in
    passes a c.args.name.now n (option_map seen_binary c.binary.result) c.binary.ensures within
    (sym (ap (option_map (λ (s : Bor (List ℕ)). s.now)) c.in_default.is) ∙ c.source_if.ensures)
    c.loop-number.invariant

pub returns-in-Some : goal.returns-in-Some
returns-in-Some c =
    found c.args.archive.now c.args.name.now c.loop-number.number c.in-Some.source.now
    (option_map seen_binary c.binary.result) c.binary.ensures
    (sym (ap (option_map (λ (s : Bor (List ℕ)). s.now)) c.in-Some.is) ∙ c.source_if.ensures)
    c.loop-number.invariant

pub returns : goal.returns
returns c =
    let a = c.args.archive.now in
    let n : ℕ = c.loop-number.number in
    let all : length a.binaries ≤ n =
    omega (arith, c.loop-number-test.false, c.binary_count-number-end.ensures) in
    ends a c.args.name.now n (drop_all n a.binaries all) c.loop-number.invariant

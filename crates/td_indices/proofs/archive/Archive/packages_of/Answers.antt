-- `Archive::packages_of`: the clause `within`.
use Rattle.std.proofs.Common.{◌≡◌, ◌≤◌, ◌+◌, ◌<◌, ℕ, List, length, subst, sym, ap, ◌∙◌, arith}
use Rattle.std.specs.List.{AllByRecursion}
use Rattle.td_indices.specs.Archive.{Contents, is_of, numbers_of}
use Rattle.td_indices.proofs.Places.{places-within}
use Rattle.td_indices.proofs.archive.Archive.packages_of.Goals as goal

pub returns-clause-within : goal.returns-clause-within
returns-clause-within c =
    let a = c.args.self.now in
    let numbers : c.of.result.now ≡ numbers_of a c.args.source.now =
    c.of.ensures ∙ c.self.invariant.0 c.args.source.now
    ∙ ap (λ (v : Contents). numbers_of v c.args.source.now) c.self.view_is in
    let all : 0 + length a.binaries ≤ length a.binaries = omega arith in
    subst (λ (l : List ℕ). AllByRecursion (λ (n : ℕ). n < length a.binaries) l) (sym numbers)
    (places-within (is_of c.args.source.now) (length a.binaries) 0 a.binaries all)

-- `split_rebuild`: the clauses `found` and `only`.
use Rattle.std.proofs.Common.{◌≡◌, sym, ap, ◌∙◌, Some, None, option_map}
use Rattle.td_version.specs.Rebuild.{IsRebuild}
use Rattle.td_version.specs.Splitting.{rebuild_at}
use Rattle.td_version.proofs.Rebuilds.{found_some, found_none, same_rebuild}
use Rattle.td_version.proofs.rebuild.split_rebuild.Goals as goal
use Rattle.td_version.proofs.rebuild.split_rebuild.Goals.{In-Some}

is_split : (c : In-Some)
    → IsRebuild c.args.text.now c.in-Some.base_and_number.0.now c.in-Some.base_and_number.1
is_split c =
    let found : rebuild_at c.args.text.now
    ≡ Some (c.in-Some.base_and_number.0.now, c.in-Some.base_and_number.1) =
    sym c.rebuild.ensures ∙ ap (option_map (λ x. (x.0.now, x.1))) c.in-Some.is in
    found_some c.args.text.now c.in-Some.base_and_number.0.now c.in-Some.base_and_number.1 found

pub returns-in-Some-clause-found : goal.returns-in-Some-clause-found
returns-in-Some-clause-found c = is_split c

pub returns-in-Some-clause-only : goal.returns-in-Some-clause-only
returns-in-Some-clause-only c =
    λ base n is. same_rebuild c.args.text.now c.in-Some.base_and_number.0.now base
    c.in-Some.base_and_number.1 n (is_split c) is

pub returns-in-None-clause-found : goal.returns-in-None-clause-found
returns-in-None-clause-found c =
    let none : rebuild_at c.args.text.now ≡ None =
    sym c.rebuild.ensures ∙ ap (option_map (λ x. (x.0.now, x.1))) c.in-None.is in
    found_none c.args.text.now none

pub returns-in-None-clause-only : goal.returns-in-None-clause-only
returns-in-None-clause-only c =
    let none : rebuild_at c.args.text.now ≡ None =
    sym c.rebuild.ensures ∙ ap (option_map (λ x. (x.0.now, x.1))) c.in-None.is in
    λ base n is.
    same_rebuild c.args.text.now c.args.text.now base 0 n (found_none c.args.text.now none) is

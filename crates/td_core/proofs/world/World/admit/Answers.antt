-- `World::admit`: the clauses `ok` and `err`.
use Rattle.std.proofs.Common.{None, if◌then◌else◌, ap, sym, ◌∙◌}
use Rattle.std.specs.Prelude.{position}
use Rattle.td_rows.specs.Kinds.{cells}
use Rattle.td_core.specs.Refusals.{are_keys, is_missing, is_unfit, is_unpinned}
use Rattle.td_core.proofs.Refusing.{commit_refusal-missing, commit_refusal-unfit}
use Rattle.td_core.proofs.Refusing.{commit_refusal-unpinned, commit_refusal-none}
use Rattle.td_core.proofs.world.World.admit.Goals as goal

pub returns-in-Some-clause-err : goal.returns-in-Some-clause-err
returns-in-Some-clause-err c =
    commit_refusal-missing c.args.self.now c.args.kind.now c.args.keys
    (sym c.is_command.ensures ∙ c.if-not-is_command.false)
    (sym (c.are_keys.ensures ∙ ap are_keys c.as_slice.ensures) ∙ c.if-not-are_keys.false)
    c.in-Some.at c.into_key.result
    (c.in-Some.ensures
    ∙ (λ j. position (is_missing (c.rows.ensures.rows j)) (c.as_slice-2.ensures j)))
    c.into_key.ensures

pub returns-in-Some-first_unfit-clause-err : goal.returns-in-Some-first_unfit-clause-err
returns-in-Some-first_unfit-clause-err c =
    commit_refusal-unfit c.args.self.now c.args.kind.now c.args.keys
    (sym c.is_command.ensures ∙ c.if-not-is_command.false)
    (sym (c.are_keys.ensures ∙ ap are_keys c.as_slice.ensures) ∙ c.if-not-are_keys.false)
    (c.in_default.ensures
    ∙ (λ j. position (is_missing (c.rows.ensures.rows j)) (c.as_slice-2.ensures j)))
    c.in-Some-first_unfit.at c.into_key-in-Some-first_unfit.result
    (c.in-Some-first_unfit.ensures
    ∙ (λ j. position (is_unfit (c.rows-2.ensures.rows j) c.args.kind.now) (c.as_slice-3.ensures j)))
    c.into_key-in-Some-first_unfit.ensures

pub returns-in-Some-first_unpinned-clause-err : goal.returns-in-Some-first_unpinned-clause-err
returns-in-Some-first_unpinned-clause-err c =
    commit_refusal-unpinned c.args.self.now c.args.kind.now c.args.keys
    (sym c.is_command.ensures ∙ c.if-not-is_command.false)
    (sym (c.are_keys.ensures ∙ ap are_keys c.as_slice.ensures) ∙ c.if-not-are_keys.false)
    (c.in_default.ensures
    ∙ (λ j. position (is_missing (c.rows.ensures.rows j)) (c.as_slice-2.ensures j)))
    (c.in_default-first_unfit.ensures
    ∙ (λ j. position (is_unfit (c.rows-2.ensures.rows j) c.args.kind.now) (c.as_slice-3.ensures j)))
    c.in-Some-first_unpinned.at c.into_key-in-Some-first_unpinned.result
    (c.in-Some-first_unpinned.ensures
    ∙ (λ j. if (cells c.args.kind.now).state
    then position (is_unpinned c.args.self.now) (c.as_slice-4.ensures j) else None))
    c.into_key-in-Some-first_unpinned.ensures

pub returns-clause-ok : goal.returns-clause-ok
returns-clause-ok c =
    commit_refusal-none c.args.self.now c.args.kind.now c.args.keys
    (sym c.is_command.ensures ∙ c.if-not-is_command.false)
    (sym (c.are_keys.ensures ∙ ap are_keys c.as_slice.ensures) ∙ c.if-not-are_keys.false)
    (c.in_default.ensures
    ∙ (λ j. position (is_missing (c.rows.ensures.rows j)) (c.as_slice-2.ensures j)))
    (c.in_default-first_unfit.ensures
    ∙ (λ j. position (is_unfit (c.rows-2.ensures.rows j) c.args.kind.now) (c.as_slice-3.ensures j)))
    (c.in_default-first_unpinned.ensures
    ∙ (λ j. if (cells c.args.kind.now).state
    then position (is_unpinned c.args.self.now) (c.as_slice-4.ensures j) else None))

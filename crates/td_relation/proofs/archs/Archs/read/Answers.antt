-- `Archs::read`: its clauses, and its type's invariant.
use Rattle.std.proofs.Common.{◌≡◌, true, List, [], ◌∷◌, Err, map, refl, ap, inl, inr}
use Rattle.std.specs.List.{list_all, AllByRecursion}
use Rattle.std.proofs.lemmas.Bool.{and_parts, and_from}
use Rattle.std.proofs.lemmas.Result.{err_from_is_err_and}
use Rattle.td_text.specs.Lines.{lines_of}
use Rattle.td_text.specs.Words.{is_arch}
use Rattle.td_relation.specs.Arch.{ArchFits, words_of}
use Rattle.td_relation.specs.declared.arch.Arch.{Arch}
use Rattle.td_relation.specs.declared.archs.ArchsFault.{ArchsFault}
use Rattle.td_relation.proofs.ArchTexts.{IsTable-read, IsTable-one, IsTable-fails, FaultOf-read}
use Rattle.td_relation.proofs.ArchTexts.{refused-for, not-refused}
use Rattle.td_relation.proofs.FirstLines.{first_bad}
use Rattle.td_relation.proofs.archs.Archs.read.Goals as goal

pub returns-in_err-list-clause-only : goal.returns-in_err-list-clause-only
returns-in_err-list-clause-only c = λ t is.
    let p = err_from_is_err_and c.from_residual.result c.from_residual.ensures.1 in
    rw (
      p.1,
      p.2,
    ) (IsTable-fails (lines_of c.args.text.now) t c.in_err-list.field-0.0 is
    c.in_err-list.ensures.err)

pub returns-in_err-list-clause-fault : goal.returns-in_err-list-clause-fault
returns-in_err-list-clause-fault c =
    let p = err_from_is_err_and c.from_residual.result c.from_residual.ensures.1 in
    rw (p.1, p.2)
    (FaultOf-read (lines_of c.args.text.now) c.in_err-list.field-0.0 c.in_err-list.ensures.err)

pub returns-clause-found : goal.returns-clause-found
returns-clause-found c =
    IsTable-read (lines_of c.args.text.now) (map words_of c.in_ok-list.list.items)
    c.in_ok-list.ensures.ok

pub returns-clause-only : goal.returns-clause-only
returns-clause-only c =
    λ t is. IsTable-one (lines_of c.args.text.now) (map words_of c.in_ok-list.list.items) t
    c.in_ok-list.ensures.ok is

-- the names of architectures that fit are legal
legal : (list : List Arch) → AllByRecursion ArchFits (map words_of list)
    → list_all (λ (a : Arch). is_arch a.name.now) list ≡ true
legal [] fits = refl
legal (a ∷ list) fits =
    and_from (is_arch a.name.now) (list_all (λ (b : Arch). is_arch b.name.now) list)
    (and_parts (is_arch a.name.now) _ fits.0.name).0 (legal list fits.1)

pub invariant_of-result-clause-named : goal.invariant_of-result-clause-named
invariant_of-result-clause-named c =
    legal c.in_ok-list.list.items
    (IsTable-read (lines_of c.args.text.now) (map words_of c.in_ok-list.list.items)
    c.in_ok-list.ensures.ok).fits

pub invariant_of-result-clause-apart : goal.invariant_of-result-clause-apart
invariant_of-result-clause-apart c =
    (IsTable-read (lines_of c.args.text.now) (map words_of c.in_ok-list.list.items)
    c.in_ok-list.ensures.ok).fresh

pub returns-in_err-list-clause-refused : goal.returns-in_err-list-clause-refused
returns-in_err-list-clause-refused c = λ fault is.
    let p = err_from_is_err_and c.from_residual.result c.from_residual.ensures.1 in
    rw (
      p.1,
      p.2,
    ) (refused-for (lines_of c.args.text.now) fault c.in_err-list.field-0.0 is
    c.in_err-list.ensures.err)

pub returns-clause-refused : goal.returns-clause-refused
returns-clause-refused c =
    λ fault is. not-refused (lines_of c.args.text.now) (map words_of c.in_ok-list.list.items) fault
    c.in_ok-list.ensures.ok is

pub returns-in_err-list-clause-certain : goal.returns-in_err-list-clause-certain
returns-in_err-list-clause-certain c = λ fault f none.
    let p = err_from_is_err_and c.from_residual.result c.from_residual.ensures.1 in
    let first = first_bad (lines_of c.args.text.now) fault f none in
    rw (p.1, p.2) (elim (refused-for (lines_of c.args.text.now) fault c.in_err-list.field-0.0 f
    c.in_err-list.ensures.err) [
      | inl lacks ↦ absurd (c.in_err-list.ensures.certain f.line first.0 first.1 lacks)
      | inr same ↦ ap (λ (e : ArchsFault). Err e) same
    ])

pub returns-clause-certain : goal.returns-clause-certain
returns-clause-certain c =
    λ fault f none. absurd (not-refused (lines_of c.args.text.now)
    (map words_of c.in_ok-list.list.items) fault c.in_ok-list.ensures.ok f)

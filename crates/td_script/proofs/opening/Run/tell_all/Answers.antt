-- `Run::tell_all`: the call of `open_texts`, and its clauses.
use Rattle.std.proofs.Common.{refl, rules, sym, subst}
use Rattle.td_inputs.specs.Inputs.{AreReadable}
use Rattle.td_inputs.specs.Opened.{IsOpened, IsUnopened, MayFail}
use Rattle.td_script.specs.OpeningInside.{IsRefusedBy, Stops}
use Rattle.td_script.specs.Openings.{texts_lent}
use Rattle.td_script.proofs.WithoutJournal.{readable_stops, unopened_stops}
use Rattle.td_script.proofs.opening.Run.tell_all.Goals as goal

pub open_texts-told-requires : goal.open_texts-told-requires
open_texts-told-requires g c = λ k. (
  search rules,
  (
    (refl, tt),
    λ o is. (
      c.requires.answers,
      (subst (λ x. IsOpened x o) c.texts_in-texts.ensures is, search rules),
    ),
  ),
)

pub returns-in-Ok-clause-tells : goal.returns-in-Ok-clause-tells
returns-in-Ok-clause-tells g c = c.in-Ok.ensures.made.2.1.0

pub returns-in-Ok-clause-only : goal.returns-in-Ok-clause-only
returns-in-Ok-clause-only g c = c.in-Ok.ensures.made.2.1.1

pub returns-in-Err-clause-tells : goal.returns-in-Err-clause-tells
returns-in-Err-clause-tells g c =
    let x = texts_lent c.args.self.now.files in
    subst (IsRefusedBy x) (sym c.fault_of.ensures)
    (unopened_stops x c.in-Err.fault
    (subst (λ y. IsUnopened y c.in-Err.fault) c.texts_in-texts.ensures c.in-Err.ensures.refused))

pub returns-in-Err-clause-only : goal.returns-in-Err-clause-only
returns-in-Err-clause-only g c = λ readable.
    let x = texts_lent c.args.self.now.files in
    subst (Stops x) (sym c.fault_of.ensures)
    (readable_stops x c.in-Err.fault
    (subst (λ y. AreReadable y → MayFail y c.in-Err.fault) c.texts_in-texts.ensures
    c.in-Err.ensures.only) readable)

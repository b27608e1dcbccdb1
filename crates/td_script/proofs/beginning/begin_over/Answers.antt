-- `begin_over`: the clause `begun` and the call of `begin`.
use Rattle.std.proofs.Common.{◌∙◌}
use Rattle.std.proofs.lemmas.Result.{IfOk-weaker}
use Rattle.td_script.proofs.OpeningLaws.{fresh_supply, stock-opened}
use Rattle.td_script.proofs.beginning.begin_over.Goals as goal

pub begin-requires-clause-fresh_supply : goal.begin-requires-clause-fresh_supply
begin-requires-clause-fresh_supply c = fresh_supply _ _ c.in-Ok.ensures

pub returns-in-Ok-clause-begun : goal.returns-in-Ok-clause-begun
returns-in-Ok-clause-begun c =
    IfOk-weaker c.begin.result _ _
    (λ book is. record {
      begun = is.begun;
      table_is = is.table_is;
      stock_is = is.stock_is ∙ stock-opened _ _ c.in-Ok.ensures;
      builders_are = is.builders_are;
    })
    c.begin.ensures.begun

-- `ground_over`: what is known of a ground.
use Rattle.std.proofs.Common.{ℕ, List, Option, subst, sym}
use Rattle.std.proofs.lemmas.List.Elements.{All-from_recursion}
use Rattle.td_rows.specs.KeyText.{KeyFits}
use Rattle.td_rows.specs.Table.{keys_of}
use Rattle.td_indices.specs.Supplying.{supply_of}
use Rattle.td_inputs.specs.Inputs.{AreRowsOf}
use Rattle.td_ledger.specs.Lines.{IsLine}
use Rattle.td_script.proofs.OpeningLaws.{fresh_supply, stock-opened}
use Rattle.td_session.specs.Grounds.{texts_of}
use Rattle.td_session.proofs.HeaderLines.{header_is_line}
use Rattle.td_session.proofs.KeyNames.{keys_fit}
use Rattle.td_session.proofs.grounding.ground_over.Goals as goal

pub invariant_of-result : goal.invariant_of-result
invariant_of-result c =
    let x = texts_of c.args.texts.now in
    let archive = c.args.archive.now in
    let rows = c.in-Some.rows in
    record {
      line = subst IsLine (sym c.in-Ok.ensures) (header_is_line archive rows);
      idle = c.in-Some.ensures.idle;
      keys = All-from_recursion KeyFits (keys_of rows)
          (keys_fit x archive x.state rows c.requires
          (subst (λ (o : Option (List ℕ)). AreRowsOf archive o rows) c.given_text.ensures
          c.in-Some.ensures.rows));
      fresh = fresh_supply c.in-Ok-supply.supply (supply_of archive) c.in-Ok-supply.ensures;
    }

pub returns : goal.returns
returns c =
    record {
      rows = subst (λ (o : Option (List ℕ)). AreRowsOf c.args.archive.now o c.in-Some.rows)
          c.given_text.ensures c.in-Some.ensures.rows;
      stock = stock-opened c.in-Ok-supply.supply (supply_of c.args.archive.now)
          c.in-Ok-supply.ensures;
      header = c.in-Ok.ensures;
    }

-- The undo of commands that were played gives every row back.
use Rattle.std.proofs.Common.{◌≡◌, Bool, true, false, List, [], ◌∷◌, Option, refl, sym, ap, ◌∙◌}
use Rattle.std.specs.Prelude.{if◌then◌else◌, unwrap_or}
use Rattle.td_rows.specs.declared.key.Key.{Key}
use Rattle.td_rows.specs.declared.kind.Kind.{Kind}
use Rattle.td_rows.specs.declared.row.Row.{Row}
use Rattle.td_rows.specs.Blank.{blank}
use Rattle.td_rows.specs.Cells.{restore}
use Rattle.td_rows.specs.GivenBack.{given_back, row_at}
use Rattle.td_rows.specs.Keys.{ascending, names}
use Rattle.td_rows.specs.Kinds.{written}
use Rattle.td_rows.specs.Meaning.{means}
use Rattle.td_rows.specs.Table.{Table, applied, keys_of, meant}
use Rattle.td_rows.proofs.CellLaws.{restore-means}
use Rattle.td_rows.proofs.Tables.{each_row-agree, each_row-each_row, each_row-itself}
use Rattle.td_rows.proofs.Tables.{keys_of-each_row}
use Rattle.td_wbread.specs.Command.{CommandParts}
use Rattle.td_wbread.specs.Kinds.{kind_of}
use Rattle.td_plan.specs.PlayLaws.{ArePlayed, PlansAreUndone, all_undone, named_in, plan_commands}
use Rattle.td_plan.specs.PlayLaws.{rows_after, undone}
use Rattle.td_plan.specs.Premises.{Premises}

-- a row that a kind changed gets back what it was
row-back : (kind : Kind) (row : Row) (b : Bool)
    → (if b then restore (written kind) row (if b then means kind row else row)
    else (if b then means kind row else row)) ≡ row
row-back kind row true = restore-means kind row
row-back kind row false = refl

-- an entry of a kind, taken back at once
back : (kind : Kind) (keys : List Key) (t : Table) → ascending (keys_of t) ≡ true
    → given_back (written kind) keys t (applied kind keys t) ≡ t
back kind keys t up =
    each_row-each_row (meant kind keys) give t
    ∙ each_row-agree (λ k row. give k (meant kind keys k row)) (λ k row. row) t up
    (λ k row at.
    ap (λ (o : Option Row). if names keys k
    then restore (written kind) (unwrap_or o blank) (meant kind keys k row)
    else meant kind keys k row) at
    ∙ row-back kind row (names keys k))
    ∙ each_row-itself t
  where
    give : Key → Row → Row
    give k row = if names keys k then restore (written kind) (row_at t k) row else row

undo-all : (p : Premises) (cs : List CommandParts) (old new : Table)
    → ascending (keys_of old) ≡ true → ArePlayed p cs old new → all_undone cs old new ≡ old
undo-all p [] old new up played = sym played
undo-all p (c ∷ cs) old new up played =
    let after = rows_after c old in
    let rises : ascending (keys_of after) ≡ true =
    ap ascending (keys_of-each_row (meant (kind_of c) (named_in c old)) old) ∙ up in
    ap (undone c old) (undo-all p cs after new rises played.1)
    ∙ back (kind_of c) (named_in c old) old up

pub plans_are_undone : PlansAreUndone
plans_are_undone words p x new sound played =
    undo-all p (plan_commands words x p) p.rows new sound.rows.rising played

-- The settings by which lines are answered, as the code is lent them. This project's own.
use Rattle.std.specs.Prelude.{◌≡◌, ℕ, List, Option, IfSome, map, option_map}
use Rattle.std.specs.Borrow.{Bor}
use Rattle.atomic_table.specs.Seated.{TableId}
use Rattle.td_rows.specs.Table.{Table}
use Rattle.td_supply.specs.Supply.{Stock}
use Rattle.td_book.specs.Desk.{BookModel, Fixed}
use Rattle.td_script.specs.Replies.{Setting}

-- what is lent belongs to a book without builders: the board is the book's, and the reports fit it
pub record IsLentTo {R : Type 0} (Fits : R → Table → Fixed → Type 0) (table : TableId)
    (reports : Option (Bor R)) (book : BookModel) : Type 0 where
  pub board : table ≡ book.fixed.table
  pub alone : book.fixed.builders ≡ 0
  pub fits : IfSome reports (λ r. Fits r.now book.history.opening book.fixed)

-- the setting of these offers, with the suites and what makes the report, if there is one
abbrev pub setting_lent : {R : Type 0} → (R → Table → List ℕ) → Stock → List (Bor (List ℕ))
    → Option (Bor R) → Setting
setting_lent text stock suites reports =
    record {
      stock = stock;
      suites = map (λ s. s.now) suites;
      report = option_map (λ r. text r.now) reports;
    }

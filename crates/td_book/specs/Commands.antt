-- What a command does to a book. This project's own.
use Rattle.std.specs.Prelude.{◌≡◌, Bool, true, List, Result, filter, map}
use Rattle.td_rows.specs.declared.key.Key.{Key}
use Rattle.td_rows.specs.Keys.{ascending}
use Rattle.td_rows.specs.Table.{keys_of}
use Rattle.td_wbread.specs.Command.{CommandParts}
use Rattle.td_wbread.specs.Kinds.{kind_of}
use Rattle.td_core.specs.History.{rows_of}
use Rattle.td_core.specs.Offers.{supply_now}
use Rattle.td_book.specs.declared.commanding.Asked.{Asked}
use Rattle.td_book.specs.declared.commanding.CommandRefusal.{CommandRefusal}
use Rattle.td_book.specs.declared.commanding.Taken.{Taken}
use Rattle.td_book.specs.Calls.{IsCommanded}
use Rattle.td_book.specs.Desk.{BookModel}
use Rattle.td_naming.specs.Naming.{named_in, is_matched_at}
use Rattle.td_naming.specs.Skips.{doubt, skips_of}

-- the rows that a command names in a book
abbrev pub named_by : CommandParts → BookModel → List Key
named_by c b = named_in c (rows_of b.history)

-- whether the version of a row matches a command in a book
abbrev pub is_matched_in : CommandParts → BookModel → Key → Bool
is_matched_in c b = is_matched_at c (supply_now b.fixed.stock b.history) (rows_of b.history)

-- the entry is of the command's kind, on those of the rows that it names whose version matches and
-- on which the kind applies; the others are the skips
abbrev pub IsDone : CommandParts → BookModel → BookModel → Result Taken CommandRefusal → Type 0
IsDone c old new result =
    IsCommanded (kind_of c) (named_by c old) (filter (is_matched_in c old) (named_by c old))
    (skips_of (is_matched_in c old) (kind_of c) (named_by c old)) old new result

-- what is looked up for a command in a book
pub record IsAsked (c : CommandParts) (b : BookModel) (asked : Asked) : Type 0 where
  pub kind : asked.kind ≡ kind_of c
  pub named : asked.named.items ≡ named_by c b
  pub matched : asked.matched.items ≡ filter (is_matched_in c b) (named_by c b)
  pub doubts : asked.doubts.items ≡ map (doubt (is_matched_in c b)) (named_by c b)
  pub rising : ascending (keys_of (rows_of b.history)) ≡ true

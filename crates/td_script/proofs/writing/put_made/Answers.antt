-- `put_made`: what it leaves, whether or not there is room.
use Rattle.std.proofs.Common.{◌≡◌, ℕ, List, ◌++◌, Result, Ok, Err, OnOk, OnErr}
use Rattle.td_rows.specs.Appending.{Grown}
use Rattle.td_rows.proofs.Appends.{grown_by, grown_by_nothing}
use Rattle.td_script.proofs.writing.put_made.Goals as goal

grown_put : {E : Type 0} (old new piece : List ℕ) (put : Result (Unit {0}) E)
    → OnOk put (new ≡ old ++ piece) → OnErr put (new ≡ old) → Grown old new
grown_put old new piece (Ok u) is same = grown_by old new piece is
grown_put old new piece (Err e) is same = grown_by_nothing old new same

pub returns-clause-front : goal.returns-clause-front
returns-clause-front c =
    grown_put _ _ _ c.put_taken.result c.put_taken.ensures.ok c.put_taken.ensures.err
